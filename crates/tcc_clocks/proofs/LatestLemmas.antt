-- Rows along an order, by the transactions right before each one.
use Rattle.std.proofs.Common.{◌≡◌, ◌≢◌, ◌<◌, ℕ, List, [], ◌∷◌, map, length, get_or, take, refl, sym, ap, ◌∙◌, subst, arith}
use Rattle.std.specs.List.{All, Contains}
use Rattle.std.proofs.lemmas.Bool.{eq-eqb, ne_eqb}
use Rattle.std.proofs.lemmas.List.Elements.{All-weaker, All-map}
use Rattle.tcc_reads.specs.History.{History, IsBySession, count, entry_at}
use Rattle.tcc_graph.specs.Keys.{keys, key_at}
use Rattle.tcc_graph.specs.Orders.{IsNumbering}
use Rattle.tcc_graph.specs.Tables.{row_of}
use Rattle.tcc_graph.proofs.Numberings.{below_in}
use Rattle.tcc_clocks.specs.Parents.{HasSourcesAt, parents, sources, previous, previous_one}
use Rattle.tcc_clocks.specs.Clocks.{IsBefore, AreLatestOf, LeadsOnward}
use Rattle.tcc_clocks.specs.private.Rows.{HasEntries, IsUpTo}
use Rattle.tcc_clocks.specs.declared.side.Side.TheVariants.{Past}
use Rattle.tcc_clocks.proofs.Along.{parents_below, parents_have}
use Rattle.tcc_clocks.proofs.RowLemmas.{entries_same}
use Rattle.tcc_clocks.proofs.UpTo.{up_to_parents}

-- ---- the order
module _ (h : History) (numbered : IsBySession h.entries) (from : ℕ) (order : List ℕ) (i : ℕ) (table : List (List ℕ)) (numbering : IsNumbering (count h) order)
    (onward : LeadsOnward h order) (inside : i < length order) (all : HasSourcesAt h (get_or order i 0)) (done : HasEntries Past h from (Contains (take i order)) table) where
  abbrev c : ℕ
  c = get_or order i 0

  pub all_below : All (λ p. p < count h) (parents h c)
  all_below = parents_below h numbered c (below_in numbering i inside) all

  pub all_done : All (λ p. AreLatestOf h (IsBefore h p) from (row_of table p)) (parents h c)
  all_done = parents_have h numbered (λ p row. AreLatestOf h (IsBefore h p) from row) order i table numbering onward inside all done.each

  pub row_done : (row : List ℕ) → AreLatestOf h (IsUpTo h (Contains (parents h c))) from row → AreLatestOf h (IsBefore h c) from row
  row_done row made = entries_same Past h (IsUpTo h (Contains (parents h c))) (IsBefore h c) from row (up_to_parents h numbered c (below_in numbering i inside) all) made

-- ---- parents, by the indices of keys
second_of : (f : ℕ → List ℕ) (reads : List (ℕ × ℕ)) → map (λ (r : List ℕ × ℕ). r.1) (map (λ (r : ℕ × ℕ). (f r.0, r.1)) reads) ≡ map (λ (r : ℕ × ℕ). r.1) reads
second_of f [] = refl
second_of f (r ∷ reads) = ap (λ z. r.1 ∷ z) (second_of f reads)

pub sources_of_reads : (h : History) (c : ℕ) (reads : List (ℕ × ℕ)) → map (λ read. (key_at h read.0, read.1)) reads ≡ (entry_at h c).reads
    → map (λ read. read.1) reads ≡ sources h c
sources_of_reads h c reads value = sym (second_of (key_at h) reads) ∙ ap (λ (z : List (List ℕ × ℕ)). map (λ (r : List ℕ × ℕ). r.1) z) value

pub sources_inside : (h : History) (c : ℕ) (reads : List (ℕ × ℕ)) → map (λ read. (key_at h read.0, read.1)) reads ≡ (entry_at h c).reads
    → All (λ read. (read.0 < length (keys h)) × (read.1 < count h)) reads → HasSourcesAt h c
sources_inside h c reads value within =
    subst (λ (z : List (List ℕ × ℕ)). All (λ read. read.1 < count h) z) value
    (All-map (λ (read : List ℕ × ℕ). read.1 < count h) (λ (read : ℕ × ℕ). (key_at h read.0, read.1)) reads
    (All-weaker (λ (read : ℕ × ℕ). (read.0 < length (keys h)) × (read.1 < count h)) (λ read. read.1 < count h) (λ read w. w.1) reads within))

pub session_some : (h : History) (c : ℕ) → 0 < c → previous_one h c ≡ previous h c ∷ []
session_some h c some = let other : c ≢ 0 = omega arith in rw (ne_eqb c 0 other) refl

pub session_none : (h : History) (c : ℕ) → c ≡ 0 → previous_one h c ≡ []
session_none h c none = rw (eq-eqb c 0 none) refl
