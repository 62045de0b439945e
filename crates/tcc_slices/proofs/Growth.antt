-- A snapshot that continues another has it as a slice: each transaction is a part of itself.
use Rattle.std.proofs.Common.{ℕ, ◌≡◌, ◌<◌, ◌⊎◌, inl, inr, List, [], ◌∷◌, ◌++◌, filter_map, refl, sym, ap, subst, ◌∙◌, arith}
use Rattle.std.specs.List.{Contains, cons_option}
use Rattle.std.proofs.lemmas.Bool.{cases_order}
use Rattle.tcc_txn.specs.Snapshots.{Sessions}
use Rattle.tcc_txn.specs.Transactions.{Transaction}
use Rattle.tcc_txn.specs.declared.op.Op.{Op}
use Rattle.tcc_reads.specs.History.{History, count, owner, place}
use Rattle.tcc_reads.specs.Sites.{Stand, sites_from}
use Rattle.tcc_reads.specs.Sources.{visible_write, external_part, external_read, external_reads, history}
use Rattle.tcc_reads.specs.OneSource.{IsNumber}
use Rattle.tcc_reads.proofs.Rising.{by_session}
use Rattle.tcc_graph.specs.Relations.{IsSessionPair}
use Rattle.tcc_graph.proofs.Pairs.{PairParts, pair_parts}
use Rattle.tcc_slices.specs.Growth.{Grows, number_in}
use Rattle.tcc_slices.specs.Parts.{IsPart, IsSlice}
use Rattle.tcc_slices.proofs.Continued.{IsAlike}
use Rattle.tcc_slices.proofs.Numbered.{number_below, of_number, place_is}
use Rattle.tcc_slices.proofs.Meeting.{moved_zero, IsMoved, moves}
use Rattle.tcc_slices.proofs.Sliced.{same_names, same_owner}

-- ---- what depends on the operations alone

same_sites : (t u : Stand) (before ops : List Op) → filter_map external_read (sites_from u before ops) ≡ filter_map external_read (sites_from t before ops)
same_sites t u before [] = refl
same_sites t u before (op ∷ later) = ap (cons_option (external_part op (λ x. visible_write x before))) (same_sites t u (before ++ op ∷ []) later)

same_reads : (t u : Stand) → IsAlike t u → external_reads u ≡ external_reads t
same_reads t u alike = same_sites t u [] u.txn.ops ∙ ap (λ (z : Transaction). filter_map external_read (sites_from t [] z.ops)) alike.txn

part_of_alike : (t u : Stand) → IsAlike t u → IsPart t u
part_of_alike t u alike = record {
  name = alike.name;
  reads = λ read c. subst (λ (z : List (List ℕ × ℕ)). Contains z read) (sym (same_reads t u alike)) c;
  writes = λ x v is. ap (λ (z : Transaction). visible_write x z.ops) alike.txn ∙ is;
}

module _ (small large : Sessions) (grows : Grows small large) where
  abbrev h : History
  h = history small

  abbrev k : History
  k = history large

  abbrev f : ℕ → ℕ
  f = number_in small large

  parted : (n : ℕ) (t : Stand) → IsNumber small n t → (u : Stand) × IsNumber large (f n) u × IsPart t u
  parted n t is = let w = moves small large grows.limits grows.nested n t is in (w.there, w.number, part_of_alike t w.there w.alike)

  -- a transaction keeps its place
  at_place : (n : ℕ) → 0 < n → n < count h → (t : Stand) × IsNumber small n t × IsMoved small large n t × (place k (f n) ≡ place h n)
  at_place n some below =
      let t = of_number small n some below in
      let w = moves small large grows.limits grows.nested n t.0 t.1 in
      (t.0, t.1, w, place_is large (f n) w.there w.number ∙ w.alike.place ∙ sym (place_is small n t.0 t.1))

  rising : (m n : ℕ) → 0 < m → IsSessionPair h m n → f m < f n
  rising m n some p = go (cases_order (f m) (f n))
    where
      w : PairParts h m n
      w = pair_parts h m n p

      v : (t : Stand) × IsNumber small m t × IsMoved small large m t × (place k (f m) ≡ place h m)
      v = at_place m some w.from

      u : (t : Stand) × IsNumber small n t × IsMoved small large n t × (place k (f n) ≡ place h n)
      u = at_place n w.some w.to

      owners : owner k (f m) ≡ owner k (f n)
      owners =
          same_owner large (f m) (f n) v.2.there u.2.there v.2.number u.2.number
          (v.2.alike.name ∙ same_names small m n v.0 u.0 v.1 u.1 (w.same some) ∙ sym u.2.alike.name)

      lower : place k (f m) < place k (f n)
      lower = omega (arith, v.3, u.3, w.lower some)

      go : (f m ≡ f n) ⊎ ((f m < f n) ⊎ (f n < f m)) → f m < f n
      go (inl e) = let same : place k (f m) ≡ place k (f n) = ap (place k) e in absurd (omega (arith, same, lower))
      go (inr (inl less)) = less
      go (inr (inr less)) =
          let back = (by_session large (f n) (f m) less (number_below large (f m) v.2.there v.2.number)).1 (sym owners) in
          absurd (omega (arith, back, lower))

  pub grown : IsSlice (number_in small large) small large
  grown = record { before = grows.before; later = grows.later; initial = moved_zero small large; parts = parted; rises = rising }
