-- A slice of a snapshot keeps its pairs, and so its links and cycles.
use Rattle.std.proofs.Common.{ℕ, zero, suc, ◌≡◌, ◌<◌, ◌==◌, ◌⊎◌, inl, inr, true, List, [], map, filter, get_or, refl, sym, ap, subst, ◌∙◌, arith}
use Rattle.std.specs.List.{Contains}
use Rattle.std.specs.FinMap.{entries}
use Rattle.std.proofs.lemmas.Bool.{cases_eq, cases_order, eqb-true, eq-eqb}
use Rattle.tcc_txn.specs.Snapshots.{Sessions}
use Rattle.tcc_txn.proofs.Lists.{in_filter, from_filter, in_map, from_map}
use Rattle.tcc_reads.specs.History.{Entry, History, count, entry_at, owner}
use Rattle.tcc_reads.specs.Sites.{Stand, stands}
use Rattle.tcc_reads.specs.Sources.{external_reads, source, pair_cmp, history}
use Rattle.tcc_reads.specs.OneSource.{IsNumber, HasOneSource}
use Rattle.tcc_reads.proofs.OneSource.{one_source}
use Rattle.tcc_reads.proofs.Rising.{by_session}
use Rattle.tcc_graph.specs.Relations.{IsSessionPair, IsReadsPair, reads_from}
use Rattle.tcc_graph.specs.Keys.{has_name}
use Rattle.tcc_graph.proofs.Pairs.{lower_first, pair_parts}
use Rattle.tcc_slices.specs.Parts.{IsPart, IsSlice}
use Rattle.tcc_slices.proofs.Elements.{once_in, once_from, reads_apart}
use Rattle.tcc_slices.proofs.Placed.{session_named, same_session}
use Rattle.tcc_slices.proofs.Numbered.{number_some, number_below, number_stands, of_number, entry_is, owner_is}
use Rattle.tcc_slices.proofs.Written.{written_value, value_written, shown, shows_it}
use Rattle.tcc_graph.proofs.Kept.{IsKept}

-- an external read, by its source
abbrev with_source : List Stand → List ℕ × ℕ → List ℕ × ℕ
with_source all r = (r.0, source all r.0 r.1)

-- transactions of one session have one name, and of one name one session
pub same_names : (s : Sessions) (a b : ℕ) (t u : Stand) → IsNumber s a t → IsNumber s b u → owner (history s) a ≡ owner (history s) b → t.name ≡ u.name
same_names s a b t u is also same =
    sym (session_named s t (number_stands s a t is).0)
    ∙ ap (λ (z : ℕ). get_or (map (λ named. named.0) (entries s)) z []) (sym (owner_is s a t is) ∙ same ∙ owner_is s b u also)
    ∙ session_named s u (number_stands s b u also).0

pub same_owner : (s : Sessions) (a b : ℕ) (t u : Stand) → IsNumber s a t → IsNumber s b u → t.name ≡ u.name → owner (history s) a ≡ owner (history s) b
same_owner s a b t u is also named =
    owner_is s a t is ∙ same_session s t u (number_stands s a t is).0 (number_stands s b u also).0 named ∙ sym (owner_is s b u also)

module _ (f : ℕ → ℕ) (small large : Sessions) (slice : IsSlice f small large) where
  abbrev h : History
  h = history small

  abbrev k : History
  k = history large

  -- ---- sources

  -- the source of a read in the whole is the one that it has in the slice
  source_moved : (b : ℕ) (t : Stand) (x : List ℕ) (v : ℕ) → IsNumber small b t → Contains (external_reads t) (x, v)
      → f (source (stands small) x v) ≡ source (stands large) x v
  source_moved b t x v is reads = go (cases_eq v 0)
    where
      w : (u : Stand) × IsNumber large (f b) u × IsPart t u
      w = slice.parts b t is

      here : HasOneSource small b x v
      here = one_source small slice.before b x v (t, is, reads)

      there : HasOneSource large (f b) x v
      there = one_source large slice.later (f b) x v (w.0, w.1, w.2.reads (x, v) reads)

      go : (v ≡ 0) ⊎ (v ≡ 0 → ⊥) → f (source (stands small) x v) ≡ source (stands large) x v
      go (inl nought) = ap f (here.initial nought) ∙ slice.initial ∙ sym (there.initial nought)
      go (inr some) =
          let g = here.given some in
          let m = slice.parts (source (stands small) x v) g.0 g.1 in
          there.only some (f (source (stands small) x v)) (m.0, m.1, shows_it x v m.0 (m.2.writes x v (shown x v g.0 g.2)))

  -- ---- pairs

  moved_read : (a b : ℕ) (t : Stand) (x : List ℕ) → IsNumber small b t → Contains (reads_from h a b) x → Contains (reads_from k (f a) (f b)) x
  moved_read a b t x is c =
      subst (λ (z : List ℕ). Contains (reads_from k (f a) (f b)) z) key_is
      (in_map (λ read. read.0) (filter (λ read. read.1 == f a) (entry_at k (f b)).reads) q' in_k)
    where
      w : (u : Stand) × IsNumber large (f b) u × IsPart t u
      w = slice.parts b t is

      -- the pair of key and source
      r : (p : List ℕ × ℕ) × Contains (filter (λ read. read.1 == a) (entry_at h b).reads) p × (p.0 ≡ x)
      r = from_map (λ read. read.0) (filter (λ read. read.1 == a) (entry_at h b).reads) x c

      kept : Contains (entry_at h b).reads r.0 × ((r.0.1 == a) ≡ true)
      kept = from_filter (λ read. read.1 == a) (entry_at h b).reads r.0 r.1

      -- the read that it comes from, as key and value
      q : (p : List ℕ × ℕ) × Contains (external_reads t) p × (with_source (stands small) p ≡ r.0)
      q =
          from_map (with_source (stands small)) (external_reads t) r.0
          (once_from pair_cmp (map (with_source (stands small)) (external_reads t)) r.0
          (subst (λ (e : Entry). Contains e.reads r.0) (entry_is small b t is) kept.0))

      q' : List ℕ × ℕ
      q' = (q.0.0, source (stands large) q.0.0 q.0.1)

      key_is : q.0.0 ≡ x
      key_is = ap (λ (p : List ℕ × ℕ). p.0) q.2 ∙ r.2

      source_is : source (stands large) q.0.0 q.0.1 ≡ f a
      source_is = sym (source_moved b t q.0.0 q.0.1 is q.1) ∙ ap f (ap (λ (p : List ℕ × ℕ). p.1) q.2 ∙ eqb-true r.0.1 a kept.1)

      in_k : Contains (filter (λ read. read.1 == f a) (entry_at k (f b)).reads) q'
      in_k =
          in_filter (λ read. read.1 == f a) (entry_at k (f b)).reads q'
          (subst (λ (e : Entry). Contains e.reads q') (sym (entry_is large (f b) w.0 w.1))
          (once_in pair_cmp reads_apart (map (with_source (stands large)) (external_reads w.0)) q'
          (in_map (with_source (stands large)) (external_reads w.0) q.0 (w.2.reads q.0 q.1))))
          (eq-eqb (source (stands large) q.0.0 q.0.1) (f a) source_is)

  f_below : (n : ℕ) → n < count h → f n < count k
  f_below zero below = subst (λ (z : ℕ). z < count k) (sym slice.initial) (omega arith)
  f_below (suc i) below =
      let t = of_number small (suc i) (omega arith) below in
      let w = slice.parts (suc i) t.0 t.1 in
      number_below large (f (suc i)) w.0 w.1

  reads_moved : (a b : ℕ) (x : List ℕ) → IsReadsPair h a b x → IsReadsPair k (f a) (f b) x
  reads_moved a zero x p = let inside = p.2.1 in absurd (omega (arith, inside))
  reads_moved a (suc i) x p =
      let t = of_number small (suc i) (omega arith) p.1 in
      (f_below a p.0, f_below (suc i) p.1, moved_read a (suc i) t.0 x t.1 p.2)

  -- ---- all that is kept

  -- a transaction, and the one that it is a part of
  abbrev At : ℕ → Type 0
  At n = (t : Stand) × IsNumber small n t × ((u : Stand) × IsNumber large (f n) u × IsPart t u)

  at : (n : ℕ) → 0 < n → n < count h → At n
  at n some below = let t = of_number small n some below in (t.0, t.1, slice.parts n t.0 t.1)

  f_some : (n : ℕ) → 0 < n → n < count h → 0 < f n
  f_some n some below = let w = at n some below in number_some large (f n) w.2.0 w.2.1

  f_owners : (a b : ℕ) → 0 < a → a < count h → 0 < b → b < count h → owner h a ≡ owner h b → owner k (f a) ≡ owner k (f b)
  f_owners a b some low more high same =
      let v = at a some low in
      let w = at b more high in
      same_owner large (f a) (f b) v.2.0 w.2.0 v.2.1 w.2.1 (v.2.2.name ∙ same_names small a b v.0 w.0 v.1 w.1 same ∙ sym w.2.2.name)

  -- numbers of one session go to numbers of one session, and rise
  f_session : (a b : ℕ) → 0 < a → IsSessionPair h a b → IsSessionPair k (f a) (f b)
  f_session a b some p =
      let w = pair_parts h a b p in
      let owners = f_owners a b some w.from w.some w.to (w.same some) in
      lower_first k (f a) (f b) (f_some a some w.from) (f_below a w.from) (f_some b w.some w.to) (f_below b w.to) owners
      ((by_session large (f a) (f b) (slice.rises a b some p) (f_below b w.to)).1 owners)

  -- two numbers that go to one would be of one session, and one of them lower
  back_owners : (a b : ℕ) → 0 < a → a < count h → 0 < b → b < count h → f a ≡ f b → owner h a ≡ owner h b
  back_owners a b some low more high same =
      let v = at a some low in
      let w = at b more high in
      same_owner small a b v.0 w.0 v.1 w.1
      (sym v.2.2.name ∙ same_names large (f a) (f b) v.2.0 w.2.0 v.2.1 w.2.1 (ap (owner k) same) ∙ w.2.2.name)

  apart : (a b : ℕ) → 0 < a → a < b → b < count h → f a ≡ f b → ⊥
  apart a b some less high same =
      let low : a < count h = omega (arith, less, high) in
      let more : 0 < b = omega (arith, less) in
      let owners = back_owners a b some low more high same in
      let up = slice.rises a b some (lower_first h a b some low more high owners ((by_session small a b less high).1 owners)) in
      omega (arith, up, same)

  f_once : (a b : ℕ) → a < count h → b < count h → f a ≡ f b → a ≡ b
  f_once zero zero low high same = refl
  f_once zero (suc i) low high same = let more = f_some (suc i) (omega arith) high in absurd (omega (arith, more, same, slice.initial))
  f_once (suc i) zero low high same = let more = f_some (suc i) (omega arith) low in absurd (omega (arith, more, same, slice.initial))
  f_once (suc i) (suc j) low high same = go (cases_order (suc i) (suc j))
    where
      go : (suc i ≡ suc j) ⊎ ((suc i < suc j) ⊎ (suc j < suc i)) → suc i ≡ suc j
      go (inl e) = e
      go (inr (inl less)) = absurd (apart (suc i) (suc j) (omega arith) less high same)
      go (inr (inr less)) = absurd (apart (suc j) (suc i) (omega arith) less low (sym same))

  f_written : (n : ℕ) (x : List ℕ) → 0 < n → n < count h → has_name (entry_at h n).writes x ≡ true → has_name (entry_at k (f n)).writes x ≡ true
  f_written n x some below writes =
      let w = at n some below in
      let v = written_value w.0 x (sym (ap (λ (e : Entry). has_name e.writes x) (entry_is small n w.0 w.1)) ∙ writes) in
      ap (λ (e : Entry). has_name e.writes x) (entry_is large (f n) w.2.0 w.2.1) ∙ value_written w.2.0 x v.0 (w.2.2.writes x v.0 v.1)

  pub sliced : IsKept h k f
  sliced = record {
    first = slice.initial;
    some = f_some;
    below = f_below;
    once = f_once;
    session = f_session;
    written = f_written;
    read = reads_moved;
  }
