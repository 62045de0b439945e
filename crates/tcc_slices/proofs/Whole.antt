-- The cut of a resolved snapshot by links of its history is a slice of it: its pairs are kept.
use Rattle.std.proofs.Common.{ℕ, zero, suc, ◌≡◌, ◌<◌, ◌+◌, ◌==◌, ◌⊎◌, inl, inr, true, List, length, sym, ap, subst, arith}
use Rattle.std.specs.Prelude.{slice_index, slice_index_or}
use Rattle.std.proofs.lemmas.Bool.{cases_order, false≢true, or_right}
use Rattle.std.proofs.lemmas.List.{length-map}
use Rattle.tcc_txn.specs.Snapshots.{Sessions}
use Rattle.tcc_reads.specs.History.{count, entry_at, place}
use Rattle.tcc_reads.specs.OneSource.{IsNumber}
use Rattle.tcc_reads.specs.Sites.{Stand, committed, is_committed, stands}
use Rattle.tcc_reads.specs.Sources.{entry_of, history}
use Rattle.tcc_graph.specs.Keys.{IsWriter, has_name}
use Rattle.tcc_graph.specs.Relations.{IsSessionPair}
use Rattle.tcc_graph.specs.declared.link.Link.{Link}
use Rattle.tcc_graph.proofs.Kept.{IsKept, kept_session}
use Rattle.tcc_graph.proofs.Pairs.{pair_parts}
use Rattle.tcc_reads.proofs.Rising.{by_session}
use Rattle.tcc_slices.specs.Parts.{IsPart, IsSlice}
use Rattle.tcc_slices.specs.private.Carrying.{carry, Keeps}
use Rattle.tcc_slices.specs.private.Fitting.{IsFit}
use Rattle.tcc_slices.specs.declared.needs.Need.{Need}
use Rattle.tcc_slices.proofs.Faultless.{IsAt, at_index, faultless}
use Rattle.tcc_slices.proofs.PartsOf.{is_part}
use Rattle.tcc_slices.proofs.Ranging.{all_pass}
use Rattle.tcc_slices.proofs.Sliced.{sliced}

module _ (s slice : Sessions) (links : List Link) (needs : List (ℕ × Need)) (numbers : List ℕ) (fit : IsFit s slice links needs numbers) where
  ended : committed (stands slice) ≡ stands slice
  ended = all_pass is_committed (stands slice) (λ i d inside. (fit.cut.each i d inside).part.ended)

  -- there are as many numbers as transactions of the slice
  pub long : length numbers ≡ count (history slice)
  long =
      omega (arith, fit.cut.long, ap length ended, length-map (committed (stands slice)) (entry_of (stands slice)))

  -- the part of a number, by its index
  at_number : (n : ℕ) (t : Stand) → IsNumber slice n t → (i : ℕ) × (n ≡ i + 1) × IsAt s slice links needs numbers fit i t
  at_number n t (i, inside, number, here) =
      let below : i < length (stands slice) = subst (λ (z : List Stand). i < length z) ended inside in
      let is : slice_index_or (stands slice) i t ≡ t = subst (λ (z : List Stand). slice_index_or z i t ≡ t) ended here in
      (i, number, at_index s slice links needs numbers fit i t below is)

  rises : (m n : ℕ) → 0 < m → IsSessionPair (history slice) m n → carry numbers m < carry numbers n
  rises m n some pair = go (cases_order m n)
    where
      go : (m ≡ n) ⊎ ((m < n) ⊎ (n < m)) → carry numbers m < carry numbers n
      go (inl same) =
          absurd (omega (arith, (pair_parts (history slice) m n pair).lower some, ap (place (history slice)) same))
      go (inr (inl low)) = fit.rising m n low (omega (arith, (pair_parts (history slice) m n pair).to, long))
      go (inr (inr high)) =
          absurd (omega (
            arith,
            (pair_parts (history slice) m n pair).lower some,
            (by_session slice n m high (pair_parts (history slice) m n pair).from).1 (sym ((pair_parts (history slice) m n pair).same some)),
          ))

  pub is_slice : IsSlice (carry numbers) slice s
  is_slice = record {
    before = faultless s slice links needs numbers fit;
    later = fit.none;
    initial = fit.first;
    parts = parts;
    rises = rises;
  }
    where
      parts : (n : ℕ) (t : Stand) → IsNumber slice n t → (u : Stand) × IsNumber s (carry numbers n) u × IsPart t u
      parts n t is =
          let w = at_number n t is in (
            w.2.whole,
            subst (λ (z : ℕ). IsNumber s (carry numbers z) w.2.whole) (sym w.1) w.2.of.is,
            is_part s needs (slice_index numbers (w.0 + 1)) t w.2.whole w.2.of,
          )

  kept : IsKept (history slice) (history s) (carry numbers)
  kept = sliced (carry numbers) slice s is_slice

  pub keeps : (a : ℕ) → a < count (history slice) → Keeps numbers (history slice) (history s) a
  keeps a inside = ((λ c x pair. kept.read a c x pair), (λ b pair. kept_session (history slice) (history s) (carry numbers) kept a b pair), writes a inside)
    where
      writes : (b : ℕ) → b < count (history slice) → (x : List ℕ) → has_name (entry_at (history slice) b).writes x ≡ true → IsWriter (history s) (carry numbers b) x
      writes zero below x is = absurd (false≢true is)
      writes (suc b) below x is = (
        kept.below (suc b) below,
        or_right (carry numbers (suc b) == 0) (has_name (entry_at (history s) (carry numbers (suc b))).writes x) (kept.written (suc b) x (omega arith) below is),
      )
