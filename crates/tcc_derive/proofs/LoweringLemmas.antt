-- Steps to the nearest readers, which one read after another lowers.
use Rattle.std.proofs.Common.{ℕ, ◌+◌, ◌<◌, ◌≤◌, ◌≡◌, ◌≢◌, ◌⊎◌, inl, inr, List, [], ◌∷◌, ◌++◌, length, get_or, set, take, flat_map, min}
use Rattle.std.proofs.Common.{refl, sym, ap, ◌∙◌, arith, ⊎_elim, zero, suc}
use Rattle.std.proofs.lemmas.Grind.{flat_map-append}
use Rattle.std.specs.List.{Contains}
use Rattle.std.proofs.lemmas.Bool.{cases_eq, cases_lt}
use Rattle.std.proofs.lemmas.List.{append-nil, get_or_default, get_or-set_same, get_or-set_other, length-set}
use Rattle.std.proofs.lemmas.List.Elements.{Contains-append_left, Contains-append_right, Contains-append_cases}
use Rattle.tcc_derive.specs.private.Buckets.{bucket}
use Rattle.tcc_derive.specs.private.Lowering.{Lowers}
use Rattle.tcc_derive.proofs.BucketLemmas.{taken}
use Rattle.tcc_derive.specs.declared.read.Read.{Read}

pub lowers_none : (steps old : List ℕ) → Lowers [] steps old old
lowers_none steps old = record {
  long = refl;
  kept = λ a. omega arith;
  lowered = λ r (k, l, e). absurd (omega arith);
  from = λ a. inl refl;
}

alone : (r s : Read) → Contains (r ∷ []) s → s ≡ r
alone r s (zero, l, e) = sym e
alone r s (suc k, l, e) = absurd (omega arith)

module _ (steps : List ℕ) where
  pub lowers_then : (xs ys : List Read) (old mid new : List ℕ) → Lowers xs steps old mid → Lowers ys steps mid new → Lowers (xs ++ ys) steps old new
  lowers_then xs ys old mid new first second = record {
    long = second.long ∙ first.long;
    kept = λ a. let one = first.kept a in let two = second.kept a in omega arith;
    lowered = λ r there. ⊎_elim
        (λ left. let one = first.lowered r left in let two = second.kept r.source in omega arith)
        (λ right. second.lowered r right)
        (Contains-append_cases xs ys r there);
    from = λ a. ⊎_elim
        (λ e. ⊎_elim (λ e'. inl (e ∙ e')) (λ w. inr (w.0, Contains-append_left xs ys w.0 w.1, w.2, e ∙ w.3)) (first.from a))
        (λ w. inr (w.0, Contains-append_right xs ys w.0 w.1, w.2, w.3))
        (second.from a);
  }

  -- the reads of one more key
  pub lowers_next : (reads : List (List Read)) (written : List ℕ) (n : ℕ) (old mid new : List ℕ) → n < length written
      → Lowers (flat_map (bucket reads) (take n written)) steps old mid → Lowers (bucket reads (get_or written n 0)) steps mid new
      → Lowers (flat_map (bucket reads) (take (n + 1) written)) steps old new
  lowers_next reads written n old mid new within first second =
      rw more (lowers_then (flat_map (bucket reads) (take n written)) (bucket reads k) old mid new first second)
    where
      k : ℕ
      k = get_or written n 0

      more : flat_map (bucket reads) (take (n + 1) written) ≡ flat_map (bucket reads) (take n written) ++ bucket reads (get_or written n 0)
      more =
          ap (flat_map (bucket reads)) (taken written n k within (get_or_default written n 0 k within))
          ∙ flat_map-append (bucket reads) (take n written) (k ∷ []) ∙ ap (λ rest. flat_map (bucket reads) (take n written) ++ rest) (append-nil (bucket reads k))

  module _ (r : Read) (old new : List ℕ) (inside : r.source < length old)
      (now : new ≡ set old r.source (min (get_or old r.source 0) (get_or steps r.reader 0))) where
    here : get_or new r.source 0 ≡ min (get_or old r.source 0) (get_or steps r.reader 0)
    here = rw now (get_or-set_same old r.source (min (get_or old r.source 0) (get_or steps r.reader 0)) 0 inside)

    elsewhere : (a : ℕ) → a ≢ r.source → get_or new a 0 ≡ get_or old a 0
    elsewhere a ne = rw now (get_or-set_other old r.source a (min (get_or old r.source 0) (get_or steps r.reader 0)) 0 ne)

    no_more : (a : ℕ) → (a ≡ r.source) ⊎ (a ≡ r.source → ⊥) → get_or new a 0 ≤ get_or old a 0
    no_more a (inl same) = rw same (omega (arith, here))
    no_more a (inr ne) = rw (elsewhere a ne) (omega arith)

    steps_there : get_or new r.source 0 ≤ get_or steps r.reader 0
    steps_there = omega (arith, here)

    least : (get_or steps r.reader 0 < get_or old r.source 0) ⊎ (get_or old r.source 0 ≤ get_or steps r.reader 0)
        → (get_or new r.source 0 ≡ get_or old r.source 0)
        ⊎ ((s : Read) × Contains (r ∷ []) s × (s.source ≡ r.source) × (get_or new r.source 0 ≡ get_or steps s.reader 0))
    least (inl low) = inr (r, (0, omega arith, refl), refl, omega (arith, here))
    least (inr high) = inl (omega (arith, here))

    comes : (a : ℕ) → (a ≡ r.source) ⊎ (a ≡ r.source → ⊥) → (get_or new a 0 ≡ get_or old a 0)
        ⊎ ((s : Read) × Contains (r ∷ []) s × (s.source ≡ a) × (get_or new a 0 ≡ get_or steps s.reader 0))
    comes a (inr ne) = inl (elsewhere a ne)
    comes a (inl same) = rw same (least (cases_lt (get_or steps r.reader 0) (get_or old r.source 0)))

    pub lowers_one : Lowers (r ∷ []) steps old new
    lowers_one = record {
      long = rw now (length-set old r.source (min (get_or old r.source 0) (get_or steps r.reader 0)));
      kept = λ a. no_more a (cases_eq a r.source);
      lowered = λ s there. rw (alone r s there) steps_there;
      from = λ a. comes a (cases_eq a r.source);
    }
