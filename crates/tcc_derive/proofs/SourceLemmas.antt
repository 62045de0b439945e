-- Rows of marks of the sources of reads.
use Rattle.std.proofs.Common.{◌≡◌, ◌<◌, ◌↔◌, ◌⊎◌, ℕ, inl, inr, true, List, [], ◌∷◌, ◌++◌, length, get_or, set, sym, ◌∙◌, ap, arith, subst}
use Rattle.std.specs.Prelude.{All, Contains}
use Rattle.std.proofs.lemmas.List.Elements.{Contains-get_or, Contains-append_left, Contains-push, Contains-push_cases}
use Rattle.tcc_bits.specs.Bits.{is_marked, words_for}
use Rattle.tcc_bits.proofs.Lists.{nothing_in}
use Rattle.tcc_derive.specs.private.Buckets.{bucket, Puts}
use Rattle.tcc_derive.specs.private.Sources.{AreByReader, AreSources}
use Rattle.tcc_derive.specs.declared.read.Read.{Read}
use Rattle.tcc_derive.proofs.BucketLemmas.{puts_push}

-- a fact of all is a fact of each
pub of_all : {X : Type 0} (P : X → Type 0) (xs : List X) (x : X) → All P xs → Contains xs x → P x
of_all P xs x all (k, l, e) = subst P e (all k x l)

pub by_reader_none : (n : ℕ) (rows : List (List ℕ)) → length rows ≡ n → All (λ (b : List ℕ). b ≡ []) rows → AreByReader n [] rows
by_reader_none n rows long empty = record {
  long = long;
  each = λ c a below. (
    λ h. absurd (nothing_in a (subst (λ (xs : List ℕ). Contains xs a) (empty c [] (omega (arith, long))) h)),
    λ h. absurd (nothing_in (record { source = a; reader = c }) h),
  );
}

pub by_reader_more : (n : ℕ) (xs : List Read) (r : Read) (mid new : List (List ℕ)) (held : List ℕ) → AreByReader n xs mid → r.reader < n
    → new ≡ set mid r.reader (get_or mid r.reader held ++ r.source ∷ []) → AreByReader n (xs ++ r ∷ []) new
by_reader_more n xs r mid new held before below is = record {
  long = puts.long ∙ before.long;
  each = λ c a low. (λ h. there c a low (puts.only c a h), λ h. back c a low (Contains-push_cases xs r (record { source = a; reader = c }) h));
}
  where
    puts : Puts mid new (λ i. i ≡ r.reader) r.source
    puts = puts_push mid new r.reader r.source held (omega (arith, before.long, below)) is

    there : (c a : ℕ) → c < n → Contains (bucket mid c) a ⊎ ((c ≡ r.reader) × (a ≡ r.source)) → Contains (xs ++ r ∷ []) (record { source = a; reader = c })
    there c a low (inl was) = Contains-append_left xs (r ∷ []) (record { source = a; reader = c }) ((before.each c a low).0 was)
    there c a low (inr (at, e)) = rw (at, e) (Contains-push xs r)

    back : (c a : ℕ) → c < n → Contains xs (record { source = a; reader = c }) ⊎ (r ≡ record { source = a; reader = c }) → Contains (bucket new c) a
    back c a low (inl was) = puts.kept c a ((before.each c a low).1 was)
    back c a low (inr same) =
        let at : r.reader ≡ c = ap (λ (x : Read). x.reader) same in
        let e : r.source ≡ a = ap (λ (x : Read). x.source) same in
        subst (λ (x : ℕ). Contains (bucket new c) x) e (puts.put c (omega (arith, before.long, low)) (sym at))

pub by_reader_below : (n : ℕ) (reads : List Read) (rows : List (List ℕ)) (c : ℕ) → AreByReader n reads rows → All (λ (r : Read). r.source < n) reads → c < n
    → All (λ (a : ℕ). a < n) (bucket rows c)
by_reader_below n reads rows c is below low k d l =
    let a = get_or (bucket rows c) k d in
    of_all (λ (r : Read). r.source < n) reads (record { source = a; reader = c }) below ((is.each c a low).0 (Contains-get_or (bucket rows c) k d l))

-- a row in which these are marked
pub record IsRowFor (n : ℕ) (numbers : List ℕ) (row : List ℕ) : Type 0 where
  pub wide : length row ≡ words_for n
  pub each : (a : ℕ) → (is_marked row a ≡ true) ↔ Contains numbers a

pub sources_from : (n : ℕ) (reads : List Read) (buckets rows : List (List ℕ)) → AreByReader n reads buckets → length rows ≡ n
    → ((c : ℕ) (d : List ℕ) → c < n → IsRowFor n (bucket buckets c) (get_or rows c d)) → AreSources n reads rows
sources_from n reads buckets rows is long each = record {
  long = long;
  wide = λ c low. (each c [] low).wide;
  each = λ c a low.
      let row = each c [] low in
      (λ mark. (is.each c a low).0 ((row.each a).0 mark), λ there. (row.each a).1 ((is.each c a low).1 there));
}
