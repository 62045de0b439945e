-- The bytes between two positions of a buffer, after a read into what follows them or a move of the first.
use Rattle.std.proofs.Common.{◌≡◌, ℕ, ◌+◌, ◌-◌, ◌≤◌, List, ◌++◌, length, take, drop, slice_range, refl, sym, ap, ◌∙◌, arith}
use Rattle.std.proofs.lemmas.List.{take_at, drop_at, take-append-le, drop-append-le, drop-take, drop-drop, length-take-le, length-drop}
use borrow.Rule.Slice.PartMut.{put_mid, post_of}
use lib.Seq.{take-add}

pub grown : (xs ys : List ℕ) (first end k n : ℕ) → first ≤ end → end ≤ length xs → n ≤ length ys
    → slice_range (put_mid end k xs ys) first (end + n) ≡ slice_range xs first end ++ take n ys
grown xs ys first end k n ordered within fits =
    let front = length-take-le end xs within in
    let held = drop first (take end xs) in
    let len : length held ≡ end - first = omega (arith, length-drop first (take end xs)) in
    let sum : end + n - first ≡ (end - first) + n = omega arith in
    let parts : end ≡ first + (end - first) = omega arith in
    let same : held ≡ take (end - first) (drop first xs) = ap (λ j. drop first (take j xs)) parts ∙ drop-take first (end - first) xs in
    let after = ys ++ post_of end k xs in
    ap (take (end + n - first)) (drop-append-le first (take end xs) after (omega arith))
    ∙ ap (λ j. take j (held ++ after)) sum
    ∙ take-add (end - first) n (held ++ after)
    ∙ (rw (take_at held after _ len, drop_at held after _ len, take-append-le n ys (post_of end k xs) fits, same) refl)

pub passed : (xs : List ℕ) (first end count : ℕ) → first + count ≤ end
    → slice_range xs (first + count) end ≡ drop count (slice_range xs first end)
passed xs first end count inside =
    let parts : end - first ≡ count + (end - (first + count)) = omega arith in
    sym (ap (λ j. drop count (take j (drop first xs))) parts ∙ drop-take count _ (drop first xs)
    ∙ ap (take (end - (first + count))) (drop-drop count first xs))
