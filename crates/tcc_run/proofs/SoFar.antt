-- What holds for the sessions so far, and for the elements of a list.
use Rattle.std.proofs.Common.{◌≡◌, ◌<◌, ◌≤◌, ◌+◌, ◌++◌, ℕ, All, List, [], ◌∷◌, length, take, get_or, Some, sym, ◌∙◌, ap, arith}
use Rattle.std.specs.Prelude.{slice_get}
use Rattle.std.proofs.lemmas.List.{take_more}
use Rattle.std.proofs.lemmas.List.Elements.{All-push}
use Rattle.std.proofs.lemmas.Option.{slice_get-get_or}

abbrev pub AllBefore : {X : Type 0} → (X → Type 0) → List X → ℕ → Type 0
AllBefore {X} P xs n = (k : ℕ) (x : X) → k < n → slice_get xs k ≡ Some x → P x

pub none_before : {X : Type 0} (P : X → Type 0) (xs : List X) → AllBefore P xs 0
none_before P xs k x less at = absurd (omega arith)

pub all_before : {X : Type 0} (P : X → Type 0) (xs : List X) (n : ℕ) → length xs ≤ n → AllBefore P xs n → All P xs
all_before P xs n past before k d inside = before k (get_or xs k d) (omega (arith, inside, past)) (slice_get-get_or xs k d inside)

-- and for the next element
pub all_next : {X : Type 0} (P : X → Type 0) (xs : List X) (i : ℕ) (x : X) → i < length xs → x ≡ get_or xs i x → All P (take i xs) → P x
    → All P (take (i + 1) xs)
all_next P xs i x inside is all here = rw (take_more xs i x inside ∙ ap (λ y. take i xs ++ y ∷ []) (sym is)) (All-push P (take i xs) x all here)
