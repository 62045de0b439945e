-- How many transactions a snapshot has, and which sessions they are of.
use Rattle.std.proofs.Common.{◌≡◌, ℕ, suc, ◌+◌, ◌<◌, ◌≤◌, List, [], ◌∷◌, length, drop, All, sum_by}
use Rattle.std.proofs.Common.{refl, ap, sym, ◌∙◌, arith, length-append, get_or, slice_get, Option, Some, option_map}
use Rattle.std.proofs.Math.ListN.{drop_of_length-le}
use Rattle.std.proofs.lemmas.List.Sums.{sum_by-cons}
use Rattle.std.proofs.lemmas.List.Elements.{All-nil, All-cons, All-append}
use Rattle.std.specs.FinMap as finite
use Rattle.std.specs.Option.{option_map_or}
use Rattle.std.proofs.lemmas.List.{drop_more}
use Rattle.std.proofs.lemmas.Option.{get_or_from_slice_get, slice_get-get_or}
use Rattle.tcc_txn.specs.Snapshots.{Sessions, finished_at}
use Rattle.tcc_txn.specs.Transactions.{Transaction}
use Rattle.tcc_reads.specs.Sites.{Stand, stands_in, stands_from}
use Rattle.tcc_reads.specs.private.Numbers.{next_number, numbered_from}

-- a list from an item on
pub item_at : {X : Type 0} (xs : List X) (i : ℕ) (x : X) → i < length xs → slice_get xs i ≡ Some x → drop i xs ≡ x ∷ drop (i + 1) xs
item_at xs i x within is = drop_more xs i x within ∙ ap (λ y. y ∷ drop (i + 1) xs) (get_or_from_slice_get xs i x x is)

-- the sessions from the one with this name on
pub named_at : (s : Sessions) (i : ℕ) (name : List ℕ) → i < length (finite.entries s)
    → Some name ≡ option_map (λ named. named.0) (slice_get (finite.entries s) i)
    → drop i (finite.entries s) ≡ (name, finished_at s i) ∷ drop (i + 1) (finite.entries s)
named_at s i name within is =
    let es : List (List ℕ × List Transaction) = finite.entries s in
    let e : List ℕ × List Transaction = get_or es i ([], []) in
    let there : slice_get es i ≡ Some e = slice_get-get_or es i ([], []) within in
    let named : Some name ≡ Some e.0 = is ∙ ap (option_map (λ (p : List ℕ × List Transaction). p.0)) there in
    let same : name ≡ e.0 = cc in
    let txns : finished_at s i ≡ e.1 = ap (λ (o : Option (List ℕ × List Transaction)). option_map_or (λ p. p.1) o []) there in
    drop_more es i ([], []) within ∙ (λ j. (sym same j, sym txns j) ∷ drop (i + 1) es)

-- past the last session no session is left
pub none_past : (s : Sessions) (i : ℕ) → finite.len s ≤ i → drop i (finite.entries s) ≡ []
none_past s i past =
    let beyond : length (finite.entries s) ≤ i = omega (arith, finite.len-entries s, past) in
    drop_of_length-le (finite.entries s) beyond

length-stands_in : (session : ℕ) (name : List ℕ) (place : ℕ) (txns : List Transaction) → length (stands_in session name place txns) ≡ length txns
length-stands_in session name place [] = refl
length-stands_in session name place (txn ∷ later) = ap suc (length-stands_in session name (place + 1) later)

pub length-stands_from : (session : ℕ) (named : List (List ℕ × List Transaction)) → length (stands_from session named) ≡ sum_by (λ e. length e.1) named
length-stands_from session [] = refl
length-stands_from session (e ∷ later) =
    length-append (stands_in session e.0 1 e.1) (stands_from (session + 1) later)
    ∙ (λ i. length-stands_in session e.0 1 e.1 i + length-stands_from (session + 1) later i)
    ∙ sym (sum_by-cons (λ x. length x.1) e later)

pub length-numbered_from : (number : ℕ) (all : List Stand) → length (numbered_from number all) ≡ length all
length-numbered_from number [] = refl
length-numbered_from number (stand ∷ later) = ap suc (length-numbered_from (next_number number stand) later)

-- all transactions of a session have its index
stands_in-session : (session : ℕ) (name : List ℕ) (place : ℕ) (txns : List Transaction) (bound : ℕ) → session < bound
    → All (λ stand. stand.session < bound) (stands_in session name place txns)
stands_in-session session name place [] bound below = All-nil (λ (stand : Stand). stand.session < bound)
stands_in-session session name place (txn ∷ later) bound below =
    All-cons (λ (stand : Stand). stand.session < bound) _ (stands_in session name (place + 1) later) below
    (stands_in-session session name (place + 1) later bound below)

pub stands_from-session : (session : ℕ) (named : List (List ℕ × List Transaction)) (bound : ℕ) → session + length named ≤ bound
    → All (λ stand. stand.session < bound) (stands_from session named)
stands_from-session session [] bound within = All-nil (λ (stand : Stand). stand.session < bound)
stands_from-session session (e ∷ later) bound within =
    All-append (λ (stand : Stand). stand.session < bound) (stands_in session e.0 1 e.1) (stands_from (session + 1) later)
    (stands_in-session session e.0 1 e.1 bound (omega arith)) (stands_from-session (session + 1) later bound (omega arith))
