-- Seats of sessions, each at the number of its name.
use Rattle.std.proofs.Common.{◌≡◌, ℕ, zero, suc, ◌<◌, Bool, true, false, cond, ◌||◌, List, [], ◌∷◌, ◌++◌, length, get_or, map, Option, None, Some}
use Rattle.std.proofs.Common.{refl, sym, ap, ◌∙◌, arith}
use Rattle.std.specs.List.{All}
use Rattle.std.proofs.Math.ListN.{set}
use Rattle.std.proofs.lemmas.List.Folds.{list_any-append}
use Rattle.tcc_txn.specs.Bytes.{same}
use Rattle.tcc_txn.specs.Symbols.{IsNumber, is_symbol}
use Rattle.tcc_txn.specs.declared.op.Op.{Op}
use Rattle.tcc_rows.specs.Seats.{Seats, seat_at}
use Rattle.tcc_rows.specs.private.Seating.{AreNumbered, AreOnce, IsSeat, PutsSeat}
use Rattle.tcc_rows.proofs.PastFacts.{same-itself, same-name, same-swap}

-- a session and its seat
abbrev Seat : Type 0
Seat = List ℕ × Option (List Op)

-- a session without a seat is not among the names, and one among them has a seat
pub unseated : (seats : Seats) (s : List ℕ) → is_symbol s (map (λ (seat : Seat). seat.0) seats) ≡ false → seat_at seats s ≡ None
unseated [] s absent = refl
unseated (seat ∷ seats) s absent = by (same s seat.0) refl absent (unseated seats s)
  where
    by : (b : Bool) → same s seat.0 ≡ b → (b || is_symbol s (map (λ (seat : Seat). seat.0) seats)) ≡ false
        → (is_symbol s (map (λ (seat : Seat). seat.0) seats) ≡ false → seat_at seats s ≡ None) → seat_at (seat ∷ seats) s ≡ None
    by true e absent rest = cc absent
    by false e absent rest = rw e (rest absent)

pub unnamed : (seats : Seats) (s : List ℕ) → seat_at seats s ≡ None → is_symbol s (map (λ (seat : Seat). seat.0) seats) ≡ false
unnamed [] s none = refl
unnamed (seat ∷ seats) s none = by (same s seat.0) refl none (unnamed seats s)
  where
    by : (b : Bool) → same s seat.0 ≡ b → cond b (Some seat.1) (seat_at seats s) ≡ None
        → (seat_at seats s ≡ None → is_symbol s (map (λ (seat : Seat). seat.0) seats) ≡ false)
        → (same s seat.0 || is_symbol s (map (λ (seat : Seat). seat.0) seats)) ≡ false
    by true e none rest = cc none
    by false e none rest = rw e (rest none)

-- a session with a number has a seat
pub seated : (seats : Seats) (s : List ℕ) (n : ℕ) → IsSeat seats s n → seat_at seats s ≡ None → ⊥
seated [] s n is none = absurd is
seated (seat ∷ seats) s zero is none =
    let here : same s seat.0 ≡ true = ap (same s) is ∙ same-itself s in
    let there : seat_at (seat ∷ seats) s ≡ Some seat.1 = rw here refl in
    cc (there, none)
seated (seat ∷ seats) s (suc n) is none = by (same s seat.0) none (seated seats s n is)
  where
    by : (b : Bool) → cond b (Some seat.1) (seat_at seats s) ≡ None → (seat_at seats s ≡ None → ⊥) → ⊥
    by true none rest = cc none
    by false none rest = rest none

-- the number in a symbol table is that of the seat
pub seat-numbered : (seats : Seats) (s : List ℕ) (n : ℕ) → IsNumber (map (λ (seat : Seat). seat.0) seats) s n → IsSeat seats s n
seat-numbered [] s n is = absurd (omega (arith, is.within))
seat-numbered (seat ∷ seats) s zero is = is.named
seat-numbered (seat ∷ seats) s (suc n) is = seat-numbered seats s n (record { within = omega (arith, is.within); named = is.named })

pub seat-within : (seats : Seats) (s : List ℕ) (n : ℕ) → IsSeat seats s n → n < length seats
seat-within [] s n is = absurd is
seat-within (seat ∷ seats) s zero is = omega arith
seat-within (seat ∷ seats) s (suc n) is = omega (arith, seat-within seats s n is)

pub seat-here : (seats : Seats) (n : ℕ) (seat : Seat) → n < length seats → seat ≡ get_or seats n seat → IsSeat seats seat.0 n
seat-here [] n seat within at = absurd (omega (arith, within))
seat-here (first ∷ seats) zero seat within at = ap (λ (x : Seat). x.0) (sym at)
seat-here (first ∷ seats) (suc n) seat within at = seat-here seats n seat (omega (arith, within)) at

-- a name that is in the list once, if another is at a later number
later : (seat : Seat) (seats : Seats) (s : List ℕ) (n : ℕ) → is_symbol seat.0 (map (λ (seat : Seat). seat.0) seats) ≡ false → IsSeat seats s n → same s seat.0 ≡ false
later seat seats s n once is = by (same s seat.0) refl
  where
    by : (b : Bool) → same s seat.0 ≡ b → b ≡ false
    by true e =
        let here : s ≡ seat.0 = same-name s seat.0 e in
        absurd (seated seats s n is (rw here (unseated seats seat.0 once)))
    by false e = refl

-- the seat that a look-up finds is the one at the number
pub seat-there : (seats : Seats) (s : List ℕ) (n : ℕ) (seat : Seat) → AreOnce (map (λ (seat : Seat). seat.0) seats) → IsSeat seats s n
    → seat ≡ get_or seats n seat → (seat.0 ≡ s) × (seat_at seats s ≡ Some seat.1)
seat-there [] s n seat once is at = absurd is
seat-there (first ∷ seats) s zero seat once is at =
    let here : same s first.0 ≡ true = ap (same s) is ∙ same-itself s in
    rw at (is, rw here refl)
seat-there (first ∷ seats) s (suc n) seat once is at =
    let rest = seat-there seats s n seat once.1 is at in
    let apart = later first seats s n once.0 is in
    (rest.0, rw apart rest.1)

-- each seat is found by its session
pub each-found : (seats : Seats) → AreOnce (map (λ (seat : Seat). seat.0) seats) → All (λ (seat : Seat). seat_at seats seat.0 ≡ Some seat.1) seats
each-found [] once k d inside = absurd (omega (arith, inside))
each-found (first ∷ seats) once zero d inside = rw (same-itself first.0) refl
each-found (first ∷ seats) once (suc k) d inside =
    let rest = each-found seats once.1 k d (omega (arith, inside)) in
    let apart = by (same (get_or seats k d).0 first.0) refl rest in
    rw apart rest
  where
    by : (b : Bool) → same (get_or seats k d).0 first.0 ≡ b → seat_at seats (get_or seats k d).0 ≡ Some (get_or seats k d).1 → b ≡ false
    by true e rest =
        let here : (get_or seats k d).0 ≡ first.0 = same-name (get_or seats k d).0 first.0 e in
        let none : seat_at seats (get_or seats k d).0 ≡ None = rw here (unseated seats first.0 once.0) in
        absurd (cc (none, rest))
    by false e rest = refl

-- a seat is put in place of another
pub seat-put : (seats : Seats) (s : List ℕ) (n : ℕ) (begun : Option (List Op)) → AreOnce (map (λ (seat : Seat). seat.0) seats) → IsSeat seats s n
    → PutsSeat seats s begun (set seats n (s, begun))
seat-put [] s n begun once is q = absurd is
seat-put (first ∷ seats) s zero begun once is q = by (same s q) refl
  where
    by : (b : Bool) → same s q ≡ b → cond (same q s) (Some begun) (seat_at seats q) ≡ cond b (Some begun) (cond (same q first.0) (Some first.1) (seat_at seats q))
    by true e = rw (same-swap q s, e) refl
    by false e = rw (is, same-swap q s, e) refl
seat-put (first ∷ seats) s (suc n) begun once is q =
    by (same q first.0) (same s q) refl refl (seat-put seats s n begun once.1 is q)
  where
    by : (b c : Bool) → same q first.0 ≡ b → same s q ≡ c → seat_at (set seats n (s, begun)) q ≡ cond c (Some begun) (seat_at seats q)
        → cond b (Some first.1) (seat_at (set seats n (s, begun)) q) ≡ cond c (Some begun) (cond b (Some first.1) (seat_at seats q))
    by true true here one rest =
        let apart = later first seats s n once.0 is in
        let at : same s first.0 ≡ true = rw (same-name s q one) here in
        absurd (cc (at, apart))
    by true false here one rest = refl
    by false c here one rest = rest

names-put : (seats : Seats) (s : List ℕ) (n : ℕ) (begun : Option (List Op)) → IsSeat seats s n
    → map (λ (seat : Seat). seat.0) (set seats n (s, begun)) ≡ map (λ (seat : Seat). seat.0) seats
names-put [] s n begun is = absurd is
names-put (first ∷ seats) s zero begun is = ap (λ (x : List ℕ). x ∷ map (λ (seat : Seat). seat.0) seats) (sym is)
names-put (first ∷ seats) s (suc n) begun is = ap (λ (xs : List (List ℕ)). first.0 ∷ xs) (names-put seats s n begun is)

pub numbered-put : (names : List (List ℕ)) (seats : Seats) (s : List ℕ) (n : ℕ) (begun : Option (List Op)) → AreNumbered names seats → IsSeat seats s n
    → AreNumbered names (set seats n (s, begun))
numbered-put names seats s n begun are is = record {
  each = are.each ∙ sym (names-put seats s n begun is);
  once = are.once;
}

-- one more session
pub seat-pushed : (seats : Seats) (s : List ℕ) (begun : Option (List Op)) → seat_at seats s ≡ None → PutsSeat seats s begun (seats ++ (s, begun) ∷ [])
seat-pushed [] s begun none q = rw (same-swap q s) refl
seat-pushed (first ∷ seats) s begun none q = split (same s first.0) refl none (λ absent. seat-pushed seats s begun absent q)
  where
    by : (b c : Bool) → same q first.0 ≡ b → same s q ≡ c → same s first.0 ≡ false → seat_at (seats ++ (s, begun) ∷ []) q ≡ cond c (Some begun) (seat_at seats q)
        → cond b (Some first.1) (seat_at (seats ++ (s, begun) ∷ []) q) ≡ cond c (Some begun) (cond b (Some first.1) (seat_at seats q))
    by true true here one apart rest =
        let at : same s first.0 ≡ true = rw (same-name s q one) here in
        absurd (cc (at, apart))
    by true false here one apart rest = refl
    by false c here one apart rest = rest

    split : (b : Bool) → same s first.0 ≡ b → cond b (Some first.1) (seat_at seats s) ≡ None
        → (seat_at seats s ≡ None → seat_at (seats ++ (s, begun) ∷ []) q ≡ cond (same s q) (Some begun) (seat_at seats q))
        → seat_at (first ∷ (seats ++ (s, begun) ∷ [])) q ≡ cond (same s q) (Some begun) (seat_at (first ∷ seats) q)
    split true e none more = cc none
    split false e none more = by (same q first.0) (same s q) refl refl e (more none)

once-pushed : (names : List (List ℕ)) (s : List ℕ) → AreOnce names → is_symbol s names ≡ false → AreOnce (names ++ s ∷ [])
once-pushed [] s once absent = (refl, once)
once-pushed (name ∷ names) s once absent = split (same s name) refl absent (once-pushed names s once.1)
  where
    split : (b : Bool) → same s name ≡ b → (b || is_symbol s names) ≡ false → (is_symbol s names ≡ false → AreOnce (names ++ s ∷ []))
        → AreOnce (name ∷ (names ++ s ∷ []))
    split true e absent more = cc absent
    split false e absent more = (list_any-append (same name) names (s ∷ []) ∙ rw (once.0, same-swap name s, e) refl, more absent)

names-pushed : (seats : Seats) (seat : Seat) → map (λ (seat : Seat). seat.0) (seats ++ seat ∷ []) ≡ map (λ (seat : Seat). seat.0) seats ++ seat.0 ∷ []
names-pushed [] seat = refl
names-pushed (first ∷ seats) seat = ap (λ (xs : List (List ℕ)). first.0 ∷ xs) (names-pushed seats seat)

pub numbered-pushed : (names : List (List ℕ)) (seats : Seats) (s : List ℕ) (begun : Option (List Op)) → AreNumbered names seats → is_symbol s names ≡ false
    → AreNumbered (names ++ s ∷ []) (seats ++ (s, begun) ∷ [])
numbered-pushed names seats s begun are absent = record {
  each = ap (λ (xs : List (List ℕ)). xs ++ s ∷ []) are.each ∙ sym (names-pushed seats (s, begun));
  once = once-pushed names s are.once absent;
}
