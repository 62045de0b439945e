-- Parts of a text read one after the other, where a reader may fail and memory may be refused.
use Rattle.std.proofs.Common.{◌≡◌, ℕ, suc, ◌+◌, ◌-◌, ◌<◌, ◌≤◌, ◌≢◌, false, eqb, length, List, [], ◌∷◌, ◌++◌}
use Rattle.std.proofs.Common.{Option, Result, Ok, Err, inl, inr, refl, sym, ap, subst, ◌∙◌, arith, append_assoc}
use Rattle.std.proofs.Common.{append-nil}
use Rattle.std.proofs.lemmas.Bool.Decides.{nat_tests}
use Rattle.tcc_cert.specs.declared.fault.CertFault.{CertFault}
use Rattle.tcc_cert.specs.declared.fault.CertFaultKind.{CertFaultKind}
use Rattle.tcc_cert.specs.declared.reading.input.Input.{Input}
use Rattle.tcc_cert.specs.private.Inputs.{line_in, TakesLine, Gives}
use Rattle.tcc_cert.specs.Outcomes.{IsFailure, reached}
use Rattle.tcc_cert.specs.private.Onward.{IsOnward}
use Rattle.tcc_cert.specs.private.Showing.{Shows, at_line, Faults}
use Rattle.tcc_cert.specs.Reading.{◌>>=◌, Position, Reads, behind, next, numbered}
use Rattle.tcc_cert.proofs.OnwardFacts.{onward-then, onward-ok, onward-next, onward-numbered}

-- the first part had a fault
pub first-faults : {A B F : Type 0} {at : Position} (read : Reads A) (go : A × Position → Reads B) (fault : CertFault) → ((x : A × Position) → IsOnward x.1 (go x))
    → Faults F at read fault → Faults F at (read >>= go) fault
first-faults read go fault later (inl is) = inl (rw is refl)
first-faults (Ok x) go fault later (inr stopped) =
    inr (record { failure = stopped.failure; first = stopped.first; last = omega (arith, stopped.last, (later x).onward) })
first-faults (Err e) go fault later (inr stopped) = inr (record { failure = stopped.failure; first = stopped.first; last = stopped.last })

-- the reading began no later
faults-from : {A F : Type 0} {at now : Position} (read : Reads A) (fault : CertFault) → at.line ≤ now.line → Faults F now read fault → Faults F at read fault
faults-from read fault on (inl is) = inl is
faults-from read fault on (inr stopped) = inr (record { failure = stopped.failure; first = omega (arith, on, stopped.first); last = stopped.last })

-- a later part had a fault
pub later-faults : {A B F : Type 0} {at after : Position} {x : A} (read : Reads A) (go : A × Position → Reads B) (fault : CertFault) → read ≡ Ok (x, after)
    → at.line ≤ after.line
    → Faults F after (go (x, after)) fault → Faults F at (read >>= go) fault
later-faults {A} {B} {F} {at} {after} {x} read go fault is on faults =
    subst (λ r. Faults F at (r >>= go) fault) (sym is) (faults-from (go (x, after)) fault on faults)

-- a part that was read ends no line before its first
pub onward-at : {A : Type 0} {at after : Position} {x : A} (read : Reads A) → IsOnward at read → read ≡ Ok (x, after) → at.line ≤ after.line
onward-at {A} {at} {after} {x} read on is = (subst (IsOnward at) is on).onward

-- ---- parts by number

-- what was read so far comes before what is still to be read
abbrev pub before_rest : {X : Type 0} → List X → Reads (List X) → Reads (List X)
before_rest front read = read >>= λ rest. Ok (front ++ rest.0, rest.1)

pub record IsPart {X : Type 0} (read : ℕ → Position → Reads X) (count : ℕ) (at : Position) (front : List X) (i : ℕ) (now : Position) : Type 0 where
  pub on : at.line ≤ now.line
  pub part : numbered read 0 count at ≡ before_rest front (numbered read i (count - i) now)

rest-none : {X : Type 0} (read : Reads (List X)) → read ≡ before_rest [] read
rest-none (Ok x) = refl
rest-none (Err e) = refl

rest-more : {X : Type 0} (front : List X) (x : X) (read : Reads (List X))
    → before_rest front (read >>= λ others. Ok (x ∷ others.0, others.1)) ≡ before_rest (front ++ x ∷ []) read
rest-more front x (Ok others) = ap (λ l. Ok (l, others.1)) (sym (append_assoc front (x ∷ []) others.0))
rest-more front x (Err e) = refl

on-rest : {X : Type 0} (front : List X) (read : Reads (List X)) → reached (before_rest front read) ≡ reached read
on-rest front (Ok x) = refl
on-rest front (Err e) = refl

module _ {X : Type 0} (read : ℕ → Position → Reads X) (count : ℕ) (at : Position) where
  pub part-none : IsPart read count at [] 0 at
  part-none = record { on = omega arith; part = ap (λ n. numbered read 0 n at) (omega arith) ∙ rest-none _ }

  one-more : (i n : ℕ) (now after : Position) (x : X) → read i now ≡ Ok (x, after)
      → numbered read i (suc n) now ≡ (numbered read (i + 1) n after >>= λ others. Ok (x ∷ others.0, others.1))
  one-more i n now after x is = rw is refl

  pub part-more : (front : List X) (i : ℕ) (now after : Position) (x : X) → i < count → IsOnward now (read i now) → IsPart read count at front i now
      → read i now ≡ Ok (x, after) → IsPart read count at (front ++ x ∷ []) (i + 1) after
  part-more front i now after x lt on so_far is =
      let left : count - i ≡ suc (count - (i + 1)) = omega arith in
      record {
        on = omega (arith, so_far.on, onward-at (read i now) on is);
        part =
            so_far.part
            ∙ ap (λ n. before_rest front (numbered read i n now)) left
            ∙ ap (before_rest front) (one-more i (count - (i + 1)) now after x is)
            ∙ rest-more front x (numbered read (i + 1) (count - (i + 1)) after);
      }

  pub part-all : (front : List X) (i : ℕ) (now : Position) → count ≤ i → IsPart read count at front i now → numbered read 0 count at ≡ Ok (front, now)
  part-all front i now le so_far =
      let left : count - i ≡ 0 = omega arith in
      so_far.part ∙ ap (λ n. before_rest front (numbered read i n now)) left ∙ ap (λ l. Ok (l, now)) (append-nil front)

  -- the next of them had a fault
  pub part-faults : {F : Type 0} (front : List X) (i : ℕ) (now : Position) (fault : CertFault) → i < count → ((k : ℕ) (p : Position) → IsOnward p (read k p))
      → IsPart read count at front i now → Faults F now (read i now) fault
      → Faults F at (numbered read 0 count at) fault
  part-faults {F} front i now fault lt on so_far faults =
      let left : count - i ≡ suc (count - (i + 1)) = omega arith in
      let n = count - (i + 1) in
      let one =
      first-faults (read i now) (λ first. numbered read (i + 1) n first.1 >>= λ others. Ok (first.0 ∷ others.0, others.1)) fault
      (λ first. onward-then first.1 (numbered read (i + 1) n first.1) _ (onward-numbered read (i + 1) n on first.1)
      (λ others. onward-ok (first.0 ∷ others.0) others.1 others.1 (omega arith))) faults in
      let whole =
      first-faults (numbered read i (suc n) now) (λ rest. Ok (front ++ rest.0, rest.1)) fault
      (λ rest. onward-ok (front ++ rest.0) rest.1 rest.1 (omega arith)) one in
      subst (λ r. Faults F at r fault) (sym (so_far.part ∙ ap (λ m. before_rest front (numbered read i m now)) left))
      (faults-from (before_rest front (numbered read i (suc n) now)) fault so_far.on whole)

  -- memory was refused between two of them
  pub part-refused : {F : Type 0} (front : List X) (i : ℕ) (now : Position) (kind : CertFaultKind) → ((k : ℕ) (p : Position) → IsOnward p (read k p))
      → IsPart read count at front i now → IsFailure F kind
      → Faults F at (numbered read 0 count at) (record { line = now.line; kind = kind })
  part-refused front i now kind on so_far failure =
      let end = (onward-numbered read i (count - i) on now).onward in
      let same = ap reached so_far.part ∙ on-rest front (numbered read i (count - i) now) in
      inr (record { failure = failure; first = so_far.on; last = omega (arith, same, end) })

-- ---- the next line

-- the next line was read and judged
pub line-shows : {R X : Type 0} (remaining : R → Option (List ℕ)) (most : ℕ) (at : Position) (number : ℕ) (form : List ℕ → Result X CertFaultKind)
    (shown : Result X CertFaultKind) (new : Input R)
    → TakesLine remaining most at (Ok number) new → Shows shown (form (line_in new)) → Gives remaining at (next most form at) (at_line number shown) new
line-shows remaining most at number form (Ok x) new taken shows = (behind at (line_in new), rw (taken.0, shows) refl, taken.2)
line-shows remaining most at number form (Err kind) new taken (inl shows) = inl (rw (taken.0, shows, taken.1) refl)
line-shows remaining most at number form (Err kind) new taken (inr refused) =
    inr (record { failure = inr refused; first = omega (arith, taken.1); last = omega (arith, taken.1, (onward-next most form at).onward) })

-- ---- the end of the text

pub some-left : (bytes : List ℕ) → bytes ≢ [] → eqb (length bytes) 0 ≡ false
some-left [] some = absurd (some refl)
some-left (byte ∷ bytes) some = grind (arith, nat_tests)
