-- Parts of a text given one by one to a taker.
use Rattle.std.proofs.Common.{◌≡◌, ℕ, ◌+◌, ◌<◌, ◌≤◌, List, [], ◌∷◌, ◌++◌, Option, Result, Ok, Err, inr, refl, ap, ◌∙◌, arith}
use Rattle.std.proofs.lemmas.Result.{err_from_is_err_and}
use Rattle.std.specs.Result.{IsErrAnd}
use Rattle.tcc_graph.specs.declared.link.Link.{Link}
use Rattle.tcc_graph.specs.declared.step.Step.{Step}
use Rattle.tcc_cert.specs.declared.fault.CertFault.{CertFault}
use Rattle.tcc_cert.specs.declared.fault.CertFaultKind.TheVariants.{NoMemory}
use Rattle.tcc_cert.specs.declared.reading.input.Input.{Input}
use Rattle.tcc_cert.specs.declared.ranges.TextFormat.TheVariants.{Large}
use Rattle.tcc_cert.specs.InputBytes.{IsAt}
use Rattle.tcc_cert.specs.private.Inputs.{Gives, GivesSuch}
use Rattle.tcc_cert.specs.private.Onward.{IsOnward}
use Rattle.tcc_cert.specs.private.Showing.{Faults}
use Rattle.tcc_cert.specs.Outcomes.{reached}
use Rattle.tcc_cert.specs.Reading.{◌>>=◌, Position, Reads, link_at, numbered, step_line, words}
use Rattle.tcc_cert.proofs.LinesBack.{then_ok}
use Rattle.tcc_cert.proofs.OnwardFacts.{onward-link, onward-words}
use Rattle.tcc_cert.proofs.StepFacts.{IsPart, first-faults, later-faults, onward-at, part-all, part-more, part-none}

-- a step or a link, whichever it is
abbrev pub steps_at : ℕ → Position → Reads Step
steps_at i = words Large (step_line Large)

abbrev pub links_at : ℕ → Position → Reads Link
links_at i = link_at Large

pub onward-steps : (i : ℕ) (p : Position) → IsOnward p (steps_at i p)
onward-steps i p = onward-words Large (step_line Large) p

pub onward-links : (i : ℕ) (p : Position) → IsOnward p (links_at i p)
onward-links i p = onward-link Large p

-- this many parts were read, of which this holds, and the input is now after them
pub record HasGiven {R X : Type 0} (remaining : R → Option (List ℕ)) (input : Input R) (read : ℕ → Position → Reads X) (count : ℕ) (at : Position) (i : ℕ)
    (such : List X → Type 0) : Type 0 where
  pub items : List X
  pub now : Position
  pub holds : such items
  pub part : IsPart read count at items i now
  pub there : IsAt remaining input now

module _ {R X : Type 0} (remaining : R → Option (List ℕ)) (read : ℕ → Position → Reads X) (count : ℕ) (at : Position) where
  pub given-none : (input : Input R) (such : List X → Type 0) → such [] → IsAt remaining input at → HasGiven remaining input read count at 0 such
  given-none input such is before = record { items = []; now = at; holds = is; part = part-none read count at; there = before }

  -- one more
  pub given-more : (old new : Input R) (i : ℕ) (before after : List X → Type 0) (so_far : HasGiven remaining old read count at i before) (x : X) → i < count
      → IsOnward so_far.now (read i so_far.now) → Gives remaining so_far.now (read i so_far.now) (Ok x) new → after (so_far.items ++ x ∷ [])
      → HasGiven remaining new read count at (i + 1) after
  given-more old new i before after so_far x lt on (end, is, there) more = record {
    items = so_far.items ++ x ∷ [];
    now = end;
    holds = more;
    part = part-more read count at so_far.items i so_far.now end x lt on so_far.part is;
    there = there;
  }

  pub given-all : {Y : Type 0} (input : Input R) (i : ℕ) (such : List X → Type 0) (y : Y) → count ≤ i → HasGiven remaining input read count at i such
      → GivesSuch remaining at (numbered read 0 count at) (λ items _. such items) (Ok y) input
  given-all input i such y le so_far = record {
    item = so_far.items;
    holds = so_far.holds;
    given = (so_far.now, part-all read count at so_far.items i so_far.now le so_far.part, so_far.there);
  }

-- memory was refused after a part that was read
pub refused-behind : {F X : Type 0} (at after : Position) (read : Reads X) (x : X) → IsOnward at read → read ≡ Ok (x, after)
    → Faults F at read (record { line = after.line; kind = NoMemory })
refused-behind at after read x on is = inr (record { failure = inr refl; first = onward-at read on is; last = omega (arith, ap reached is) })

-- ---- a part and what comes after it

such-behind : {R A B Y : Type 0} (remaining : R → Option (List ℕ)) (at after : Position) (read : Reads A) (go : A × Position → Reads B) (x : A)
    (such : B → Y → Type 0) (result : Result Y CertFault) (new : Input R)
    → read ≡ Ok (x, after) → at.line ≤ after.line → GivesSuch remaining after (go (x, after)) such result new → GivesSuch remaining at (read >>= go) such result new
such-behind remaining at after read go x such (Ok y) new is on found = record {
  item = found.item;
  holds = found.holds;
  given = (found.given.0, then_ok go is ∙ found.given.1, found.given.2);
}
such-behind remaining at after read go x such (Err fault) new is on faults = later-faults read go fault is on faults

-- a part was read, and of what comes after it something was given
pub such-then : {R A B Y : Type 0} (remaining : R → Option (List ℕ)) (at : Position) (read : Reads A) (go : A × Position → Reads B) (x : A) (between : Input R)
    (such : B → Y → Type 0) (result : Result Y CertFault) (new : Input R)
    → IsOnward at read → Gives remaining at read (Ok x) between
    → ((after : Position) → IsAt remaining between after → GivesSuch remaining after (go (x, after)) such result new)
    → GivesSuch remaining at (read >>= go) such result new
such-then remaining at read go x between such result new on (after, is, there) later =
    such-behind remaining at after read go x such result new is (onward-at read on is) (later after there)

-- the first part was not read
pub such-fails : {R A B Y : Type 0} (remaining : R → Option (List ℕ)) (at : Position) (read : Reads A) (go : A × Position → Reads B) {fault : CertFault}
    (such : B → Y → Type 0) (result : Result Y CertFault) (new : Input R)
    → ((x : A × Position) → IsOnward x.1 (go x)) → IsErrAnd result (λ e. e ≡ fault) → Gives remaining at read (Err fault) new
    → GivesSuch remaining at (read >>= go) such result new
such-fails remaining at read go such result new later passed faults =
    let p = err_from_is_err_and result passed in
    rw (p.1, p.2) (first-faults read go _ later faults)
