-- What is known of a walk with one more step, and of all items of a list with one more.
use Rattle.std.proofs.Common.{◌≡◌, ◌↔◌, ◌∙◌, ◌+◌, ℕ, Bool, true, false, Option, Some, List, [], ◌∷◌, ◌++◌, refl, sym, subst, arith}
use Rattle.std.proofs.Common.{length-append}
use Rattle.std.specs.Prelude.{IsTrue}
use Rattle.std.specs.List.{All}
use Rattle.std.proofs.lemmas.Bool.{false≢true}
use Rattle.std.proofs.lemmas.List.Elements.{All-cons, All-head, All-nil, All-push, All-tail}
use Rattle.tcc_reads.specs.History.{History, count}
use Rattle.tcc_graph.specs.Links.{link_from, link_to}
use Rattle.tcc_graph.specs.Walks.{IsStep, IsStepBelow, Leads, step_from, step_to}
use Rattle.tcc_graph.specs.declared.link.Link.{Link}
use Rattle.tcc_graph.specs.declared.link.Link.TheVariants as link
use Rattle.tcc_graph.specs.declared.step.Step.{Step}
use Rattle.tcc_graph.proofs.Walking.{leads_append, leads_split}
use Rattle.tcc_cert.specs.Reading.{with_walk}
use Rattle.tcc_rules.specs.Known.{IsKnownWalk}
use Rattle.tcc_rules.specs.declared.known.KnownWalk.{KnownWalk}

-- ---- what all have, one more
all_parts : {X : Type 0} (P : X → Type 0) (xs : List X) (x : X) → All P (xs ++ x ∷ []) → All P xs × P x
all_parts P [] x all = (All-nil P, All-head P x [] all)
all_parts P (y ∷ xs) x all =
    let rest = all_parts P xs x (All-tail P y (xs ++ x ∷ []) all) in
    (All-cons P y xs (All-head P y (xs ++ x ∷ []) all) rest.0, rest.1)

pub one_good : {X : Type 0} (P : X → Type 0) (xs : List X) (x : X) (all one : Bool) → (IsTrue all ↔ All P xs) → all ≡ true → (IsTrue one ↔ P x)
    → IsTrue one ↔ All P (xs ++ x ∷ [])
one_good P xs x all one first good last = ((λ is. All-push P xs x (first.0 good) (last.0 is)), (λ is. last.1 (all_parts P xs x is).1))

pub one_bad : {X : Type 0} (P : X → Type 0) (xs : List X) (x : X) (all : Bool) → (IsTrue all ↔ All P xs) → all ≡ false → IsTrue false ↔ All P (xs ++ x ∷ [])
one_bad P xs x all first bad = (
  (λ is. absurd (false≢true is)),
  (λ is. absurd (false≢true (sym bad ∙ first.1 (all_parts P xs x is).0))),
)

-- ---- the steps of a walk
pub known_none : (h : History) (from : ℕ) → IsKnownWalk h from [] (record { steps = 0; end = Some from; are_below = true })
known_none h from = record {
  counted = refl;
  leads = λ to. ((λ is. cc), (λ is. cc));
  below = ((λ _. All-nil (IsStepBelow (count h))), (λ _. refl));
}

-- one more step leads on where the steps before it lead to where it begins
led_more : (h : History) (from : ℕ) (walk : List Step) (s : Step) (old new : Option ℕ) → ((to : ℕ) → (old ≡ Some to) ↔ Leads h from to walk)
    → ((to : ℕ) → (new ≡ Some to) ↔ ((old ≡ Some (step_from s)) × IsStep h s × (step_to s ≡ to)))
    → (to : ℕ) → (new ≡ Some to) ↔ Leads h from to (walk ++ s ∷ [])
led_more h from walk s old new was on to = (there, back)
  where
    there : new ≡ Some to → Leads h from to (walk ++ s ∷ [])
    there is =
        let w = (on to).0 is in
        leads_append h from (step_from s) to walk (s ∷ []) ((was (step_from s)).0 w.0) (refl, w.1, w.2)

    back : Leads h from to (walk ++ s ∷ []) → new ≡ Some to
    back led =
        let w = leads_split h from to walk (s ∷ []) led in
        (on to).1 ((was (step_from s)).1 (subst (λ (m : ℕ). Leads h from m walk) (sym w.2.0) w.1), w.2.1, w.2.2)

pub known_more : (h : History) (from : ℕ) (walk : List Step) (s : Step) (old new : KnownWalk) → IsKnownWalk h from walk old → new.steps ≡ old.steps + 1
    → ((to : ℕ) → (new.end ≡ Some to) ↔ ((old.end ≡ Some (step_from s)) × IsStep h s × (step_to s ≡ to)))
    → IsTrue new.are_below ↔ All (IsStepBelow (count h)) (walk ++ s ∷ []) → IsKnownWalk h from (walk ++ s ∷ []) new
known_more h from walk s old new was more on below = record {
  counted = omega (arith, more, was.counted, length-append walk (s ∷ []));
  leads = led_more h from walk s old.end new.end was.leads on;
  below = below;
}

-- ---- a link with a walk
pub same_from : (head : Link) (walk : List Step) → link_from (with_walk head walk) ≡ link_from head
same_from (link.Session a b) walk = refl
same_from (link.Reads a b x) walk = refl
same_from (link.Derived b a x c none) walk = refl

pub same_to : (head : Link) (walk : List Step) → link_to (with_walk head walk) ≡ link_to head
same_to (link.Session a b) walk = refl
same_to (link.Reads a b x) walk = refl
same_to (link.Derived b a x c none) walk = refl
