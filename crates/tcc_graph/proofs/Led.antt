-- Steps, one after another: what is left to check of them.
use Rattle.std.proofs.Common.{◌≡◌, ◌<◌, ◌≤◌, ◌+◌, ℕ, List, ◌∷◌, length, get_or, drop, sym, ap, subst, ◌∙◌}
use Rattle.std.proofs.lemmas.List.{drop_more, drop_all}
use Rattle.tcc_reads.specs.History.{History}
use Rattle.tcc_graph.specs.Walks.{step_from, step_to, IsStep, Leads}
use Rattle.tcc_graph.specs.declared.step.Step.{Step}

-- the steps lead from the start exactly if those after the first i lead from here
pub record IsRestOf (h : History) (from at to i : ℕ) (steps : List Step) : Type 0 where
  pub forth : Leads h from to steps → Leads h at to (drop i steps)
  pub back : Leads h at to (drop i steps) → Leads h from to steps

pub whole_rest : (h : History) (from to : ℕ) (steps : List Step) → IsRestOf h from from to 0 steps
whole_rest h from to steps = record { forth = λ w. w; back = λ w. w }

pub rest_more : (h : History) (from at to i : ℕ) (steps : List Step) (s : Step) → i < length steps → s ≡ get_or steps i s → step_from s ≡ at → IsStep h s
    → IsRestOf h from at to i steps → IsRestOf h from (step_to s) to (i + 1) steps
rest_more h from at to i steps s inside is begins right w = record {
  forth = λ all. (subst (λ (z : List Step). Leads h at to z) split (w.forth all)).2;
  back = λ rest. w.back (subst (λ (z : List Step). Leads h at to z) (sym split) (begins, right, rest));
}
  where
    split : drop i steps ≡ s ∷ drop (i + 1) steps
    split = drop_more steps i s inside ∙ ap (λ z. z ∷ drop (i + 1) steps) (sym is)

pub not_led : (h : History) (from at to i : ℕ) (steps : List Step) (s : Step) → i < length steps → s ≡ get_or steps i s → IsRestOf h from at to i steps
    → (step_from s ≡ at → IsStep h s → ⊥) → Leads h from to steps → ⊥
not_led h from at to i steps s inside is w wrong all =
    let split = drop_more steps i s inside ∙ ap (λ z. z ∷ drop (i + 1) steps) (sym is) in
    let led = subst (λ (z : List Step). Leads h at to z) split (w.forth all) in
    wrong led.0 led.1

pub led : (h : History) (from at to i : ℕ) (steps : List Step) → length steps ≤ i → IsRestOf h from at to i steps → at ≡ to → Leads h from to steps
led h from at to i steps all w e = w.back (subst (λ (z : List Step). Leads h at to z) (sym (drop_all i steps all)) e)

pub led_back : (h : History) (from at to i : ℕ) (steps : List Step) → length steps ≤ i → IsRestOf h from at to i steps → Leads h from to steps → at ≡ to
led_back h from at to i steps all w l = subst (λ (z : List Step). Leads h at to z) (drop_all i steps all) (w.forth l)
