use Rattle.std.proofs.Common.{rules, ℕ, ◌+◌, ◌<◌, ◌≡◌, ◌==◌, true, false, ◌⊎◌, inl, inr, List, []}
use Rattle.std.proofs.Common.{◌∷◌, ◌++◌, length, length-append, get_or, refl, ◌∙◌, arith}
use Rattle.std.proofs.Common.{if◌then◌else◌}
use Rattle.std.proofs.lemmas.Bool.{cases_eq}
use Rattle.std.proofs.lemmas.List.{get_or_push, get_or_append_left}
use Rattle.tcc_derive.proofs.costing.cost_row.Goals.{then-direct, else-direct}
use Rattle.tcc_derive.proofs.costing.cost_row.Goals as goal

-- the costs so far, and one more
more : (old new : List ℕ) (n cost : ℕ) (f : ℕ → ℕ) → new ≡ old ++ cost ∷ [] → length old ≡ n → cost ≡ f n → ((w : ℕ) → w < n → get_or old w 0 ≡ f w)
    → (length new ≡ n + 1) × ((w : ℕ) → w < n + 1 → get_or new w 0 ≡ f w)
more old new n cost f is long here so_far = rw is (omega (arith, length-append old (cost ∷ [])), λ w l. go w l (cases_eq w n))
  where
    go : (w : ℕ) → w < n + 1 → (w ≡ n) ⊎ (w ≡ n → ⊥) → get_or (old ++ cost ∷ []) w 0 ≡ f w
    go w l (inl same) = rw same (get_or_push old cost 0 n long ∙ here)
    go w l (inr other) = let low : w < length old = omega arith in get_or_append_left old (cost ∷ []) 0 w low ∙ so_far w (omega arith)

pub loop-v-preserved : goal.loop-v-preserved
loop-v-preserved c =
    let inv = c.loop-v.invariant in
    let steps = c.args.steps.now in
    let prices = c.args.prices.now in
    let cost = λ (w : ℕ). if get_or steps w 0 == 1 then 1 else get_or prices w 0 in
    let n = c.loop-v.v in
    let here : c.if-direct.cost ≡ cost n = elim c.if-direct.branch [
      | then-direct w ↦ (let one : (get_or steps n 0 == 1) ≡ true = search rules in w.cost-is ∙ rw one refl)
      | else-direct w ↦ (let other : (get_or steps n 0 == 1) ≡ false = search rules in w.cost-is ∙ rw other refl)
    ] in
    more c.loop-v.costs.items c.push.new.self.items n c.if-direct.cost cost c.in_ok-push.ensures.items inv.0 here inv.1

pub returns : goal.returns
returns c = rw c.new.ensures (record { long = omega (arith, c.loop-v.invariant.0); each = λ v l. c.loop-v.invariant.1 v (omega arith) })
