use Rattle.std.proofs.Common.{◌≡◌, ◌<◌, ◌+◌, ◌-◌, ℕ, length, get_or, refl, subst, ◌∙◌, arith}
use Rattle.tcc_judge.specs.private.Least.{IsFoundFirst, IsLeastOf}
use Rattle.tcc_judge.specs.private.Behind.{IsBehindOf, IsBrokenFrom}
use Rattle.tcc_judge.proofs.BehindLemmas.{found_more, found_all}
use Rattle.tcc_judge.proofs.axiom_violation.first_of_block.Goals as goal

pub loop-place-init : goal.loop-place-init
loop-place-init c = record {
  same = refl;
  at = c.requires;
  found = λ at is. omega (arith, is.behind, is.inside);
}

pub loop-place-preserved : goal.loop-place-preserved
loop-place-preserved c =
    let h = c.args.graph.now in
    let order = c.args.order.now in
    let from = c.args.block.now.from in
    let inv = c.loop-place.invariant in
    let place : ℕ = c.loop-place.place - 1 in
    let inside : place < length order = omega arith in
    let was : c.loop-place.place ≡ place + 1 = omega arith in
    let found : IsFoundFirst (IsBrokenFrom h order from (place + 1)) c.loop-place.found
    = subst (λ (p : ℕ). IsFoundFirst (IsBrokenFrom h order from p) c.loop-place.found) was inv.found in
    let least : IsLeastOf (IsBehindOf h order from (place + 1) (get_or order place 0)) c.least_behind-b.result = rw inv.same at c.least_behind-b.ensures in
    record {
      same = c.go_back.ensures.from ∙ inv.same;
      at = c.in_ok-go_back.ensures.at;
      found = rw c.first_with-found.ensures
          (found_more h order inv.at.ready.ordered.numbering from place (get_or order place 0) inside refl c.loop-place.found c.least_behind-b.result
          inv.at.ready.few least found);
    }

pub returns : goal.returns
returns c = record {
  ready = c.loop-place.invariant.at.ready;
  found =
      found_all c.args.graph.now c.args.order.now c.loop-place.invariant.at.ready.ordered.numbering c.args.block.now.from c.loop-place.place (omega arith)
      c.loop-place.found c.loop-place.invariant.found;
}
