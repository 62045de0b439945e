use Rattle.std.proofs.Common.{◌≤◌, ◌∙◌, List, ℕ, length, sym, ap, arith}
use Rattle.tcc_watch.specs.private.Numbered.{number_in}
use Rattle.tcc_watch.specs.private.Values.{ValueMap, noted, noted_at}
use Rattle.tcc_watch.proofs.Numbers.{absent, present}
use Rattle.tcc_watch.proofs.values.WrittenValues.get.Goals as goal

pub returns-in-Some : goal.returns-in-Some
returns-in-Some c =
    let key = c.args.key.now in
    c.copied.ensures
    ∙ c.get.ensures.value
    ∙ ap (λ (k : ℕ). noted_at c.self.inside.numbers.entries k c.args.value)
    (sym (present key c.self.inside.keys c.in-Some.number c.self.invariant.0 c.in-Some.ensures))
    ∙ ap (λ (z : ValueMap). noted z key c.args.value) c.self.view_is

pub returns-in-None : goal.returns-in-None
returns-in-None c =
    let key = c.args.key.now in
    let keys = c.self.inside.keys in
    let past : length keys ≤ number_in key keys = let last = absent key keys c.in-None.ensures in omega (arith, last) in
    sym (c.self.invariant.1 (number_in key keys) c.args.value past) ∙ ap (λ (z : ValueMap). noted z key c.args.value) c.self.view_is
