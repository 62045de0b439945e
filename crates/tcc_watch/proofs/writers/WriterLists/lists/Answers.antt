use Rattle.std.proofs.Common.{◌≤◌, ◌∙◌, List, ℕ, [], get_or, length, sym, ap, arith}
use Rattle.tcc_watch.specs.private.Numbered.{number_in}
use Rattle.tcc_watch.specs.private.Writers.{WriterMap, lists_in}
use Rattle.tcc_watch.proofs.Numbers.{absent, present}
use Rattle.tcc_watch.specs.declared.linking.SessionWriters.{SessionWriters}
use Rattle.tcc_watch.proofs.writers.WriterLists.lists.Goals as goal

pub returns-in-Some : goal.returns-in-Some
returns-in-Some c =
    let key = c.args.key.now in
    let writers : List (List SessionWriters) = c.self.inside.writers.items in
    c.lists_at.ensures
    ∙ ap (λ (z : List (List SessionWriters)). get_or z c.in-Some.number []) c.deref.ensures.value
    ∙ ap (λ (k : ℕ). get_or writers k []) (sym (present key c.self.inside.keys c.in-Some.number c.self.invariant.0 c.in-Some.ensures))
    ∙ ap (λ (z : WriterMap). lists_in z key) c.self.view_is

pub returns-in-None : goal.returns-in-None
returns-in-None c =
    let key = c.args.key.now in
    let keys = c.self.inside.keys in
    let past : length keys ≤ number_in key keys = let last = absent key keys c.in-None.ensures in omega (arith, last) in
    sym (c.self.invariant.1 (number_in key keys) past) ∙ ap (λ (z : WriterMap). lists_in z key) c.self.view_is
