use Rattle.std.proofs.Common.{◌≡◌, List, drop, take, sym, ap, subst, ◌∙◌}
use Rattle.tcc_graph.specs.declared.link.Link.{Link}
use Rattle.tcc_graph.specs.Routes.{AreCycle}
use Rattle.tcc_large.specs.Cycles.{IsSimple}
use Rattle.tcc_large.specs.private.Returning.{IsFirstReturn}
use Rattle.tcc_large.proofs.Returned.{return_cycle, return_simple}
use Rattle.tcc_large.proofs.simple_cycle.simple_cycle.Goals as goal

pub returns-clause-simple : goal.returns-clause-simple
returns-clause-simple c =
    let links = c.args.links.items in
    let first = c.in_ok-first.first in
    let end = c.in_ok-first.end in
    let back : IsFirstReturn links first end = rw c.deref.ensures.value at c.in_ok-first.ensures in
    let cut : c.in_ok-split_off.field-0.items ≡ drop first (take end links) = c.in_ok-split_off.ensures.tail ∙ ap (λ (z : List Link). drop first z) c.truncate.ensures.items in
    subst (λ (z : List Link). IsSimple z) (sym cut) (return_simple links first end back)

pub returns-clause-cycle : goal.returns-clause-cycle
returns-clause-cycle c = λ j cycle.
    let links = c.args.links.items in
    let first = c.in_ok-first.first in
    let end = c.in_ok-first.end in
    let back : IsFirstReturn links first end = rw c.deref.ensures.value at c.in_ok-first.ensures in
    let cut : c.in_ok-split_off.field-0.items ≡ drop first (take end links) = c.in_ok-split_off.ensures.tail ∙ ap (λ (z : List Link). drop first z) c.truncate.ensures.items in
    subst (λ (z : List Link). AreCycle j z) (sym cut) (return_cycle j links first end back cycle)
