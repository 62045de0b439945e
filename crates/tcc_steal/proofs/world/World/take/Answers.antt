use Rattle.std.proofs.Common.{rules, ℕ, ◌≡◌, ◌<◌, ◌∙◌, None, Contains, refl, sym, ap, subst, arith}
use Rattle.tcc_steal.specs.Machines.{Machine, worker_of}
use Rattle.tcc_steal.specs.private.Fitting.{HasRow}
use Rattle.tcc_steal.proofs.Machining.{machine_in, found, take_made, few_left, idle_search}
use Rattle.tcc_steal.proofs.world.World.take.Goals as goal
use Rattle.std.proofs.lemmas.List.Elements.{All-filter, All-set}
use Rattle.std.proofs.lemmas.List.{length-map}
use Rattle.tcc_core.specs.Rows.{IsEmptyRow}

pub invariant_of-self-2 : goal.invariant_of-self-2
invariant_of-self-2 c =
    let fit = c.self.invariant in
    let left = c.self.inside.left.items in
    let s = c.args.start in
    rw c.take_out.ensures (record {
      most = fit.most;
      few = few_left s c.self.inside.starts left fit.few;
      below = All-filter _ (λ a. a < c.self.inside.starts) left fit.below;
      rows = All-set (λ desk. HasRow c.self.inside.starts desk.search) c.self.inside.desks.items c.args.worker _ (search rules) fit.rows;
    })

pub returns-clause-happens : goal.returns-clause-happens
returns-clause-happens c =
    let at = found c.self.inside c.args.worker c.in-Some.desk.now (c.in-Some.ensures.variant.0 refl) c.in-Some.ensures.value in
    let idle : c.in-Some.desk.now.search ≡ None = search rules in
    let here : Contains c.self.inside.left.items c.args.start = search rules in
    let same : c.in-Ok.search.start ≡ c.args.start = search rules in
    rw (sym c.self.view_is) (λ j priced is. take_made j
    (machine_in c.self.inside) c.take_out.new.left.items c.args.worker c.args.start c.in-Some.desk.now c.in-Ok.search is at idle here c.take_out.ensures
    same (subst (λ (n : ℕ). IsEmptyRow n c.in-Ok.search.row) (sym (ap (λ (z : Machine). z.starts) c.self.view_is ∙ c.requires)) c.in-Ok.ensures.empty))

pub returns-clause-answers : goal.returns-clause-answers
returns-clause-answers c =
    let at = found c.self.inside c.args.worker c.in-Some.desk.now (c.in-Some.ensures.variant.0 refl) c.in-Some.ensures.value in
    let idle : c.in-Some.desk.now.search ≡ None = search rules in
    let here : Contains c.self.inside.left.items c.args.start = search rules in
    rw (sym c.self.view_is) (
      (
        omega (arith, length-map c.self.inside.desks.items worker_of, c.in-Some.ensures.variant.0 refl, c.self.inside.desks.ok.0),
        idle_search (machine_in c.self.inside) c.args.worker c.in-Some.desk.now at idle,
      ),
      here,
    )
