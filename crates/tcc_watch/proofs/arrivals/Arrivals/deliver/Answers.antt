use Rattle.std.proofs.Common.{ℕ, ◌≡◌, get_or, refl, rules, sym, subst, ◌∙◌}
use Rattle.std.proofs.lemmas.List.{get_or_default}
use Rattle.tcc_watch.specs.declared.lines.Line.{Line}
use Rattle.tcc_watch.specs.private.Keeping.{ComesNext}
use Rattle.tcc_watch.proofs.ArrivalLemmas.{comes_next, growth, one_delivered}
use Rattle.tcc_watch.proofs.arrivals.Arrivals.deliver.Goals as goal

pub take-requires : goal.take-requires
take-requires c =
    let a = c.args.self.now in
    let i : ℕ = c.args.index in
    let reads = c.args.reads.items in
    let ready = c.requires.ready in
    let old = c.index_mut.result.now in
    let new = c.next_of.new.line in
    let was : (d : Line) → get_or a.lines.items i d ≡ old = λ d. sym (c.index_mut.ensures.value ∙ get_or_default a.lines.items i old d ready.inside) in
    let number : c.in-Ok.session ≡ i = search rules in
    let are = c.requires.open.1 in (
      growth a i reads ready old new was c.in-Some.place c.in-Some.txn c.in-Some.ensures are.0,
      subst
          (λ (z : ℕ). ComesNext (growth a i reads ready old new was c.in-Some.place c.in-Some.txn c.in-Some.ensures are.0) a.kept
          (record { session = z; place = c.in-Some.place }) c.in-Some.txn reads)
          (sym number) (comes_next a i reads ready old new was c.in-Some.place c.in-Some.txn c.in-Some.ensures c.requires.open.0 are),
    )

pub returns : goal.returns
returns c s are =
    let a = c.args.self.now in
    let i : ℕ = c.args.index in
    let reads = c.args.reads.items in
    let ready = c.requires.ready in
    let old = c.index_mut.result.now in
    let new = c.next_of.new.line in
    let was : (d : Line) → get_or a.lines.items i d ≡ old = λ d. sym (c.index_mut.ensures.value ∙ get_or_default a.lines.items i old d ready.inside) in
    let number : c.in-Ok.session ≡ i = search rules in
    one_delivered a i reads ready old new was c.in-Some.place c.in-Some.txn c.in-Some.ensures s are _ _ refl
    (c.in_ok-take.ensures (growth a i reads ready old new was c.in-Some.place c.in-Some.txn c.in-Some.ensures are.0)
    (subst
    (λ (z : ℕ). ComesNext (growth a i reads ready old new was c.in-Some.place c.in-Some.txn c.in-Some.ensures are.0) a.kept
    (record { session = z; place = c.in-Some.place }) c.in-Some.txn reads)
    (sym number) (comes_next a i reads ready old new was c.in-Some.place c.in-Some.txn c.in-Some.ensures s are)))
