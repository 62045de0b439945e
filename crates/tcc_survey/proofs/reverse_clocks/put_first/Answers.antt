use Rattle.std.proofs.Common.{◌<◌, ℕ, sym, subst, arith}
use Rattle.std.specs.Prelude.{Contains}
use Rattle.std.proofs.lemmas.Result.{on_ok_weaker}
use Rattle.tcc_clocks.specs.Clocks.{IsAfter, IsWith}
use Rattle.tcc_survey.specs.private.Firsts.{AreFirstOf}
use Rattle.tcc_clocks.specs.declared.side.Side.TheVariants.{Future}
use Rattle.tcc_clocks.proofs.RowLemmas.{entries_same}
use Rattle.tcc_clocks.proofs.SpanLemmas.{owners_rise}
use Rattle.tcc_survey.proofs.FirstLemmas.{first_all, from_children}
use Rattle.tcc_survey.proofs.reverse_clocks.put_first.Goals as goal

pub first_numbers-requires-clause-rising : goal.first_numbers-requires-clause-rising
first_numbers-requires-clause-rising c = owners_rise c.args.block.now.graph.now c.requires.numbered c.args.block.now.owners.now c.requires.owners

pub returns-then-a-eq0 : goal.returns-then-a-eq0
returns-then-a-eq0 c =
    let h = c.args.block.now.graph.now in
    let all : AreFirstOf h (IsAfter h 0) c.args.block.now.from c.first_numbers.result =
    first_all h c.args.block.now.owners.now c.requires.owners c.args.block.now.from c.first_numbers.result c.first_numbers.ensures in
    let mine : AreFirstOf h (IsAfter h c.args.a) c.args.block.now.from c.first_numbers.result =
    subst (λ (z : ℕ). AreFirstOf h (IsAfter h z) c.args.block.now.from c.first_numbers.result) (sym c.if-a-eq0.true) all in
    on_ok_weaker c.put_like.result (λ e. (c.first_numbers.result, e, mine)) c.put_like.ensures

pub returns : goal.returns
returns c =
    let h = c.args.block.now.graph.now in
    let a = c.args.a in
    let some : 0 < a = omega (arith, c.if-a-eq0.false) in
    let children = c.args.children.now in
    on_ok_weaker c.put_row.result (λ w. (
      w.0,
      w.1,
      entries_same Future h (IsWith Future h (Contains children)) (IsAfter h a) c.args.block.now.from w.0 (from_children h c.requires.numbered a children some c.requires.children) w.2,
    )) c.put_row.ensures
