use Rattle.std.proofs.Common.{◌≡◌, ℕ, sym, ap, ◌∙◌, length, Some, refl, inr}
use Rattle.std.specs.Global.{Vec}
use Rattle.indexmap.specs.IndexMap.{get}
use Rattle.tcc_txn.specs.Bytes.{same}
use Rattle.tcc_book.proofs.Recorded.{relists}
use Rattle.tcc_book.proofs.state.add_position.Goals as goal

pub returns-in-Ok : goal.returns-in-Ok
returns-in-Ok c =
    let list = c.in-Some.list.now in (
      list,
      sym list.ok.0 ∙ sym c.len.ensures ∙ c.if-len-held.false,
      relists c.args.positions.now (c.get_mut.follows.lender c.push.new.self) c.args.session.now list c.push.new.self _ (sym c.in-Some.ensures.value)
          c.in-Ok.ensures.items (c.get_mut.follows.holds c.push.new.self),
    )

pub returns-in-Err : goal.returns-in-Err
returns-in-Err c =
    let list = c.in-Some.list.now in
    inr (
      list,
      relists c.args.positions.now (c.get_mut.follows.lender c.push.new.self) c.args.session.now list c.push.new.self _ (sym c.in-Some.ensures.value)
          c.in-Err.ensures.items (c.get_mut.follows.holds c.push.new.self),
    )

pub returns-then-len-held : goal.returns-then-len-held
returns-then-len-held c =
    let list = c.in-Some.list.now in
    let found : get same c.args.positions.now c.args.session.now ≡ Some list = sym c.in-Some.ensures.value in (
      refl,
      (λ other there long.
          let one : list ≡ other = cc (found, there) in
          c.if-len-held.true (c.len.ensures ∙ list.ok.0 ∙ ap (λ (v : Vec ℕ). length v.items) one ∙ long)),
      inr (list, relists c.args.positions.now (c.get_mut.follows.lender list) c.args.session.now list list list.items found refl (c.get_mut.follows.holds list)),
    )
