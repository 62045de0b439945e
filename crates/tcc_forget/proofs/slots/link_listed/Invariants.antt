use Rattle.std.proofs.Common.{ℕ, ◌<◌, get_or}
use Rattle.tcc_forget.specs.Slots.{AreWide}
use Rattle.tcc_forget.specs.private.Linking.{AreBetween, Keeps, OrdersOne}
use Rattle.tcc_forget.proofs.slots.link_listed.Given as goal

abbrev pub ghost-link_one : goal.ghost-link_one
ghost-link_one g a = g.on

abbrev pub invariant-loop-b : goal.invariant-loop-b
invariant-loop-b g l = record {
  between : AreBetween g.on.history g.on.entry g.on.numbers l.rows;
  keeps : Keeps g.on.history l.initial.rows l.rows;
  wide : AreWide g.on.sessions l.rows;
  done : (k : ℕ) → k < l.b-index → OrdersOne g.on l.rows (get_or l.listed k 0) l.a;
}
