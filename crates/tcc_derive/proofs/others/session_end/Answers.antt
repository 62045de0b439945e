use Rattle.tcc_derive.proofs.others.session_end.Goals as goal

pub returns : goal.returns
returns c =
    let later = rw c.deref.ensures.value at c.later-first.ensures in
    record { order = rw later.first at later.order; few = later.few; pairs = rw later.first at later.pairs }
