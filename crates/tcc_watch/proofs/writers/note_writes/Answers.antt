use Rattle.std.proofs.Common.{◌≡◌, List, ℕ, take, subst}
use Rattle.std.proofs.lemmas.List.{take_all}
use Rattle.tcc_bits.proofs.Lists.{nothing_in}
use Rattle.tcc_watch.specs.private.Writers.{AreNoted}
use Rattle.tcc_watch.proofs.Noted.{noted_more, all_noted}
use Rattle.tcc_watch.proofs.writers.note_writes.Goals as goal

pub loop-key-init : goal.loop-key-init
loop-key-init g c = record { noted = λ x there. absurd (nothing_in x there); left = λ x none. c.requires.right x }

pub loop-key-preserved : goal.loop-key-preserved
loop-key-preserved g c =
    let r = c.requires in
    noted_more g.h c.loop-key.writers c.add.new.self c.args.at c.args.number c.args.keys.now c.key-item.result c.loop-key.key-index
    c.loop-key-test.true c.key-item.is r.delivered r.below r.some r.owned r.placed r.written r.once c.loop-key.invariant c.in_ok-add.ensures

pub returns : goal.returns
returns g c =
    let r = c.requires in
    let all : take c.loop-key.key-index c.args.keys.now ≡ c.args.keys.now = take_all c.loop-key.key-index c.args.keys.now c.loop-key-test.false in
    all_noted g.h c.loop-key.writers c.args.number c.args.keys.now r.below r.written r.all
    (subst (λ (z : List (List ℕ)). AreNoted g.h c.loop-key.writers c.args.number z) all c.loop-key.invariant)
