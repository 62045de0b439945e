-- The bytes that one write took are the next part of the text.
use Rattle.std.proofs.Common.{◌-◌, ◌++◌, length, take, drop, sym, ap, subst, ◌∙◌, arith, length-take}
use lib.Seq.{take-add, take-take}
use Rattle.std.specs.Io.KnownBytes.{Appends}
use Rattle.std.proofs.KnownBytes.{Appends-trans}
use Rattle.tcc_base.proofs.sending.write_out.Goals as goal

pub loop-sent-preserved : goal.loop-sent-preserved
loop-sent-preserved g c =
    let done = c.loop-sent.sent in
    let n = c.in_ok-taken.taken in
    let text = c.args.text.now in
    let before = c.loop-sent.invariant in
    let bound = c.in_ok-taken.ensures.bound in
    let most = length-take (length text - done) (drop done text) in
    let joined = ap (λ l. take done text ++ l) (take-take n (length text - done) (drop done text) (omega arith)) ∙ sym (take-add done n text) in
    (omega arith, subst (Appends _ _) joined (Appends-trans _ _ _ _ _ before.1 c.in_ok-taken.ensures.bytes))
