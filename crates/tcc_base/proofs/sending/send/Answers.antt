-- A flush that fails leaves the whole text in the writer.
use Rattle.std.proofs.Common.{length, sym, subst}
use Rattle.std.proofs.Math.Seq.{take-length}
use Rattle.std.specs.Io.KnownBytes.{Appends}
use Rattle.std.proofs.KnownBytes.{Appends-kept}
use Rattle.tcc_base.proofs.Failing.{on_err}
use Rattle.tcc_base.proofs.sending.send.Goals as goal

pub returns-clause-part : goal.returns-clause-part
returns-clause-part g c =
    let text = c.args.text.now in
    on_err c.flush.result
    (length text, subst (Appends _ _) (sym (take-length text)) (Appends-kept _ _ _ text c.in_ok-write_out.ensures.whole c.flush.ensures.bytes))
