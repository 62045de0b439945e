use Rattle.std.proofs.Common.{refl}
use Rattle.tcc_watch.proofs.KeepingLemmas.{first_kept}
use Rattle.tcc_watch.proofs.kept.Kept.new.Goals as goal

pub returns : goal.returns
returns c = first_kept _ c.new-2.ensures.items c.new-3.ensures (c.in_ok-decided.ensures _)
