use Rattle.std.proofs.Common.{sym, ◌∙◌}
use Rattle.tcc_watch.proofs.gaps.is_gap.Goals as goal

pub returns-in-None : goal.returns-in-None
returns-in-None c is =
    (c.in-Get.key, c.in-Get.value, c.in-Get.is, sym c.visible_write.ensures ∙ c.in-None.is, c.is_nowhere.ensures is)
