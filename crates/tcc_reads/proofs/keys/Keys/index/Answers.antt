use Rattle.std.proofs.Common.{sym, ◌∙◌, refl, subst}
use Rattle.std.specs.Option.{IsSome}
use Rattle.tcc_reads.proofs.Indices.{index_is}
use Rattle.tcc_reads.proofs.keys.Keys.index.Goals as goal

pub unwrap-requires : goal.unwrap-requires
unwrap-requires c = subst IsSome (sym (c.find.ensures.value ∙ index_is c.args.self.now c.args.key.now c.requires)) refl
