use Rattle.std.proofs.Common.{subst}
use Rattle.tcc_core.specs.Shares.{SettleAt}
use Rattle.tcc_core.proofs.Settlement.{word_or_cycle, least_cycle}
use Rattle.tcc_steal.specs.Worlds.{shares_of}
use Rattle.tcc_steal.proofs.Keeping.{happens_enabled}
use Rattle.tcc_steal.proofs.WorldSettling.{run_sound, run_settles, one_word}
use Rattle.tcc_steal.proofs.laws.interleavings.Goals as goal

pub returns : goal.returns
returns c = record {
  enabled = happens_enabled;
  kept = run_sound;
  settled = run_settles;
  no_cycle = λ j workers seed events world is runs finished.
      word_or_cycle j (shares_of world) world.word (run_settles j workers seed events world is runs finished);
  least = λ j workers seed events world b is runs finished word.
      least_cycle j (shares_of world) b (subst (SettleAt j (shares_of world)) word (run_settles j workers seed events world is runs finished));
  same = λ j workers others seed another events more world other is runs finished too ran done.
      one_word j (shares_of world) (shares_of other) world.word other.word (run_settles j workers seed events world is runs finished)
      (run_settles j others another more other too ran done);
}
