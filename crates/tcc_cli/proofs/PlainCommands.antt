-- Of commands without arguments of their own for all subcommands.
use Rattle.std.proofs.Common.{◌≡◌, Bool, true, false, refl}
use Rattle.std.specs.Prelude.{◌&&◌, not}

-- a plain command has no global argument
pub no_globals : (groups external globals others : Bool) → (groups && (not external && (not globals && others))) ≡ true → globals ≡ false
no_globals true false false others plain = refl
no_globals true false true others plain = cc
no_globals true true globals others plain = let bad : ⊥ = cc in absurd bad
no_globals false external globals others plain = let bad : ⊥ = cc in absurd bad
