-- What some command lines of the checker ask for, by clap's own words.
use Rattle.std.proofs.Common.{◌≡◌, true, [], ◌∷◌, refl, codes}
use Rattle.clap.specs.Faults.{fault_of, is_simple_and_free}
use Rattle.clap.specs.Simple.{is_simple}
use Rattle.clap.specs.declared.error.kind.ErrorKind.TheVariants.{InvalidSubcommand, UnknownArgument}
use Rattle.clap.proofs.OnLiterals.{clap_on_literals}
use Rattle.tcc_cli.specs.Checkers.{checker_command}
use Rattle.tcc_cli.proofs.WorkedCommandLines.{IsCheckRead}

-- clap says exactly when a parse by it fails, and of which kinds the fault may be
pub is_exact : is_simple_and_free checker_command ≡ true
unfolding clap_on_literals
is_exact = refl

pub is_simple_command : is_simple checker_command ≡ true
unfolding clap_on_literals
is_simple_command = refl

check_read : IsCheckRead checker_command (codes "tcc_checker")
unfolding clap_on_literals
check_read = (refl, refl, refl, refl, refl)

-- nothing else is there
none_explained : fault_of checker_command (codes "tcc_checker" ∷ codes "explain" ∷ []) ≡ UnknownArgument ∷ InvalidSubcommand ∷ []
unfolding clap_on_literals
none_explained = refl
