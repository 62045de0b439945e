-- How a parse of words that clap has judged may fail.
use Rattle.std.proofs.Common.{◌≡◌, [], Ok, Err, subst, sym, inl}
use Rattle.std.specs.Prelude.{Result, IfErr, IsErrAnd}
use Rattle.clap.specs.Words.{FailsBy, HasKind, Kinds, kind_of}
use Rattle.clap.specs.declared.error.Error.{Error}
use Rattle.clap.specs.declared.error.kind.ErrorKind.TheVariants.{OutOfMemory}

-- without a fault in the words only memory can be wanting
pub only_memory : {A : Type 0} (kinds : Kinds) (r : Result A Error) → kinds ≡ [] → IfErr r (λ e. kind_of e ≡ OutOfMemory) → FailsBy kinds r
only_memory kinds (Ok asked) none fails = none
only_memory kinds (Err error) none fails = inl fails

-- a parse that fails ends with its own error
pub fails_again : {A : Type 0} (kinds : Kinds) (e : Error) (r : Result A Error) → HasKind kinds e → IsErrAnd r (λ u. u ≡ e) → FailsBy kinds r
fails_again kinds e (Ok asked) has same = absurd same
fails_again kinds e (Err u) has same = subst (HasKind kinds) (sym same) has
