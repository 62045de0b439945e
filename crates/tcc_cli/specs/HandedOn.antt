-- What a writer that may leave out lines forwards.
use Rattle.std.specs.Prelude.{ℕ, zero, suc, Bool, true, false, List, Option, None}
use Rattle.tcc_cli.specs.declared.quiet.LineState.{LineState}
use Rattle.tcc_cli.specs.declared.quiet.LineState.TheVariants.{Begun, Shown, LeftOut}
use Rattle.tcc_cli.specs.declared.quiet.Quiet.{Quiet}

-- what is known of the stream, as long as nothing is left out or held back
abbrev pub while_nothing_waits : Bool → LineState → Option (List ℕ) → Option (List ℕ)
while_nothing_waits false (Begun zero) known = known
while_nothing_waits false (Begun (suc held)) known = None
while_nothing_waits false Shown known = None
while_nothing_waits false LeftOut known = None
while_nothing_waits true line known = None

-- all that was forwarded to the stream; nothing is said of it from where lines of orders are left out
abbrev pub handed_on : {W : Type 0} → (W → Option (List ℕ)) → Quiet W → Option (List ℕ)
handed_on contents quiet = while_nothing_waits quiet.is_quiet quiet.line (contents quiet.stream)
