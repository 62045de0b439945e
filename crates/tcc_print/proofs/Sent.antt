-- What is printed, by what was sent.
use Rattle.std.proofs.Common.{◌≡◌, ℕ, Bool, List, Option, Result, Ok, Err, inl, inr, ◌∙◌}
use Rattle.std.specs.Prelude.{IfErr, MatchResult, OnOk}
use Rattle.std.specs.Io.KnownBytes.{Appends}
use Rattle.tcc_print.specs.Printed.{EndsIn, PrintsOrMemory}
use Rattle.tcc_print.specs.Statuses.{code_of}
use Rattle.tcc_print.specs.declared.status.Status.{Status}

-- the text was written and has its status, or the run ended while it was written
pub printed : {A : Type 0} (before after : Option (List ℕ)) (text : List ℕ) (status : Status) (json : Bool) (sent : Result A ℕ) (code : ℕ)
    → OnOk sent (Appends before after text) → IfErr sent (EndsIn json before after text)
    → MatchResult sent (λ _. code ≡ code_of status) (λ c. code ≡ c) → PrintsOrMemory json before after text status code
printed before after text status json (Ok _) code whole ended is = inl (inl (whole, is))
printed before after text status json (Err c) code whole (inl cuts) is = inl (inr (cuts.0, is ∙ cuts.1))
printed before after text status json (Err c) code whole (inr (inl sent)) is = inr (inl (sent.0, is ∙ sent.1))
printed before after text status json (Err c) code whole (inr (inr part)) is = inr (inr (part.0, is ∙ part.1))
