-- What is printed, as text and as JSON, and how it is written.
use Rattle.std.specs.Prelude.{ℕ, ◌≡◌, ◌⊎◌, Bool, List, take, Option, Result, Ok, Err, codes, if◌then◌else◌}
use Rattle.std.specs.Io.KnownBytes.{Appends}
use Rattle.tcc_reads.specs.declared.fault.ReadFault.{ReadFault}
use Rattle.tcc_answer.specs.Texts.{answer_text}
use Rattle.tcc_answer.specs.Json.{answer_json, json_line}
use Rattle.tcc_answer.specs.declared.answer.Answer.{Answer}
use Rattle.tcc_print.specs.declared.run_error.RunError.{RunError}
use Rattle.tcc_print.specs.declared.run_error.RunError.TheVariants.{NoMemory}
use Rattle.tcc_rules.specs.declared.judgement.Judgement.{Judgement}
use Rattle.tcc_print.specs.declared.status.Status.{Status}
use Rattle.tcc_print.specs.declared.status.Status.TheVariants.{Device, Memory}
use Rattle.tcc_print.specs.Statuses.{code_of}
use Rattle.tcc_print.specs.Texts.{run_error_text, unresolved_text, verdict_text}
use Rattle.tcc_print.specs.Json.{run_error_line, unresolved_json}

-- the answer as text, or as one line of JSON
abbrev pub answered : Bool → Answer → List ℕ
answered json answer = if json then json_line (answer_json answer) else answer_text answer

-- all read faults, in place of an answer
abbrev pub unresolved : Bool → List ReadFault → List ℕ
unresolved json faults = if json then json_line (unresolved_json faults) else unresolved_text faults

-- what is printed in place of an answer
abbrev pub printed_error : Bool → RunError → List ℕ
printed_error json why = if json then run_error_line why else run_error_text why

-- the line that says that memory is out
abbrev pub memory_line : Bool → List ℕ
memory_line json = printed_error json NoMemory

-- the line for a file or a writer that failed
abbrev pub device_line : Bool → List ℕ
device_line json = if json then codes "{\"answer\":\"device\"}\n" else codes "device\n"

-- what a run of check prints
abbrev pub check_text : Result Judgement RunError → List ℕ
check_text (Ok judged) = verdict_text judged.claim judged.verdict
check_text (Err why) = run_error_text why

-- the text was written whole, and the status is its own; or a write failed, and a part of the text, from its front, was written
abbrev pub Prints : Option (List ℕ) → Option (List ℕ) → List ℕ → Status → ℕ → Type 0
Prints before after text status code =
    (Appends before after text × (code ≡ code_of status))
    ⊎ (((n : ℕ) × Appends before after (take n text)) × (code ≡ code_of Device))

-- a writer failed: a part of the text, from its front, was written
abbrev pub CutsOff : Option (List ℕ) → Option (List ℕ) → List ℕ → ℕ → Type 0
CutsOff before after text code = ((n : ℕ) × Appends before after (take n text)) × (code ≡ code_of Device)

-- the run ended while it wrote a text: a writer failed, or memory was out and that was said in its place
abbrev pub EndsIn : Bool → Option (List ℕ) → Option (List ℕ) → List ℕ → ℕ → Type 0
EndsIn json before after text code = CutsOff before after text code ⊎ Prints before after (memory_line json) Memory code

-- the text with its status, or in its place the line that says that memory is out
abbrev pub PrintsOrMemory : Bool → Option (List ℕ) → Option (List ℕ) → List ℕ → Status → ℕ → Type 0
PrintsOrMemory json before after text status code =
    Prints before after text status code ⊎ Prints before after (memory_line json) Memory code
