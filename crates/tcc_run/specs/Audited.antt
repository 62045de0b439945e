-- The answer for a book.
use Rattle.std.specs.Prelude.{◌≡◌, List, Result, Ok, Err}
use Rattle.tcc_book.specs.Passes.{Passed, IsWhole, recorded_by}
use Rattle.tcc_graph.specs.declared.level.Level.{Level}
use Rattle.tcc_cert.specs.Reading.{certificate_read}
use Rattle.tcc_cert.specs.Texts.{HasText, certificate_text}
use Rattle.tcc_answer.specs.Claims.{certificate_of}
use Rattle.tcc_explain.specs.Explained.{IsAnswerOfSnapshot}
use Rattle.tcc_reads.specs.Refusals.{IsRefusal}
use Rattle.tcc_answer.specs.declared.answer.Answer.{Answer}
use Rattle.tcc_run.specs.declared.audit_fault.AuditFault.{AuditFault}
use Rattle.tcc_run.specs.declared.audit_fault.AuditFault.TheVariants as fault

-- the first answer at the level for the map from the passes' names to what each recorded;
-- or why the book has no snapshot of exactly that; or why that has no answer
abbrev pub IsAudit : List Passed → Level → Result Answer AuditFault → Type 0
IsAudit passes level (Ok answer) = IsAnswerOfSnapshot (recorded_by passes) level answer
IsAudit passes level (Err (fault.Whole whole)) = IsWhole passes (Err whole)
IsAudit passes level (Err (fault.Explain refusal)) = IsRefusal (recorded_by passes) refusal

-- the answer's certificate has a text, which is read as this certificate and nothing else
abbrev pub IsReadBack : Answer → Type 0
IsReadBack answer =
    HasText (certificate_of answer) × (certificate_read (certificate_text (certificate_of answer)) ≡ Ok (certificate_of answer))
