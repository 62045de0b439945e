-- The recording was made at the limits that are asked for, and noted nothing.
use Rattle.std.proofs.Common.{ℕ, List, Option, ◌≡◌, Ok, subst, sym}
use Rattle.tcc_txn.specs.Snapshots.{Sessions}
use Rattle.tcc_txn.specs.declared.limits.Limits.{Limits}
use Rattle.tcc_rows.specs.Recordings.{IsRecorded}
use Rattle.tcc_full.specs.Notes.{IsNotedFull}
use Rattle.tcc_full.specs.declared.objects.ReportOptions.{ReportOptions}
use Rattle.tcc_full.proofs.running.run_lawful.Goals as goal

recorded : (limits asked : Limits) (text : List ℕ) (known s : Sessions) → asked ≡ limits → s ≡ known → IsRecorded limits text (Ok known)
    → IsRecorded asked text (Ok s)
recorded limits asked text known s within same is =
    subst (λ (t : Sessions). IsRecorded asked text (Ok t)) (sym same) (subst (λ (l : Limits). IsRecorded l text (Ok known)) (sym within) is)

unnoted : (asked : ReportOptions) (required : ℕ) (text : List ℕ) (old noted noted' before after : Option (List ℕ)) (code : ℕ)
    → noted ≡ old → IsNotedFull asked required text noted noted' before after code → IsNotedFull asked required text old noted' before after code
unnoted asked required text old noted noted' before after code same run = subst (λ n. IsNotedFull asked required text n noted' before after code) same run

pub returns-in_ok-recording-in-Small : goal.returns-in_ok-recording-in-Small
returns-in_ok-recording-in-Small g c =
    unnoted c.args.asked.now c.args.run.now.options.now.required c.args.text.now _ _ _ _ _ c.answer_checkpoint.result
    c.in_ok-recording-in-Small.ensures.noted
    (c.answer_checkpoint.ensures
    (recorded _ _ _ c.in_ok-recording-in-Small.recording.snapshot _ c.in-Small.is c.snapshot.ensures.value c.in_ok-recording-in-Small.ensures.recorded))

pub returns-in_ok-recording-in-Large : goal.returns-in_ok-recording-in-Large
returns-in_ok-recording-in-Large g c =
    unnoted c.args.asked.now c.args.run.now.options.now.required c.args.text.now _ _ _ _ _ c.answer_checkpoint-in-Large.result
    c.in_ok-recording-in-Large.ensures.noted
    (c.answer_checkpoint-in-Large.ensures
    (recorded _ _ _ c.in_ok-recording-in-Large.recording.snapshot _ c.in-Large.is c.snapshot-in-Large.ensures.value
    c.in_ok-recording-in-Large.ensures.recorded))
