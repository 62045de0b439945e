-- What was read is run, up to the byte after the limit; nothing was written before a fault is reported.
use Rattle.std.proofs.Common.{◌+◌, ◌⊎◌, ℕ, List, Option, ap, subst, ◌∙◌}
use Rattle.tcc_verdict.proofs.Checked.{for_any}
use Rattle.tcc_full.specs.Runs.{TellsFault, TellsMemory}
use Rattle.tcc_full.proofs.Runs.{failed_run, out_of_memory, read_run, runs_of, stopped}
use Rattle.tcc_full.proofs.running.run_full.Goals as goal

pub returns-in-Ok-run_lawful-clause-noted : goal.returns-in-Ok-run_lawful-clause-noted
returns-in-Ok-run_lawful-clause-noted g c =
    rw (← c.take-taken.ensures.inner)
    (read_run c.args.asked.now c.args.run.now.options.now.required (g.R.Read.remaining c.take-taken.result.inner) c.take-taken.result.limit
    c.new-text.result.items c.read_to_end.new.buf.items c.deref.result.now _ _ _ _ c.in-Ok-run_lawful.code
    (c.take-taken.ensures.limit ∙ ap (λ n. n + 1) c.bytes.ensures) c.new-text.ensures.items c.deref.ensures.value c.in-Ok.ensures.bytes c.in-Ok-run_lawful.ensures)

pub returns-in-Ok-run_lawful-clause-run : goal.returns-in-Ok-run_lawful-clause-run
returns-in-Ok-run_lawful-clause-run g c =
    runs_of c.args.asked.now c.args.run.now.options.now.required (g.R.Read.remaining c.args.reader) _ _ _ _ c.in-Ok-run_lawful.code
    (returns-in-Ok-run_lawful-clause-noted g c)

pub returns-in-Ok-clause-noted : goal.returns-in-Ok-clause-noted
returns-in-Ok-clause-noted g c =
    let asked = c.args.asked.now in
    let after = g.W.Write.contents c.tell_fault.new.out in
    rw (← c.take-taken.ensures.inner)
    (read_run asked c.args.run.now.options.now.required (g.R.Read.remaining c.take-taken.result.inner) c.take-taken.result.limit
    c.new-text.result.items c.read_to_end.new.buf.items c.deref.result.now _ _ _ after c.tell_fault.result
    (c.take-taken.ensures.limit ∙ ap (λ n. n + 1) c.bytes.ensures) c.new-text.ensures.items c.deref.ensures.value c.in-Ok.ensures.bytes
    (stopped asked c.args.run.now.options.now.required c.deref.result.now c.in-Err-run_lawful.fault _ _ _ after c.tell_fault.result c.in-Err-run_lawful.ensures.0
    c.in-Err-run_lawful.ensures.2
    (subst (λ (before : Option (List ℕ)). TellsFault asked c.in-Err-run_lawful.fault before after c.tell_fault.result ⊎ TellsMemory asked before after c.tell_fault.result)
    c.in-Err-run_lawful.ensures.1 c.tell_fault.ensures)))

pub returns-in-Ok-clause-run : goal.returns-in-Ok-clause-run
returns-in-Ok-clause-run g c =
    runs_of c.args.asked.now c.args.run.now.options.now.required (g.R.Read.remaining c.args.reader) _ _ _ _ c.tell_fault.result
    (returns-in-Ok-clause-noted g c)

pub returns-in-Err-clause-noted : goal.returns-in-Err-clause-noted
returns-in-Err-clause-noted g c = for_any (g.R.Read.remaining c.args.reader)
    (λ bytes. out_of_memory c.args.asked.now c.args.run.now.options.now.required bytes _ _ _ c.tell_memory.result c.tell_memory.ensures)

pub returns-in-Err-clause-run : goal.returns-in-Err-clause-run
returns-in-Err-clause-run g c =
    runs_of c.args.asked.now c.args.run.now.options.now.required (g.R.Read.remaining c.args.reader) _ _ _ _ c.tell_memory.result
    (returns-in-Err-clause-noted g c)

pub returns-clause-noted : goal.returns-clause-noted
returns-clause-noted g c =
    rw (← c.take-taken.ensures.inner)
    (failed_run c.args.asked.now c.args.run.now.options.now.required (g.R.Read.remaining c.take-taken.result.inner) _ c.take-taken.result.limit
    c.new-text.result.items c.read_to_end.new.buf.items c.deref-in-Err-2.result.now _ _ _ _ c.run_failed.result
    (c.take-taken.ensures.limit ∙ ap (λ n. n + 1) c.bytes.ensures) c.new-text.ensures.items c.deref-in-Err-2.ensures.value c.read_to_end.ensures.none_lost
    c.run_failed.ensures)

pub returns-clause-run : goal.returns-clause-run
returns-clause-run g c =
    runs_of c.args.asked.now c.args.run.now.options.now.required (g.R.Read.remaining c.args.reader) _ _ _ _ c.run_failed.result
    (returns-clause-noted g c)
