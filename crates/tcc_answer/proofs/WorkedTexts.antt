-- Worked texts agree with the definitions.
use Rattle.std.proofs.Common.{◌≡◌, [], ◌∷◌, ◌++◌, refl, codes, lit<}
use Rattle.std.proofs.lemmas.Fmt.{decimal_digit}
use Rattle.tcc_graph.specs.declared.level.Level.TheVariants.{Causal}
use Rattle.tcc_graph.specs.declared.step.Step.TheVariants as step
use Rattle.tcc_graph.specs.declared.link.Link.TheVariants as link
use Rattle.tcc_answer.specs.declared.answer.Answer.TheVariants as answer
use Rattle.tcc_answer.specs.Texts.{answer_text}
use Rattle.tcc_answer.proofs.WorkedAnswers.{anomaly, stale_read, long_fork}

-- no transactions
no_transactions : answer_text (answer.Commit (record { level = Causal; order = 0 ∷ []; sessions = 0; clocks = []; labels = codes "init" ∷ [] }))
    ≡ codes "consistent: 0 transactions, 0 sessions\norder: init\n"
no_transactions = rw (decimal_digit 0 (lit< tt)) refl

stale_read_text : answer_text stale_read
    ≡ codes "anomaly: 3 steps, stale-initial-read\nsession init -> a/1\n"
    ++ codes "derived a/1 -> init by x, read by a/2\n  session a/1 -> a/2\n  against init -> a/2 by x\n"
stale_read_text = rw (decimal_digit 3 (lit< tt)) refl

-- two transactions that read from one another
two_reads : answer_text (anomaly (link.Reads 1 2 (codes "x") ∷ link.Reads 2 1 (codes "y") ∷ [])
    (codes "init" ∷ codes "a/1" ∷ codes "b/1" ∷ []))
    ≡ codes "anomaly: 2 steps, cyclic-causality\nreads a/1 -> b/1 by x\nreads b/1 -> a/1 by y\n"
two_reads = rw (decimal_digit 2 (lit< tt)) refl

-- a read of a value that was known to be overwritten
overwritten_read : answer_text (anomaly (link.Session 1 2 ∷ link.Derived 2 1 (codes "x") 4 (step.Reads 2 3 (codes "x") ∷ step.Session 3 4 ∷ []) ∷ [])
    (codes "init" ∷ codes "a/1" ∷ codes "a/2" ∷ codes "b/1" ∷ codes "b/2" ∷ []))
    ≡ codes "anomaly: 4 steps, overwritten-read\nsession a/1 -> a/2\n"
    ++ codes "derived a/2 -> a/1 by x, read by b/2\n  reads a/2 -> b/1 by x\n  session b/1 -> b/2\n  against a/1 -> b/2 by x\n"
overwritten_read = rw (decimal_digit 4 (lit< tt)) refl

-- two writes, both read by one transaction: both reads are used twice, and counted twice
two_writes : answer_text (anomaly
    (link.Derived 1 2 (codes "x") 3 (step.Reads 1 3 (codes "x") ∷ []) ∷ link.Derived 2 1 (codes "x") 3 (step.Reads 2 3 (codes "x") ∷ []) ∷ [])
    (codes "init" ∷ codes "a/1" ∷ codes "b/1" ∷ codes "c/1" ∷ []))
    ≡ codes "anomaly: 4 steps, conflict-cycle\n"
    ++ codes "derived a/1 -> b/1 by x, read by c/1\n  reads a/1 -> c/1 by x\n  against b/1 -> c/1 by x\n"
    ++ codes "derived b/1 -> a/1 by x, read by c/1\n  reads b/1 -> c/1 by x\n  against a/1 -> c/1 by x\n"
two_writes = rw (decimal_digit 4 (lit< tt)) refl

long_fork_text : answer_text long_fork
    ≡ codes "consistent: 4 transactions, 4 sessions\norder: init a/1 b/1 c/1 d/1\n"
long_fork_text = rw (decimal_digit 4 (lit< tt)) refl
