-- Answers whose texts are worked out.
use Rattle.std.proofs.Common.{[], ◌∷◌, List, ℕ, codes}
use Rattle.tcc_graph.specs.declared.level.Level.TheVariants.{Causal, Atomic}
use Rattle.tcc_graph.specs.declared.step.Step.TheVariants as step
use Rattle.tcc_graph.specs.declared.link.Link.{Link}
use Rattle.tcc_graph.specs.declared.link.Link.TheVariants as link
use Rattle.tcc_answer.specs.declared.answer.Answer.{Answer}
use Rattle.tcc_answer.specs.declared.answer.Answer.TheVariants as answer

-- the anomaly of these links, between transactions of these labels
abbrev pub anomaly : List Link → List (List ℕ) → Answer
anomaly cycle names = answer.Anomaly (record { level = Causal; links = cycle; near = []; far = []; labels = names })

-- a read of 0 after an own write
abbrev pub stale_read : Answer
stale_read = anomaly (link.Session 0 1 ∷ link.Derived 1 0 (codes "x") 2 (step.Session 1 2 ∷ []) ∷ [])
    (codes "init" ∷ codes "a/1" ∷ codes "a/2" ∷ [])

-- the long fork
abbrev pub long_fork : Answer
long_fork = answer.Commit (record {
  level = Atomic;
  order = 0 ∷ 1 ∷ 2 ∷ 3 ∷ 4 ∷ [];
  sessions = 4;
  clocks = [];
  labels = codes "init" ∷ codes "a/1" ∷ codes "b/1" ∷ codes "c/1" ∷ codes "d/1" ∷ [];
})
