-- the words that are left give the rest of the options
use Rattle.std.proofs.Common.{◌≡◌, drop, map}
use Rattle.tcc_requests.specs.Headers.{flags_of, no_flags}
use Rattle.tcc_requests.proofs.question.flags_of.Given as goal

abbrev pub invariant-loop-word : goal.invariant-loop-word
invariant-loop-word l = flags_of l.flags (map (λ word. word.now) (drop l.word-index l.words)) ≡ flags_of no_flags (map (λ word. word.now) l.words)
