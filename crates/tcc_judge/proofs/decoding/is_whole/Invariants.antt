use Rattle.std.proofs.Common.{◌≡◌, ◌<◌, ◌+◌, ℕ, length, get_or}
use Rattle.tcc_judge.proofs.decoding.is_whole.Given as goal

abbrev pub invariant-loop-session : goal.invariant-loop-session
invariant-loop-session l =
    (session : ℕ) → session < l.session → session < length l.decoder.next.items
    → get_or l.decoder.firsts.items (session + 1) 0 ≡ get_or l.decoder.next.items session 0
