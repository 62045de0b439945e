-- n bytes came, and are held after those that were
use Rattle.std.proofs.Common.{◌≡◌, ◌+◌, ℕ, List, length, option_map}
use Rattle.std.specs.Io.KnownBytes.{Consumes}
use Rattle.tcc_requests.specs.private.Reading.{IsHeld}
use Rattle.tcc_requests.proofs.body.read_part.Given as goal

abbrev pub invariant-loop-left : goal.invariant-loop-left
invariant-loop-left g l =
    (seen : List ℕ) × (length seen + l.left ≡ l.fn.count) × Consumes (g.R.Read.remaining l.initial.reader) (g.R.Read.remaining l.reader) seen
    × IsHeld (option_map (λ bytes. bytes.items) l.initial.held) seen (option_map (λ bytes. bytes.items) l.held)

abbrev pub decreases-loop-left : goal.decreases-loop-left
decreases-loop-left g l = l.left
