-- the pieces so far are at the end
use Rattle.std.proofs.Common.{◌≡◌, ◌++◌, take, flat_map}
use Rattle.tcc_answer.proofs.pieces.push.Given as goal

abbrev pub invariant-loop-piece : goal.invariant-loop-piece
invariant-loop-piece l = l.text.items ≡ l.initial.text.items ++ flat_map (λ piece. piece.now) (take l.piece-index l.pieces)
