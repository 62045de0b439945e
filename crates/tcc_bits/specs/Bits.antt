-- Rows of marks, 64 in a word. The calls of `bits` are described by them, for the crates above. No answer of the program is
-- described by them.
use Rattle.std.specs.Prelude.{ℕ, ◌≡◌, ◌↔◌, ◌+◌, ◌/◌, ◌%◌, ◌==◌, Bool, true, false, List, slice_index, Contains}
use Rattle.std.specs.Int.{bit_at}

-- whether a number is marked
unfoldable pub is_marked : List ℕ → ℕ → Bool
is_marked words b = bit_at (slice_index words (b / 64)) (b % 64) == 1

-- how many words hold this many marks
abbrev pub words_for : ℕ → ℕ
words_for n = n / 64 + 1

-- these are the numbers that are marked and not seen
abbrev pub IsFresh : List ℕ → List ℕ → List ℕ → Type 0
IsFresh seen marks fresh = (b : ℕ) → Contains fresh b ↔ ((is_marked marks b ≡ true) × (is_marked seen b ≡ false))
