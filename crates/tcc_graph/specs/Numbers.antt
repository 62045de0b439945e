-- The numbers of transactions, and their names.
use Rattle.std.specs.Prelude.{ℕ, ◌==◌, ◌&&◌, nat_lt, List, [], ◌∷◌, ◌++◌, Option, None, Some, if◌then◌else◌, slice_index_or, decimal, codes}
use Rattle.tcc_reads.specs.History.{History, count, owner, place}

-- the index of the session and the place of a committed transaction; none for `init` and past the last number
abbrev pub at : History → ℕ → Option (ℕ × ℕ)
at h n = if nat_lt 0 n && nat_lt n (count h) then Some (owner h n, place h n) else None

-- the name of a transaction's session
abbrev pub session_name : History → ℕ → List ℕ
session_name h n = slice_index_or h.sessions (owner h n) []

-- `init`, or the session's name, a slash and the place
abbrev pub label : History → ℕ → List ℕ
label h n = if n == 0 then codes "init" else session_name h n ++ 47 ∷ decimal (place h n)
