-- The line of what a run writes that is shown of it.
use Rattle.std.specs.Prelude.{ℕ, List, [], Bool, codes, map, fold, ◌==◌, ◌||◌, nat_eq, if◌then◌else◌}
use Rattle.std.specs.List.{slice_split, starts_with}

-- Whether a line is the first one of an answer, or the line of what comes in the place of one. The others, of an order, of links and of
-- read faults, begin otherwise
abbrev pub begins_answer : List ℕ → Bool
begins_answer line =
    starts_with nat_eq line (codes "consistent: ")
    || (starts_with nat_eq line (codes "anomaly: ")
    || (starts_with nat_eq line (codes "unresolved: ")
    || (starts_with nat_eq line (codes "row ")
    || starts_with nat_eq line (codes "memory"))))

-- what is between the line feeds of a text
abbrev pub lines_of : List ℕ → List (List ℕ)
lines_of text = slice_split (λ byte. byte == 10) text

-- the last of the lines that begins an answer; an empty one where none does
abbrev pub last_beginning : List (List ℕ) → List ℕ
last_beginning lines = fold (λ found line. if begins_answer line then line else found) [] lines

-- The first line of the last answer that a run writes, or the line of what comes in its place. It is the first line of all where the
-- records have no seal
abbrev pub headline : List ℕ → List ℕ
headline text = last_beginning (lines_of text)
