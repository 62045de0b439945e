-- Empty rows.
use Rattle.std.proofs.Common.{◌≡◌, ◌<◌, ◌≤◌, ℕ, ◌⊎◌, inl, inr, List, [], length}
use Rattle.std.specs.List.{Contains}
use Rattle.std.proofs.lemmas.Bool.{cases_lt}
use Rattle.std.proofs.lemmas.List.{get_or_past}
use Rattle.tcc_graph.specs.Tables.{row_of}
use Rattle.tcc_bits.proofs.Lists.{nothing_in}
use Rattle.tcc_order.specs.private.CausalLinks.{HasNone}

pub nothing_kept : {T : Type 0} (rows : List (List T)) → HasNone rows → (a : ℕ) (x : T) → Contains (row_of rows a) x → ⊥
nothing_kept rows none a x there = nothing_in x (rw (empty (cases_lt a (length rows))) at there)
  where
    empty : (a < length rows) ⊎ (length rows ≤ a) → row_of rows a ≡ []
    empty (inl less) = none a [] less
    empty (inr more) = get_or_past rows a [] more
