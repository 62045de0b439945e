-- Small histories, worked out by hand, that the shapes have to agree with.
use Rattle.std.proofs.Common.{[], ◌∷◌, inl, inr, refl, arith}
use Rattle.std.specs.Prelude.{codes}
use Rattle.std.proofs.lemmas.Bool.{false≢true}
use Rattle.tcc_reads.specs.History.{History, initial}
use Rattle.tcc_graph.proofs.Pairs.{pair_from_kinds}
use Rattle.tcc_graph.proofs.Worked.{x, y, entry, stale_read}
use Rattle.tcc_least.specs.Shapes.{IsRound, IsReturn}

-- a/1 writes x, and a/2 reads the initial value of x: from a/1 a derived link of two steps leads to `init`, and a pair back
pub stale_read-return : IsReturn stale_read 1 0
stale_read-return =
    ((x, 2, ((λ e. absurd (omega arith)), (omega arith, omega arith, (0, omega arith, refl)), (omega arith, refl)), inl refl), inl refl)

-- no pair leads from the reader back
pub stale_read-round : IsRound stale_read 4 0 2 → ⊥
stale_read-round (read, inl (few, same)) = absurd (omega arith)
stale_read-round (read, inr (inl (few, back))) = false≢true (pair_from_kinds stale_read 2 0 back)
stale_read-round (read, inr (inr (few, (d, (z, (from, to, (k, inside, is))), back)))) = absurd (omega arith)

-- each of a/1 and b/1 reads what the other writes
abbrev pub crossed : History
crossed = record {
  sessions = codes "a" ∷ codes "b" ∷ [];
  entries = initial ∷ entry 0 1 (x ∷ []) ((y, 2) ∷ []) ∷ entry 1 1 (y ∷ []) ((x, 1) ∷ []) ∷ [];
}

pub crossed-round : IsRound crossed 3 1 2
crossed-round = ((x, (omega arith, omega arith, (0, omega arith, refl))), inr (inl (omega arith, inr (y, (omega arith, omega arith, (0, omega arith, refl))))))

-- two pairs are not fewer than two
pub crossed-two : IsRound crossed 2 1 2 → ⊥
crossed-two (read, inl (few, same)) = absurd (omega arith)
crossed-two (read, inr (inl (few, back))) = absurd (omega arith)
crossed-two (read, inr (inr (few, back))) = absurd (omega arith)

-- b/1 reads from a/1, c/1 reads from b/1, and a/1 reads from c/1
abbrev pub three : History
three = record {
  sessions = codes "a" ∷ codes "b" ∷ codes "c" ∷ [];
  entries = initial ∷ entry 0 1 (x ∷ []) ((x, 3) ∷ []) ∷ entry 1 1 (y ∷ []) ((x, 1) ∷ []) ∷ entry 2 1 (x ∷ []) ((y, 2) ∷ []) ∷ [];
}

pub three-round : IsRound three 4 2 3
three-round = (
  (y, (omega arith, omega arith, (0, omega arith, refl))),
  inr (inr (
    omega arith,
    (1, (x, (omega arith, omega arith, (0, omega arith, refl))), inr (x, (omega arith, omega arith, (0, omega arith, refl)))),
  )),
)

-- three pairs are not fewer than three, and no pair leads straight back
pub three-three : IsRound three 3 2 3 → ⊥
three-three (read, inl (few, same)) = absurd (omega arith)
three-three (read, inr (inl (few, back))) = false≢true (pair_from_kinds three 3 2 back)
three-three (read, inr (inr (few, back))) = absurd (omega arith)

-- a transaction that reads from itself is a round of one pair
abbrev pub own : History
own = record { sessions = codes "a" ∷ []; entries = initial ∷ entry 0 1 (x ∷ []) ((x, 1) ∷ []) ∷ [] }

pub own-round : IsRound own 2 1 1
own-round = ((x, (omega arith, omega arith, (0, omega arith, refl))), inl (omega arith, refl))

-- b/1 reads x from a/1 and writes it, and b/2 reads it from a/1: a derived link of two steps from b/1 to a/1, and a pair back
abbrev pub overtaken : History
overtaken = record {
  sessions = codes "a" ∷ codes "b" ∷ [];
  entries = initial ∷ entry 0 1 (x ∷ []) [] ∷ entry 1 1 (x ∷ []) ((x, 1) ∷ []) ∷ entry 1 2 [] ((x, 1) ∷ []) ∷ [];
}

pub overtaken-return : IsReturn overtaken 2 1
overtaken-return = (
  (
    x,
    3,
    ((λ e. absurd (omega arith)), (omega arith, omega arith, (0, omega arith, refl)), (omega arith, refl)),
    inl refl,
  ),
  inr (x, (omega arith, omega arith, (0, omega arith, refl))),
)

-- there is none from a/1 to itself: a/1 is the source itself
pub overtaken-itself : IsReturn overtaken 1 1 → ⊥
overtaken-itself ((z, c, against, pair), back) = against.0 refl
