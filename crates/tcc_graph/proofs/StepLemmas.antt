-- The step from one transaction to another by a read.
use Rattle.std.proofs.Common.{ℕ, ◌<◌, ◌≡◌, inl, inr, false, List, [], ◌∷◌, length, map, get_or, sym, ◌∙◌, arith}
use Rattle.std.specs.Prelude.{All}
use Rattle.std.proofs.lemmas.Bool.{false≢true}
use Rattle.std.proofs.lemmas.List.{get_or_read}
use Rattle.tcc_reads.specs.History.{History}
use Rattle.tcc_graph.specs.Relations.{session_pair, reads_from, IsCausalPair, IsReadsPair}
use Rattle.tcc_graph.specs.Keys.{keys, key_at}

-- where two transactions are a causal pair and no session pair, the first key that is read makes it
pub read_step : (h : History) (names : List (List ℕ)) → names ≡ keys h → (a b : ℕ) (indices : List ℕ) → map (key_at h) indices ≡ reads_from h a b
    → All (λ k. k < length (keys h)) indices → session_pair h a b ≡ false → IsCausalPair h a b → (key : List ℕ) → key ≡ get_or names (get_or indices 0 0) key
    → IsReadsPair h a b key
read_step h names keyed a b indices are within apart (inl pair) key is = absurd (false≢true (sym apart ∙ pair))
read_step h names keyed a b [] are within apart (inr (x, (from, to, (k, l, same)))) key is =
    let none : k < 0 = rw (← are) at l in
    absurd (omega (arith, none))
read_step h names keyed a b (i ∷ rest) are within apart (inr (x, (from, to, there))) key is =
    let inside : i < length names = rw keyed (within 0 0 (omega arith)) in
    let here : key ≡ key_at h i = rw (← keyed) (get_or_read names i key inside is []) in
    (from, to, (0, rw (← are) (omega arith), rw (← are) (sym here)))
