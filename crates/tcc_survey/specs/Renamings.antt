-- Histories that differ in the numbers of their transactions alone.
use Rattle.std.specs.Prelude.{ℕ, ◌<◌, ◌≡◌, List}
use Rattle.tcc_reads.specs.History.{History, count}
use Rattle.tcc_graph.specs.Keys.{IsWriter}
use Rattle.tcc_graph.specs.Relations.{IsReadsPair, IsSessionPair}

-- each transaction has a number in the other history, `init` its own, and pairs and writes of the one are those of the other
pub record IsRenaming (h : History) (g : History) (to : ℕ → ℕ) : Type 0 where
  pub some : (a : ℕ) → a < count h → 0 < a → 0 < to a
  pub sessions : (a : ℕ) (b : ℕ) → IsSessionPair h a b → IsSessionPair g (to a) (to b)
  pub reads : (a : ℕ) (b : ℕ) (x : List ℕ) → IsReadsPair h a b x → IsReadsPair g (to a) (to b) x
  pub writers : (b : ℕ) (x : List ℕ) → IsWriter h b x → IsWriter g (to b) x

-- there and back
pub record AreAlike (h : History) (g : History) (to : ℕ → ℕ) (back : ℕ → ℕ) : Type 0 where
  pub there : IsRenaming h g to
  pub again : IsRenaming g h back
  pub same : (a : ℕ) → a < count h → back (to a) ≡ a
  pub other : (b : ℕ) → b < count g → to (back b) ≡ b
