-- The rules for a claim that a list is a commit order. The clocks are untrusted: they claim to bound from above how much of each session
-- reaches a transaction.
use Rattle.std.specs.Prelude.{ℕ, ◌<◌, ◌≤◌, ◌≡◌, ◌≢◌, ◌⊎◌, List, [], length}
use Rattle.tcc_reads.specs.History.{History, count, owner, place}
use Rattle.tcc_graph.specs.Relations.{IsCausalPair}
use Rattle.tcc_graph.specs.Links.{MayContradict}
use Rattle.tcc_graph.specs.Orders.{Before, IsNumbering}
use Rattle.tcc_graph.specs.declared.level.Level.{Level}
use Rattle.tcc_graph.specs.declared.level.Level.TheVariants.{Causal, Atomic}
use Rattle.tcc_cert.specs.declared.certificate.OrderClaim.{OrderClaim}
use Rattle.tcc_cert.specs.Tables.{entry, HasSize}

-- at `Causal` the clocks have a row for each transaction, with a number for each session; at `Atomic` there are none
abbrev pub HasClocks : Level → ℕ → ℕ → List (List ℕ) → Type 0
HasClocks Causal transactions sessions clocks = HasSize transactions sessions clocks
HasClocks Atomic transactions sessions clocks = clocks ≡ []

-- the clocks and the list are as long as those of a history of this size
pub record HasOrderSizes (h : History) (k : OrderClaim) : Type 0 where
  pub order : length k.order ≡ count h
  pub sessions : k.sessions ≡ length h.sessions
  pub clocks : HasClocks k.level (count h) (length h.sessions) k.clocks

-- the clock of c is that of b or later in every column, and in the column of b's session it has b
pub record HasInClock (h : History) (clocks : List (List ℕ)) (b : ℕ) (c : ℕ) : Type 0 where
  pub kept : (session : ℕ) → session < length h.sessions → entry clocks b session ≤ entry clocks c session
  pub had : b ≢ 0 → place h b ≤ entry clocks c (owner h b)

-- each number once, every causal pair in order, and the clocks, where there are any, grow along causal pairs
pub record KeepsPairs (h : History) (k : OrderClaim) : Type 0 where
  pub numbering : IsNumbering (count h) k.order
  pub ordered : (a : ℕ) (b : ℕ) → IsCausalPair h a b → Before k.order a b
  pub clocks : k.level ≡ Causal → (b : ℕ) (c : ℕ) → IsCausalPair h b c → HasInClock h k.clocks b c

-- at `Causal`, by the clock of c, b may reach it; at `Atomic` it does in a single pair
abbrev pub MayReach : History → Level → List (List ℕ) → ℕ → ℕ → Type 0
MayReach h Causal clocks b c = (b ≡ 0) ⊎ (place h b ≤ entry clocks c (owner h b))
MayReach h Atomic clocks b c = IsCausalPair h b c

-- c reads from a, and b, which writes the key too and may reach c, is not before a
abbrev pub BreaksAxiom : History → OrderClaim → ℕ × ℕ → Type 0
BreaksAxiom h k at =
    (x : List ℕ) × (c : ℕ) × MayContradict h at.0 at.1 x c × MayReach h k.level k.clocks at.0 c × (Before k.order at.0 at.1 → ⊥)
