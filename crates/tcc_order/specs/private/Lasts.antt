-- The last places of sessions, for a set of transactions.
use Rattle.std.specs.Prelude.{ℕ, ◌<◌, ◌≤◌, ◌≡◌, ◌⊎◌, ◌==◌, ◌&&◌, nat_lt, if◌then◌else◌, max, List, length, slice_index}
use Rattle.tcc_reads.specs.History.{History, owner, place}
use Rattle.tcc_clocks.specs.Clocks.{IsOneOf, IsBefore, HasRows}

-- the greatest place of a transaction of the session in the set, or 0 if there is none
pub record IsLastOf (h : History) (Is : ℕ → Type 0) (session : ℕ) (last : ℕ) : Type 0 where
  pub attained : (last ≡ 0) ⊎ ((b : ℕ) × IsOneOf h Is session b × (place h b ≡ last))
  pub greatest : (b : ℕ) → IsOneOf h Is session b → place h b ≤ last

-- the last place of each session
pub record AreLastsOf (h : History) (Is : ℕ → Type 0) (row : List ℕ) : Type 0 where
  pub long : length row ≡ length h.sessions
  pub each : (session : ℕ) → session < length h.sessions → IsLastOf h Is session (slice_index row session)

-- the last place of a session, raised by that of p if p is in the session
abbrev pub raised : History → ℕ → ℕ → ℕ → ℕ
raised h p session last = if nat_lt 0 p && (owner h p == session) then max (place h p) last else last

-- the rows of these are done
abbrev pub HasLasts : History → (ℕ → Type 0) → List (List ℕ) → Type 0
HasLasts h IsDone table = HasRows h (λ c row. AreLastsOf h (IsBefore h c) row) IsDone table
