-- First positions, stated in another way.
use Rattle.std.proofs.Common.{ℕ}
use Rattle.tcc_cert.specs.Tables.{IsFirstAt}
use Rattle.tcc_cert.specs.Rules.{HoldsEverywhere}

-- positions that are stated in another way
pub first_as : (P Q : ℕ × ℕ → Type 0) → ((at : ℕ × ℕ) → P at → Q at) → ((at : ℕ × ℕ) → Q at → P at) → (at : ℕ × ℕ) → IsFirstAt P at → IsFirstAt Q at
first_as P Q to back at h = record { here = to at h.here; first = λ earlier l q. h.first earlier l (back earlier q) }

pub nowhere_as : (P Q : ℕ × ℕ → Type 0) → ((at : ℕ × ℕ) → Q at → P at) → HoldsEverywhere P → HoldsEverywhere Q
nowhere_as P Q back h at q = h at (back at q)
