-- Values in few bits, and values that are capped.
use Rattle.std.specs.Prelude.{ℕ, ◌==◌, min, Option, None, Some, if◌then◌else◌, unwrap_or}
use Rattle.tcc_bits.specs.declared.packed.TheConstants.{NO_VALUE}

-- what 16 bits represent
abbrev pub value_in : ℕ → Option ℕ
value_in bits = if bits == NO_VALUE then None else Some bits

-- the value, but at most the cap; the cap if there is no value
abbrev pub at_most : ℕ → Option ℕ → ℕ
at_most cap value = min cap (unwrap_or value cap)

-- the capped value, as what a row may have
abbrev pub capped_at : ℕ → Option ℕ → Option ℕ
capped_at cap value = Some (at_most cap value)
