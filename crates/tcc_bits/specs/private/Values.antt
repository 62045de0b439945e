-- The values of a row.
use Rattle.std.specs.Prelude.{ℕ, List, map, Option, None, Some}
use Rattle.tcc_bits.specs.Packed.{value_in, capped_at}
use Rattle.tcc_bits.specs.declared.packed.PackedValues.{PackedValues}
use Rattle.tcc_bits.specs.declared.packed.PackedValues.TheVariants.{Narrow, Wide}

-- values that are capped if there is a cap
abbrev pub capped_by : Option ℕ → List (Option ℕ) → List (Option ℕ)
capped_by None values = values
capped_by (Some cap) values = map (capped_at cap) values

abbrev pub values_in : PackedValues → List (Option ℕ)
values_in (Narrow narrow) = map value_in narrow.items
values_in (Wide wide) = wide.items
