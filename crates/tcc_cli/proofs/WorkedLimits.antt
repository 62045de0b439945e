-- What the limits are printed as, worked out.
use Rattle.std.proofs.Common.{◌≡◌, refl, codes}
use Rattle.std.specs.Fmt.{char_count, digits, padded, padded_integral, take_chars}
use lib.Utf8.{encode}
use Rattle.tcc_cli.specs.Limits.{limit_line}

-- the columns are those that the first line of the table names
a_line : limit_line (codes "operations of a transaction") 7 16777216 ≡ codes "operations of a transaction            7      16777216\n"
unfolding char_count digits padded padded_integral take_chars encode
a_line = refl
