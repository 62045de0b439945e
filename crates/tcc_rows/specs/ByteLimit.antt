-- The bytes of a reader under a limit on their count.
use Rattle.std.specs.Prelude.{ℕ, nat_le, if◌then◌else◌, List, [], ◌∷◌, ◌++◌, length, take, Option, option_map}
use Rattle.tcc_rows.specs.declared.rows.limited.Limited.{Limited}
use Rattle.tcc_rows.specs.declared.rows.limited.BytesStage.{BytesStage}
use Rattle.tcc_rows.specs.declared.rows.limited.BytesStage.TheVariants.{Going, Ended, Over}

-- represents all bytes above the limit, and is not a byte itself
abbrev pub past_limit : ℕ
past_limit = 256

-- a text of at most that many bytes as it is; a longer one up to the limit, and then the mark that it is longer
unfoldable pub marked : ℕ → List ℕ → List ℕ
marked limit text = if nat_le (length text) limit then text else take limit text ++ past_limit ∷ []

-- what the limit lets through of the bytes that the inner reader has left: none once it has reached its end
abbrev pub limited_bytes : BytesStage → ℕ → Option (List ℕ) → Option (List ℕ)
limited_bytes Going left known = option_map (marked left) known
limited_bytes Ended left known = option_map (λ _. []) known
limited_bytes Over left known = option_map (λ _. past_limit ∷ []) known

-- the bytes that the inner reader has left, as far as the limit lets them through
abbrev pub limited_remaining : {R : Type 0} → (R → Option (List ℕ)) → Limited R → Option (List ℕ)
limited_remaining remaining s = limited_bytes s.stage s.left (remaining s.inner)
