-- The bucket of an index of the tables.
use Rattle.std.proofs.Common.{◌≡◌, ◌≢◌, ◌<◌, ◌≤◌, ◌+◌, ◌-◌, ◌⊎◌, ℕ, inl, inr, List, length, set, length-set, slice_index, refl, sym, ◌∙◌, arith}
use Rattle.std.proofs.lemmas.Bool.{cases_lt, cond_below, cond_above}
use Rattle.std.proofs.lemmas.List.{get_or-set_same, get_or-set_other}
use Rattle.tcc_core.specs.private.LinkedBuckets.{home}

pub home_number : (bucket : List ℕ) (x : ℕ) → x < length bucket → home bucket x ≡ slice_index bucket x
unfolding home
home_number bucket x below = sym (cond_below x (length bucket) (slice_index bucket x) (x - length bucket) below)

home_past : (bucket : List ℕ) (x : ℕ) → length bucket ≤ x → home bucket x ≡ x - length bucket
unfolding home
home_past bucket x past = sym (cond_above x (length bucket) (slice_index bucket x) (x - length bucket) (x - length bucket) past refl)

pub home_end : (bucket : List ℕ) (b : ℕ) → home bucket (length bucket + b) ≡ b
home_end bucket b = omega (arith, home_past bucket (length bucket + b) (omega arith))

-- what is in a bucket at or past the numbers is the end of that bucket
pub end_of : (bucket : List ℕ) (x : ℕ) → length bucket ≤ x → x ≡ length bucket + home bucket x
end_of bucket x past = omega (arith, home_past bucket x past)

pub home_inside : (bucket : List ℕ) (size x : ℕ) → home bucket x < size → x < length bucket + size
home_inside bucket size x stands = go (cases_lt x (length bucket))
  where
    go : (x < length bucket) ⊎ (length bucket ≤ x) → x < length bucket + size
    go (inl below) = omega arith
    go (inr past) = omega (arith, end_of bucket x past)

pub home_set : (bucket : List ℕ) (v b : ℕ) → v < length bucket → home (set bucket v b) v ≡ b
home_set bucket v b below =
    let long : length (set bucket v b) ≡ length bucket = length-set bucket v b in
    home_number (set bucket v b) v (omega arith) ∙ get_or-set_same bucket v b 0 below

pub home_kept : (bucket : List ℕ) (v b x : ℕ) → x ≢ v → home (set bucket v b) x ≡ home bucket x
home_kept bucket v b x other = go (cases_lt x (length bucket))
  where
    long : length (set bucket v b) ≡ length bucket
    long = length-set bucket v b

    go : (x < length bucket) ⊎ (length bucket ≤ x) → home (set bucket v b) x ≡ home bucket x
    go (inl below) = home_number (set bucket v b) x (omega (arith, long)) ∙ (get_or-set_other bucket v x b 0 other ∙ sym (home_number bucket x below))
    go (inr past) = omega (arith, long, home_past (set bucket v b) x (omega (arith, long)), home_past bucket x past)
