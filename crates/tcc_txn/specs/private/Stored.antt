-- How a name is stored in memory.
use Rattle.std.proofs.Common.{◌≡◌, ℕ, ◌-◌, ◌≤◌, ◌<◌, ◌++◌, List, length, take, drop, ap, sym, ◌∙◌, refl, arith, length-append, None}
use Rattle.std.proofs.lemmas.Bool.Decides.{nat_tests}
use Rattle.std.proofs.lemmas.List.{length-take, length-replicate, drop-replicate, take_at}
use Rattle.std.specs.Prelude.{replicate}
use Rattle.tcc_txn.specs.Names.{name_fault}
use Rattle.tcc_txn.specs.declared.limits.TheConstants.{MAX_NAME_BYTES}
use Rattle.tcc_txn.specs.declared.name.Name.TheInside.{Inside}

-- up to `MAX_NAME_BYTES` bytes, padded to that length with zeros
abbrev pub padded : List ℕ → List ℕ
padded bytes = bytes ++ replicate (MAX_NAME_BYTES - length bytes) 0

-- how a name is stored in memory: its length, and `MAX_NAME_BYTES` bytes
pub record IsStored (len : ℕ) (buffer : List ℕ) : Type 0 where
  pub short : len ≤ MAX_NAME_BYTES
  pub whole : buffer ≡ padded (take len buffer)
  pub named : name_fault (take len buffer) ≡ None

-- up to `MAX_NAME_BYTES` bytes are padded to that length
pub length-padded : (bytes : List ℕ) → length bytes ≤ MAX_NAME_BYTES → length (padded bytes) ≡ MAX_NAME_BYTES
length-padded bytes short =
    omega (arith, length-append bytes (replicate (MAX_NAME_BYTES - length bytes) 0), length-replicate {A = ℕ} (MAX_NAME_BYTES - length bytes) 0)

-- the number of bytes of a name is its length
pub length-stored : (len : ℕ) (buffer : List ℕ) → IsStored len buffer → length (take len buffer) ≡ len
length-stored len buffer stored =
    let cut : length (take len buffer) ≤ MAX_NAME_BYTES = omega (arith, length-take len buffer, stored.short) in
    omega (arith, length-take len buffer, ap length stored.whole, length-padded (take len buffer) cut, stored.short)

abbrev pub fields_of : ℕ → List ℕ → Inside
fields_of len buffer = record { len = len; buffer = buffer }

-- the bytes of a name determine how it is stored in memory
pub stored_again : (n : Inside) → IsStored n.len n.buffer
    → fields_of (length (take n.len n.buffer)) (padded (take n.len n.buffer)) ≡ n
stored_again n stored =
    ap (λ len. fields_of len (padded (take n.len n.buffer))) (length-stored n.len n.buffer stored)
    ∙ ap (λ buffer. fields_of n.len buffer) (sym stored.whole)

-- without a fault there are 1 to `MAX_NAME_BYTES` bytes
pub few_bytes : (bytes : List ℕ) → name_fault bytes ≡ None → (0 < length bytes) × (length bytes ≤ MAX_NAME_BYTES)
few_bytes bytes found = (grind (arith, nat_tests, found), grind (arith, nat_tests, found))

-- the bytes of a name at the front of `MAX_NAME_BYTES` zeros
pub stored_in_front : (bytes : List ℕ) → name_fault bytes ≡ None → IsStored (length bytes) (bytes ++ drop (length bytes) (replicate MAX_NAME_BYTES 0))
stored_in_front bytes found =
    let front : take (length bytes) (bytes ++ drop (length bytes) (replicate MAX_NAME_BYTES 0)) ≡ bytes
    = take_at bytes (drop (length bytes) (replicate MAX_NAME_BYTES 0)) (length bytes) refl in
    record {
      short = (few_bytes bytes found).1;
      whole = rw front (ap (λ rest. bytes ++ rest) (drop-replicate (length bytes) MAX_NAME_BYTES 0));
      named = rw front found;
    }
