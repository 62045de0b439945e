-- How the fault of a text is reported.
use Rattle.std.proofs.Common.{◌≡◌, ℕ, List, Bool, true, false, cond, Err, inl, inr, refl, sym, ap, ◌∙◌}
use Rattle.tcc_cert.specs.declared.fault.CertFault.{CertFault}
use Rattle.tcc_cert.specs.LargeReading.{is_large}
use Rattle.tcc_cert.specs.Outcomes.{IsLargeReading, IsReading}
use Rattle.tcc_check.specs.Streams.{IsStreamFault}
use Rattle.tcc_rules.specs.declared.stream_fault.StreamFault.{StreamFault}
use Rattle.tcc_rules.specs.declared.stream_fault.StreamFault.TheVariants.{Text, NoMemory}
use Rattle.tcc_rules.specs.private.Faults.{fault_of, is_want_of_memory}
use Rattle.tcc_verdict.specs.LargeChecks.{IsTextFault}
use Rattle.tcc_verdict.specs.private.LargeStages.{IsAnyStreamFault, IsLargeStreamFault}

no_memory : true ≡ false → ⊥
no_memory h = cc

-- a text that was found to be of version 3
pub large_fault : (bytes : List ℕ) (fault : CertFault) → IsLargeReading bytes (Err fault) → IsLargeStreamFault bytes (fault_of fault)
large_fault bytes fault is = go (is_want_of_memory fault.kind) refl
  where
    go : (b : Bool) → is_want_of_memory fault.kind ≡ b → IsLargeStreamFault bytes (cond b NoMemory (Text fault))
    go true e = tt
    go false e = (is, λ memory. no_memory (sym (ap is_want_of_memory memory) ∙ e))

-- a text whose first line is that of no version
pub first_fault : (bytes : List ℕ) (fault : CertFault) → IsReading bytes (Err fault) × IsLargeReading bytes (Err fault)
    → IsAnyStreamFault bytes (fault_of fault)
first_fault bytes fault both = go (is_want_of_memory fault.kind) refl
  where
    by_version : (b : Bool) → is_large bytes ≡ b → IsTextFault bytes fault
    by_version true e = inr (e, both.1)
    by_version false e = inl (e, both.0)

    go : (b : Bool) → is_want_of_memory fault.kind ≡ b → IsAnyStreamFault bytes (cond b NoMemory (Text fault))
    go true e = tt
    go false e = (by_version (is_large bytes) refl, λ memory. no_memory (sym (ap is_want_of_memory memory) ∙ e))

-- a fault of a text of this version is one of a text of any version
pub small_any : (bytes : List ℕ) (fault : StreamFault) → is_large bytes ≡ false → IsStreamFault bytes fault → IsAnyStreamFault bytes fault
small_any bytes (Text fault) small is = (inl (small, is.0), is.1)
small_any bytes NoMemory small is = tt

pub large_any : (bytes : List ℕ) (fault : StreamFault) → is_large bytes ≡ true → IsLargeStreamFault bytes fault → IsAnyStreamFault bytes fault
large_any bytes (Text fault) large is = (inr (large, is.0), is.1)
large_any bytes NoMemory large is = tt
