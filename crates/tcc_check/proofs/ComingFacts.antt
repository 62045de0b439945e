-- Parts that are still to come, and how they end.
use Rattle.std.proofs.Common.{◌≡◌, ℕ, ◌<◌, ◌⊎◌, Bool, true, false, cond, List, [], ◌∷◌, None, Result, Ok, Err, inl, inr, refl, sym, ap, subst, ◌∙◌, arith}
use Rattle.std.specs.Prelude.{IsErrAnd, map}
use Rattle.tcc_cert.specs.private.Collecting.{EndsIn}
use Rattle.tcc_cert.specs.Parts.{FaultsIn, IsFirst, Parts}
use Rattle.tcc_cert.specs.declared.fault.CertFault.{CertFault}
use Rattle.tcc_cert.specs.declared.part.Part.{Part}
use Rattle.tcc_cert.specs.declared.part.Part.TheVariants as part
use Rattle.tcc_cert.proofs.CollectFacts.{faults-end}
use Rattle.tcc_rules.specs.private.Faults.{fault_of, is_want_of_memory}
use Rattle.tcc_check.specs.private.Coming.{FailsAs}
use Rattle.tcc_rules.specs.declared.stream_fault.StreamFault.{StreamFault}
use Rattle.tcc_rules.specs.declared.stream_fault.StreamFault.TheVariants.{Text, NoMemory}

-- what holds of an error holds of the result that is it
pub by-error : {X : Type 0} (P : Result X StreamFault → Type 0) (o : Result X StreamFault) (fault : StreamFault) → IsErrAnd o (λ why. why ≡ fault)
    → P (Err fault) → P o
by-error P (Ok x) fault is p = absurd is
by-error P (Err why) fault is p = subst (λ u. P (Err u)) (sym is) p

no_memory : true ≡ false → ⊥
no_memory h = cc

-- a fault of the parts, or that of a reader that failed
pub fails-by : (ahead : Parts) (fault : CertFault) → EndsIn ahead fault → FailsAs ahead (fault_of fault)
fails-by ahead fault end = go (is_want_of_memory fault.kind) refl
  where
    go : (b : Bool) → is_want_of_memory fault.kind ≡ b → FailsAs ahead (cond b NoMemory (Text fault))
    go true e = tt
    go false e = (end, λ memory. no_memory (sym (ap is_want_of_memory memory) ∙ e))

pub fails-first : {F : Type 0} (ahead : Parts) (wanted : ℕ) (fault : CertFault) → 0 < wanted → FaultsIn F wanted ahead fault → FailsAs ahead (fault_of fault)
fails-first ahead wanted fault counted faults = fails-by ahead fault (faults-end ahead ahead wanted fault refl refl counted faults)

-- how some of the parts end is how they all end
pub fails-back : (ahead rest : Parts) (fault : StreamFault) → rest.line ≡ ahead.line → rest.fault ≡ ahead.fault → FailsAs rest fault → FailsAs ahead fault
fails-back ahead rest NoMemory line same fails = tt
fails-back ahead rest (Text fault) line same (inl is, kind) = (inl (sym same ∙ is.0, sym line ∙ is.1), kind)
fails-back ahead rest (Text fault) line same (inr cut, kind) =
    (inr (record { failure = cut.failure; counted = cut.counted; last = omega (arith, cut.last, line) }), kind)

-- ---- the first of some parts

-- it leaves the line of the end and the fault
pub first-ends : (given : Part) (ahead rest : Parts) → IsFirst given ahead rest → (rest.line ≡ ahead.line) × (rest.fault ≡ ahead.fault)
first-ends part.End ahead rest is = (ap (λ p. p.line) is.1, ap (λ p. p.fault) is.1)
first-ends (part.Order head) ahead rest is = (sym (ap (λ p. p.line) is), sym (ap (λ p. p.fault) is))
first-ends (part.Cycle head) ahead rest is = (sym (ap (λ p. p.line) is), sym (ap (λ p. p.fault) is))
first-ends (part.Link one) ahead rest is = (sym (ap (λ p. p.line) is), sym (ap (λ p. p.fault) is))
first-ends (part.Clocks row) ahead rest is = (sym (ap (λ p. p.line) is), sym (ap (λ p. p.fault) is))
first-ends (part.Near row) ahead rest is = (sym (ap (λ p. p.line) is), sym (ap (λ p. p.fault) is))
first-ends (part.Far row) ahead rest is = (sym (ap (λ p. p.line) is), sym (ap (λ p. p.fault) is))

pub first-line : (given : Part) (ahead rest : Parts) → IsFirst given ahead rest → rest.line ≡ ahead.line
first-line given ahead rest is = (first-ends given ahead rest is).0

pub first-fault : (given : Part) (ahead rest : Parts) → IsFirst given ahead rest → rest.fault ≡ ahead.fault
first-fault given ahead rest is = (first-ends given ahead rest is).1

-- the end comes where no part is left
pub first-parts : (given : Part) (ahead rest : Parts) → IsFirst given ahead rest
    → ((given ≡ part.End) × (ahead.parts ≡ []) × (ahead.fault ≡ None)) ⊎ (ahead.parts ≡ given ∷ rest.parts)
first-parts part.End ahead rest is = inl (refl, ap (λ p. p.parts) is.0, ap (λ p. p.fault) is.0)
first-parts (part.Order head) ahead rest is = inr (ap (λ p. p.parts) is)
first-parts (part.Cycle head) ahead rest is = inr (ap (λ p. p.parts) is)
first-parts (part.Link one) ahead rest is = inr (ap (λ p. p.parts) is)
first-parts (part.Clocks row) ahead rest is = inr (ap (λ p. p.parts) is)
first-parts (part.Near row) ahead rest is = inr (ap (λ p. p.parts) is)
first-parts (part.Far row) ahead rest is = inr (ap (λ p. p.parts) is)

-- ---- rows of one kind, each a part

module _ (kind : List ℕ → Part) (exact : (row other : List ℕ) → kind row ≡ kind other → row ≡ other) where
  pub next-row : (row : List ℕ) (rest : List Part) (todo : List (List ℕ)) → kind row ∷ rest ≡ map kind todo
      → (later : List (List ℕ)) × (todo ≡ row ∷ later) × (rest ≡ map kind later)
  next-row row rest [] is = absurd cc
  next-row row rest (one ∷ later) is = (later, ap (λ r. r ∷ later) (sym (exact row one cc)), cc)

  pub next-no-row : (given : Part) (rest : List Part) (todo : List (List ℕ)) → given ∷ rest ≡ map kind todo → (row : List ℕ) × (given ≡ kind row)
  next-no-row given rest [] is = absurd cc
  next-no-row given rest (row ∷ later) is = (row, cc)

  pub no-rows : (todo : List (List ℕ)) → [] ≡ map kind todo → todo ≡ []
  no-rows [] is = refl
  no-rows (row ∷ later) is = absurd cc
