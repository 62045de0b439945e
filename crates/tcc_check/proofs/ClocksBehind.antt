-- Rows of clocks so far, and those to come.
use Rattle.std.proofs.Common.{◌≡◌, ℕ, ◌⊎◌, List, [], ◌∷◌, ◌++◌, inl, inr, None, refl, sym, ap, ◌∙◌, append_assoc, append-nil}
use Rattle.std.specs.Prelude.{map}
use Rattle.tcc_cert.specs.Parts.{IsFirst, Parts}
use Rattle.tcc_cert.specs.declared.part.Part.{Part}
use Rattle.tcc_cert.specs.declared.part.Part.TheVariants as part
use Rattle.tcc_check.proofs.ComingFacts.{first-fault, first-line, first-parts, next-row, next-no-row, no-rows}

-- after these clocks come the others
pub record AreClocksBehind (clocks : List (List ℕ)) (ahead rest : Parts) : Type 0 where
  pub line : rest.line ≡ ahead.line
  pub fault : rest.fault ≡ ahead.fault
  pub others : (rows : List (List ℕ)) → ahead.parts ≡ map part.Clocks rows
      → (todo : List (List ℕ)) × (rows ≡ clocks ++ todo) × (rest.parts ≡ map part.Clocks todo)

pub clocks-none : (ahead : Parts) → AreClocksBehind [] ahead ahead
clocks-none ahead = record { line = refl; fault = refl; others = λ rows is. (rows, refl, is) }

exact : (row other : List ℕ) → part.Clocks row ≡ part.Clocks other → row ≡ other
exact row other is = cc

clocks-more : (clocks : List (List ℕ)) (row : List ℕ) (ahead now rest : Parts) → AreClocksBehind clocks ahead now → IsFirst (part.Clocks row) now rest
    → AreClocksBehind (clocks ++ row ∷ []) ahead rest
clocks-more clocks row ahead now rest behind first = record {
  line = first-line (part.Clocks row) now rest first ∙ behind.line;
  fault = first-fault (part.Clocks row) now rest first ∙ behind.fault;
  others = λ rows is.
      let old = behind.others rows is in
      let next = next-row part.Clocks exact row rest.parts old.0 (sym (ap (λ p. p.parts) first) ∙ old.2) in
      (next.0, old.1 ∙ ap (λ t. clocks ++ t) next.1 ∙ sym (append_assoc clocks (row ∷ []) next.0), next.2);
}

-- another part is not one of those that such a text has
clocks-other : (clocks : List (List ℕ)) (given : Part) (ahead now rest : Parts) → ((row : List ℕ) → given ≡ part.Clocks row → ⊥)
    → (given ≡ part.End → ⊥) → AreClocksBehind clocks ahead now → IsFirst given now rest → AreClocksBehind clocks ahead rest
clocks-other clocks given ahead now rest other going behind first = record {
  line = first-line given now rest first ∙ behind.line;
  fault = first-fault given now rest first ∙ behind.fault;
  others = λ rows is. absurd (go (behind.others rows is).0 (behind.others rows is).2 (first-parts given now rest first));
}
  where
    go : (todo : List (List ℕ)) → now.parts ≡ map part.Clocks todo
        → ((given ≡ part.End) × (now.parts ≡ []) × (now.fault ≡ None)) ⊎ (now.parts ≡ given ∷ rest.parts) → ⊥
    go todo left (inl end) = going end.0
    go todo left (inr one) = let found = next-no-row part.Clocks exact given rest.parts todo (sym one ∙ left) in other found.0 found.1

-- a part that comes, and is not the end: it is a row, which is kept, or another
pub clocks-on : (clocks next : List (List ℕ)) (given : Part) (ahead now rest : Parts) → (given ≡ part.End → ⊥)
    → ((row : List ℕ) → given ≡ part.Clocks row → next ≡ clocks ++ row ∷ []) → (((row : List ℕ) → given ≡ part.Clocks row → ⊥) → next ≡ clocks)
    → AreClocksBehind clocks ahead now → IsFirst given now rest → AreClocksBehind next ahead rest
clocks-on clocks next (part.Clocks row) ahead now rest going kept passed behind first =
    rw (kept row refl) (clocks-more clocks row ahead now rest behind first)
clocks-on clocks next given ahead now rest going kept passed behind first =
    let other : (row : List ℕ) → given ≡ part.Clocks row → ⊥ = λ row same. absurd cc in
    rw (passed other) (clocks-other clocks given ahead now rest other going behind first)

pub clocks-all : (clocks : List (List ℕ)) (ahead now rest : Parts) → AreClocksBehind clocks ahead now → IsFirst part.End now rest
    → (ahead.fault ≡ None) × ((rows : List (List ℕ)) → ahead.parts ≡ map part.Clocks rows → clocks ≡ rows)
clocks-all clocks ahead now rest behind first = (
  sym behind.fault ∙ ap (λ p. p.fault) first.0,
  λ rows is. whole rows (behind.others rows is).0 (behind.others rows is).1
      (no-rows part.Clocks exact (behind.others rows is).0 (sym (ap (λ p. p.parts) first.0) ∙ (behind.others rows is).2)),
)
  where
    whole : (rows todo : List (List ℕ)) → rows ≡ clocks ++ todo → todo ≡ [] → clocks ≡ rows
    whole rows todo split none = sym (split ∙ ap (λ t. clocks ++ t) none ∙ append-nil clocks)
