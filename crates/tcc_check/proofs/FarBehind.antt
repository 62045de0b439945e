-- Rows of costs so far, and those to come: of those so far something is known.
use Rattle.std.proofs.Common.{◌≡◌, ℕ, ◌<◌, ◌≤◌, ◌+◌, ◌-◌, ◌⊎◌, List, [], ◌∷◌, ◌++◌, length, get_or}
use Rattle.std.proofs.Common.{None, inl, inr, refl, sym, ap, subst, ◌∙◌, arith, append_assoc}
use Rattle.std.specs.Prelude.{All, map}
use Rattle.std.proofs.lemmas.Bool.{cases_eq}
use Rattle.std.proofs.lemmas.List.{get_or_default, length-append}
use Rattle.std.proofs.Math.Seq.{get_or-append_seam}
use Rattle.tcc_cert.specs.Parts.{IsFirst, Parts}
use Rattle.tcc_cert.specs.Tables.{lowest, row_of}
use Rattle.tcc_cert.specs.declared.part.Part.{Part}
use Rattle.tcc_cert.specs.declared.part.Part.TheVariants as part
use Rattle.tcc_cert.specs.declared.version.Version.{Version}
use Rattle.tcc_check.specs.private.Coming.{IsFarRight}
use Rattle.tcc_check.specs.declared.far_rows.FarFaults.{FarFaults}
use Rattle.tcc_check.proofs.ComingFacts.{first-fault, first-line, first-parts, next-row, next-no-row, no-rows}

pub record AreFarRows (version : Version) (least : ℕ) (n : ℕ) (P : List (List ℕ) → ℕ → FarFaults → Type 0) (far : List (List ℕ)) (i : ℕ)
    (faults : FarFaults) (rest : Parts) : Type 0 where
  pub rows : List (List ℕ)
  pub todo : List (List ℕ)
  pub split : far ≡ rows ++ todo
  pub long : length rows ≡ i
  pub left : rest.parts ≡ map part.Far todo
  pub wide : (s : ℕ) → s < i → length (row_of far s) ≡ n - lowest version s
  pub cap : (s : ℕ) → s < i → All (λ value. value ≤ least) (row_of far s)
  pub found : P far i faults

pub record AreFarBehind (version : Version) (least : ℕ) (n : ℕ) (P : List (List ℕ) → ℕ → FarFaults → Type 0) (i : ℕ) (faults : FarFaults)
    (ahead rest : Parts) : Type 0 where
  pub line : rest.line ≡ ahead.line
  pub fault : rest.fault ≡ ahead.fault
  pub rows : (far : List (List ℕ)) → ahead.parts ≡ map part.Far far → AreFarRows version least n P far i faults rest

exact : (row other : List ℕ) → part.Far row ≡ part.Far other → row ≡ other
exact row other is = cc

module _ (version : Version) (least : ℕ) (n : ℕ) (P : List (List ℕ) → ℕ → FarFaults → Type 0) where
  pub far-none : (faults : FarFaults) → ((far : List (List ℕ)) → P far 0 faults) → (ahead : Parts) → AreFarBehind version least n P 0 faults ahead ahead
  far-none faults nothing ahead = record {
    line = refl;
    fault = refl;
    rows = λ far is. record {
      rows = [];
      todo = far;
      split = refl;
      long = refl;
      left = is;
      wide = λ s l. absurd (omega (arith, l));
      cap = λ s l. absurd (omega (arith, l));
      found = nothing far;
    };
  }

  -- another part comes only where there are fewer rows
  pub far-other : (i : ℕ) (faults : FarFaults) (given : Part) (ahead now rest : Parts) → ((row : List ℕ) → given ≡ part.Far row → ⊥) → i < n
      → AreFarBehind version least n P i faults ahead now → IsFirst given now rest
      → (far : List (List ℕ)) → ahead.parts ≡ map part.Far far → IsFarRight version n least far → ⊥
  far-other i faults given ahead now rest other fewer behind first far is right = go (first-parts given now rest first)
    where
      old : AreFarRows version least n P far i faults now
      old = behind.rows far is

      go : ((given ≡ part.End) × (now.parts ≡ []) × (now.fault ≡ None)) ⊎ (now.parts ≡ given ∷ rest.parts) → ⊥
      go (inl end) =
          let none = no-rows part.Far exact old.todo (sym end.1 ∙ old.left) in
          omega (arith, fewer, right.0.long, old.long, ap length old.split, length-append old.rows old.todo, ap length none)
      go (inr one) = let found = next-no-row part.Far exact given rest.parts old.todo (sym one ∙ old.left) in other found.0 found.1

  module _ (i : ℕ) (faults : FarFaults) (row : List ℕ) (ahead now rest : Parts) (behind : AreFarBehind version least n P i faults ahead now)
      (first : IsFirst (part.Far row) now rest) (far : List (List ℕ)) (is : ahead.parts ≡ map part.Far far) where
    old : AreFarRows version least n P far i faults now
    old = behind.rows far is

    next : (later : List (List ℕ)) × (old.todo ≡ row ∷ later) × (rest.parts ≡ map part.Far later)
    next = next-row part.Far exact row rest.parts old.todo (sym (ap (λ p. p.parts) first) ∙ old.left)

    split : far ≡ old.rows ++ row ∷ next.0
    split = old.split ∙ ap (λ t. old.rows ++ t) next.1

    inside : i < length far
    inside = omega (arith, ap length split, length-append old.rows (row ∷ next.0), old.long)

    pub far-here : row_of far i ≡ row
    far-here = ap (λ k. get_or far k []) (sym old.long) ∙ ap (λ t. get_or t (length old.rows) []) split ∙ get_or-append_seam old.rows row next.0 []

    -- a row is one of the table
    pub far-row : IsFarRight version n least far → (length row ≡ n - lowest version i) × All (λ value. value ≤ least) row
    far-row right = (
      sym (ap length far-here) ∙ right.0.wide i (omega (arith, inside, right.0.long)),
      subst (λ r. All (λ value. value ≤ least) r) far-here (right.1 i [] inside),
    )

    up-to : (P : ℕ → Type 0) → ((s : ℕ) → s < i → P s) → P i → (s : ℕ) → s < i + 1 → P s
    up-to P below here s l = go (cases_eq s i)
      where
        go : (s ≡ i) ⊎ (s ≡ i → ⊥) → P s
        go (inl same) = subst P (sym same) here
        go (inr apart) = below s (omega (arith, l, apart))

    -- one more row, of the right size and capped
    pub far-rows-more : (more : FarFaults) → length row ≡ n - lowest version i → All (λ value. value ≤ least) row → P far (i + 1) more
        → AreFarRows version least n P far (i + 1) more rest
    far-rows-more more long capped found = record {
      rows = old.rows ++ row ∷ [];
      todo = next.0;
      split = split ∙ sym (append_assoc old.rows (row ∷ []) next.0);
      long = length-append old.rows (row ∷ []) ∙ omega (arith, old.long);
      left = next.2;
      wide = up-to (λ s. length (row_of far s) ≡ n - lowest version s) old.wide (ap length far-here ∙ long);
      cap = up-to (λ s. All (λ value. value ≤ least) (row_of far s)) old.cap (subst (λ r. All (λ value. value ≤ least) r) (sym far-here) capped);
      found = found;
    }

    pub far-found : P far i faults
    far-found = old.found

  pub far-more : (i : ℕ) (faults more : FarFaults) (row : List ℕ) (ahead now rest : Parts) (behind : AreFarBehind version least n P i faults ahead now)
      (first : IsFirst (part.Far row) now rest) → length row ≡ n - lowest version i → All (λ value. value ≤ least) row
      → ((far : List (List ℕ)) → row_of far i ≡ row → P far i faults → P far (i + 1) more)
      → AreFarBehind version least n P (i + 1) more ahead rest
  far-more i faults more row ahead now rest behind first long capped found = record {
    line = first-line (part.Far row) now rest first ∙ behind.line;
    fault = first-fault (part.Far row) now rest first ∙ behind.fault;
    rows = λ far is. far-rows-more i faults row ahead now rest behind first far is more long capped
        (found far (far-here i faults row ahead now rest behind first far is) (far-found i faults row ahead now rest behind first far is));
  }

  -- all rows came
  pub far-all : (faults : FarFaults) (ahead now : Parts) → AreFarBehind version least n P n faults ahead now → (far : List (List ℕ))
      → ahead.parts ≡ map part.Far far → (now.parts ≡ [] → IsFarRight version n least far × P far n faults) × (IsFarRight version n least far → now.parts ≡ [])
  far-all faults ahead now behind far is = (right, more)
    where
      old : AreFarRows version least n P far n faults now
      old = behind.rows far is

      long : old.todo ≡ [] → length far ≡ n
      long none = omega (arith, ap length old.split, length-append old.rows old.todo, ap length none, old.long)

      right : now.parts ≡ [] → IsFarRight version n least far × P far n faults
      right end =
          let whole = long (no-rows part.Far exact old.todo (sym end ∙ old.left)) in (
            (
              record { long = whole; wide = old.wide },
              λ k d l. subst (λ r. All (λ value. value ≤ least) r) (same k d l)
                  (old.cap k (omega (arith, l, whole))),
            ),
            old.found,
          )
        where
          same : (k : ℕ) (d : List ℕ) → k < length far → get_or far k [] ≡ get_or far k d
          same k d l = get_or_default far k [] d l

      none-more : (todo : List (List ℕ)) → length todo ≡ 0 → map part.Far todo ≡ []
      none-more [] e = refl
      none-more (row ∷ later) e = absurd (omega (arith, e))

      more : IsFarRight version n least far → now.parts ≡ []
      more all = old.left ∙ none-more old.todo (omega (arith, ap length old.split, length-append old.rows old.todo, old.long, all.0.long))
