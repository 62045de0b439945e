-- Rows of lengths so far, and those to come.
use Rattle.std.proofs.Common.{◌≡◌, ℕ, ◌<◌, ◌≤◌, ◌+◌, ◌⊎◌, List, [], ◌∷◌, ◌++◌, length, get_or, None}
use Rattle.std.proofs.Common.{inl, inr, refl, sym, ap, subst, ◌∙◌, arith, append_assoc, append-nil}
use Rattle.std.specs.Prelude.{All, map}
use Rattle.std.proofs.lemmas.List.{length-append}
use Rattle.std.proofs.lemmas.List.Elements.{All-push}
use Rattle.std.proofs.Math.Seq.{get_or-append_seam}
use Rattle.tcc_cert.specs.Parts.{IsFirst, Parts}
use Rattle.tcc_cert.specs.declared.part.Part.{Part}
use Rattle.tcc_cert.specs.declared.part.Part.TheVariants as part
use Rattle.tcc_cert.specs.Tables.{IsCapped, row_of}
use Rattle.tcc_check.specs.private.Coming.{IsNearRight}
use Rattle.tcc_check.specs.declared.near_rows.NearRows.{NearRows}
use Rattle.tcc_check.proofs.ComingFacts.{first-fault, first-line, first-parts}

-- after these rows come the others
pub record IsNearBehind (rows : List (List ℕ)) (n : ℕ) (ahead rest : Parts) : Type 0 where
  pub line : rest.line ≡ ahead.line
  pub fault : rest.fault ≡ ahead.fault
  pub others : (near far : List (List ℕ)) → length near ≡ n → ahead.parts ≡ map part.Near near ++ map part.Far far
      → (todo : List (List ℕ)) × (near ≡ rows ++ todo) × (rest.parts ≡ map part.Near todo ++ map part.Far far)

pub near-none : (n : ℕ) (ahead : Parts) → IsNearBehind [] n ahead ahead
near-none n ahead = record { line = refl; fault = refl; others = λ near far long is. (near, refl, is) }

-- a row that is there is the next of them
next-near : (row : List ℕ) (rest : List Part) (todo far : List (List ℕ)) → part.Near row ∷ rest ≡ map part.Near todo ++ map part.Far far
    → (later : List (List ℕ)) × (todo ≡ row ∷ later) × (rest ≡ map part.Near later ++ map part.Far far)
next-near row rest [] [] is = absurd cc
next-near row rest [] (one ∷ far) is = absurd cc
next-near row rest (one ∷ later) far is = (later, (let same : row ≡ one = cc in ap (λ r. r ∷ later) (sym same)), cc)

-- the next part of them is such a row
next-not-near : (given : Part) (rest : List Part) (todo far : List (List ℕ)) → 0 < length todo → given ∷ rest ≡ map part.Near todo ++ map part.Far far
    → (row : List ℕ) × (given ≡ part.Near row)
next-not-near given rest [] far some is = absurd (omega (arith, some))
next-not-near given rest (row ∷ later) far some is = (row, cc)

none-left : (todo far : List (List ℕ)) → 0 < length todo → [] ≡ map part.Near todo ++ map part.Far far → ⊥
none-left [] far some is = omega (arith, some)
none-left (row ∷ later) far some is = cc

some-left : (rows near todo : List (List ℕ)) (n : ℕ) → length near ≡ n → near ≡ rows ++ todo → length rows < n → 0 < length todo
some-left rows near todo n long split l = omega (arith, long, l, ap length split, length-append rows todo)

pub near-more : (rows : List (List ℕ)) (n : ℕ) (row : List ℕ) (ahead now rest : Parts) → IsNearBehind rows n ahead now → IsFirst (part.Near row) now rest
    → IsNearBehind (rows ++ row ∷ []) n ahead rest
near-more rows n row ahead now rest behind first = record {
  line = first-line (part.Near row) now rest first ∙ behind.line;
  fault = first-fault (part.Near row) now rest first ∙ behind.fault;
  others = λ near far long is.
      let old = behind.others near far long is in
      let next = next-near row rest.parts old.0 far (sym (ap (λ p. p.parts) first) ∙ old.2) in
      (next.0, old.1 ∙ ap (λ t. rows ++ t) next.1 ∙ sym (append_assoc rows (row ∷ []) next.0), next.2);
}

-- another part comes only where there are fewer rows
pub near-other : (rows : List (List ℕ)) (n : ℕ) (given : Part) (ahead now rest : Parts) → ((row : List ℕ) → given ≡ part.Near row → ⊥) → length rows < n
    → IsNearBehind rows n ahead now → IsFirst given now rest
    → (near far : List (List ℕ)) → length near ≡ n → ahead.parts ≡ map part.Near near ++ map part.Far far → ⊥
near-other rows n given ahead now rest other fewer behind first near far long is = go (first-parts given now rest first)
  where
    old : (todo : List (List ℕ)) × (near ≡ rows ++ todo) × (now.parts ≡ map part.Near todo ++ map part.Far far)
    old = behind.others near far long is

    some : 0 < length old.0
    some = some-left rows near old.0 n long old.1 fewer

    go : ((given ≡ part.End) × (now.parts ≡ []) × (now.fault ≡ None)) ⊎ (now.parts ≡ given ∷ rest.parts) → ⊥
    go (inl end) = none-left old.0 far some (sym end.1 ∙ old.2)
    go (inr one) = let found = next-not-near given rest.parts old.0 far some (sym one ∙ old.2) in other found.0 found.1

-- a row that comes is the next of the table
pub near-here : (rows : List (List ℕ)) (n : ℕ) (row : List ℕ) (ahead now rest : Parts) → IsNearBehind rows n ahead now → IsFirst (part.Near row) now rest
    → (near far : List (List ℕ)) → length near ≡ n → ahead.parts ≡ map part.Near near ++ map part.Far far → get_or near (length rows) [] ≡ row
near-here rows n row ahead now rest behind first near far long is =
    let old = behind.others near far long is in
    let next = next-near row rest.parts old.0 far (sym (ap (λ p. p.parts) first) ∙ old.2) in
    ap (λ t. get_or t (length rows) []) (old.1 ∙ ap (λ t. rows ++ t) next.1) ∙ get_or-append_seam rows row next.0 []

-- so it is right, where the table is
pub near-row : (rows : List (List ℕ)) (n least : ℕ) (row : List ℕ) (ahead now rest : Parts) → IsNearBehind rows n ahead now → IsFirst (part.Near row) now rest
    → (near far : List (List ℕ)) → length near ≡ n → ahead.parts ≡ map part.Near near ++ map part.Far far → IsNearRight n least near
    → (length row ≡ n) × All (λ value. value ≤ least) row
near-row rows n least row ahead now rest behind first near far long is right = (
  subst (λ r. length r ≡ n) here (right.0.wide (length rows) [] inside),
  subst (λ r. All (λ value. value ≤ least) r) here (right.1 (length rows) [] inside),
)
  where
    old : (todo : List (List ℕ)) × (near ≡ rows ++ todo) × (now.parts ≡ map part.Near todo ++ map part.Far far)
    old = behind.others near far long is

    next : (later : List (List ℕ)) × (old.0 ≡ row ∷ later) × (rest.parts ≡ map part.Near later ++ map part.Far far)
    next = next-near row rest.parts old.0 far (sym (ap (λ p. p.parts) first) ∙ old.2)

    split : near ≡ rows ++ row ∷ next.0
    split = old.1 ∙ ap (λ t. rows ++ t) next.1

    inside : length rows < length near
    inside = omega (arith, ap length split, length-append rows (row ∷ next.0))

    here : get_or near (length rows) [] ≡ row
    here = near-here rows n row ahead now rest behind first near far long is

-- all rows came
pub near-all : (rows : List (List ℕ)) (n : ℕ) (ahead now : Parts) → IsNearBehind rows n ahead now → length rows ≡ n
    → (near far : List (List ℕ)) → length near ≡ n → ahead.parts ≡ map part.Near near ++ map part.Far far → (rows ≡ near) × (now.parts ≡ map part.Far far)
near-all rows n ahead now behind whole near far long is = go old.0 old.1 old.2
  where
    old : (todo : List (List ℕ)) × (near ≡ rows ++ todo) × (now.parts ≡ map part.Near todo ++ map part.Far far)
    old = behind.others near far long is

    go : (todo : List (List ℕ)) → near ≡ rows ++ todo → now.parts ≡ map part.Near todo ++ map part.Far far → (rows ≡ near) × (now.parts ≡ map part.Far far)
    go [] split left = (sym (split ∙ append-nil rows), left)
    go (row ∷ later) split left = absurd (omega (arith, whole, long, ap length split, length-append rows (row ∷ later)))

-- these rows came, and something is known of them
pub record AreNearBehind (n : ℕ) (least : ℕ) (P : List (List ℕ) → ℕ → NearRows → Type 0) (i : ℕ) (state : NearRows) (rows : List (List ℕ)) (ahead : Parts)
    (rest : Parts) : Type 0 where
  pub behind : IsNearBehind rows n ahead rest
  pub long : length rows ≡ i
  pub wide : All (λ row. length row ≡ n) rows
  pub cap : IsCapped least rows
  pub found : (near far : List (List ℕ)) → length near ≡ n → ahead.parts ≡ map part.Near near ++ map part.Far far → P near i state

module _ (n least : ℕ) (P : List (List ℕ) → ℕ → NearRows → Type 0) where
  pub near-begun : (state : NearRows) (ahead : Parts) → ((near : List (List ℕ)) → P near 0 state) → AreNearBehind n least P 0 state [] ahead ahead
  near-begun state ahead nothing = record {
    behind = near-none n ahead;
    long = refl;
    wide = λ k d l. absurd (omega (arith, l));
    cap = λ k d l. absurd (omega (arith, l));
    found = λ near far long is. nothing near;
  }

  pub near-goes-on : (i : ℕ) (state new : NearRows) (rows : List (List ℕ)) (row : List ℕ) (ahead now rest : Parts)
      → AreNearBehind n least P i state rows ahead now → IsFirst (part.Near row) now rest → length row ≡ n → All (λ value. value ≤ least) row
      → ((near : List (List ℕ)) → row_of near i ≡ row → P near i state → P near (i + 1) new) → AreNearBehind n least P (i + 1) new (rows ++ row ∷ []) ahead rest
  near-goes-on i state new rows row ahead now rest old first long capped more = record {
    behind = near-more rows n row ahead now rest old.behind first;
    long = length-append rows (row ∷ []) ∙ omega (arith, old.long);
    wide = All-push (λ row. length row ≡ n) rows row old.wide long;
    cap = All-push (λ row. All (λ value. value ≤ least) row) rows row old.cap capped;
    found =
        λ near far whole is. more near (ap (λ k. get_or near k []) (sym old.long) ∙ near-here rows n row ahead now rest old.behind first near far whole is)
        (old.found near far whole is);
  }

  pub near-ended : (state : NearRows) (rows : List (List ℕ)) (ahead now : Parts) → AreNearBehind n least P n state rows ahead now
      → (near far : List (List ℕ)) → length near ≡ n → ahead.parts ≡ map part.Near near ++ map part.Far far
      → IsNearRight n least near × P near n state × (now.parts ≡ map part.Far far)
  near-ended state rows ahead now old near far long is =
      let all = near-all rows n ahead now old.behind old.long near far long is in
      (subst (λ (t : List (List ℕ)). IsNearRight n least t) all.0 (record { long = old.long; wide = old.wide }, old.cap), old.found near far long is, all.1)
