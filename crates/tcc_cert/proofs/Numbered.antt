-- What holds of each item of a list by its index.
use Rattle.std.proofs.Common.{◌≡◌, ℕ, zero, suc, ◌+◌, ◌<◌, List, [], ◌∷◌, length, ap, ◌∙◌, arith}
use Rattle.std.specs.List.{AllByRecursion}
use Rattle.tcc_cert.specs.Tables.{row_of}

-- the items' indices begin with this one
abbrev pub EachFrom : {X : Type 0} → (ℕ → X → Type 0) → ℕ → List X → Type 0
EachFrom P from [] = Unit {0}
EachFrom P from (x ∷ xs) = P from x × EachFrom P (from + 1) xs

pub each-same : {X : Type 0} (P : X → Type 0) (from : ℕ) (xs : List X) → AllByRecursion P xs → EachFrom (λ i x. P x) from xs
each-same P from [] all = tt
each-same P from (x ∷ xs) all = (all.0, each-same P (from + 1) xs all.1)

pub same-each : {X : Type 0} (P : X → Type 0) (from : ℕ) (xs : List X) → EachFrom (λ i x. P x) from xs → AllByRecursion P xs
same-each P from [] all = tt
same-each P from (x ∷ xs) all = (all.0, same-each P (from + 1) xs all.1)

pub each-two : {X : Type 0} (P : ℕ → X → Type 0) (Q : X → Type 0) (R : ℕ → X → Type 0) (from : ℕ) (xs : List X) → ((i : ℕ) (x : X) → P i x → Q x → R i x)
    → EachFrom P from xs → AllByRecursion Q xs → EachFrom R from xs
each-two P Q R from [] f p q = tt
each-two P Q R from (x ∷ xs) f p q = (f from x p.0 q.0, each-two P Q R (from + 1) xs f p.1 q.1)

pub each-one : {X : Type 0} (P R : ℕ → X → Type 0) (from : ℕ) (xs : List X) → ((i : ℕ) (x : X) → P i x → R i x) → EachFrom P from xs → EachFrom R from xs
each-one P R from [] f p = tt
each-one P R from (x ∷ xs) f p = (f from x p.0, each-one P R (from + 1) xs f p.1)

-- ---- widths of rows

pub widths-from : (columns : ℕ → ℕ) (from : ℕ) (table : List (List ℕ)) → ((s : ℕ) → s < length table → length (row_of table s) ≡ columns (from + s))
    → EachFrom (λ i row. length row ≡ columns i) from table
widths-from columns from [] wide = tt
widths-from columns from (row ∷ rows) wide =
    (wide 0 (omega arith) ∙ ap columns (omega arith), widths-from columns (from + 1) rows (λ s lt. wide (suc s) (omega (arith, lt)) ∙ ap columns (omega arith)))

pub from-widths : (columns : ℕ → ℕ) (from : ℕ) (table : List (List ℕ)) → EachFrom (λ i row. length row ≡ columns i) from table
    → (s : ℕ) → s < length table → length (row_of table s) ≡ columns (from + s)
from-widths columns from [] each s lt = absurd (omega (arith, lt))
from-widths columns from (row ∷ rows) each zero lt = each.0 ∙ ap columns (omega arith)
from-widths columns from (row ∷ rows) each (suc s) lt = from-widths columns (from + 1) rows each.1 s (omega (arith, lt)) ∙ ap columns (omega arith)
