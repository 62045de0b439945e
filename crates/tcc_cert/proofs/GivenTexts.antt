-- The text of what was given, and one more row.
use Rattle.std.proofs.Common.{◌≡◌, ℕ, ◌+◌, ◌<◌, List, [], ◌∷◌, ◌++◌, Option, length, refl, sym, ap, subst, ◌∙◌}
use Rattle.std.proofs.Common.{append_assoc, append-nil, take, drop, get_or, take-append-drop, codes, decimal}
use Rattle.std.proofs.Common.{flat_map}
use Rattle.std.proofs.lemmas.List.{map-append}
use Rattle.std.proofs.lemmas.Grind.{take_at_read, flat_map-append}
use Rattle.std.specs.Io.KnownBytes.{Appends}
use Rattle.tcc_cert.specs.declared.certificate.CycleClaim.{CycleClaim}
use Rattle.tcc_cert.specs.declared.certificate.Certificate.TheVariants as claim
use Rattle.tcc_cert.specs.declared.cycle_writer.CycleTable.{CycleTable}
use Rattle.tcc_cert.specs.declared.cycle_writer.CycleTable.TheVariants as table
use Rattle.tcc_cert.specs.Texts.{Words, line_text, lines_text, numbers_words, table_lines, link_lines, header_words, certificate_text}
use Rattle.tcc_cert.specs.Begun.{MayTake, begun_lines, far_lines, given_lines, stage_of, with_rows}
use Rattle.tcc_cert.specs.private.Writing.{far_mark}
use Rattle.tcc_cert.proofs.SentFacts.{Stops-early, Appends-part}

-- the whole text of a claim
abbrev pub text_of : CycleClaim → List ℕ
text_of k = certificate_text (claim.Cycle k)

-- its lines before the rows
abbrev pub begun_of : ℕ → CycleClaim → List Words
begun_of count k = begun_lines k.version k.level count k.links k.least

-- three lists of lines
apart : (l t f : List Words) → lines_text (l ++ (t ++ f)) ≡ lines_text l ++ (lines_text t ++ lines_text f)
apart l t f = flat_map-append line_text l (t ++ f) ∙ ap (λ s. flat_map line_text l ++ s) (flat_map-append line_text t f)

-- what comes last, after two texts and after three
last_of_two : (l t f r : List ℕ) → f ≡ [] → l ++ ((t ++ r) ++ f) ≡ (l ++ (t ++ f)) ++ r
last_of_two l t f r none =
    rw none (ap (λ x. l ++ x) (append-nil (t ++ r)) ∙ sym (append_assoc l t r) ∙ ap (λ x. (l ++ x) ++ r) (sym (append-nil t)))

last_of_three : (l t f r : List ℕ) → l ++ (t ++ (f ++ r)) ≡ (l ++ (t ++ f)) ++ r
last_of_three l t f r = ap (λ x. l ++ x) (sym (append_assoc t f r)) ∙ sym (append_assoc l (t ++ f) r)

-- rows, and more rows
rows_text : (rows more : List (List ℕ)) → lines_text (table_lines (rows ++ more)) ≡ lines_text (table_lines rows) ++ lines_text (table_lines more)
rows_text rows more = ap (flat_map line_text) (map-append numbers_words rows more) ∙ flat_map-append line_text (table_lines rows) (table_lines more)

-- a text after the rows of `near`, where there is none of `far`
near_text : (count : ℕ) (k : CycleClaim) (more : List (List ℕ)) → k.far ≡ []
    → lines_text (given_lines count (record k { near = k.near ++ more })) ≡ lines_text (given_lines count k) ++ lines_text (table_lines more)
near_text count k more none =
    let l = begun_of count k in
    apart l (table_lines (k.near ++ more)) (far_lines k.far)
    ∙ ap (λ t. lines_text l ++ (t ++ lines_text (far_lines k.far))) (rows_text k.near more)
    ∙ last_of_two (lines_text l) (lines_text (table_lines k.near)) (lines_text (far_lines k.far)) (lines_text (table_lines more))
    (ap (λ far. lines_text (far_lines far)) none)
    ∙ ap (λ t. t ++ lines_text (table_lines more)) (sym (apart l (table_lines k.near) (far_lines k.far)))

pub one_near : (count : ℕ) (k : CycleClaim) (row : List ℕ) → k.far ≡ []
    → lines_text (given_lines count (with_rows table.Near k (row ∷ []))) ≡ lines_text (given_lines count k) ++ line_text (numbers_words row)
one_near count k row none =
    near_text count k (row ∷ []) none ∙ ap (λ t. lines_text (given_lines count k) ++ t) (append-nil (line_text (numbers_words row)))

-- a text after the rows of `far`
behind_far : (count : ℕ) (k : CycleClaim) (far : List (List ℕ)) (t : List ℕ) → lines_text (far_lines far) ≡ lines_text (far_lines k.far) ++ t
    → lines_text (given_lines count (record k { far = far })) ≡ lines_text (given_lines count k) ++ t
behind_far count k far t more =
    let l = begun_of count k in
    apart l (table_lines k.near) (far_lines far)
    ∙ ap (λ s. lines_text l ++ (lines_text (table_lines k.near) ++ s)) more
    ∙ last_of_three (lines_text l) (lines_text (table_lines k.near)) (lines_text (far_lines k.far)) t
    ∙ ap (λ s. s ++ t) (sym (apart l (table_lines k.near) (far_lines k.far)))

marked : (far : List (List ℕ)) (row : List ℕ) → lines_text (far_lines (far ++ row ∷ [])) ≡ lines_text (far_lines far)
    ++ (far_mark (stage_of far) ++ line_text (numbers_words row))
marked [] row = ap (λ t. line_text (codes "far" ∷ []) ++ t) (append-nil (line_text (numbers_words row)))
marked (x ∷ xs) row =
    ap (λ l. flat_map line_text ((codes "far" ∷ []) ∷ l)) (map-append numbers_words (x ∷ xs) (row ∷ []))
    ∙ flat_map-append line_text ((codes "far" ∷ []) ∷ table_lines (x ∷ xs)) (numbers_words row ∷ [])
    ∙ ap (λ t. flat_map line_text ((codes "far" ∷ []) ∷ table_lines (x ∷ xs)) ++ t) (append-nil (line_text (numbers_words row)))

pub one_far : (count : ℕ) (k : CycleClaim) (row : List ℕ)
    → lines_text (given_lines count (with_rows table.Far k (row ∷ []))) ≡ lines_text (given_lines count k) ++ (far_mark (stage_of k.far) ++ line_text (numbers_words row))
one_far count k row = behind_far count k (k.far ++ row ∷ []) (far_mark (stage_of k.far) ++ line_text (numbers_words row)) (marked k.far row)

more_marked : (far more : List (List ℕ)) → (t : List ℕ) × (lines_text (far_lines (far ++ more)) ≡ lines_text (far_lines far) ++ t)
more_marked [] more = (lines_text (far_lines more), refl)
more_marked (x ∷ xs) more = (
  lines_text (table_lines more),
  ap (λ l. flat_map line_text ((codes "far" ∷ []) ∷ l)) (map-append numbers_words (x ∷ xs) more)
      ∙ flat_map-append line_text ((codes "far" ∷ []) ∷ table_lines (x ∷ xs)) (table_lines more),
)

-- the end
ended : (far : List (List ℕ)) → lines_text ((codes "far" ∷ []) ∷ (table_lines far ++ (codes "end" ∷ []) ∷ [])) ≡ lines_text (far_lines far)
    ++ (far_mark (stage_of far) ++ line_text (codes "end" ∷ []))
ended [] = ap (λ t. line_text (codes "far" ∷ []) ++ t) (append-nil (line_text (codes "end" ∷ [])))
ended (x ∷ xs) =
    flat_map-append line_text ((codes "far" ∷ []) ∷ table_lines (x ∷ xs)) ((codes "end" ∷ []) ∷ [])
    ∙ ap (λ t. flat_map line_text ((codes "far" ∷ []) ∷ table_lines (x ∷ xs)) ++ t) (append-nil (line_text (codes "end" ∷ [])))

pub whole_text : (k : CycleClaim)
    → text_of k ≡ lines_text (given_lines (length k.near) k) ++ (far_mark (stage_of k.far) ++ line_text (codes "end" ∷ []))
whole_text k =
    let l = begun_of (length k.near) k in
    let f = (codes "far" ∷ []) ∷ (table_lines k.far ++ (codes "end" ∷ []) ∷ []) in
    let m = far_mark (stage_of k.far) ++ line_text (codes "end" ∷ []) in
    ap (λ r. line_text (header_words k.version k.level)
    ++ (line_text (codes "cycle" ∷ decimal (length k.near) ∷ decimal (length k.links) ∷ decimal k.least ∷ []) ++ lines_text r))
    (sym (append_assoc (flat_map link_lines k.links) ((codes "near" ∷ []) ∷ []) (table_lines k.near ++ f)))
    ∙ apart l (table_lines k.near) f
    ∙ ap (λ s. lines_text l ++ (lines_text (table_lines k.near) ++ s)) (ended k.far)
    ∙ last_of_three (lines_text l) (lines_text (table_lines k.near)) (lines_text (far_lines k.far)) m
    ∙ ap (λ s. s ++ m) (sym (apart l (table_lines k.near) (far_lines k.far)))

-- a part of a text is a part of a longer one
abbrev pub IsPart : Option (List ℕ) → Option (List ℕ) → List ℕ → Type 0
IsPart a b t = (n : ℕ) × Appends a b (take n t)

pub part_early : (a b : Option (List ℕ)) (s t : List ℕ) → IsPart a b s → IsPart a b (s ++ t)
part_early a b s t (n, h) = Appends-part (Stops-early t (drop n s, record { sent = take n s; appended = h; whole = sym (take-append-drop n s) }))

-- the rows up to the next one
pub rows_more : (rows : List (List ℕ)) (i : ℕ) (row : List ℕ) → i < length rows → row ≡ get_or rows i row → take i rows ++ row ∷ [] ≡ take (i + 1) rows
rows_more rows i row lt is = ap (λ y. take i rows ++ y ∷ []) is ∙ sym (take_at_read rows i row lt).1

-- the rows up to the next one, whose numbers were borrowed
pub rows_next : (rows : List (List ℕ)) (i : ℕ) (row slice : List ℕ) → slice ≡ row → i < length rows → row ≡ get_or rows i row
    → take i rows ++ slice ∷ [] ≡ take (i + 1) rows
rows_next rows i row slice same lt is = ap (λ y. take i rows ++ y ∷ []) same ∙ rows_more rows i row lt is

-- ---- more rows of a table

-- no rows more change nothing, and some and then others are all of them
pub no_rows : (t : CycleTable) (k : CycleClaim) → with_rows t k [] ≡ k
no_rows table.Near k = ap (λ near. record k { near = near }) (append-nil k.near)
no_rows table.Far k = ap (λ far. record k { far = far }) (append-nil k.far)

rows_twice : (t : CycleTable) (k : CycleClaim) (rows more : List (List ℕ)) → with_rows t (with_rows t k rows) more ≡ with_rows t k (rows ++ more)
rows_twice table.Near k rows more = ap (λ near. record k { near = near }) (append_assoc k.near rows more)
rows_twice table.Far k rows more = ap (λ far. record k { far = far }) (append_assoc k.far rows more)

pub may_take : (t : CycleTable) (k : CycleClaim) (rows : List (List ℕ)) → MayTake t k → MayTake t (with_rows t k rows)
may_take table.Near k rows none = none
may_take table.Far k rows none = tt

-- the rows up to the next one
pub row_next : (t : CycleTable) (k : CycleClaim) (rows : List (List ℕ)) (i : ℕ) (row : List ℕ) → take i rows ++ row ∷ [] ≡ take (i + 1) rows
    → with_rows t (with_rows t k (take i rows)) (row ∷ []) ≡ with_rows t k (take (i + 1) rows)
row_next t k rows i row is = rows_twice t k (take i rows) (row ∷ []) ∙ ap (with_rows t k) is

-- the text with more rows goes on where that without them ends
text_more : (t : CycleTable) (count : ℕ) (k : CycleClaim) (more : List (List ℕ)) → MayTake t k
    → (rest : List ℕ) × (lines_text (given_lines count (with_rows t k more)) ≡ lines_text (given_lines count k) ++ rest)
text_more table.Near count k more none = (lines_text (table_lines more), near_text count k more none)
text_more table.Far count k more none =
    let marked = more_marked k.far more in
    (marked.0, behind_far count k (k.far ++ more) marked.0 marked.1)

module _ (a b : Option (List ℕ)) (count : ℕ) where
  -- a part of the text of what was given was written
  abbrev pub IsGivenPart : CycleClaim → Type 0
  IsGivenPart k = IsPart a b (lines_text (given_lines count k))

  -- a part of the text before more rows is one of that with them
  pub part_more : (t : CycleTable) (k : CycleClaim) → MayTake t k → (more : List (List ℕ)) → IsGivenPart k → IsGivenPart (with_rows t k more)
  part_more t k may more h = let text = text_more t count k more may in subst (IsPart a b) (sym text.1) (part_early a b _ text.0 h)

  -- a part of the text up to the next row is one of the text up to the last
  pub part_row : (t : CycleTable) (k : CycleClaim) → MayTake t k → (rows : List (List ℕ)) (i : ℕ) (row : List ℕ)
      → take i rows ++ row ∷ [] ≡ take (i + 1) rows
      → IsGivenPart (with_rows t (with_rows t k (take i rows)) (row ∷ [])) → IsGivenPart (with_rows t k rows)
  part_row t k may rows i row is h =
      let here = with_rows t k (take (i + 1) rows) in
      let all : with_rows t here (drop (i + 1) rows) ≡ with_rows t k rows =
      rows_twice t k (take (i + 1) rows) (drop (i + 1) rows) ∙ ap (with_rows t k) (take-append-drop (i + 1) rows) in
      subst IsGivenPart all
      (part_more t here (may_take t k (take (i + 1) rows) may) (drop (i + 1) rows) (subst IsGivenPart (row_next t k rows i row is) h))

-- a part of the text of what was given is one of the whole text
pub part_given : (a b : Option (List ℕ)) (k : CycleClaim)
    → IsPart a b (lines_text (given_lines (length k.near) k)) → IsPart a b (text_of k)
part_given a b k h = subst (IsPart a b) (sym (whole_text k)) (part_early a b _ _ h)

-- and so is one of the lines before the rows
pub part_begun : (a b : Option (List ℕ)) (k : CycleClaim)
    → IsPart a b (lines_text (begun_of (length k.near) k)) → IsPart a b (text_of k)
part_begun a b k h =
    let begun = begun_of (length k.near) k in
    part_given a b k (subst (IsPart a b) (sym (flat_map-append line_text begun (table_lines k.near ++ far_lines k.far))) (part_early a b _ _ h))
