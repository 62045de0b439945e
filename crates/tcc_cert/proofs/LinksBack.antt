-- Keys, steps and links are read as they were written.
use Rattle.std.proofs.Common.{◌≡◌, ℕ, ◌+◌, ◌<◌, ◌≤◌, Bool, true, false, not, cond, eqb, ltb, List, [], ◌∷◌, ◌++◌, length, map}
use Rattle.std.proofs.Common.{All, Option, Some, None, Ok, refl, ap, ◌∙◌, arith, append_assoc, append-nil, inl, inr, codes}
use Rattle.std.proofs.Common.{decimal, lit<}
use Rattle.tcc_cert.specs.declared.ranges.TextFormat.{TextFormat}
use Rattle.tcc_cert.specs.Ranges.{ranges_at}
use Rattle.std.specs.Prelude.{nat_le, position, option_map}
use Rattle.std.specs.List.{AllByRecursion, prefix_len}
use Rattle.std.proofs.lemmas.Bool.{cases_lt}
use Rattle.std.proofs.lemmas.Bool.Decides.{nat_tests}
use Rattle.std.proofs.lemmas.List.Elements.{recursion_from_All}
use Rattle.std.proofs.lemmas.Fmt.{decimal_nonempty, length-decimal-le}
use Rattle.tcc_txn.specs.Names.{is_name_byte}
use Rattle.tcc_txn.specs.declared.name.NameFault.TheVariants.{Empty, TooLong, BadByte}
use Rattle.tcc_graph.specs.declared.step.Step.{Step}
use Rattle.tcc_graph.specs.declared.step.Step.TheVariants as step
use Rattle.tcc_graph.specs.declared.link.Link.{Link}
use Rattle.tcc_graph.specs.declared.link.Link.TheVariants as link
use Rattle.tcc_cert.specs.Texts.{Words, words_text, line_text, lines_text, step_words, link_lines, IsNumber, IsCount, IsKey, HasStepText, HasLinkText}
use Rattle.tcc_cert.specs.Reading.{head_of_step, step_line, head_line, words, repeated, with_walk, walk_of, link_at}
use Rattle.tcc_cert.proofs.Items.{flat_map-map}
use Rattle.tcc_cert.proofs.ReadingFacts.{IsAbove, AreWords, words-first, later-one, decimal-above, number_of-decimal}
use Rattle.tcc_cert.proofs.LinesBack.{at, then_ok, words-line, line-at, IsReadBack, IsReadAt, repeated-back}
use Rattle.tcc_cert.proofs.RangeFacts.{counts, lines}
use Rattle.tcc_cert.proofs.FormsBack.{IsPlainKey, number-word, number-back, eight_digits, session-back}

-- ---- keys

no_fault : (empty long : Bool) (o : Option ℕ) → cond empty (Some Empty) (cond long (Some TooLong) (option_map (λ i. BadByte (i + 1)) o)) ≡ None
    → (empty ≡ false) × (long ≡ false) × (o ≡ None)
no_fault true long o e = absurd cc
no_fault false true o e = absurd cc
no_fault false false None e = (refl, refl, refl)
no_fault false false (Some i) e = absurd cc

no_position : (t : Bool) (i : ℕ) → cond t (Some i) None ≡ None → t ≡ false
no_position true i e = absurd cc
no_position false i e = refl

above_space : (b : ℕ) → is_name_byte b ≡ true → 32 < b
above_space b e =
    elim (cases_lt 32 b) [
      | inl lt ↦ lt
      | inr le ↦
          let upper : nat_le 65 b ≡ false = grind (arith, nat_tests) in
          let lower : nat_le 97 b ≡ false = grind (arith, nat_tests) in
          let digit : nat_le 48 b ≡ false = grind (arith, nat_tests) in
          let line : eqb b 95 ≡ false = grind (arith, nat_tests) in
          let stop : eqb b 46 ≡ false = grind (arith, nat_tests) in
          let hyphen : eqb b 45 ≡ false = grind (arith, nat_tests) in
          let none : is_name_byte b ≡ false = rw (upper, lower, digit, line, stop, hyphen) refl in
          absurd cc
    ]

first_named : (t : Bool) (n p : ℕ) → n + 1 ≤ cond (not (not t)) (1 + p) 0 → (t ≡ true) × (n ≤ p)
first_named true n p le = (refl, omega arith)
first_named false n p le = absurd (omega arith)

all_named : (key : List ℕ) → length key ≤ prefix_len (λ b. not (not (is_name_byte b))) key → IsAbove 32 key
all_named [] le = tt
all_named (b ∷ key) le =
    let first = first_named (is_name_byte b) (length key) (prefix_len (λ c. not (not (is_name_byte c))) key) (omega arith) in
    (above_space b first.0, all_named key first.1)

pub key-parts : (key : List ℕ) → IsKey key → IsPlainKey key
key-parts key h =
    let p = no_fault (eqb (length key) 0) (ltb 32 (length key)) (position (λ b. not (is_name_byte b)) key) h in
    let all = no_position (ltb (prefix_len (λ b. not (not (is_name_byte b))) key) (length key)) _ p.2 in
    (grind (arith, nat_tests, p.0), grind (arith, nat_tests, p.1), all_named key (grind (arith, nat_tests, all)))

-- ---- steps

pub reads-back : (v : TextFormat) (a b : ℕ) (key : List ℕ) → HasStepText v (step.Reads a b key) → IsReadBack v (step_line v) step_words (step.Reads a b key)
reads-back v a b key h =
    let k = key-parts key h.2 in
    let first = number-word v a h.0 in
    let second = number-word v b h.1 in
    record {
      are = (lit< tt, (lit< tt, tt), (first.0, first.1, (second.0, second.1, (k.0, k.2, tt))));
      short =
          omega (
            arith,
            lines v,
            words-first (codes "R") (decimal a ∷ decimal b ∷ key ∷ []),
            later-one (decimal a) (decimal b ∷ key ∷ []),
            later-one (decimal b) (key ∷ []),
            later-one key [],
            eight_digits v a h.0,
            eight_digits v b h.1,
            k.1,
          );
      back = rw (number-back v a h.0, number-back v b h.1, h.2) refl;
    }

pub step-back : (v : TextFormat) (s : Step) → HasStepText v s → IsReadBack v (step_line v) step_words s
step-back v (step.Session a b) h = session-back v a b h
step-back v (step.Reads a b key) h = reads-back v a b key h

-- ---- links

pub each : {X : Type 0} {P Q : X → Type 0} (xs : List X) → ((x : X) → P x → Q x) → AllByRecursion P xs → AllByRecursion Q xs
each [] f all = tt
each (x ∷ xs) f all = (f x all.0, each xs f all.1)

pub walk-at : (v : TextFormat) (walk : List Step) → All (HasStepText v) walk → (n : ℕ) (rest : List ℕ)
    → (end : ℕ) × (repeated (words v (step_line v)) (length walk) (at n (lines_text (map step_words walk) ++ rest)) ≡ Ok (walk, at end rest))
walk-at v walk h n rest =
    rw (flat_map-map line_text step_words walk)
    (repeated-back (words v (step_line v)) (λ s. line_text (step_words s)) walk
    (each walk (λ s t. line-at v (step_line v) step_words s (step-back v s t)) (recursion_from_All (HasStepText v) walk h)) n rest)

session-head : (v : TextFormat) (a b : ℕ) → HasStepText v (step.Session a b) → head_line v (step_words (step.Session a b)) ≡ Ok (head_of_step (step.Session a b))
session-head v a b h = rw (number-back v a h.0, number-back v b h.1) refl

reads-head : (v : TextFormat) (a b : ℕ) (key : List ℕ) → HasStepText v (step.Reads a b key)
    → head_line v (step_words (step.Reads a b key)) ≡ Ok (head_of_step (step.Reads a b key))
reads-head v a b key h = rw (number-back v a h.0, number-back v b h.1, h.2) refl

abbrev derived_words : ℕ → ℕ → List ℕ → ℕ → ℕ → Words
derived_words b a key c w = codes "D" ∷ decimal b ∷ decimal a ∷ key ∷ decimal c ∷ decimal w ∷ []

derived-are : (v : TextFormat) (b a : ℕ) (key : List ℕ) (c w : ℕ) → IsNumber v b → IsNumber v a → IsKey key → IsNumber v c → IsCount v w
    → AreWords (derived_words b a key c w)
derived-are v b a key c w hb ha hk hc hw =
    let k = key-parts key hk in
    let first = number-word v b hb in
    let second = number-word v a ha in
    let third = number-word v c hc in (
      lit< tt,
      (lit< tt, tt),
      (
        first.0,
        first.1,
        (
          second.0,
          second.1,
          (k.0, k.2, (third.0, third.1, (decimal_nonempty w (omega (arith, hw.limit, counts v)), decimal-above w (omega (arith, hw.limit, counts v)), tt))),
        ),
      ),
    )

derived-short : (v : TextFormat) (b a : ℕ) (key : List ℕ) (c w : ℕ) → IsNumber v b → IsNumber v a → IsKey key → IsNumber v c → IsCount v w
    → length (words_text (derived_words b a key c w)) ≤ (ranges_at v).line_bytes
derived-short v b a key c w hb ha hk hc hw =
    let k = key-parts key hk in
    let steps = length-decimal-le 8 w (lit< tt) (omega (arith, hw.limit, counts v)) (omega (arith, hw.limit, counts v)) in
    omega (
      arith,
      lines v,
      words-first (codes "D") (decimal b ∷ decimal a ∷ key ∷ decimal c ∷ decimal w ∷ []),
      later-one (decimal b) (decimal a ∷ key ∷ decimal c ∷ decimal w ∷ []),
      later-one (decimal a) (key ∷ decimal c ∷ decimal w ∷ []),
      later-one key (decimal c ∷ decimal w ∷ []),
      later-one (decimal c) (decimal w ∷ []),
      later-one (decimal w) [],
      eight_digits v b hb,
      eight_digits v a ha,
      k.1,
      eight_digits v c hc,
      steps,
    )

derived-head : (v : TextFormat) (b a : ℕ) (key : List ℕ) (c w : ℕ) → IsNumber v b → IsNumber v a → IsKey key → IsNumber v c → IsCount v w
    → head_line v (derived_words b a key c w) ≡ Ok (record { link = link.Derived b a key c []; steps = w })
derived-head v b a key c w hb ha hk hc hw =
    rw (
      number-back v b hb,
      number-back v a ha,
      hk,
      number-back v c hc,
      number_of-decimal 1 (ranges_at v).count w hw.some hw.limit (omega (arith, hw.limit, counts v)),
    ) refl

one_line : (line rest : List ℕ) → (line ++ []) ++ rest ≡ line ++ rest
one_line line rest = ap (λ l. l ++ rest) (append-nil line)

pub link-back : (v : TextFormat) (l : Link) → HasLinkText v l → IsReadAt (link_at v) (λ m. lines_text (link_lines m)) l
link-back v (link.Session a b) h n rest =
    let back = session-back v a b h in
    let head = words-line v (head_line v) n (step_words (step.Session a b)) rest back.are back.short (head_of_step (step.Session a b)) (session-head v a b h) in
    (n + 1, ap (λ bytes. link_at v (at n bytes)) (one_line (line_text (step_words (step.Session a b))) rest) ∙ then_ok (walk_of v) head)
link-back v (link.Reads a b key) h n rest =
    let back = reads-back v a b key h in
    let head =
    words-line v (head_line v) n (step_words (step.Reads a b key)) rest back.are back.short (head_of_step (step.Reads a b key)) (reads-head v a b key h) in
    (n + 1, ap (λ bytes. link_at v (at n bytes)) (one_line (line_text (step_words (step.Reads a b key))) rest) ∙ then_ok (walk_of v) head)
link-back v (link.Derived b a key c walk) h n rest =
    let later_lines = lines_text (map step_words walk) ++ rest in
    let head = words-line v (head_line v) n (derived_words b a key c (length walk)) later_lines (derived-are v b a key c (length walk) h.0 h.1 h.2 h.3 h.4)
    (derived-short v b a key c (length walk) h.0 h.1 h.2 h.3 h.4) (record { link = link.Derived b a key c []; steps = length walk })
    (derived-head v b a key c (length walk) h.0 h.1 h.2 h.3 h.4) in
    let steps = walk-at v walk h.5 (n + 1) rest in (
      steps.0,
      ap (λ bytes. link_at v (at n bytes)) (append_assoc (line_text (derived_words b a key c (length walk))) (lines_text (map step_words walk)) rest)
          ∙ then_ok (walk_of v) head
          ∙ then_ok (λ read. Ok (with_walk (link.Derived b a key c []) read.0, read.1)) steps.1,
    )
