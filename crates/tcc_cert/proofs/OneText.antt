-- What is read has a text, and was read from that text alone.
use Rattle.std.proofs.Common.{◌≡◌, ◌⊎◌, ℕ, zero, suc, ◌+◌, ◌^◌, ◌<◌, ◌≤◌, Bool, true, false, not, ◌&&◌, ◌||◌, cond}
use Rattle.std.proofs.Common.{eqb, ltb, List, [], ◌∷◌, ◌++◌, length, get_or, take, drop, map, flat_map, Option}
use Rattle.std.proofs.Common.{None, Some, Result, Ok, Err, inl, inr, refl, sym, ap, subst, ◌∙◌, arith, append_assoc}
use Rattle.std.proofs.Common.{append-nil, codes, decimal}
use Rattle.tcc_cert.specs.declared.ranges.TextFormat.{TextFormat}
use Rattle.tcc_cert.specs.declared.ranges.TheConstants.{MAX_HEADER_BYTES}
use Rattle.tcc_cert.specs.Ranges.{ranges_at}
use Rattle.std.specs.Prelude.{is_some}
use Rattle.std.specs.List.{AllByRecursion, join_with_byte}
use Rattle.std.specs.Str.{all_ascii_digits}
use Rattle.std.specs.Str.Parse.{digits_value}
use Rattle.std.proofs.lemmas.Bool.{eqb-true, and_parts}
use Rattle.std.proofs.lemmas.Bool.Decides.{nat_tests}
use Rattle.std.proofs.lemmas.Fmt.{decimal-digits_value}
use Rattle.std.proofs.lemmas.List.{length-take-le, length-map}
use Rattle.std.proofs.lemmas.List.Elements.{All-from_recursion}
use Rattle.std.proofs.lemmas.List.Splits.{join_with_byte-slice_split}
use Rattle.std.proofs.lemmas.List.Sums.{split_at_first, passes_at_first}
use Rattle.std.proofs.lemmas.Str.Parse.{numerals_by_value, tells_all_ascii_digits}
use Rattle.tcc_txn.specs.Names.{name_fault}
use Rattle.tcc_txn.specs.declared.name.NameFault.{NameFault}
use Rattle.tcc_txn.specs.Bytes.{same, has_no_leading_zero}
use Rattle.tcc_graph.specs.declared.step.Step.{Step}
use Rattle.tcc_graph.specs.declared.step.Step.TheVariants as step
use Rattle.tcc_graph.specs.declared.link.Link.{Link}
use Rattle.tcc_graph.specs.declared.link.Link.TheVariants as link
use Rattle.tcc_cert.specs.declared.fault.CertFaultKind.{CertFaultKind}
use Rattle.tcc_cert.specs.declared.fault.CertFaultKind.TheVariants.{Word, Number, Count, TooLarge, Truncated, Trailing}
use Rattle.tcc_cert.specs.declared.reading.forms.HeaderLine.{HeaderLine}
use Rattle.tcc_cert.specs.Texts.{Words, words_text, line_text, lines_text, numbers_words}
use Rattle.tcc_cert.specs.Texts.{step_words, link_lines, IsNumber, IsCount, IsKey, HasStepText}
use Rattle.tcc_cert.specs.Texts.{HasLinkText}
use Rattle.tcc_cert.specs.Reading.{◌>>=◌, words_of, parted, is_decimal, number_of, transaction_of, count_of, key_of, word_line}
use Rattle.tcc_cert.specs.Reading.{numbers_of, numbers_line, two_words, three_words, five_words, by_word, session_of, reads_of, step_line}
use Rattle.tcc_cert.specs.Reading.{head_of_step, derived_of, head_line, Position, Reads, judged, line_length, line_of, behind, next}
use Rattle.tcc_cert.specs.Reading.{words, numbered, repeated, walk_of, link_at, ended, start_of}
use Rattle.tcc_cert.proofs.RangeFacts.{numbers, counts}
use Rattle.tcc_cert.proofs.Numbered.{EachFrom, same-each}
use Rattle.tcc_cert.proofs.Items.{flat_map-map}

-- ---- what a reading that went well says of its parts

pub then_parts : {A B E : Type 0} (r : Result A E) (f : A → Result B E) (y : B) → (r >>= f) ≡ Ok y → (x : A) × (r ≡ Ok x) × (f x ≡ Ok y)
then_parts (Ok x) f y e = (x, refl, e)
then_parts (Err k) f y e = absurd cc

pub refused_parts : {A E : Type 0} (t : Bool) (k : E) (r : Result A E) (y : A) → cond t (Err k) r ≡ Ok y → (t ≡ false) × (r ≡ Ok y)
refused_parts true k r y e = absurd cc
refused_parts false k r y e = (refl, e)

pub allowed_parts : {A E : Type 0} (t : Bool) (k : E) (r : Result A E) (y : A) → cond t r (Err k) ≡ Ok y → (t ≡ true) × (r ≡ Ok y)
allowed_parts true k r y e = (refl, e)
allowed_parts false k r y e = absurd cc

pub same_ok : {A E : Type 0} {x y : A} → ◌≡◌ {A = Result A E} (Ok x) (Ok y) → x ≡ y
same_ok e = cc

pub same_pair : {A B E : Type 0} {a c : A} {b d : B} → ◌≡◌ {A = Result (A × B) E} (Ok (a, b)) (Ok (c, d)) → (a ≡ c) × (b ≡ d)
same_pair {A} {B} {E} {a} {c} {b} {d} e =
    let pair : (a, b) ≡ (c, d) = same_ok e in
    (ap (λ p. p.0) pair, ap (λ p. p.1) pair)

-- the first line of a text that was read, what comes after it, and that nothing comes after that
pub record IsWholeText {H X : Type 0} (form : List ℕ → Result H CertFaultKind) (behind : H × Position → Reads X) (bytes : List ℕ) (x : X) : Type 0 where
  pub header : H × Position
  pub after : Position
  pub first : next MAX_HEADER_BYTES form (start_of bytes) ≡ Ok header
  pub rest : behind header ≡ Ok (x, after)
  pub none : after.bytes ≡ []

no-bytes : (bytes : List ℕ) → eqb (length bytes) 0 ≡ true → bytes ≡ []
no-bytes [] e = refl
no-bytes (byte ∷ bytes) e = absurd (grind (arith, nat_tests))

pub whole-text : {H X : Type 0} (form : List ℕ → Result H CertFaultKind) (behind : H × Position → Reads X) (bytes : List ℕ) (x : X)
    → ((next MAX_HEADER_BYTES form (start_of bytes) >>= behind) >>= λ read. ended read.0 read.1) ≡ Ok x → IsWholeText form behind bytes x
whole-text form behind bytes x e =
    let read = then_parts (next MAX_HEADER_BYTES form (start_of bytes) >>= behind) _ x e in
    let last = allowed_parts (eqb (length read.0.1.bytes) 0) (record { line = read.0.1.line; kind = Trailing }) (Ok read.0.0) x read.2 in
    let header = then_parts (next MAX_HEADER_BYTES form (start_of bytes)) behind read.0 read.1 in
    record {
      header = header.0;
      after = read.0.1;
      first = header.1;
      rest = header.2 ∙ ap (λ y. Ok (y, read.0.1)) (same_ok last.1);
      none = no-bytes read.0.1.bytes last.0;
    }

-- ---- numbers

pub record IsNumeralOf (least : ℕ) (most : ℕ) (word : List ℕ) (n : ℕ) : Type 0 where
  pub low : least ≤ n
  pub high : n ≤ most
  pub text : word ≡ decimal n

refused-both : (a b : Bool) → (not a || b) ≡ false → (a ≡ true) × (b ≡ false)
refused-both true b e = (refl, e)
refused-both false b e = absurd cc

all-three : (a b c : Bool) → (a && b && c) ≡ true → (a ≡ true) × (b ≡ true) × (c ≡ true)
all-three true true true e = (refl, refl, refl)
all-three true true false e = absurd cc
all-three true false c e = absurd cc
all-three false b c e = absurd cc

lone-zero : (ds : List ℕ) → has_no_leading_zero ds ≡ true → get_or ds 0 0 ≡ 48 → 0 < length ds → length ds ≡ 1
lone-zero [] lead is some = absurd (omega arith)
lone-zero (d ∷ []) lead is some = refl
lone-zero (d ∷ e ∷ ds) lead is some = absurd (grind (arith, nat_tests))

pub number-text : (least most : ℕ) (word : List ℕ) (n : ℕ) → most < 2 ^ 64 → number_of least most word ≡ Ok n → IsNumeralOf least most word n
number-text least most word n small e =
    let value = digits_value 10 word in
    let first = refused_parts (not (is_decimal word) || ltb value least) Number (cond (ltb most value) (Err TooLarge) (Ok value)) n e in
    let second = refused_parts (ltb most value) TooLarge (Ok value) n first.1 in
    let is : value ≡ n = same_ok second.1 in
    let good = refused-both (is_decimal word) (ltb value least) first.0 in
    let parts = all-three (ltb 0 (length word)) (all_ascii_digits word) (has_no_leading_zero word) good.0 in
    let some : 0 < length word = grind (arith, nat_tests, parts.0) in
    let low : least ≤ value = grind (arith, nat_tests, good.1) in
    let high : value ≤ most = grind (arith, nat_tests, second.0) in
    let spelled =
    decimal-digits_value (numerals_by_value _ tells_all_ascii_digits) word parts.1 some (λ is_zero. lone-zero word parts.2 is_zero some) (omega arith) in
    record { low = omega arith; high = omega arith; text = sym spelled ∙ ap decimal is }

pub number : (v : TextFormat) (word : List ℕ) (n : ℕ) → transaction_of v word ≡ Ok n → IsNumeralOf 0 (ranges_at v).number word n
number v word n e = number-text 0 (ranges_at v).number word n (omega (arith, numbers v)) e

pub count : (v : TextFormat) (word : List ℕ) (n : ℕ) → count_of v word ≡ Ok n → (word ≡ decimal n) × IsCount v n
count v word n e =
    let is = number-text 1 (ranges_at v).count word n (omega (arith, counts v)) e in
    (is.text, record { some = is.low; limit = is.high })

key-fault : (o : Option NameFault) (key : List ℕ) (word : List ℕ) → cond (is_some o) (Err Word) (Ok word) ≡ Ok key → (o ≡ None) × (word ≡ key)
key-fault None key word e = (refl, same_ok e)
key-fault (Some fault) key word e = absurd cc

pub key : (word : List ℕ) (name : List ℕ) → key_of word ≡ Ok name → (word ≡ name) × IsKey name
key word name e =
    let is = key-fault (name_fault word) name word e in
    (is.1, ap name_fault (sym is.1) ∙ is.0)

-- ---- words

pub same-bytes : (a b : List ℕ) → same a b ≡ true → a ≡ b
same-bytes [] [] e = refl
same-bytes [] (y ∷ b) e = absurd cc
same-bytes (x ∷ a) [] e = absurd cc
same-bytes (x ∷ a) (y ∷ b) e =
    let parts = and_parts (eqb x y) (same a b) e in
    let first = eqb-true x y parts.0 in
    let rest = same-bytes a b parts.1 in
    cc

pub two_parts : {X : Type 0} (form : List ℕ → List ℕ → Result X CertFaultKind) (ws : Words) (x : X) → two_words form ws ≡ Ok x
    → (a b : List ℕ) × (ws ≡ a ∷ b ∷ []) × (form a b ≡ Ok x)
two_parts form [] x e = absurd cc
two_parts form (a ∷ []) x e = absurd cc
two_parts form (a ∷ b ∷ []) x e = (a, b, refl, e)
two_parts form (a ∷ b ∷ c ∷ ws) x e = absurd cc

pub three_parts : {X : Type 0} (form : List ℕ → List ℕ → List ℕ → Result X CertFaultKind) (ws : Words) (x : X) → three_words form ws ≡ Ok x
    → (a b c : List ℕ) × (ws ≡ a ∷ b ∷ c ∷ []) × (form a b c ≡ Ok x)
three_parts form [] x e = absurd cc
three_parts form (a ∷ []) x e = absurd cc
three_parts form (a ∷ b ∷ []) x e = absurd cc
three_parts form (a ∷ b ∷ c ∷ []) x e = (a, b, c, refl, e)
three_parts form (a ∷ b ∷ c ∷ d ∷ ws) x e = absurd cc

pub five_parts : {X : Type 0} (form : List ℕ → List ℕ → List ℕ → List ℕ → List ℕ → Result X CertFaultKind) (ws : Words) (x : X) → five_words form ws ≡ Ok x
    → (a b c d f : List ℕ) × (ws ≡ a ∷ b ∷ c ∷ d ∷ f ∷ []) × (form a b c d f ≡ Ok x)
five_parts form [] x e = absurd cc
five_parts form (a ∷ []) x e = absurd cc
five_parts form (a ∷ b ∷ []) x e = absurd cc
five_parts form (a ∷ b ∷ c ∷ []) x e = absurd cc
five_parts form (a ∷ b ∷ c ∷ d ∷ []) x e = absurd cc
five_parts form (a ∷ b ∷ c ∷ d ∷ f ∷ []) x e = (a, b, c, d, f, refl, e)
five_parts form (a ∷ b ∷ c ∷ d ∷ f ∷ h ∷ ws) x e = absurd cc

-- a line of one word
pub mark : (wanted : List ℕ) (ws : Words) (done : Unit {0}) → word_line wanted ws ≡ Ok done → ws ≡ wanted ∷ []
mark wanted [] done e = absurd cc
mark wanted (word ∷ []) done e =
    let is = allowed_parts (same word wanted) Word (Ok tt) done e in
    ap (λ w. w ∷ []) (same-bytes word wanted is.0)
mark wanted (word ∷ more ∷ fields) done e =
    let is = allowed_parts (same word wanted) Word (cond (eqb (length (more ∷ fields)) 0) (Ok tt) (Err Count)) done e in
    let none = allowed_parts (eqb (length (more ∷ fields)) 0) Count (Ok tt) done is.1 in
    absurd (grind (arith, nat_tests, none.0))

-- equal words are equal lines
pub two_equal : (h : List ℕ) {u v a b : List ℕ} → u ≡ a → v ≡ b → h ∷ u ∷ v ∷ [] ≡ h ∷ a ∷ b ∷ []
two_equal h p q = cc

pub three_equal : (h : List ℕ) {u v w a b c : List ℕ} → u ≡ a → v ≡ b → w ≡ c → h ∷ u ∷ v ∷ w ∷ [] ≡ h ∷ a ∷ b ∷ c ∷ []
three_equal h p q r = cc

five_equal : (h : List ℕ) {t u v w x a b c d f : List ℕ} → t ≡ a → u ≡ b → v ≡ c → w ≡ d → x ≡ f → h ∷ t ∷ u ∷ v ∷ w ∷ x ∷ [] ≡ h ∷ a ∷ b ∷ c ∷ d ∷ f ∷ []
five_equal h p q r i j = cc

more_equal : {u a : List ℕ} {ws bs : Words} → u ≡ a → ws ≡ bs → u ∷ ws ≡ a ∷ bs
more_equal p q = cc

-- ---- steps

session : (scale : TextFormat) (u v : List ℕ) (s : Step) → session_of scale u v ≡ Ok s → HasStepText scale s × (codes "S" ∷ u ∷ v ∷ [] ≡ step_words s)
session scale u v s e =
    let first = then_parts (transaction_of scale u) _ s e in
    let second = then_parts (transaction_of scale v) _ s first.2 in
    let a = number scale u first.0 first.1 in
    let b = number scale v second.0 second.1 in
    subst (λ t. HasStepText scale t × (codes "S" ∷ u ∷ v ∷ [] ≡ step_words t)) (same_ok second.2) ((a.high, b.high), two_equal (codes "S") a.text b.text)

reads : (scale : TextFormat) (u v w : List ℕ) (s : Step) → reads_of scale u v w ≡ Ok s → HasStepText scale s × (codes "R" ∷ u ∷ v ∷ w ∷ [] ≡ step_words s)
reads scale u v w s e =
    let first = then_parts (transaction_of scale u) _ s e in
    let second = then_parts (transaction_of scale v) _ s first.2 in
    let third = then_parts (key_of w) _ s second.2 in
    let a = number scale u first.0 first.1 in
    let b = number scale v second.0 second.1 in
    let k = key w third.0 third.1 in
    subst (λ t. HasStepText scale t × (codes "R" ∷ u ∷ v ∷ w ∷ [] ≡ step_words t)) (same_ok third.2)
    ((a.high, b.high, k.1), three_equal (codes "R") a.text b.text k.0)

pub choice : {A : Type 0} (t : Bool) (x y z : A) → cond t x y ≡ z → ((t ≡ true) × (x ≡ z)) ⊎ ((t ≡ false) × (y ≡ z))
choice true x y z e = inl (refl, e)
choice false x y z e = inr (refl, e)

-- a line that begins with one of two words
pub by_word-parts : {X : Type 0} (one other : List ℕ) (behind_one behind_other : Words → Result X CertFaultKind) (word : List ℕ) (fields : Words) (x : X)
    → by_word one behind_one other behind_other (word ∷ fields) ≡ Ok x
    → ((word ≡ one) × (behind_one fields ≡ Ok x)) ⊎ ((word ≡ other) × (behind_other fields ≡ Ok x))
by_word-parts {X} one other behind_one behind_other word fields x e = by (choice (same word one) (behind_one fields) _ (Ok x) e)
  where
    by : ((same word one ≡ true) × (behind_one fields ≡ Ok x)) ⊎ ((same word one ≡ false) × (cond (same word other) (behind_other fields) (Err Word) ≡ Ok x))
        → ((word ≡ one) × (behind_one fields ≡ Ok x)) ⊎ ((word ≡ other) × (behind_other fields ≡ Ok x))
    by (inl is) = inl (same-bytes word one is.0, is.1)
    by (inr is) =
        let parts = allowed_parts (same word other) Word (behind_other fields) x is.1 in
        inr (same-bytes word other parts.0, parts.1)

step-choice : (scale : TextFormat) (word : List ℕ) (fields : Words) (s : Step)
    → ((word ≡ codes "S") × (two_words (session_of scale) fields ≡ Ok s)) ⊎ ((word ≡ codes "R") × (three_words (reads_of scale) fields ≡ Ok s))
    → HasStepText scale s × (word ∷ fields ≡ step_words s)
step-choice scale word fields s (inl is) =
    let parts = two_parts (session_of scale) fields s is.1 in
    let read = session scale parts.0 parts.1 s parts.3 in
    (read.0, rw (is.0, parts.2) read.1)
step-choice scale word fields s (inr is) =
    let parts = three_parts (reads_of scale) fields s is.1 in
    let read = reads scale parts.0 parts.1 parts.2 s parts.4 in
    (read.0, rw (is.0, parts.3) read.1)

pub step-text : (scale : TextFormat) (ws : Words) (s : Step) → step_line scale ws ≡ Ok s → HasStepText scale s × (ws ≡ step_words s)
step-text scale [] s e = absurd cc
step-text scale (word ∷ fields) s e =
    step-choice scale word fields s
    (by_word-parts (codes "S") (codes "R") (two_words (session_of scale)) (three_words (reads_of scale)) word fields s e)

-- ---- lines of numbers

pub record AreNumeralsOf (most : ℕ) (ws : Words) (numbers : List ℕ) : Type 0 where
  pub high : AllByRecursion (λ n. n ≤ most) numbers
  pub text : ws ≡ numbers_words numbers

pub numbers-text : (most : ℕ) (ws : Words) (numbers : List ℕ) → most < 2 ^ 64 → numbers_of most ws ≡ Ok numbers → AreNumeralsOf most ws numbers
numbers-text most [] numbers small e = subst (AreNumeralsOf most []) (same_ok e) (record { high = tt; text = refl })
numbers-text most (word ∷ ws) numbers small e =
    let first = then_parts (number_of 0 most word) _ numbers e in
    let others = then_parts (numbers_of most ws) _ numbers first.2 in
    let one = number-text 0 most word first.0 small first.1 in
    let rest = numbers-text most ws others.0 small others.1 in
    subst (AreNumeralsOf most (word ∷ ws)) (same_ok others.2) (record { high = (one.high, rest.high); text = more_equal one.text rest.text })

pub row-text : (count most : ℕ) (ws : Words) (numbers : List ℕ) → most < 2 ^ 64 → numbers_line count most ws ≡ Ok numbers
    → (length numbers ≡ count) × AreNumeralsOf most ws numbers
row-text count most ws numbers small e =
    let is = allowed_parts (eqb (length ws) count) Count (numbers_of most ws) numbers e in
    let read = numbers-text most ws numbers small is.1 in
    (sym (ap length read.text ∙ length-map numbers decimal) ∙ eqb-true (length ws) count is.0, read)

-- ---- lines

join-same : (ws : Words) → words_text ws ≡ join_with_byte 32 ws
join-same [] = refl
join-same (w ∷ []) = append-nil w
join-same (w ∷ v ∷ ws) = ap (λ t. w ++ 32 ∷ t) (join-same (v ∷ ws))

pub words-back : (line : List ℕ) → words_text (words_of line) ≡ line
words-back [] = refl
words-back (byte ∷ bytes) = join-same (parted (byte ∷ bytes)) ∙ join_with_byte-slice_split 32 (byte ∷ bytes)

judged-parts : {X : Type 0} (at after : Position) (shown : Result X CertFaultKind) (x : X) (end : Position) → judged at after shown ≡ Ok (x, end)
    → (shown ≡ Ok x) × (after ≡ end)
judged-parts at after (Ok y) x end e =
    let is = same_pair e in
    (ap Ok is.0, is.1)
judged-parts at after (Err kind) x end e = absurd cc

-- the bytes are a line, its line feed, and what comes after it
pub line-text : (most : ℕ) (bytes line : List ℕ) → line_of most bytes ≡ Ok line → bytes ≡ line ++ 10 ∷ drop (length line + 1) bytes
line-text most bytes line e =
    let n = line_length bytes in
    let first = refused_parts (ltb most n) TooLarge (cond (ltb n (length bytes)) (Ok (take n bytes)) (Err Truncated)) line e in
    let second = allowed_parts (ltb n (length bytes)) Truncated (Ok (take n bytes)) line first.1 in
    let within : n < length bytes = grind (arith, nat_tests, second.0) in
    let is : take n bytes ≡ line = same_ok second.1 in
    let feed = eqb-true _ _ (passes_at_first (λ byte. eqb byte 10) bytes 0 within) in
    let long : length line ≡ n = sym (ap length is) ∙ length-take-le n bytes (omega arith) in
    split_at_first (λ byte. eqb byte 10) bytes 0 within ∙ rw (feed, is, long) refl

-- the next line
pub next-text : {X : Type 0} (most : ℕ) (form : List ℕ → Result X CertFaultKind) (at after : Position) (x : X) → next most form at ≡ Ok (x, after)
    → (line : List ℕ) × (form line ≡ Ok x) × (at.bytes ≡ line ++ 10 ∷ after.bytes)
next-text most form at after x e =
    let first = then_parts (judged at at (line_of most at.bytes)) _ (x, after) e in
    let line = judged-parts at at (line_of most at.bytes) first.0.0 first.0.1 first.1 in
    let shown = judged-parts at (behind at first.0.0) (form first.0.0) x after first.2 in
    (first.0.0, shown.0, line-text most at.bytes first.0.0 line.0 ∙ ap (λ p. first.0.0 ++ 10 ∷ p.bytes) shown.1)

pub words-text : {X : Type 0} (v : TextFormat) (form : Words → Result X CertFaultKind) (at after : Position) (x : X) → words v form at ≡ Ok (x, after)
    → (ws : Words) × (form ws ≡ Ok x) × (at.bytes ≡ line_text ws ++ after.bytes)
words-text v form at after x e =
    let read = next-text (ranges_at v).line_bytes (λ line. form (words_of line)) at after x e in
    let split = append_assoc (words_text (words_of read.0)) (10 ∷ []) after.bytes in
    (words_of read.0, read.1, read.2 ∙ ap (λ l. l ++ 10 ∷ after.bytes) (sym (words-back read.0)) ∙ sym split)

-- ---- parts that are repeated

-- what is read has this property, and was read from this text
abbrev pub IsReadFrom : {X : Type 0} → (Position → Reads X) → (X → Type 0) → (X → List ℕ) → Type 0
IsReadFrom {X = X} read property text = (at after : Position) (x : X) → read at ≡ Ok (x, after) → property x × (at.bytes ≡ text x ++ after.bytes)

pub numbered-text : {X : Type 0} (read : ℕ → Position → Reads X) (property : ℕ → X → Type 0) (text : X → List ℕ)
    → ((i : ℕ) → IsReadFrom (read i) (property i) text) → (from n : ℕ) (at after : Position) (xs : List X)
    → numbered read from n at ≡ Ok (xs, after) → EachFrom property from xs × (length xs ≡ n) × (at.bytes ≡ flat_map text xs ++ after.bytes)
numbered-text read property text each_from from zero at after xs e =
    let is = same_pair e in
    subst (λ ys. EachFrom property from ys × (length ys ≡ 0) × (at.bytes ≡ flat_map text ys ++ after.bytes)) is.0 (tt, refl, ap (λ p. p.bytes) is.1)
numbered-text {X} read property text each_from from (suc n) at after xs e =
    let first = then_parts (read from at) _ (xs, after) e in
    let others = then_parts (numbered read (from + 1) n first.0.1) _ (xs, after) first.2 in
    let is = same_pair others.2 in
    let one = each_from from at first.0.1 first.0.0 first.1 in
    let rest = numbered-text read property text each_from (from + 1) n first.0.1 others.0.1 others.0.0 others.1 in
    let whole : at.bytes ≡ flat_map text (first.0.0 ∷ others.0.0) ++ others.0.1.bytes =
    one.1 ∙ ap (λ t. text first.0.0 ++ t) rest.2 ∙ sym (append_assoc (text first.0.0) (flat_map text others.0.0) others.0.1.bytes) in
    subst (λ ys. EachFrom property from ys × (length ys ≡ suc n) × (at.bytes ≡ flat_map text ys ++ after.bytes)) is.0
    ((one.0, rest.0), ap (λ m. suc m) rest.1, whole ∙ ap (λ p. flat_map text (first.0.0 ∷ others.0.0) ++ p.bytes) is.1)

pub repeated-text : {X : Type 0} (read : Position → Reads X) (property : X → Type 0) (text : X → List ℕ) → IsReadFrom read property text
    → (n : ℕ) (at after : Position) (xs : List X) → repeated read n at ≡ Ok (xs, after)
    → AllByRecursion property xs × (length xs ≡ n) × (at.bytes ≡ flat_map text xs ++ after.bytes)
repeated-text read property text from n at after xs e =
    let all = numbered-text (λ i. read) (λ i. property) text (λ i. from) 0 n at after xs e in
    (same-each property 0 xs all.0, all.1, all.2)

-- ---- links

pub step-from : (scale : TextFormat) → IsReadFrom (words scale (step_line scale)) (HasStepText scale) (λ s. line_text (step_words s))
step-from scale at after s e =
    let line = words-text scale (step_line scale) at after s e in
    let is = step-text scale line.0 s line.1 in
    (is.0, line.2 ∙ ap (λ ws. line_text ws ++ after.bytes) is.1)

-- what the first line of a link says
pub record IsDerivedHead (scale : TextFormat) (ws : Words) (head : HeaderLine) : Type 0 where
  pub b : ℕ
  pub a : ℕ
  pub name : List ℕ
  pub c : ℕ
  pub w : ℕ
  pub from : IsNumber scale b
  pub to : IsNumber scale a
  pub is_key : IsKey name
  pub reader : IsNumber scale c
  pub steps : IsCount scale w
  pub text : ws ≡ codes "D" ∷ decimal b ∷ decimal a ∷ name ∷ decimal c ∷ decimal w ∷ []
  pub is : head ≡ record { link = link.Derived b a name c []; steps = w }

pub record IsStepHead (scale : TextFormat) (ws : Words) (head : HeaderLine) : Type 0 where
  pub step_of : Step
  pub has : HasStepText scale step_of
  pub text : ws ≡ step_words step_of
  pub is : head ≡ head_of_step step_of

derived : (scale : TextFormat) (t u v w x : List ℕ) (head : HeaderLine) → derived_of scale t u v w x ≡ Ok head
    → IsDerivedHead scale (codes "D" ∷ t ∷ u ∷ v ∷ w ∷ x ∷ []) head
derived scale t u v w x head e =
    let first = then_parts (transaction_of scale t) _ head e in
    let second = then_parts (transaction_of scale u) _ head first.2 in
    let third = then_parts (key_of v) _ head second.2 in
    let fourth = then_parts (transaction_of scale w) _ head third.2 in
    let fifth = then_parts (count_of scale x) _ head fourth.2 in
    let nb = number scale t first.0 first.1 in
    let na = number scale u second.0 second.1 in
    let k = key v third.0 third.1 in
    let nc = number scale w fourth.0 fourth.1 in
    let nw = count scale x fifth.0 fifth.1 in
    record {
      b = first.0;
      a = second.0;
      name = third.0;
      c = fourth.0;
      w = fifth.0;
      from = nb.high;
      to = na.high;
      is_key = k.1;
      reader = nc.high;
      steps = nw.1;
      text = five_equal (codes "D") nb.text na.text k.0 nc.text nw.0;
      is = sym (same_ok fifth.2);
    }

head-choice : (scale : TextFormat) (word : List ℕ) (fields : Words) (head : HeaderLine)
    → ((same word (codes "D") ≡ true) × (five_words (derived_of scale) fields ≡ Ok head))
    ⊎ ((same word (codes "D") ≡ false) × ((step_line scale (word ∷ fields) >>= λ s. Ok (head_of_step s)) ≡ Ok head))
    → IsDerivedHead scale (word ∷ fields) head ⊎ IsStepHead scale (word ∷ fields) head
head-choice scale word fields head (inl is) =
    let parts = five_parts (derived_of scale) fields head is.1 in
    inl (rw (same-bytes word (codes "D") is.0, parts.5) (derived scale parts.0 parts.1 parts.2 parts.3 parts.4 head parts.6))
head-choice scale word fields head (inr is) =
    let parts = then_parts (step_line scale (word ∷ fields)) _ head is.1 in
    let read = step-text scale (word ∷ fields) parts.0 parts.1 in
    inr (record { step_of = parts.0; has = read.0; text = read.1; is = sym (same_ok parts.2) })

pub head-text : (scale : TextFormat) (ws : Words) (head : HeaderLine) → head_line scale ws ≡ Ok head → IsDerivedHead scale ws head ⊎ IsStepHead scale ws head
head-text scale [] head e = absurd cc
head-text scale (word ∷ fields) head e =
    head-choice scale word fields head (choice (same word (codes "D")) (five_words (derived_of scale) fields) _ (Ok head) e)

-- a link of one step
one-step : (scale : TextFormat) (s : Step) (at mid after : Position) (l : Link) → HasStepText scale s → at.bytes ≡ line_text (step_words s) ++ mid.bytes
    → walk_of scale (head_of_step s, mid) ≡ Ok (l, after)
    → HasLinkText scale l × (at.bytes ≡ lines_text (link_lines l) ++ after.bytes)
one-step scale (step.Session u v) at mid after l has text e =
    let is = same_pair e in
    subst (λ m. HasLinkText scale m × (at.bytes ≡ lines_text (link_lines m) ++ after.bytes)) is.0 (
      has,
      text ∙ ap (λ t. t ++ mid.bytes) (sym (append-nil (line_text (step_words (step.Session u v)))))
          ∙ ap (λ p. lines_text (link_lines (link.Session u v)) ++ p.bytes) is.1,
    )
one-step scale (step.Reads u v k) at mid after l has text e =
    let is = same_pair e in
    subst (λ m. HasLinkText scale m × (at.bytes ≡ lines_text (link_lines m) ++ after.bytes)) is.0 (
      has,
      text ∙ ap (λ t. t ++ mid.bytes) (sym (append-nil (line_text (step_words (step.Reads u v k)))))
          ∙ ap (λ p. lines_text (link_lines (link.Reads u v k)) ++ p.bytes) is.1,
    )

link-choice : (scale : TextFormat) (ws : Words) (head : HeaderLine) (at mid after : Position) (l : Link) → at.bytes ≡ line_text ws ++ mid.bytes
    → walk_of scale (head, mid) ≡ Ok (l, after) → IsDerivedHead scale ws head ⊎ IsStepHead scale ws head
    → HasLinkText scale l × (at.bytes ≡ lines_text (link_lines l) ++ after.bytes)
link-choice scale ws head at mid after l text e (inr h) =
    one-step scale h.step_of at mid after l h.has (text ∙ ap (λ words. line_text words ++ mid.bytes) h.text)
    (subst (λ read. walk_of scale (read, mid) ≡ Ok (l, after)) h.is e)
link-choice scale ws head at mid after l text e (inl h) =
    let derived_link : List Step → Link = λ walk. link.Derived h.b h.a h.name h.c walk in
    let walked =
    then_parts (repeated (words scale (step_line scale)) h.w mid) (λ walk. Ok (derived_link walk.0, walk.1)) (l, after)
    (subst (λ read. walk_of scale (read, mid) ≡ Ok (l, after)) h.is e) in
    let walk = walked.0.0 in
    let is = same_pair walked.2 in
    let read =
    repeated-text (words scale (step_line scale)) (HasStepText scale) (λ s. line_text (step_words s))
    (step-from scale) h.w mid walked.0.1 walk walked.1 in
    let first : Words = codes "D" ∷ decimal h.b ∷ decimal h.a ∷ h.name ∷ decimal h.c ∷ decimal h.w ∷ [] in
    let counted : IsCount scale (length walk) = subst (IsCount scale) (sym read.1) h.steps in
    let has : HasLinkText scale (derived_link walk) = (h.from, h.to, h.is_key, h.reader, counted, All-from_recursion (HasStepText scale) walk read.0) in
    let whole : at.bytes ≡ lines_text (link_lines (derived_link walk)) ++ walked.0.1.bytes =
    text
    ∙ ap (λ words. line_text words ++ mid.bytes) h.text
    ∙ ap (λ t. line_text first ++ t) (read.2 ∙ ap (λ t. t ++ walked.0.1.bytes) (sym (flat_map-map line_text step_words walk)))
    ∙ sym (append_assoc (line_text first) (lines_text (map step_words walk)) walked.0.1.bytes)
    ∙ ap (λ n. line_text (codes "D" ∷ decimal h.b ∷ decimal h.a ∷ h.name ∷ decimal h.c ∷ decimal n ∷ []) ++ lines_text (map step_words walk)
    ++ walked.0.1.bytes) (sym read.1) in
    subst (λ m. HasLinkText scale m × (at.bytes ≡ lines_text (link_lines m) ++ after.bytes)) is.0
    (has, whole ∙ ap (λ p. lines_text (link_lines (derived_link walk)) ++ p.bytes) is.1)

pub link-from : (scale : TextFormat) → IsReadFrom (link_at scale) (HasLinkText scale) (λ l. lines_text (link_lines l))
link-from scale at after l e =
    let head = then_parts (words scale (head_line scale) at) (walk_of scale) (l, after) e in
    let line = words-text scale (head_line scale) at head.0.1 head.0.0 head.1 in
    link-choice scale line.0 head.0.0 at head.0.1 after l line.2 head.2 (head-text scale line.0 head.0.0 line.1)
