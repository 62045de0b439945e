-- Where a text breaks off that is written part by part.
use Rattle.std.proofs.Common.{◌≡◌, ℕ, suc, ◌+◌, ◌<◌, Bool, List, [], ◌∷◌, ◌++◌, length, take, drop, get_or, flat_map, Option, None, Some, inl, inr, refl, sym, ap, subst, arith, codes, Ok, Err, ◌∙◌}
use Rattle.std.proofs.Common.{append-nil}
use Rattle.std.proofs.lemmas.Grind.{flat_map-append}
use Rattle.std.proofs.lemmas.List.{append_assoc, take_all}
use Rattle.std.specs.Prelude.{Result, IfErr, IsErrAnd, OnErr, OnOk}
use Rattle.std.specs.Io.KnownBytes.{Appends}
use Rattle.std.proofs.KnownBytes.{Appends-trans}
use Rattle.std.proofs.Math.Seq.{split_at, take-append-add, take-suc}
use Rattle.tcc_print.specs.Printed.{EndsIn}
use Rattle.tcc_print.proofs.Checkpoints.{part-of}
use Rattle.tcc_survey_run.specs.Surveys.{AreWholeLines, BreaksOff, EndsLine}

pub breaks_ending : (json : Bool) (a b : Option (List ℕ)) (x : List ℕ) (code : ℕ) → EndsIn json a b x code → BreaksOff json a b x code
breaks_ending json a b x code (inl cuts) = inl cuts
breaks_ending json a b x code (inr memory) = inr (0, a, inl refl, nothing a, memory)
  where
    nothing : (o : Option (List ℕ)) → Appends o o []
    nothing None = tt
    nothing (Some bytes) = sym (append-nil bytes)

-- in the first part of a text
pub breaks_first : (json : Bool) (a b : Option (List ℕ)) (x y : List ℕ) (code : ℕ) → BreaksOff json a b x code → BreaksOff json a b (x ++ y) code
breaks_first json a b x y code (inl cuts) =
    let part = part-of cuts.0.0 x y in inl ((part.0, subst (λ t. Appends a b t) (sym part.1) cuts.0.1), cuts.1)
breaks_first json a b x y code (inr (n, m, lines, out, memory)) =
    let part = part-of n x y in
    inr (part.0, m, subst AreWholeLines (sym part.1) lines, subst (λ t. Appends a m t) (sym part.1) out, memory)

-- ---- whole lines
-- a text that ends as its last part does
pub ends_behind : (x y : List ℕ) → EndsLine y → EndsLine (x ++ y)
ends_behind x y (front, is) = (x ++ front, ap (λ t. x ++ t) is ∙ sym (append_assoc x front (codes "\n")))

pub ends_more : (x y : List ℕ) → EndsLine x → AreWholeLines y → EndsLine (x ++ y)
ends_more x y ends (inl none) = subst (λ t. EndsLine (x ++ t)) (sym none) (subst EndsLine (sym (append-nil x)) ends)
ends_more x y ends (inr more) = ends_behind x y more

pub lines_join : (x y : List ℕ) → AreWholeLines x → AreWholeLines y → AreWholeLines (x ++ y)
lines_join x y (inl none) lines = subst (λ t. AreWholeLines (t ++ y)) (sym none) lines
lines_join x y (inr ends) lines = inr (ends_more x y ends lines)

pub lines_all : {A : Type 0} (line : A → List ℕ) → ((one : A) → AreWholeLines (line one)) → (all : List A) → AreWholeLines (flat_map line all)
lines_all line each [] = inl refl
lines_all line each (one ∷ all) = lines_join (line one) (flat_map line all) (each one) (lines_all line each all)

-- ---- where a text breaks off

-- after a part that was written
pub breaks_behind : (json : Bool) (a m b : Option (List ℕ)) (x y : List ℕ) (code : ℕ) → AreWholeLines x → Appends a m x → BreaksOff json m b y code
    → BreaksOff json a b (x ++ y) code
breaks_behind json a m b x y code whole out (inl cuts) = inl ((length x + cuts.0.0, joined b cuts.0.0 cuts.0.1), cuts.1)
  where
    joined : (c : Option (List ℕ)) (n : ℕ) → Appends m c (take n y) → Appends a c (take (length x + n) (x ++ y))
    joined c n part = subst (λ t. Appends a c t) (sym (take-append-add x y n)) (Appends-trans a m c x (take n y) out part)
breaks_behind json a m b x y code whole out (inr (n, between, lines, part, memory)) =
    inr (length x + n, between, subst AreWholeLines (sym (take-append-add x y n)) (lines_join x (take n y) whole lines), joined between n part, memory)
  where
    joined : (c : Option (List ℕ)) (n : ℕ) → Appends m c (take n y) → Appends a c (take (length x + n) (x ++ y))
    joined c n part = subst (λ t. Appends a c t) (sym (take-append-add x y n)) (Appends-trans a m c x (take n y) out part)

-- in one of the lines, those before which were written
pub breaks_among : {A : Type 0} (json : Bool) (line : A → List ℕ) (a m b : Option (List ℕ)) (before : List A) (one : A) (behind : List A) (code : ℕ)
    → ((one : A) → AreWholeLines (line one)) → Appends a m (flat_map line before) → BreaksOff json m b (line one) code
    → BreaksOff json a b (flat_map line (before ++ one ∷ behind)) code
breaks_among json line a m b before one behind code each out breaks =
    subst (λ t. BreaksOff json a b t code) (sym (flat_map-append line before (one ∷ behind)))
    (breaks_behind json a m b (flat_map line before) (line one ++ flat_map line behind) code (lines_all line each before) out
    (breaks_first json m b (line one) (flat_map line behind) code breaks))

-- one line more was written
pub lines_more : {A : Type 0} (line : A → List ℕ) (a m b : Option (List ℕ)) (all : List A) (k : ℕ) (d : A) → k < length all
    → Appends a m (flat_map line (take k all)) → Appends m b (line (get_or all k d)) → Appends a b (flat_map line (take (k + 1) all))
lines_more line a m b all k d inside out more =
    subst (λ n. Appends a b (flat_map line (take n all))) (suc_is k)
    (subst (λ t. Appends a b t)
    (sym (ap (flat_map line) (take-suc all k d inside) ∙ flat_map-append line (take k all) (get_or all k d ∷ [])
    ∙ ap (λ t. flat_map line (take k all) ++ t) (append-nil (line (get_or all k d)))))
    (Appends-trans a m b (flat_map line (take k all)) (line (get_or all k d)) out more))
  where
    suc_is : (k : ℕ) → suc k ≡ k + 1
    suc_is k = omega arith

-- a line broke off, before which others were written
pub lines_break : {A : Type 0} (json : Bool) (line : A → List ℕ) (a m b : Option (List ℕ)) (all : List A) (k : ℕ) (d : A) (code : ℕ) → k < length all
    → ((one : A) → AreWholeLines (line one)) → Appends a m (flat_map line (take k all)) → BreaksOff json m b (line (get_or all k d)) code
    → BreaksOff json a b (flat_map line all) code
lines_break json line a m b all k d code inside each out breaks =
    subst (λ xs. BreaksOff json a b (flat_map line xs) code) (sym (split_at all k d inside))
    (breaks_among json line a m b (take k all) (get_or all k d) (drop (suc k) all) code each out breaks)

-- a run that ended by this number
pub ended_by : {A : Type 0} (Q : ℕ → Type 0) (r : Result A ℕ) (why : ℕ) → IsErrAnd r (λ code. code ≡ why) → Q why → IfErr r Q
ended_by Q (Ok a) why is q = tt
ended_by Q (Err code) why is q = subst Q (sym is) q

-- a note that was sent, as far as it was taken
pub sent_noted : {A E : Type 0} (a b : Option (List ℕ)) (text : List ℕ) (r : Result A E) → OnOk r (Appends a b text)
    → OnErr r ((n : ℕ) × Appends a b (take n text)) → (n : ℕ) × Appends a b (take n text)
sent_noted a b text (Ok done) whole part = (length text, subst (λ t. Appends a b t) (sym (take_all (length text) text (omega arith))) whole)
sent_noted a b text (Err why) whole part = part
