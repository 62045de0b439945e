-- What a writer of a claim of a cycle holds after each row.
use Rattle.std.proofs.Common.{◌≡◌, ℕ, ◌+◌, List, [], ◌∷◌, ◌++◌, Option, Result, Ok, Err, refl, sym, ap, subst, ◌∙◌, append-nil, take, codes, length}
use Rattle.std.specs.Result.{OnOk, OnErr, IsOk, IsErr}
use Rattle.std.specs.Io.KnownBytes.{Appends}
use Rattle.tcc_cert.specs.declared.cycle_writer.CycleWriter.{CycleWriter}
use Rattle.tcc_cert.specs.declared.cycle_writer.CycleTable.{CycleTable}
use Rattle.tcc_cert.specs.declared.cycle_writer.CycleTable.TheVariants as table
use Rattle.tcc_cert.specs.declared.cycle_writer.TableStage.{TableStage}
use Rattle.tcc_cert.specs.declared.cycle_writer.TableStage.TheVariants.{Near, Far, Failed}
use Rattle.tcc_cert.specs.declared.certificate.CycleClaim.{CycleClaim}
use Rattle.tcc_cert.specs.Texts.{line_text, lines_text, numbers_words}
use Rattle.tcc_cert.specs.Begun.{MayTake, given_lines, stage_of, with_rows}
use Rattle.tcc_cert.specs.private.Writing.{IsSent, Stops, far_mark, mark_before, stage_behind}
use Rattle.tcc_cert.specs.Given.{HasTaken, Sends}
use Rattle.tcc_cert.proofs.SentFacts.{Sends-then, Stops-then, Appends-part, Appends-whole}
use Rattle.tcc_cert.proofs.GivenTexts.{IsPart, begun_of, no_rows, one_far, one_near, row_next, text_of, whole_text}

-- what was sent, as it was noted
pub noted : {X Y E F : Type 0} (s : Result Y F) (r : Result X E) (a b : Option (List ℕ)) (f g t : List ℕ)
    → OnOk s (IsOk r) → OnErr s (IsErr r) → IsSent r a f b g t → IsSent s a f b g t
noted (Ok y) (Ok x) a b f g t ok err sent = sent
noted (Ok y) (Err e) a b f g t ok err sent = absurd cc
noted (Err y) (Ok x) a b f g t ok err sent = absurd cc
noted (Err y) (Err e) a b f g t ok err sent = sent

-- no stage of a writer that was given rows is that of a failure
abbrev working : TableStage → Type 0
working Near = Unit {0}
working Far = Unit {0}
working Failed = ⊥

not_failed : (far : List (List ℕ)) → stage_of far ≡ Failed → ⊥
not_failed [] is = subst working is tt
not_failed (x ∷ xs) is = subst working is tt

-- the text with one more row, and the stage after it
more_text : (t : CycleTable) (count : ℕ) (row : List ℕ) (k : CycleClaim) (stage : TableStage) → stage ≡ stage_of k.far → MayTake t k
    → lines_text (given_lines count k) ++ (mark_before t stage ++ line_text (numbers_words row)) ≡ lines_text (given_lines count (with_rows t k (row ∷ [])))
more_text table.Near count row k stage is none = sym (one_near count k row none)
more_text table.Far count row k stage is none =
    ap (λ stage. lines_text (given_lines count k) ++ (far_mark stage ++ line_text (numbers_words row))) is ∙ sym (one_far count k row)

stage_more : (far : List (List ℕ)) (row : List ℕ) → stage_of (far ++ row ∷ []) ≡ Far
stage_more [] row = refl
stage_more (x ∷ xs) row = refl

more_stage : (t : CycleTable) (row : List ℕ) (k : CycleClaim) (stage : TableStage) → stage ≡ stage_of k.far
    → stage_behind t stage ≡ stage_of (with_rows t k (row ∷ [])).far
more_stage table.Near row k stage is = is
more_stage table.Far row k stage is = sym (stage_more k.far row)

module _ {W : Type 0} (contents : W → Option (List ℕ)) where
  pub works : {before : Option (List ℕ)} {count : ℕ} {k : CycleClaim} {w : CycleWriter W} → HasTaken contents before count k w → w.stage ≡ Failed → ⊥
  works {before} {count} {k} h is = not_failed k.far (sym h.stage ∙ is)

  -- a call that came so far sent this text
  abbrev pub IsSentBy : {E : Type 0} → Result Unit E → CycleWriter W → CycleWriter W → List ℕ → Type 0
  IsSentBy s old new text = IsSent s (contents old.out.now) old.outgoing (contents new.out.now) new.outgoing text

  -- a row, after the mark if it is the first of `far`
  pub row_whole : {E : Type 0} (s : Result Unit E) (t : CycleTable) (old new : CycleWriter W) (before : Option (List ℕ)) (count : ℕ) (k : CycleClaim)
      (row : List ℕ) → HasTaken contents before count k old → MayTake t k
      → IsSentBy s old new (mark_before t old.stage ++ line_text (numbers_words row)) → OnOk s (new.stage ≡ stage_behind t old.stage)
      → OnOk s (HasTaken contents before count (with_rows t k (row ∷ [])) new)
  row_whole (Ok x) t old new before count k row h may sent stage = record {
    lines = subst (Sends before [] (contents new.out.now) new.outgoing) (more_text t count row k old.stage h.stage may) (Sends-then h.lines sent);
    stage = stage ∙ more_stage t row k old.stage h.stage;
  }
  row_whole (Err e) t old new before count k row h may sent stage = tt

  pub row_part : {E : Type 0} (s : Result Unit E) (t : CycleTable) (old new : CycleWriter W) (before : Option (List ℕ)) (count : ℕ) (k : CycleClaim)
      (row : List ℕ) → HasTaken contents before count k old → MayTake t k
      → IsSentBy s old new (mark_before t old.stage ++ line_text (numbers_words row))
      → OnErr s (IsPart before (contents new.out.now) (lines_text (given_lines count (with_rows t k (row ∷ [])))))
  row_part (Ok x) t old new before count k row h may sent = tt
  row_part (Err e) t old new before count k row h may sent =
      subst (IsPart before (contents new.out.now)) (more_text t count row k old.stage h.stage may) (Appends-part (Stops-then h.lines sent))

  -- what was given, and the end
  end_more : {before : Option (List ℕ)} {k : CycleClaim} {w : CycleWriter W} → HasTaken contents before (length k.near) k w
      → lines_text (given_lines (length k.near) k) ++ (far_mark w.stage ++ line_text (codes "end" ∷ [])) ≡ text_of k
  end_more {before} {k} {w} h =
      ap (λ stage. lines_text (given_lines (length k.near) k) ++ (far_mark stage ++ line_text (codes "end" ∷ []))) h.stage ∙ sym (whole_text k)

  -- the end
  pub end_whole : (old : CycleWriter W) (after : W) (left : List ℕ) (before : Option (List ℕ)) (k : CycleClaim) → HasTaken contents before (length k.near) k old
      → Sends (contents old.out.now) old.outgoing (contents after) left (far_mark old.stage ++ line_text (codes "end" ∷ [])) → left ≡ []
      → Appends before (contents after) (text_of k)
  end_whole old after left before k h sent none =
      subst (Appends before (contents after)) (end_more h)
      (Appends-whole (subst
      (λ l. Sends before [] (contents after) l (lines_text (given_lines (length k.near) k) ++ (far_mark old.stage ++ line_text (codes "end" ∷ []))))
      none (Sends-then h.lines sent)))

  pub end_part : (old : CycleWriter W) (after : W) (before : Option (List ℕ)) (k : CycleClaim) → HasTaken contents before (length k.near) k old
      → Stops (contents old.out.now) old.outgoing (contents after) (far_mark old.stage ++ line_text (codes "end" ∷ []))
      → IsPart before (contents after) (text_of k)
  end_part old after before k h sent =
      subst (IsPart before (contents after)) (end_more h) (Appends-part (Stops-then h.lines sent))

  -- the lines before the rows are on their way
  pub begun : (before : Option (List ℕ)) (count : ℕ) (k : CycleClaim) (w : CycleWriter W) (after : W) (left : List ℕ)
      → Sends before [] (contents after) left (lines_text (begun_of count k)) → w.out.now ≡ after → w.outgoing ≡ left
      → w.stage ≡ Near
      → HasTaken contents before count (record k { near = []; far = [] }) w
  begun before count k w after left sent out outgoing stage =
      let lines = begun_of count k in
      record {
        lines =
            subst (λ o. Sends before [] (contents o) w.outgoing (lines_text (lines ++ []))) (sym out)
            (subst (λ l. Sends before [] (contents after) l (lines_text (lines ++ []))) (sym outgoing)
            (subst (λ l. Sends before [] (contents after) left (lines_text l)) (sym (append-nil lines)) sent));
        stage = stage;
      }

  -- the rows up to the next one were given
  pub rows_given : (before : Option (List ℕ)) (count : ℕ) (t : CycleTable) (k : CycleClaim) (rows : List (List ℕ)) (i : ℕ) (row : List ℕ) (w : CycleWriter W)
      → take i rows ++ row ∷ [] ≡ take (i + 1) rows
      → HasTaken contents before count (with_rows t (with_rows t k (take i rows)) (row ∷ [])) w
      → HasTaken contents before count (with_rows t k (take (i + 1) rows)) w
  rows_given before count t k rows i row w is h = subst (λ given. HasTaken contents before count given w) (row_next t k rows i row is) h

  -- no row was given yet
  pub none_given : (before : Option (List ℕ)) (count : ℕ) (t : CycleTable) (k : CycleClaim) (w : CycleWriter W)
      → HasTaken contents before count k w → HasTaken contents before count (with_rows t k []) w
  none_given before count t k w h = subst (λ given. HasTaken contents before count given w) (sym (no_rows t k)) h
