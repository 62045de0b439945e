-- The numbers of contradicted reads are those of committed transactions.
use Rattle.std.proofs.Common.{◌≡◌, ◌<◌, ◌+◌, ℕ, zero, suc, List, [], ◌∷◌, ◌++◌, length, take, get_or, sym, ap, subst, arith, ◌∙◌}
use Rattle.std.specs.List.{AllZip}
use Rattle.std.proofs.Math.Seq.{take-suc}
use Rattle.tcc_txn.specs.Snapshots.{Sessions}
use Rattle.tcc_print.proofs.Checkpoints.{AllZip-append}
use Rattle.tcc_survey_run.specs.Told.{IsToldOf}
use Rattle.tcc_survey_run.specs.declared.told.ToldRead.{ToldRead}
use Rattle.std.proofs.lemmas.List.{get_or_default}
use Rattle.tcc_reads.specs.History.{Entry, History, count, entry_at, initial}
use Rattle.tcc_graph.specs.Keys.{keys}
use Rattle.tcc_graph.specs.Levels.{Judged}
use Rattle.tcc_survey.specs.Contradictions.{AreContradicted, HasRead, contradicted_at}
use Rattle.tcc_survey.specs.declared.contradicted.Contradicted.{Contradicted}
use Rattle.tcc_survey.specs.declared.usual_name.UsualName.TheVariants as name

-- a read and the writer that contradicts it, by numbers
pub record AreNumbers (h : History) (one : Contradicted) : Type 0 where
  pub some : 0 < one.reading.reader
  pub reader : one.reading.reader < count h
  pub key : one.reading.key_index < length (keys h)
  pub writer : one.writer < count h

reads_some : (j : Judged) (c i : ℕ) → entry_at j.history 0 ≡ initial → HasRead j c i → 0 < c
reads_some j zero i first has =
    let none : length (entry_at j.history 0).reads ≡ 0 = ap (λ (e : Entry). length e.reads) first in
    absurd (omega (arith, has.1))
reads_some j (suc c) i first has = omega arith

pub numbers : (j : Judged) (found : List Contradicted) → entry_at j.history 0 ≡ initial → AreContradicted j found → (k : ℕ) → k < length found
    → AreNumbers j.history (contradicted_at found k)
numbers j found first are k inside =
    let is = are.each k inside in
    record {
      some = reads_some j (contradicted_at found k).reading.reader (contradicted_at found k).reading.index first is.there;
      reader = is.there.0;
      key = is.key;
      writer = is.writer.by.0.1.0.2.0;
    }

pub told_below : (j : Judged) (found : List Contradicted) → entry_at j.history 0 ≡ initial → AreContradicted j found → (k : ℕ) (d : Contradicted) → k < length found
    → (reader writer : ℕ) → reader ≡ (get_or found k d).reading.reader → writer ≡ (get_or found k d).writer
    → (reader < count j.history) × (writer < count j.history)
told_below j found first are k d inside reader writer reads writes =
    let some : Contradicted = record { reading = record { reader = 0; index = 0; key_index = 0; source = 0 }; name = name.CausalChain; writer = 0 } in
    let same : get_or found k d ≡ contradicted_at found k = get_or_default found k d some inside in
    let is = numbers j found first are k inside in (
      subst (λ n. n < count j.history) (sym (reads ∙ ap (λ (one : Contradicted). one.reading.reader) same)) is.reader,
      subst (λ n. n < count j.history) (sym (writes ∙ ap (λ (one : Contradicted). one.writer) same)) is.writer,
    )

-- one more is reported
pub told_more : (s : Sessions) (h : History) (found : List Contradicted) (k : ℕ) (d : Contradicted) (told : List ToldRead) (it : ToldRead) → k < length found
    → AllZip (IsToldOf s h) (take k found) told → IsToldOf s h (get_or found k d) it → AllZip (IsToldOf s h) (take (k + 1) found) (told ++ it ∷ [])
told_more s h found k d told it inside before is =
    subst (λ n. AllZip (IsToldOf s h) (take n found) (told ++ it ∷ [])) (suc_is k)
    (subst (λ all. AllZip (IsToldOf s h) all (told ++ it ∷ [])) (sym (take-suc found k d inside))
    (AllZip-append (IsToldOf s h) (take k found) (get_or found k d ∷ []) told (it ∷ []) before (is, tt)))
  where
    suc_is : (k : ℕ) → suc k ≡ k + 1
    suc_is k = omega arith
