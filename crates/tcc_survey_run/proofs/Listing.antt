-- The parts of a survey's text, one after the other.
use Rattle.std.proofs.Common.{◌≡◌, ℕ, Bool, List, [], ◌∷◌, ◌++◌, ◌<◌, flat_map, length, Option, Ok, Err, inl, subst, arith}
use Rattle.std.specs.Prelude.{Result, IfErr, IsErrAnd, OnOk}
use Rattle.std.specs.Io.KnownBytes.{Appends}
use Rattle.std.proofs.KnownBytes.{Appends-trans}
use Rattle.tcc_txn.specs.Snapshots.{Sessions}
use Rattle.tcc_reads.specs.Faults.{read_faults}
use Rattle.tcc_reads.specs.History.{History}
use Rattle.tcc_reads.specs.declared.fault.ReadFault.{ReadFault}
use Rattle.tcc_print.specs.Printed.{EndsIn, unresolved}
use Rattle.tcc_survey.specs.declared.contradicted.Contradicted.{Contradicted}
use Rattle.tcc_survey_run.specs.Surveys.{AreWholeLines, BreaksOff, GoesOut, fault_lines, name_line, read_count, read_line, survey_status, survey_text, total_line}
use Rattle.tcc_survey_run.specs.Told.{AreNames, AreTold}
use Rattle.tcc_survey_run.specs.private.Saying.{SaysFound}
use Rattle.tcc_survey_run.specs.declared.counting.NameCount.{NameCount}
use Rattle.tcc_survey_run.specs.declared.told.ToldRead.{ToldRead}
use Rattle.tcc_survey_run.proofs.Breaking.{breaks_behind, breaks_ending, breaks_first, ended_by, lines_all}
use Rattle.tcc_survey_run.proofs.LineEnds.{faults_end, name_ends, read_ends}

module _ (json : Bool) (h : History) (told : List ToldRead) (faults : List ReadFault) (names : List NameCount) where
  abbrev reads_said : List ℕ
  reads_said = flat_map (read_line json h) told

  abbrev faults_said : List ℕ
  faults_said = fault_lines json faults

  abbrev names_said : List ℕ
  names_said = flat_map (name_line json) names

  abbrev total_said : List ℕ
  total_said = total_line json (length told) (read_count h) (length faults)

  reads_lines : AreWholeLines reads_said
  reads_lines = lines_all (read_line json h) (read_ends json h) told

  faults_lines : AreWholeLines faults_said
  faults_lines = faults_end json faults

  names_lines : AreWholeLines names_said
  names_lines = lines_all (name_line json) (name_ends json) names

  abbrev whole : List ℕ
  whole = survey_text json h told faults names

  module _ (a : Option (List ℕ)) (some : List ToldRead) (same : some ≡ told) where
    pub reads_break : (b : Option (List ℕ)) (code : ℕ) → BreaksOff json a b (flat_map (read_line json h) some) code
        → {A : Type 0} (r : Result A ℕ) → IsErrAnd r (λ c. c ≡ code) → IfErr r (BreaksOff json a b whole)
    reads_break b code breaks r is =
        ended_by (BreaksOff json a b whole) r code is
        (breaks_first json a b reads_said (faults_said ++ (names_said ++ total_said)) code
        (subst (λ ts. BreaksOff json a b (flat_map (read_line json h) ts) code) same breaks))

    module _ (m : Option (List ℕ)) (out : Appends a m (flat_map (read_line json h) some)) where
      reads_out : Appends a m reads_said
      reads_out = subst (λ ts. Appends a m (flat_map (read_line json h) ts)) same out

      pub faults_break : (b : Option (List ℕ)) (code : ℕ) → BreaksOff json m b faults_said code
          → {A : Type 0} (r : Result A ℕ) → IsErrAnd r (λ c. c ≡ code) → IfErr r (BreaksOff json a b whole)
      faults_break b code breaks r is =
          ended_by (BreaksOff json a b whole) r code is
          (breaks_behind json a m b reads_said (faults_said ++ (names_said ++ total_said)) code reads_lines reads_out
          (breaks_first json m b faults_said (names_said ++ total_said) code breaks))

      module _ (n : Option (List ℕ)) (faulty : Appends m n faults_said) (few : List NameCount) (alike : few ≡ names) where
        pub names_break : (b : Option (List ℕ)) (code : ℕ) → BreaksOff json n b (flat_map (name_line json) few) code
            → {A : Type 0} (r : Result A ℕ) → IsErrAnd r (λ c. c ≡ code) → IfErr r (BreaksOff json a b whole)
        names_break b code breaks r is =
            ended_by (BreaksOff json a b whole) r code is
            (breaks_behind json a m b reads_said (faults_said ++ (names_said ++ total_said)) code reads_lines reads_out
            (breaks_behind json m n b faults_said (names_said ++ total_said) code faults_lines faulty
            (breaks_first json n b names_said total_said code
            (subst (λ ns. BreaksOff json n b (flat_map (name_line json) ns) code) alike breaks))))

        module _ (k : Option (List ℕ)) (named : Appends n k (flat_map (name_line json) few)) (text : List ℕ) (is : text ≡ total_said) where
          names_out : Appends n k names_said
          names_out = subst (λ ns. Appends n k (flat_map (name_line json) ns)) alike named

          -- the last line was written, or the run ended in it
          pub total_out : (b : Option (List ℕ)) (r : Result (Unit {0}) ℕ) → OnOk r (Appends k b text) → IfErr r (EndsIn json k b text)
              → OnOk r (Appends a b whole) × IfErr r (BreaksOff json a b whole)
          total_out b (Ok done) out ends = (
            Appends-trans a m b reads_said (faults_said ++ (names_said ++ total_said)) reads_out
                (Appends-trans m n b faults_said (names_said ++ total_said) faulty
                (Appends-trans n k b names_said total_said names_out (subst (λ t. Appends k b t) is out))),
            tt,
          )
          total_out b (Err code) out ends = (
            tt,
            breaks_behind json a m b reads_said (faults_said ++ (names_said ++ total_said)) code reads_lines reads_out
                (breaks_behind json m n b faults_said (names_said ++ total_said) code faults_lines faulty
                (breaks_behind json n k b names_said total_said code names_lines names_out
                (breaks_ending json k b total_said code (subst (λ t. EndsIn json k b t code) is ends)))),
          )

-- read faults, where there are some, broke off
pub faults_ended : (json : Bool) (a b : Option (List ℕ)) (faults : List ReadFault) → 0 < length faults → (r : Result (Unit {0}) ℕ)
    → IfErr r (EndsIn json a b (unresolved json faults)) → IfErr r (BreaksOff json a b (fault_lines json faults))
faults_ended json a b [] some r ends = absurd (omega (arith, some))
faults_ended json a b (fault ∷ faults) some (Ok done) ends = tt
faults_ended json a b (fault ∷ faults) some (Err code) ends = breaks_ending json a b (unresolved json (fault ∷ faults)) code ends

-- what is found was said, where its lines are written
pub said : (json : Bool) (s : Sessions) (h : History) (found : List Contradicted) (before after : Option (List ℕ)) (code : ℕ)
    (faults : List ReadFault) (told : List ToldRead) (names : List NameCount) → AreTold s h found told → AreNames told names → faults ≡ read_faults s
    → GoesOut json before after (survey_text json h told faults names) (survey_status told faults) code → SaysFound json s h found before after code
said json s h found before after code faults told names are named same out =
    inl (told, names, are, named, subst (λ fs. GoesOut json before after (survey_text json h told fs names) (survey_status told fs) code) same out)
