-- Which of the usual names occur.
use Rattle.std.proofs.Common.{◌≡◌, ◌<◌, ℕ, zero, suc, cond, List, [], ◌∷◌, refl, ap, arith}
use Rattle.std.proofs.lemmas.Bool.{lt-ltb}
use Rattle.std.specs.Prelude.{nat_lt}
use Rattle.tcc_survey.specs.declared.usual_name.UsualName.{UsualName}
use Rattle.tcc_survey_run.specs.Told.{count_of, names_among}
use Rattle.tcc_survey_run.specs.declared.counting.NameCount.{NameCount}
use Rattle.tcc_survey_run.specs.declared.told.ToldRead.{ToldRead}

shown : (it : UsualName) (n : ℕ) → 0 < n → cond {A = List NameCount} (nat_lt 0 n) (record { name = it; count = n } ∷ []) [] ≡ record { name = it; count = n } ∷ []
shown it n some = ap (λ b. cond {A = List NameCount} b (record { name = it; count = n } ∷ []) []) (lt-ltb 0 n some)

hidden : (it : UsualName) (n : ℕ) → (0 < n → ⊥) → cond {A = List NameCount} (nat_lt 0 n) (record { name = it; count = n } ∷ []) [] ≡ []
hidden it zero none = refl
hidden it (suc n) none = absurd (none (omega arith))

pub among_one : (told : List ToldRead) (it : UsualName) → 0 < count_of told it
    → names_among told (it ∷ []) ≡ record { name = it; count = count_of told it } ∷ []
among_one told it some = shown it (count_of told it) some

pub among_none : (told : List ToldRead) (it : UsualName) → (0 < count_of told it → ⊥) → names_among told (it ∷ []) ≡ []
among_none told it none = hidden it (count_of told it) none
