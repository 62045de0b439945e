-- Where both are given, they are two files.
use Rattle.std.proofs.Common.{◌≡◌, Bool, true, false, Option, None, Some, sym, ◌∙◌}
use Rattle.std.specs.Prelude.{◌↔◌, ⊤, IsTrue, MatchOption}
use Rattle.tcc_cli.specs.FileIds.{AreSame}
use Rattle.tcc_cli.specs.declared.known_file.FileId.{FileId}
use Rattle.tcc_cli.proofs.files.open_outputs.Goals as goal

are_two : {A : Type 0} (id : A → Option FileId) (one other : Option A) (same : Bool)
    → MatchOption one (same ≡ false) (λ a. MatchOption other (same ≡ false) (λ b. IsTrue same ↔ AreSame (id a) (id b))) → same ≡ false
    → MatchOption one ⊤ (λ a. MatchOption other ⊤ (λ b. AreSame (id a) (id b) → ⊥))
are_two id None other same is none = tt
are_two id (Some a) None same is none = tt
are_two id (Some a) (Some b) same is none = λ both. no_truth (sym none ∙ is.1 both)
  where
    no_truth : false ≡ true → ⊥
    no_truth e = cc e

pub returns-clause-two : goal.returns-clause-two
returns-clause-two c = are_two (λ telling. telling.stream.known.id) c.in_ok-first.first c.in_ok-second.second c.are_one.result c.are_one.ensures c.if-are_one.false
