-- What fits a read, whatever the numbers of transactions are.
use Rattle.std.proofs.Common.{◌≡◌, ◌<◌, ◌⊎◌, ◌↔◌, inl, inr, ℕ, zero, suc, List, [], ◌∷◌, map, refl, sym, ap, ◌∙◌, subst, arith}
use Rattle.std.proofs.lemmas.Bool.{cases_order}
use Rattle.std.proofs.lemmas.List.{length-map}
use Rattle.tcc_reads.specs.History.{History, count}
use Rattle.tcc_graph.specs.Levels.{IsAllowed, judged}
use Rattle.tcc_graph.specs.Relations.{IsSessionPair}
use Rattle.tcc_graph.specs.Walks.{IsStep, IsWalk, Leads, step_from, step_to}
use Rattle.tcc_graph.specs.declared.level.Level.{Level}
use Rattle.tcc_graph.specs.declared.level.Level.TheVariants as level
use Rattle.tcc_graph.specs.declared.step.Step.{Step}
use Rattle.tcc_graph.specs.declared.step.Step.TheVariants as step
use Rattle.tcc_survey.specs.Contradictions.{IsCalled, IsContradictedBy, IsUsualName}
use Rattle.tcc_survey.specs.Names.{Fits, IsUpTo, rank}
use Rattle.tcc_survey.specs.Renamings.{AreAlike, IsRenaming}
use Rattle.tcc_survey.specs.declared.usual_name.UsualName.{UsualName}
use Rattle.tcc_survey.specs.declared.usual_name.UsualName.TheVariants as name

module _ (h g : History) (to : ℕ → ℕ) (is : IsRenaming h g to) where
  abbrev moved : Step → Step
  moved (step.Session a b) = step.Session (to a) (to b)
  moved (step.Reads a b x) = step.Reads (to a) (to b) x

  moved_from : (s : Step) → step_from (moved s) ≡ to (step_from s)
  moved_from (step.Session a b) = refl
  moved_from (step.Reads a b x) = refl

  moved_to : (s : Step) → step_to (moved s) ≡ to (step_to s)
  moved_to (step.Session a b) = refl
  moved_to (step.Reads a b x) = refl

  moved_step : (s : Step) → IsStep h s → IsStep g (moved s)
  moved_step (step.Session a b) w = is.sessions a b w
  moved_step (step.Reads a b x) w = is.reads a b x w

  moved_leads : (a b : ℕ) (steps : List Step) → Leads h a b steps → Leads g (to a) (to b) (map moved steps)
  moved_leads a b [] same = ap to same
  moved_leads a b (s ∷ steps) (from, valid, rest) = (
    moved_from s ∙ ap to from,
    moved_step s valid,
    subst (λ (z : ℕ). Leads g z (to b) (map moved steps)) (sym (moved_to s)) (moved_leads (step_to s) b steps rest),
  )

  moved_walk : (a b : ℕ) (walk : List Step) → IsWalk h a b walk → IsWalk g (to a) (to b) (map moved walk)
  moved_walk a b walk w = (omega (arith, w.0, length-map walk moved), moved_leads a b walk w.1)

  moved_allowed : (l : Level) (walk : List Step) → IsAllowed l walk → IsAllowed l (map moved walk)
  moved_allowed level.Causal walk w = tt
  moved_allowed level.Atomic walk w = length-map walk moved ∙ w

  moved_up : (e c : ℕ) → e < count h → IsUpTo h e c → IsUpTo g (to e) (to c)
  moved_up e c below (some, kind) = (is.some e below some, go kind)
    where
      go : (e ≡ c) ⊎ IsSessionPair h e c → (to e ≡ to c) ⊎ IsSessionPair g (to e) (to c)
      go (inl same) = inl (ap to same)
      go (inr pair) = inr (is.sessions e c pair)

  moved_fits : (c : ℕ) (x : List ℕ) (b : ℕ) (it : UsualName) → Fits h c x b it → Fits g (to c) x (to b) it
  moved_fits c x b name.ReadYourWrites pair = is.sessions b c pair
  moved_fits c x b name.FracturedRead (y, pair) = (y, is.reads b c y pair)
  moved_fits c x b name.MonotonicReads (e, pair, before) = (to e, is.reads b e x pair, is.sessions e c before)
  moved_fits c x b name.MonotonicWrites (e, d, upto, (y, pair), before) =
      (to e, to d, moved_up e c pair.1 upto, (y, is.reads d e y pair), is.sessions b d before)
  moved_fits c x b name.WritesFollowReads (e, d, upto, (y, pair), (f, reads, way)) =
      (to e, to d, moved_up e c pair.1 upto, (y, is.reads d e y pair), (to f, is.reads b f x reads, go way))
    where
      go : (f ≡ d) ⊎ IsSessionPair h f d → (to f ≡ to d) ⊎ IsSessionPair g (to f) (to d)
      go (inl same) = inl (ap to same)
      go (inr before) = inr (is.sessions f d before)
  moved_fits c x b name.CausalChain fits = tt

  module _ (back : ℕ → ℕ) (same : (a : ℕ) → a < count h → back (to a) ≡ a) (l : Level) where
    moved_contradicted : (c : ℕ) (x : List ℕ) (a b : ℕ) → IsContradictedBy (judged h l) c x a b → IsContradictedBy (judged g l) (to c) x (to a) (to b)
    moved_contradicted c x a b ((walk, ((apart, reads, writer), (valid, allowed))), (way, reached)) = (
      (
        map moved walk,
        (
          (
            (λ e. apart (sym (same b writer.0) ∙ (ap back e ∙ same a reads.0))),
            is.reads a c x reads,
            is.writers b x writer,
          ),
          (moved_walk b c walk valid, moved_allowed l walk allowed),
        ),
      ),
      (map moved way, moved_walk a b way reached),
    )

    moved_called : (c : ℕ) (x : List ℕ) (a : ℕ) (it : UsualName) → IsCalled (judged h l) c x a it → IsCalled (judged g l) (to c) x (to a) it
    moved_called c x a it (b, contradicted, fits) = (to b, moved_contradicted c x a b contradicted, moved_fits c x b it fits)

-- ---- there and back
module _ (h g : History) (to back : ℕ → ℕ) (alike : AreAlike h g to back) (l : Level) (c : ℕ) (x : List ℕ) (a : ℕ) (below : c < count h) (source : a < count h) where
  called_again : (it : UsualName) → IsCalled (judged g l) (to c) x (to a) it → IsCalled (judged h l) c x a it
  called_again it w =
      let moved_back : IsCalled (judged h l) (back (to c)) x (back (to a)) it
      = moved_called g h back alike.again to alike.other l (to c) x (to a) it w in
      subst (λ (z : ℕ). IsCalled (judged h l) z x a it) (alike.same c below)
      (subst (λ (z : ℕ). IsCalled (judged h l) (back (to c)) x z it) (alike.same a source) moved_back)

  pub renamed_called : (it : UsualName) → IsCalled (judged h l) c x a it ↔ IsCalled (judged g l) (to c) x (to a) it
  renamed_called it = (moved_called h g to alike.there back alike.same l c x a it, called_again it)

  -- the name of a rank
  abbrev of_rank : ℕ → UsualName
  of_rank zero = name.ReadYourWrites
  of_rank (suc zero) = name.FracturedRead
  of_rank (suc (suc zero)) = name.MonotonicReads
  of_rank (suc (suc (suc zero))) = name.MonotonicWrites
  of_rank (suc (suc (suc (suc zero)))) = name.WritesFollowReads
  of_rank (suc (suc (suc (suc (suc n))))) = name.CausalChain

  rank_of : (n : UsualName) → of_rank (rank n) ≡ n
  rank_of name.ReadYourWrites = refl
  rank_of name.FracturedRead = refl
  rank_of name.MonotonicReads = refl
  rank_of name.MonotonicWrites = refl
  rank_of name.WritesFollowReads = refl
  rank_of name.CausalChain = refl

  pub renamed_names : (n m : UsualName) → IsUsualName (judged h l) c x a n → IsUsualName (judged g l) (to c) x (to a) m → n ≡ m
  renamed_names n m one other = go (cases_order (rank n) (rank m))
    where
      go : (rank n ≡ rank m) ⊎ ((rank n < rank m) ⊎ (rank m < rank n)) → n ≡ m
      go (inl same) = sym (rank_of n) ∙ (ap of_rank same ∙ rank_of m)
      go (inr (inl less)) = absurd (other.first n less ((renamed_called n).0 one.fits))
      go (inr (inr more)) = absurd (one.first m more ((renamed_called m).1 other.fits))
