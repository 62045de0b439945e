-- What the rules on an order say.
use Rattle.std.proofs.Common.{◌≡◌, ◌≢◌, ◌<◌, ◌≤◌, ◌⊎◌, ◌↔◌, inl, inr, ℕ, Option, None, List, [], ◌∷◌, length, get_or, refl, sym, ◌∙◌, arith}
use Rattle.std.proofs.lemmas.Bool.{cases_eq, cases_lt}
use Rattle.tcc_reads.specs.History.{History, IsBySession, count, owner}
use Rattle.tcc_graph.specs.Levels.{judged}
use Rattle.tcc_graph.specs.Orders.{Before, IsCommitOrder, IsNumbering}
use Rattle.tcc_graph.specs.Relations.{IsReadsPair, IsSessionPair, IsCausalPair}
use Rattle.tcc_graph.proofs.Numberings.{order_of_two}
use Rattle.tcc_clocks.specs.Clocks.{LeadsOnward}
use Rattle.tcc_cert.specs.declared.large.RunsClaim.{RunsClaim}
use Rattle.tcc_judge.specs.Orders.{BreaksPair}
use Rattle.tcc_cert.specs.declared.large.Run.{Run}
use Rattle.tcc_judge.specs.Runs.{AreWhole, order_of}
use Rattle.tcc_judge.specs.Verdicts.{HasOrderSizes, order_rules, pair_rules}
use Rattle.tcc_judge.specs.declared.verdict.LargeRule.{LargeRule}
use Rattle.tcc_rules.specs.declared.verdict.Verdict.{Verdict}
use Rattle.tcc_rules.specs.Asked.{AllHold, IsVerdictOf, as_whole}
use Rattle.tcc_rules.proofs.Asked.{answer_later}
use Rattle.tcc_judge.specs.declared.verdict.LargeRule.TheVariants.{Sizes}
use Rattle.tcc_judge.specs.private.Least.{IsFoundFirst}
use Rattle.tcc_judge.specs.private.Positions.{ArePositions, IsTurned}
use Rattle.tcc_judge.specs.private.Decoding.{IsOrdered}
use Rattle.tcc_judge.proofs.FoundLemmas.{found_same}
use Rattle.tcc_judge.proofs.PositionLemmas.{before_at, at_before}
use Rattle.tcc_judge.proofs.Laid.{told_numbering, told_sessions}

module _ (h : History) (order positions : List ℕ) (numbering : IsNumbering (count h) order) (are : ArePositions (count h) order positions) where
  pub turned_breaks : (at : ℕ × ℕ) → IsTurned h positions at → BreaksPair h order at
  turned_breaks at (x, pair, low) = (x, pair, λ before. omega (arith, before_at (count h) order positions numbering are at.0 at.1 before, low))

  breaks_turned : (at : ℕ × ℕ) → BreaksPair h order at → IsTurned h positions at
  breaks_turned at (x, pair, apart) = (x, pair, go (cases_lt (get_or positions at.0 0) (get_or positions at.1 0)))
    where
      go : (get_or positions at.0 0 < get_or positions at.1 0) ⊎ (get_or positions at.1 0 ≤ get_or positions at.0 0) → get_or positions at.1 0 ≤ get_or positions at.0 0
      go (inl less) = absurd (apart (at_before (count h) order positions numbering are at.0 at.1 pair.0 pair.1 less))
      go (inr more) = more

  pub pairs_found : (found : Option (ℕ × ℕ)) → IsFoundFirst (IsTurned h positions) found → IsFoundFirst (BreaksPair h order) found
  pairs_found found w = found_same (IsTurned h positions) (BreaksPair h order) turned_breaks breaks_turned found w

  -- where no pair is out of order all pairs lead onward
  pub leads_onward : ((a b : ℕ) → IsSessionPair h a b → Before order a b) → IsFoundFirst (IsTurned h positions) None → LeadsOnward h order
  leads_onward sessions none = λ b c pair. go b c pair
    where
      read : (b c : ℕ) (x : List ℕ) → IsReadsPair h b c x → (get_or positions b 0 < get_or positions c 0) ⊎ (get_or positions c 0 ≤ get_or positions b 0) → Before order b c
      read b c x pair (inl less) = at_before (count h) order positions numbering are b c pair.0 pair.1 less
      read b c x pair (inr more) = absurd (none (b, c) (x, pair, more))

      go : (b c : ℕ) → IsCausalPair h b c → Before order b c
      go b c (inl pair) = sessions b c pair
      go b c (inr (x, pair)) = read b c x pair (cases_lt (get_or positions b 0) (get_or positions c 0))

-- the order of whole runs
pub told_ordered : (h : History) → IsBySession h.entries → 0 < count h → ((n : ℕ) → 0 < n → n < count h → owner h n < length h.sessions) → (runs : List Run)
    → AreWhole h runs → IsOrdered h (order_of h runs)
told_ordered h numbered some owned runs whole = record {
  numbered = numbered;
  numbering = told_numbering h numbered some owned runs whole;
  some = omega arith;
  init = refl;
  sessions = λ a b pair. told_sessions h numbered some owned runs whole a b pair;
}

-- the rules hold exactly for commit orders
pub accepted_order : (h : History) → IsBySession h.entries → 0 < count h → ((n : ℕ) → 0 < n → n < count h → owner h n < length h.sessions) → (k : RunsClaim)
    → AllHold (order_rules h k) ↔ (HasOrderSizes h k × IsCommitOrder (judged h k.level) (order_of h k.runs))
accepted_order h numbered some owned k = ((λ all. there all), λ both. back both)
  where
    there : AllHold (order_rules h k) → HasOrderSizes h k × IsCommitOrder (judged h k.level) (order_of h k.runs)
    there (sizes, (pairs, (axioms, rest))) =
        let ordered = told_ordered h numbered some owned k.runs sizes.whole in (
          sizes,
          record {
            numbering = ordered.numbering;
            sessions = ordered.sessions;
            reads = λ a b x pair. read ordered a b x pair;
            axiom_of = λ b a x c walk reason.
                order_of_two ordered.numbering b a reason.0.2.0 reason.0.1.0 reason.0.0 (λ apart. axioms (b, a) (x, c, walk, reason, apart));
          },
        )
      where
        read : IsOrdered h (order_of h k.runs) → (a b : ℕ) (x : List ℕ) → IsReadsPair h a b x → Before (order_of h k.runs) a b
        read ordered a b x pair = go (cases_eq a b)
          where
            go : (a ≡ b) ⊎ (a ≢ b) → Before (order_of h k.runs) a b
            go (inl same) =
                absurd (pairs (a, b) (x, pair, λ before. ordered.numbering.once before.0 before.1 before.2 before.3 (before.4 ∙ (same ∙ sym before.5))))
            go (inr other) = order_of_two ordered.numbering a b pair.0 pair.1 other (λ apart. pairs (a, b) (x, pair, apart))

    back : HasOrderSizes h k × IsCommitOrder (judged h k.level) (order_of h k.runs) → AllHold (order_rules h k)
    back (sizes, commit) = (
      sizes,
      (
        (λ at broken. broken.2 (commit.reads at.0 at.1 broken.0 broken.1)),
        ((λ at broken. broken.4 (commit.axiom_of at.0 at.1 broken.0 broken.1 broken.2 broken.3)), tt),
      ),
    )

-- the verdict on an order is that on the claim where the sizes are right
pub with_sizes : (h : History) (k : RunsClaim) → HasOrderSizes h k → (said : Verdict LargeRule) → IsVerdictOf (pair_rules (judged h k.level) (order_of h k.runs)) said
    → IsVerdictOf (order_rules h k) said
with_sizes h k sizes said w =
    answer_later (as_whole Sizes (HasOrderSizes h k) ∷ []) (pair_rules (judged h k.level) (order_of h k.runs)) said (sizes, tt) w
