-- Links that are right are a cycle.
use Rattle.std.proofs.Common.{◌≡◌, ◌+◌, ◌∷◌, ◌++◌, [], ℕ, List, length, append_assoc, refl, sym, subst, ◌∙◌}
use Rattle.tcc_graph.specs.Levels.{Judged}
use Rattle.tcc_graph.specs.Links.{link_to}
use Rattle.tcc_graph.specs.Routes.{IsCycle, LinksLead}
use Rattle.tcc_graph.specs.declared.link.Link.{Link}
use Rattle.tcc_cert.specs.CycleRules.{AreLinksRight, IsLinkRight, ends_at}
use Rattle.tcc_cert.proofs.Ends.{ends_at-push, ends_at_some}
use Rattle.tcc_rules.proofs.Decisions.{link_right, true_at_last}

module _ (j : Judged) (most : ℕ) (links : List Link) (good : AreLinksRight j most links) where
  -- each link right, the links lead on from where those before them end
  lead : (before later : List Link) (at : ℕ) → links ≡ before ++ later → at ≡ ends_at (ends_at 0 links) before → LinksLead j at (ends_at at later) later
  lead before [] at split here = refl
  lead before (l ∷ later) at split here =
      let right =
      true_at_last (link_right j at l)
      (λ wrong. good.right (length before + 1)
      (record {
        before = before;
        link = l;
        after = later;
        split = split;
        at = refl;
        wrong = subst (λ (z : ℕ). IsLinkRight j z l → ⊥) here wrong;
      })) in (
        right.0,
        right.1,
        lead (before ++ l ∷ []) later (link_to l) (split ∙ sym (append_assoc before (l ∷ []) later)) (sym (ends_at-push (ends_at 0 links) before l)),
      )

  pub cycle_of_right : IsCycle j (ends_at 0 links) links
  cycle_of_right =
      let s = ends_at 0 links in
      (good.some, subst (λ (z : ℕ). LinksLead j s z links) (ends_at_some s 0 links good.some) (lead [] links s refl refl))
