-- Links, as they are looked at one by one.
use Rattle.std.proofs.Common.{below_more, ℕ, ◌≡◌, ◌<◌, ◌+◌, List, length, get_or, subst, ◌∙◌}
use Rattle.std.proofs.lemmas.List.{get_or_default}
use Rattle.tcc_graph.specs.Levels.{Judged}
use Rattle.tcc_graph.specs.Links.{IsLink}
use Rattle.tcc_graph.specs.declared.link.Link.{Link}

module _ (j : Judged) (links : List Link) where
  abbrev pub AreLinks : ℕ → Type 0
  AreLinks n = (i : ℕ) (d : Link) → i < n → IsLink j (get_or links i d)

  -- one more is a link
  pub one_more : (n : ℕ) (x : Link) → n < length links → x ≡ get_or links n x → IsLink j x → AreLinks n → AreLinks (n + 1)
  one_more n x within is link before i d =
      below_more (λ k. IsLink j (get_or links k d)) n (λ k. before k d) (subst (IsLink j) (is ∙ get_or_default links n x d within) link) i
