-- Steps and links with other numbers, and links by their numbers alone.
use Rattle.std.specs.Prelude.{ℕ, ◌≡◌, List, [], ◌∷◌, map}
use Rattle.tcc_graph.specs.Links.{link_from, link_to}
use Rattle.tcc_graph.specs.declared.step.Step.{Step}
use Rattle.tcc_graph.specs.declared.step.Step.TheVariants as step
use Rattle.tcc_graph.specs.declared.link.Link.{Link}
use Rattle.tcc_graph.specs.declared.link.Link.TheVariants as link

-- a step, and a link, with each number mapped by a function
abbrev pub step_by : (ℕ → ℕ) → Step → Step
step_by f (step.Session a b) = step.Session (f a) (f b)
step_by f (step.Reads a b x) = step.Reads (f a) (f b) x

abbrev pub link_by : (ℕ → ℕ) → Link → Link
link_by f (link.Session a b) = link.Session (f a) (f b)
link_by f (link.Reads a b x) = link.Reads (f a) (f b) x
link_by f (link.Derived b a x c walk) = link.Derived (f b) (f a) x (f c) (map (step_by f) walk)

-- the links lead from a to b by their numbers alone, each from where the one before ends
abbrev pub LeadOn : ℕ → ℕ → List Link → Type 0
LeadOn a b [] = a ≡ b
LeadOn a b (l ∷ links) = (link_from l ≡ a) × LeadOn (link_to l) b links
