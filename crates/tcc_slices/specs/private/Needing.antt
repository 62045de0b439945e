-- What is kept of the needs of a cycle.
use Rattle.std.specs.Prelude.{ℕ, ◌==◌, if◌then◌else◌, List, [], ◌∷◌, ◌++◌, All, flat_map}
use Rattle.std.specs.List.Sorted.{IsNonDecreasingBy}
use Rattle.tcc_graph.specs.declared.step.Step.{Step}
use Rattle.tcc_graph.specs.declared.step.Step.TheVariants as step
use Rattle.tcc_graph.specs.declared.link.Link.{Link}
use Rattle.tcc_graph.specs.declared.link.Link.TheVariants as link
use Rattle.tcc_slices.specs.Needs.{HasStep, IsMet, IsWritten}
use Rattle.tcc_slices.specs.declared.needs.Need.{Need}
use Rattle.tcc_slices.specs.declared.needs.Need.TheVariants as need

-- a need of the transaction of a number; `init` has none
abbrev pub need_at : ℕ → Need → List (ℕ × Need)
need_at n one = if n == 0 then [] else (n, one) ∷ []

-- the needs of a step, and of a link
abbrev pub needs_of_step : Step → List (ℕ × Need)
needs_of_step (step.Session a b) = need_at a need.There ++ need_at b need.There
needs_of_step (step.Reads a b x) = need_at a (need.Write x) ++ need_at b (need.Read x a)

abbrev pub needs_of_link : Link → List (ℕ × Need)
needs_of_link (link.Session a b) = needs_of_step (step.Session a b)
needs_of_link (link.Reads a b x) = needs_of_step (step.Reads a b x)
needs_of_link (link.Derived b a x c walk) = need_at b (need.Write x) ++ (needs_of_step (step.Reads a c x) ++ flat_map needs_of_step walk)

-- none has a greater number than a later one
abbrev pub AreByNumber : List (ℕ × Need) → Type 0
AreByNumber needs = IsNonDecreasingBy (λ one. one.0) needs

-- the links need this of the transaction of a number
abbrev pub IsNeedOf : List Link → ℕ → Need → Type 0
IsNeedOf links n need.There = IsMet links n
IsNeedOf links n (need.Write key) = IsWritten links n key
IsNeedOf links n (need.Read key source) = HasStep links (step.Reads source n key)

-- each of some needs, by number, is one of the links
abbrev pub AreNeeds : List Link → List (ℕ × Need) → Type 0
AreNeeds links needs = All (λ one. IsNeedOf links one.0 one.1) needs
