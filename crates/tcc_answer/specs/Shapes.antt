-- The shape of an anomaly, by the derived links of its cycle.
use Rattle.std.specs.Prelude.{ℕ, ◌==◌, Bool, true, false, if◌then◌else◌, List, [], ◌∷◌, map, filter}
use Rattle.tcc_graph.specs.Links.{link_to}
use Rattle.tcc_graph.specs.declared.link.Link.{Link}
use Rattle.tcc_graph.specs.declared.link.Link.TheVariants as link
use Rattle.tcc_answer.specs.declared.shape.Shape.{Shape}
use Rattle.tcc_answer.specs.declared.shape.Shape.TheVariants.{CyclicCausality, StaleInitialRead, OverwrittenRead, ConflictCycle}

abbrev pub is_derived : Link → Bool
is_derived (link.Session a b) = false
is_derived (link.Reads a b x) = false
is_derived (link.Derived b a x c walk) = true

-- where the derived links lead
abbrev pub derived_ends : List Link → List ℕ
derived_ends links = map link_to (filter is_derived links)

-- no derived link; one into `init`; one elsewhere; two or more
abbrev pub shape_by : List ℕ → Shape
shape_by [] = CyclicCausality
shape_by (a ∷ []) = if a == 0 then StaleInitialRead else OverwrittenRead
shape_by (a ∷ b ∷ ends) = ConflictCycle

abbrev pub shape_of : List Link → Shape
shape_of links = shape_by (derived_ends links)
