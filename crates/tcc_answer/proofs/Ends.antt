-- Where the derived links of a list lead.
use Rattle.std.proofs.Common.{◌≡◌, ℕ, ◌+◌, ◌<◌, ◌∙◌, true, List, [], ◌∷◌, ◌++◌, length, get_or, take, drop, map, sym, ap, subst, take-append-drop}
use Rattle.std.proofs.lemmas.List.{map-append, at_drop_more}
use Rattle.std.proofs.lemmas.Bool.{false≢true}
use Rattle.std.proofs.lemmas.List.Elements.{filter-append}
use Rattle.std.specs.Prelude.{Option, None, Some, filter}
use Rattle.std.specs.Option.{is_some}
use Rattle.tcc_graph.specs.Links.{link_to}
use Rattle.tcc_graph.specs.declared.step.Step.{Step}
use Rattle.tcc_graph.specs.declared.link.Link.{Link}
use Rattle.tcc_graph.specs.declared.link.Link.TheVariants as link
use Rattle.tcc_answer.specs.Shapes.{is_derived, derived_ends, shape_by, shape_of}
use Rattle.tcc_answer.specs.declared.shape.Shape.TheVariants.{ConflictCycle}

-- the one end that was met, if any
abbrev pub end_of : Option ℕ → List ℕ
end_of None = []
end_of (Some a) = a ∷ []

ends-append : (xs ys : List Link) → derived_ends (xs ++ ys) ≡ derived_ends xs ++ derived_ends ys
ends-append xs ys = ap (map link_to) (filter-append is_derived xs ys) ∙ map-append link_to (filter is_derived xs) (filter is_derived ys)

-- the links around one of them
around : (links : List Link) (i : ℕ) (l : Link) → i < length links → l ≡ get_or links i l → links ≡ take i links ++ l ∷ drop (i + 1) links
around links i l lt is =
    subst (λ x. links ≡ take i links ++ x ∷ drop (i + 1) links) (sym is)
    (sym (take-append-drop i links) ∙ at_drop_more (λ rest. take i links ++ rest) links i l lt)

-- an end that was met, and one more
two_ends : (end : Option ℕ) (before : List ℕ) (a : ℕ) (after : List ℕ) → before ≡ end_of end → true ≡ is_some end
    → shape_by (before ++ a ∷ after) ≡ ConflictCycle
two_ends None before a after is some = absurd (false≢true (sym some))
two_ends (Some e) before a after is some = ap (λ ends. shape_by (ends ++ a ∷ after)) is

-- one derived link lies before another
pub conflict : (links : List Link) (i : ℕ) (l : Link) (end : Option ℕ) (b : ℕ) (a : ℕ) (x : List ℕ) (c : ℕ) (walk : List Step)
    → i < length links → l ≡ get_or links i l → l ≡ link.Derived b a x c walk
    → derived_ends (take i links) ≡ end_of end → true ≡ is_some end
    → ConflictCycle ≡ shape_of links
conflict links i l end b a x c walk lt is derived before some =
    let parts = subst (λ m. links ≡ take i links ++ m ∷ drop (i + 1) links) derived (around links i l lt is) in
    sym (ap shape_of parts
    ∙ ap shape_by (ends-append (take i links) (link.Derived b a x c walk ∷ drop (i + 1) links))
    ∙ two_ends end (derived_ends (take i links)) a (derived_ends (drop (i + 1) links)) before some)
