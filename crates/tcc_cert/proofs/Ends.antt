-- Where links end.
use Rattle.std.proofs.Common.{◌≡◌, ◌<◌, ℕ, List, [], ◌∷◌, ◌++◌, length, arith, refl}
use Rattle.tcc_graph.specs.Links.{link_to}
use Rattle.tcc_graph.specs.declared.link.Link.{Link}
use Rattle.tcc_cert.specs.CycleRules.{ends_at}

pub ends_at-push : (at : ℕ) (links : List Link) (l : Link) → ends_at at (links ++ l ∷ []) ≡ link_to l
ends_at-push at [] l = refl
ends_at-push at (m ∷ links) l = ends_at-push (link_to m) links l

-- some links end where the last ends
pub ends_at_some : (at other : ℕ) (links : List Link) → 0 < length links → ends_at at links ≡ ends_at other links
ends_at_some at other [] some = absurd (omega arith)
ends_at_some at other (l ∷ links) some = refl
