-- What is checked of the links of a cycle, one after the other.
use Rattle.std.specs.Prelude.{ℕ, Bool, true, false, ◌<◌, ◌≤◌, ◌+◌, ◌-◌, ◌≡◌, nat_lt, if◌then◌else◌, List, [], ◌∷◌, ◌++◌, length, take, Option, None, Some}
use Rattle.std.specs.Prelude.{MatchOption}
use Rattle.tcc_graph.specs.Levels.{Judged}
use Rattle.tcc_graph.specs.Links.{cost, link_from}
use Rattle.tcc_graph.specs.declared.link.Link.{Link}
use Rattle.tcc_cert.specs.CycleRules.{IsWrongFrom, ends_at}
use Rattle.tcc_rules.specs.declared.links.LinksJudge.{LinksJudge}
use Rattle.tcc_rules.specs.declared.links.LinksSeen.{LinksSeen}

-- the first link that is wrong, counted from 1
pub record IsFirstWrongFrom (j : Judged) (from : ℕ) (links : List Link) (i : ℕ) : Type 0 where
  pub wrong : IsWrongFrom j from links i
  pub first : (earlier : ℕ) → earlier < i → IsWrongFrom j from links earlier → ⊥

-- where the first link begins
abbrev pub begins_at : List Link → ℕ
begins_at [] = 0
begins_at (link ∷ links) = link_from link

-- what the first i links show, whatever comes after them
pub record AreSeenTo (j : Judged) (least : ℕ) (links : List Link) (i : ℕ) (seen : LinksSeen) : Type 0 where
  pub ends : MatchOption seen.ends (i ≡ 0) (λ ends. (0 < i) × (ends.0 ≡ begins_at links) × (ends.1 ≡ ends_at 0 (take i links)))
  pub wrong : MatchOption seen.wrong ((n : ℕ) → n ≤ i → IsWrongFrom j (begins_at links) links n → ⊥) (IsFirstWrongFrom j (begins_at links) links)
  pub left : MatchOption seen.left (least < cost (take i links)) (λ left. cost (take i links) + left ≡ least)

-- all links that came so far were judged, whatever comes after them
pub record AreJudged (j : Judged) (most : ℕ) (links : List Link) (judge : LinksJudge) : Type 0 where
  pub counted : judge.count ≡ length links
  pub seen : (more : List Link) → AreSeenTo j most (links ++ more) (length links) judge.seen

-- where the first begins and the last ends, if there is one
abbrev pub ends_or : Option (ℕ × ℕ) → ℕ → ℕ × ℕ
ends_or (Some ends) from = ends
ends_or None from = (from, from)

-- the first wrong one, where the next has this number
abbrev pub first_wrong : Option ℕ → Bool → ℕ → Option ℕ
first_wrong (Some first) is_right number = Some first
first_wrong None true number = None
first_wrong None false number = Some number

-- what is left after one more cost
abbrev pub left_behind : Option ℕ → ℕ → Option ℕ
left_behind (Some left) one = if nat_lt left one then None else Some (left - one)
left_behind None one = None
