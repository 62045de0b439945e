-- Links, one after another: what is left to check of them.
use Rattle.std.proofs.Common.{◌≡◌, ◌<◌, ◌≤◌, ◌+◌, ℕ, List, ◌∷◌, length, get_or, drop, sym, ap, subst, ◌∙◌}
use Rattle.std.proofs.lemmas.List.{drop_more, drop_all}
use Rattle.tcc_graph.specs.Levels.{Judged}
use Rattle.tcc_graph.specs.Links.{link_from, link_to, IsLink}
use Rattle.tcc_graph.specs.Routes.{LinksLead}
use Rattle.tcc_graph.specs.declared.link.Link.{Link}

-- the links lead from the start exactly if those after the first i lead from here
pub record IsRestOf (j : Judged) (start at end i : ℕ) (links : List Link) : Type 0 where
  pub forth : LinksLead j start end links → LinksLead j at end (drop i links)
  pub back : LinksLead j at end (drop i links) → LinksLead j start end links

pub whole_rest : (j : Judged) (start end : ℕ) (links : List Link) → IsRestOf j start start end 0 links
whole_rest j start end links = record { forth = λ w. w; back = λ w. w }

split : (i : ℕ) (links : List Link) (l : Link) → i < length links → l ≡ get_or links i l → drop i links ≡ l ∷ drop (i + 1) links
split i links l inside is = drop_more links i l inside ∙ ap (λ z. z ∷ drop (i + 1) links) (sym is)

pub rest_more : (j : Judged) (start at end i : ℕ) (links : List Link) (l : Link) → i < length links → l ≡ get_or links i l → link_from l ≡ at → IsLink j l
    → IsRestOf j start at end i links → IsRestOf j start (link_to l) end (i + 1) links
rest_more j start at end i links l inside is begins right w = record {
  forth = λ all. (subst (λ (z : List Link). LinksLead j at end z) (split i links l inside is) (w.forth all)).2;
  back = λ rest. w.back (subst (λ (z : List Link). LinksLead j at end z) (sym (split i links l inside is)) (begins, right, rest));
}

pub not_led : (j : Judged) (start at end i : ℕ) (links : List Link) (l : Link) → i < length links → l ≡ get_or links i l → IsRestOf j start at end i links
    → (link_from l ≡ at → IsLink j l → ⊥) → LinksLead j start end links → ⊥
not_led j start at end i links l inside is w wrong all =
    let led = subst (λ (z : List Link). LinksLead j at end z) (split i links l inside is) (w.forth all) in
    wrong led.0 led.1

pub led : (j : Judged) (start at end i : ℕ) (links : List Link) → length links ≤ i → IsRestOf j start at end i links → at ≡ end → LinksLead j start end links
led j start at end i links all w e = w.back (subst (λ (z : List Link). LinksLead j at end z) (sym (drop_all i links all)) e)

pub led_back : (j : Judged) (start at end i : ℕ) (links : List Link) → length links ≤ i → IsRestOf j start at end i links → LinksLead j start end links → at ≡ end
led_back j start at end i links all w l = subst (λ (z : List Link). LinksLead j at end z) (drop_all i links all) (w.forth l)
