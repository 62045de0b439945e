-- The links that came so far, judged one by one.
use Rattle.std.proofs.Common.{◌≡◌, ◌<◌, ◌+◌, ◌↔◌, ℕ, true, false, List, [], ◌∷◌, ◌++◌, None, Some, length, get_or, arith, refl, sym, subst, append_assoc}
use Rattle.std.proofs.Common.{append-nil, length-append}
use Rattle.std.specs.Prelude.{IsTrue, MatchOption}
use Rattle.std.proofs.lemmas.List.{get_or_at}
use Rattle.tcc_graph.specs.Levels.{Judged}
use Rattle.tcc_graph.specs.Links.{cost}
use Rattle.tcc_graph.specs.declared.link.Link.{Link}
use Rattle.tcc_rules.specs.Links.{AreJudged, AreSeenTo}
use Rattle.tcc_rules.specs.declared.links.LinksJudge.{LinksJudge}
use Rattle.tcc_rules.specs.declared.links.LinksSeen.{LinksSeen}
use Rattle.tcc_rules.proofs.Linked.{take_whole}

-- one more
pub judged_more : (j : Judged) (most : ℕ) (links : List Link) (l : Link) (old : LinksJudge) (number : ℕ) (seen : LinksSeen) → AreJudged j most links old
    → number ≡ old.count + 1
    → ((least i : ℕ) (all : List Link) → number ≡ i + 1 → i < length all → l ≡ get_or all i l → AreSeenTo j least all i old.seen → AreSeenTo j least all (i + 1) seen)
    → AreJudged j most (links ++ l ∷ []) (record { seen = seen; count = number })
judged_more j most links l old number seen so_far next step =
    let long : length (links ++ l ∷ []) ≡ length links + 1 = length-append links (l ∷ []) in
    record {
      counted = omega (arith, next, so_far.counted, long);
      seen = λ more.
          let all = links ++ l ∷ more in
          let one =
          step most (length links) all (omega (arith, next, so_far.counted)) (omega (arith, length-append links (l ∷ more)))
          (sym (get_or_at links l more l (length links) refl)) (so_far.seen (l ∷ more)) in
          subst (λ (z : List Link). AreSeenTo j most z (length (links ++ l ∷ [])) seen) (sym (append_assoc links (l ∷ []) more))
          (subst (λ (n : ℕ). AreSeenTo j most all n seen) (sym long) one);
    }

-- all of them, where no more come
pub all_seen : (j : Judged) (most : ℕ) (links : List Link) (judge : LinksJudge) → AreJudged j most links judge → AreSeenTo j most links (length links) judge.seen
all_seen j most links judge is = subst (λ (z : List Link). AreSeenTo j most z (length links) judge.seen) (append-nil links) (is.seen [])

left_of : (j : Judged) (most : ℕ) (links : List Link) (judge : LinksJudge) → AreJudged j most links judge
    → MatchOption judge.seen.left (most < cost links) (λ left. cost links + left ≡ most)
left_of j most links judge is =
    subst (λ (z : List Link). MatchOption judge.seen.left (most < cost z) (λ left. cost z + left ≡ most)) (take_whole links) (all_seen j most links judge is).left

-- they cost more than they should, or they don't
pub cost_over : (j : Judged) (most : ℕ) (links : List Link) (judge : LinksJudge) → AreJudged j most links judge → judge.seen.left ≡ None
    → IsTrue true ↔ (most < cost links)
cost_over j most links judge is none = let over = rw none at (left_of j most links judge is) in ((λ _. over), (λ _. refl))

pub cost_within : (j : Judged) (most : ℕ) (links : List Link) (judge : LinksJudge) {left : ℕ} → AreJudged j most links judge → judge.seen.left ≡ Some left
    → IsTrue false ↔ (most < cost links)
cost_within j most links judge is some =
    let within = rw some at (left_of j most links judge is) in ((λ none. absurd (cc none)), (λ lt. absurd (omega (arith, within, lt))))
