-- A commit order exists exactly if there is no cycle.
use Rattle.std.proofs.Common.{◌≡◌, ◌<◌, ℕ, zero, suc, ◌+◌, Bool, true, false, ◌&&◌, ◌⊎◌, inl, inr, List, [], ◌∷◌, ◌++◌, length, length-append, not, refl, sym}
use Rattle.std.proofs.Common.{◌∙◌, arith, subst}
use Rattle.std.proofs.lemmas.Bool.{and_parts, and_from, cases_Bool, false≢true, not-true}
use Rattle.tcc_reads.specs.History.{count}
use Rattle.tcc_graph.specs.Levels.{Judged}
use Rattle.tcc_graph.specs.Links.{link_to}
use Rattle.tcc_graph.specs.Orders.{Before, IsNumbering, IsCommitOrder}
use Rattle.tcc_graph.specs.Routes.{LinksLead, HasCycle}
use Rattle.tcc_graph.specs.declared.link.Link.{Link}
use Rattle.tcc_order.specs.private.Numbering.{IsOrderOf, HasCircle}
use Rattle.tcc_order.proofs.Greedy.{has, IsFree, IsNext, Picks, Picks-push, Picks-order, IsBelow}
use Rattle.tcc_order.proofs.Circle.{IsLeastPassing, Search, search_below, lacks, short_circle}
use Rattle.tcc_order.proofs.Kept.{precedence_below, link_before, commit_from_order, cycle_from_circle}
use Rattle.tcc_order.proofs.Linked.{any_below, any_below_at, any_below_found, linked, linked_precedence}
use Rattle.tcc_graph.proofs.Numberings.{one_index}

-- ---- an order would put each link's ends apart

pub before_join : (n : ℕ) (order : List ℕ) (a b c : ℕ) → IsNumbering n order → Before order a b → Before order b c → Before order a c
before_join n order a b c h (i, j, low, within, at_a, at_b) (k, m, above, inside, here_b, at_c) =
    let same = one_index h j k within (omega arith) (at_b ∙ sym here_b) in
    (i, m, omega arith, inside, at_a, at_c)

not_itself : (n : ℕ) (order : List ℕ) (a : ℕ) → IsNumbering n order → Before order a a → ⊥
not_itself n order a h (i, j, low, within, at_i, at_j) = absurd (omega (arith, one_index h i j (omega arith) within (at_i ∙ sym at_j)))

along : (j : Judged) (order : List ℕ) (a b : ℕ) (l : Link) (links : List Link) → IsCommitOrder j order → LinksLead j a b (l ∷ links) → Before order a b
along j order a b l [] o p = rw (← p.0, ← p.2) (link_before j order o l p.1)
along j order a b l (next ∷ links) o p =
    let first : Before order a (link_to l) = subst (λ (z : ℕ). Before order z (link_to l)) p.0 (link_before j order o l p.1) in
    before_join (count j.history) order a (link_to l) b o.numbering first (along j order (link_to l) b next links o p.2)

pub no_cycle : (j : Judged) (order : List ℕ) → IsCommitOrder j order → HasCycle j → ⊥
no_cycle j order o (s, [], (some, p)) = absurd (omega arith)
no_cycle j order o (s, l ∷ links, (some, p)) = not_itself (count j.history) order s o.numbering (along j order s s l links o p)

-- ---- picked from the front, either all numbers are in order or there is a cycle

-- x can be picked next
abbrev free : (ℕ → ℕ → Bool) → ℕ → List ℕ → ℕ → Bool
free precedes n done x = not (has done x) && not (any_below (lacks precedes done x) n)

true_not : (b : Bool) → b ≡ false → not b ≡ true
true_not true h = absurd (false≢true (sym h))
true_not false h = refl

free_from_test : (precedes : ℕ → ℕ → Bool) (n : ℕ) (done : List ℕ) (x : ℕ) → IsBelow precedes n → x < n → free precedes n done x ≡ true
    → IsFree precedes n done x
free_from_test precedes n done x bounds l p =
    let w = and_parts (not (has done x)) (not (any_below (lacks precedes done x) n)) p in
    record {
      below = l;
      new = not-true (has done x) w.0;
      ready = λ a q. seen (not-true (any_below (lacks precedes done x) n) w.1) a q (cases_Bool (has done a));
    }
  where
    seen : any_below (lacks precedes done x) n ≡ false → (a : ℕ) → precedes a x ≡ true → (has done a ≡ true) ⊎ (has done a ≡ false) → has done a ≡ true
    seen none a q (inl there) = there
    seen none a q (inr missing) =
        absurd (false≢true (sym none ∙ any_below_at (lacks precedes done x) n a (bounds a x q).0 (and_from _ _ q (true_not (has done a) missing))))

test_from_free : (precedes : ℕ → ℕ → Bool) (n : ℕ) (done : List ℕ) (x : ℕ) → IsFree precedes n done x → free precedes n done x ≡ true
test_from_free precedes n done x h =
    and_from _ _ (true_not (has done x) h.new) (true_not (any_below (lacks precedes done x) n) (none (cases_Bool (any_below (lacks precedes done x) n))))
  where
    none : (any_below (lacks precedes done x) n ≡ true) ⊎ (any_below (lacks precedes done x) n ≡ false) → any_below (lacks precedes done x) n ≡ false
    none (inr f) = f
    none (inl t) =
        let w = any_below_found (lacks precedes done x) n t in
        let parts = and_parts (precedes w.0 x) (not (has done w.0)) w.2 in
        absurd (false≢true (sym (not-true (has done w.0) parts.1) ∙ h.ready w.0 parts.0))

abbrev Outcome : (ℕ → ℕ → Bool) → ℕ → Type 0
Outcome precedes n = ((order : List ℕ) × IsOrderOf precedes n order) ⊎ HasCircle precedes

pick : (precedes : ℕ → ℕ → Bool) (n : ℕ) → IsBelow precedes n → (left : ℕ) (done : List ℕ) → left + length done ≡ n → Picks precedes n [] done
    → Outcome precedes n
pick precedes n bounds zero done full p = inl (done, Picks-order precedes n done bounds p (omega arith))
pick precedes n bounds (suc left) done full p =
    go (search_below (free precedes n done) n)
    (λ x next. pick precedes n bounds left (done ++ x ∷ []) (rw length-append (omega arith)) (Picks-push precedes n [] done x p next))
  where
    next : (x : ℕ) → IsLeastPassing (free precedes n done) n x → IsNext precedes n done x
    next x h = record {
      free = free_from_test precedes n done x bounds h.below h.passes;
      least = λ y l f. absurd (false≢true (sym (h.least y l) ∙ test_from_free precedes n done y f));
    }

    go : Search (free precedes n done) n → ((x : ℕ) → IsNext precedes n done x → Outcome precedes n) → Outcome precedes n
    go (inl found) rest = rest found.0 (next found.0 found.1)
    go (inr none) rest =
        inr (short_circle precedes n done bounds (λ x f. absurd (false≢true (sym (none x f.below) ∙ test_from_free precedes n done x f))) (omega arith))

commit_of : (j : Judged) → (HasCycle j → ⊥) → Outcome (linked j) (count j.history) → (order : List ℕ) × IsCommitOrder j order
commit_of j none (inl o) = (o.0, commit_from_order j (linked j) o.0 (linked_precedence j) o.1)
commit_of j none (inr circle) = absurd (none (cycle_from_circle j (linked j) (linked_precedence j) circle))

pub an_order : (j : Judged) → (HasCycle j → ⊥) → (order : List ℕ) × IsCommitOrder j order
an_order j none =
    commit_of j none (pick (linked j) (count j.history) (precedence_below j (linked j) (linked_precedence j)) (count j.history) [] (omega arith) tt)
