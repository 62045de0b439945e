-- Walks and links that tie are the same if they lead to the same end.
use Rattle.std.proofs.Common.{ℕ, ◌≡◌, List, [], ◌∷◌, reverse, refl, sym, ◌∙◌, ap, subst}
use Rattle.std.specs.Ordering.{nat_cmp}
use Rattle.std.specs.Cmp.Lexicographic.{slice_cmp}
use Rattle.std.specs.declared.cmp.Ordering.TheVariants.{Less, Equal, Greater}
use Rattle.std.proofs.lemmas.List.{reverse-reverse}
use Rattle.std.proofs.lemmas.Map.Lookups.{exact_bytes}
use Rattle.tcc_reads.specs.History.{History}
use Rattle.tcc_reads.specs.Sources.{name_cmp}
use Rattle.tcc_graph.specs.Levels.{Judged}
use Rattle.tcc_graph.specs.Walks.{step_from}
use Rattle.tcc_graph.specs.Links.{IsLink, link_to}
use Rattle.tcc_graph.specs.Ties.{step_cmp, walk_cmp, link_cmp}
use Rattle.tcc_graph.specs.declared.step.Step.{Step}
use Rattle.tcc_graph.specs.declared.link.Link.{Link}
use Rattle.tcc_graph.specs.declared.link.Link.TheVariants as link
use Rattle.tcc_graph.proofs.Tied.{number_tied, then_tied, step_tied}
use Rattle.tcc_derive.specs.private.LeadingBack.{LeadsBack}
use Rattle.tcc_derive.proofs.BackLemmas.{back_of_leads}

steps_tied : (h : History) (b v : ℕ) (ss os : List Step) → LeadsBack h b v ss → LeadsBack h b v os → slice_cmp step_cmp ss os ≡ Equal → ss ≡ os
steps_tied h b v [] [] p q e = refl
steps_tied h b v [] (o ∷ os) p q e = absurd cc
steps_tied h b v (s ∷ ss) [] p q e = absurd cc
steps_tied h b v (s ∷ ss) (o ∷ os) p q e =
    let w = then_tied (step_cmp s o) (slice_cmp step_cmp ss os) e in
    let same : s ≡ o = step_tied s o (p.0 ∙ sym q.0) w.0 in
    let rest = steps_tied h b (step_from o) ss os (subst (λ (z : Step). LeadsBack h b (step_from z) ss) same p.2) q.2 w.1 in
    cc

walks_tied : (h : History) (b c : ℕ) (walk other : List Step) → LeadsBack h b c (reverse walk) → LeadsBack h b c (reverse other)
    → walk_cmp walk other ≡ Equal → walk ≡ other
walks_tied h b c walk other p q e =
    sym (reverse-reverse walk) ∙ ap reverse (steps_tied h b c (reverse walk) (reverse other) p q e) ∙ reverse-reverse other

pub link_tied : (j : Judged) (l o : Link) → IsLink j l → IsLink j o → link_to l ≡ link_to o → link_cmp l o ≡ Equal → l ≡ o
link_tied j (link.Session a b) (link.Session c d) p q to e =
    let from = number_tied a c (then_tied (nat_cmp a c) _ e).0 in
    cc
link_tied j (link.Session a b) (link.Reads c d y) p q to e = let rest = (then_tied (nat_cmp a c) Less e).1 in absurd cc
link_tied j (link.Session a b) (link.Derived c d y r walk) p q to e = let rest = (then_tied (nat_cmp a c) Less e).1 in absurd cc
link_tied j (link.Reads a b x) (link.Session c d) p q to e = let rest = (then_tied (nat_cmp a c) Greater e).1 in absurd cc
link_tied j (link.Reads a b x) (link.Reads c d y) p q to e =
    let w = then_tied (nat_cmp a c) _ e in
    let from = number_tied a c w.0 in
    let key = exact_bytes x y (then_tied (name_cmp x y) _ w.1).0 in
    cc
link_tied j (link.Reads a b x) (link.Derived c d y r walk) p q to e = let rest = (then_tied (nat_cmp a c) Less e).1 in absurd cc
link_tied j (link.Derived a b x r walk) (link.Session c d) p q to e = let rest = (then_tied (nat_cmp a c) Greater e).1 in absurd cc
link_tied j (link.Derived a b x r walk) (link.Reads c d y) p q to e = let rest = (then_tied (nat_cmp a c) Greater e).1 in absurd cc
link_tied j (link.Derived a b x r walk) (link.Derived c d y t other) p q to e =
    let first = then_tied (nat_cmp a c) _ e in
    let second = then_tied (name_cmp x y) _ first.1 in
    let third = then_tied (nat_cmp r t) (walk_cmp walk other) second.1 in
    let from = number_tied a c first.0 in
    let key = exact_bytes x y second.0 in
    let reader = number_tied r t third.0 in
    let ours = back_of_leads j.history a r walk p.1.0.1 in
    let theirs = back_of_leads j.history c t other q.1.0.1 in
    let steps : walk ≡ other = walks_tied j.history a r walk other ours (rw (from, reader) theirs) third.1 in
    cc
