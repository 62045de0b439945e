-- The first of the cheapest links from one transaction to another.
use Rattle.std.proofs.Common.{ℕ, ◌≡◌, ◌≢◌, ◌<◌, false, List, length, Option, None, Some, MatchOption, refl, sym, ◌∙◌, arith}
use Rattle.std.specs.List.{Contains}
use Rattle.std.specs.Ordering.{nat_cmp, is_lt}
use Rattle.std.specs.declared.cmp.Ordering.{Ordering}
use Rattle.std.specs.declared.cmp.Ordering.TheVariants.{Less, Equal, Greater}
use Rattle.std.proofs.lemmas.Bool.{false≢true}
use Rattle.std.proofs.lemmas.Cmp.{nat_cmp_total, tied_itself}
use Rattle.std.proofs.lemmas.List.Elements.{All-contains}
use Rattle.tcc_reads.specs.History.{count}
use Rattle.tcc_graph.specs.Levels.{Judged}
use Rattle.tcc_reads.specs.Sources.{name_cmp}
use Rattle.tcc_graph.specs.Relations.{session_pair, IsSessionPair, reads_from, IsReadsPair}
use Rattle.tcc_graph.specs.Links.{IsReason}
use Rattle.tcc_graph.specs.Ties.{link_cmp}
use Rattle.tcc_graph.specs.declared.link.Link.{Link}
use Rattle.tcc_graph.specs.declared.link.Link.TheVariants as link
use Rattle.tcc_graph.proofs.Linking.{some_cost}
use Rattle.tcc_derive.specs.Prices.{IsDerived, IsLinkOf}
use Rattle.tcc_derive.specs.Reasons.{IsFirstReason}
use Rattle.tcc_derive.specs.Names.{IsFirstName}
use Rattle.tcc_derive.proofs.StepLemmas.{not_above}
use Rattle.tcc_derive.proofs.CostLemmas.{link_of}
use Rattle.tcc_core.specs.private.Ways.{IsFirstLink}

-- without a session pair, the read of the first key
pub reads_first : {j : Judged} {a b : ℕ} {x : List ℕ} → a < count j.history → b < count j.history → session_pair j.history a b ≡ false
    → IsFirstName (reads_from j.history a b) x → IsFirstLink j a b (link.Reads a b x)
reads_first {j} {a} {b} {x} from to none named = record {
  leads = record { from = refl; to = refl; link = (from, to, named.0) };
  least = λ o leads. some_cost o;
  first = λ o leads same. up_to o leads;
}
  where
    by_name : (y : List ℕ) → Contains (reads_from j.history a b) y → (o : Ordering) → name_cmp x y ≡ o
        → link_cmp (link.Reads a b x) (link.Reads a b y) ≢ Greater
    by_name y there Less e = let tie : nat_cmp a a ≡ Equal = tied_itself nat_cmp_total a in rw (tie, e) (λ g. cc)
    by_name y there Equal e = let tie : nat_cmp a a ≡ Equal = tied_itself nat_cmp_total a in rw (tie, e) (λ g. cc)
    by_name y there Greater e = absurd (not_above x y (All-contains (λ z. is_lt (name_cmp z x) ≡ false) (reads_from j.history a b) y named.1 there) e)

    up_to : (o : Link) → IsLinkOf j a b o → link_cmp (link.Reads a b x) o ≢ Greater
    up_to (link.Session c d) leads =
        let pair : IsSessionPair j.history a b = rw (leads.from, leads.to) at leads.link in
        absurd (false≢true (sym none ∙ pair))
    up_to (link.Reads c d y) leads =
        let pair : IsReadsPair j.history a b y = rw (leads.from, leads.to) at leads.link in
        rw leads.from (by_name y pair.2 (name_cmp x y) refl)
    up_to (link.Derived c d y e walk) leads =
        let tie : nat_cmp a a ≡ Equal = tied_itself nat_cmp_total a in
        rw (leads.from, tie) (λ g. cc)

-- where nothing else leads from a to b, a link is derived
derived_of : (j : Judged) (a b : ℕ) → session_pair j.history a b ≡ false → length (reads_from j.history a b) ≡ 0 → (o : Link) → IsLinkOf j a b o
    → IsDerived j a b o
derived_of j a b none empty (link.Session c d) leads =
    let pair : IsSessionPair j.history a b = rw (leads.from, leads.to) at leads.link in
    absurd (false≢true (sym none ∙ pair))
derived_of j a b none empty (link.Reads c d y) leads =
    let pair : IsReadsPair j.history a b y = rw (leads.from, leads.to) at leads.link in
    let inside = pair.2.1 in
    absurd (omega arith)
derived_of j a b none empty (link.Derived c d y e walk) leads =
    let reason : IsReason j a b y e walk = rw (leads.from, leads.to) at leads.link in
    (y, e, walk, rw (leads.from, leads.to) refl, reason)

pub reason_first : (j : Judged) (a b : ℕ) → session_pair j.history a b ≡ false → length (reads_from j.history a b) ≡ 0 → (found : Option Link)
    → MatchOption found ((l : Link) → IsDerived j a b l → ⊥) (IsFirstReason j a b)
    → MatchOption found ((l : Link) → IsLinkOf j a b l → ⊥) (IsFirstLink j a b)
reason_first j a b none empty None nothing = λ l leads. nothing l (derived_of j a b none empty l leads)
reason_first j a b none empty (Some l) is = record {
  leads = link_of j a b l is.derived;
  least = λ o leads. is.least o (derived_of j a b none empty o leads);
  first = λ o leads same. is.first o (derived_of j a b none empty o leads) same;
}
