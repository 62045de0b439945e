-- Derived links between two transactions, by what was looked at so far.
use Rattle.std.proofs.Common.{below_more, ℕ, ◌+◌, ◌<◌, ◌≤◌, ◌≡◌, ◌≢◌, ◌⊎◌, inl, inr, false, List, [], ◌∷◌, length, get_or, map, refl, sym, ap, subst, ◌∙◌, arith}
use Rattle.std.specs.Prelude.{All, slice_index}
use Rattle.std.proofs.lemmas.Bool.{cases_lt, false≢true}
use Rattle.std.proofs.lemmas.List.{get_or-map, get_or_default, get_or_read}
use Rattle.tcc_reads.specs.History.{History, count}
use Rattle.tcc_graph.specs.Relations.{IsCausalPair, causal_pair, reads_from}
use Rattle.tcc_graph.specs.KeyIndices.{name_of}
use Rattle.tcc_graph.specs.Keys.{IsWriter, key_at, keys}
use Rattle.tcc_graph.specs.Levels.{Judged, causally, atomically}
use Rattle.tcc_graph.specs.Links.{MayContradict}
use Rattle.tcc_graph.specs.Walks.{step_from, IsWalk}
use Rattle.tcc_graph.specs.declared.step.Step.{Step}
use Rattle.tcc_graph.specs.declared.link.Link.TheVariants as link
use Rattle.tcc_graph.proofs.Pairs.{pair_from_kinds, step_pair}
use Rattle.tcc_order.specs.Placements.{IsDerivedPair}
use Rattle.tcc_large.specs.private.Reaching.{IsReach, IsMore, AreSpread, number_at}
use Rattle.tcc_large.specs.private.Retracing.{IsHeldBack, IsLinkBetween}
use Rattle.tcc_large.proofs.Reached.{walk_reached, spread_upto}

-- ---- what a derived link joins
pub derived_ends : (j : Judged) (b a : ℕ) → IsDerivedPair j b a → (b ≢ a) × (a < count j.history) × (b < count j.history)
derived_ends j b a (x, c, walk, ((apart, reads, writer), allowed)) = (apart, reads.0, writer.0)

-- where a transaction is held back by no pair, a derived link holds it back
pub derived_of : (j : Judged) (b a : ℕ) → causal_pair j.history b a ≡ false → IsHeldBack j b a → IsDerivedPair j b a
derived_of j b a none (inl pair) = absurd (false≢true (sym none ∙ pair_from_kinds j.history b a pair))
derived_of j b a none (inr derived) = derived

-- ---- keys
-- none of the first n of the keys is written
abbrev pub WritesNone : History → ℕ → List (List ℕ) → ℕ → Type 0
WritesNone h from keys n = (k : ℕ) → k < n → IsWriter h from (get_or keys k []) → ⊥

pub none_more : (h : History) (from : ℕ) (keys : List (List ℕ)) (n : ℕ) → WritesNone h from keys n → (IsWriter h from (get_or keys n []) → ⊥)
    → WritesNone h from keys (n + 1)
none_more h from keys n none here = below_more (λ k. IsWriter h from (get_or keys k []) → ⊥) n none here

-- the key at an index among those that one reads from another
pub key_read : (h : History) (a b n : ℕ) (indices : List ℕ) (names : List (List ℕ)) (one : List ℕ) → names ≡ keys h → map (key_at h) indices ≡ reads_from h a b
    → All (λ k. k < length (keys h)) indices → n < length indices → one ≡ get_or names (get_or indices n 0) one → one ≡ get_or (reads_from h a b) n []
key_read h a b n indices names one all same within inside is =
    let below : get_or indices n 0 < length (keys h) = within n 0 inside in
    let there : get_or indices n 0 < length names = rw all below in
    get_or_read names (get_or indices n 0) one there is [] ∙ ap (λ ns. name_of ns (get_or indices n 0)) all
    ∙ sym (get_or-map (key_at h) indices n 0 [] inside) ∙ ap (λ ns. get_or ns n []) same

pub none_contradicts : (h : History) (from to reader n : ℕ) → length (reads_from h to reader) ≤ n → WritesNone h from (reads_from h to reader) n
    → (x : List ℕ) → MayContradict h from to x reader → ⊥
none_contradicts h from to reader n all none x (apart, reads, writer) =
    let there = reads.2 in
    let at : get_or (reads_from h to reader) there.0 [] ≡ x = get_or_default (reads_from h to reader) there.0 [] x there.1 ∙ there.2 in
    none there.0 (omega (arith, there.1, all)) (subst (λ (y : List ℕ). IsWriter h from y) (sym at) writer)

-- ---- by walks
-- the transactions at the positions after the first, up to n, contradict nothing
abbrev pub NoneUpTo : History → ℕ → ℕ → List (ℕ × ℕ) → ℕ → Type 0
NoneUpTo h from to queue n = (i : ℕ) → 0 < i → i < n + 1 → (x : List ℕ) → MayContradict h from to x (number_at queue i) → ⊥

pub none_at_first : (h : History) (from to : ℕ) (queue : List (ℕ × ℕ)) → NoneUpTo h from to queue 0
none_at_first h from to queue i some l = absurd (omega (arith, some, l))

pub none_kept : (h : History) (from to : ℕ) (a : List ℕ) (p : List (ℕ × ℕ)) (b : List ℕ) (q : List (ℕ × ℕ)) (n : ℕ) → NoneUpTo h from to p n
    → IsMore a p b q → n < length p → NoneUpTo h from to q n
none_kept h from to a p b q n none more inside i some l x =
    let same : number_at q i ≡ number_at p i = ap (λ z. z.0) (more.same i (omega (arith, l, inside))) in
    subst (λ (z : ℕ). MayContradict h from to x z → ⊥) (sym same) (none i some l x)

pub none_upto : (h : History) (from to : ℕ) (a : List ℕ) (p : List (ℕ × ℕ)) (b : List ℕ) (q : List (ℕ × ℕ)) (n reader : ℕ) → NoneUpTo h from to p n
    → IsMore a p b q → n < length p → reader ≡ number_at q (n + 1) → ((x : List ℕ) → MayContradict h from to x reader → ⊥) → NoneUpTo h from to q (n + 1)
none_upto h from to a p b q n reader none more inside is here i some l = go (cases_lt i (n + 1))
  where
    go : (i < n + 1) ⊎ (n + 1 ≤ i) → (x : List ℕ) → MayContradict h from to x (number_at q i) → ⊥
    go (inl less) x = none_kept h from to a p b q n none more inside i some less x
    go (inr past) x =
        let same : n + 1 ≡ i = omega (arith, past, l) in
        subst (λ (z : ℕ). MayContradict h from to x (number_at q z) → ⊥) same (subst (λ (z : ℕ). MayContradict h from to x z → ⊥) is (here x))

-- where all transactions were looked at there is no derived link
pub no_walk : (h : History) (from to : ℕ) (positions covered : List ℕ) (queue : List (ℕ × ℕ)) (n : ℕ) → IsReach h positions covered queue
    → AreSpread h positions queue (n + 1) → number_at queue 0 ≡ from → length queue ≤ n + 1 → NoneUpTo h from to queue n
    → IsDerivedPair (causally h) from to → ⊥
no_walk h from to positions covered queue n reach spread start all none (x, c, walk, (contradicts, (path, allowed))) =
    let each = spread_upto h positions queue (n + 1) all spread in
    let some = walk_reached h positions covered queue reach each c walk (subst (λ (z : ℕ). IsWalk h z c walk) (sym start) path) in
    let there = reach.noted c some in
    none (slice_index positions c) some (omega (arith, there.0, all)) x (subst (λ (z : ℕ). MayContradict h from to x z) (sym there.1) contradicts)

-- ---- by steps
one_pair : (h : History) (b c : ℕ) (walk : List Step) → IsWalk h b c walk → length walk ≡ 1 → IsCausalPair h b c
one_pair h b c [] path one = absurd (omega (arith, path.0))
one_pair h b c (s ∷ []) path one =
    subst (λ (z : ℕ). IsCausalPair h z c) path.1.0 (subst (λ (z : ℕ). IsCausalPair h (step_from s) z) path.1.2 (step_pair h s path.1.1))
one_pair h b c (s ∷ t ∷ steps) path one = absurd (omega (arith, one))

-- and such a link has a reader to which a pair leads
pub step_read : (h : History) (from to : ℕ) → IsDerivedPair (atomically h) from to → (x : List ℕ) × (c : ℕ) × MayContradict h from to x c × IsCausalPair h from c
step_read h from to (x, c, walk, (contradicts, (path, allowed))) = (x, c, contradicts, one_pair h from c walk path allowed)

-- the link of a walk to the transaction at a position
pub walk_link : (h : History) (b a d : ℕ) (x : List ℕ) (start at : ℕ) (walk : List Step) → MayContradict h b a x d → start ≡ b → d ≡ at
    → IsWalk h start at walk → IsLinkBetween (causally h) b a (link.Derived b a x d walk)
walk_link h b a d x start at walk against from to path =
    (refl, refl, (against, (subst (λ (z : ℕ). IsWalk h z d walk) from (subst (λ (z : ℕ). IsWalk h start z walk) (sym to) path), tt)))
