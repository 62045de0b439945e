-- A cut has of each session some of its transactions, each with some of its operations, in their order.
use Rattle.std.proofs.Common.{ℕ, zero, suc, ◌≡◌, ◌<◌, ◌≤◌, ◌+◌, ◌-◌, ◌++◌, ◌==◌, ◌⊎◌, inl, inr, Bool, true, false, cond, List, [], ◌∷◌, length, length-append, get_or, map, refl, sym, ap, subst, ◌∙◌, arith}
use Rattle.std.specs.Prelude.{Option, Some, None, slice_get, slice_index, slice_index_or}
use Rattle.std.specs.List.{Contains}
use Rattle.std.specs.FinMap.{entries}
use Rattle.std.specs.Option.{option_map_or}
use Rattle.std.proofs.lemmas.Bool.{cases_eq, cases_order, eq-eqb, ne_eqb}
use Rattle.std.proofs.lemmas.List.{get_or-append-add, get_or-map, get_or_append_left, get_or_default, length-map}
use Rattle.std.proofs.lemmas.Option.{get_or_from_slice_get, slice_get-get_or, slice_get_within}
use Rattle.std.specs.declared.cmp.Ordering.TheVariants.{Less, Equal}
use Rattle.std.specs.Cmp.Lexicographic.{nat_list_cmp_total}
use Rattle.std.proofs.lemmas.Cmp.{tied_itself}
use Rattle.std.proofs.lemmas.Map.Keys.{Less-from_sorted}
use Rattle.tcc_txn.specs.Snapshots.{Sessions, finished_at}
use Rattle.tcc_txn.specs.Transactions.{Transaction}
use Rattle.tcc_txn.specs.declared.op.Op.{Op}
use Rattle.tcc_txn.proofs.SessionEntries.{Named, sorted_names}
use Rattle.tcc_txn.proofs.SortedParts.{name_cmp}
use Rattle.tcc_reads.specs.History.{History, IsBySession, count, owner, place}
use Rattle.tcc_reads.specs.Sites.{Stand, stands, stands_from, stands_in}
use Rattle.tcc_graph.specs.Numbers.{at}
use Rattle.tcc_slices.specs.Cuts.{AreSomeOf, AreSomeOps, IsCutOf, IsLeftAt, IsLeftOf, IsPartlyIn, IsSomeOf}
use Rattle.tcc_slices.specs.private.Carrying.{IsRising}
use Rattle.tcc_slices.specs.private.Cutting.{IsCut, IsNamed, IsPartAt, is_wanted, kept_behind, own_needs, recorded_of, wanted_by}
use Rattle.tcc_slices.specs.declared.needs.Need.{Need}
use Rattle.tcc_slices.proofs.Named.{at_parts, none_some}

-- ---- what is left of a list
left_cons : {X : Type 0} (R : X → X → Type 0) (xs ys : List X) (y : X) → IsLeftOf R xs ys → IsLeftOf R xs (y ∷ ys)
left_cons R [] ys y p = tt
left_cons R (x ∷ xs) ys y p = inr p

pub kept_left : (keep : List Op → Op → Bool) (before ops : List Op) → AreSomeOps (kept_behind keep before ops) ops
kept_left keep before [] = tt
kept_left keep before (op ∷ ops) = go (keep before op) (kept_left keep (before ++ op ∷ []) ops)
  where
    rest : List Op
    rest = kept_behind keep (before ++ op ∷ []) ops

    go : (b : Bool) → AreSomeOps rest ops → AreSomeOps (cond b (op ∷ rest) rest) (op ∷ ops)
    go true w = inl (refl, w)
    go false w = left_cons (λ one other. one ≡ other) rest ops op w

-- items that are at rising indices
pub record StandsAt {X : Type 0} (R : X → X → Type 0) (xs ys : List X) (f : ℕ → ℕ) : Type 0 where
  pub inside : (k : ℕ) → k < length xs → f k < length ys
  pub related : (k : ℕ) (d e : X) → k < length xs → R (slice_index_or xs k d) (slice_index_or ys (f k) e)
  pub rises : (k : ℕ) → k + 1 < length xs → f k < f (k + 1)

left_at : {X : Type 0} (R : X → X → Type 0) (xs ys : List X) (f : ℕ → ℕ) → StandsAt R xs ys f → IsLeftOf R xs ys
left_at R [] ys f w = tt
left_at R (x ∷ xs) [] f w = let inside = w.inside 0 (omega arith) in absurd (omega (arith, inside))
left_at {X} R (x ∷ xs) (y ∷ ys) f w = go (f 0) refl (λ v. left_at R xs ys (λ k. f (k + 1) - 1) v) (λ v. left_at R (x ∷ xs) ys (λ k. f k - 1) v)
  where
    above : (k : ℕ) → k < length (x ∷ xs) → f 0 ≤ f k
    above zero inside = omega arith
    above (suc k) inside =
        let next : k + 1 ≡ suc k = omega arith in
        let up = subst (λ (z : ℕ). f k < f z) next (w.rises k (omega (arith, inside))) in
        omega (arith, up, above k (omega (arith, inside)))

    -- the item at an index after the first
    behind : (k : ℕ) (e : X) → 0 < k → slice_index_or (y ∷ ys) k e ≡ slice_index_or ys (k - 1) e
    behind zero e some = absurd (omega (arith, some))
    behind (suc k) e some = let same : k ≡ suc k - 1 = omega arith in ap (λ (z : ℕ). slice_index_or ys z e) same

    go : (i : ℕ) → f 0 ≡ i → (StandsAt R xs ys (λ k. f (k + 1) - 1) → IsLeftOf R xs ys) → (StandsAt R (x ∷ xs) ys (λ k. f k - 1) → IsLeftOf R (x ∷ xs) ys)
        → (R x y × IsLeftOf R xs ys) ⊎ IsLeftOf R (x ∷ xs) ys
    go zero is one more = inl (here, one (record { inside = inside; related = related; rises = rises }))
      where
        here : R x y
        here = subst (λ (z : ℕ). R x (slice_index_or (y ∷ ys) z y)) is (w.related 0 x y (omega arith))

        some : (k : ℕ) → k < length xs → 0 < f (k + 1)
        some k below = let up = w.rises k (omega (arith, below)) in omega (arith, up)

        inside : (k : ℕ) → k < length xs → f (k + 1) - 1 < length ys
        inside k below = let in_all = w.inside (k + 1) (omega (arith, below)) in omega (arith, in_all, some k below)

        related : (k : ℕ) (d e : X) → k < length xs → R (slice_index_or xs k d) (slice_index_or ys (f (k + 1) - 1) e)
        related k d e below =
            let next : k + 1 ≡ suc k = omega arith in
            let first = w.related (k + 1) d e (omega (arith, below)) in
            subst (λ (z : X). R (slice_index_or xs k d) z) (behind (f (k + 1)) e (some k below))
            (subst (λ (z : ℕ). R (slice_index_or (x ∷ xs) z d) (slice_index_or (y ∷ ys) (f (k + 1)) e)) next first)

        rises : (k : ℕ) → k + 1 < length xs → f (k + 1) - 1 < f (k + 1 + 1) - 1
        rises k below =
            let up = w.rises (k + 1) (omega (arith, below)) in
            omega (arith, up, some k (omega (arith, below)))
    go (suc i) is one more = inr (more (record { inside = inside; related = related; rises = rises }))
      where
        some : (k : ℕ) → k < length (x ∷ xs) → 0 < f k
        some k below = omega (arith, above k below, is)

        inside : (k : ℕ) → k < length (x ∷ xs) → f k - 1 < length ys
        inside k below = let in_all = w.inside k below in omega (arith, in_all, some k below)

        related : (k : ℕ) (d e : X) → k < length (x ∷ xs) → R (slice_index_or (x ∷ xs) k d) (slice_index_or ys (f k - 1) e)
        related k d e below = subst (λ (z : X). R (slice_index_or (x ∷ xs) k d) z) (behind (f k) e (some k below)) (w.related k d e below)

        rises : (k : ℕ) → k + 1 < length (x ∷ xs) → f k - 1 < f (k + 1) - 1
        rises k below =
            let up = w.rises k below in
            omega (arith, up, some k (omega (arith, below)))

-- ---- the transactions of a session among all
in_block : (session : ℕ) (name : List ℕ) (first : ℕ) (txns : List Transaction) (k : ℕ) (d : Stand) → k < length txns
    → (k < length (stands_in session name first txns)) × ((slice_index_or (stands_in session name first txns) k d).name ≡ name)
    × ((e : Transaction) → (slice_index_or (stands_in session name first txns) k d).txn ≡ slice_index_or txns k e)
in_block session name first [] k d inside = absurd (omega (arith, inside))
in_block session name first (t ∷ txns) zero d inside = (omega arith, refl, λ e. refl)
in_block session name first (t ∷ txns) (suc k) d inside =
    let w = in_block session name (first + 1) txns k d (omega (arith, inside)) in (omega (arith, w.0), w.1, w.2)

length_in : (session : ℕ) (name : List ℕ) (first : ℕ) (txns : List Transaction) → length (stands_in session name first txns) ≡ length txns
length_in session name first [] = refl
length_in session name first (t ∷ txns) = let w = length_in session name (first + 1) txns in omega (arith, w)

-- from some index on
pub record HasBlock (all : List Stand) (named : Named) (base : ℕ) : Type 0 where
  pub inside : (k : ℕ) → k < length named.1 → base + k < length all
  pub name : (k : ℕ) (d : Stand) → k < length named.1 → (slice_index_or all (base + k) d).name ≡ named.0
  pub txn : (k : ℕ) (d : Stand) (e : Transaction) → k < length named.1 → (slice_index_or all (base + k) d).txn ≡ slice_index_or named.1 k e

block_of : (session : ℕ) (es : List Named) (named : Named) → Contains es named → (base : ℕ) × HasBlock (stands_from session es) named base
block_of session [] named (i, l, e) = absurd (omega (arith, l))
block_of session (first ∷ es) named (zero, l, e) =
    subst (λ (z : Named). (base : ℕ) × HasBlock (stands_from session (first ∷ es)) z base) e (0, record { inside = inside; name = name; txn = txn })
  where
    own : List Stand
    own = stands_in session first.0 1 first.1

    same : (k : ℕ) (d : Stand) → k < length first.1 → slice_index_or (stands_from session (first ∷ es)) (0 + k) d ≡ slice_index_or own k d
    same k d below =
        let here : 0 + k ≡ k = omega arith in
        ap (λ (z : ℕ). slice_index_or (stands_from session (first ∷ es)) z d) here
        ∙ get_or_append_left own (stands_from (session + 1) es) d k (in_block session first.0 1 first.1 k d below).0

    inside : (k : ℕ) → k < length first.1 → 0 + k < length (stands_from session (first ∷ es))
    inside k below = omega (arith, below, length_in session first.0 1 first.1, length-append own (stands_from (session + 1) es))

    name : (k : ℕ) (d : Stand) → k < length first.1 → (slice_index_or (stands_from session (first ∷ es)) (0 + k) d).name ≡ first.0
    name k d below = ap (λ (z : Stand). z.name) (same k d below) ∙ (in_block session first.0 1 first.1 k d below).1

    txn : (k : ℕ) (d : Stand) (e : Transaction) → k < length first.1 → (slice_index_or (stands_from session (first ∷ es)) (0 + k) d).txn ≡ slice_index_or first.1 k e
    txn k d e below = ap (λ (z : Stand). z.txn) (same k d below) ∙ (in_block session first.0 1 first.1 k d below).2 e
block_of session (first ∷ es) named (suc i, l, e) =
    let w = block_of (session + 1) es named (i, omega (arith, l), e) in
    (length (stands_in session first.0 1 first.1) + w.0, behind w.0 w.1)
  where
    own : List Stand
    own = stands_in session first.0 1 first.1

    behind : (base : ℕ) → HasBlock (stands_from (session + 1) es) named base → HasBlock (stands_from session (first ∷ es)) named (length (stands_in session first.0 1 first.1) + base)
    behind base w = record {
      inside = λ k below. omega (arith, w.inside k below, length-append own (stands_from (session + 1) es));
      name = λ k d below. ap (λ (z : Stand). z.name) (same k d) ∙ w.name k d below;
      txn = λ k d e below. ap (λ (z : Stand). z.txn) (same k d) ∙ w.txn k d e below;
    }
      where
        same : (k : ℕ) (d : Stand) → slice_index_or (stands_from session (first ∷ es)) (length own + base + k) d ≡ slice_index_or (stands_from (session + 1) es) (base + k) d
        same k d =
            let sum : length own + base + k ≡ length own + (base + k) = omega arith in
            ap (λ (z : ℕ). slice_index_or (stands_from session (first ∷ es)) z d) sum ∙ get_or-append-add own (stands_from (session + 1) es) (base + k) d

-- ---- the transaction of a number
module _ (s : Sessions) (h : History) (n : ℕ) (whole : Transaction) (j p : ℕ) (at_is : at h n ≡ Some (j, p)) (there : recorded_of s h n ≡ Some whole) where
  found : cond {A = Option Transaction} (p == 0) None (slice_get (finished_at s j) (p - 1)) ≡ Some whole
  found =
      sym (ap (λ (o : Option (ℕ × ℕ)). option_map_or (λ q. cond {A = Option Transaction} (q.1 == 0) None (slice_get (finished_at s q.0) (q.1 - 1))) o None) at_is)
      ∙ there

  placed_at : (0 < p) × (slice_get (finished_at s j) (p - 1) ≡ Some whole)
  placed_at = by (cases_eq p 0)
    where
      by : (p ≡ 0) ⊎ (p ≡ 0 → ⊥) → (0 < p) × (slice_get (finished_at s j) (p - 1) ≡ Some whole)
      by (inl none) =
          absurd (none_some (sym (ap (λ (b : Bool). cond {A = Option Transaction} b None (slice_get (finished_at s j) (p - 1))) (eq-eqb p 0 none)) ∙ found))
      by (inr some) =
          (omega (arith, some), sym (ap (λ (b : Bool). cond {A = Option Transaction} b None (slice_get (finished_at s j) (p - 1))) (ne_eqb p 0 some)) ∙ found)

-- a part is left of the transaction of its number
pub left_of : (s : Sessions) (h : History) (needs : List (ℕ × Need)) (n : ℕ) (t : Stand) → IsPartAt s h needs n t → IsLeftAt s h n t
left_of s h needs n t part = go part.named
  where
    whole : Transaction
    whole = part.part.whole

    go : IsNamed s h n t.name → IsLeftAt s h n t
    go (j, p, at_is, in_j, y_j) = record {
      session = j;
      index = p - 1;
      number = at_is ∙ ap (λ (z : ℕ). Some (j, z)) before;
      all = (slice_index_or (entries s) j (t.name, [])).1;
      named = entry ∙ (λ k. Some (y_j k, (slice_index_or (entries s) j (t.name, [])).1));
      origin = whole;
      there = ap (λ (z : List Transaction). slice_get z (p - 1)) (sym listed) ∙ placed.1;
      some_of = (
        part.part.ended ∙ sym part.part.was,
        subst (λ (z : List Op). AreSomeOps z whole.ops) (sym part.part.kept) (kept_left (is_wanted (wanted_by s h (own_needs needs n) n)) [] whole.ops),
      );
    }
      where
        placed : (0 < p) × (slice_get (finished_at s j) (p - 1) ≡ Some whole)
        placed = placed_at s h n whole j p at_is part.part.there

        before : p ≡ p - 1 + 1
        before = omega (arith, placed.0)

        entry : slice_get (entries s) j ≡ Some (slice_index_or (entries s) j (t.name, []))
        entry = slice_get-get_or (entries s) j (t.name, []) in_j

        listed : finished_at s j ≡ (slice_index_or (entries s) j (t.name, [])).1
        listed = ap (λ (o : Option Named). option_map_or (λ e. e.1) o []) entry

-- ---- the cut
module _ (s slice : Sessions) (h : History) (needs : List (ℕ × Need)) (numbers : List ℕ) (numbered : IsBySession h.entries) (rising : IsRising numbers)
    (cut : IsCut s h needs numbers (length numbers) slice) where
  abbrev names : List (List ℕ)
  names = map (λ (e : Named). e.0) (entries s)

  -- sessions of one name have one index
  one_session : (i j : ℕ) (x : List ℕ) → i < length (entries s) → j < length (entries s) → get_or names i [] ≡ x → get_or names j [] ≡ x → i ≡ j
  one_session i j x in_i in_j x_i x_j = go (cases_order i j)
    where
      long : length names ≡ length (entries s)
      long = length-map (entries s) (λ (e : Named). e.0)

      apart : (a b : ℕ) → a < b → b < length (entries s) → get_or names a [] ≡ x → get_or names b [] ≡ x → ⊥
      apart a b less inside x_a x_b =
          let up : name_cmp x x ≡ Less
          = (λ k. name_cmp (sym x_a k) (sym x_b k)) ∙ Less-from_sorted name_cmp names a b [] (sorted_names s) less (omega (arith, inside, long)) in
          let tie : name_cmp x x ≡ Equal = tied_itself nat_list_cmp_total x in
          absurd cc

      go : (i ≡ j) ⊎ ((i < j) ⊎ (j < i)) → i ≡ j
      go (inl e) = e
      go (inr (inl low)) = absurd (apart i j low in_j x_i x_j)
      go (inr (inr high)) = absurd (apart j i high in_i x_j x_i)

  name_at : (x : List ℕ) (i : ℕ) → i < length (entries s) → (slice_index_or (entries s) i (x, [])).0 ≡ x → get_or names i [] ≡ x
  name_at x i inside is = get_or-map (λ (e : Named). e.0) (entries s) i (x, []) [] inside ∙ is

  -- where a part's transaction is in the session of the whole
  record IsIn (x : List ℕ) (i n : ℕ) (t : Transaction) : Type 0 where
    spot : ℕ
    session : owner h n ≡ i
    level : place h n ≡ spot + 1
    number : (0 < n) × (n < count h)
    inside : spot < length (slice_index_or (entries s) i (x, [])).1
    some_of : (e : Transaction) → IsSomeOf t (slice_index_or (slice_index_or (entries s) i (x, [])).1 spot e)

  in_session : (x : List ℕ) (i n : ℕ) (t : Stand) → i < length (entries s) → get_or names i [] ≡ x → t.name ≡ x → IsPartAt s h needs n t → IsIn x i n t.txn
  in_session x i n t in_i x_i named part = go part.named
    where
      whole : Transaction
      whole = part.part.whole

      go : IsNamed s h n t.name → IsIn x i n t.txn
      go (j, p, at_is, in_j, y_j) = record {
        spot = p - 1;
        session = a.2 ∙ sym same;
        level = omega (arith, a.3, placed.0);
        number = (a.0, a.1);
        inside = slice_get_within (slice_index_or (entries s) i (x, [])).1 (p - 1) whole there;
        some_of = λ e. subst (λ (z : Transaction). IsSomeOf t.txn z) (sym (get_or_from_slice_get (slice_index_or (entries s) i (x, [])).1 (p - 1) whole e there)) (
          part.part.ended ∙ sym part.part.was,
          subst (λ (z : List Op). AreSomeOps z whole.ops) (sym part.part.kept)
              (kept_left (is_wanted (wanted_by s h (own_needs needs n) n)) [] whole.ops),
        );
      }
        where
          a : (0 < n) × (n < count h) × (owner h n ≡ j) × (place h n ≡ p)
          a = at_parts h n j p at_is

          same : i ≡ j
          same = one_session i j x in_i in_j x_i (name_at t.name j in_j y_j ∙ named)

          listed : finished_at s j ≡ (slice_index_or (entries s) i (x, [])).1
          listed =
              ap (λ (o : Option Named). option_map_or (λ e. e.1) o []) (slice_get-get_or (entries s) j (x, []) in_j)
              ∙ ap (λ (z : ℕ). (slice_index_or (entries s) z (x, [])).1) (sym same)

          placed : (0 < p) × (slice_get (finished_at s j) (p - 1) ≡ Some whole)
          placed = placed_at s h n whole j p at_is part.part.there

          there : slice_get (slice_index_or (entries s) i (x, [])).1 (p - 1) ≡ Some whole
          there = ap (λ (z : List Transaction). slice_get z (p - 1)) (sym listed) ∙ placed.1

  -- the parts of a session are left of those of the session of that name
  session_left : (x : List ℕ) (txns : List Transaction) (i base : ℕ) → i < length (entries s) → get_or names i [] ≡ x
      → HasBlock (stands slice) (x, txns) base → AreSomeOf txns (slice_index_or (entries s) i (x, [])).1
  session_left x txns i base in_i x_i block = left_at IsSomeOf txns all f (record { inside = inside; related = related; rises = rises })
    where
      all : List Transaction
      all = (slice_index_or (entries s) i (x, [])).1

      f : ℕ → ℕ
      f k = place h (slice_index numbers (base + k + 1)) - 1

      d : Stand
      d = record { session = 0; name = x; place = 0; txn = record { ops = []; committed = true } }

      within : (k : ℕ) → k < length txns → base + k + 1 < length numbers
      within k below = omega (arith, block.inside k below, cut.long)

      at_index : (k : ℕ) → k < length txns → IsIn x i (slice_index numbers (base + k + 1)) (slice_index_or (stands slice) (base + k) d).txn
      at_index k below =
          in_session x i (slice_index numbers (base + k + 1)) (slice_index_or (stands slice) (base + k) d) in_i x_i (block.name k d below)
          (cut.each (base + k) d (block.inside k below))

      spot_is : (k : ℕ) (below : k < length txns) → (at_index k below).spot ≡ f k
      spot_is k below = omega (arith, (at_index k below).level)

      inside : (k : ℕ) → k < length txns → f k < length all
      inside k below = omega (arith, spot_is k below, (at_index k below).inside)

      related : (k : ℕ) (o e : Transaction) → k < length txns → IsSomeOf (slice_index_or txns k o) (slice_index_or all (f k) e)
      related k o e below =
          subst (λ (z : Transaction). IsSomeOf z (slice_index_or all (f k) e)) (block.txn k d o below)
          (subst (λ (z : ℕ). IsSomeOf (slice_index_or (stands slice) (base + k) d).txn (slice_index_or all z e)) (spot_is k below) ((at_index k below).some_of e))

      rises : (k : ℕ) → k + 1 < length txns → f k < f (k + 1)
      rises k below =
          let low : k < length txns = omega (arith, below) in
          let here = at_index k low in
          let next = at_index (k + 1) below in
          let after : base + k + 1 < base + (k + 1) + 1 = omega arith in
          let up = rising (base + k + 1) (base + (k + 1) + 1) after (within (k + 1) below) in
          let over = (numbered (slice_index numbers (base + k + 1)) (slice_index numbers (base + (k + 1) + 1)) up next.number.1).1 (here.session ∙ sym next.session) in
          omega (arith, over, here.level, next.level)

  pub cut_of : IsCutOf slice s
  cut_of x txns there = go w.3
    where
      w : (k : ℕ) × (0 < k) × (k < length numbers) × IsNamed s h (slice_index numbers k) x
      w = cut.names (x, txns) there

      block : (base : ℕ) × HasBlock (stands slice) (x, txns) base
      block = block_of 0 (entries slice) (x, txns) there

      go : IsNamed s h (slice_index numbers w.0) x → IsPartlyIn (entries s) x txns
      go (i, p, at_is, in_i, x_i) =
          let all : List Transaction = (slice_index_or (entries s) i (x, [])).1 in
          let named : Named = (x, all) in
          let here : slice_index_or (entries s) i named ≡ named
          = get_or_default (entries s) i named (x, []) in_i ∙ (λ k. (x_i k, all)) in
          (all, (i, in_i, here), session_left x txns i block.0 in_i (name_at x i in_i x_i) block.1)
