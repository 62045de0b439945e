-- Of each part of a cut of a resolved snapshot the transaction that it is a part of, and what it has of that.
use Rattle.std.proofs.Common.{ℕ, zero, suc, ◌≡◌, ◌<◌, ◌-◌, ◌==◌, ◌&&◌, Bool, not, true, false, cond, List, [], ◌∷◌, filter_map, get_or, map, refl, sym, ap, subst, ◌∙◌, arith}
use Rattle.std.specs.Prelude.{Option, Some, None, is_none, nat_lt, slice_get, unwrap_or}
use Rattle.std.specs.List.{Contains, cons_option}
use Rattle.std.specs.FinMap.{entries}
use Rattle.std.specs.Option.{option_map_or}
use Rattle.std.proofs.lemmas.Bool.{and_from, and_parts, eq-eqb, eqb-true, lt-ltb, ne_eqb}
use Rattle.std.proofs.lemmas.List.{get_or-map}
use Rattle.std.proofs.lemmas.Option.{slice_get-get_or}
use Rattle.tcc_txn.specs.Snapshots.{Sessions, finished_at}
use Rattle.tcc_txn.specs.Transactions.{Transaction, op_key, op_value}
use Rattle.tcc_txn.specs.declared.op.Op.{Op}
use Rattle.tcc_txn.specs.declared.op.Op.TheVariants.{Get, Put}
use Rattle.tcc_txn.proofs.Lists.{from_filter, in_filter, from_flat_map, in_flat_map}
use Rattle.tcc_txn.proofs.SessionEntries.{Named}
use Rattle.tcc_reads.specs.History.{History, count, owner, place}
use Rattle.tcc_reads.specs.OneSource.{IsNumber}
use Rattle.tcc_reads.specs.Sites.{Stand, Site, sites_from, sites_of}
use Rattle.tcc_reads.specs.Sources.{external_part, external_read, external_reads, history, visible_write}
use Rattle.tcc_graph.specs.Numbers.{at}
use Rattle.tcc_graph.specs.Operations.{ops_in, ops_of, source_value}
use Rattle.tcc_slices.specs.Parts.{IsPart}
use Rattle.tcc_slices.specs.private.Cutting.{IsNamed, IsPartAt, is_among, is_wanted, kept_behind, own_needs, recorded_of, value_shown, wanted_by, wanted_of}
use Rattle.tcc_slices.specs.declared.needs.Need.{Need}
use Rattle.tcc_slices.specs.declared.needs.Need.TheVariants as need
use Rattle.tcc_slices.proofs.Freed.{IsFrom, kept_in, kept_read, kept_site, put_visible, visible_put}
use Rattle.tcc_slices.proofs.Keeping.{any_there, not_among, wanted_there}
use Rattle.tcc_slices.proofs.Named.{at_parts, some_is}
use Rattle.tcc_slices.proofs.Numbered.{number_below, number_some, number_stands, of_number, owner_is, place_is}
use Rattle.tcc_slices.proofs.Once.{op_site, site_op}
use Rattle.tcc_slices.proofs.Placed.{entry_index, session_named}

-- ---- lists
from_filter_map : {X Y : Type 0} (f : X → Option Y) (xs : List X) (y : Y) → Contains (filter_map f xs) y → (x : X) × Contains xs x × (f x ≡ Some y)
from_filter_map f [] y (k, l, e) = absurd (omega (arith, l))
from_filter_map {X} {Y} f (x ∷ xs) y c = go (f x) refl c (λ rest. from_filter_map f xs y rest)
  where
    later : (z : X) × Contains xs z × (f z ≡ Some y) → (z : X) × Contains (x ∷ xs) z × (f z ≡ Some y)
    later (z, (k, l, e), is) = (z, (suc k, omega (arith, l), e), is)

    go : (o : Option Y) → f x ≡ o → Contains (cons_option o (filter_map f xs)) y → (Contains (filter_map f xs) y → (z : X) × Contains xs z × (f z ≡ Some y))
        → (z : X) × Contains (x ∷ xs) z × (f z ≡ Some y)
    go None is c rest = later (rest c)
    go (Some z) is (zero, l, e) rest = (x, (0, omega arith, refl), is ∙ ap Some e)
    go (Some z) is (suc k, l, e) rest = later (rest (k, omega (arith, l), e))

in_filter_map : {X Y : Type 0} (f : X → Option Y) (xs : List X) (x : X) (y : Y) → Contains xs x → f x ≡ Some y → Contains (filter_map f xs) y
in_filter_map f [] x y (k, l, e) is = absurd (omega (arith, l))
in_filter_map f (z ∷ xs) x y (zero, l, e) is =
    subst (λ (o : Option _). Contains (cons_option o (filter_map f xs)) y) (sym (ap f e ∙ is)) (0, omega arith, refl)
in_filter_map f (z ∷ xs) x y (suc k, l, e) is = go (f z) (in_filter_map f xs x y (k, omega (arith, l), e) is)
  where
    go : (o : Option _) → Contains (filter_map f xs) y → Contains (cons_option o (filter_map f xs)) y
    go None c = c
    go (Some w) (j, m, at) = (suc j, omega (arith, m), at)

none_is : (o : Option ℕ) → is_none o ≡ true → o ≡ None
none_is None is = refl
none_is (Some v) is = absurd cc

-- the operation at an external read
read_op : (site : Site) (read : List ℕ × ℕ) → external_read site ≡ Some read → site.op ≡ Get read.0 read.1
read_op site read is = go site.op is
  where
    by : (x : List ℕ) (v : ℕ) (own : Option ℕ) → cond {A = Option (List ℕ × ℕ)} (is_none own) (Some (x, v)) None ≡ Some read → Get x v ≡ Get read.0 read.1
    by x v (Some w) e = absurd cc
    by x v None e = let pair : ◌≡◌ {A = List ℕ × ℕ} (x, v) read = cc in λ i. Get (pair i).0 (pair i).1

    go : (op : Op) → external_part op (λ x. visible_write x site.before) ≡ Some read → op ≡ Get read.0 read.1
    go (Get x v) e = by x v (visible_write x site.before) e
    go (Put x v) e = absurd cc

-- ---- the operations of a number
module _ (s : Sessions) where
  abbrev h : History
  h = history s

  pub at_number : (n : ℕ) (u : Stand) → IsNumber s n u → at h n ≡ Some (u.session, u.place)
  at_number n u is =
      let inside : (nat_lt 0 n && nat_lt n (count h)) ≡ true
      = and_from (nat_lt 0 n) (nat_lt n (count h)) (lt-ltb 0 n (number_some s n u is)) (lt-ltb n (count h) (number_below s n u is)) in
      ap (λ (b : Bool). cond b (Some (owner h n, place h n)) None) inside ∙ (λ i. Some (owner_is s n u is i, place_is s n u is i))

  pub recorded_are : (n : ℕ) (u : Stand) → IsNumber s n u → recorded_of s h n ≡ Some u.txn
  recorded_are n u is =
      let w = entry_index 0 (entries s) u (number_stands s n u is).0 in
      let index : u.session - 0 ≡ u.session = omega arith in
      let entry : slice_get (entries s) u.session ≡ Some w.0 = ap (slice_get (entries s)) (sym index) ∙ w.2 in
      let listed : finished_at s u.session ≡ w.0.1 = ap (λ (o : Option Named). option_map_or (λ named. named.1) o []) entry in
      let before : u.place - 1 ≡ w.3.0 = omega (arith, w.3.2) in
      let some : (u.place == 0) ≡ false = ne_eqb u.place 0 (λ none. absurd (omega (arith, none, w.3.2))) in
      let there : slice_get w.0.1 (u.place - 1) ≡ Some u.txn
      = ap (slice_get w.0.1) before ∙ slice_get-get_or w.0.1 w.3.0 u.txn w.3.1 ∙ ap Some w.3.3 in
      ap (λ (o : Option (ℕ × ℕ)). option_map_or (λ p. cond {A = Option Transaction} (p.1 == 0) None (slice_get (finished_at s p.0) (p.1 - 1))) o None)
      (at_number n u is)
      ∙ ap (λ (b : Bool). cond {A = Option Transaction} b None (slice_get (finished_at s u.session) (u.place - 1))) some
      ∙ ap (λ (z : List Transaction). slice_get z (u.place - 1)) listed ∙ there

  -- the value that is read from it
  pub source_is : (n : ℕ) (u : Stand) (x : List ℕ) → IsNumber s n u → source_value s h n x ≡ value_shown x u.txn.ops
  source_is n u x is =
      let w = entry_index 0 (entries s) u (number_stands s n u is).0 in
      let index : u.session - 0 ≡ u.session = omega arith in
      let entry : slice_get (entries s) u.session ≡ Some w.0 = ap (slice_get (entries s)) (sym index) ∙ w.2 in
      let listed : finished_at s u.session ≡ w.0.1 = ap (λ (o : Option Named). option_map_or (λ named. named.1) o []) entry in
      let before : u.place - 1 ≡ w.3.0 = omega (arith, w.3.2) in
      let there : slice_get w.0.1 (u.place - 1) ≡ Some u.txn
      = ap (slice_get w.0.1) before ∙ slice_get-get_or w.0.1 w.3.0 u.txn w.3.1 ∙ ap Some w.3.3 in
      let ops : ops_of s h n ≡ u.txn.ops
      = ap (λ (o : Option (ℕ × ℕ)). option_map_or (λ p. ops_in (finished_at s p.0) p.1) o []) (at_number n u is)
      ∙ ap (λ (z : List Transaction). option_map_or (λ t. t.ops) (slice_get z (u.place - 1)) []) listed
      ∙ ap (λ (o : Option Transaction). option_map_or (λ t. t.ops) o []) there in
      ap (value_shown x) ops

  -- ---- what a part is a part of
  abbrev pub wanted_at : List (ℕ × Need) → ℕ → List Op
  wanted_at needs n = wanted_by s (history s) (own_needs needs n) n

  pub record IsOf (needs : List (ℕ × Need)) (n : ℕ) (t : Stand) (u : Stand) : Type 0 where
    pub is : IsNumber s n u
    pub name : t.name ≡ u.name
    pub ended : t.txn.committed ≡ true
    pub kept : t.txn.ops ≡ kept_behind (is_wanted (wanted_at needs n)) [] u.txn.ops

  pub of_part : (needs : List (ℕ × Need)) (n : ℕ) (t : Stand) → IsPartAt s (history s) needs n t → (u : Stand) × IsOf needs n t u
  of_part needs n t part = (u.0, record { is = u.1; name = name; ended = part.part.ended; kept = kept })
    where
      named : IsNamed s (history s) n t.name
      named = part.named

      a : (0 < n) × (n < count h) × (owner h n ≡ named.0) × (place h n ≡ named.1)
      a = at_parts h n named.0 named.1 named.2

      u : (u : Stand) × IsNumber s n u
      u = of_number s n a.0 a.1

      session : u.0.session ≡ named.0
      session = sym (owner_is s n u.0 u.1) ∙ a.2

      name : t.name ≡ u.0.name
      name =
          sym (get_or-map (λ (e : Named). e.0) (entries s) named.0 (t.name, []) [] named.3 ∙ named.4)
          ∙ (ap (λ (i : ℕ). get_or (map (λ (e : Named). e.0) (entries s)) i []) (sym session) ∙ session_named s u.0 (number_stands s n u.0 u.1).0)

      kept : t.txn.ops ≡ kept_behind (is_wanted (wanted_at needs n)) [] u.0.txn.ops
      kept =
          part.part.kept
          ∙ ap (λ (z : Transaction). kept_behind (is_wanted (wanted_at needs n)) [] z.ops)
          (some_is (sym part.part.there ∙ recorded_are n u.0 u.1))

  module _ (needs : List (ℕ × Need)) (n : ℕ) (t u : Stand) (of : IsOf needs n t u) where
    -- what is wanted is one of the transaction's needs
    want : (op : Op) → Contains (wanted_at needs n) op → (one : Need) × Contains needs (n, one) × Contains (wanted_of s (history s) n one) op
    want op there =
        let w = from_flat_map (λ (one : ℕ × Need). wanted_of s (history s) n one.1) (own_needs needs n) op there in
        let own = from_filter (λ (one : ℕ × Need). one.0 == n) needs w.0 w.1 in
        let same : w.0.0 ≡ n = eqb-true w.0.0 n own.1 in
        (w.0.1, subst (λ (z : ℕ). Contains needs (z, w.0.1)) same own.0, w.2)

    pub wanted_put : (x : List ℕ) (v : ℕ) → Contains (wanted_at needs n) (Put x v) → v ≡ value_shown x u.txn.ops
    wanted_put x v there = go (want (Put x v) there)
      where
        go : (one : Need) × Contains needs (n, one) × Contains (wanted_of s (history s) n one) (Put x v) → v ≡ value_shown x u.txn.ops
        go (need.There, has, (k, l, e)) = absurd (omega (arith, l))
        go (need.Write y, has, (zero, l, e)) =
            sym (ap op_value e) ∙ ap (λ (z : List ℕ). source_value s (history s) n z) (ap op_key e) ∙ source_is n u x of.is
        go (need.Write y, has, (suc k, l, e)) = absurd (omega (arith, l))
        go (need.Read y a, has, (zero, l, e)) = absurd cc
        go (need.Read y a, has, (suc k, l, e)) = absurd (omega (arith, l))

    pub wanted_get : (x : List ℕ) (v : ℕ) → Contains (wanted_at needs n) (Get x v)
        → (a : ℕ) × Contains needs (n, need.Read x a) × (v ≡ source_value s (history s) a x)
    wanted_get x v there = go (want (Get x v) there)
      where
        go : (one : Need) × Contains needs (n, one) × Contains (wanted_of s (history s) n one) (Get x v)
            → (a : ℕ) × Contains needs (n, need.Read x a) × (v ≡ source_value s (history s) a x)
        go (need.There, has, (k, l, e)) = absurd (omega (arith, l))
        go (need.Write y, has, (zero, l, e)) = absurd cc
        go (need.Write y, has, (suc k, l, e)) = absurd (omega (arith, l))
        go (need.Read y a, has, (zero, l, e)) =
            let key : y ≡ x = ap op_key e in (
              a,
              subst (λ (z : List ℕ). Contains needs (n, need.Read z a)) key has,
              sym (ap op_value e) ∙ ap (λ (z : List ℕ). source_value s (history s) a z) key,
            )
        go (need.Read y a, has, (suc k, l, e)) = absurd (omega (arith, l))

    in_wanted : (one : Need) (op : Op) → Contains needs (n, one) → Contains (wanted_of s (history s) n one) op → Contains (wanted_at needs n) op
    in_wanted one op has there =
        in_flat_map (λ (z : ℕ × Need). wanted_of s (history s) n z.1) (own_needs needs n) (n, one) op
        (in_filter (λ (z : ℕ × Need). z.0 == n) needs (n, one) has (eq-eqb n n refl)) there

    -- ---- of the kept operations
    -- where an operation of the part is in the whole one
    pub origin : (site : Site) → Contains (sites_of t) site → IsFrom (is_wanted (wanted_at needs n)) u [] u.txn.ops site
    origin site there =
        kept_site (is_wanted (wanted_at needs n)) u t [] [] u.txn.ops site (λ x none. none)
        (subst (λ (z : List Op). Contains (sites_from t [] z) site) of.kept there)

    pub put_value : (x : List ℕ) (v : ℕ) → Contains t.txn.ops (Put x v) → visible_write x u.txn.ops ≡ Some v
    put_value x v there =
        let w = op_site t [] t.txn.ops (Put x v) there in
        let o = origin w.0 w.1 in
        let passes = and_parts _ _ (and_parts _ _ (subst (λ (z : Op). is_wanted (wanted_at needs n) o.origin.before z ≡ true) (o.op ∙ w.2) o.passes)).0 in
        let value = wanted_put x v (wanted_there (wanted_at needs n) (Put x v) passes.0) in
        let inside = subst (Contains u.txn.ops) (o.op ∙ w.2) (site_op u [] u.txn.ops o.origin o.there) in
        let shown = put_visible x u.txn.ops v inside in
        shown.1 ∙ ap Some (sym (value ∙ ap (λ (z : Option ℕ). unwrap_or z 0) shown.1))

    pub put_kept : (x : List ℕ) (v : ℕ) → Contains needs (n, need.Write x) → visible_write x u.txn.ops ≡ Some v → Contains t.txn.ops (Put x v)
    put_kept x v has shown =
        let value : source_value s (history s) n x ≡ v = source_is n u x of.is ∙ ap (λ (z : Option ℕ). unwrap_or z 0) shown in
        let there = in_wanted (need.Write x) (Put x v) has (subst (λ (z : ℕ). Contains (wanted_of s (history s) n (need.Write x)) (Put x z)) value (0, omega arith, refl)) in
        subst (λ (z : List Op). Contains z (Put x v)) (sym of.kept)
        (kept_in (is_wanted (wanted_at needs n)) [] u.txn.ops (Put x v)
        (λ b new. and_from (is_among (wanted_at needs n) (Put x v) && true) (not (is_among b (Put x v)))
        (and_from (is_among (wanted_at needs n) (Put x v)) true (any_there (wanted_at needs n) (Put x v) there) refl) (not_among b (Put x v) new))
        (λ none. absurd (omega (arith, none.1))) (visible_put x u.txn.ops v shown))

    pub read_kept : (x : List ℕ) (v a : ℕ) → Contains needs (n, need.Read x a) → v ≡ source_value s (history s) a x → Contains (external_reads u) (x, v)
        → Contains (external_reads t) (x, v)
    read_kept x v a has value reads =
        let there = in_wanted (need.Read x a) (Get x v) has
        (subst (λ (z : ℕ). Contains (wanted_of s (history s) n (need.Read x a)) (Get x z)) (sym value) (0, omega arith, refl)) in
        subst (λ (z : List Op). Contains (filter_map external_read (sites_from t [] z)) (x, v)) (sym of.kept)
        (kept_read (is_wanted (wanted_at needs n)) u t [] [] u.txn.ops x v (λ y none. none)
        (λ b free new. and_from (is_among (wanted_at needs n) (Get x v) && is_none (visible_write x b)) (not (is_among b (Get x v)))
        (and_from (is_among (wanted_at needs n) (Get x v)) (is_none (visible_write x b)) (any_there (wanted_at needs n) (Get x v) there) (ap is_none free))
        (not_among b (Get x v) new)) (λ free none. absurd (omega (arith, none.1))) reads)

    -- each read of the part is an external one, in it and in the whole one
    pub record IsRead (site : Site) (x : List ℕ) (v : ℕ) : Type 0 where
      pub free : visible_write x site.before ≡ None
      pub whole : Contains (external_reads u) (x, v)
      pub from : (a : ℕ) × Contains needs (n, need.Read x a) × (v ≡ source_value s (history s) a x)

    pub read_site : (site : Site) (x : List ℕ) (v : ℕ) → Contains (sites_of t) site → site.op ≡ Get x v → IsRead site x v
    read_site site x v there op =
        let o = origin site there in
        let passes = and_parts _ _ (and_parts _ _ (subst (λ (z : Op). is_wanted (wanted_at needs n) o.origin.before z ≡ true) (o.op ∙ op) o.passes)).0 in
        let free : visible_write x o.origin.before ≡ None = none_is (visible_write x o.origin.before) passes.1 in
        let external : external_read o.origin ≡ Some (x, v)
        = ap (λ (z : Op). external_part z (λ y. visible_write y o.origin.before)) (o.op ∙ op)
        ∙ ap (λ (own : Option ℕ). cond {A = Option (List ℕ × ℕ)} (is_none own) (Some (x, v)) None) free in
        record {
          free = o.under x free;
          whole = in_filter_map external_read (sites_of u) o.origin (x, v) o.there external;
          from = wanted_get x v (wanted_there (wanted_at needs n) (Get x v) passes.0);
        }

    -- the part is one by its reads and its visible writes
    pub is_part : IsPart t u
    is_part = record { name = sym of.name; reads = reads; writes = writes }
      where
        reads : (read : List ℕ × ℕ) → Contains (external_reads t) read → Contains (external_reads u) read
        reads read there =
            let w = from_filter_map external_read (sites_of t) read there in
            (read_site w.0 read.0 read.1 w.1 (read_op w.0 read w.2)).whole

        writes : (x : List ℕ) (v : ℕ) → visible_write x t.txn.ops ≡ Some v → visible_write x u.txn.ops ≡ Some v
        writes x v shown = put_value x v (visible_put x t.txn.ops v shown)
