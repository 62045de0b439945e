-- The cut of a snapshot without read faults by links of its history has no read faults.
use Rattle.std.proofs.Common.{ℕ, zero, suc, ◌≡◌, ◌≢◌, ◌<◌, ◌+◌, ◌++◌, ◌==◌, ◌⊎◌, inl, inr, Bool, true, false, cond, not, List, [], ◌∷◌, length, filter_map, refl, sym, ap, subst, ◌∙◌, arith}
use Rattle.std.specs.Prelude.{All, Option, Some, None, find, flat_map, option_map, slice_index, slice_index_or, unwrap_or}
use Rattle.std.specs.List.{Contains, cons_option, list_any}
use Rattle.std.specs.FinMap.{entries}
use Rattle.std.specs.Str.{bytes_eq}
use Rattle.std.proofs.lemmas.Bool.{and_from, and_parts, cases_Bool, cases_eq, cases_order, eq-eqb, eqb-true, false≢true, ne_eqb, or_cases}
use Rattle.std.proofs.lemmas.List.{get_or_default}
use Rattle.std.proofs.lemmas.List.Elements.{Contains-append_right}
use Rattle.std.proofs.lemmas.List.Sorted.{Contains-permutation}
use Rattle.tcc_txn.specs.Snapshots.{Sessions}
use Rattle.tcc_txn.specs.Transactions.{op_key}
use Rattle.tcc_txn.specs.declared.op.Op.{Op}
use Rattle.tcc_txn.specs.declared.op.Op.TheVariants.{Get, Put}
use Rattle.tcc_txn.proofs.Lists.{from_flat_map, in_flat_map, in_map}
use Rattle.tcc_reads.specs.declared.fault.ReadFaultKind.TheVariants.{Duplicate, Aborted, Intermediate, Future}
use Rattle.tcc_reads.specs.Faults.{external_kind, fault_at, is_last_at_key, is_same_site, is_same_transaction, kind_at, puts, read_faults, read_kind, write_kind, writer}
use Rattle.tcc_reads.specs.History.{owner, place}
use Rattle.tcc_reads.specs.OneSource.{HasOneSource, IsNumber}
use Rattle.tcc_reads.specs.Sites.{Stand, Site, at, sites, sites_of, stands}
use Rattle.tcc_reads.specs.Sources.{external_reads, history, puts_at, visible_write}
use Rattle.tcc_reads.proofs.OneSource.{one_source}
use Rattle.tcc_reads.proofs.Rising.{IsLater, by_session, from_order, rises_at}
use Rattle.tcc_reads.proofs.Sourcing.{no_pair}
use Rattle.tcc_reads.proofs.Ties.{itself, same_name}
use Rattle.tcc_graph.specs.declared.step.Step.TheVariants as step
use Rattle.tcc_graph.specs.declared.link.Link.{Link}
use Rattle.tcc_graph.specs.Operations.{source_value}
use Rattle.tcc_slices.specs.Needs.{HasStep}
use Rattle.tcc_slices.specs.private.Cutting.{IsPartAt, is_wanted}
use Rattle.tcc_slices.specs.private.Fitting.{IsFit}
use Rattle.tcc_slices.specs.private.Needing.{IsNeedOf, needs_of_link}
use Rattle.tcc_slices.specs.declared.needs.Need.{Need}
use Rattle.tcc_slices.specs.declared.needs.Need.TheVariants as need
use Rattle.tcc_slices.proofs.Needing.{write_listed}
use Rattle.tcc_slices.proofs.Numbered.{number_below, number_stands, owner_is, place_is}
use Rattle.tcc_slices.proofs.Once.{IsOnce, never_there, once_after, once_by_site, once_kept, one_site, op_site, site_split, site_stand}
use Rattle.tcc_slices.proofs.PartsOf.{IsOf, of_part, origin, put_kept, put_value, read_site, source_is, wanted_at}
use Rattle.tcc_slices.proofs.Written.{shows_it}

-- ---- lists
none_given : {X Y : Type 0} (f : X → Option Y) (xs : List X) (x : X) → filter_map f xs ≡ [] → Contains xs x → f x ≡ None
none_given f [] x none (k, l, e) = absurd (omega (arith, l))
none_given {X} {Y} f (y ∷ xs) x none (zero, l, e) = subst (λ (z : X). f z ≡ None) e (no_pair (f y) (filter_map f xs) none).0
none_given f (y ∷ xs) x none (suc k, l, e) = none_given f xs x (no_pair (f y) (filter_map f xs) none).1 (k, omega (arith, l), e)

all_none : {X Y : Type 0} (f : X → Option Y) (xs : List X) → ((x : X) → Contains xs x → f x ≡ None) → filter_map f xs ≡ []
all_none f [] each = refl
all_none f (x ∷ xs) each =
    ap (λ (o : Option _). cons_option o (filter_map f xs)) (each x (0, omega arith, refl))
    ∙ all_none f xs (λ y c. each y (suc c.0, omega (arith, c.1), c.2))

no_map : {X Y : Type 0} (f : X → Y) (o : Option X) → option_map f o ≡ None → o ≡ None
no_map f None e = refl
no_map f (Some x) e = absurd cc

-- the first that passes, where one does
first_there : {X : Type 0} (p : X → Bool) (xs : List X) (x : X) → Contains xs x → p x ≡ true
    → (y : X) × (find p xs ≡ Some y) × Contains xs y × (p y ≡ true)
first_there p [] x (k, l, e) is = absurd (omega (arith, l))
first_there {X} p (z ∷ xs) x there is = go (p z) refl there (λ c. first_there p xs x c is)
  where
    later : (y : X) × (find p xs ≡ Some y) × Contains xs y × (p y ≡ true) → p z ≡ false
        → (y : X) × (find p (z ∷ xs) ≡ Some y) × Contains (z ∷ xs) y × (p y ≡ true)
    later (y, found, (k, l, e), passes) fails =
        (y, ap (λ (b : Bool). cond b (Some z) (find p xs)) fails ∙ found, (suc k, omega (arith, l), e), passes)

    go : (b : Bool) → p z ≡ b → Contains (z ∷ xs) x → (Contains xs x → (y : X) × (find p xs ≡ Some y) × Contains xs y × (p y ≡ true))
        → (y : X) × (find p (z ∷ xs) ≡ Some y) × Contains (z ∷ xs) y × (p y ≡ true)
    go true passes c more = (z, ap (λ (b : Bool). cond b (Some z) (find p xs)) passes, (0, omega arith, refl), passes)
    go false fails (zero, l, e) more = absurd (false≢true (sym fails ∙ ap p e ∙ is))
    go false fails (suc k, l, e) more = later (more (k, omega (arith, l), e)) fails

any_of : {X : Type 0} (p : X → Bool) (xs : List X) → list_any p xs ≡ true → (x : X) × Contains xs x × (p x ≡ true)
any_of p [] any = absurd (false≢true any)
any_of {X} p (x ∷ xs) any = go (or_cases (p x) (list_any p xs) any) (λ some. any_of p xs some)
  where
    go : (p x ≡ true) ⊎ (list_any p xs ≡ true) → (list_any p xs ≡ true → (y : X) × Contains xs y × (p y ≡ true)) → (y : X) × Contains (x ∷ xs) y × (p y ≡ true)
    go (inl is) more = (x, (0, omega arith, refl), is)
    go (inr some) more = let w = more some in (w.0, (suc w.1.0, omega (arith, w.1.1), w.1.2), w.2)

-- ---- writes of a value
put_is : (x : List ℕ) (v : ℕ) (op : Op) → puts x v op ≡ true → op ≡ Put x v
put_is x v (Get y w) is = absurd (false≢true is)
put_is x v (Put y w) is =
    let parts = and_parts (bytes_eq y x) (w == v) is in
    let key = same_name y x parts.0 in
    let value = eqb-true w v parts.1 in
    λ i. Put (key i) (value i)

puts_it : (x : List ℕ) (v : ℕ) → puts x v (Put x v) ≡ true
puts_it x v = and_from (bytes_eq x x) (v == v) (itself x) (eq-eqb v v refl)

same_if : (b : Bool) → cond b None (Some Duplicate) ≡ None → b ≡ true
same_if true e = refl
same_if false e = absurd cc

-- two transactions at one place have one number
one_place : (s : Sessions) (m k : ℕ) (a b : Stand) → IsNumber s m a → IsNumber s k b → a.session ≡ b.session → a.place ≡ b.place → m ≡ k
one_place s m k a b is also session level = go (cases_order m k)
  where
    same : owner (history s) m ≡ owner (history s) k
    same = owner_is s m a is ∙ session ∙ sym (owner_is s k b also)

    at_one : place (history s) m ≡ place (history s) k
    at_one = place_is s m a is ∙ level ∙ sym (place_is s k b also)

    go : (m ≡ k) ⊎ ((m < k) ⊎ (k < m)) → m ≡ k
    go (inl e) = e
    go (inr (inl low)) = absurd (omega (arith, (by_session s m k low (number_below s k b also)).1 same, at_one))
    go (inr (inr high)) = absurd (omega (arith, (by_session s k m high (number_below s m a is)).1 (sym same), at_one))

-- a value other than 0 that is shown is written
pub some_shown : (o : Option ℕ) (v : ℕ) → v ≢ 0 → v ≡ unwrap_or o 0 → o ≡ Some v
some_shown None v some is = absurd (some is)
some_shown (Some w) v some is = ap Some (sym is)

-- where no transaction stands
abbrev nobody : Stand
nobody = record { session = 0; name = []; place = 0; txn = record { ops = []; committed = true } }

module _ (s slice : Sessions) (links : List Link) (needs : List (ℕ × Need)) (numbers : List ℕ) (fit : IsFit s slice links needs numbers) where
  -- ---- the whole
  quiet : (site : Site) → Contains (sites (stands s)) site → kind_at (stands s) site site.op ≡ None
  quiet site there = no_map _ (kind_at (stands s) site site.op) (none_given (fault_at (stands s)) (sites (stands s)) site fit.none there)

  put_first : (site : Site) (x : List ℕ) (v : ℕ) → Contains (sites (stands s)) site → site.op ≡ Put x v
      → (first : Site) × (writer (stands s) x v ≡ Some first) × (is_same_site first site ≡ true)
  put_first site x v there is = go (writer (stands s) x v) refl (ap (kind_at (stands s) site) (sym is) ∙ quiet site there)
    where
      go : (o : Option Site) → writer (stands s) x v ≡ o → write_kind site (writer (stands s) x v) ≡ None
          → (first : Site) × (writer (stands s) x v ≡ Some first) × (is_same_site first site ≡ true)
      go None found q = let e : write_kind site None ≡ None = ap (write_kind site) (sym found) ∙ q in absurd cc
      go (Some first) found q = (first, found, same_if (is_same_site first site) (ap (write_kind site) (sym found) ∙ q))

  -- two writes of a value are at one place
  two_puts : (a b : Site) (x : List ℕ) (v : ℕ) → Contains (sites (stands s)) a → Contains (sites (stands s)) b → a.op ≡ Put x v → b.op ≡ Put x v
      → (a.stand.session ≡ b.stand.session) × (a.stand.place ≡ b.stand.place) × (at a ≡ at b)
  two_puts a b x v in_a in_b a_is b_is =
      let v_a = put_first a x v in_a a_is in
      let v_b = put_first b x v in_b b_is in
      let one : v_a.0 ≡ v_b.0 = some_is (sym v_a.1 ∙ v_b.1) in
      let p = and_parts (is_same_transaction v_a.0.stand a.stand) (at v_a.0 == at a) v_a.2 in
      let q = and_parts (is_same_transaction v_b.0.stand b.stand) (at v_b.0 == at b) v_b.2 in
      let pp = and_parts (v_a.0.stand.session == a.stand.session) (v_a.0.stand.place == a.stand.place) p.0 in
      let qq = and_parts (v_b.0.stand.session == b.stand.session) (v_b.0.stand.place == b.stand.place) q.0 in (
        sym (eqb-true v_a.0.stand.session a.stand.session pp.0) ∙ ap (λ (z : Site). z.stand.session) one ∙ eqb-true v_b.0.stand.session b.stand.session qq.0,
        sym (eqb-true v_a.0.stand.place a.stand.place pp.1) ∙ ap (λ (z : Site). z.stand.place) one ∙ eqb-true v_b.0.stand.place b.stand.place qq.1,
        sym (eqb-true (at v_a.0) (at a) p.1) ∙ ap at one ∙ eqb-true (at v_b.0) (at b) q.1,
      )
    where
      some_is : {y z : Site} → Some y ≡ Some z → y ≡ z
      some_is e = cc

  in_sites : (all : List Stand) (t : Stand) (site : Site) → Contains all t → Contains (sites_of t) site → Contains (sites all) site
  in_sites all t site there inside = in_flat_map sites_of all t site there inside

  once_whole : (u : Stand) (x : List ℕ) (v : ℕ) → Contains (stands s) u → IsOnce (puts x v) u.txn.ops
  once_whole u x v there =
      once_by_site (puts x v) u [] u.txn.ops
      (λ a b in_a in_b p_a p_b. (two_puts a b x v (in_sites (stands s) u a there in_a) (in_sites (stands s) u b there in_b) (put_is x v a.op p_a) (put_is x v b.op p_b)).2)

  -- ---- parts
  -- the part at an index, and what it is a part of
  pub record IsAt (i : ℕ) (t : Stand) : Type 0 where
    pub inside : i < length (stands slice)
    pub here : slice_index_or (stands slice) i t ≡ t
    pub whole : Stand
    pub of : IsOf s needs (slice_index numbers (i + 1)) t whole

  pub at_index : (i : ℕ) (t : Stand) → i < length (stands slice) → slice_index_or (stands slice) i t ≡ t → IsAt i t
  at_index i t inside e =
      let w = of_part s needs (slice_index numbers (i + 1)) t
      (subst (λ (z : Stand). IsPartAt s (history s) needs (slice_index numbers (i + 1)) z) e (fit.cut.each i t inside)) in
      record { inside = inside; here = e; whole = w.0; of = w.1 }

  pub stand_at : (t : Stand) → Contains (stands slice) t → (i : ℕ) × IsAt i t
  stand_at t (i, inside, e) = (i, at_index i t inside e)

  within : (i : ℕ) → i < length (stands slice) → i + 1 < length numbers
  within i inside = omega (arith, inside, fit.cut.long)

  -- indices of one number are one
  one_index : (i j : ℕ) → i < length (stands slice) → j < length (stands slice) → slice_index numbers (i + 1) ≡ slice_index numbers (j + 1) → i ≡ j
  one_index i j in_i in_j same = go (cases_order i j)
    where
      go : (i ≡ j) ⊎ ((i < j) ⊎ (j < i)) → i ≡ j
      go (inl e) = e
      go (inr (inl low)) = absurd (omega (arith, fit.rising (i + 1) (j + 1) (omega (arith, low)) (within j in_j), same))
      go (inr (inr high)) = absurd (omega (arith, fit.rising (j + 1) (i + 1) (omega (arith, high)) (within i in_i), same))

  same_at : (i j : ℕ) (a b : Stand) → IsAt i a → IsAt j b → i ≡ j → a ≡ b
  same_at i j a b at_a at_b same =
      sym at_a.here ∙ get_or_default (stands slice) i a b at_a.inside ∙ ap (λ (z : ℕ). slice_index_or (stands slice) z b) same ∙ at_b.here

  -- a write of the part is one of the whole transaction
  whole_put : (i : ℕ) (t : Stand) (w : IsAt i t) (site : Site) → Contains (sites_of t) site → (o : Site) × Contains (sites (stands s)) o × (o.op ≡ site.op) × (o.stand ≡ w.whole)
  whole_put i t w site there =
      let o = origin s needs (slice_index numbers (i + 1)) t w.whole w.of site there in (
        o.origin,
        in_sites (stands s) w.whole o.origin (number_stands s (slice_index numbers (i + 1)) w.whole w.of.is).0 o.there,
        o.op,
        site_stand w.whole [] w.whole.txn.ops o.origin o.there,
      )

  once_part : (i : ℕ) (t : Stand) (w : IsAt i t) (x : List ℕ) (v : ℕ) → IsOnce (puts x v) t.txn.ops
  once_part i t w x v =
      subst (IsOnce (puts x v)) (sym w.of.kept)
      (once_kept (puts x v) (is_wanted (wanted_at s needs (slice_index numbers (i + 1)))) [] w.whole.txn.ops
      (once_whole w.whole x v (number_stands s (slice_index numbers (i + 1)) w.whole w.of.is).0))

  -- two writes of one value in the slice are one
  one_put : (t r : Stand) (a b : Site) (x : List ℕ) (v : ℕ) → Contains (stands slice) t → Contains (stands slice) r → Contains (sites_of t) a
      → Contains (sites_of r) b → a.op ≡ Put x v → b.op ≡ Put x v → a ≡ b
  one_put t r a b x v in_t in_r in_a in_b a_is b_is =
      one_site (puts x v) r [] r.txn.ops a b (once_part w.0 r w.1 x v) (subst (λ (z : Stand). Contains (sites_of z) a) same in_a) in_b
      (ap (puts x v) a_is ∙ puts_it x v) (ap (puts x v) b_is ∙ puts_it x v)
    where
      u : (i : ℕ) × IsAt i t
      u = stand_at t in_t

      w : (i : ℕ) × IsAt i r
      w = stand_at r in_r

      o_a : (o : Site) × Contains (sites (stands s)) o × (o.op ≡ a.op) × (o.stand ≡ u.1.whole)
      o_a = whole_put u.0 t u.1 a in_a

      o_b : (o : Site) × Contains (sites (stands s)) o × (o.op ≡ b.op) × (o.stand ≡ w.1.whole)
      o_b = whole_put w.0 r w.1 b in_b

      places : (o_a.0.stand.session ≡ o_b.0.stand.session) × (o_a.0.stand.place ≡ o_b.0.stand.place) × (at o_a.0 ≡ at o_b.0)
      places = two_puts o_a.0 o_b.0 x v o_a.1 o_b.1 (o_a.2 ∙ a_is) (o_b.2 ∙ b_is)

      number : slice_index numbers (u.0 + 1) ≡ slice_index numbers (w.0 + 1)
      number =
          one_place s (slice_index numbers (u.0 + 1)) (slice_index numbers (w.0 + 1)) u.1.whole w.1.whole u.1.of.is w.1.of.is
          (ap (λ (z : Stand). z.session) (sym o_a.3) ∙ places.0 ∙ ap (λ (z : Stand). z.session) o_b.3)
          (ap (λ (z : Stand). z.place) (sym o_a.3) ∙ places.1 ∙ ap (λ (z : Stand). z.place) o_b.3)

      same : t ≡ r
      same = same_at u.0 w.0 t r u.1 w.1 (one_index u.0 w.0 u.1.inside w.1.inside number)

  -- the writer of a value is the site that writes it
  writer_is : (t : Stand) (site : Site) (x : List ℕ) (v : ℕ) → Contains (stands slice) t → Contains (sites_of t) site → site.op ≡ Put x v
      → writer (stands slice) x v ≡ Some site
  writer_is t site x v in_t inside is =
      let f = first_there (λ (z : Site). puts x v z.op) (sites (stands slice)) site (in_sites (stands slice) t site in_t inside) (ap (puts x v) is ∙ puts_it x v) in
      let r = from_flat_map sites_of (stands slice) f.0 f.2 in
      f.1 ∙ ap Some (one_put r.0 t f.0 site x v r.1 in_t r.2 inside (put_is x v f.0.op f.3) is)

  -- ---- the source of a read
  pub listed : (n : ℕ) (one : Need) → Contains (flat_map needs_of_link links) (n, one) → Contains needs (n, one)
  listed n one there = Contains-permutation (flat_map needs_of_link links) needs (n, one) fit.same there

  need_step : (n a : ℕ) (x : List ℕ) → Contains needs (n, need.Read x a) → HasStep links (step.Reads a n x)
  need_step n a x (k, inside, e) = subst (λ (z : ℕ × Need). IsNeedOf links z.0 z.1) e (fit.theirs k (n, need.Read x a) inside)

  -- the part of a number that has a need
  pub part_of : (a : ℕ) (one : Need) → 0 < a → Contains needs (a, one) → (i : ℕ) × (i < length (stands slice)) × (slice_index numbers (i + 1) ≡ a)
  part_of a one some has =
      let w = fit.all a (in_map (λ (z : ℕ × Need). z.0) needs (a, one) has) in
      let is : slice_index numbers w.0 ≡ a = get_or_default numbers w.0 0 a w.1 ∙ w.2 in
      index w.0 w.1 is
    where
      index : (k : ℕ) → k < length numbers → slice_index numbers k ≡ a → (i : ℕ) × (i < length (stands slice)) × (slice_index numbers (i + 1) ≡ a)
      index zero inside is = absurd (omega (arith, some, is, fit.first))
      index (suc k) inside is =
          let next : k + 1 ≡ suc k = omega arith in
          (k, omega (arith, inside, fit.cut.long), ap (slice_index numbers) next ∙ is)

  pub at_part : (i : ℕ) → i < length (stands slice) → (t : Stand) × Contains (stands slice) t × IsAt i t
  at_part i inside =
      let t : Stand = slice_index_or (stands slice) i nobody in
      let here : slice_index_or (stands slice) i t ≡ t = get_or_default (stands slice) i t nobody inside in
      let w = of_part s needs (slice_index numbers (i + 1)) t (fit.cut.each i nobody inside) in
      (t, (i, inside, here), record { inside = inside; here = here; whole = w.0; of = w.1 })

  -- who has the value that a part reads: another part, by its last write at the key
  record HasWriter (t : Stand) (x : List ℕ) (v : ℕ) : Type 0 where
    other : Stand
    there : Contains (stands slice) other
    site : Site
    inside : Contains (sites_of other) site
    put : site.op ≡ Put x v
    ended : other.txn.committed ≡ true
    apart : is_same_transaction other t ≡ false
    last : is_last_at_key site ≡ true

  has_writer : (i : ℕ) (t : Stand) (w : IsAt i t) (x : List ℕ) (v a : ℕ) → v ≢ 0 → Contains (external_reads w.whole) (x, v)
      → Contains needs (slice_index numbers (i + 1), need.Read x a) → v ≡ source_value s (history s) a x → HasWriter t x v
  has_writer i t w x v zero some reads has value = absurd (some value)
  has_writer i t w x v (suc b) some reads has value = record {
    other = r;
    there = part.1;
    site = put.0;
    inside = put.1;
    put = put.2;
    ended = at_r.of.ended;
    apart = apart;
    last = last;
  }
    where
      n : ℕ
      n = slice_index numbers (i + 1)

      written : Contains needs (suc b, need.Write x)
      written = listed (suc b) (need.Write x) (write_listed links (suc b) x (omega arith) (inl (n, need_step n (suc b) x has)))

      its : (i : ℕ) × (i < length (stands slice)) × (slice_index numbers (i + 1) ≡ suc b)
      its = part_of (suc b) (need.Write x) (omega arith) written

      part : (t : Stand) × Contains (stands slice) t × IsAt its.0 t
      part = at_part its.0 its.1

      r : Stand
      r = part.0

      at_r : IsAt its.0 part.0
      at_r = part.2

      is : IsNumber s (suc b) at_r.whole
      is = subst (λ (z : ℕ). IsNumber s z at_r.whole) its.2 at_r.of.is

      shown : visible_write x at_r.whole.txn.ops ≡ Some v
      shown = some_shown (visible_write x at_r.whole.txn.ops) v some (value ∙ source_is s (suc b) at_r.whole x is)

      kept : Contains r.txn.ops (Put x v)
      kept =
          put_kept s needs (slice_index numbers (its.0 + 1)) r at_r.whole at_r.of x v
          (subst (λ (z : ℕ). Contains needs (z, need.Write x)) (sym its.2) written) shown

      put : (site : Site) × Contains (sites_of part.0) site × (site.op ≡ Put x v)
      put = op_site r [] r.txn.ops (Put x v) kept

      source : HasOneSource s n x v
      source = one_source s fit.none n x v (w.whole, w.of.is, reads)

      numbers_apart : suc b ≡ n → ⊥
      numbers_apart same = source.other (sym (source.only some (suc b) (at_r.whole, is, shows_it x v at_r.whole shown)) ∙ same)

      apart : is_same_transaction part.0 t ≡ false
      apart = go (cases_Bool (is_same_transaction part.0 t))
        where
          stands_apart : (j k : ℕ) (d : Stand) → j < k → k < length (stands slice)
              → (slice_index_or (stands slice) j d).session ≡ (slice_index_or (stands slice) k d).session
              → (slice_index_or (stands slice) j d).place < (slice_index_or (stands slice) k d).place
          stands_apart j k d low inside = rises_at IsLater (stands slice) j k d low inside (from_order 0 (entries slice))

          index_apart : its.0 ≡ i → ⊥
          index_apart same = numbers_apart (sym its.2 ∙ ap (λ (z : ℕ). slice_index numbers (z + 1)) same)

          go : (is_same_transaction part.0 t ≡ true) ⊎ (is_same_transaction part.0 t ≡ false) → is_same_transaction part.0 t ≡ false
          go (inr other) = other
          go (inl tied) = by (cases_order its.0 i)
            where
              session : r.session ≡ t.session
              session = eqb-true r.session t.session (and_parts (r.session == t.session) (r.place == t.place) tied).0

              level : r.place ≡ t.place
              level = eqb-true r.place t.place (and_parts (r.session == t.session) (r.place == t.place) tied).1

              at_t : slice_index_or (stands slice) i r ≡ t
              at_t = get_or_default (stands slice) i r t w.inside ∙ w.here

              by : (its.0 ≡ i) ⊎ ((its.0 < i) ⊎ (i < its.0)) → is_same_transaction part.0 t ≡ false
              by (inl same) = absurd (index_apart same)
              by (inr (inl low)) =
                  let up = subst (λ (z : Stand). IsLater z t) at_r.here
                  (subst (λ (z : Stand). IsLater (slice_index_or (stands slice) its.0 r) z) at_t (stands_apart its.0 i r low w.inside)) session in
                  absurd (omega (arith, up, level))
              by (inr (inr high)) =
                  let up = subst (λ (z : Stand). IsLater t z) at_r.here
                  (subst (λ (z : Stand). IsLater z (slice_index_or (stands slice) its.0 r)) at_t (stands_apart i its.0 r high at_r.inside)) (sym session) in
                  absurd (omega (arith, up, level))

      last : is_last_at_key put.0 ≡ true
      last = go (cases_Bool (list_any (puts_at x) put.0.after))
        where
          split : put.0.before ++ put.0.op ∷ put.0.after ≡ r.txn.ops
          split = site_split r [] r.txn.ops put.0 put.1

          none_after : All (λ z. puts x v z ≡ false) put.0.after
          none_after =
              once_after (puts x v) put.0.before put.0.op put.0.after (subst (IsOnce (puts x v)) (sym split) (once_part its.0 r at_r x v))
              (ap (puts x v) put.2 ∙ puts_it x v)

          key : (b : Bool) → list_any (puts_at x) put.0.after ≡ b → is_last_at_key put.0 ≡ not b
          key b found = ap (λ (z : Op). not (list_any (puts_at (op_key z)) put.0.after)) put.2 ∙ ap not found

          -- another write at the key is of the same value
          again : (op : Op) → Contains put.0.after op → puts_at x op ≡ true → ⊥
          again (Get y u) there is = false≢true is
          again (Put y u) there is =
              let y_is : y ≡ x = same_name y x is in
              let in_all : Contains r.txn.ops (Put y u)
              = subst (λ (z : List Op). Contains z (Put y u)) split
              (Contains-append_right put.0.before (put.0.op ∷ put.0.after) (Put y u) (later there)) in
              let in_x : Contains r.txn.ops (Put x u) = subst (λ (z : List ℕ). Contains r.txn.ops (Put z u)) y_is in_all in
              let value_is : Some u ≡ Some v
              = sym (put_value s needs (slice_index numbers (its.0 + 1)) r at_r.whole at_r.of x u in_x) ∙ shown in
              let u_is : u ≡ v = cc in
              never_there (puts x v) put.0.after (Put y u) none_after there (and_from (bytes_eq y x) (u == v) is (eq-eqb u v u_is))
            where
              later : Contains put.0.after (Put y u) → Contains (put.0.op ∷ put.0.after) (Put y u)
              later (k, l, e) = (suc k, omega (arith, l), e)

          go : (list_any (puts_at x) put.0.after ≡ true) ⊎ (list_any (puts_at x) put.0.after ≡ false) → is_last_at_key put.0 ≡ true
          go (inr other) = key false other
          go (inl some_put) = let w = any_of (puts_at x) put.0.after some_put in absurd (again w.0 w.1 w.2)

  -- ---- no operation has a fault
  get_none : (i : ℕ) (t : Stand) (w : IsAt i t) (site : Site) (x : List ℕ) (v : ℕ) → Contains (sites_of t) site → site.op ≡ Get x v
      → read_kind (stands slice) site x v (visible_write x site.before) ≡ None
  get_none i t w site x v inside is =
      let r = read_site s needs (slice_index numbers (i + 1)) t w.whole w.of site x v inside is in
      ap (read_kind (stands slice) site x v) r.free ∙ go (cases_eq v 0) r.whole r.from.0 r.from.1 r.from.2
    where
      go : (v ≡ 0) ⊎ (v ≡ 0 → ⊥) → Contains (external_reads w.whole) (x, v) → (a : ℕ) → Contains needs (slice_index numbers (i + 1), need.Read x a)
          → v ≡ source_value s (history s) a x → cond (v == 0) None (external_kind site (writer (stands slice) x v)) ≡ None
      go (inl nought) reads a has value = ap (λ (b : Bool). cond b None (external_kind site (writer (stands slice) x v))) (eq-eqb v 0 nought)
      go (inr some) reads a has value =
          let k = has_writer i t w x v a some reads has value in
          let own : site.stand ≡ t = site_stand t [] t.txn.ops site inside in
          let its : k.site.stand ≡ k.other = site_stand k.other [] k.other.txn.ops k.site k.inside in
          let ended : k.site.stand.txn.committed ≡ true = ap (λ (z : Stand). z.txn.committed) its ∙ k.ended in
          let apart : is_same_transaction k.site.stand site.stand ≡ false = (λ j. is_same_transaction (its j) (own j)) ∙ k.apart in
          ap (λ (b : Bool). cond b None (external_kind site (writer (stands slice) x v))) (ne_eqb v 0 some)
          ∙ ap (external_kind site) (writer_is k.other k.site x v k.there k.inside k.put)
          ∙ (λ j. cond (not (ended j)) (Some Aborted) (cond (apart j) (Some Future) (cond (k.last j) None (Some Intermediate))))

  none_at_site : (site : Site) → Contains (sites (stands slice)) site → fault_at (stands slice) site ≡ None
  none_at_site site there = ap (option_map _) (go site.op refl)
    where
      r : (t : Stand) × Contains (stands slice) t × Contains (sites_of t) site
      r = from_flat_map sites_of (stands slice) site there

      w : (i : ℕ) × IsAt i r.0
      w = stand_at r.0 r.1

      own : site.stand ≡ r.0
      own = site_stand r.0 [] r.0.txn.ops site r.2

      go : (op : Op) → site.op ≡ op → kind_at (stands slice) site op ≡ None
      go (Put x v) is =
          ap (write_kind site) (writer_is r.0 site x v r.1 r.2 is)
          ∙ ap (λ (b : Bool). cond b None (Some Duplicate)) (same_site site)
        where
          same_site : (z : Site) → is_same_site z z ≡ true
          same_site z =
              and_from (is_same_transaction z.stand z.stand) (at z == at z)
              (and_from (z.stand.session == z.stand.session) (z.stand.place == z.stand.place) (eq-eqb z.stand.session z.stand.session refl)
              (eq-eqb z.stand.place z.stand.place refl)) (eq-eqb (at z) (at z) refl)
      go (Get x v) is =
          let ended : site.stand.txn.committed ≡ true = ap (λ (z : Stand). z.txn.committed) own ∙ w.1.of.ended in
          ap (λ (b : Bool). cond b (read_kind (stands slice) site x v (visible_write x site.before)) None) ended
          ∙ get_none w.0 r.0 w.1 site x v r.2 is

  pub faultless : read_faults slice ≡ []
  faultless = all_none (fault_at (stands slice)) (sites (stands slice)) none_at_site
