-- The writes of a snapshot of which there is a ledger: each value has one writer, and a value that is read has one that gives it.
use Rattle.std.proofs.Common.{ℕ, zero, suc, ◌≡◌, ◌≢◌, ◌<◌, ◌+◌, ◌==◌, ◌⊎◌, inl, inr, Bool, true, false, cond, not, List, [], ◌∷◌, length, length-append, get_or, map, filter_map, refl, sym, ap, subst, ◌∙◌, arith}
use Rattle.std.specs.Prelude.{Option, Some, None, find, option_map, unwrap_or}
use Rattle.std.specs.List.{Contains, cons_option, list_any}
use Rattle.std.specs.FinMap.{get, entries}
use Rattle.std.specs.Option.{option_or}
use Rattle.std.specs.Str.{bytes_eq}
use Rattle.std.proofs.lemmas.Bool.{and_from, and_parts, cases_Bool, cases_eq, cases_order, eq-eqb, eqb-true, false≢true, ne_eqb, or_cases}
use Rattle.std.proofs.lemmas.List.{get_or_default, get_or-append-add}
use Rattle.tcc_txn.specs.Nested.{list_of}
use Rattle.tcc_txn.specs.Snapshots.{Sessions}
use Rattle.tcc_txn.specs.Transactions.{Transaction, op_key}
use Rattle.tcc_txn.specs.declared.op.Op.{Op}
use Rattle.tcc_txn.specs.declared.op.Op.TheVariants.{Get, Put}
use Rattle.tcc_txn.proofs.Lists.{from_flat_map, in_flat_map}
use Rattle.tcc_txn.proofs.SessionEntries.{Named, entry_of_name, list_of_entry}
use Rattle.tcc_reads.specs.Faults.{external_kind, fault_at, is_last_at_key, is_same_site, is_same_transaction, kind_at, puts, read_faults, read_kind, write_kind, writer}
use Rattle.tcc_reads.specs.Sites.{Stand, Site, at, sites, sites_of, stands}
use Rattle.tcc_reads.specs.Sources.{puts_at, value_put, visible_write}
use Rattle.tcc_reads.proofs.Ties.{itself, same_name}
use Rattle.tcc_reads.specs.History.{History, count, owner, place}
use Rattle.tcc_reads.specs.declared.fault.ReadFaultKind.TheVariants.{Duplicate, BrokenInternal, Aborted, Intermediate, Future}
use Rattle.tcc_slices.proofs.Freed.{put_visible, visible_put}
use Rattle.tcc_slices.proofs.Once.{op_site, site_stand}
use Rattle.tcc_slices.proofs.Placed.{entry_of_stand, stand_of_entry, same_session, session_named}
use Rattle.tcc_watch.specs.Ledger.{IsEntered, IsFrom, IsLedger, IsNumbered, IsPlaced, IsRead, Lists, WritesOnce, session_of}
use Rattle.tcc_watch.proofs.Sited.{IsSiteAt, shown_after, site_index}

-- ---- lists
all_none : {X Y : Type 0} (f : X → Option Y) (xs : List X) → ((x : X) → Contains xs x → f x ≡ None) → filter_map f xs ≡ []
all_none f [] each = refl
all_none f (x ∷ xs) each =
    ap (λ (o : Option _). cons_option o (filter_map f xs)) (each x (0, omega arith, refl))
    ∙ all_none f xs (λ y c. each y (suc c.0, omega (arith, c.1), c.2))

-- the first that passes, where one does
first_there : {X : Type 0} (p : X → Bool) (xs : List X) (x : X) → Contains xs x → p x ≡ true
    → (y : X) × (find p xs ≡ Some y) × Contains xs y × (p y ≡ true)
first_there p [] x (k, l, e) is = absurd (omega (arith, l))
first_there {X} p (z ∷ xs) x there is = go (p z) refl there (λ c. first_there p xs x c is)
  where
    later : (y : X) × (find p xs ≡ Some y) × Contains xs y × (p y ≡ true) → p z ≡ false
        → (y : X) × (find p (z ∷ xs) ≡ Some y) × Contains (z ∷ xs) y × (p y ≡ true)
    later (y, found, (k, l, e), passes) fails =
        (y, ap (λ (b : Bool). cond b (Some z) (find p xs)) fails ∙ found, (suc k, omega (arith, l), e), passes)

    go : (b : Bool) → p z ≡ b → Contains (z ∷ xs) x → (Contains xs x → (y : X) × (find p xs ≡ Some y) × Contains xs y × (p y ≡ true))
        → (y : X) × (find p (z ∷ xs) ≡ Some y) × Contains (z ∷ xs) y × (p y ≡ true)
    go true passes c more = (z, ap (λ (b : Bool). cond b (Some z) (find p xs)) passes, (0, omega arith, refl), passes)
    go false fails (zero, l, e) more = absurd (false≢true (sym fails ∙ ap p e ∙ is))
    go false fails (suc k, l, e) more = later (more (k, omega (arith, l), e)) fails

pub any_of : {X : Type 0} (p : X → Bool) (xs : List X) → list_any p xs ≡ true → (x : X) × Contains xs x × (p x ≡ true)
any_of p [] any = absurd (false≢true any)
any_of {X} p (x ∷ xs) any = go (or_cases (p x) (list_any p xs) any) (λ some. any_of p xs some)
  where
    go : (p x ≡ true) ⊎ (list_any p xs ≡ true) → (list_any p xs ≡ true → (y : X) × Contains xs y × (p y ≡ true)) → (y : X) × Contains (x ∷ xs) y × (p y ≡ true)
    go (inl is) more = (x, (0, omega arith, refl), is)
    go (inr some) more = let w = more some in (w.0, (suc w.1.0, omega (arith, w.1.1), w.1.2), w.2)

pub put_is : (x : List ℕ) (v : ℕ) (op : Op) → puts x v op ≡ true → op ≡ Put x v
put_is x v (Get y w) is = absurd (false≢true is)
put_is x v (Put y w) is =
    let parts = and_parts (bytes_eq y x) (w == v) is in
    let key = same_name y x parts.0 in
    let value = eqb-true w v parts.1 in
    λ i. Put (key i) (value i)

pub puts_it : (x : List ℕ) (v : ℕ) → puts x v (Put x v) ≡ true
puts_it x v = and_from (bytes_eq x x) (v == v) (itself x) (eq-eqb v v refl)

-- ---- places

-- one place has one transaction
pub one_txn : (lists : Lists) (name : List ℕ) (p : ℕ) (t u : Transaction) → IsPlaced lists name p t → IsPlaced lists name p u → t ≡ u
one_txn lists name p t u (k, l, at, is) (j, m, also, too) =
    let same : k ≡ j = omega (arith, at, also) in
    sym is ∙ get_or_default (lists name) k t u l ∙ ap (λ (z : ℕ). get_or (lists name) z u) same ∙ too

module _ (s : Sessions) where
  -- a transaction of a snapshot has its place in the list of its session
  pub placed : (t : Stand) → Contains (stands s) t → IsPlaced (list_of s) t.name t.place t.txn
  placed t there =
      let w = entry_of_stand 0 (entries s) t there in
      let list_is : list_of s t.name ≡ w.0.1 = ap (list_of s) w.2 ∙ list_of_entry s w.0 w.1 in
      (w.3.0, subst (λ (z : List Transaction). w.3.0 < length z) (sym list_is) w.3.1, w.3.2, ap (λ (z : List Transaction). get_or z w.3.0 t.txn) list_is ∙ w.3.3)

  -- and what has a place there is one of its transactions
  pub stand_of : (name : List ℕ) (p : ℕ) (txn : Transaction) → IsPlaced (list_of s) name p txn
      → (t : Stand) × Contains (stands s) t × (t.name ≡ name) × (t.place ≡ p) × (t.txn ≡ txn)
  stand_of name p txn at = by (get s name) refl at
    where
      by : (o : Option (List Transaction)) → get s name ≡ o
          → (k : ℕ) × (k < length (unwrap_or o [])) × (p ≡ k + 1) × (get_or (unwrap_or o []) k txn ≡ txn)
          → (t : Stand) × Contains (stands s) t × (t.name ≡ name) × (t.place ≡ p) × (t.txn ≡ txn)
      by None found (k, within, place_is, txn_is) = absurd (omega (arith, within))
      by (Some v) found (k, within, place_is, txn_is) =
          let w = entry_of_name s name v found in
          let u = stand_of_entry 0 (entries s) w.0 p txn w.1
          (k, subst (λ (z : List Transaction). k < length z) (sym w.3) within, place_is, ap (λ (z : List Transaction). get_or z k txn) w.3 ∙ txn_is) in
          (u.0, u.1, u.2 ∙ w.2, u.3, u.4)

  module _ (names : List (List ℕ)) (h : History) (ledger : IsLedger (list_of s) names h) where
    -- the place of a site
    own : (site : Site) → Contains (sites (stands s)) site → (t : Stand) × Contains (stands s) t × Contains (sites_of t) site × (site.stand ≡ t)
    own site there =
        let r = from_flat_map sites_of (stands s) site there in
        (r.0, r.1, r.2, site_stand r.0 [] r.0.txn.ops site r.2)

    put_there : (t : Stand) (site : Site) (x : List ℕ) (v : ℕ) → Contains (sites_of t) site → site.op ≡ Put x v → Contains t.txn.ops (Put x v)
    put_there t site x v inside is =
        let w = site_index t site inside in (length site.before, w.within, w.op (Put x v) ∙ is)

    -- two sites of one written value are at one place
    pub one_put : (a b : Site) (x : List ℕ) (v : ℕ) → Contains (sites (stands s)) a → Contains (sites (stands s)) b → a.op ≡ Put x v → b.op ≡ Put x v
        → is_same_site a b ≡ true
    one_put a b x v in_a in_b a_is b_is = and_from (is_same_transaction a.stand b.stand) (at a == at b) together (eq-eqb (at a) (at b) at_one)
      where
        t : (t : Stand) × Contains (stands s) t × Contains (sites_of t) a × (a.stand ≡ t)
        t = own a in_a

        u : (t : Stand) × Contains (stands s) t × Contains (sites_of t) b × (b.stand ≡ t)
        u = own b in_b

        same : (t.0.name ≡ u.0.name) × (t.0.place ≡ u.0.place)
        same =
            ledger.written t.0.name u.0.name t.0.place u.0.place t.0.txn u.0.txn x v (placed t.0 t.1) (placed u.0 u.1) (put_there t.0 a x v t.2 a_is)
            (put_there u.0 b x v u.2 b_is)

        session : t.0.session ≡ u.0.session
        session = same_session s t.0 u.0 t.1 u.1 same.0

        together : is_same_transaction a.stand b.stand ≡ true
        together =
            (λ i. is_same_transaction (t.3 i) (u.3 i))
            ∙ and_from (t.0.session == u.0.session) (t.0.place == u.0.place) (eq-eqb t.0.session u.0.session session) (eq-eqb t.0.place u.0.place same.1)

        w_a : IsSiteAt t.0 a (length a.before)
        w_a = site_index t.0 a t.2

        w_b : IsSiteAt u.0 b (length b.before)
        w_b = site_index u.0 b u.2

        txn : t.0.txn ≡ u.0.txn
        txn =
            one_txn (list_of s) u.0.name u.0.place t.0.txn u.0.txn
            (subst (λ (z : List ℕ). IsPlaced (list_of s) z u.0.place t.0.txn) same.0 (subst (λ (z : ℕ). IsPlaced (list_of s) t.0.name z t.0.txn) same.1 (placed t.0 t.1)))
            (placed u.0 u.1)

        in_one : get_or u.0.txn.ops (length a.before) (Put x v) ≡ Put x v
        in_one = ap (λ (z : Transaction). get_or z.ops (length a.before) (Put x v)) (sym txn) ∙ w_a.op (Put x v) ∙ a_is

        once : WritesOnce u.0.txn.ops
        once = ledger.written_once u.0.name u.0.place u.0.txn (placed u.0 u.1)

        index : length a.before ≡ length b.before
        index = go (cases_order (length a.before) (length b.before))
          where
            go : (length a.before ≡ length b.before) ⊎ ((length a.before < length b.before) ⊎ (length b.before < length a.before))
                → length a.before ≡ length b.before
            go (inl e) = e
            go (inr (inl low)) =
                absurd (once (length a.before) (length b.before) x v low w_b.within in_one (w_b.op (Put x v) ∙ b_is))
            go (inr (inr high)) =
                absurd (once (length b.before) (length a.before) x v high (subst (λ (z : Transaction). length a.before < length z.ops) txn w_a.within)
                (w_b.op (Put x v) ∙ b_is) in_one)

        at_one : at a ≡ at b
        at_one = ap (λ (z : ℕ). z + 1) index

    -- the writer of a value that some transaction writes is at that place
    record IsWriterOf (t : Stand) (x : List ℕ) (v : ℕ) : Type 0 where
      first : Site
      found : writer (stands s) x v ≡ Some first
      inside : Contains (sites (stands s)) first
      put : first.op ≡ Put x v

    writer_of : (t : Stand) (x : List ℕ) (v : ℕ) → Contains (stands s) t → Contains t.txn.ops (Put x v) → IsWriterOf t x v
    writer_of t x v there writes =
        let site = op_site t [] t.txn.ops (Put x v) writes in
        let f = first_there (λ (z : Site). puts x v z.op) (sites (stands s)) site.0 (in_flat_map sites_of (stands s) t site.0 there site.1)
        (ap (puts x v) site.2 ∙ puts_it x v) in
        record { first = f.0; found = f.1; inside = f.2; put = put_is x v f.0.op f.3 }

    -- no later operation of its transaction writes the key of a visible write
    last_there : (first : Site) (x : List ℕ) (v : ℕ) → Contains (sites (stands s)) first → first.op ≡ Put x v
        → visible_write x first.stand.txn.ops ≡ Some v → is_last_at_key first ≡ true
    last_there first x v there is shown = (λ i. not (list_any (puts_at (op_key (is i))) first.after)) ∙ go (cases_Bool (list_any (puts_at x) first.after))
      where
        t : (t : Stand) × Contains (stands s) t × Contains (sites_of t) first × (first.stand ≡ t)
        t = own first there

        w : IsSiteAt t.0 first (length first.before)
        w = site_index t.0 first t.2

        visible : visible_write x t.0.txn.ops ≡ Some v
        visible = ap (λ (z : Stand). visible_write x z.txn.ops) (sym t.3) ∙ shown

        again : (op : Op) → Contains first.after op → puts_at x op ≡ true → ⊥
        again (Get y u) inside puts = false≢true puts
        again (Put y u) inside puts =
            let key : y ≡ x = same_name y x puts in
            let more = put_visible x first.after u (subst (λ (z : List ℕ). Contains first.after (Put z u)) key inside) in
            let in_all : visible_write x t.0.txn.ops ≡ Some more.0
            = ap (visible_write x) (sym w.split)
            ∙ shown_after x first.before (first.op ∷ first.after) more.0 (ap (λ (o : Option ℕ). option_or o (value_put x first.op)) more.1) in
            let same : Some more.0 ≡ Some v = sym in_all ∙ visible in
            let once_more : Contains first.after (Put x v) = visible_put x first.after v (more.1 ∙ same) in
            let later : get_or t.0.txn.ops (length first.before + suc once_more.0) (Put x v) ≡ Put x v
            = ap (λ (z : List Op). get_or z (length first.before + suc once_more.0) (Put x v)) (sym w.split)
            ∙ get_or-append-add first.before (first.op ∷ first.after) (suc once_more.0) (Put x v) ∙ once_more.2 in
            ledger.written_once t.0.name t.0.place t.0.txn (placed t.0 t.1) (length first.before) (length first.before + suc once_more.0) x v (omega arith)
            (omega (arith, ap length w.split, length-append first.before (first.op ∷ first.after), once_more.1)) (w.op (Put x v) ∙ is) later

        go : (list_any (puts_at x) first.after ≡ true) ⊎ (list_any (puts_at x) first.after ≡ false) → not (list_any (puts_at x) first.after) ≡ true
        go (inr none) = ap not none
        go (inl some) = let m = any_of (puts_at x) first.after some in absurd (again m.0 m.1 m.2)

    -- ---- no operation has a fault

    put_none : (site : Site) (x : List ℕ) (v : ℕ) → Contains (sites (stands s)) site → site.op ≡ Put x v
        → write_kind site (writer (stands s) x v) ≡ None
    put_none site x v there is =
        let t = own site there in
        let f = writer_of t.0 x v t.1 (put_there t.0 site x v t.2 is) in
        ap (write_kind site) f.found
        ∙ ap (λ (b : Bool). cond b None (Some Duplicate)) (one_put f.first site x v f.inside there f.put is)

    -- what a transaction is, by its number
    record IsMember (t : Stand) : Type 0 where
      n : ℕ
      some : 0 < n
      below : n < count h
      name_is : session_of names h n ≡ t.name
      place_is : place h n ≡ t.place
      entered : IsEntered (list_of s) names h n t.txn

    member : (t : Stand) → Contains (stands s) t → t.txn.committed ≡ true → IsMember t
    member t there ended =
        let w = ledger.all t.name t.place t.txn (placed t there) ended in
        let e = ledger.each w.0 w.1 w.2 in
        let at : IsPlaced (list_of s) t.name t.place e.0
        = subst (λ (z : List ℕ). IsPlaced (list_of s) z t.place e.0) w.3
        (subst (λ (z : ℕ). IsPlaced (list_of s) (session_of names h w.0) z e.0) w.4 e.1.numbered.0) in
        let same : e.0 ≡ t.txn = one_txn (list_of s) t.name t.place e.0 t.txn at (placed t there) in
        record {
          n = w.0;
          some = w.1;
          below = w.2;
          name_is = w.3;
          place_is = w.4;
          entered = subst (λ (z : Transaction). IsEntered (list_of s) names h w.0 z) same e.1;
        }

    get_none : (t : Stand) → Contains (stands s) t → t.txn.committed ≡ true → (site : Site) (x : List ℕ) (v : ℕ) → Contains (sites_of t) site
        → site.op ≡ Get x v → site.stand ≡ t → read_kind (stands s) site x v (visible_write x site.before) ≡ None
    get_none t there ended site x v inside is stand_is = by_own (visible_write x site.before) refl
      where
        m : IsMember t
        m = member t there ended

        w : IsSiteAt t site (length site.before)
        w = site_index t site inside

        at_read : IsRead t.txn.ops (length site.before) x v
        at_read = (w.within, w.op (Get x v) ∙ is)

        by_source : v ≢ 0 → (a : ℕ) → a < m.n
            → (0 < a) × ((txn : Transaction) × (IsNumbered (list_of s) names h a txn × (visible_write x txn.ops ≡ Some v)))
            → external_kind site (writer (stands s) x v) ≡ None
        by_source other a low (some, (txn, (numbered, shown))) =
            ap (external_kind site) f.found ∙ (λ i. cond (not (first_ended i)) (Some Aborted) (cond (apart i) (Some Future) (cond (last i) None (Some Intermediate))))
          where
            u : (u : Stand) × Contains (stands s) u × (u.name ≡ session_of names h a) × (u.place ≡ place h a) × (u.txn ≡ txn)
            u = stand_of (session_of names h a) (place h a) txn numbered.0

            shown_there : visible_write x u.0.txn.ops ≡ Some v
            shown_there = ap (λ (z : Transaction). visible_write x z.ops) u.4 ∙ shown

            put : Contains u.0.txn.ops (Put x v)
            put = visible_put x u.0.txn.ops v shown_there

            f : IsWriterOf u.0 x v
            f = writer_of u.0 x v u.1 put

            its : (z : Stand) × Contains (stands s) z × Contains (sites_of z) f.first × (f.first.stand ≡ z)
            its = own f.first f.inside

            same : (its.0.name ≡ u.0.name) × (its.0.place ≡ u.0.place)
            same =
                ledger.written its.0.name u.0.name its.0.place u.0.place its.0.txn u.0.txn x v (placed its.0 its.1) (placed u.0 u.1)
                (put_there its.0 f.first x v its.2 f.put) put

            txn_is : its.0.txn ≡ u.0.txn
            txn_is =
                one_txn (list_of s) u.0.name u.0.place its.0.txn u.0.txn
                (subst (λ (z : List ℕ). IsPlaced (list_of s) z u.0.place its.0.txn) same.0
                (subst (λ (z : ℕ). IsPlaced (list_of s) its.0.name z its.0.txn) same.1 (placed its.0 its.1)))
                (placed u.0 u.1)

            first_ended : f.first.stand.txn.committed ≡ true
            first_ended = ap (λ (z : Stand). z.txn.committed) its.3 ∙ ap (λ (z : Transaction). z.committed) (txn_is ∙ u.4) ∙ numbered.1

            last : is_last_at_key f.first ≡ true
            last =
                last_there f.first x v f.inside f.put
                (ap (λ (z : Stand). visible_write x z.txn.ops) its.3 ∙ ap (λ (z : Transaction). visible_write x z.ops) txn_is ∙ shown_there)

            -- the reader would have the number of the writer
            one_place : its.0.session ≡ t.session → its.0.place ≡ t.place → ⊥
            one_place session place_is =
                let name : session_of names h a ≡ session_of names h m.n
                = sym u.2 ∙ sym same.0 ∙ sym (session_named s its.0 its.1)
                ∙ ap (λ (z : ℕ). get_or (map (λ (e : Named). e.0) (entries s)) z []) session ∙ session_named s t there ∙ sym m.name_is in
                let owners : owner h a ≡ owner h m.n
                = ledger.apart (owner h a) (owner h m.n) (ledger.owned a some (omega (arith, low, m.below))) (ledger.owned m.n m.some m.below) name in
                let places : place h a ≡ place h m.n = sym u.3 ∙ sym same.1 ∙ place_is ∙ sym m.place_is in
                absurd (omega (arith, low, ledger.once a m.n some (omega (arith, low, m.below)) m.some m.below owners places))

            apart : is_same_transaction f.first.stand site.stand ≡ false
            apart = (λ i. is_same_transaction (its.3 i) (stand_is i)) ∙ go (cases_Bool (is_same_transaction its.0 t))
              where
                go : (is_same_transaction its.0 t ≡ true) ⊎ (is_same_transaction its.0 t ≡ false) → is_same_transaction its.0 t ≡ false
                go (inr other) = other
                go (inl together) =
                    let parts = and_parts (its.0.session == t.session) (its.0.place == t.place) together in
                    absurd (one_place (eqb-true its.0.session t.session parts.0) (eqb-true its.0.place t.place parts.1))

        by_value : (v ≡ 0) ⊎ (v ≡ 0 → ⊥) → visible_write x site.before ≡ None → cond (v == 0) None (external_kind site (writer (stands s) x v)) ≡ None
        by_value (inl nought) none = ap (λ (b : Bool). cond b None (external_kind site (writer (stands s) x v))) (eq-eqb v 0 nought)
        by_value (inr some) none =
            let r = m.entered.reads x v (length site.before, at_read, ap (visible_write x) w.before ∙ none) in
            ap (λ (b : Bool). cond b None (external_kind site (writer (stands s) x v))) (ne_eqb v 0 some) ∙ from r.0 r.1 r.2
          where
            from : (a : ℕ) → a < m.n → IsFrom (list_of s) names h x v a → external_kind site (writer (stands s) x v) ≡ None
            from a low (below, inl (nought, zeroth)) = absurd (some nought)
            from a low (below, inr (other, more, (txn, numbered, shown))) = by_source other a low (more, (txn, (numbered, shown)))

        by_own : (o : Option ℕ) → visible_write x site.before ≡ o → read_kind (stands s) site x v o ≡ None
        by_own (Some own_value) shown =
            let same : own_value ≡ v = m.entered.own (length site.before) x v own_value at_read (ap (visible_write x) w.before ∙ shown) in
            ap (λ (b : Bool). cond b None (Some BrokenInternal)) (eq-eqb own_value v same)
        by_own None none = by_value (cases_eq v 0) none

    none_at_site : (site : Site) → Contains (sites (stands s)) site → fault_at (stands s) site ≡ None
    none_at_site site there = ap (option_map _) (go site.op refl)
      where
        t : (t : Stand) × Contains (stands s) t × Contains (sites_of t) site × (site.stand ≡ t)
        t = own site there

        ended : (x : List ℕ) (v : ℕ) → site.op ≡ Get x v → (b : Bool) → site.stand.txn.committed ≡ b
            → cond b (read_kind (stands s) site x v (visible_write x site.before)) None ≡ None
        ended x v is false gone = refl
        ended x v is true done = get_none t.0 t.1 (ap (λ (z : Stand). z.txn.committed) (sym t.3) ∙ done) site x v t.2 is t.3

        go : (op : Op) → site.op ≡ op → kind_at (stands s) site op ≡ None
        go (Put x v) is = put_none site x v there is
        go (Get x v) is = ended x v is site.stand.txn.committed refl

    pub faultless : read_faults s ≡ []
    faultless = all_none (fault_at (stands s)) (sites (stands s)) none_at_site
