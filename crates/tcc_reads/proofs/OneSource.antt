-- In a snapshot without faults each external read has one source, and that is another transaction.
use Rattle.std.proofs.Common.{ℕ, zero, suc, ◌≡◌, ◌≢◌, ◌<◌, ◌+◌, ◌⊎◌, inl, inr, Bool, true, false, cond, not, List, [], ◌∷◌, ◌++◌, length}
use Rattle.std.proofs.Common.{get_or, filter_map, Option, None, Some, option_map, is_none, unwrap_or, append_assoc, refl, sym, ap, subst}
use Rattle.std.proofs.Common.{◌∙◌, arith}
use Rattle.std.specs.Prelude.{◌==◌, find}
use Rattle.std.specs.List.{Contains, list_any, cons_option, position_from}
use Rattle.std.specs.Str.{bytes_eq}
use Rattle.std.proofs.lemmas.Bool.{and_parts, or_cases, cases_Bool, cases_eq, cases_order, and_from, eqb-true, eq-eqb, ne_eqb, false≢true}
use Rattle.std.proofs.lemmas.List.{get_or_default}
use Rattle.std.specs.FinMap.{entries}
use Rattle.tcc_txn.specs.Snapshots.{Sessions}
use Rattle.tcc_txn.specs.declared.op.Op.{Op}
use Rattle.tcc_txn.specs.declared.op.Op.TheVariants.{Get, Put}
use Rattle.tcc_txn.proofs.Lists.{in_filter, from_filter, in_flat_map, from_flat_map}
use Rattle.tcc_reads.specs.declared.fault.ReadFaultKind.TheVariants.{Duplicate, Aborted, Intermediate, Future}
use Rattle.tcc_reads.specs.Sites.{Stand, Site, is_committed, stands, committed, sites_from, sites_of, sites}
use Rattle.tcc_reads.specs.Sources.{visible_write, external_part, external_read, external_reads, shows, source}
use Rattle.tcc_reads.specs.Faults.{puts, writer, is_same_transaction, is_same_site, is_last_at_key}
use Rattle.tcc_reads.specs.Faults.{write_kind, external_kind, read_kind, kind_at, fault_at}
use Rattle.tcc_reads.specs.Faults.{read_faults}
use Rattle.tcc_reads.specs.OneSource.{IsNumber, ReadsFromOthers, Gives, HasOneSource}
use Rattle.tcc_reads.proofs.Indices.{only_position}
use Rattle.tcc_reads.proofs.Ties.{same_name}
use Rattle.tcc_reads.proofs.Sourcing.{has, has-kept, never_shown, last_shown, no_pair}
use Rattle.tcc_reads.proofs.Rising.{IsLater, rises_filter, rises_at, from_order}

-- ---- lists

none_given : {X Y : Type 0} (f : X → Option Y) (xs : List X) (x : X) → filter_map f xs ≡ [] → Contains xs x → f x ≡ None
none_given f [] x none (k, l, e) = absurd (omega arith)
none_given {X} {Y} f (y ∷ xs) x none (zero, l, e) = subst (λ (z : X). f z ≡ None) e (no_pair (f y) (filter_map f xs) none).0
none_given f (y ∷ xs) x none (suc k, l, e) = none_given f xs x (no_pair (f y) (filter_map f xs) none).1 (k, omega arith, e)

from_filter_map : {X Y : Type 0} (f : X → Option Y) (xs : List X) (y : Y) → Contains (filter_map f xs) y → (x : X) × Contains xs x × (f x ≡ Some y)
from_filter_map f [] y (k, l, e) = absurd (omega arith)
from_filter_map {X} {Y} f (x ∷ xs) y c = go (f x) refl c (λ rest. from_filter_map f xs y rest)
  where
    later : (z : X) × Contains xs z × (f z ≡ Some y) → (z : X) × Contains (x ∷ xs) z × (f z ≡ Some y)
    later (z, (k, l, e), is) = (z, (suc k, omega arith, e), is)

    go : (o : Option Y) → f x ≡ o → Contains (cons_option o (filter_map f xs)) y → (Contains (filter_map f xs) y → (z : X) × Contains xs z × (f z ≡ Some y))
        → (z : X) × Contains (x ∷ xs) z × (f z ≡ Some y)
    go None is c rest = later (rest c)
    go (Some z) is (zero, l, e) rest = (x, (0, omega arith, refl), is ∙ ap Some e)
    go (Some z) is (suc k, l, e) rest = later (rest (k, omega arith, e))

found_there : {X : Type 0} (p : X → Bool) (xs : List X) (x : X) → find p xs ≡ Some x → Contains xs x × (p x ≡ true)
found_there p [] x found = cc
found_there {X} p (y ∷ xs) x found = go (p y) refl found (λ rest. found_there p xs x rest)
  where
    go : (b : Bool) → p y ≡ b → cond b (Some y) (find p xs) ≡ Some x → (find p xs ≡ Some x → Contains xs x × (p x ≡ true)) → Contains (y ∷ xs) x × (p x ≡ true)
    go true passes same rest =
        let is : y ≡ x = cc in
        ((0, omega arith, is), subst (λ (z : X). p z ≡ true) is passes)
    go false fails there rest = let w = rest there in ((suc w.0.0, omega (arith, w.0.1), w.0.2), w.1)

-- ---- sites

site_parts : (stand : Stand) (before ops : List Op) (site : Site) → Contains (sites_from stand before ops) site
    → (site.stand ≡ stand) × (site.before ++ site.op ∷ site.after ≡ before ++ ops)
site_parts stand before [] site (k, l, e) = absurd (omega arith)
site_parts stand before (op ∷ after) site (zero, l, e) = (ap (λ (z : Site). z.stand) (sym e), ap (λ (z : Site). z.before ++ z.op ∷ z.after) (sym e))
site_parts stand before (op ∷ after) site (suc k, l, e) =
    let w = site_parts stand (before ++ op ∷ []) after site (k, omega arith, e) in
    (w.0, w.1 ∙ append_assoc before (op ∷ []) after)

site_of : (stand : Stand) (p : Op → Bool) (before ops : List Op) → list_any p ops ≡ true
    → (site : Site) × Contains (sites_from stand before ops) site × (p site.op ≡ true)
site_of stand p before [] some = absurd (false≢true some)
site_of stand p before (op ∷ after) some = go (or_cases (p op) (list_any p after) some) (λ rest. site_of stand p (before ++ op ∷ []) after rest)
  where
    go : (p op ≡ true) ⊎ (list_any p after ≡ true)
        → (list_any p after ≡ true → (site : Site) × Contains (sites_from stand (before ++ op ∷ []) after) site × (p site.op ≡ true))
        → (site : Site) × Contains (sites_from stand before (op ∷ after)) site × (p site.op ≡ true)
    go (inl here) rest = (record { stand = stand; before = before; op = op; after = after }, (0, omega arith, refl), here)
    go (inr there) rest = let w = rest there in (w.0, (suc w.1.0, omega (arith, w.1.1), w.1.2), w.2)

shown_after : (x : List ℕ) (v : ℕ) (before ops : List Op) → has v (visible_write x ops) ≡ true → has v (visible_write x (before ++ ops)) ≡ true
shown_after x v [] ops here = here
shown_after x v (op ∷ before) ops here = has-kept v (visible_write x (before ++ ops)) _ (shown_after x v before ops here)

put_if_shown : (x : List ℕ) (v : ℕ) (ops : List Op) → has v (visible_write x ops) ≡ true → list_any (puts x v) ops ≡ true
put_if_shown x v ops here = go (cases_Bool (list_any (puts x v) ops))
  where
    go : (list_any (puts x v) ops ≡ true) ⊎ (list_any (puts x v) ops ≡ false) → list_any (puts x v) ops ≡ true
    go (inl some) = some
    go (inr none) = absurd (false≢true (sym (never_shown x v ops none) ∙ here))

no_map : {X Y : Type 0} (f : X → Y) (o : Option X) → option_map f o ≡ None → o ≡ None
no_map f None e = refl
no_map f (Some x) e = absurd cc

same_some : {X : Type 0} {x y : X} → Some x ≡ Some y → x ≡ y
same_some e = cc

same_if : (b : Bool) → cond b None (Some Duplicate) ≡ None → b ≡ true
same_if true e = refl
same_if false e = absurd cc

-- ---- numbers

same_true : (t : Stand) → is_same_transaction t t ≡ true
same_true t = and_from _ _ (eq-eqb t.session t.session refl) (eq-eqb t.place t.place refl)

-- a transaction has one number
same_number : (s : Sessions) (m k : ℕ) (a b : Stand) → IsNumber s m a → IsNumber s k b → is_same_transaction a b ≡ true → m ≡ k
same_number s m k a b (i, l, m_is, at_a) (j, p, k_is, at_b) same = go (cases_order i j)
  where
    parts : ((a.session == b.session) ≡ true) × ((a.place == b.place) ≡ true)
    parts = and_parts (a.session == b.session) (a.place == b.place) same

    session : a.session ≡ b.session
    session = eqb-true a.session b.session parts.0

    place : a.place ≡ b.place
    place = eqb-true a.place b.place parts.1

    later : (x y : ℕ) → x < y → y < length (committed (stands s)) → IsLater (get_or (committed (stands s)) x b) (get_or (committed (stands s)) y b)
    later x y low within = rises_at IsLater (committed (stands s)) x y b low within (rises_filter IsLater is_committed (stands s) (from_order 0 (entries s)))

    first : get_or (committed (stands s)) i b ≡ a
    first = get_or_default (committed (stands s)) i b a l ∙ at_a

    go : (i ≡ j) ⊎ ((i < j) ⊎ (j < i)) → m ≡ k
    go (inl e) = omega (arith, m_is, k_is, e)
    go (inr (inl low)) =
        let over : a.place < b.place =
        subst (λ (z : Stand). IsLater a z) at_b (subst (λ (z : Stand). IsLater z (get_or (committed (stands s)) j b)) first (later i j low p)) session in
        absurd (omega (arith, place))
    go (inr (inr high)) =
        let over : b.place < a.place =
        subst (λ (z : Stand). IsLater b z) first (subst (λ (z : Stand). IsLater z (get_or (committed (stands s)) i b)) at_b (later j i high l))
        (sym session) in
        absurd (omega (arith, place))

number_ended : (s : Sessions) (n : ℕ) (t : Stand) → IsNumber s n t → Contains (stands s) t × (t.txn.committed ≡ true)
number_ended s n t (i, l, n_is, at) = from_filter is_committed (stands s) t (i, l, at)

-- ---- a snapshot without faults

module _ (s : Sessions) (none : read_faults s ≡ []) where
  quiet : (site : Site) → Contains (sites (stands s)) site → kind_at (stands s) site site.op ≡ None
  quiet site there = no_map _ (kind_at (stands s) site site.op) (none_given (fault_at (stands s)) (sites (stands s)) site none there)

  -- the writer of a value is in the transaction that shows it
  abbrev HasWriter : Stand → List ℕ → ℕ → Type 0
  HasWriter t x v = (first : Site) × (writer (stands s) x v ≡ Some first) × (is_same_transaction first.stand t ≡ true)

  is_writer : (t : Stand) (x : List ℕ) (v : ℕ) → Contains (stands s) t → shows x v t ≡ true → HasWriter t x v
  is_writer t x v there here = go site site.op at.2 inside.0 (quiet site (in_flat_map sites_of (stands s) t site there at.1))
    where
      at : (site : Site) × Contains (sites_of t) site × (puts x v site.op ≡ true)
      at = site_of t (puts x v) [] t.txn.ops (put_if_shown x v t.txn.ops here)

      site : Site
      site = at.0

      inside : (site.stand ≡ t) × (site.before ++ site.op ∷ site.after ≡ [] ++ t.txn.ops)
      inside = site_parts t [] t.txn.ops site at.1

      by_writer : (one : Site) → one.stand ≡ t → (o : Option Site) → writer (stands s) x v ≡ o → write_kind one o ≡ None → HasWriter t x v
      by_writer one is None found q = absurd cc
      by_writer one is (Some first) found q =
          let same = and_parts (is_same_transaction first.stand one.stand) _ (same_if (is_same_site first one) q) in
          (first, found, subst (λ (z : Stand). is_same_transaction first.stand z ≡ true) is same.0)

      go : (one : Site) (op : Op) → puts x v op ≡ true → one.stand ≡ t → kind_at (stands s) one op ≡ None → HasWriter t x v
      go one (Get key value) puts_it is q = absurd (false≢true puts_it)
      go one (Put key value) puts_it is q =
          let parts = and_parts (bytes_eq key x) (value == v) puts_it in
          let key_is : key ≡ x = same_name key x parts.0 in
          let value_is : value ≡ v = eqb-true value v parts.1 in
          by_writer one is (writer (stands s) x v) refl
          (subst (λ (z : ℕ). write_kind one (writer (stands s) x z) ≡ None) value_is
          (subst (λ (z : List ℕ). write_kind one (writer (stands s) z value) ≡ None) key_is q))

  -- the writer of a value that is read is in another transaction, which is committed, and is the last write of the key there
  record IsReadFrom (t : Stand) (x : List ℕ) (v : ℕ) (first : Site) : Type 0 where
    found : writer (stands s) x v ≡ Some first
    ended : first.stand.txn.committed ≡ true
    apart : is_same_transaction first.stand t ≡ false
    last : is_last_at_key first ≡ true

  read_from : (t : Stand) (x : List ℕ) (v : ℕ) → Contains (stands s) t → t.txn.committed ≡ true → Contains (external_reads t) (x, v) → v ≢ 0
      → (first : Site) × IsReadFrom t x v first
  read_from t x v there ended reads some = by_op at.0 at.0.op inside.0 at.2 (quiet at.0 (in_flat_map sites_of (stands s) t at.0 there at.1))
    where
      at : (site : Site) × Contains (sites_of t) site × (external_read site ≡ Some (x, v))
      at = from_filter_map external_read (sites_of t) (x, v) reads

      inside : (at.0.stand ≡ t) × (at.0.before ++ at.0.op ∷ at.0.after ≡ [] ++ t.txn.ops)
      inside = site_parts t [] t.txn.ops at.0 at.1

      by_last : (first : Site) → writer (stands s) x v ≡ Some first → first.stand.txn.committed ≡ true → is_same_transaction first.stand t ≡ false
          → (b : Bool) → is_last_at_key first ≡ b → cond b None (Some Intermediate) ≡ None → (f : Site) × IsReadFrom t x v f
      by_last first found ended apart true last q = (first, record { found = found; ended = ended; apart = apart; last = last })
      by_last first found ended apart false last q = absurd cc

      by_apart : (first : Site) → writer (stands s) x v ≡ Some first → first.stand.txn.committed ≡ true → (b : Bool) → is_same_transaction first.stand t ≡ b
          → cond b (Some Future) (cond (is_last_at_key first) None (Some Intermediate)) ≡ None → (f : Site) × IsReadFrom t x v f
      by_apart first found ended true same q = absurd cc
      by_apart first found ended false apart q = by_last first found ended apart (is_last_at_key first) refl q

      by_ended : (first : Site) → writer (stands s) x v ≡ Some first → (b : Bool) → first.stand.txn.committed ≡ b
          → cond (not b) (Some Aborted) (cond (is_same_transaction first.stand t) (Some Future) (cond (is_last_at_key first) None (Some Intermediate)))
          ≡ None → (f : Site) × IsReadFrom t x v f
      by_ended first found false gone q = absurd cc
      by_ended first found true ended q = by_apart first found ended (is_same_transaction first.stand t) refl q

      by_writer : (site : Site) → site.stand ≡ t → (o : Option Site) → writer (stands s) x v ≡ o → external_kind site o ≡ None → (f : Site) × IsReadFrom t x v f
      by_writer site is None found q = absurd cc
      by_writer site is (Some first) found q =
          by_ended first found first.stand.txn.committed refl
          (subst (λ (z : Stand). cond (not first.stand.txn.committed) (Some Aborted)
          (cond (is_same_transaction first.stand z) (Some Future) (cond (is_last_at_key first) None (Some Intermediate))) ≡ None) is q)

      by_own : (site : Site) → site.stand ≡ t → (key : List ℕ) (value : ℕ) (o : Option ℕ)
          → cond {A = Option (List ℕ × ℕ)} (is_none o) (Some (key, value)) None ≡ Some (x, v) → read_kind (stands s) site key value o ≡ None
          → (f : Site) × IsReadFrom t x v f
      by_own site is key value (Some own) same q = absurd cc
      by_own site is key value None same q =
          let pair : (key, value) ≡ (x, v) = same_some same in
          let key_is : key ≡ x = ap (λ (p : List ℕ × ℕ). p.0) pair in
          let value_is : value ≡ v = ap (λ (p : List ℕ × ℕ). p.1) pair in
          let here : cond (v == 0) None (external_kind site (writer (stands s) x v)) ≡ None
          =
          subst (λ (z : ℕ). cond (z == 0) None (external_kind site (writer (stands s) x z)) ≡ None) value_is
          (subst (λ (z : List ℕ). cond (value == 0) None (external_kind site (writer (stands s) z value)) ≡ None) key_is q) in
          by_writer site is (writer (stands s) x v) refl (sym (ap (λ b. cond b None (external_kind site (writer (stands s) x v))) (ne_eqb v 0 some)) ∙ here)

      by_op : (site : Site) (op : Op) → site.stand ≡ t → external_part op (λ y. visible_write y site.before) ≡ Some (x, v)
          → kind_at (stands s) site op ≡ None → (f : Site) × IsReadFrom t x v f
      by_op site (Put key value) is part q = absurd cc
      by_op site (Get key value) is part q =
          by_own site is key value (visible_write key site.before) part
          (sym (ap (λ (b : Bool). cond b (read_kind (stands s) site key value (visible_write key site.before)) None)
          (ap (λ (z : Stand). z.txn.committed) is ∙ ended)) ∙ q)

  -- what follows from the writer that a read has its value from: its transaction shows the value
  writer_shows : (t : Stand) (x : List ℕ) (v : ℕ) (first : Site) → IsReadFrom t x v first → Contains (stands s) first.stand × (shows x v first.stand ≡ true)
  writer_shows t x v first r =
      let w = found_there (λ site. puts x v site.op) (sites (stands s)) first r.found in
      let parts = site_stands first w.0 in (
        parts.0,
        subst (λ (ops : List Op). has v (visible_write x ops) ≡ true) parts.1
            (shown_after x v first.before (first.op ∷ first.after) (last_shown x v first.op first.after w.1 r.last)),
      )
    where
      site_stands : (site : Site) → Contains (sites (stands s)) site
          → Contains (stands s) site.stand × (site.before ++ site.op ∷ site.after ≡ site.stand.txn.ops)
      site_stands site c =
          let w = from_flat_map sites_of (stands s) site c in
          let parts = site_parts w.0 [] w.0.txn.ops site w.2 in
          (subst (λ (z : Stand). Contains (stands s) z) (sym parts.0) w.1, parts.1 ∙ ap (λ (z : Stand). z.txn.ops) (sym parts.0))

  other_value : (n : ℕ) (reader : Stand) (x : List ℕ) (v : ℕ) → IsNumber s n reader → Contains (external_reads reader) (x, v) → v ≢ 0 → HasOneSource s n x v
  other_value n reader x v number reads some =
      let ended = number_ended s n reader number in
      let read = read_from reader x v ended.0 ended.1 reads some in
      let gives = writer_shows reader x v read.0 read.1 in
      by read.0 read.1 gives.1 (in_filter is_committed (stands s) read.0.stand gives.0 read.1.ended)
    where
      by : (first : Site) → IsReadFrom reader x v first → shows x v first.stand ≡ true → Contains (committed (stands s)) first.stand → HasOneSource s n x v
      by first r shown (i, l, at) = record {
        initial = λ e. absurd (some e);
        given = λ e. subst (λ (k : ℕ). Gives s k x v) (sym is) (first.stand, here, shown);
        only = λ e m g. unique m g.0 g.1 g.2 ∙ sym is;
        other = λ e. absurd (false≢true (sym r.apart ∙ meets (sym is ∙ e)));
      }
        where
          here : IsNumber s (i + 1) first.stand
          here = (i, l, refl, at)

          unique : (m : ℕ) (giver : Stand) → IsNumber s m giver → shows x v giver ≡ true → m ≡ i + 1
          unique m giver is gives =
              let w = is_writer giver x v (number_ended s m giver is).0 gives in
              let one : w.0 ≡ first = same_some (sym w.1 ∙ r.found) in
              sym (same_number s (i + 1) m first.stand giver here is (subst (λ (z : Site). is_same_transaction z.stand giver ≡ true) one w.2))

          is : source (stands s) x v ≡ i + 1
          is =
              let there : i + 1 ≡ 1 + i = omega arith in
              let found : position_from (shows x v) 1 (committed (stands s)) ≡ Some (1 + i)
              = only_position (shows x v) 1 (committed (stands s)) i first.stand l (subst (λ (z : Stand). shows x v z ≡ true) (sym at) shown)
              (λ j p gives. let same : j + 1 ≡ i + 1 = unique (j + 1) (get_or (committed (stands s)) j first.stand)
              (j, p, refl, get_or_default (committed (stands s)) j (get_or (committed (stands s)) j first.stand) first.stand p) gives in omega arith) in
              ap (λ b. cond b 0 (unwrap_or (position_from (shows x v) 1 (committed (stands s))) 0)) (ne_eqb v 0 some) ∙ ap (λ o. unwrap_or o 0) found
              ∙ sym there

          meets : i + 1 ≡ n → is_same_transaction first.stand reader ≡ true
          meets e =
              let index : i ≡ number.0 = omega (arith, e, number.2) in
              let same : first.stand ≡ reader =
              sym at ∙ get_or_default (committed (stands s)) i first.stand reader l ∙ ap (λ (k : ℕ). get_or (committed (stands s)) k reader) index
              ∙ number.3 in
              subst (λ (z : Stand). is_same_transaction first.stand z ≡ true) same (same_true first.stand)

  pub one_source : (n : ℕ) (x : List ℕ) (v : ℕ) → ReadsFromOthers s n x v → HasOneSource s n x v
  one_source n x v (reader, number, reads) = go (cases_eq v 0)
    where
      go : (v ≡ 0) ⊎ (v ≡ 0 → ⊥) → HasOneSource s n x v
      go (inl nought) =
          let is : source (stands s) x v ≡ 0 = ap (λ b. cond b 0 (unwrap_or (position_from (shows x v) 1 (committed (stands s))) 0)) (eq-eqb v 0 nought) in
          record {
            initial = λ e. is;
            given = λ e. absurd (e nought);
            only = λ e m g. absurd (e nought);
            other = λ e. absurd (omega (arith, is, e, number.2));
          }
      go (inr some) = other_value n reader x v number reads some
