-- The operations of a transaction by their index, and as sites.
use Rattle.std.proofs.Common.{ℕ, zero, suc, ◌≡◌, ◌<◌, ◌++◌, cond, List, [], ◌∷◌, length, length-append, append-nil, append_assoc, filter_map, get_or, take, refl, sym, ap, subst, ◌∙◌, arith}
use Rattle.std.specs.Prelude.{Option, Some, None, is_none}
use Rattle.std.specs.List.{Contains, cons_option}
use Rattle.std.specs.Option.{option_or}
use Rattle.std.proofs.Math.Seq.{get_or-append_seam, take-append_seam}
use Rattle.tcc_txn.specs.declared.op.Op.{Op}
use Rattle.tcc_txn.specs.declared.op.Op.TheVariants.{Get, Put}
use Rattle.tcc_reads.specs.Sites.{Stand, Site, sites_from, sites_of}
use Rattle.tcc_reads.specs.Sources.{external_part, external_read, external_reads, value_put, visible_write}
use Rattle.tcc_slices.proofs.Once.{site_split}
use Rattle.tcc_watch.specs.Ledger.{ReadsExternally}

-- ---- lists
from_filter_map : {X Y : Type 0} (f : X → Option Y) (xs : List X) (y : Y) → Contains (filter_map f xs) y → (x : X) × Contains xs x × (f x ≡ Some y)
from_filter_map f [] y (k, l, e) = absurd (omega (arith, l))
from_filter_map {X} {Y} f (x ∷ xs) y c = go (f x) refl c (λ rest. from_filter_map f xs y rest)
  where
    later : (z : X) × Contains xs z × (f z ≡ Some y) → (z : X) × Contains (x ∷ xs) z × (f z ≡ Some y)
    later (z, (k, l, e), is) = (z, (suc k, omega (arith, l), e), is)

    go : (o : Option Y) → f x ≡ o → Contains (cons_option o (filter_map f xs)) y → (Contains (filter_map f xs) y → (z : X) × Contains xs z × (f z ≡ Some y))
        → (z : X) × Contains (x ∷ xs) z × (f z ≡ Some y)
    go None is c rest = later (rest c)
    go (Some z) is (zero, l, e) rest = (x, (0, omega arith, refl), is ∙ ap Some e)
    go (Some z) is (suc k, l, e) rest = later (rest (k, omega (arith, l), e))

in_filter_map : {X Y : Type 0} (f : X → Option Y) (xs : List X) (x : X) (y : Y) → Contains xs x → f x ≡ Some y → Contains (filter_map f xs) y
in_filter_map f [] x y (k, l, e) is = absurd (omega (arith, l))
in_filter_map f (z ∷ xs) x y (zero, l, e) is =
    subst (λ (o : Option _). Contains (cons_option o (filter_map f xs)) y) (sym (ap f e ∙ is)) (0, omega arith, refl)
in_filter_map f (z ∷ xs) x y (suc k, l, e) is = go (f z) (in_filter_map f xs x y (k, omega (arith, l), e) is)
  where
    go : (o : Option _) → Contains (filter_map f xs) y → Contains (cons_option o (filter_map f xs)) y
    go None c = c
    go (Some w) (j, m, at) = (suc j, omega (arith, m), at)

-- ---- sites

-- the place of a site's operation
pub record IsSiteAt (stand : Stand) (site : Site) (k : ℕ) : Type 0 where
  pub within : k < length stand.txn.ops
  pub op : (d : Op) → get_or stand.txn.ops k d ≡ site.op
  pub before : take k stand.txn.ops ≡ site.before
  pub split : site.before ++ site.op ∷ site.after ≡ stand.txn.ops

pub site_index : (stand : Stand) (site : Site) → Contains (sites_of stand) site → IsSiteAt stand site (length site.before)
site_index stand site there = record {
  within = omega (arith, ap length split, length-append site.before (site.op ∷ site.after));
  op = λ d. ap (λ (z : List Op). get_or z (length site.before) d) (sym split) ∙ get_or-append_seam site.before site.op site.after d;
  before = ap (λ (z : List Op). take (length site.before) z) (sym split) ∙ take-append_seam site.before (site.op ∷ site.after);
  split = split;
}
  where
    split : site.before ++ site.op ∷ site.after ≡ stand.txn.ops
    split = site_split stand [] stand.txn.ops site there

index_from : (stand : Stand) (before ops : List Op) (k : ℕ) (d : Op) → k < length ops
    → (site : Site) × Contains (sites_from stand before ops) site × (site.op ≡ get_or ops k d) × (site.before ≡ before ++ take k ops)
index_from stand before [] k d l = absurd (omega (arith, l))
index_from stand before (op ∷ ops) zero d l =
    (record { stand = stand; before = before; op = op; after = ops }, (0, omega arith, refl), refl, sym (append-nil before))
index_from stand before (op ∷ ops) (suc k) d l =
    let w = index_from stand (before ++ op ∷ []) ops k d (omega (arith, l)) in
    (w.0, (suc w.1.0, omega (arith, w.1.1), w.1.2), w.2, w.3 ∙ append_assoc before (op ∷ []) (take k ops))

pub index_site : (stand : Stand) (k : ℕ) (d : Op) → k < length stand.txn.ops
    → (site : Site) × Contains (sites_of stand) site × (site.op ≡ get_or stand.txn.ops k d) × (site.before ≡ take k stand.txn.ops)
index_site stand k d l = index_from stand [] stand.txn.ops k d l

-- ---- external reads

free : (o : Option ℕ) (r q : List ℕ × ℕ) → cond {A = Option (List ℕ × ℕ)} (is_none o) (Some r) None ≡ Some q → (o ≡ None) × (r ≡ q)
free None r q e = (refl, cc)
free (Some w) r q e = absurd cc

pub reads_of_stand : (t : Stand) (x : List ℕ) (v : ℕ) → Contains (external_reads t) (x, v) → ReadsExternally t.txn.ops x v
reads_of_stand t x v there = go at.0.op refl at.2
  where
    at : (site : Site) × Contains (sites_of t) site × (external_read site ≡ Some (x, v))
    at = from_filter_map external_read (sites_of t) (x, v) there

    w : IsSiteAt t at.0 (length at.0.before)
    w = site_index t at.0 at.1

    go : (op : Op) → at.0.op ≡ op → external_part op (λ y. visible_write y at.0.before) ≡ Some (x, v) → ReadsExternally t.txn.ops x v
    go (Put y u) is e = absurd cc
    go (Get y u) is e =
        let f = free (visible_write y at.0.before) (y, u) (x, v) e in
        let key : y ≡ x = ap (λ (p : List ℕ × ℕ). p.0) f.1 in
        let value : u ≡ v = ap (λ (p : List ℕ × ℕ). p.1) f.1 in (
          length at.0.before,
          (w.within, w.op (Get x v) ∙ is ∙ (λ i. Get (key i) (value i))),
          ap (λ (z : List Op). visible_write x z) w.before ∙ subst (λ (z : List ℕ). visible_write z at.0.before ≡ None) key f.0,
        )

pub stand_reads : (t : Stand) (x : List ℕ) (v : ℕ) → ReadsExternally t.txn.ops x v → Contains (external_reads t) (x, v)
stand_reads t x v (i, (inside, is), none) =
    let w = index_site t i (Get x v) inside in
    let op : w.0.op ≡ Get x v = w.2 ∙ is in
    let free_of : visible_write x w.0.before ≡ None = ap (visible_write x) w.3 ∙ none in
    in_filter_map external_read (sites_of t) w.0 (x, v) w.1
    (ap (λ (o : Op). external_part o (λ y. visible_write y w.0.before)) op
    ∙ ap (λ (o : Option ℕ). cond {A = Option (List ℕ × ℕ)} (is_none o) (Some (x, v)) None) free_of)

-- ---- visible writes

-- what is visible of the last of some operations is visible of all
pub shown_after : (x : List ℕ) (before after : List Op) (w : ℕ) → visible_write x after ≡ Some w → visible_write x (before ++ after) ≡ Some w
shown_after x [] after w is = is
shown_after x (op ∷ before) after w is = ap (λ (o : Option ℕ). option_or o (value_put x op)) (shown_after x before after w is)
