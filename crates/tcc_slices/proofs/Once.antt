-- Operations of which one at most passes a test, and what is kept of them.
use Rattle.std.proofs.Common.{zero, suc, ◌≡◌, ◌<◌, ◌++◌, ◌⊎◌, inl, inr, Bool, true, false, cond, List, [], ◌∷◌, length, length-append, get_or, append_assoc, refl, sym, ap, subst, ◌∙◌, arith}
use Rattle.std.specs.Prelude.{All}
use Rattle.std.specs.List.{Contains}
use Rattle.std.proofs.lemmas.Bool.{cases_Bool, false≢true}
use Rattle.std.proofs.lemmas.List.Elements.{Contains-get_or}
use Rattle.tcc_txn.specs.declared.op.Op.{Op}
use Rattle.tcc_reads.specs.Sites.{Stand, Site, at, sites_from}
use Rattle.tcc_slices.specs.private.Cutting.{kept_behind}
use Rattle.tcc_slices.proofs.Lawful.{kept_from}

-- ---- sites
pub site_op : (stand : Stand) (before ops : List Op) (site : Site) → Contains (sites_from stand before ops) site → Contains ops site.op
site_op stand before [] site (k, l, e) = absurd (omega (arith, l))
site_op stand before (op ∷ ops) site (zero, l, e) = (0, omega arith, ap (λ (z : Site). z.op) e)
site_op stand before (op ∷ ops) site (suc k, l, e) =
    let w = site_op stand (before ++ op ∷ []) ops site (k, omega (arith, l), e) in
    (suc w.0, omega (arith, w.1), w.2)

pub site_stand : (stand : Stand) (before ops : List Op) (site : Site) → Contains (sites_from stand before ops) site → site.stand ≡ stand
site_stand stand before [] site (k, l, e) = absurd (omega (arith, l))
site_stand stand before (op ∷ ops) site (zero, l, e) = ap (λ (z : Site). z.stand) (sym e)
site_stand stand before (op ∷ ops) site (suc k, l, e) = site_stand stand (before ++ op ∷ []) ops site (k, omega (arith, l), e)

pub op_site : (stand : Stand) (before ops : List Op) (op : Op) → Contains ops op → (site : Site) × Contains (sites_from stand before ops) site × (site.op ≡ op)
op_site stand before [] op (k, l, e) = absurd (omega (arith, l))
op_site stand before (first ∷ ops) op (zero, l, e) =
    (record { stand = stand; before = before; op = first; after = ops }, (0, omega arith, refl), e)
op_site stand before (first ∷ ops) op (suc k, l, e) =
    let w = op_site stand (before ++ first ∷ []) ops op (k, omega (arith, l), e) in
    (w.0, (suc w.1.0, omega (arith, w.1.1), w.1.2), w.2)

at_above : (stand : Stand) (before ops : List Op) (site : Site) → Contains (sites_from stand before ops) site → length before < at site
at_above stand before [] site (k, l, e) = absurd (omega (arith, l))
at_above stand before (op ∷ ops) site (zero, l, e) = omega (arith, ap (λ (z : Site). length z.before) e)
at_above stand before (op ∷ ops) site (suc k, l, e) =
    let more = at_above stand (before ++ op ∷ []) ops site (k, omega (arith, l), e) in
    omega (arith, more, length-append before (op ∷ []))

-- ---- one at most
module _ (p : Op → Bool) where
  abbrev pub IsOnce : List Op → Type 0
  IsOnce [] = Unit {0}
  IsOnce (op ∷ ops) = (p op ≡ true → All (λ z. p z ≡ false) ops) × IsOnce ops

  pub never_there : (ops : List Op) (op : Op) → All (λ z. p z ≡ false) ops → Contains ops op → p op ≡ true → ⊥
  never_there ops op none (k, l, e) is = false≢true (sym (subst (λ (z : Op). p z ≡ false) e (none k op l)) ∙ is)

  pub once_kept : (keep : List Op → Op → Bool) (before ops : List Op) → IsOnce ops → IsOnce (kept_behind keep before ops)
  once_kept keep before [] once = tt
  once_kept keep before (op ∷ ops) once = go (keep before op) (once_kept keep (before ++ op ∷ []) ops once.1)
    where
      rest : p op ≡ true → All (λ z. p z ≡ false) (kept_behind keep (before ++ op ∷ []) ops)
      rest is k d inside =
          let kept : List Op = kept_behind keep (before ++ op ∷ []) ops in
          let there = kept_from keep (before ++ op ∷ []) ops (get_or kept k d) (Contains-get_or kept k d inside) in
          subst (λ (z : Op). p z ≡ false) there.2 (once.0 is there.0 (get_or kept k d) there.1)

      go : (b : Bool) → IsOnce (kept_behind keep (before ++ op ∷ []) ops)
          → IsOnce (cond b (op ∷ kept_behind keep (before ++ op ∷ []) ops) (kept_behind keep (before ++ op ∷ []) ops))
      go true w = (rest, w)
      go false w = w

  pub one_site : (stand : Stand) (before ops : List Op) (a b : Site) → IsOnce ops → Contains (sites_from stand before ops) a
      → Contains (sites_from stand before ops) b → p a.op ≡ true → p b.op ≡ true → a ≡ b
  one_site stand before [] a b once (k, l, e) there p_a p_b = absurd (omega (arith, l))
  one_site stand before (op ∷ ops) a b once (zero, l, e) (zero, m, f) p_a p_b = sym e ∙ f
  one_site stand before (op ∷ ops) a b once (zero, l, e) (suc k, m, f) p_a p_b =
      absurd (never_there ops b.op (once.0 (ap (λ (z : Site). p z.op) e ∙ p_a))
      (site_op stand (before ++ op ∷ []) ops b (k, omega (arith, m), f)) p_b)
  one_site stand before (op ∷ ops) a b once (suc k, l, e) (zero, m, f) p_a p_b =
      absurd (never_there ops a.op (once.0 (ap (λ (z : Site). p z.op) f ∙ p_b))
      (site_op stand (before ++ op ∷ []) ops a (k, omega (arith, l), e)) p_a)
  one_site stand before (op ∷ ops) a b once (suc k, l, e) (suc j, m, f) p_a p_b =
      one_site stand (before ++ op ∷ []) ops a b once.1 (k, omega (arith, l), e) (j, omega (arith, m), f) p_a p_b

  pub once_by_site : (stand : Stand) (before ops : List Op)
      → ((a b : Site) → Contains (sites_from stand before ops) a → Contains (sites_from stand before ops) b → p a.op ≡ true → p b.op ≡ true → at a ≡ at b)
      → IsOnce ops
  once_by_site stand before [] same = tt
  once_by_site stand before (op ∷ ops) same = (alone, once_by_site stand (before ++ op ∷ []) ops (λ a b in_a in_b. same a b (later a in_a) (later b in_b)))
    where
      later : (site : Site) → Contains (sites_from stand (before ++ op ∷ []) ops) site → Contains (sites_from stand before (op ∷ ops)) site
      later site (k, l, e) = (suc k, omega (arith, l), e)

      first : Site
      first = record { stand = stand; before = before; op = op; after = ops }

      alone : p op ≡ true → All (λ z. p z ≡ false) ops
      alone is k d inside = go (cases_Bool (p (get_or ops k d)))
        where
          go : (p (get_or ops k d) ≡ true) ⊎ (p (get_or ops k d) ≡ false) → p (get_or ops k d) ≡ false
          go (inr none) = none
          go (inl also) =
              let w = op_site stand (before ++ op ∷ []) ops (get_or ops k d) (Contains-get_or ops k d inside) in
              let above = at_above stand (before ++ op ∷ []) ops w.0 w.1 in
              let tie = same first w.0 (0, omega arith, refl) (later w.0 w.1) is (ap p w.2 ∙ also) in
              absurd (omega (arith, above, tie, length-append before (op ∷ [])))

  pub once_after : (before : List Op) (op : Op) (after : List Op) → IsOnce (before ++ op ∷ after) → p op ≡ true → All (λ z. p z ≡ false) after
  once_after [] op after once is = once.0 is
  once_after (first ∷ before) op after once is = once_after before op after once.1 is

-- a site splits its transaction's operations
pub site_split : (stand : Stand) (before ops : List Op) (site : Site) → Contains (sites_from stand before ops) site
    → site.before ++ site.op ∷ site.after ≡ before ++ ops
site_split stand before [] site (k, l, e) = absurd (omega (arith, l))
site_split stand before (op ∷ ops) site (zero, l, e) = ap (λ (z : Site). z.before ++ z.op ∷ z.after) (sym e)
site_split stand before (op ∷ ops) site (suc k, l, e) =
    site_split stand (before ++ op ∷ []) ops site (k, omega (arith, l), e) ∙ append_assoc before (op ∷ []) ops
