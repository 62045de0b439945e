-- The highest values of clients, and what they say of the values written so far.
use Rattle.std.proofs.Common.{ℕ, ◌+◌, ◌<◌, ◌≤◌, ◌≡◌, ◌==◌, ◌%◌, ◌⊎◌, inl, inr, false, List, [], ◌∷◌, ◌++◌, length, take, get_or, set, Some, refl, sym, ap, subst, ◌∙◌, arith, append_assoc}
use Rattle.std.specs.Prelude.{slice_index, slice_index_or}
use Rattle.std.specs.List.{Contains}
use Rattle.std.proofs.lemmas.Bool.{cases_eq, cases_lt, eq-eqb, false≢true}
use Rattle.std.proofs.lemmas.List.Elements.{Contains-append_left, Contains-push, Contains-push_cases, filter_map-append}
use Rattle.std.proofs.lemmas.List.{get_or_read, take_more, get_or-set_same, get_or-set_other}
use Rattle.std.proofs.Math.ListN.{length-set}
use Rattle.tcc_txn.specs.Transactions.{writes_zero}
use Rattle.tcc_txn.specs.declared.op.Op.{Op}
use Rattle.tcc_txn.specs.declared.op.Op.TheVariants.{Get, Put}
use Rattle.tcc_forget.specs.Counters.{AreHighest, CountsBackAt, CountUpBelow, IsFirstBack, IsPassed, WritesPassed, values_written, written_by}

module _ (written highest : List ℕ) (are : AreHighest written highest) (v : ℕ) where
  abbrev m : ℕ
  m = length highest

  inside : v % m < m
  inside = omega (arith, are.some)

  pub passed : 0 < v → v ≤ slice_index highest (v % m) → IsPassed m written v
  passed some upto = go (are.attained (v % m) inside)
    where
      go : (slice_index highest (v % m) ≡ 0) ⊎ (Contains written (slice_index highest (v % m)) × (slice_index highest (v % m) % m ≡ v % m)) → IsPassed m written v
      go (inl none) = absurd (omega (arith, none, some, upto))
      go (inr (there, client)) = record { higher = slice_index highest (v % m); there = there; client = client; upto = upto }

  pub passed_upto : IsPassed m written v → v ≤ slice_index highest (v % m)
  passed_upto p =
      let most : p.higher ≤ slice_index highest (p.higher % m) = are.greatest p.higher p.there in
      omega (arith, most, p.upto, ap (λ c. slice_index highest c) p.client)

  -- a higher one is the highest of its client
  abbrev new : List ℕ
  new = set highest (v % m) v

  module _ (over : slice_index highest (v % m) < v) where
    long : length new ≡ m
    long = length-set highest (v % m) v

    own : slice_index new (v % m) ≡ v
    own = get_or-set_same highest (v % m) v 0 inside

    other : (c : ℕ) → (c ≡ v % m → ⊥) → slice_index new c ≡ slice_index highest c
    other c apart = get_or-set_other highest (v % m) c v 0 apart

    attained : (c : ℕ) → c < m → (c ≡ v % m) ⊎ (c ≡ v % m → ⊥)
        → (slice_index new c ≡ 0) ⊎ (Contains (written ++ v ∷ []) (slice_index new c) × (slice_index new c % m ≡ c))
    attained c below (inl same) =
        let is : slice_index new c ≡ v = ap (λ k. slice_index new k) same ∙ own in
        inr (subst (λ (z : ℕ). Contains (written ++ v ∷ []) z) (sym is) (Contains-push written v), ap (λ z. z % m) is ∙ sym same)
    attained c below (inr apart) = go (are.attained c below)
      where
        go : (slice_index highest c ≡ 0) ⊎ (Contains written (slice_index highest c) × (slice_index highest c % m ≡ c))
            → (slice_index new c ≡ 0) ⊎ (Contains (written ++ v ∷ []) (slice_index new c) × (slice_index new c % m ≡ c))
        go (inl none) = inl (other c apart ∙ none)
        go (inr (there, client)) =
            inr (
              subst (λ (z : ℕ). Contains (written ++ v ∷ []) z) (sym (other c apart)) (Contains-append_left written (v ∷ []) (slice_index highest c) there),
              ap (λ z. z % m) (other c apart) ∙ client,
            )

    greatest : (w : ℕ) → Contains written w ⊎ (v ≡ w) → (w % m ≡ v % m) ⊎ (w % m ≡ v % m → ⊥) → w ≤ slice_index new (w % m)
    greatest w (inr same) client = let is : slice_index new (w % m) ≡ v = ap (λ z. slice_index new (z % m)) (sym same) ∙ own in omega (arith, is, same)
    greatest w (inl there) (inl client) =
        let most : w ≤ slice_index highest (w % m) = are.greatest w there in
        let old : slice_index highest (w % m) ≡ slice_index highest (v % m) = ap (λ c. slice_index highest c) client in
        let is : slice_index new (w % m) ≡ v = ap (λ c. slice_index new c) client ∙ own in
        omega (arith, most, old, is, over)
    greatest w (inl there) (inr apart) = omega (arith, are.greatest w there, other (w % m) apart)

    pub raised : AreHighest (written ++ v ∷ []) new
    raised = record {
      some = omega (arith, are.some, long);
      attained = λ c below.
          subst (λ (n : ℕ). (slice_index new c ≡ 0) ⊎ (Contains (written ++ v ∷ []) (slice_index new c) × (slice_index new c % n ≡ c))) (sym long)
          (attained c (omega (arith, below, long)) (cases_eq c (v % m)));
      greatest = λ w there.
          subst (λ (n : ℕ). w ≤ slice_index new (w % n)) (sym long)
          (greatest w (Contains-push_cases written v w there) (cases_eq (w % m) (v % m)));
    }

-- nothing was written
pub none_yet : (highest : List ℕ) → 0 < length highest → ((c : ℕ) → c < length highest → slice_index highest c ≡ 0) → AreHighest [] highest
none_yet highest some zeros = record {
  some = some;
  attained = λ c below. inl (zeros c below);
  greatest = λ v there. absurd (omega (arith, there.1));
}

-- what the first operations write, and one more
pub written_more : (ops : List Op) (i : ℕ) (op : Op) → i < length ops → op ≡ get_or ops i op
    → values_written (take (i + 1) ops) ≡ values_written (take i ops) ++ values_written (op ∷ [])
written_more ops i op inside is =
    ap (λ z. values_written z) (take_more ops i op inside)
    ∙ filter_map-append written_by (take i ops) (get_or ops i op ∷ [])
    ∙ ap (λ z. values_written (take i ops) ++ values_written (z ∷ [])) (sym is)

-- ---- one value, one operation, all of them

pub raise_to : (written highest : List ℕ) (v client : ℕ) (items : List ℕ) → items ≡ highest → client ≡ v % length highest → AreHighest written highest → 0 < v
    → (IsPassed (length highest) written v → ⊥) → AreHighest (written ++ v ∷ []) (set items client v)
raise_to written highest v client items same at are some not_passed =
    subst (λ (z : List ℕ). AreHighest (written ++ v ∷ []) (set z client v)) (sym same)
    (subst (λ (z : ℕ). AreHighest (written ++ v ∷ []) (set highest z v)) (sym at) (raised written highest are v (over (cases_lt (slice_index highest (v % length highest)) v))))
  where
    over : (slice_index highest (v % length highest) < v) ⊎ (v ≤ slice_index highest (v % length highest)) → slice_index highest (v % length highest) < v
    over (inl higher) = higher
    over (inr upto) = absurd (not_passed (passed written highest are v some upto))

positive : (v : ℕ) → (v == 0) ≡ false → 0 < v
positive v isnt = go (cases_lt 0 v)
  where
    go : (0 < v) ⊎ (v ≤ 0) → 0 < v
    go (inl some) = some
    go (inr none) = absurd (false≢true (sym isnt ∙ eq-eqb v 0 (omega (arith, none))))

pub put_taken : (m : ℕ) (written next : List ℕ) (op : Op) (key : List ℕ) (v : ℕ) → op ≡ Put key v → writes_zero op ≡ false
    → (0 < v → (IsPassed m written v → ⊥) × AreHighest (written ++ v ∷ []) next)
    → (WritesPassed m written op → ⊥) × AreHighest (written ++ values_written (op ∷ [])) next
put_taken m written next op key v is zero taken =
    subst (λ (z : Op). (WritesPassed m written z → ⊥) × AreHighest (written ++ values_written (z ∷ [])) next) (sym is)
    (not_passed, (taken some).1)
  where
    some : 0 < v
    some = positive v (ap writes_zero (sym is) ∙ zero)

    value_is : (a b : ℕ) → Some a ≡ Some b → a ≡ b
    value_is a b e = cc

    not_passed : WritesPassed m written (Put key v) → ⊥
    not_passed (u, same, p) = (taken some).0 (subst (λ (z : ℕ). IsPassed m written z) (sym (value_is v u same)) p)

pub put_back : (m : ℕ) (written : List ℕ) (op : Op) (key : List ℕ) (v : ℕ) → op ≡ Put key v → writes_zero op ≡ false → (0 < v → IsPassed m written v)
    → WritesPassed m written op
put_back m written op key v is zero passed =
    subst (λ (z : Op). WritesPassed m written z) (sym is) (v, refl, passed (positive v (ap writes_zero (sym is) ∙ zero)))

pub count_none : (m : ℕ) (written : List ℕ) (ops : List Op) → CountUpBelow m written ops 0
count_none m written ops i below inside back = absurd (omega (arith, below))

module _ (m : ℕ) (written : List ℕ) (ops : List Op) (i : ℕ) (op : Op) (inside : i < length ops) (is : op ≡ get_or ops i op)
    (below : CountUpBelow m written ops i) where
  here : op ≡ slice_index_or ops i (Get [] 0)
  here = get_or_read ops i op inside is (Get [] 0)

  pub count_more : (next : List ℕ) → (WritesPassed m (written ++ values_written (take i ops)) op → ⊥)
      → AreHighest ((written ++ values_written (take i ops)) ++ values_written (op ∷ [])) next
      → CountUpBelow m written ops (i + 1) × AreHighest (written ++ values_written (take (i + 1) ops)) next
  count_more next not_back high = (
    (λ k low within back. go k low within back (cases_eq k i)),
    subst (λ (z : List ℕ). AreHighest (written ++ z) next) (sym (written_more ops i op inside is))
        (subst (λ (z : List ℕ). AreHighest z next) (append_assoc written (values_written (take i ops)) (values_written (op ∷ []))) high),
  )
    where
      go : (k : ℕ) → k < i + 1 → k < length ops → CountsBackAt m written ops k → (k ≡ i) ⊎ (k ≡ i → ⊥) → ⊥
      go k low within back (inr apart) = below k (omega (arith, low, apart)) within back
      go k low within back (inl same) =
          let at_i : CountsBackAt m written ops i = subst (λ (z : ℕ). CountsBackAt m written ops z) same back in
          not_back (subst (λ (z : Op). WritesPassed m (written ++ values_written (take i ops)) z) (sym here) at_i)

  pub first_back : WritesPassed m (written ++ values_written (take i ops)) op → IsFirstBack m written ops (i + 1)
  first_back back = record {
    index = i;
    is = refl;
    within = inside;
    back = subst (λ (z : Op). WritesPassed m (written ++ values_written (take i ops)) z) here back;
    first = below;
  }
