-- Each step keeps the rule, and what the step reports follows from the rule.
use Rattle.std.proofs.Common.{◌≡◌, ℕ, zero, suc, ◌≤◌, ◌≢◌, ◌++◌, List, [], ◌∷◌, min, set, slice_index, slice_set, inl, inr, refl, sym, subst, ap, ◌∙◌, ⊎_elim}
use Rattle.std.proofs.Common.{le_trans, le_refl, arith}
use Rattle.std.proofs.lemmas.List.Elements.{All-append, All-push, All-nil}
use Rattle.std.proofs.Math.Nat.{min-le_left, min-le_right, le-min}
use mathlib.Core.Option.{some, some-injective, some-ne-none}
use lib.ListN.{get_elem?}
use Rattle.atomic_table.specs.Table.{State, Allows, Splits, Joins, keeps, Final, Seen}
use Rattle.atomic_table.proofs.Lists.{at_set, at_snoc, set_else}
use Rattle.tcc_bound.specs.declared.known.Known.{Known}
use Rattle.tcc_bound.specs.declared.known.View.{View}
use Rattle.tcc_bound.specs.declared.known.View.TheVariants.{Unnamed, Live, Spent}
use Rattle.tcc_bound.specs.Knowing.{no_cost, IsAtMostAll, newcomer, with_sight, with_offer}
use Rattle.tcc_bound.specs.private.Rule.{Agrees, IsKept, IsNew, Holds, known_of, Own, own_of, IsLive, Looks, Offers, split_view, joint_view}

-- the rule, of a table without slots
abbrev pub Ruled : State (Unit {0}) View → Type 0
Ruled s = Holds s.words s.views

-- what fits a word fits a lower one
lowered : (low word floor : ℕ) (view : View) → low ≤ word → Agrees word floor view → Agrees low floor view
lowered low word floor Unnamed le fits = fits
lowered low word floor (Live known) le fits = ((le_trans le fits.0.0, λ i d lt. le_trans le (fits.0.1 i d lt)), fits.1)
lowered low word floor Spent le fits = tt

-- the word falls or stays, and one view changes: the others fit as before
falls : (views : List View) (seat low word floor : ℕ) (new : View) → low ≤ word → Agrees low floor new
    → ((i : ℕ) (view : View) → get_elem? views i ≡ some view → Agrees word floor view)
    → (i : ℕ) (view : View) → get_elem? (set views seat new) i ≡ some view → Agrees low floor view
falls views seat low word floor new le fits others i view at =
    ⊎_elim (λ (t : (i ≡ seat) × (new ≡ view)). subst (Agrees low floor) t.1 fits)
    (λ (t : (i ≢ seat) × (get_elem? views i ≡ some view)). lowered low word floor view le (others i view t.1))
    (at_set views seat i new view at)

-- one more view
grows : (views : List View) (word floor : ℕ) (new : View) → Agrees word floor new
    → ((i : ℕ) (view : View) → get_elem? views i ≡ some view → Agrees word floor view)
    → (i : ℕ) (view : View) → get_elem? (views ++ new ∷ []) i ≡ some view → Agrees word floor view
grows views word floor new fits others i view at =
    ⊎_elim (λ (was : get_elem? views i ≡ some view). others i view was) (λ (same : new ≡ view). subst (Agrees word floor) same fits)
    (at_snoc views new view i at)

only_unnamed : (seat : ℕ) (known : Known) → get_elem? (Unnamed ∷ []) seat ≡ some (Live known) → ⊥
only_unnamed zero known at = let e : Unnamed ≡ Live known = some-injective _ _ at in cc
only_unnamed (suc seat) known at = some-ne-none (Live known) (sym at)

-- once a seat was handed out, the bound has its floor
kept_of : (words : List ℕ) (views : List View) (seat : ℕ) (known : Known) → Holds words views → get_elem? views seat ≡ some (Live known) → IsKept words views
kept_of words views seat known (inl new) at =
    absurd (only_unnamed seat known (subst (λ (vs : List View). get_elem? vs seat ≡ some (Live known)) new.one_seat at))
kept_of words views seat known (inr kept) at = kept

-- what is at most some number is at most everything that this number is at most
under : (low word : ℕ) (known : Known) → low ≤ word → IsAtMostAll word known → IsAtMostAll low known
under low word known le below = (le_trans le below.0, λ i d lt. le_trans le (below.1 i d lt))

-- a step that leaves the word at `low`, no higher than it was
turned : (words : List ℕ) (views : List View) (kept : IsKept words views) (seat low : ℕ) (new : View)
    → low ≤ kept.word → kept.floor ≤ low → Agrees low kept.floor new → Holds (slice_set words 0 low) (set views seat new)
turned words views kept seat low new le above fits =
    inr record {
      word = low;
      floor = kept.floor;
      one_word = ap (λ (ws : List ℕ). slice_set ws 0 low) kept.one_word;
      above = above;
      agree = falls views seat low kept.word kept.floor new le fits kept.agree;
    }

looks_as : (slots seat : ℕ) (known : Known) → Allows Ruled slots seat (Live known, []) 0 (λ n. n) (Looks (Live known, []))
looks_as slots seat known s holds homes at small =
    let kept = kept_of s.words s.views seat known holds at in
    let n : ℕ = slice_index s.words 0 in
    let found : n ≡ kept.word = ap (λ (ws : List ℕ). slice_index ws 0) kept.one_word in
    let fits : Agrees kept.word kept.floor (Live known) = kept.agree seat (Live known) at in
    let one_floor : known.floor ≡ kept.floor = fits.1 in
    let above : kept.floor ≤ kept.word = kept.above in
    let below : IsAtMostAll n known = under n kept.word known (omega arith) fits.0 in
    let new : View = Live (with_sight known n) in (
      new,
      keeps,
      tt,
      turned s.words s.views kept seat n new (omega arith) (omega arith) ((le_refl n, below.1), one_floor),
      (below, (refl, omega arith)),
    )

-- a load reports the word to its seat
pub looks : (slots seat : ℕ) (me : Own) → IsLive me → Allows Ruled slots seat me 0 (λ n. n) (Looks me)
looks slots seat me is = subst (λ (m : Own). Allows Ruled slots seat m 0 (λ n. n) (Looks m)) (sym is) (looks_as slots seat (known_of me.0))

offers_as : (slots seat cost : ℕ) (known : Known) → known.floor ≤ cost
    → Allows Ruled slots seat (Live known, []) 0 (λ n. min n cost) (Offers cost (Live known, []))
offers_as slots seat cost known dear s holds homes at small =
    let kept = kept_of s.words s.views seat known holds at in
    let n : ℕ = slice_index s.words 0 in
    let low : ℕ = min n cost in
    let found : n ≡ kept.word = ap (λ (ws : List ℕ). slice_index ws 0) kept.one_word in
    let fits : Agrees kept.word kept.floor (Live known) = kept.agree seat (Live known) at in
    let one_floor : known.floor ≡ kept.floor = fits.1 in
    let above : kept.floor ≤ kept.word = kept.above in
    let left : low ≤ n = min-le_left n cost in
    let right : low ≤ cost = min-le_right n cost in
    let over : known.floor ≤ low = le-min (omega arith) dear in
    let below : IsAtMostAll low known = under low kept.word known (omega arith) fits.0 in
    let new : View = Live (with_sight (with_offer known cost) low) in (
      new,
      keeps,
      tt,
      turned s.words s.views kept seat low new (omega arith) (omega arith)
          ((le_refl low, All-push (λ (c : ℕ). low ≤ c) known.offers cost below.1 right), one_floor),
      (below, (refl, over)),
    )

-- a `fetch_min` reports to its seat what the word has become, and notes the cost
pub offers : (slots seat cost : ℕ) (me : Own) → IsLive me → (known_of me.0).floor ≤ cost → Allows Ruled slots seat me 0 (λ n. min n cost) (Offers cost me)
offers slots seat cost me is dear =
    subst (λ (m : Own). Allows Ruled slots seat m 0 (λ n. min n cost) (Offers cost m)) (sym is) (offers_as slots seat cost (known_of me.0) dear)

splits_as : (seat : ℕ) (known : Known) → Splits Ruled seat (Live known) (Live known) (split_view (Live known))
splits_as seat known s holds at =
    let kept = kept_of s.words s.views seat known holds at in
    let fits : Agrees kept.word kept.floor (Live known) = kept.agree seat (Live known) at in
    let new : View = split_view (Live known) in
    let views : List View = set s.views seat (Live known) in
    inr record {
      word = kept.word;
      floor = kept.floor;
      one_word = kept.one_word;
      above = kept.above;
      agree = grows views kept.word kept.floor new ((fits.0.0, All-nil (λ (c : ℕ). kept.word ≤ c)), fits.1)
          (falls s.views seat kept.word kept.word kept.floor (Live known) (le_refl kept.word) fits kept.agree);
    }

-- a seat that is split off has the same sight and no offers
pub splits : (seat : ℕ) (me : Own) → IsLive me → Splits Ruled seat me.0 me.0 (split_view me.0)
splits seat me is = subst (λ (m : Own). Splits Ruled seat m.0 m.0 (split_view m.0)) (sym is) (splits_as seat (known_of me.0))

joins_as : (seat other : ℕ) (known more : Known) → Joins Ruled seat (Live known) other (Live more) (joint_view (Live known) (Live more)) Spent
joins_as seat other known more s holds at apart there =
    let kept = kept_of s.words s.views seat known holds at in
    let both : View = joint_view (Live known) (Live more) in
    let fits : Agrees kept.word kept.floor (Live known) = kept.agree seat (Live known) at in
    let theirs : Agrees kept.word kept.floor (Live more) = kept.agree other (Live more) (sym (set_else s.views seat other both apart) ∙ there) in
    let new : Agrees kept.word kept.floor both
    = ((le-min fits.0.0 theirs.0.0, All-append (λ (c : ℕ). kept.word ≤ c) known.offers more.offers fits.0.1 theirs.0.1), fits.1) in
    inr record {
      word = kept.word;
      floor = kept.floor;
      one_word = kept.one_word;
      above = kept.above;
      agree = falls (set s.views seat both) other kept.word kept.word kept.floor Spent (le_refl kept.word) tt
          (falls s.views seat kept.word kept.word kept.floor both (le_refl kept.word) new kept.agree);
    }

-- a seat that takes in another has the offers of both and the lower sight, and the other counts no more
pub joins : (seat other : ℕ) (me them : Own) → IsLive me → IsLive them → Joins Ruled seat me.0 other them.0 (joint_view me.0 them.0) Spent
joins seat other me them is theirs =
    subst (λ (m : Own). Joins Ruled seat m.0 other them.0 (joint_view m.0 them.0) Spent) (sym is)
    (subst (λ (m : Own). Joins Ruled seat (Live (known_of me.0)) other m.0 (joint_view (Live (known_of me.0)) m.0) Spent) (sym theirs)
    (joins_as seat other (known_of me.0) (known_of them.0)))

first_alone : (seat : ℕ) → get_elem? (Unnamed ∷ []) seat ≡ some Unnamed → seat ≡ 0
first_alone zero at = refl
first_alone (suc seat) at = absurd (some-ne-none Unnamed (sym at))

one_live : (known : Known) (P : View → Type 0) → P (Live known) → (i : ℕ) (view : View) → get_elem? (Live known ∷ []) i ≡ some view → P view
one_live known P holds zero view at = subst P (some-injective _ _ at) holds
one_live known P holds (suc i) view at = absurd (some-ne-none view (sym at))

-- the first seat is named while it is alone
names_as : (seat number : ℕ) → number ≤ no_cost → (words : List ℕ) (views : List View) → IsNew words views → get_elem? views seat ≡ some Unnamed
    → Holds (slice_set words 0 (slice_index words 0)) (set views seat (Live (newcomer number)))
names_as seat number fits words views new at =
    let here : seat ≡ 0 = first_alone seat (subst (λ (vs : List View). get_elem? vs seat ≡ some Unnamed) new.one_seat at) in
    let known : Known = newcomer number in
    let named : IsKept (no_cost ∷ []) (Live known ∷ []) = record {
      word = no_cost;
      floor = number;
      one_word = refl;
      above = fits;
      agree = one_live known (Agrees no_cost number) ((le_refl no_cost, All-nil (λ (c : ℕ). no_cost ≤ c)), refl);
    } in
    let one_word : slice_set words 0 (slice_index words 0) ≡ no_cost ∷ [] = ap (λ (ws : List ℕ). slice_set ws 0 (slice_index ws 0)) new.one_word in
    let one_view : set views seat (Live known) ≡ Live known ∷ [] = rw (new.one_seat, here) refl in
    inr (subst (λ (ws : List ℕ). IsKept ws (set views seat (Live known))) (sym one_word)
    (subst (λ (vs : List View). IsKept (no_cost ∷ []) vs) (sym one_view) named))

names_from : (slots seat number : ℕ) → number ≤ no_cost → Allows Ruled slots seat (Unnamed, []) 0 (λ n. n) (λ found after. after ≡ own_of (newcomer number))
names_from slots seat number fits s (inl new) homes at small = (Live (newcomer number), keeps, tt, names_as seat number fits s.words s.views new at, refl)
names_from slots seat number fits s (inr kept) homes at small = absurd (kept.agree seat Unnamed at)

-- the load that names the floor
pub names : (slots seat number : ℕ) (me : Own) → me ≡ (Unnamed, []) → number ≤ no_cost
    → Allows Ruled slots seat me 0 (λ n. n) (λ found after. after ≡ own_of (newcomer number))
names slots seat number me is fits =
    subst (λ (m : Own). Allows Ruled slots seat m 0 (λ n. n) (λ found after. after ≡ own_of (newcomer number))) (sym is) (names_from slots seat number fits)

-- a bound begins with nothing offered
pub begins : Holds (no_cost ∷ []) (Unnamed ∷ [])
begins = inl record { one_word = refl; one_seat = refl }

ends_as : (seat word : ℕ) (known : Known) (s : State (Unit {0}) View) → Holds s.words s.views → get_elem? s.views seat ≡ some (Live known)
    → get_elem? s.words 0 ≡ some word
    → IsAtMostAll word known × (known.floor ≤ word)
ends_as seat word known s holds at read =
    let kept = kept_of s.words s.views seat known holds at in
    let fits : Agrees kept.word kept.floor (Live known) = kept.agree seat (Live known) at in
    let one_floor : known.floor ≡ kept.floor = fits.1 in
    let above : kept.floor ≤ kept.word = kept.above in
    let same : kept.word ≡ word = some-injective _ _ (sym (ap (λ (ws : List ℕ). get_elem? ws 0) kept.one_word) ∙ read) in
    (under word kept.word known (omega arith) fits.0, omega arith)

-- the word of a bound that is closed
pub ends : (seat word : ℕ) (me : Own) (words : List ℕ) (slots : List (Unit {0})) → IsLive me → Final (Seen Ruled seat me.0) words slots
    → get_elem? words 0 ≡ some word
    → IsAtMostAll word (known_of me.0) × ((known_of me.0).floor ≤ word)
ends seat word me words slots is last read =
    let s : State (Unit {0}) View = last.0 in
    let same : s.words ≡ words = last.2 in
    ends_as seat word (known_of me.0) s last.1.0 (last.1.1 ∙ ap (λ (m : Own). some m.0) is) (ap (λ (ws : List ℕ). get_elem? ws 0) same ∙ read)
