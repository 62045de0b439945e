-- The links of a read between listed writers, one after the other.
use Rattle.std.proofs.Common.{ℕ, ◌+◌, ◌≡◌, ◌<◌, ◌≤◌, ◌⊎◌, inl, inr, Bool, true, false, List, length, slice_index, get_or, nat_le, sym, ap, subst, ◌∙◌, arith}
use Rattle.std.specs.List.{Contains}
use Rattle.std.proofs.lemmas.Bool.{cases_eq}
use Rattle.std.proofs.lemmas.List.Elements.{Contains-get_or}
use Rattle.std.proofs.lemmas.List.{get_or_default, get_or_read}
use Rattle.tcc_reads.specs.History.{Entry, History}
use Rattle.tcc_forget.specs.Cases.{Observes}
use Rattle.tcc_forget.specs.declared.at.SessionPlace.{SessionPlace}
use Rattle.tcc_forget.specs.Slots.{AreSlots, AreWide, Coming}
use Rattle.tcc_forget.specs.private.Linking.{AreBetween, CanLink, CanLinkOne, CanSettle, IsClockOf, IsOutcome, Keeps, OrdersOne}
use Rattle.tcc_forget.proofs.RaisedRows.{at_of, clock_false, clock_true}

-- an item by its index is among the items
pub item_in : (listed : List ℕ) (k b : ℕ) → k < length listed → b ≡ get_or listed k b → Contains listed b
item_in listed k b inside is = (k, inside, sym is)

pub item_is : (listed : List ℕ) (k b : ℕ) → k < length listed → b ≡ get_or listed k b → b ≡ get_or listed k 0
item_is listed k b inside is = get_or_read listed k b inside is 0

-- what holds of the first ones, and of one more
pub upto_more : (listed : List ℕ) (P : ℕ → Type 0) (i b : ℕ) → i < length listed → b ≡ get_or listed i b → ((k : ℕ) → k < i → P (get_or listed k 0)) → P b
    → (k : ℕ) → k < i + 1 → P (get_or listed k 0)
upto_more listed P i b inside is before here k low = go (cases_eq k i)
  where
    go : (k ≡ i) ⊎ (k ≡ i → ⊥) → P (get_or listed k 0)
    go (inl same) = subst P (item_is listed i b inside is ∙ ap (λ z. get_or listed z 0) (sym same)) here
    go (inr apart) = before k (omega (arith, low, apart))

pub upto_all : (listed : List ℕ) (P : ℕ → Type 0) (i : ℕ) → length listed ≤ i → ((k : ℕ) → k < i → P (get_or listed k 0)) → (b : ℕ) → Contains listed b → P b
upto_all listed P i past each b (k, inside, is) = subst P (get_or_default listed k 0 b inside ∙ is) (each k (omega (arith, inside, past)))

module _ (h : History) (e : Entry) (numbers : List ℕ) (ats : List SessionPlace) (clock : List ℕ) (slots : AreSlots h numbers ats) (clock_of : IsClockOf h e clock)
    (b : ℕ) (below : b < length numbers) where
  pub seen : nat_le (at_of ats b).place (slice_index clock (at_of ats b).session) ≡ true → Observes h e (slice_index numbers b)
  seen test = (clock_of (slice_index numbers b) (slots.below b below)).0 (clock_true h numbers ats clock b slots below test)

  pub unseen : nat_le (at_of ats b).place (slice_index clock (at_of ats b).session) ≡ false → Observes h e (slice_index numbers b) → ⊥
  unseen test observed =
      clock_false h numbers ats clock b slots below test ((clock_of (slice_index numbers b) (slots.below b below)).1 observed)

-- what follows from an outcome
pub outcome_more : (on : Coming) (old new : List (List ℕ)) (P Q : Type 0) → (P → Q) → (done : Bool) → IsOutcome on old new P done → IsOutcome on old new Q done
outcome_more on old new P Q f true (between, keeps, p) = (between, keeps, f p)
outcome_more on old new P Q f false cycle = cycle

-- two outcomes, one after the other
pub keeps_on : (h : History) (first old new : List (List ℕ)) → length old ≡ length first → Keeps h first old → Keeps h old new → Keeps h first new
keeps_on h first old new long p q u i at_u below r = q u i at_u (omega (arith, below, long)) (p u i at_u below r)

module _ (on : Coming) (rows : List (List ℕ)) (ats : List SessionPlace) (clock : List ℕ) (b a : ℕ) (can : CanLinkOne on rows ats clock b a) where
  pub one_itself : b ≡ a → IsOutcome on rows rows (OrdersOne on rows b a) true
  one_itself same = (can.between, (λ u i at_u below p. p), λ apart. absurd (apart same))

  pub one_unseen : nat_le (at_of ats b).place (slice_index clock (at_of ats b).session) ≡ false → IsOutcome on rows rows (OrdersOne on rows b a) true
  one_unseen test = (
    can.between,
    (λ u i at_u below p. p),
    λ apart observed. absurd (unseen on.history on.entry on.numbers ats clock can.slots can.clock_of b can.from test observed),
  )

  pub one_settle : (b ≡ a → ⊥) → nat_le (at_of ats b).place (slice_index clock (at_of ats b).session) ≡ true → CanSettle on rows ats b a
  one_settle apart test = record {
    slots = can.slots;
    between = can.between;
    wide = can.wide;
    from = can.from;
    to = can.to;
    link = can.link apart (seen on.history on.entry on.numbers ats clock can.slots can.clock_of b can.from test);
  }

module _ (on : Coming) (first rows : List (List ℕ)) (ats : List SessionPlace) (clock : List ℕ) (listed : List ℕ) (a i : ℕ) (can : CanLink on first ats clock listed a)
    (inside : i < length listed) (between : AreBetween on.history on.entry on.numbers rows) (wide : AreWide on.sessions rows) where
  among : Contains listed (get_or listed i 0)
  among = Contains-get_or listed i 0 inside

  pub listed_one : CanLinkOne on rows ats clock (get_or listed i 0) a
  listed_one = record {
    slots = can.slots;
    between = between;
    wide = wide;
    clock_of = can.clock_of;
    from = can.inside (get_or listed i 0) among;
    to = can.to;
    link = λ apart observed. can.links (get_or listed i 0) among apart observed;
  }

  pub listed_more : (new : List (List ℕ)) → Keeps on.history rows new → OrdersOne on new (get_or listed i 0) a
      → ((k : ℕ) → k < i → OrdersOne on rows (get_or listed k 0) a) → (k : ℕ) → k < i + 1 → OrdersOne on new (get_or listed k 0) a
  listed_more new keeps here before k low = go (cases_eq k i)
    where
      go : (k ≡ i) ⊎ (k ≡ i → ⊥) → OrdersOne on new (get_or listed k 0) a
      go (inl same) = subst (λ (z : ℕ). OrdersOne on new (get_or listed z 0) a) (sym same) here
      go (inr apart) = λ other observed.
          let early : k < i = omega (arith, low, apart) in
          let b : get_or listed k 0 < length on.numbers = can.inside (get_or listed k 0) (Contains-get_or listed k 0 (omega (arith, early, inside))) in
          keeps (slice_index on.numbers (get_or listed k 0)) a (can.slots.below (get_or listed k 0) b) (omega (arith, can.to, between.long)) (before k early other observed)

pub listed_all : (on : Coming) (rows : List (List ℕ)) (listed : List ℕ) (a i : ℕ) → length listed ≤ i → ((k : ℕ) → k < i → OrdersOne on rows (get_or listed k 0) a)
    → (b : ℕ) → Contains listed b → OrdersOne on rows b a
listed_all on rows listed a i past each b there = upto_all listed (λ z. OrdersOne on rows z a) i past each b there
