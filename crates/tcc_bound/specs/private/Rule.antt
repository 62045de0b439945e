-- The rule that the word and the views of all seats keep between any two steps, and what each step reports to its seat.
use Rattle.std.specs.Prelude.{◌≡◌, ℕ, ◌≤◌, ◌⊎◌, List, [], ◌∷◌, min}
use mathlib.Core.Option.{some}
use lib.ListN.{get_elem?}
use Rattle.atomic_table.specs.Table.{Me}
use Rattle.tcc_bound.specs.declared.known.Known.{Known}
use Rattle.tcc_bound.specs.declared.known.View.{View}
use Rattle.tcc_bound.specs.declared.known.View.TheVariants.{Unnamed, Live, Spent}
use Rattle.tcc_bound.specs.Knowing.{no_cost, IsAtMostAll, newcomer, with_sight, with_offer, without_offers, both_of}

-- a view agrees with the word and the floor. A spent one counts for nothing
abbrev pub Agrees : ℕ → ℕ → View → Type 0
Agrees word floor Unnamed = ⊥
Agrees word floor (Live known) = IsAtMostAll word known × (known.floor ≡ floor)
Agrees word floor Spent = Unit {0}

-- the word is at most every offer and every sight; all seats have one floor, and the word is not below it
pub record IsKept (words : List ℕ) (views : List View) : Type 0 where
  pub word : ℕ
  pub floor : ℕ
  pub one_word : words ≡ word ∷ []
  pub above : floor ≤ word
  pub agree : (seat : ℕ) (view : View) → get_elem? views seat ≡ some view → Agrees word floor view

-- until the floor is named there is one seat, and nothing was offered
pub record IsNew (words : List ℕ) (views : List View) : Type 0 where
  pub one_word : words ≡ no_cost ∷ []
  pub one_seat : views ≡ Unnamed ∷ []

-- the rule
abbrev pub Holds : List ℕ → List View → Type 0
Holds words views = IsNew words views ⊎ IsKept words views

-- a seat's view, with the slots that it holds, of which a bound has none
abbrev pub Own : Type 0
Own = Me (Unit {0}) View

-- a seat that was handed out, and knows this
abbrev pub own_of : Known → Own
own_of known = (Live known, [])

-- what a seat knows, by its view
abbrev pub known_of : View → Known
known_of Unnamed = newcomer 0
known_of (Live known) = known
known_of Spent = newcomer 0

-- a seat that was handed out, and did not join another
abbrev pub IsLive : Own → Type 0
IsLive me = me ≡ own_of (known_of me.0)

-- this word was reported to the seat
abbrev pub IsTold : Known → ℕ → Own → Type 0
IsTold known word after = (after ≡ own_of (with_sight known word)) × (known.floor ≤ word)

-- a look: the word that was found is reported to the seat, and is at most everything that it knew
abbrev pub Looks : Own → ℕ → Own → Type 0
Looks before found after = IsAtMostAll found (known_of before.0) × IsTold (known_of before.0) found after

-- an offer: it is noted, and the word that it leaves is reported to the seat; that is at most everything that it knew
abbrev pub Offers : ℕ → Own → ℕ → Own → Type 0
Offers cost before found after =
    IsAtMostAll (min found cost) (known_of before.0) × IsTold (with_offer (known_of before.0) cost) (min found cost) after

-- the view of a seat that is split off
abbrev pub split_view : View → View
split_view view = Live (without_offers (known_of view))

-- the view of a seat that takes in another
abbrev pub joint_view : View → View → View
joint_view one other = Live (both_of (known_of one) (known_of other))
