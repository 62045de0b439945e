-- The index of a number in an order.
use Rattle.std.proofs.Common.{◌≡◌, ◌≢◌, ◌<◌, ◌≤◌, ℕ, ◌⊎◌, inl, inr, List, length, get_or, arith, sym, ◌∙◌}
use Rattle.std.proofs.lemmas.Bool.{cases_order}
use Rattle.std.proofs.lemmas.List.{get_or_default}
use Rattle.tcc_graph.specs.Orders.{Before, IsNumbering}

-- a number is at one index only
pub one_index : {n : ℕ} {order : List ℕ} → IsNumbering n order → (i j : ℕ) → i < length order → j < length order → get_or order i 0 ≡ get_or order j 0 → i ≡ j
one_index {n} {order} h i j l m e = go (cases_order i j)
  where
    go : (i ≡ j) ⊎ ((i < j) ⊎ (j < i)) → i ≡ j
    go (inl same) = same
    go (inr (inl lower)) = absurd (h.once i j lower m e)
    go (inr (inr higher)) = absurd (h.once j i higher l (sym e))

pub has_index : {n : ℕ} {order : List ℕ} → IsNumbering n order → (a : ℕ) → a < n → (i : ℕ) × (i < length order) × (get_or order i 0 ≡ a)
has_index {n} {order} h a below = let w = h.each a below in (w.0, w.1, get_or_default order w.0 0 a w.1 ∙ w.2)

pub below_in : {n : ℕ} {order : List ℕ} → IsNumbering n order → (i : ℕ) → i < length order → get_or order i 0 < n
below_in h i l = h.below i 0 l

pub not_the_other_way : {n : ℕ} {order : List ℕ} → IsNumbering n order → (i j a b : ℕ) → i < length order → j < length order → get_or order i 0 ≡ a
    → get_or order j 0 ≡ b → i ≤ j → Before order b a → ⊥
not_the_other_way h i j a b l m at_a at_b low (p, q, less, within, here_b, here_a) =
    let one = one_index h i q l within (at_a ∙ sym here_a) in
    let two = one_index h j p m (omega arith) (at_b ∙ sym here_b) in
    absurd (omega arith)

-- of two numbers one is before the other
pub order_of_two : {n : ℕ} {order : List ℕ} → IsNumbering n order → (b a : ℕ) → b < n → a < n → b ≢ a → ((Before order b a → ⊥) → ⊥) → Before order b a
order_of_two {n} {order} h b a b_below a_below differ at_last = go (has_index h b b_below) (has_index h a a_below)
  where
    by : (i j : ℕ) → i < length order → j < length order → get_or order i 0 ≡ b → get_or order j 0 ≡ a → (i ≡ j) ⊎ ((i < j) ⊎ (j < i)) → Before order b a
    by i j l m at_b at_a (inl same) = absurd (at_last (not_the_other_way h j i a b m l at_a at_b (omega arith)))
    by i j l m at_b at_a (inr (inl low)) = (i, j, low, m, at_b, at_a)
    by i j l m at_b at_a (inr (inr high)) = absurd (at_last (not_the_other_way h j i a b m l at_a at_b (omega arith)))

    go : (i : ℕ) × (i < length order) × (get_or order i 0 ≡ b) → (j : ℕ) × (j < length order) × (get_or order j 0 ≡ a) → Before order b a
    go (i, l, at_b) (j, m, at_a) = by i j l m at_b at_a (cases_order i j)
