-- Keys of operations, by their numbers in a table of names.
use Rattle.std.proofs.Common.{◌≡◌, ℕ, zero, suc, ◌+◌, ◌≤◌, ◌<◌, ◌++◌, Bool, true, false, cond, List, [], ◌∷◌, length, get_or, take, drop, map, flat_map, refl, ap, sym, subst}
use Rattle.std.proofs.Common.{◌∙◌, arith, length-append, append-nil, append_assoc}
use Rattle.std.specs.Prelude.{All}
use Rattle.std.proofs.lemmas.List.{get_or_append_left, map-append, take_more}
use Rattle.std.proofs.lemmas.List.Elements.{All-append, All-cons, All-drop, All-take, All-nil}
use Rattle.std.proofs.lemmas.Grind.{flat_map-append}
use Rattle.tcc_txn.specs.KeyNumbers.{AreNumbers, name_at, keys_of, keys_in}
use Rattle.tcc_txn.specs.Symbols.{IsNumber, is_symbol, with_symbol}
use Rattle.tcc_txn.specs.Transactions.{Transaction, op_key}
use Rattle.tcc_txn.specs.private.Packing.{AllPacked, AreNamed, ArePacked, Names, numbers_at, numbers_of, op_in, sessions_in, txn_in, txns_in}
use Rattle.tcc_txn.specs.declared.op.Op.TheVariants.{Get, Put}
use Rattle.tcc_txn.specs.declared.packed.PackedOp.{PackedOp}
use Rattle.tcc_txn.specs.declared.packed.Span.{Span}
use Rattle.tcc_txn.specs.declared.packed.PackedTxns.{PackedTxns}

pub none_numbered : (names : Names) → AreNumbers names [] []
none_numbered names = record { within = λ k d inside. absurd (omega (arith, inside)); named = refl }

pub joined : (names : Names) (ns ms : List ℕ) (xs ys : Names) → AreNumbers names ns xs → AreNumbers names ms ys → AreNumbers names (ns ++ ms) (xs ++ ys)
joined names ns ms xs ys here there = record {
  within = All-append (λ (n : ℕ). n < length names) ns ms here.within there.within;
  named = map-append (name_at names) ns ms ∙ (λ i. here.named i ++ there.named i);
}

-- the same after names were appended
numbered_on : (names more : Names) (ns : List ℕ) (xs : Names) → AreNumbers names ns xs → AreNumbers (names ++ more) ns xs
numbered_on names more ns xs here = record {
  within = λ k d inside. omega (arith, here.within k d inside, length-append names more);
  named = same ns here.within ∙ here.named;
}
  where
    same : (ms : List ℕ) → All (λ m. m < length names) ms → map (name_at (names ++ more)) ms ≡ map (name_at names) ms
    same [] within = refl
    same (m ∷ ms) within =
        let here : m < length names = within 0 m (omega arith) in
        let later : All (λ m. m < length names) ms = λ k d inside. within (suc k) d (omega (arith, inside)) in
        λ i. get_or_append_left names more [] m here i ∷ same ms later i

with_on : (names : Names) (x : List ℕ) (ns : List ℕ) (xs : Names) → AreNumbers names ns xs → AreNumbers (with_symbol x names) ns xs
with_on names x ns xs here =
    elim (is_symbol x names) as (λ b. AreNumbers (cond b names (names ++ x ∷ [])) ns xs) [
      | true ↦ here
      | false ↦ numbered_on names (x ∷ []) ns xs here
    ]

-- one more key
pub one_numbered : (names next : Names) (x : List ℕ) (n : ℕ) (ns : List ℕ) (xs : Names) → next ≡ with_symbol x names → IsNumber next x n → AreNumbers names ns xs
    → AreNumbers next (ns ++ n ∷ []) (xs ++ x ∷ [])
one_numbered names next x n ns xs is number here =
    joined next ns (n ∷ []) xs (x ∷ []) (subst (λ (z : Names). AreNumbers z ns xs) (sym is) (with_on names x ns xs here)) (record {
      within = All-cons (λ (m : ℕ). m < length next) n [] number.within (All-nil (λ (m : ℕ). m < length next));
      named = λ i. number.named i ∷ [];
    })

-- the keys after one more item, for items that have keys
pub more_keys : {X : Type 0} (f : X → Names) (xs : List X) (i : ℕ) (d : X) (done : Names) → i < length xs
    → done ++ flat_map f (take (i + 1) xs) ≡ (done ++ flat_map f (take i xs)) ++ f (get_or xs i d)
more_keys {X} f xs i d done inside =
    ap (λ (ys : List X). done ++ flat_map f ys) (take_more xs i d inside)
    ∙ ap (λ (ks : Names). done ++ ks) (flat_map-append f (take i xs) (get_or xs i d ∷ []) ∙ ap (λ (ks : Names). flat_map f (take i xs) ++ ks) (append-nil (f (get_or xs i d))))
    ∙ sym (append_assoc done (flat_map f (take i xs)) (f (get_or xs i d)))

pub more_mapped : {X : Type 0} (f : X → List ℕ) (xs : List X) (i : ℕ) (d : X) (done : Names) → i < length xs
    → (done ++ map f (take i xs)) ++ f (get_or xs i d) ∷ [] ≡ done ++ map f (take (i + 1) xs)
more_mapped {X} f xs i d done inside =
    append_assoc done (map f (take i xs)) (f (get_or xs i d) ∷ [])
    ∙ ap (λ (ks : Names). done ++ ks) (sym (map-append f (take i xs) (get_or xs i d ∷ [])) ∙ ap (map f) (sym (take_more xs i d inside)))

pub keys_mapped : {X Y : Type 0} (f : Y → Names) (g : X → Y) (xs : List X) → flat_map f (map g xs) ≡ flat_map (λ x. f (g x)) xs
keys_mapped f g [] = refl
keys_mapped f g (x ∷ xs) = ap (λ (ks : Names). f (g x) ++ ks) (keys_mapped f g xs)

-- ---- packed

key_named : (names : Names) (op : PackedOp) → op_key (op_in names op) ≡ name_at names op.key
key_named names op =
    elim op.is_put as (λ b. op_key (cond b (Put (name_at names op.key) op.value) (Get (name_at names op.key) op.value)) ≡ name_at names op.key) [
      | true ↦ refl
      | false ↦ refl
    ]

ops_numbered : (names : Names) (ops : List PackedOp) → AreNamed names ops → AreNumbers names (map (λ op. op.key) ops) (map op_key (map (op_in names) ops))
ops_numbered names [] named = none_numbered names
ops_numbered names (op ∷ ops) named =
    let here : op.key < length names = named 0 op (omega arith) in
    let later = ops_numbered names ops (λ k d inside. named (suc k) d (omega (arith, inside))) in
    record {
      within = All-cons (λ (n : ℕ). n < length names) op.key (map (λ (o : PackedOp). o.key) ops) here later.within;
      named = λ i. sym (key_named names op) i ∷ later.named i;
    }

txns_numbered : (names : Names) (ops : List PackedOp) (spans : List Span) → AreNamed names ops
    → AreNumbers names (flat_map (numbers_at ops) spans) (keys_of (map (txn_in names ops) spans))
txns_numbered names ops [] named = none_numbered names
txns_numbered names ops (span ∷ spans) named =
    joined names (numbers_at ops span) (flat_map (numbers_at ops) spans) _ _
    (ops_numbered names (take span.len (drop span.start ops))
    (All-take (λ (o : PackedOp). o.key < length names) span.len (drop span.start ops) (All-drop (λ (o : PackedOp). o.key < length names) span.start ops named)))
    (txns_numbered names ops spans named)

-- the numbers of packed sessions are those of their keys
pub sessions_numbered : (names : Names) (parts : List (List ℕ × PackedTxns)) → AllPacked names parts
    → AreNumbers names (flat_map (λ part. numbers_of part.1) parts) (keys_in (sessions_in names parts))
sessions_numbered names [] packed = none_numbered names
sessions_numbered names (part ∷ parts) packed =
    let here : ArePacked names part.1 = packed 0 part (omega arith) in
    joined names (numbers_of part.1) (flat_map (λ (p : List ℕ × PackedTxns). numbers_of p.1) parts) _ _
    (txns_numbered names part.1.ops.items part.1.spans.items here.named)
    (sessions_numbered names parts (λ k d inside. packed (suc k) d (omega (arith, inside))))
