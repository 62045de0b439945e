-- Numbers of keys: split, in terms of other numbers, and those of all operations of a snapshot.
use Rattle.std.proofs.Common.{◌≡◌, ℕ, zero, suc, ◌+◌, ◌<◌, ◌≤◌, Bool, true, List, [], ◌∷◌, ◌++◌, length, get_or, take, drop, map, flat_map, refl, ap, sym, subst}
use Rattle.std.proofs.Common.{◌∙◌, arith, length-append}
use Rattle.std.specs.Prelude.{All, unwrap_or}
use Rattle.std.specs.List.{list_any}
use Rattle.std.specs.List.Sorted.{IsStrictlySortedBy}
use Rattle.std.specs.Str.{bytes_eq}
use Rattle.std.proofs.lemmas.Bool.{or_left, or_right}
use Rattle.std.proofs.lemmas.List.{length-map, map-append}
use Rattle.std.proofs.lemmas.List.Elements.{All-append, All-cons, All-nil}
use Rattle.std.proofs.lemmas.Grind.{flat_map-append}
use Rattle.std.specs.FinMap.{entries}
use Rattle.tcc_txn.specs.KeyNumbers.{AreNumbers, name_at, keys_in, keys_of}
use Rattle.tcc_txn.specs.Snapshots.{Sessions}
use Rattle.tcc_txn.specs.Symbols.{IsNumber}
use Rattle.tcc_txn.specs.Transactions.{Transaction, op_key}
use Rattle.tcc_txn.specs.declared.op.Op.{Op}
use Rattle.tcc_txn.specs.declared.op.Op.TheVariants.{Get, Put}
use Rattle.tcc_reads.specs.Sites.{Stand, stands, stands_in, stands_from}
use Rattle.tcc_reads.specs.Sources.{name_cmp}
use Rattle.tcc_reads.specs.declared.located.Place.{Place}
use Rattle.tcc_reads.specs.private.Numbers.{Numbered, next_number, numbered, numbered_at, numbered_from}
use Rattle.tcc_reads.specs.private.KeyIndices.{has_key, key_index, keys_used, AreKnown, AreKnownIn}
use Rattle.tcc_reads.proofs.Indices.{numbered_key}
use Rattle.tcc_reads.proofs.Ties.{itself, read_at}

abbrev Names : Type 0
Names = List (List ℕ)

pub none_numbered : (keys : Names) → AreNumbers keys [] []
none_numbered keys = record { within = λ k d inside. absurd (omega (arith, inside)); named = refl }

pub as_many : (keys : Names) (ns : List ℕ) (xs : Names) → AreNumbers keys ns xs → length ns ≡ length xs
as_many keys ns xs are = sym (length-map ns (name_at keys)) ∙ ap length are.named

behind_first : (keys : Names) (n : ℕ) (ns : List ℕ) (x : List ℕ) (xs : Names) → AreNumbers keys (n ∷ ns) (x ∷ xs) → AreNumbers keys ns xs
behind_first keys n ns x xs are = record {
  within = λ k d inside. are.within (suc k) d (omega (arith, inside));
  named = ap (λ (l : Names). drop 1 l) are.named;
}

first_number : (keys : Names) (n : ℕ) (ns : List ℕ) (x : List ℕ) (xs : Names) → AreNumbers keys (n ∷ ns) (x ∷ xs) → IsNumber keys x n
first_number keys n ns x xs are = record { within = are.within 0 n (omega arith); named = ap (λ (l : Names). get_or l 0 []) are.named }

one_more : (keys : Names) (n : ℕ) (ns : List ℕ) (x : List ℕ) (xs : Names) → IsNumber keys x n → AreNumbers keys ns xs → AreNumbers keys (n ∷ ns) (x ∷ xs)
one_more keys n ns x xs here later = record {
  within = All-cons (λ (m : ℕ). m < length keys) n ns here.within later.within;
  named = λ i. here.named i ∷ later.named i;
}

-- the number of the key of an operation
pub number_of : (keys : Names) (ns : List ℕ) (ops : List Op) → AreNumbers keys ns (map op_key ops) → (i d : ℕ) (op : Op) → i < length ops → op ≡ get_or ops i op
    → IsNumber keys (op_key op) (get_or ns i d)
number_of keys ns [] are i d op inside is = absurd (omega (arith, inside))
number_of keys [] (o ∷ ops) are i d op inside is = absurd (omega (arith, as_many keys [] (map op_key (o ∷ ops)) are))
number_of keys (m ∷ ns) (o ∷ ops) are zero d op inside is =
    subst (λ (z : Op). IsNumber keys (op_key z) m) (sym is) (first_number keys m ns (op_key o) (map op_key ops) are)
number_of keys (m ∷ ns) (o ∷ ops) are (suc i) d op inside is =
    number_of keys ns ops (behind_first keys m ns (op_key o) (map op_key ops) are) i d op (omega (arith, inside)) is

-- the numbers of the keys of the first operations
pub first_numbers : (keys : Names) (ns : List ℕ) (ops : List Op) (n : ℕ) → n < length ops → AreNumbers keys ns (map op_key ops)
    → AreNumbers keys (take n ns) (map op_key (take n ops))
first_numbers keys ns [] n inside are = absurd (omega (arith, inside))
first_numbers keys ns (o ∷ ops) zero inside are = none_numbered keys
first_numbers keys [] (o ∷ ops) (suc n) inside are = absurd (omega (arith, as_many keys [] (map op_key (o ∷ ops)) are))
first_numbers keys (m ∷ ns) (o ∷ ops) (suc n) inside are =
    one_more keys m (take n ns) (op_key o) (map op_key (take n ops)) (first_number keys m ns (op_key o) (map op_key ops) are)
    (first_numbers keys ns ops n (omega (arith, inside)) (behind_first keys m ns (op_key o) (map op_key ops) are))

-- the numbers of the first keys, and of those after them
pub parted : (keys : Names) (ns : List ℕ) (xs ys : Names) → AreNumbers keys ns (xs ++ ys)
    → AreNumbers keys (take (length xs) ns) xs × AreNumbers keys (drop (length xs) ns) ys
parted keys ns [] ys are = (none_numbered keys, are)
parted keys [] (x ∷ xs) ys are = absurd (omega (arith, as_many keys [] ((x ∷ xs) ++ ys) are))
parted keys (n ∷ ns) (x ∷ xs) ys are =
    let later = parted keys ns xs ys (behind_first keys n ns x (xs ++ ys) are) in
    (one_more keys n (take (length xs) ns) x xs (first_number keys n ns x (xs ++ ys) are) later.0, later.1)

-- ---- keys that have numbers are in the list

any_at : (p : List ℕ → Bool) (xs : Names) (i : ℕ) (d : List ℕ) → i < length xs → p (get_or xs i d) ≡ true → list_any p xs ≡ true
any_at p [] i d inside here = absurd (omega (arith, inside))
any_at p (x ∷ xs) zero d inside here = or_left (p x) (list_any p xs) here
any_at p (x ∷ xs) (suc i) d inside here = or_right (p x) (list_any p xs) (any_at p xs i d (omega (arith, inside)) here)

pub there : (keys : Names) (x : List ℕ) (n : ℕ) → IsNumber keys x n → has_key keys x ≡ true
there keys x n number = any_at (bytes_eq x) keys n [] number.within (ap (bytes_eq x) number.named ∙ itself x)

pub known_numbered : (keys : Names) (ns : List ℕ) (ops : List Op) → AreNumbers keys ns (map op_key ops) → AreKnownIn keys ops
known_numbered keys ns [] are = tt
known_numbered keys [] (op ∷ ops) are = absurd (omega (arith, as_many keys [] (map op_key (op ∷ ops)) are))
known_numbered keys (n ∷ ns) (Get key value ∷ ops) are = known_numbered keys ns ops (behind_first keys n ns key (map op_key ops) are)
known_numbered keys (n ∷ ns) (Put key value ∷ ops) are =
    (there keys key n (first_number keys n ns key (map op_key ops) are), known_numbered keys ns ops (behind_first keys n ns key (map op_key ops) are))

-- in sorted names the number is the index
pub index_numbered : (keys : Names) (x : List ℕ) (n : ℕ) → IsStrictlySortedBy name_cmp keys → IsNumber keys x n → key_index keys x ≡ n
index_numbered keys x n sorted number = ap (λ o. unwrap_or o 0) (numbered_key keys x n sorted number)

-- ---- the ranks of names

mapped_at : {X : Type 0} (f : ℕ → X) (ns : List ℕ) (i n : ℕ) (d : X) → i < length ns → get_or (map f ns) i d ≡ f (get_or ns i n)
mapped_at f [] i n d inside = absurd (omega (arith, inside))
mapped_at f (m ∷ ns) zero n d inside = refl
mapped_at f (m ∷ ns) (suc i) n d inside = mapped_at f ns i n d (omega (arith, inside))

pub ranked : (names keys : Names) (ranks ns : List ℕ) (xs : Names) → AreNumbers names ns xs → AreNumbers keys ranks names
    → AreNumbers keys (map (λ n. get_or ranks n 0) ns) xs
ranked names keys ranks ns xs are by = record { within = inside ns are.within; named = same ns are.within ∙ are.named }
  where
    long : length ranks ≡ length names
    long = as_many keys ranks names by

    inside : (ms : List ℕ) → All (λ m. m < length names) ms → All (λ m. m < length keys) (map (λ n. get_or ranks n 0) ms)
    inside [] within = All-nil (λ (m : ℕ). m < length keys)
    inside (m ∷ ms) within =
        let here : m < length names = within 0 m (omega arith) in
        All-cons (λ (k : ℕ). k < length keys) (get_or ranks m 0) (map (λ n. get_or ranks n 0) ms) (by.within m 0 (omega (arith, here, long)))
        (inside ms (λ k d l. within (suc k) d (omega (arith, l))))

    same : (ms : List ℕ) → All (λ m. m < length names) ms → map (name_at keys) (map (λ n. get_or ranks n 0) ms) ≡ map (name_at names) ms
    same [] within = refl
    same (m ∷ ms) within =
        let here : m < length names = within 0 m (omega arith) in
        let one : name_at keys (get_or ranks m 0) ≡ name_at names m
        = sym (mapped_at (name_at keys) ranks m 0 [] (omega (arith, here, long))) ∙ ap (λ (l : Names). get_or l m []) by.named in
        let later = same ms (λ k d l. within (suc k) d (omega (arith, l))) in
        λ i. one i ∷ later i

-- a name of a list is in it
pub listed_there : (names : Names) (i : ℕ) (x : List ℕ) → i < length names → x ≡ get_or names i x → has_key names x ≡ true
listed_there names i x inside is = any_at (bytes_eq x) names i x inside (ap (bytes_eq x) (sym is) ∙ itself x)

-- one more name of a list
pub one_behind : (keys : Names) (ns : List ℕ) (names : Names) (i : ℕ) (x : List ℕ) (n : ℕ) → i < length names → x ≡ get_or names i x → IsNumber keys x n
    → AreNumbers keys ns (take i names) → AreNumbers keys (ns ++ n ∷ []) (take (i + 1) names)
one_behind keys ns names i x n inside is number are =
    subst (AreNumbers keys (ns ++ n ∷ [])) (sym (read_at names i x x inside (sym is)).behind) (record {
      within = All-append (λ (m : ℕ). m < length keys) ns (n ∷ []) are.within
          (All-cons (λ (m : ℕ). m < length keys) n [] number.within (All-nil (λ (m : ℕ). m < length keys)));
      named = map-append (name_at keys) ns (n ∷ []) ∙ (λ j. are.named j ++ number.named j ∷ []);
    })

-- ---- all operations of a snapshot

abbrev keys_at : Stand → Names
keys_at stand = map op_key stand.txn.ops

used_numbered : (number : ℕ) (all : List Stand) → keys_used (numbered_from number all) ≡ flat_map keys_at all
used_numbered number [] = refl
used_numbered number (stand ∷ later) = ap (λ (ks : Names). keys_at stand ++ ks) (used_numbered (next_number number stand) later)

used_in : (session : ℕ) (name : List ℕ) (place : ℕ) (txns : List Transaction) → flat_map keys_at (stands_in session name place txns) ≡ keys_of txns
used_in session name place [] = refl
used_in session name place (txn ∷ later) = ap (λ (ks : Names). map op_key txn.ops ++ ks) (used_in session name (place + 1) later)

used_from : (session : ℕ) (named : List (List ℕ × List Transaction)) → flat_map keys_at (stands_from session named) ≡ keys_in named
used_from session [] = refl
used_from session (one ∷ later) =
    flat_map-append keys_at (stands_in session one.0 1 one.1) (stands_from (session + 1) later)
    ∙ (λ i. used_in session one.0 1 one.1 i ++ used_from (session + 1) later i)

all_used : (named : List (List ℕ × List Transaction)) → keys_used (numbered_from 1 (stands_from 0 named)) ≡ keys_in named
all_used named = used_numbered 1 (stands_from 0 named) ∙ used_from 0 named

-- numbers of the keys of a snapshot are those of all its transactions
pub numbers_used : (s : Sessions) (all : List Numbered) (keys : Names) (ns : List ℕ) → all ≡ numbered_from 1 (stands s) → AreNumbers keys ns (keys_in (entries s))
    → AreNumbers keys ns (keys_used all)
numbers_used s all keys ns is are = subst (AreNumbers keys ns) (sym (ap keys_used is ∙ all_used (entries s))) are

pub all_known : (keys : Names) (ns : List ℕ) (all : List Numbered) → AreNumbers keys ns (keys_used all) → AreKnown keys all
all_known keys ns [] are = tt
all_known keys ns (n ∷ later) are =
    let both = parted keys ns (map op_key n.stand.txn.ops) (keys_used later) are in (
      known_numbered keys (take (length (map op_key n.stand.txn.ops)) ns) n.stand.txn.ops both.0,
      all_known keys (drop (length (map op_key n.stand.txn.ops)) ns) later both.1,
    )

-- the numbers of the operations of a transaction come first among those of it and of later ones
module _ (s : Sessions) (places : List Place) (i : ℕ) (d : Place) (within : i < length places) (keys : Names) (ns : List ℕ)
    (are : AreNumbers keys ns (keys_used (numbered s (drop i places)))) (ops : List Op) (same : ops ≡ (numbered_at s (get_or places i d)).stand.txn.ops) where
  ahead : keys_used (numbered s (drop i places)) ≡ map op_key ops ++ keys_used (numbered s (drop (i + 1) places))
  ahead =
      ap (λ ps. keys_used (numbered s ps)) (read_at places i d (get_or places i d) within refl).ahead
      ∙ ap (λ os. map op_key os ++ keys_used (numbered s (drop (i + 1) places))) (sym same)

  both : AreNumbers keys (take (length (map op_key ops)) ns) (map op_key ops)
      × AreNumbers keys (drop (length (map op_key ops)) ns) (keys_used (numbered s (drop (i + 1) places)))
  both = parted keys ns (map op_key ops) (keys_used (numbered s (drop (i + 1) places))) (subst (AreNumbers keys ns) ahead are)

  pub mine : (front : List ℕ) → front ≡ take (length ops) ns → AreNumbers keys front (map op_key ops)
  mine front at =
      subst (λ (ms : List ℕ). AreNumbers keys ms (map op_key ops)) (ap (λ k. take k ns) (length-map ops op_key) ∙ sym at) both.0

  pub theirs : (back : List ℕ) → back ≡ drop (length ops) ns → AreNumbers keys back (keys_used (numbered s (drop (i + 1) places)))
  theirs back at =
      subst (λ (ms : List ℕ). AreNumbers keys ms (keys_used (numbered s (drop (i + 1) places)))) (ap (λ k. drop k ns) (length-map ops op_key) ∙ sym at) both.1

  pub enough : length ops ≤ length ns
  enough =
      omega (
        arith,
        as_many keys ns (keys_used (numbered s (drop i places))) are,
        ap length ahead,
        length-append (map op_key ops) (keys_used (numbered s (drop (i + 1) places))),
        length-map ops op_key,
      )
