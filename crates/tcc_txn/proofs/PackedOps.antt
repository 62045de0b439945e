-- Packed operations and transactions, as their table of names and the list of operations grow.
use Rattle.std.proofs.Common.{◌≡◌, ℕ, zero, suc, ◌+◌, ◌≤◌, ◌<◌, cond, List, [], ◌∷◌, ◌++◌, length, map, take, drop, get_or, refl, ap, sym, subst, ◌∙◌, arith}
use Rattle.std.proofs.Common.{Option, None, Some, slice_get, append-nil, append_assoc, length-append, length-drop}
use Rattle.std.specs.Prelude.{All, option_map}
use Rattle.std.specs.List.{insert}
use Rattle.std.specs.Option.{option_map_or}
use Rattle.std.proofs.lemmas.Option.{slice_get-map}
use Rattle.tcc_txn.specs.Snapshots.{listed_at}
use Rattle.std.proofs.lemmas.List.{get_or_append_left, map-append, length-map, take-append-le, drop-append-le, take_all}
use Rattle.std.proofs.lemmas.List.Elements.{All-append, All-cons, All-drop, All-take}
use Rattle.std.proofs.Math.Seq.{drop-append_seam}
use Rattle.tcc_txn.specs.Nested.{IsPrefix}
use Rattle.tcc_txn.specs.Transactions.{Transaction, txn_fault}
use Rattle.tcc_txn.specs.private.Packing.{AllPacked, AreNamed, ArePacked, Names, PacksOps, op_in, sessions_in, txn_in, txns_in}
use Rattle.tcc_txn.specs.declared.op.Op.{Op}
use Rattle.tcc_txn.specs.declared.op.Op.TheVariants.{Get, Put}
use Rattle.tcc_txn.specs.declared.packed.PackedOp.{PackedOp}
use Rattle.tcc_txn.specs.declared.packed.Span.{Span}
use Rattle.tcc_txn.specs.declared.packed.PackedTxns.{PackedTxns}

-- ---- prefixes

pub prefix_itself : {X : Type 0} (xs : List X) → IsPrefix xs xs
prefix_itself xs = ([], sym (append-nil xs))

pub prefix_more : {X : Type 0} (xs ys : List X) → IsPrefix xs (xs ++ ys)
prefix_more xs ys = (ys, refl)

pub prefix_on : {X : Type 0} (xs ys zs : List X) → IsPrefix xs ys → IsPrefix ys zs → IsPrefix xs zs
prefix_on {X} xs ys zs p q = (p.0 ++ q.0, q.1 ∙ ap (λ (z : List X). z ++ q.0) p.1 ∙ append_assoc xs p.0 q.0)

pub prefix_length : {X : Type 0} (xs ys : List X) → IsPrefix xs ys → length xs ≤ length ys
prefix_length xs ys p = omega (arith, ap length p.1, length-append xs p.0)

-- the prefix of a list that begins with another
pub prefix_front : {X : Type 0} (xs ys : List X) → IsPrefix xs ys → take (length xs) ys ≡ xs
prefix_front {X} xs ys p =
    ap (λ (z : List X). take (length xs) z) p.1 ∙ (take-append-le (length xs) xs p.0 (omega arith) ∙ take_all (length xs) xs (omega arith))

-- ---- operations

module _ (names all : Names) (front : IsPrefix names all) where
  pub op_in-on : (op : PackedOp) → op.key < length names → op_in all op ≡ op_in names op
  op_in-on op within =
      let same : get_or all op.key [] ≡ get_or names op.key []
      = ap (λ (z : Names). get_or z op.key []) front.1 ∙ get_or_append_left names front.0 [] op.key within in
      ap (λ (key : List ℕ). cond op.is_put (Put key op.value) (Get key op.value)) same

  pub ops_in-on : (ops : List PackedOp) → AreNamed names ops → map (op_in all) ops ≡ map (op_in names) ops
  ops_in-on [] named = refl
  ops_in-on (op ∷ ops) named =
      let here : op.key < length names = named 0 op (omega arith) in
      let later : AreNamed names ops = λ k d within. named (suc k) d (omega (arith, within)) in
      λ i. op_in-on op here i ∷ ops_in-on ops later i

  pub named-on : (ops : List PackedOp) → AreNamed names ops → AreNamed all ops
  named-on ops named k d within = omega (arith, named k d within, prefix_length names all front)

  pub packs-on : (packed : List PackedOp) (ops : List Op) → PacksOps names packed ops → PacksOps all packed ops
  packs-on packed ops packs = record {
    named = named-on packed packs.named;
    same = ops_in-on packed packs.named ∙ packs.same;
  }

pub packs-none : (names : Names) → PacksOps names [] []
packs-none names = record { named = λ k d within. absurd (omega (arith, within)); same = refl }

named-one : (names : Names) (op : PackedOp) → op.key < length names → AreNamed names (op ∷ [])
named-one names op within = All-cons (λ (o : PackedOp). o.key < length names) op [] within (λ k d inside. absurd (omega (arith, inside)))

pub packs-more : (names : Names) (packed : List PackedOp) (ops : List Op) (op : PackedOp) (o : Op) → PacksOps names packed ops
    → op.key < length names → op_in names op ≡ o → PacksOps names (packed ++ op ∷ []) (ops ++ o ∷ [])
packs-more names packed ops op o packs within is = record {
  named = All-append (λ (p : PackedOp). p.key < length names) packed (op ∷ []) packs.named (named-one names op within);
  same = map-append (op_in names) packed (op ∷ []) ∙ (λ i. packs.same i ++ is i ∷ []);
}

-- ---- transactions

module _ (names all : Names) (front : IsPrefix names all) (ops behind : List PackedOp) (named : AreNamed names ops) (begins : IsPrefix ops behind) where
  span_on : (span : Span) → span.start + span.len ≤ length ops → take span.len (drop span.start behind) ≡ take span.len (drop span.start ops)
  span_on span within =
      ap (λ (z : List PackedOp). take span.len (drop span.start z)) begins.1
      ∙ (ap (λ (z : List PackedOp). take span.len z) (drop-append-le span.start ops begins.0 (omega (arith, within)))
      ∙ take-append-le span.len (drop span.start ops) begins.0 (omega (arith, within, length-drop span.start ops)))

  pub txn_in-on : (span : Span) → span.start + span.len ≤ length ops → txn_in all behind span ≡ txn_in names ops span
  txn_in-on span within =
      let among : AreNamed names (take span.len (drop span.start ops)) =
      All-take (λ (o : PackedOp). o.key < length names) span.len (drop span.start ops)
      (All-drop (λ (o : PackedOp). o.key < length names) span.start ops named) in
      let same : map (op_in all) (take span.len (drop span.start behind)) ≡ map (op_in names) (take span.len (drop span.start ops))
      = ap (map (op_in all)) (span_on span within) ∙ ops_in-on names all front (take span.len (drop span.start ops)) among in
      let made : List Op → Transaction = λ os. record { ops = os; committed = span.committed } in
      ap made same

  pub txns_in-on : (spans : List Span) → All (λ (span : Span). span.start + span.len ≤ length ops) spans
      → map (txn_in all behind) spans ≡ map (txn_in names ops) spans
  txns_in-on [] within = refl
  txns_in-on (span ∷ spans) within =
      let here : span.start + span.len ≤ length ops = within 0 span (omega arith) in
      let later : All (λ (s : Span). s.start + s.len ≤ length ops) spans = λ k d inside. within (suc k) d (omega (arith, inside)) in
      λ i. txn_in-on span here i ∷ txns_in-on spans later i

  pub lawful-on : (spans : List Span) → All (λ (span : Span). span.start + span.len ≤ length ops) spans
      → All (λ (span : Span). txn_fault (txn_in names ops span).ops ≡ None) spans → All (λ (span : Span). txn_fault (txn_in all behind span).ops ≡ None) spans
  lawful-on spans within lawful k d inside =
      subst (λ (t : Transaction). txn_fault t.ops ≡ None) (sym (txn_in-on (get_or spans k d) (within k d inside))) (lawful k d inside)

-- the transactions of a session stay the same when names and operations are appended
module _ (names all : Names) (front : IsPrefix names all) (old new : PackedTxns) (packed : ArePacked names old)
    (begins : IsPrefix old.ops.items new.ops.items) (spans : new.spans.items ≡ old.spans.items) where
  pub txns-kept : txns_in all new ≡ txns_in names old
  txns-kept =
      ap (map (txn_in all new.ops.items)) spans
      ∙ txns_in-on names all front old.ops.items new.ops.items packed.named begins old.spans.items packed.spanned

  -- the appended operations are named too
  pub packed-kept : AreNamed all new.ops.items → ArePacked all new
  packed-kept named = record {
    named = named;
    spanned =
        subst (All (λ (span : Span). span.start + span.len ≤ length new.ops.items)) (sym spans)
        (λ k d inside. omega (arith, packed.spanned k d inside, prefix_length old.ops.items new.ops.items begins));
    lawful =
        subst (All (λ (span : Span). txn_fault (txn_in all new.ops.items span).ops ≡ None)) (sym spans)
        (lawful-on names all front old.ops.items new.ops.items packed.named begins old.spans.items packed.spanned packed.lawful);
  }

-- one more transaction
module _ (names all : Names) (front : IsPrefix names all) (old new : PackedTxns) (packed : ArePacked names old) (more : List PackedOp) (txn : Transaction)
    (behind : new.ops.items ≡ old.ops.items ++ more) (packs : PacksOps all more txn.ops) (span : Span)
    (spans : new.spans.items ≡ old.spans.items ++ span ∷ []) (start : span.start ≡ length old.ops.items) (len : span.len ≡ length txn.ops)
    (committed : span.committed ≡ txn.committed) (faultless : txn_fault txn.ops ≡ None) where
  begins : IsPrefix old.ops.items new.ops.items
  begins = (more, behind)

  many : length more ≡ length txn.ops
  many = sym (length-map more (op_in all)) ∙ ap length packs.same

  last : txn_in all new.ops.items span ≡ txn
  last =
      let there : take span.len (drop span.start new.ops.items) ≡ more
      = ap (λ (z : List PackedOp). take span.len (drop span.start z)) behind
      ∙ (ap (λ (n : ℕ). take span.len (drop n (old.ops.items ++ more))) start
      ∙ (ap (take span.len) (drop-append_seam old.ops.items more) ∙ take_all span.len more (omega (arith, many, len)))) in
      λ i. record { ops = (ap (map (op_in all)) there ∙ packs.same) i; committed = committed i }

  txns-added : txns_in all new ≡ txns_in names old ++ txn ∷ []
  txns-added =
      ap (map (txn_in all new.ops.items)) spans
      ∙ (map-append (txn_in all new.ops.items) old.spans.items (span ∷ [])
      ∙ (λ i. txns_in-on names all front old.ops.items new.ops.items packed.named begins old.spans.items packed.spanned i ++ last i ∷ []))

  packed-added : ArePacked all new
  packed-added = record {
    named =
        subst (AreNamed all) (sym behind)
        (All-append (λ (o : PackedOp). o.key < length all) old.ops.items more (named-on names all front old.ops.items packed.named) packs.named);
    spanned =
        subst (All (λ (s : Span). s.start + s.len ≤ length new.ops.items)) (sym spans)
        (All-append (λ (s : Span). s.start + s.len ≤ length new.ops.items) old.spans.items (span ∷ [])
        (λ k d inside. omega (arith, packed.spanned k d inside, prefix_length old.ops.items new.ops.items begins))
        (All-cons (λ (s : Span). s.start + s.len ≤ length new.ops.items) span []
        (omega (arith, start, len, many, ap length behind, length-append old.ops.items more)) (λ k d inside. absurd (omega (arith, inside)))));
    lawful =
        subst (All (λ (s : Span). txn_fault (txn_in all new.ops.items s).ops ≡ None)) (sym spans)
        (All-append (λ (s : Span). txn_fault (txn_in all new.ops.items s).ops ≡ None) old.spans.items (span ∷ [])
        (lawful-on names all front old.ops.items new.ops.items packed.named begins old.spans.items packed.spanned packed.lawful)
        (All-cons (λ (s : Span). txn_fault (txn_in all new.ops.items s).ops ≡ None) span []
        (subst (λ (t : Transaction). txn_fault t.ops ≡ None) (sym last) faultless) (λ k d inside. absurd (omega (arith, inside)))));
  }

  pub one-added : (txns_in all new ≡ txns_in names old ++ txn ∷ []) × ArePacked all new
  one-added = (txns-added, packed-added)

-- ---- sessions

abbrev pub Part : Type 0
Part = List ℕ × PackedTxns

module _ (names all : Names) (front : IsPrefix names all) where
  pub txns-on : (txns : PackedTxns) → ArePacked names txns → txns_in all txns ≡ txns_in names txns
  txns-on txns packed = txns-kept names all front txns txns packed (prefix_itself txns.ops.items) refl

  pub packed-on : (txns : PackedTxns) → ArePacked names txns → ArePacked all txns
  packed-on txns packed =
      packed-kept names all front txns txns packed (prefix_itself txns.ops.items) refl (named-on names all front txns.ops.items packed.named)

  pub sessions-on : (parts : List Part) → AllPacked names parts → sessions_in all parts ≡ sessions_in names parts
  sessions-on [] packed = refl
  sessions-on (part ∷ parts) packed =
      let here : ArePacked names part.1 = packed 0 part (omega arith) in
      let later : AllPacked names parts = λ k d inside. packed (suc k) d (omega (arith, inside)) in
      λ i. (part.0, txns-on part.1 here i) ∷ sessions-on parts later i

  pub all-on : (parts : List Part) → AllPacked names parts → AllPacked all parts
  all-on parts packed k d inside = packed-on (get_or parts k d).1 (packed k d inside)

pub packed-none : (names : Names) (txns : PackedTxns) → txns.ops.items ≡ [] → txns.spans.items ≡ [] → ArePacked names txns
packed-none names txns ops spans = record {
  named = subst (AreNamed names) (sym ops) (λ k d inside. absurd (omega (arith, inside)));
  spanned = subst (All (λ (s : Span). s.start + s.len ≤ length txns.ops.items)) (sym spans) (λ k d inside. absurd (omega (arith, inside)));
  lawful = subst (All (λ (s : Span). txn_fault (txn_in names txns.ops.items s).ops ≡ None)) (sym spans) (λ k d inside. absurd (omega (arith, inside)));
}

pub all-insert : {X : Type 0} (P : X → Type 0) (xs : List X) (i : ℕ) (x : X) → P x → All P xs → All P (insert xs i x)
all-insert P [] zero x here all = All-cons P x [] here all
all-insert P [] (suc i) x here all = All-cons P x [] here all
all-insert P (y ∷ xs) zero x here all = All-cons P x (y ∷ xs) here all
all-insert P (y ∷ xs) (suc i) x here all =
    All-cons P y (insert xs i x) (all 0 y (omega arith)) (all-insert P xs i x here (λ k d within. all (suc k) d (omega (arith, within))))

-- the transactions of the part at an index
pub listed-there : (names : Names) (parts : List Part) (i : ℕ) (part : Part) → slice_get parts i ≡ Some part
    → listed_at (sessions_in names parts) i ≡ txns_in names part.1
listed-there names parts i part found =
    ap (λ (o : Option (List ℕ × List Transaction)). option_map_or (λ named. named.1) o [])
    (slice_get-map (λ (p : Part). (p.0, txns_in names p.1)) parts i
    ∙ ap (λ (o : Option Part). option_map (λ (p : Part). (p.0, txns_in names p.1)) o) found)

pub listed-past : (names : Names) (parts : List Part) (i : ℕ) → slice_get parts i ≡ None → listed_at (sessions_in names parts) i ≡ []
listed-past names parts i none =
    ap (λ (o : Option (List ℕ × List Transaction)). option_map_or (λ named. named.1) o [])
    (slice_get-map (λ (p : Part). (p.0, txns_in names p.1)) parts i
    ∙ ap (λ (o : Option Part). option_map (λ (p : Part). (p.0, txns_in names p.1)) o) none)
