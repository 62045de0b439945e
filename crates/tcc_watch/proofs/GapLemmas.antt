-- Where a read of a value that nobody has written waits, there is a read fault.
use Rattle.std.proofs.Common.{ℕ, ◌+◌, ◌-◌, ◌≡◌, ◌≢◌, ◌<◌, ◌≤◌, ◌++◌, ◌⊎◌, inl, inr, true, List, [], ◌∷◌, length, length-append, get_or, take, refl, sym, ap, subst, ◌∙◌, arith}
use Rattle.std.specs.List.{Contains, list_any}
use Rattle.std.proofs.Math.ListN.{get_or-append}
use Rattle.std.proofs.Math.Seq.{get_or-append_seam}
use Rattle.std.proofs.lemmas.Bool.{cases_lt, false≢true}
use Rattle.std.proofs.lemmas.List.{get_or-append-add, get_or_default}
use Rattle.tcc_txn.specs.Nested.{list_of}
use Rattle.tcc_txn.specs.Snapshots.{Sessions}
use Rattle.tcc_txn.specs.Transactions.{Transaction}
use Rattle.tcc_txn.specs.declared.op.Op.{Op}
use Rattle.tcc_txn.specs.declared.op.Op.TheVariants.{Get, Put}
use Rattle.tcc_reads.specs.Faults.{puts, read_faults}
use Rattle.tcc_reads.specs.Sites.{Stand}
use Rattle.tcc_reads.proofs.OneSource.{one_source}
use Rattle.tcc_slices.proofs.Freed.{visible_put}
use Rattle.tcc_slices.proofs.Numbered.{number_of, number_stands}
use Rattle.tcc_slices.proofs.Written.{shown}
use Rattle.tcc_watch.specs.Ledger.{IsPlaced, Lists, ReadsExternally}
use Rattle.tcc_watch.specs.declared.arrivals.Arrivals.{Arrivals}
use Rattle.tcc_watch.specs.declared.lines.Line.{Line}
use Rattle.tcc_watch.specs.private.Arrivals.{AreArrivals}
use Rattle.tcc_watch.specs.private.Gaps.{AreGaps, HasGap, IsGap, IsNowhere, is_written_in}
use Rattle.tcc_watch.specs.private.Lines.{HasNoLine, IsLineOf, IsTold}
use Rattle.tcc_watch.specs.private.Values.{ValueMap}
use Rattle.tcc_watch.proofs.LedgerSites.{placed, puts_it, stand_of}
use Rattle.tcc_watch.proofs.LineLemmas.{head_of, line_or_none}
use Rattle.tcc_watch.proofs.Sited.{stand_reads}
use Rattle.tcc_watch.proofs.ValueLemmas.{any_there}

module _ (s : Sessions) (a : Arrivals) (are : AreArrivals s a) where
  abbrev lists : Lists
  lists = are.0

  abbrev lines : List Line
  lines = a.lines.items

  -- what is in the list of a session was delivered, or waits
  delivered_or_waits : (x : List ℕ) (v : ℕ) (giver : Stand) → IsPlaced (list_of s) giver.name giver.place giver.txn → Contains giver.txn.ops (Put x v)
      → IsNowhere lines a.kept.values x v → ((k : ℕ) × IsLineOf lines giver.name k) ⊎ HasNoLine lines giver.name → ⊥
  delivered_or_waits x v giver (j, inside, at, is) put (other, none, coming) (inr free) =
      absurd (omega (arith, inside, ap length (are.1.others giver.name free).0))
  delivered_or_waits x v giver (j, inside, at, is) put (other, none, coming) (inl (k, (low, named))) = by (cases_lt j (length (lists giver.name)))
    where
      line : Line
      line = get_or lines k (head_of lines k low)

      told : IsTold s lists line
      told = are.1.each k (head_of lines k low) low

      all : list_of s giver.name ≡ lists giver.name ++ line.waiting.items
      all = subst (λ (z : List ℕ). list_of s z ≡ lists z ++ line.waiting.items) (named (head_of lines k low)) told.all

      by : (j < length (lists giver.name)) ⊎ (length (lists giver.name) ≤ j) → ⊥
      by (inl early) =
          are.2.values.known giver.name giver.place giver.txn x v
          (j, early, at, sym (get_or-append (lists giver.name) line.waiting.items giver.txn j early) ∙ ap (λ (z : List Transaction). get_or z j giver.txn) (sym all) ∙ is) put none
      by (inr late) =
          let i : ℕ = j - length (lists giver.name) in
          let there : length (lists giver.name) + i ≡ j = omega (arith, late) in
          let in_line : Contains line.waiting.items giver.txn
          = (
            i,
            omega (arith, inside, late, ap length all, length-append (lists giver.name) line.waiting.items),
            sym (get_or-append-add (lists giver.name) line.waiting.items i giver.txn)
                ∙ ap (λ (z : ℕ). get_or (lists giver.name ++ line.waiting.items) z giver.txn) there
                ∙ ap (λ (z : List Transaction). get_or z j giver.txn) (sym all) ∙ is,
          ) in
          let written : is_written_in x v line ≡ true
          = any_there (λ (txn : Transaction). list_any (puts x v) txn.ops) line.waiting.items giver.txn in_line
          (any_there (puts x v) giver.txn.ops (Put x v) put (puts_it x v)) in
          false≢true (sym coming ∙ any_there (is_written_in x v) lines line (k, low, get_or_default lines k line (head_of lines k low) low) written)

  pub gap_faults : AreGaps lines a.kept.values → read_faults s ≢ []
  gap_faults (k, line, low, here, (txn, rest, waits, ended, (x, v, reads, nowhere))) clean =
      let told : IsTold s lists line = subst (λ (z : Line). IsTold s lists z) here (are.1.each k line low) in
      let all : list_of s line.name ≡ lists line.name ++ txn ∷ rest = told.all ∙ ap (λ (z : List Transaction). lists line.name ++ z) waits in
      let at : IsPlaced (list_of s) line.name (length (lists line.name) + 1) txn
      = (
        length (lists line.name),
        omega (arith, ap length all, length-append (lists line.name) (txn ∷ rest)),
        refl,
        ap (λ (z : List Transaction). get_or z (length (lists line.name)) txn) all ∙ get_or-append_seam (lists line.name) txn rest txn,
      ) in
      let u = stand_of s line.name (length (lists line.name) + 1) txn at in
      let m = number_of s u.0 u.1 (ap (λ (z : Transaction). z.committed) u.4 ∙ ended) in
      let read : ReadsExternally u.0.txn.ops x v = subst (λ (z : Transaction). ReadsExternally z.ops x v) (sym u.4) reads in
      let one = one_source s clean m.0 x v (u.0, m.1, stand_reads u.0 x v read) in
      let gives = one.given nowhere.0 in
      let c = number_stands s _ gives.0 gives.1 in
      delivered_or_waits x v gives.0 (placed s gives.0 c.0) (visible_put x gives.0.txn.ops v (shown x v gives.0 gives.2)) nowhere
      (line_or_none lines gives.0.name)

-- one of some operations is a gap
pub one_gap : (all : List Line) (values : ValueMap) (ops : List Op) (i : ℕ) (op : Op) → i < length ops → op ≡ get_or ops i op → IsGap all values (take i ops) op
    → HasGap all values ops
one_gap all values ops i op low at (x, v, is, free, nowhere) =
    (x, v, (i, (low, sym (get_or_default ops i op (Get x v) low) ∙ sym at ∙ is), free), nowhere)

-- the first of a list, and the rest
pub first_and_rest : (txns : List Transaction) (txn : Transaction) → 0 < length txns → txn ≡ get_or txns 0 txn
    → (rest : List Transaction) × (txns ≡ txn ∷ rest)
first_and_rest [] txn some is = absurd (omega (arith, some))
first_and_rest (first ∷ rest) txn some is = (rest, ap (λ (z : Transaction). z ∷ rest) (sym is))
