use Rattle.std.proofs.Common.{◌≡◌, ap, sym, ◌∙◌, Some, ℕ, List, cond, Bool, true, false, take, drop, ◌+◌, get_or}
use Rattle.std.specs.Global.{Vec}
use Rattle.tcc_txn.specs.Transactions.{Transaction}
use Rattle.tcc_txn.specs.Snapshots.{first_repeated}
use Rattle.tcc_txn.proofs.Parts.{names_of, has_name, repeated_at}
use Rattle.tcc_txn.proofs.snapshot.repeated_by_pairs.Goals as goal

-- what the part at i adds
at_part : (parts : List (List ℕ × Vec Transaction)) (i : ℕ) (part : List ℕ × Vec Transaction) (b : Bool) → part ≡ get_or parts i part
    → b ≡ has_name (take i parts) part.0
    → cond (has_name (take i parts) (get_or parts i part).0) (Some (get_or parts i part).0)
    (first_repeated (names_of (take (i + 1) parts)) (names_of (drop (i + 1) parts)))
    ≡ cond b (Some part.0) (first_repeated (names_of (take (i + 1) parts)) (names_of (drop (i + 1) parts)))
at_part parts i part b is tested =
    sym (ap (λ p. cond (has_name (take i parts) p.0) (Some p.0) (first_repeated (names_of (take (i + 1) parts)) (names_of (drop (i + 1) parts)))) is)
    ∙ ap (λ t. cond t (Some part.0) (first_repeated (names_of (take (i + 1) parts)) (names_of (drop (i + 1) parts)))) (sym tested)

pub returns-then-is_among : goal.returns-then-is_among
returns-then-is_among c =
    let part = c.index-parts-earlier.result in
    let i = c.loop-earlier.earlier in
    sym (sym c.loop-earlier.invariant
    ∙ repeated_at c.args.parts.now i part c.loop-earlier-test.true
    ∙ at_part c.args.parts.now i part true c.index-parts-earlier.is (sym c.if-is_among.true ∙ c.is_among.ensures))

pub loop-earlier-preserved : goal.loop-earlier-preserved
loop-earlier-preserved c =
    let part = c.index-parts-earlier.result in
    let i = c.loop-earlier.earlier in
    sym (repeated_at c.args.parts.now i part c.loop-earlier-test.true
    ∙ at_part c.args.parts.now i part false c.index-parts-earlier.is (sym c.if-is_among.false ∙ c.is_among.ensures))
    ∙ c.loop-earlier.invariant
