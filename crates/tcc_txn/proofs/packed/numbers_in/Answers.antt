use Rattle.std.proofs.Common.{◌≡◌, ◌≤◌, ◌+◌, ◌++◌, ℕ, List, flat_map, length, ap, sym, subst, ◌∙◌, append-nil}
use Rattle.std.specs.Prelude.{All}
use Rattle.std.proofs.lemmas.List.{drop_all}
use Rattle.tcc_txn.specs.KeyNumbers.{AreNumbers, keys_in}
use Rattle.tcc_txn.specs.private.Packing.{numbers_of, sessions_in}
use Rattle.tcc_txn.specs.declared.packed.Span.{Span}
use Rattle.tcc_txn.proofs.PackedOps.{Part}
use Rattle.tcc_txn.proofs.NumberedKeys.{sessions_numbered}
use Rattle.tcc_txn.proofs.packed.numbers_in.Goals as goal

abbrev IsSpanned : Part → Type 0
IsSpanned part = All (λ (span : Span). span.start + span.len ≤ length part.1.ops.items) part.1.spans.items

pub push_numbers_of-requires : goal.push_numbers_of-requires
push_numbers_of-requires c =
    subst IsSpanned (sym c.part-item.is) (c.requires c.loop-part.part-index c.part-item.result c.loop-part-test.true).spanned

pub returns : goal.returns
returns c =
    let parts : List Part = c.args.sessions.now in
    let numbers : List ℕ = c.loop-part.numbers.items in
    let past = drop_all c.loop-part.part-index parts c.loop-part-test.false in
    let whole : numbers ≡ flat_map (λ (part : Part). numbers_of part.1) parts
    = sym (append-nil numbers) ∙ ap (λ (ps : List Part). numbers ++ flat_map (λ (part : Part). numbers_of part.1) ps) (sym past) ∙ c.loop-part.invariant in
    subst (λ (ns : List ℕ). AreNumbers c.args.keys.now ns (keys_in (sessions_in c.args.keys.now parts))) (sym whole)
    (sessions_numbered c.args.keys.now parts c.requires)
