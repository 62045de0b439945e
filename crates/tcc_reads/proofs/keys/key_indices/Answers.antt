use Rattle.std.proofs.Common.{◌≡◌, ℕ, List, get_or, map, ap, sym, subst, ◌∙◌}
use Rattle.std.specs.FinMap.{entries}
use Rattle.tcc_txn.specs.KeyNumbers.{AreNumbers, keys_in}
use Rattle.tcc_reads.proofs.KeyNumbers.{ranked}
use Rattle.tcc_reads.proofs.keys.key_indices.Goals as goal

pub returns : goal.returns
returns g c =
    let names : List (List ℕ) = c.in_ok-names.field-0.names.items in
    let numbers : List ℕ = c.in_ok-names.field-0.numbers.items in
    let ranks : List ℕ = c.in_ok-ranks.ranks.items in
    let all : List (List ℕ) = keys_in (entries c.args.snapshot.now) in
    let by : AreNumbers c.in_ok-keys.keys ranks names =
    subst (λ (xs : List (List ℕ)). AreNumbers c.in_ok-keys.keys ranks xs) c.deref-2.ensures.value c.in_ok-ranks.ensures in
    let found : c.in_ok-indices.indices.items ≡ map (λ n. get_or ranks n 0) numbers
    = c.in_ok-indices.ensures
    ∙ ap (λ (rs : List ℕ). map (λ n. get_or rs n 0) c.deref-4.result.now) c.deref-3.ensures.value
    ∙ ap (map (λ n. get_or ranks n 0)) c.deref-4.ensures.value in
    subst (λ (is : List ℕ). AreNumbers c.in_ok-keys.keys is all) (sym found) (ranked names c.in_ok-keys.keys ranks numbers all c.in_ok-names.ensures by)
