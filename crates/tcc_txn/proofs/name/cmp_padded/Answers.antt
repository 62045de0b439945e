use Rattle.std.proofs.Common.{◌≡◌, ap, sym, ◌∙◌, rules, Equal}
use Rattle.std.specs.Ordering.{ordering_then}
use Rattle.tcc_txn.proofs.WordOrder.{word_cmp, cmp-four, then-called, same-words, cmp-differing}
use Rattle.tcc_txn.proofs.name.cmp_padded.Goals as goal

pub returns-then-word : goal.returns-then-word
returns-then-word c =
    c.cmp_word.ensures
    ∙ sym (cmp-differing c.args.one.now c.args.other.now c.told-one c.told-other c.fits-one c.fits-other
    (λ same. c.if-word.true (c.word.ensures ∙ same ∙ sym c.word-2.ensures)))

pub returns : goal.returns
returns c =
    let one = c.args.one.now in
    let other = c.args.other.now in
    let first : word_cmp 0 one other ≡ Equal
    = same-words one other c.told-one c.told-other c.fits-one c.fits-other
    (sym c.word.ensures ∙ c.if-word.false ∙ c.word-2.ensures) in
    let third : c.then_with.result ≡ ordering_then (word_cmp 8 one other) (word_cmp 16 one other)
    = then-called c.cmp_word-2.result (word_cmp 16 one other) c.then_with.result c.then_with.ensures (λ called. search rules)
    ∙ ap (λ order. ordering_then order (word_cmp 16 one other)) c.cmp_word-2.ensures in
    let fourth = then-called c.then_with.result (word_cmp 24 one other) c.then_with-2.result c.then_with-2.ensures (λ called. search rules) in
    fourth
    ∙ ap (λ order. ordering_then order (word_cmp 24 one other)) third
    ∙ ap (λ order. ordering_then (ordering_then (ordering_then order (word_cmp 8 one other)) (word_cmp 16 one other)) (word_cmp 24 one other)) (sym first)
    ∙ sym (cmp-four one other c.told-one c.told-other)
