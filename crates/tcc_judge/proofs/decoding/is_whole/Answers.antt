use Rattle.std.proofs.Common.{rules, ◌≡◌, ◌≢◌, ◌<◌, ◌≤◌, ◌+◌, ◌⊎◌, inl, inr, ℕ, length, get_or, sym, ap, ◌∙◌, arith}
use Rattle.std.proofs.lemmas.Bool.{cases_eq, false≢true}
use Rattle.std.proofs.lemmas.List.{get_or_read}
use Rattle.tcc_judge.proofs.Told.{whole_from, not_whole}
use Rattle.tcc_judge.proofs.decoding.is_whole.Goals as goal

pub returns-then-index-next : goal.returns-then-index-next
returns-then-index-next c = λ h runs w.
    let firsts = c.args.decoder.now.firsts.items in
    let next = c.args.decoder.now.next.items in
    let i = c.loop-session.session in
    let inside : i < length next = omega (arith, c.loop-session-test.true, ap length c.deref-next-items.ensures.value) in
    let read : c.index.result.now ≡ get_or firsts (i + 1) 0 = get_or_read firsts (i + 1) c.index.result.now (omega (arith, inside, c.requires)) c.index.ensures 0 in
    let apart : get_or firsts (i + 1) 0 ≢ get_or next i 0
    = λ same. c.if-index-next.true (read ∙ (same ∙ sym (ap (λ xs. get_or xs i 0) c.deref-next-items.ensures.value))) in
    ((λ t. absurd (false≢true t)), λ whole. absurd (not_whole h runs firsts next c.args.decoder.now.order.items i inside apart w whole))

pub loop-session-preserved : goal.loop-session-preserved
loop-session-preserved c =
    let firsts = c.args.decoder.now.firsts.items in
    let next = c.args.decoder.now.next.items in
    let i = c.loop-session.session in
    let inside : i < length next = omega (arith, c.loop-session-test.true, ap length c.deref-next-items.ensures.value) in
    let read : c.index.result.now ≡ get_or firsts (i + 1) 0 = get_or_read firsts (i + 1) c.index.result.now (omega (arith, inside, c.requires)) c.index.ensures 0 in
    let here : get_or firsts (i + 1) 0 ≡ get_or next i 0
    = sym read ∙ (c.if-index-next.false ∙ ap (λ xs. get_or xs i 0) c.deref-next-items.ensures.value) in
    λ s l m. go s l m here (cases_eq s i)
  where
    go : (s : ℕ) → s < c.loop-session.session + 1 → s < length c.args.decoder.now.next.items
        → get_or c.args.decoder.now.firsts.items (c.loop-session.session + 1) 0 ≡ get_or c.args.decoder.now.next.items c.loop-session.session 0
        → (s ≡ c.loop-session.session) ⊎ (s ≢ c.loop-session.session)
        → get_or c.args.decoder.now.firsts.items (s + 1) 0 ≡ get_or c.args.decoder.now.next.items s 0
    go s l m here (inl same) = rw same here
    go s l m here (inr apart) = c.loop-session.invariant s (omega (arith, l, apart)) m

pub returns : goal.returns
returns c = λ h runs w.
    let next = c.args.decoder.now.next.items in
    let all : length next ≤ c.loop-session.session = omega (arith, c.loop-session-test.false, ap length c.deref-next-items.ensures.value) in
    ((λ _. whole_from h runs c.args.decoder.now.firsts.items next c.args.decoder.now.order.items c.loop-session.session all w c.loop-session.invariant), search rules)
