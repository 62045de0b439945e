use Rattle.std.proofs.Common.{◌≡◌, ◌+◌, ◌-◌, ℕ, slice_index, arith}
use Rattle.tcc_order.proofs.NewsLemmas.{noted_raised, heads_raised}
use Rattle.tcc_order.proofs.news.note_writer.Goals as goal

pub returns-then-session-lt-WIDE-clause-noted : goal.returns-then-session-lt-WIDE-clause-noted
returns-then-session-lt-WIDE-clause-noted c =
    let owners = c.args.block.now.owners.now in
    let session : ℕ = slice_index owners c.args.c - c.args.block.now.from in
    let mine : slice_index owners c.args.c ≡ c.args.block.now.from + session = omega (arith, c.if-owner-block.true) in
    noted_raised c.args.block.now.graph.now owners c.requires.block.owners c.args.block.now.from c.args.c session c.if-c-gt0.true c.requires.below mine c.writes_at-key_indices.result.now
    c.writes_at-key_indices.ensures.value c.writes_at-key_indices.ensures.within c.args.last.now c.raise_keys.new.last c.raise_keys.ensures.raised

pub raise_keys-requires-clause-above : goal.raise_keys-requires-clause-above
raise_keys-requires-clause-above c =
    c.requires.block.floor c.args.c c.if-c-gt0.true (omega (arith, c.requires.below, c.requires.block.owners.long)) c.if-owner-block.true
    (omega (arith, c.if-owner-block.true, c.if-session-lt-WIDE.true))

pub returns-then-session-lt-WIDE-clause-own : goal.returns-then-session-lt-WIDE-clause-own
returns-then-session-lt-WIDE-clause-own c =
    heads_raised c.args.block.now.graph.now c.args.block.now.owners.now c.requires.block.owners c.args.block.now.from c.args.block.now.floor c.args.c (slice_index c.args.block.now.owners.now c.args.c - c.args.block.now.from)
    c.if-c-gt0.true c.requires.below c.writes_at-key_indices.result.now c.writes_at-key_indices.ensures.value c.writes_at-key_indices.ensures.within c.raise_keys.new.heads c.raise_keys.ensures.own
