use Rattle.std.proofs.Common.{rules, ◌≡◌, ◌≤◌, ◌+◌, ◌*◌, length, sym, ap, ◌∙◌, arith, take_at}
use Rattle.tcc_clocks.specs.declared.latest.TheConstants.{WIDE}
use Rattle.tcc_clocks.proofs.NeededLemmas.{blocks_hold, owners_room}
use Rattle.tcc_clocks.proofs.needed.mark_blocks.Goals as goal

pub mark_keys-requires-clause-room : goal.mark_keys-requires-clause-room
mark_keys-requires-clause-room c =
    let long : length c.deref_mut.result.now ≡ c.div_ceil-blocks.result + 1 = search rules in
    let cover : length c.sessions.result.now ≤ c.div_ceil-blocks.result * WIDE
    = blocks_hold (length c.sessions.result.now) c.div_ceil-blocks.result (omega (arith, c.div_ceil-blocks.ensures)) in
    owners_room c.args.graph.now c.args.owners.now c.requires.owners (length c.sessions.result.now) c.sessions.ensures.owners (length c.deref_mut.result.now)
    (omega (arith, long), omega (arith, long, cover))

pub returns-clause-marked : goal.returns-clause-marked
returns-clause-marked c =
    let new = c.mark_keys.new.needed in
    let same : length c.mark_keys.new.needed ≡ length c.in_ok-needed.needed.items
    = c.in_ok-mark_keys.ensures.same ∙ ap length c.deref_mut.ensures.value in
    let long : c.in_ok-needed.needed.len ≡ length c.in_ok-needed.needed.items = search rules in
    rw (take_at new _ c.in_ok-needed.needed.len (same ∙ sym long)) c.in_ok-mark_keys.ensures.marked
