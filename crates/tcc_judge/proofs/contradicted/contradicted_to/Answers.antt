use Rattle.std.proofs.Common.{◌≡◌, ◌≤◌, ◌<◌, ℕ, ◌⊎◌, inl, inr, List, get_or, length, sym, ap, subst, ◌∙◌, arith}
use Rattle.std.specs.Prelude.{Contains}
use Rattle.std.specs.List.Sorted.{IsNonDecreasing}
use Rattle.std.proofs.lemmas.Bool.{false≢true}
use Rattle.tcc_graph.specs.Keys.{key_at, writers}
use Rattle.tcc_graph.specs.Tables.{row_of}
use Rattle.tcc_graph.proofs.WriterLemmas.{writer_writes}
use Rattle.tcc_clocks.specs.declared.latest.TheConstants.{WIDE}
use Rattle.tcc_least.proofs.Within.{writers_rise}
use Rattle.tcc_judge.specs.private.Contradicted.{IsGreatestOf}
use Rattle.tcc_judge.proofs.ContradictedLemmas.{lane_last, lanes_all, lanes_more, lanes_nobody, lanes_none, lanes_same}
use Rattle.tcc_judge.proofs.contradicted.contradicted_to.Goals.{then-number-clock, else-number-clock, After-last_up_to-writer}
use Rattle.tcc_judge.proofs.contradicted.contradicted_to.Goals as goal

pub is_contradicted-requires-clause-key : goal.is_contradicted-requires-clause-key
is_contradicted-requires-clause-key c = omega (arith, c.requires.wide.next.long, c.requires.key)

pub is_contradicted-requires-clause-reader : goal.is_contradicted-requires-clause-reader
is_contradicted-requires-clause-reader c = omega (arith, c.requires.wide.clocks.long, c.requires.reader)

pub is_contradicted-requires-clause-wide : goal.is_contradicted-requires-clause-wide
is_contradicted-requires-clause-wide c =
    c.requires.wide.next.wide c.args.key_index c.requires.key ∙ sym (c.requires.wide.clocks.wide c.args.reader c.requires.reader)

pub returns-then-not-is_contradicted : goal.returns-then-not-is_contradicted
returns-then-not-is_contradicted c = λ order place a at are pair.
    lanes_nobody c.args.graph.now order c.args.positions.now place c.args.block.now at are c.args.key_index c.requires.key a c.args.reader c.requires.reader pair
    (λ is. false≢true (sym c.if-not-is_contradicted.true ∙ (c.is_contradicted.ensures c.args.graph.now order place at c.requires.key).1 is))

pub get-clock-requires : goal.get-clock-requires
get-clock-requires c = omega (arith, c.requires.wide.clocks.long, c.requires.reader)

pub get-number-items-requires : goal.get-number-items-requires
get-number-items-requires c = omega (arith, c.requires.wide.next.long, c.requires.key)

pub loop-session-init : goal.loop-session-init
loop-session-init c = λ order place a at are pair.
    lanes_none c.args.graph.now order c.args.positions.now place c.args.block.now at are c.args.key_index c.requires.key a c.args.reader c.requires.reader pair

pub last_up_to-writer-requires : goal.last_up_to-writer-requires
last_up_to-writer-requires c =
    let h = c.args.graph.now in
    subst (λ (z : List ℕ). IsNonDecreasing z) (sym c.writers_at-writers.ensures) (writers_rise h (key_at h c.args.key_index))

last : (c : After-last_up_to-writer) → IsGreatestOf
    (λ n. Contains (writers c.args.graph.now (key_at c.args.graph.now c.args.key_index)) n
    × (n ≤ get_or (row_of c.args.block.now.clocks c.args.reader) c.loop-session.session 0)) c.last_up_to-writer.result
last c = rw (c.writers_at-writers.ensures, c.get-clock.ensures) at c.last_up_to-writer.ensures

pub bounds-positions-writer : goal.bounds-positions-writer
bounds-positions-writer c = go (last (goal.at.bounds-positions-writer c).After-last_up_to-writer).attained
  where
    go : (c.last_up_to-writer.result ≡ 0) ⊎ (Contains (writers c.args.graph.now (key_at c.args.graph.now c.args.key_index)) c.last_up_to-writer.result
        × (c.last_up_to-writer.result ≤ get_or (row_of c.args.block.now.clocks c.args.reader) c.loop-session.session 0))
        → c.last_up_to-writer.result < length c.args.positions.now
    go (inl none) = omega (arith, none, c.requires.reader, c.requires.long)
    go (inr is) = omega (arith, (writer_writes c.args.graph.now (key_at c.args.graph.now c.args.key_index) c.last_up_to-writer.result is.0).0, c.requires.long)

pub loop-session-preserved : goal.loop-session-preserved
loop-session-preserved c = λ order place a at are pair.
    let h = c.args.graph.now in
    let x = key_at h c.args.key_index in
    let next = row_of c.args.block.now.next c.args.key_index in
    let clock = row_of c.args.block.now.clocks c.args.reader in
    let positions = c.args.positions.now in
    let k = c.loop-session.session in
    let inv = c.loop-session.invariant order place a at are pair in
    let narrow : k < WIDE
    = omega (arith, c.loop-session-test.true, ap length c.get-number-items.ensures, c.requires.wide.next.wide c.args.key_index c.requires.key) in
    elim c.if-number-clock.branch [
      | then-number-clock w ↦
          let last : IsGreatestOf (λ n. Contains (writers h x) n × (n ≤ get_or clock k 0)) w.last_up_to-writer.result
          = rw (c.writers_at-writers.ensures, c.get-clock.ensures) at w.last_up_to-writer.ensures in
          let low : get_or next k 0 ≤ get_or clock k 0 = rw (c.get-number-items.ensures, c.get-clock.ensures) at w.if-number-clock.true in
          rw (w.last-is, w.max-last.ensures)
          (lanes_more h order positions place c.args.block.now at are c.args.key_index c.requires.key a c.args.reader c.requires.reader pair k
          (get_or positions w.last_up_to-writer.result 0) c.loop-session.last
          (lane_last h order positions place c.args.block.now at are c.args.key_index c.requires.key a c.args.reader c.requires.reader pair k narrow low
          w.last_up_to-writer.result last) inv)
      | else-number-clock w ↦
          let less : get_or clock k 0 < get_or next k 0 = rw (c.get-number-items.ensures, c.get-clock.ensures) at w.if-number-clock.false in
          rw w.last-is
          (lanes_same h order positions place c.args.block.now at are c.args.key_index c.requires.key a c.args.reader c.requires.reader pair k c.loop-session.last
          less inv)
    ]

pub returns : goal.returns
returns c = λ order place a at are pair.
    lanes_all c.args.graph.now order c.args.positions.now place c.args.block.now at are c.args.key_index c.requires.key a c.args.reader c.requires.reader pair
    c.loop-session.session c.loop-session.last
    (omega (arith, c.loop-session-test.false, ap length c.get-number-items.ensures, c.requires.wide.next.wide c.args.key_index c.requires.key))
    (c.loop-session.invariant order place a at are pair)
