use Rattle.std.proofs.Common.{◌<◌, ℕ, length, slice_index, refl, arith}
use Rattle.std.proofs.lemmas.Bool.{false≢true}
use Rattle.std.proofs.lemmas.List.Elements.{All-contains}
use Rattle.tcc_survey.specs.private.Spells.{IsSeenAfter}
use Rattle.tcc_survey.proofs.AmongLemmas.{none_passed}
use Rattle.tcc_survey.proofs.BesideLemmas.{there_at}
use Rattle.tcc_survey.proofs.CalledLemmas.{none_listed}
use Rattle.tcc_survey.proofs.session_guarantees.Knowledge.has_seen_any.Goals as goal

pub returns-then-next-among : goal.returns-then-next-among
returns-then-next-among c = (
  (λ t. absurd (false≢true t)),
  λ w. absurd (none_listed (IsSeenAfter c.args.self.now.graph.now c.args.self.now.reader) c.args.among.now c.loop-session.next
      (omega (arith, c.if-next-among.true)) c.loop-session.invariant.unseen w.0 w.1 w.2),
)

pub loop-session-preserved : goal.loop-session-preserved
loop-session-preserved c =
    let k = c.args.self.now in
    let among = c.args.among.now in
    let n : ℕ = c.loop-session.next in
    let past = c.next_of_other-next.ensures in
    let inside : n < length among = omega (arith, c.loop-session.invariant.within, c.if-next-among.false) in
    let some : 0 < slice_index among n = All-contains (λ f. 0 < f) among (slice_index among n) c.requires.some (there_at among (slice_index among n) n inside refl) in
    record {
      far = omega (arith, c.loop-session.invariant.far, past.behind);
      within = past.within;
      unseen = none_passed k.graph.now c.requires.knowledge.numbered k.reader among n c.next_of_other-next.result some c.loop-session.invariant.unseen
          (λ w. false≢true (c.if-has_seen.ensures.1 w)) past.passed;
    }

pub returns : goal.returns
returns c = (
  (λ t. absurd (false≢true t)),
  λ w. absurd (none_listed (IsSeenAfter c.args.self.now.graph.now c.args.self.now.reader) c.args.among.now c.loop-session.next
      (omega (arith, c.loop-session.invariant.far, c.loop-session-test.false)) c.loop-session.invariant.unseen w.0 w.1 w.2),
)
