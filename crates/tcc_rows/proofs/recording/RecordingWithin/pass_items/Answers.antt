use Rattle.std.proofs.Common.{Ok, inr, refl, sym, ap, subst, ◌∙◌, arith}
use Rattle.tcc_rows.specs.Ahead.{TakesAnswer, fault_met, stage_after}
use Rattle.tcc_txn.specs.Nested.{IsNested}
use Rattle.tcc_rows.specs.Reached.{IsWithin}
use Rattle.tcc_rows.specs.private.Waiting.{PassesItems}
use Rattle.tcc_rows.specs.declared.rows.Item.TheVariants as item
use Rattle.tcc_txn.proofs.Nesting.{nested_itself, nested_on, nested_transaction}
use Rattle.tcc_rows.proofs.RecordSteps.{failure-of-none}
use Rattle.tcc_rows.proofs.RecordingSteps.{at-checkpoint, comes_to_end, comes_to_seal, err-of, fails-behind, follows-taken, follows-unknown, gives_up, goes_on, has-room, if-err-of}
use Rattle.tcc_rows.proofs.RecordingSteps.{loses_one, met-itself, met-stopped, never-stopped, not-begun, not-end, not-end-unknown, not-ok}
use Rattle.tcc_rows.proofs.RecordingSteps.{stops, waits, within-stopped}
use Rattle.tcc_rows.proofs.recording.RecordingWithin.pass_items.Goals.{in-Finished+in_ok-take-in-Finished, in-Unknown+in_ok-wait-in-Unknown}
use Rattle.tcc_rows.proofs.recording.RecordingWithin.pass_items.Goals as goal

pub items-init : goal.items-init
items-init g c = record {
  way = λ taken ahead recording. not-begun g.B.Bounds.limits g.R.Read.remaining taken ahead c.args.self.now recording;
  continues = nested_itself c.args.self.now.snapshot;
  within = λ all within. within;
  stopped = met-itself g.B.Bounds.limits (fault_met c.args.self.now.rows);
  going = λ none. none;
  ended = λ ended. ended;
  reading = λ some. absurd (omega arith);
}

pub returns-in_err-session-clause-passed : goal.returns-in_err-session-clause-passed
returns-in_err-session-clause-passed g c taken ahead recording =
    let way = c.items.invariant.way taken ahead recording in
    subst (λ r. PassesItems g.B.Bounds.limits g.R.Read.remaining taken ahead r (record c.items.self { rows = c.next.new.self }))
    (sym (err-of g.B.Bounds.limits c.from_residual.result c.in_err-session.field-0.0 c.from_residual.ensures.1))
    (stops g.B.Bounds.limits g.R.Read.remaining taken ahead c.items.self (record c.items.self { rows = c.next.new.self }) way c.in_err-session.field-0.0
    (c.in_err-session.ensures.answers g.B.Bounds.limits way.3.given way.3.answers) refl
    (met-stopped c.next.new.self.stage c.in_err-session.field-0.0 c.in_err-session.ensures.stops) way.3.followed)

pub returns-in_err-session-clause-failed : goal.returns-in_err-session-clause-failed
returns-in_err-session-clause-failed g c =
    if-err-of g.B.Bounds.limits _ c.from_residual.result c.in_err-session.field-0.0 c.from_residual.ensures.1
    (λ fresh read all taken ahead answers within recording.
    let way = c.items.invariant.way taken ahead recording in
    let checkpoint = at-checkpoint c.args.self.now.rows.stage recording.checkpoint fresh
    (λ ended. not-ok c.in_err-session.field-0.0 (c.in_err-session.ensures.stays_ended (c.items.invariant.ended ended))) in
    fails-behind g.B.Bounds.limits g.R.Read.remaining taken ahead c.items.self c.items.self way c.in_err-session.field-0.0.row all checkpoint answers
    (λ faults. c.in_err-session.ensures.failed_sealed (c.items.invariant.going fresh) read g.B.Bounds.limits all way.3.given faults
    (c.items.invariant.within all within) way.3.answers))

pub returns-in_err-session-clause-faulty : goal.returns-in_err-session-clause-faulty
returns-in_err-session-clause-faulty g c =
    if-err-of g.B.Bounds.limits _ c.from_residual.result c.in_err-session.field-0.0 c.from_residual.ensures.1
    (λ fresh is all taken ahead within recording. c.in_err-session.ensures.faulty (c.items.invariant.going fresh) is all (c.items.invariant.within all within))

pub returns-in_err-take-in-Finished-clause-faulty : goal.returns-in_err-take-in-Finished-clause-faulty
returns-in_err-take-in-Finished-clause-faulty g c =
    let fault = c.in_err-take-in-Finished.field-0.0 in
    if-err-of g.B.Bounds.limits _ c.from_residual-in_err-take-in-Finished.result fault c.from_residual-in_err-take-in-Finished.ensures.1
    (λ fresh is all taken ahead within recording.
    let way = c.items.invariant.way taken ahead recording in
    let answer =
    subst (λ given. TakesAnswer g.B.Bounds.limits g.R.Read.remaining way.3.given (Ok given) c.next.new.self) c.in-Finished.is
    (c.in_ok-session.ensures.answers g.B.Bounds.limits way.3.given way.3.answers) in
    let room = has-room g.B.Bounds.limits g.R.Read.remaining taken ahead c.items.self c.items.self way c.in-Finished.session c.in-Finished.txn c.next.new.self answer in
    absurd (failure-of-none fault.kind (inr (c.in_err-take-in-Finished.ensures.memory room)) is))

pub returns-in_err-take-in-Finished-clause-passed : goal.returns-in_err-take-in-Finished-clause-passed
returns-in_err-take-in-Finished-clause-passed g c taken ahead recording =
    let way = c.items.invariant.way taken ahead recording in
    let answer =
    subst (λ given. TakesAnswer g.B.Bounds.limits g.R.Read.remaining way.3.given (Ok given) c.next.new.self) c.in-Finished.is
    (c.in_ok-session.ensures.answers g.B.Bounds.limits way.3.given way.3.answers) in
    let room = has-room g.B.Bounds.limits g.R.Read.remaining taken ahead c.items.self c.items.self way c.in-Finished.session c.in-Finished.txn c.next.new.self answer in
    let fault = c.in_err-take-in-Finished.field-0.0 in
    subst (λ r. PassesItems g.B.Bounds.limits g.R.Read.remaining taken ahead r c.take.new.self)
    (sym (err-of g.B.Bounds.limits c.from_residual-in_err-take-in-Finished.result fault c.from_residual-in_err-take-in-Finished.ensures.1))
    (loses_one g.B.Bounds.limits g.R.Read.remaining taken ahead c.items.self c.take.new.self way c.in-Finished.session c.in-Finished.txn c.next.new.self fault answer
    (c.in_err-take-in-Finished.ensures.memory room) (ap (λ rows. rows.stage) c.in_err-take-in-Finished.ensures.stopped.0)
    c.in_err-take-in-Finished.ensures.kept (follows-taken c.items.self c.take.new.self c.take.ensures.pending c.take.ensures.followed way.3.followed))

pub returns-in_err-take-in-Finished-clause-within : goal.returns-in_err-take-in-Finished-clause-within
returns-in_err-take-in-Finished-clause-within g c all within =
    within-stopped g.B.Bounds.limits g.R.Read.remaining c.next.new.self c.take.new.self.rows c.in_err-take-in-Finished.field-0.0 all c.in_err-take-in-Finished.ensures.stopped.0
    (c.in_ok-session.ensures.within all (c.items.invariant.within all within))

pub returns-in_err-take-in-Finished-clause-continues : goal.returns-in_err-take-in-Finished-clause-continues
returns-in_err-take-in-Finished-clause-continues g c =
    subst (IsNested c.args.self.now.snapshot) (sym c.in_err-take-in-Finished.ensures.kept) c.items.invariant.continues

pub returns-in_err-wait-in-Unknown-clause-passed : goal.returns-in_err-wait-in-Unknown-clause-passed
returns-in_err-wait-in-Unknown-clause-passed g c taken ahead recording =
    let way = c.items.invariant.way taken ahead recording in
    let fault = c.in_err-wait-in-Unknown.field-0.0 in
    subst (λ r. PassesItems g.B.Bounds.limits g.R.Read.remaining taken ahead r c.wait.new.self)
    (sym (err-of g.B.Bounds.limits c.from_residual-in_err-wait-in-Unknown.result fault c.from_residual-in_err-wait-in-Unknown.ensures.1))
    (gives_up g.B.Bounds.limits g.R.Read.remaining taken ahead c.items.self c.wait.new.self way fault
    (ap (λ fault. fault.kind) c.in_err-wait-in-Unknown.ensures.stopped.1) (ap (λ rows. rows.stage) c.in_err-wait-in-Unknown.ensures.stopped.0)
    c.in_err-wait-in-Unknown.ensures.kept (follows-unknown c.wait.new.self c.wait.ensures.unknown))

pub returns-in_err-wait-in-Unknown-clause-within : goal.returns-in_err-wait-in-Unknown-clause-within
returns-in_err-wait-in-Unknown-clause-within g c all within =
    within-stopped g.B.Bounds.limits g.R.Read.remaining c.next.new.self c.wait.new.self.rows c.in_err-wait-in-Unknown.field-0.0 all c.in_err-wait-in-Unknown.ensures.stopped.0
    (c.in_ok-session.ensures.within all (c.items.invariant.within all within))

pub returns-in_err-wait-in-Unknown-clause-continues : goal.returns-in_err-wait-in-Unknown-clause-continues
returns-in_err-wait-in-Unknown-clause-continues g c =
    subst (IsNested c.args.self.now.snapshot) (sym c.in_err-wait-in-Unknown.ensures.kept) c.items.invariant.continues

pub returns-in-Seal-clause-passed : goal.returns-in-Seal-clause-passed
returns-in-Seal-clause-passed g c taken ahead recording =
    let way = c.items.invariant.way taken ahead recording in
    comes_to_seal g.B.Bounds.limits g.R.Read.remaining taken ahead c.items.self (record c.items.self { rows = c.next.new.self }) way
    (subst (λ given. TakesAnswer g.B.Bounds.limits g.R.Read.remaining way.3.given (Ok given) c.next.new.self) c.in-Seal.is
    (c.in_ok-session.ensures.answers g.B.Bounds.limits way.3.given way.3.answers)) refl refl way.3.followed

pub returns-in-End-clause-passed : goal.returns-in-End-clause-passed
returns-in-End-clause-passed g c taken ahead recording =
    let way = c.items.invariant.way taken ahead recording in
    comes_to_end g.B.Bounds.limits g.R.Read.remaining taken ahead c.items.self (record c.items.self { rows = c.next.new.self }) way
    (subst (λ given. TakesAnswer g.B.Bounds.limits g.R.Read.remaining way.3.given (Ok given) c.next.new.self) c.in-End.is
    (c.in_ok-session.ensures.answers g.B.Bounds.limits way.3.given way.3.answers)) refl refl way.3.followed

pub returns-clause-passed : goal.returns-clause-passed
returns-clause-passed g c taken ahead recording =
    let way = c.items.invariant.way taken ahead recording in
    gives_up g.B.Bounds.limits g.R.Read.remaining taken ahead c.items.self (record c.items.self { rows = c.give_up.new.self }) way c.give_up.result
    (ap (λ fault. fault.kind) c.give_up.ensures.fault) (ap (λ rows. rows.stage) c.give_up.ensures.stopped) refl way.3.followed

pub items-preserved : goal.items-preserved
items-preserved g c = elim c.match-branch-2.branch [
  | in-Finished+in_ok-take-in-Finished w ↦ rw w.self-is (record {
    way = λ taken ahead recording.
        let way = c.items.invariant.way taken ahead recording in
        let answer =
        subst (λ given. TakesAnswer g.B.Bounds.limits g.R.Read.remaining way.3.given (Ok given) c.next.new.self) w.in-Finished.is
        (c.in_ok-session.ensures.answers g.B.Bounds.limits way.3.given way.3.answers) in
        goes_on g.B.Bounds.limits g.R.Read.remaining taken ahead c.items.self w.take.new.self way w.in-Finished.session w.in-Finished.txn
        (subst (λ rows. TakesAnswer g.B.Bounds.limits g.R.Read.remaining way.3.given (Ok (item.Finished w.in-Finished.session w.in-Finished.txn)) rows)
        (sym w.in_ok-take-in-Finished.ensures.taken.1) answer)
        w.in_ok-take-in-Finished.ensures.taken.0 (ap (λ pending. pending.items) w.in_ok-take-in-Finished.ensures.pending)
        (follows-taken c.items.self w.take.new.self w.take.ensures.pending w.take.ensures.followed way.3.followed);
    continues =
        nested_on c.args.self.now.snapshot c.items.self.snapshot w.take.new.self.snapshot c.items.invariant.continues
        (subst (IsNested c.items.self.snapshot) (sym w.in_ok-take-in-Finished.ensures.taken.0)
        (nested_transaction c.items.self.snapshot w.in-Finished.session w.in-Finished.txn));
    within =
        λ all within. subst (λ rows. IsWithin g.R.Read.remaining rows all) (sym w.in_ok-take-in-Finished.ensures.taken.1)
        (c.in_ok-session.ensures.within all (c.items.invariant.within all within));
    stopped =
        never-stopped g.B.Bounds.limits (fault_met c.args.self.now.rows) (fault_met c.items.self.rows) c.in_ok-session.field-0
        (fault_met w.take.new.self.rows) c.items.invariant.stopped c.in_ok-session.ensures.stays_stopped;
    going = λ none. ap (λ rows. fault_met rows) w.in_ok-take-in-Finished.ensures.taken.1 ∙ c.in_ok-session.ensures.goes_on;
    ended =
        λ ended. absurd (not-end g.B.Bounds.limits c.in_ok-session.field-0 w.in-Finished.session w.in-Finished.txn
        (c.in_ok-session.ensures.stays_ended (c.items.invariant.ended ended)) w.in-Finished.is);
    reading = λ some. ap (λ rows. rows.stage) w.in_ok-take-in-Finished.ensures.taken.1 ∙ c.in_ok-session.ensures.stage ∙ ap stage_after w.in-Finished.is;
  })
  | in-Unknown+in_ok-wait-in-Unknown w ↦ rw w.self-is (record {
    way = λ taken ahead recording.
        let way = c.items.invariant.way taken ahead recording in
        let answer =
        subst (λ given. TakesAnswer g.B.Bounds.limits g.R.Read.remaining way.3.given (Ok given) c.next.new.self) w.in-Unknown.is
        (c.in_ok-session.ensures.answers g.B.Bounds.limits way.3.given way.3.answers) in
        waits g.B.Bounds.limits g.R.Read.remaining taken ahead c.items.self w.wait.new.self way w.in-Unknown.session w.in-Unknown.txn
        (subst (λ rows. TakesAnswer g.B.Bounds.limits g.R.Read.remaining way.3.given (Ok (item.Unknown w.in-Unknown.session w.in-Unknown.txn)) rows)
        (sym w.in_ok-wait-in-Unknown.ensures.waits.1) answer)
        w.in_ok-wait-in-Unknown.ensures.kept w.in_ok-wait-in-Unknown.ensures.waits.0 (follows-unknown w.wait.new.self w.wait.ensures.unknown);
    continues = subst (IsNested c.args.self.now.snapshot) (sym w.in_ok-wait-in-Unknown.ensures.kept) c.items.invariant.continues;
    within =
        λ all within. subst (λ rows. IsWithin g.R.Read.remaining rows all) (sym w.in_ok-wait-in-Unknown.ensures.waits.1)
        (c.in_ok-session.ensures.within all (c.items.invariant.within all within));
    stopped =
        never-stopped g.B.Bounds.limits (fault_met c.args.self.now.rows) (fault_met c.items.self.rows) c.in_ok-session.field-0
        (fault_met w.wait.new.self.rows) c.items.invariant.stopped c.in_ok-session.ensures.stays_stopped;
    going = λ none. ap (λ rows. fault_met rows) w.in_ok-wait-in-Unknown.ensures.waits.1 ∙ c.in_ok-session.ensures.goes_on;
    ended =
        λ ended. absurd (not-end-unknown g.B.Bounds.limits c.in_ok-session.field-0 w.in-Unknown.session w.in-Unknown.txn
        (c.in_ok-session.ensures.stays_ended (c.items.invariant.ended ended)) w.in-Unknown.is);
    reading = λ some. ap (λ rows. rows.stage) w.in_ok-wait-in-Unknown.ensures.waits.1 ∙ c.in_ok-session.ensures.stage ∙ ap stage_after w.in-Unknown.is;
  })
]
