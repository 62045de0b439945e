-- One more digit after a space.
use Rattle.std.proofs.Common.{ℕ, ◌≡◌, ◌≤◌, ◌*◌, ◌<◌, ◌∙◌, [], ◌∷◌, ◌++◌, length, length-append, ap, arith}
use Rattle.std.proofs.lemmas.List.Elements.{All-push}
use Rattle.tcc_cert.proofs.DigitLines.{digit-first, digit-more}
use Rattle.tcc_cert.proofs.reading.rows.digits_of.Goals as goal

pub loop-index-init : goal.loop-index-init
loop-index-init c =
    let line = c.args.line.now in
    let d = c.in-Some.first in
    let held : c.push.new.self.items ≡ d ∷ [] = rw c.in_ok-numbers.ensures.items at c.in_ok-push.ensures.items in
    let some : 0 < length line = omega (arith, c.if-line-eq0.false) in
    record {
      some = omega arith;
      long = ap length held;
      line = rw held (digit-first line d some c.in-Some.ensures.value c.in-Some.ensures.one);
      within =
          rw held (All-push (λ (n : ℕ). n ≤ c.args.most) [] d (λ k e l. absurd (omega (arith, l)))
          (omega (arith, c.in-Some.ensures.one, c.if-most-lt9.false)));
    }

pub loop-index-preserved : goal.loop-index-preserved
loop-index-preserved c =
    let line = c.args.line.now in
    let k = c.loop-index.index in
    let d = c.in-Some-digit.number in
    let front = c.loop-index.numbers.items in
    let before = c.loop-index.invariant in
    let held : c.push-in-Some-digit.new.self.items ≡ front ++ d ∷ [] = c.in_ok-push-in-Some-digit.ensures.items in
    let within : 2 * k < length line = omega (arith, c.loop-index-test.true, c.if-line-count.false, c.if-line-eq0.false) in
    record {
      some = omega (arith, before.some);
      long = ap length held ∙ omega (arith, length-append front (d ∷ []), before.long);
      line =
          rw held (digit-more line front k d before.some within before.long before.line c.if-space-eq32.true c.in-Some-digit.ensures.value
          c.in-Some-digit.ensures.one);
      within =
          rw held (All-push (λ (n : ℕ). n ≤ c.args.most) front d before.within (omega (arith, c.in-Some-digit.ensures.one, c.if-most-lt9.false)));
    }
