-- The verdict on the whole text.
use Rattle.std.proofs.Common.{◌≡◌, ◌↔◌, ℕ, Bool, true, false, List, [], ◌∷◌, ◌++◌, Option, None, Some, Result, Ok, Err, inl, refl, sym, ap, subst, ◌∙◌}
use Rattle.std.specs.Prelude.{IsErrAnd, IsTrue, MatchOption, map}
use Rattle.std.proofs.lemmas.Bool.{false≢true}
use Rattle.tcc_reads.specs.History.{History}
use Rattle.tcc_cert.specs.CycleRules.{HasRightSizes}
use Rattle.tcc_cert.specs.Parts.{Parts, after_part, cycle_head, order_head, parts_of, parts_read, with_clocks, with_tables}
use Rattle.tcc_cert.specs.declared.certificate.Certificate.{Certificate}
use Rattle.tcc_cert.specs.declared.certificate.Certificate.TheVariants as certificate
use Rattle.tcc_cert.specs.declared.certificate.CycleClaim.{CycleClaim}
use Rattle.tcc_cert.specs.declared.certificate.OrderClaim.{OrderClaim}
use Rattle.tcc_cert.specs.declared.part.CycleHead.{CycleHead}
use Rattle.tcc_cert.specs.declared.part.OrderHead.{OrderHead}
use Rattle.tcc_cert.specs.declared.part.Part.{Part}
use Rattle.tcc_cert.specs.declared.part.Part.TheVariants as part
use Rattle.tcc_cert.proofs.CollectFacts.{ends-read}
use Rattle.tcc_cert.proofs.PartFacts.{read-whole}
use Rattle.tcc_rules.specs.declared.judgement.Claim.{Claim}
use Rattle.tcc_rules.specs.declared.judgement.Claim.TheVariants as claim
use Rattle.tcc_rules.specs.declared.judgement.Judgement.{Judgement}
use Rattle.tcc_rules.specs.declared.stream_fault.StreamFault.{StreamFault}
use Rattle.tcc_rules.specs.declared.stream_fault.StreamFault.TheVariants.{Text, NoMemory}
use Rattle.tcc_rules.specs.declared.verdict.Rule.TheVariants.{Sizes}
use Rattle.tcc_rules.specs.declared.verdict.Rule.{Rule}
use Rattle.tcc_rules.specs.declared.verdict.Verdict.{Verdict}
use Rattle.tcc_check.specs.private.Coming.{FailsAs, Finishes, sized}
use Rattle.tcc_check.specs.private.Judged.{IsClaimJudged, IsCycleJudged, claim_rules}
use Rattle.tcc_check.specs.Streams.{IsClaimed, IsJudged, IsStreamFault, claim_of}
use Rattle.tcc_check.specs.Verdicts.{IsVerdict, cycle_rules, order_rules}
use Rattle.tcc_rules.specs.Asked.{IsVerdictOf, as_whole}
use Rattle.tcc_rules.proofs.Asked.{answer_later}
use Rattle.tcc_check.proofs.Claims.{verdict_of}
use Rattle.tcc_check.proofs.ComingFacts.{fails-back}

pub stream-fault : (bytes : List ℕ) (fault : StreamFault) → FailsAs (parts_read bytes) fault → IsStreamFault bytes fault
stream-fault bytes (Text fault) fails = (ends-read bytes fault fails.0, fails.1)
stream-fault bytes NoMemory fails = tt

-- what is returned in place of a fault is that fault
pub faulted : {X : Type 0} (Is : Result X StreamFault → Type 0) (fault : StreamFault) (o : Result X StreamFault) → IsErrAnd o (λ why. why ≡ fault)
    → Is (Err fault) → Is o
faulted Is fault (Ok x) fails is = absurd fails
faulted Is fault (Err why) fails is = subst (λ w. Is (Err w)) (sym fails) is

-- the parts after the first one end as the whole text does
pub fault-behind : (bytes : List ℕ) (given : Part) (rest : Parts) (fault : StreamFault) → parts_read bytes ≡ after_part given rest → FailsAs rest fault
    → IsStreamFault bytes fault
fault-behind bytes given rest fault is fails =
    stream-fault bytes fault (fails-back (parts_read bytes) rest fault (sym (ap (λ p. p.line) is)) (sym (ap (λ p. p.fault) is)) fails)

-- what holds of a claim and the parts after it holds of the certificate
judged-behind : (h : History) (bytes : List ℕ) (given : Part) (rest : Parts) (said : Judgement → Type 0) (o : Result Judgement StreamFault)
    → parts_read bytes ≡ after_part given rest
    → ((c : Certificate) (judgement : Judgement) → given ∷ rest.parts ≡ parts_of c → said judgement
    → (judgement.claim ≡ claim_of c) × IsVerdict h c judgement.verdict)
    → Finishes rest said o → IsJudged h bytes o
judged-behind h bytes given rest said (Ok judgement) is on done =
    let whole = read-whole bytes (ap (λ p. p.fault) is ∙ done.0) in
    let judged = on whole.0 judgement (sym (ap (λ p. p.parts) is) ∙ whole.2) done.1 in
    (whole.0, whole.1, judged.0, judged.1)
judged-behind h bytes given rest said (Err fault) is on fails = fault-behind bytes given rest fault is fails

-- where the verdict is on tables of the right sizes, it is that of all rules
pub sized-answer : (h : History) (k : CycleClaim) (rest : Parts) (found : Option (Verdict Rule)) (at_once : Bool)
    → MatchOption found (HasRightSizes h k → ⊥) (IsClaimJudged h k rest) → IsTrue at_once ↔ (rest.parts ≡ []) → IsVerdictOf (cycle_rules h k) (sized found at_once)
sized-answer h k rest (Some answer) true judged end =
    let right = judged.right (end.0 refl) in
    answer_later (as_whole Sizes (HasRightSizes h k) ∷ []) (claim_rules h k) answer (right.0, tt) right.1
sized-answer h k rest (Some answer) false judged end = inl (refl, (refl, λ right. false≢true (end.1 (judged.more right))))
sized-answer h k rest None at_once wrong end = inl (refl, (refl, wrong))

-- the verdict of all rules for a claim that a list is a commit order, with the clocks that come
record IsOrderJudged (h : History) (head : OrderHead) (ahead : Parts) (judgement : Judgement) : Type 0 where
  same : judgement.claim ≡ claim.Order
  answer : (clocks : List (List ℕ)) → ahead.parts ≡ map part.Clocks clocks → IsVerdictOf (order_rules h (with_clocks head clocks)) judgement.verdict

-- the verdict on the parts of a certificate is that on the certificate
order-judged : (h : History) (c : Certificate) (head : OrderHead) (rest : Parts) (judgement : Judgement)
    → part.Order head ∷ rest.parts ≡ parts_of c → IsOrderJudged h head rest judgement
    → (judgement.claim ≡ claim_of c) × IsVerdict h c judgement.verdict
order-judged h (certificate.Order k) head rest judgement is said =
    let tail : rest.parts ≡ map part.Clocks k.clocks = cc in
    let same : head ≡ order_head k = cc in (
      said.same,
      verdict_of h (certificate.Order k) judgement.verdict
          (subst (λ (o : OrderHead). IsVerdictOf (order_rules h (with_clocks o k.clocks)) judgement.verdict) same (said.answer k.clocks tail)),
    )
order-judged h (certificate.Cycle k) head rest judgement is said = absurd cc

cycle-judged : (h : History) (c : Certificate) (head : CycleHead) (rest : Parts) (judgement : Judgement)
    → part.Cycle head ∷ rest.parts ≡ parts_of c → IsCycleJudged h head rest judgement
    → (judgement.claim ≡ claim_of c) × IsVerdict h c judgement.verdict
cycle-judged h (certificate.Order k) head rest judgement is said = absurd cc
cycle-judged h (certificate.Cycle k) head rest judgement is said =
    let tail : rest.parts ≡ map part.Link k.links ++ (map part.Near k.near ++ map part.Far k.far) = cc in
    let same : head ≡ cycle_head k = cc in
    let answer =
    said.answer k.links k.near k.far (sym (ap (λ (o : CycleHead). o.links) same)) (sym (ap (λ (o : CycleHead). o.count) same)) tail in (
      said.same ∙ ap (λ (o : CycleHead). claim.Cycle o.least) same,
      verdict_of h (certificate.Cycle k) judgement.verdict
          (subst (λ (o : CycleHead). IsVerdictOf (cycle_rules h (with_tables o k.links k.near k.far)) judgement.verdict) same answer),
    )

-- what holds of a claim and the parts after it holds of the text
pub order-behind : (h : History) (bytes : List ℕ) (head : OrderHead) (rest : Parts) (k : OrderClaim) (verdict : Verdict Rule)
    → parts_read bytes ≡ after_part (part.Order head) rest → rest.fault ≡ None
    → ((clocks : List (List ℕ)) → rest.parts ≡ map part.Clocks clocks → k ≡ with_clocks head clocks) → IsVerdictOf (order_rules h k) verdict
    → IsJudged h bytes (Ok (record { claim = claim.Order; verdict = verdict }))
order-behind h bytes head rest k verdict is whole same said =
    judged-behind h bytes (part.Order head) rest (IsOrderJudged h head rest) (Ok (record { claim = claim.Order; verdict = verdict })) is
    (λ c. order-judged h c head rest) (
      whole,
      record {
        same = refl;
        answer = λ clocks come. subst (λ (k : OrderClaim). IsVerdictOf (order_rules h k) verdict) (same clocks come) said;
      },
    )

pub cycle-behind : (h : History) (bytes : List ℕ) (head : CycleHead) (rest : Parts) (o : Result Judgement StreamFault)
    → parts_read bytes ≡ after_part (part.Cycle head) rest → Finishes rest (IsCycleJudged h head rest) o → IsJudged h bytes o
cycle-behind h bytes head rest o is = judged-behind h bytes (part.Cycle head) rest (IsCycleJudged h head rest) o is (λ k. cycle-judged h k head rest)

-- the claim of the first part is that of the certificate
claimed-behind : (bytes : List ℕ) (given : Part) (rest : Parts) (said : Claim) (o : Result Claim StreamFault) → parts_read bytes ≡ after_part given rest
    → ((c : Certificate) → given ∷ rest.parts ≡ parts_of c → said ≡ claim_of c) → Finishes rest (λ x. x ≡ said) o → IsClaimed bytes o
claimed-behind bytes given rest said (Ok x) is on done =
    let whole = read-whole bytes (ap (λ p. p.fault) is ∙ done.0) in
    (whole.0, whole.1, done.1 ∙ on whole.0 (sym (ap (λ p. p.parts) is) ∙ whole.2))
claimed-behind bytes given rest said (Err fault) is on fails = fault-behind bytes given rest fault is fails

order-claimed : (c : Certificate) (head : OrderHead) (rest : Parts) → part.Order head ∷ rest.parts ≡ parts_of c → claim.Order ≡ claim_of c
order-claimed (certificate.Order k) head rest is = refl
order-claimed (certificate.Cycle k) head rest is = absurd cc

cycle-claimed : (c : Certificate) (head : CycleHead) (rest : Parts) → part.Cycle head ∷ rest.parts ≡ parts_of c → claim.Cycle head.least ≡ claim_of c
cycle-claimed (certificate.Order k) head rest is = absurd cc
cycle-claimed (certificate.Cycle k) head rest is = let same : head ≡ cycle_head k = cc in ap (λ (o : CycleHead). claim.Cycle o.least) same

pub order-told : (bytes : List ℕ) (head : OrderHead) (rest : Parts) (o : Result Claim StreamFault) → parts_read bytes ≡ after_part (part.Order head) rest
    → Finishes rest (λ x. x ≡ claim.Order) o → IsClaimed bytes o
order-told bytes head rest o is = claimed-behind bytes (part.Order head) rest claim.Order o is (λ c. order-claimed c head rest)

pub cycle-told : (bytes : List ℕ) (head : CycleHead) (rest : Parts) (o : Result Claim StreamFault) → parts_read bytes ≡ after_part (part.Cycle head) rest
    → Finishes rest (λ x. x ≡ claim.Cycle head.least) o → IsClaimed bytes o
cycle-told bytes head rest o is = claimed-behind bytes (part.Cycle head) rest (claim.Cycle head.least) o is (λ c. cycle-claimed c head rest)
