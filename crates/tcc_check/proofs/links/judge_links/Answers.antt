-- The next link, or another part; at last all of them.
use Rattle.std.proofs.Common.{◌≡◌, [], ◌∷◌, ◌++◌, ℕ, List, refl, sym, subst, ◌∙◌, arith}
use Rattle.std.proofs.lemmas.Bool.{iff_false}
use Rattle.tcc_graph.specs.Levels.{Judged, judged}
use Rattle.tcc_graph.specs.declared.link.Link.{Link}
use Rattle.tcc_reads.specs.History.{History, count}
use Rattle.tcc_cert.specs.CycleRules.{IsLinkBelow}
use Rattle.tcc_cert.specs.Parts.{with_tables}
use Rattle.tcc_cert.specs.declared.part.Part.TheVariants as part
use Rattle.tcc_rules.specs.declared.links.LinksSeen.{LinksSeen}
use Rattle.tcc_rules.specs.Links.{AreSeenTo}
use Rattle.tcc_check.proofs.ComingFacts.{first-fault, first-line}
use Rattle.tcc_check.proofs.LinksBehind.{AreLinksBehind, links-begun, links-below, links-ended, links-go-on, links-other}
use Rattle.tcc_check.proofs.links.judge_links.Goals as goal

abbrev seen_to : Judged → ℕ → List Link → ℕ → LinksSeen → Type 0
seen_to j least all i seen = AreSeenTo j least all i seen

pub loop-before-init : goal.loop-before-init
loop-before-init g c ahead is =
    let j : Judged = judged c.args.graph.now c.args.head.level in (
      ahead,
      [],
      links-begun c.args.head.links (IsLinkBelow (count c.args.graph.now)) (seen_to j c.args.head.least) c.no_links-seen.result ahead
          (λ all. c.no_links-seen.ensures j all),
      is,
    )

pub returns-in_default : goal.returns-in_default
returns-in_default g c ahead is =
    let j : Judged = judged c.args.graph.now c.args.head.level in
    let now = c.loop-before.invariant ahead is in
    let taken = c.in_ok-link.ensures.parts now.0 now.3 in (
      taken.0,
      first-line c.in_ok-link.field-0 now.0 taken.0 taken.1 ∙ now.2.line,
      first-fault c.in_ok-link.field-0 now.0 taken.0 taken.1 ∙ now.2.fault,
      taken.2,
      λ links tables long split below.
          links-other c.args.head.links (IsLinkBelow (count c.args.graph.now)) (seen_to j c.args.head.least) c.loop-before.before c.loop-before.seen now.1 ahead now.0
          taken.0 c.loop-before-test.true now.2 c.in_ok-link.field-0 c.in_default.not-Link taken.1 links tables long split,
    )

pub returns-then-not-is_below : goal.returns-then-not-is_below
returns-then-not-is_below g c ahead is =
    let j : Judged = judged c.args.graph.now c.args.head.level in
    let now = c.loop-before.invariant ahead is in
    let taken = rw c.in-Link.is at (c.in_ok-link.ensures.parts now.0 now.3) in (
      taken.0,
      first-line (part.Link c.in-Link.link) now.0 taken.0 taken.1 ∙ now.2.line,
      first-fault (part.Link c.in-Link.link) now.0 taken.0 taken.1 ∙ now.2.fault,
      taken.2,
      λ links tables long split below.
          iff_false c.is_below.ensures c.if-not-is_below.true (rw c.count.ensures.value
          (links-below c.args.head.links (IsLinkBelow (count c.args.graph.now)) (seen_to j c.args.head.least) c.loop-before.before c.loop-before.seen now.1 ahead now.0
          taken.0 c.loop-before-test.true now.2 c.in-Link.link taken.1 links tables long split below)),
    )

pub loop-before-preserved : goal.loop-before-preserved
loop-before-preserved g c ahead is =
    let h : History = c.args.graph.now in
    let j : Judged = judged h c.args.head.level in
    let now = c.loop-before.invariant ahead is in
    let taken = rw c.in-Link.is at (c.in_ok-link.ensures.parts now.0 now.3) in
    let below : IsLinkBelow (count h) c.in-Link.link = rw (← c.count.ensures.value) (c.is_below.ensures.0 c.if-not-is_below.false) in (
      taken.0,
      now.1 ++ c.in-Link.link ∷ [],
      links-go-on c.args.head.links (IsLinkBelow (count h)) (seen_to j c.args.head.least) c.loop-before.before c.loop-before.seen now.1 ahead now.0
          taken.0 c.loop-before-test.true now.2 c.in-Link.link taken.1 c.with_link-seen.result below
          (λ all inside here before. c.with_link-seen.ensures c.args.head.least c.loop-before.before all refl inside here before),
      taken.2,
    )

pub returns : goal.returns
returns g c ahead is =
    let h : History = c.args.graph.now in
    let j : Judged = judged h c.args.head.level in
    let whole : c.loop-before.before ≡ c.args.head.links = omega (arith, c.loop-before-test.false, c.loop-before.auto.before-end) in
    let now = c.loop-before.invariant ahead is in (
      now.0,
      now.2.line,
      now.2.fault,
      now.3,
      λ links tables long split.
          let all =
          links-ended c.args.head.links (IsLinkBelow (count h)) (seen_to j c.args.head.least) c.loop-before.seen now.1 ahead now.0
          (subst (λ (i : ℕ). AreLinksBehind c.args.head.links (IsLinkBelow (count h)) (seen_to j c.args.head.least) i c.loop-before.seen now.1 ahead now.0) whole now.2)
          links tables long split in
          record {
            below = all.0;
            answer = λ near far.
                c.wrong_verdict.ensures h (with_tables c.args.head links near far)
                (c.in_ok-wrong.ensures j c.args.head.least links
                (subst (λ (i : ℕ). AreSeenTo j c.args.head.least links i c.loop-before.seen) (sym long) all.1));
            behind = all.2;
          },
    )
