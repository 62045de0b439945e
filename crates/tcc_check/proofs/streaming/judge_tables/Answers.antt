-- The links, and then one table after the other.
use Rattle.std.proofs.Common.{◌++◌, ◌∙◌}
use Rattle.std.specs.Prelude.{map}
use Rattle.tcc_cert.specs.declared.part.Part.TheVariants as part
use Rattle.tcc_check.specs.private.Coming.{first_rejected}
use Rattle.tcc_cert.specs.Parts.{with_tables}
use Rattle.tcc_check.specs.private.Judged.{far_rules, links_rules, near_rules}
use Rattle.tcc_check.proofs.Asked.{answer_first}
use Rattle.tcc_check.proofs.streaming.judge_tables.Goals as goal

pub returns-in_default : goal.returns-in_default
returns-in_default g c ahead is =
    let of_links = rw c.in_default.is at (c.in_ok-of_links.ensures ahead is) in (
      of_links.0,
      of_links.1,
      of_links.2,
      of_links.3,
      λ links near far many long split right. of_links.4 links (map part.Near near ++ map part.Far far) many split right.links,
    )

pub returns-in_default-2 : goal.returns-in_default-2
returns-in_default-2 g c ahead is =
    let of_links = rw c.in-Some.is at (c.in_ok-of_links.ensures ahead is) in
    let of_near = rw c.in_default-2.is at (c.in_ok-near.ensures.parts of_links.0 of_links.3) in (
      of_near.0,
      of_near.1 ∙ of_links.1,
      of_near.2 ∙ of_links.2,
      of_near.3,
      λ links near far many long split right.
          let first = of_links.4 links (map part.Near near ++ map part.Far far) many split in
          of_near.4 near far (long ∙ c.if-head-count.false ∙ c.count.ensures.value) first.behind (right.near, right.near_capped),
    )

pub judge_far-requires : goal.judge_far-requires
judge_far-requires g c = record { few = c.requires; orderly = rw c.in-Some-2.is at c.in_ok-near.ensures.orderly }

pub returns-in_default-3 : goal.returns-in_default-3
returns-in_default-3 g c ahead is =
    let of_links = rw c.in-Some.is at (c.in_ok-of_links.ensures ahead is) in
    let of_near = rw c.in-Some-2.is at (c.in_ok-near.ensures.parts of_links.0 of_links.3) in
    let of_far = rw c.in_default-3.is at (c.in_ok-of_far.ensures of_near.0 of_near.3) in (
      of_far.0,
      of_far.1 ∙ of_near.1 ∙ of_links.1,
      of_far.2 ∙ of_near.2 ∙ of_links.2,
      of_far.3,
      λ links near far many long split right.
          let first = of_links.4 links (map part.Near near ++ map part.Far far) many split in
          let one = of_near.4 near far (long ∙ c.if-head-count.false ∙ c.count.ensures.value) first.behind in
          of_far.4 near far one.1.links one.2 (right.far, right.far_capped),
    )

pub returns : goal.returns
returns g c ahead is =
    let h = c.args.graph.now in
    let head = c.args.head in
    let of_links = rw c.in-Some.is at (c.in_ok-of_links.ensures ahead is) in
    let of_near = rw c.in-Some-2.is at (c.in_ok-near.ensures.parts of_links.0 of_links.3) in
    let of_far = rw c.in-Some-3.is at (c.in_ok-of_far.ensures of_near.0 of_near.3) in (
      of_far.0,
      of_far.1 ∙ of_near.1 ∙ of_links.1,
      of_far.2 ∙ of_near.2 ∙ of_links.2,
      of_far.3,
      λ links near far many long split.
          let k = with_tables head links near far in
          let first = of_links.4 links (map part.Near near ++ map part.Far far) many split in
          let one = of_near.4 near far (long ∙ c.if-head-count.false ∙ c.count.ensures.value) first.behind in
          let two = of_far.4 near far one.1.links one.2 in
          record {
            right = λ end.
                let last = two.right end in (
                  record { near = one.0.0; far = last.0.0; links = first.below; near_capped = one.0.1; far_capped = last.0.1 },
                  rw (c.first_rejected.ensures, c.first_rejected-of_tables.ensures)
                      (answer_first (links_rules h k) (near_rules h head.level near ++ far_rules h head.version head.least near far)
                      c.in-Some.of_links (first_rejected c.in-Some-2.near.verdict c.in-Some-3.of_far)
                      (first.answer near far)
                      (answer_first (near_rules h head.level near)
                      (far_rules h head.version head.least near far) c.in-Some-2.near.verdict c.in-Some-3.of_far one.1.answer last.1)),
                );
            more = λ right. two.more (right.far, right.far_capped);
          },
    )
