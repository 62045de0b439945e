use Rattle.std.proofs.Common.{ℕ, Bool, true, List, refl, sym, subst, arith}
use Rattle.tcc_reads.specs.History.{count}
use Rattle.tcc_graph.specs.Relations.{IsReadsPair}
use Rattle.tcc_watch.specs.private.Links.{IsLinked}
use Rattle.tcc_watch.specs.private.Tables.{after}
use Rattle.tcc_watch.specs.private.Delivering.{reading_of}
use Rattle.tcc_watch.proofs.Delivering.{reads_more}
use Rattle.tcc_watch.proofs.delivered.link_reads.Goals as goal

pub link_key-requires : goal.link_key-requires
link_key-requires g c =
    let r = c.requires in
    let read = c.read-item.result in
    record {
      reading = record {
        delivered = r.delivered;
        closure = c.loop-read.invariant.closure;
        placed = r.placed;
        listed = r.listed;
        clock_of = r.clock_of;
        read = subst (λ (z : List ℕ × ℕ). IsReadsPair (after g.arriving) z.1 (count g.arriving.history) z.0) (sym c.read-item.is)
            (r.pairs c.loop-read.read-index read c.loop-read-test.true);
      };
      is_key = refl;
      right = r.right read.0;
    }

pub loop-read-preserved : goal.loop-read-preserved
loop-read-preserved g c =
    let read = c.read-item.result in
    let old = c.loop-read.closure in
    let new = c.link_key.new.closure in
    let right : IsLinked (reading_of g.arriving read.0) old new read.1 true
    = subst (λ (z : Bool). IsLinked (reading_of g.arriving read.0) old new read.1 z) c.if-not-branch.false c.in_ok-link_key.ensures in
    record {
      closure = right.0;
      keeps = λ u v at_u at_v up. right.1 u v at_u at_v (c.loop-read.invariant.keeps u v at_u at_v up);
      done = reads_more g.arriving old new c.args.reads.now c.loop-read.read-index read c.loop-read-test.true c.read-item.is c.loop-read.invariant.done right
          (λ i d inside. (c.requires.pairs i d inside).0);
    }

pub returns : goal.returns
returns g c = (
  c.loop-read.invariant.closure,
  c.loop-read.invariant.keeps,
  λ i d low inside. c.loop-read.invariant.done i d (omega (arith, inside, c.loop-read-test.false)) inside,
)
