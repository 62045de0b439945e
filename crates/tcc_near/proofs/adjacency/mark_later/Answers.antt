use Rattle.std.proofs.Common.{◌≡◌, ◌≤◌, ◌<◌, ◌-◌, ℕ, true, min, length-set, slice_index, refl, arith}
use Rattle.tcc_bits.specs.Bits.{is_marked}
use Rattle.tcc_bits.proofs.MarkLemmas.{AddsBetween, between_known, between_marked}
use Rattle.tcc_near.proofs.MarkLemmas.{suffixes_set}
use Rattle.tcc_near.proofs.adjacency.mark_later.Goals.{After-min-known}
use Rattle.tcc_near.proofs.adjacency.mark_later.Goals as goal

least : (c : After-min-known) → c.min-known.result ≡ min (slice_index c.args.suffixes.now (c.args.end - 1)) c.args.end
least c = c.min-known.ensures

-- from there on the session is marked
marked : (c : After-min-known) (b : ℕ) → c.min-known.result ≤ b → b < c.args.end → is_marked c.args.words.now b ≡ true
marked c b from below =
    c.requires.suffixes (c.args.end - 1) b (omega (arith, c.requires.some, c.requires.within)) (omega (arith, least c, from, below)) (omega (arith, below))

pub returns-then-first-known : goal.returns-then-first-known
returns-then-first-known c =
    let after = (goal.at.returns-then-first-known c).After-min-known in
    let words = c.args.words.now in
    let new = c.mark_between.new.words in
    let end = c.args.end in
    let is : AddsBetween words new c.args.first end =
    between_known words new c.args.first c.min-known.result end (omega (arith, least after)) (marked after) c.mark_between.ensures.each in
    record {
      same = c.mark_between.ensures.same;
      long = length-set c.args.suffixes.now (end - 1) c.args.first;
      suffixes = suffixes_set c.args.suffixes.now words new c.args.first end c.requires.some c.requires.within c.requires.suffixes is;
      each = is;
    }

pub returns-else-first-known : goal.returns-else-first-known
returns-else-first-known c =
    let after = (goal.at.returns-else-first-known c).After-min-known in
    record {
      same = refl;
      long = refl;
      suffixes = c.requires.suffixes;
      each = between_marked c.args.words.now c.args.first c.args.end (λ b from. marked after b (omega (arith, from, c.if-first-known.false)));
    }
