-- One more row of what was found, and of the links.
use Rattle.std.proofs.Common.{◌≡◌, ℕ, List, [], ◌∷◌, ◌++◌, rules, sym, subst}
use Rattle.std.proofs.lemmas.List.{length_push}
use Rattle.tcc_reads.specs.History.{count}
use Rattle.tcc_cert.specs.Tables.{row_of}
use Rattle.tcc_check.specs.private.WeightsFrom.{AreEnds, WeighsFrom}
use Rattle.tcc_check.proofs.LinksFrom.{more-ends, orderly-more}
use Rattle.tcc_check.proofs.near_rows.take_row.Goals as goal

pub returns : goal.returns
returns c =
    let h = c.args.graph.now in
    let start = c.args.start in
    let links = c.args.rows.now.links.items in
    let new = c.in_ok-link_ends.field-0 in
    let pushed : c.push.new.self.items ≡ links ++ new ∷ [] = search rules in
    let are : AreEnds (WeighsFrom h c.args.row.now start) (count h) c.args.least new = search rules in
    record {
      taken = λ near is before. record {
        found = c.with_row-rows.ensures near is before.found;
        links =
            rw pushed (more-ends start (λ u. WeighsFrom h (row_of near u) u) (count h) c.args.least links new
            (subst (λ (r : List ℕ). AreEnds (WeighsFrom h r start) (count h) c.args.least new) (sym is) are) before.links);
      };
      orderly = rw pushed (orderly-more (count h) c.args.least (WeighsFrom h c.args.row.now start) links new are c.requires.orderly);
      long = rw pushed (length_push links new);
    }
