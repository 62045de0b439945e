-- the rows so far are right, and come before those that are still to come
use Rattle.std.proofs.Common.{◌≡◌, ℕ, List, length}
use Rattle.tcc_reads.specs.History.{count}
use Rattle.tcc_cert.specs.Ahead.{IsAhead}
use Rattle.tcc_cert.specs.Parts.{Parts}
use Rattle.tcc_check.specs.private.Judged.{AreNearRowsTo}
use Rattle.tcc_check.specs.private.Pairs.{AreOrderly}
use Rattle.tcc_check.proofs.NearBehind.{AreNearBehind}
use Rattle.tcc_check.proofs.near_rows.judge_near.Given as goal

abbrev pub invariant-loop-start : goal.invariant-loop-start
invariant-loop-start g l =
    record {
      rows : (ahead : Parts) → IsAhead g.R.Read.remaining l.initial.parts ahead
          → (rest : Parts) × (rows : List (List ℕ)) × AreNearBehind (count l.graph) l.least
          (λ near i state. AreNearRowsTo l.graph l.level l.least near i state) l.start l.rows rows ahead rest × IsAhead g.R.Read.remaining l.parts rest;
      long : length l.rows.links.items ≡ l.start;
      orderly : AreOrderly (count l.graph) l.rows.links.items;
    }
