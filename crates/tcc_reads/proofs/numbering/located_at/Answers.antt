use Rattle.std.proofs.Common.{◌≡◌, [], ◌+◌, false, ap, sym}
use Rattle.std.specs.FinMap.{entries}
use Rattle.tcc_txn.specs.Snapshots.{finished_at}
use Rattle.tcc_reads.specs.private.Numbers.{name_in}
use Rattle.tcc_reads.proofs.Indices.{behind}
use Rattle.tcc_reads.proofs.numbering.located_at.Goals as goal

pub returns : goal.returns
returns g c =
    let s = c.args.snapshot.now in
    let place = c.args.place.now in
    let name : c.name_at.result.now ≡ name_in s place.session =
    sym (ap (λ named. named.0) ((behind (entries s) place.session (c.name_at.result.now, finished_at s place.session) _ c.name_at.ensures).1 ([], []))) in
    let txn = sym ((behind (finished_at s place.session) place.before c.recorded_at.result _ c.recorded_at.ensures).1 (record { ops = []; committed = false })) in
    λ i. record {
      number = place.number;
      stand = record { session = place.session; name = name i; place = place.before + 1; txn = txn i };
    }
