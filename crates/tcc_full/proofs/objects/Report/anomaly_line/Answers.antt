-- the members before the list, the list, and those after it
use Rattle.std.proofs.Common.{◌≡◌, map, refl, sym, subst, codes}
use Rattle.std.specs.Prelude.{IfOk}
use Rattle.serde_json.specs.Data.{Data, array}
use Rattle.serde_json.specs.View.{items_of}
use Rattle.tcc_answer.specs.Json.{json_line}
use Rattle.tcc_full.specs.Links.{link_json}
use Rattle.tcc_full.specs.Records.{records_of}
use Rattle.tcc_full.specs.private.Framing.{IsPlain, framed_by}
use Rattle.tcc_full.proofs.objects.Report.anomaly_line.Goals as goal

pub line-requires : goal.line-requires
line-requires g c = (subst IsPlain (sym c.in_ok-list_before.ensures) (refl, refl), subst IsPlain (sym c.in_ok-cycle_after.ensures) (refl, refl))

pub returns : goal.returns
returns g c =
    let list = array (items_of (map (link_json (records_of c.args.self.now.lookup.now)) c.args.links.now)) in
    subst (λ (object : Data). IfOk c.line.result (λ line. line.items ≡ json_line object))
    (λ i. framed_by (c.in_ok-list_before.ensures i) (codes "cycle") list (c.in_ok-cycle_after.ensures i)) c.line.ensures
