-- the members before the list, the list, and those after it
use Rattle.std.proofs.Common.{◌≡◌, map, refl, sym, subst, codes}
use Rattle.std.specs.Prelude.{IfOk}
use Rattle.serde_json.specs.Data.{Data, array}
use Rattle.serde_json.specs.View.{items_of}
use Rattle.tcc_answer.specs.Json.{json_line, label_json}
use Rattle.tcc_full.specs.Records.{records_of}
use Rattle.tcc_full.specs.private.Framing.{IsPlain, framed_by}
use Rattle.tcc_full.proofs.objects.Report.consistent_line.Goals as goal

pub line-requires : goal.line-requires
line-requires g c = (subst IsPlain (sym c.in_ok-order_before.ensures) (refl, refl), subst IsPlain (sym c.in_ok-order_after.ensures) (refl, refl))

pub returns : goal.returns
returns g c =
    let list = array (items_of (map (label_json (records_of c.args.self.now.lookup.now).labels) c.args.order.now)) in
    subst (λ (object : Data). IfOk c.line.result (λ line. line.items ≡ json_line object))
    (λ i. framed_by (c.in_ok-order_before.ensures i) (codes "order") list (c.in_ok-order_after.ensures i)) c.line.ensures
