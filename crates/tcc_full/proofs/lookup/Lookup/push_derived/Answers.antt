-- what a derived link has before its walk, the walk, and what it has after it
use Rattle.std.proofs.Common.{◌≡◌, ◌++◌, map, refl, sym, subst}
use Rattle.std.specs.Prelude.{OnOk}
use Rattle.serde_json.specs.Data.{Data, array}
use Rattle.serde_json.specs.View.{items_of}
use Rattle.serde_json.specs.Written.{compact_text}
use Rattle.tcc_graph.specs.Labels.{label_at}
use Rattle.tcc_full.specs.Links.{step_json}
use Rattle.tcc_full.specs.Records.{read_row, records_of, value_from, write_row}
use Rattle.tcc_full.specs.private.Framing.{IsPlain, framed_by}
use Rattle.tcc_full.proofs.NoFloats.{in_walk_after, in_walk_before}
use Rattle.tcc_full.proofs.lookup.Lookup.push_derived.Goals as goal

pub push-requires : goal.push-requires
push-requires g c =
    let r = records_of c.args.self.now in
    let it = c.args in (
      subst IsPlain (sym c.in_ok-frame.ensures.0) (
        refl,
        in_walk_before (label_at r.labels it.from) it.key.now (label_at r.labels it.reader) (label_at r.labels it.to)
            (write_row r it.from it.key.now) (read_row r it.to it.reader it.key.now) (value_from r it.to it.key.now),
      ),
      subst IsPlain (sym c.in_ok-frame.ensures.2) (refl, in_walk_after (write_row r it.to it.key.now)),
    )

pub returns : goal.returns
returns g c =
    let list = array (items_of (map (step_json (records_of c.args.self.now)) c.args.walk.now)) in
    subst (λ (object : Data). OnOk c.push.result (c.push.new.text.items ≡ c.args.text.now.items ++ compact_text object))
    (λ i. framed_by (c.in_ok-frame.ensures.0 i) (c.in_ok-frame.ensures.1 i) list (c.in_ok-frame.ensures.2 i)) c.push.ensures
