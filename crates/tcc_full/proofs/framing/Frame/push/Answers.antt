-- the front, the name, the items, and what comes after them
use Rattle.std.proofs.Common.{rules, append_assoc, map}
use Rattle.serde_json.specs.View.{items_of, view}
use Rattle.tcc_full.proofs.FramedTexts.{framed_text}
use Rattle.tcc_full.proofs.framing.Frame.push.Goals as goal

pub returns : goal.returns
returns g c =
    let f = c.args.self.now in
    rw (framed_text (view f.before) f.name.now (items_of (map (g.O.Objects.json c.args.objects.now) c.args.items.now)) (view f.after) c.requires.0.0 c.requires.1.0)
    (search (rules, append_assoc))
