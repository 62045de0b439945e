use Rattle.std.proofs.Common.{ℕ, slice_index}
use Rattle.std.proofs.lemmas.Bool.{le-leb, leb-true}
use Rattle.tcc_survey.specs.private.Seen.{latest_mark}
use Rattle.tcc_survey.proofs.CalledLemmas.{seen_after}
use Rattle.tcc_survey.proofs.session_guarantees.Knowledge.has_seen.Goals as goal

pub returns : goal.returns
returns c =
    let k = c.args.self.now in
    let f : ℕ = c.args.f in
    let latest : ℕ = latest_mark k.owners.now k.marks.now k.reader (slice_index k.owners.now f) in
    let same = seen_after k c.requires.knowledge f c.requires.some c.requires.below in
    rw c.latest.ensures (λ t. same.0 (leb-true f latest t), λ w. le-leb f latest (same.1 w))
