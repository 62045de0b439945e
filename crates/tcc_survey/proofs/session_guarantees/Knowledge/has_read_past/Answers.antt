use Rattle.std.proofs.Common.{ℕ, slice_index}
use Rattle.std.proofs.lemmas.Bool.{lt-ltb, ltb-true}
use Rattle.tcc_survey.specs.private.Seen.{latest_mark}
use Rattle.tcc_survey.proofs.CalledLemmas.{fits_past}
use Rattle.tcc_survey.proofs.session_guarantees.Knowledge.has_read_past.Goals as goal

pub returns : goal.returns
returns c =
    let k = c.args.self.now in
    let b : ℕ = c.args.b in
    let latest : ℕ = latest_mark k.owners.now k.marks.now k.reader (slice_index k.owners.now b) in
    let same = fits_past k c.requires.knowledge b c.requires.some c.requires.below in
    rw c.latest.ensures (λ t. same.0 (ltb-true b latest t), λ w. lt-ltb b latest (same.1 w))
