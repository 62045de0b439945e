use Rattle.std.proofs.Common.{rules, ◌≡◌, ◌<◌, ◌∷◌, [], length, length-take-le, take, refl, ◌∙◌, arith}
use Rattle.std.proofs.lemmas.List.{get_or-take}
use Rattle.tcc_reads.specs.History.{count}
use Rattle.tcc_judge.proofs.Told.{nothing_told}
use Rattle.tcc_judge.proofs.decoding.begin.Goals as goal

pub returns : goal.returns
returns c =
    let h = c.args.graph.now in
    let firsts = c.in_ok-firsts.firsts.items in
    let are = c.in_ok-firsts.ensures in
    let some : 0 < count h = omega (arith, c.count.ensures.value, c.count.ensures.some) in
    let copied : c.extend_from_slice.new.self.items ≡ firsts = search rules in
    let next : c.truncate.new.self.items ≡ take (length h.sessions) firsts
    = c.truncate.ensures.items ∙ rw (copied, c.sessions.ensures.value) refl in
    let order : c.push.new.self.items ≡ 0 ∷ [] = search rules in
    let long : length (take (length h.sessions) firsts) ≡ length h.sessions = length-take-le (length h.sessions) firsts (omega (arith, are.long)) in
    rw next (nothing_told h c.requires some firsts (take (length h.sessions) firsts) c.push.new.self.items are long
    (λ s l. get_or-take (length h.sessions) firsts s 0 l) order)
