use Rattle.std.proofs.Common.{◌≡◌, ◌≢◌, ◌<◌, ◌⊎◌, inl, inr, length, ◌∙◌, sym, arith}
use Rattle.std.proofs.lemmas.Bool.{cases_eq}
use Rattle.tcc_reads.specs.History.{owner}
use Rattle.tcc_judge.specs.private.Singles.{IsBegin}
use Rattle.tcc_judge.proofs.SingleLemmas.{begin_none, begin_of}
use Rattle.tcc_judge.proofs.Told.{at_some, at_none}
use Rattle.tcc_judge.proofs.singles.session_begin.Goals as goal

pub returns-in-Some : goal.returns-in-Some
returns-in-Some c =
    let h = c.args.graph.now in
    let stands = at_some h c.args.reader c.in-Some.session c.in-Some._place (sym c.at.ensures ∙ c.in-Some.is) in
    let few : owner h c.args.reader < length h.sessions
    = rw c.sessions.ensures.value at (c.sessions.ensures.owners c.args.reader stands.above stands.below) in
    begin_of h c.requires.numbered c.args.reader c.in-Some.session _ stands.above stands.below stands.owned
    (c.requires.firsts.each c.in-Some.session (omega (arith, few, stands.owned)))

pub returns-in-None : goal.returns-in-None
returns-in-None c = go (cases_eq c.args.reader 0)
  where
    go : (c.args.reader ≡ 0) ⊎ (c.args.reader ≢ 0) → IsBegin c.args.graph.now c.args.reader c.args.reader
    go (inl none) = begin_none c.args.graph.now c.args.reader none
    go (inr other) = absurd (at_none c.args.graph.now c.args.reader (sym c.at.ensures ∙ c.in-None.is) (omega (arith, other)) c.requires.reader)
