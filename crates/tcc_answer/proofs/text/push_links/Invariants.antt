-- the links so far are at the end
use Rattle.std.proofs.Common.{◌≡◌, ◌++◌, take, flat_map}
use Rattle.tcc_answer.specs.Texts.{link_text}
use Rattle.tcc_answer.proofs.text.push_links.Given as goal

abbrev pub invariant-loop-link : goal.invariant-loop-link
invariant-loop-link l = l.text.items ≡ l.initial.text.items ++ flat_map (link_text l.labels) (take l.link-index l.links)
