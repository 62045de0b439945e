use Rattle.tcc_watch.proofs.Arrived.{delivered_more, link_stays, new_link, reached_was}
use Rattle.tcc_watch.proofs.laws.sinks.Goals as goal

pub returns-clause-delivered : goal.returns-clause-delivered
returns-clause-delivered c h e delivered may = delivered_more h e delivered may

pub returns-clause-kept : goal.returns-clause-kept
returns-clause-kept c h e level l is = link_stays h e level l is

pub returns-clause-new : goal.returns-clause-new
returns-clause-new c h e level l delivered may is = new_link h e delivered may level l is

pub returns-clause-reached : goal.returns-clause-reached
returns-clause-reached c h e a b delivered may old is = reached_was h e delivered may a b old is
