-- A search as the code keeps it.
use Rattle.tcc_core.specs.Searches.{Search}
use Rattle.tcc_core.specs.declared.search.Search.TheInside.{Inside}

abbrev pub search_in : Inside → Search
search_in s = record { start = s.start; row = s.row.items; costs = s.frontier.costs; limit = s.limit }
