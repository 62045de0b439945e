-- A search that has returned or was cut is one that a share may bring.
use Rattle.std.proofs.Common.{◌≡◌, ◌≢◌, ◌<◌, ℕ, List, length, Option, None, Some, Contains}
use Rattle.std.proofs.Common.{get_or-set_same, get_or-set_other, length-set, sym, ◌∙◌, ap, subst}
use Rattle.std.proofs.Common.{arith}
use Rattle.tcc_graph.specs.Levels.{Judged}
use Rattle.tcc_core.specs.Rows.{in_row, cap_of, IsCutOff}
use Rattle.tcc_core.specs.Searches.{Search, IsSearchOf, Settles}
use Rattle.tcc_core.specs.Shares.{Share, Returned, Cut, IsNotAbove, IsFinished}
use Rattle.tcc_core.specs.declared.settled.Settled.TheVariants as settled

pub still_outside : (j : Judged) (s cap : ℕ) (old new : List (Option ℕ)) → Settles j s cap old new settled.More → in_row old s ≡ None → in_row new s ≡ None
still_outside j s cap old new (v, distance, other, joins) out =
    let apart : s ≢ v = λ e. other (sym e) in
    rw joins.joined (get_or-set_other old v s (Some distance) None apart ∙ out)

pub finished_returned : (j : Judged) (s cap c : ℕ) (old : List (Option ℕ)) (search : Search) (share : Share) → IsSearchOf j s search
    → Settles j s cap old search.row (settled.Returned c) → Contains share.offers c
    → IsFinished j share (record { start = s; row = search.row; stop = Returned c })
finished_returned j s cap c old found share is joins offered =
    let within : s < length old = omega (arith, is.below, is.row.long, ap length joins.joined, length-set old s (Some c)) in
    record { row = is.row; stopped = (rw joins.joined (get_or-set_same old s (Some c) None within), offered) }

pub finished_cut : (j : Judged) (s cap k : ℕ) (old : List (Option ℕ)) (search : Search) (share : Share) → IsSearchOf j s search
    → Settles j s cap old search.row (settled.Cut k) → in_row search.row s ≡ None → IsNotAbove share.sight (cap_of k)
    → IsFinished j share (record { start = s; row = search.row; stop = Cut (cap_of k) })
finished_cut j s cap k old found share is (same, kept, past) out above =
    let past_here : IsCutOff j s found.row (cap_of cap) = subst (λ (z : List (Option ℕ)). IsCutOff j s z (cap_of cap)) (sym kept) past in
    record { row = is.row; stopped = (above, out, rw same past_here) }
