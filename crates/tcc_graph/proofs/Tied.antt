-- Comparisons of steps and links: they are total orders, and steps that tie are the same if they lead to one end.
use Rattle.std.proofs.Common.{ℕ, ◌≡◌, reverse, refl, sym}
use Rattle.std.specs.Ordering.{nat_cmp, ordering_then}
use Rattle.std.specs.Cmp.{IsTotalOrder}
use Rattle.std.specs.declared.cmp.Ordering.{Ordering}
use Rattle.std.specs.declared.cmp.Ordering.TheVariants.{Less, Equal, Greater}
use Rattle.std.proofs.lemmas.Cmp.{nat_cmp_total, nat_list_cmp_total, then_total, on_total, lists_total, ranked, tied_itself}
use Rattle.std.proofs.lemmas.Map.Lookups.{exact_bytes}
use Rattle.tcc_reads.specs.Sources.{name_cmp}
use Rattle.tcc_graph.specs.Walks.{step_from, step_to}
use Rattle.tcc_graph.specs.Links.{link_from}
use Rattle.tcc_graph.specs.Ties.{step_kind, step_key, step_cmp, link_kind, link_key, link_reader, link_walk, link_cmp}
use Rattle.tcc_graph.specs.declared.step.Step.{Step}
use Rattle.tcc_graph.specs.declared.step.Step.TheVariants as step

pub number_tied : (m n : ℕ) → nat_cmp m n ≡ Equal → m ≡ n
number_tied m n e = ranked m n Equal (sym e)

pub then_tied : (o p : Ordering) → ordering_then o p ≡ Equal → (o ≡ Equal) × (p ≡ Equal)
then_tied Less p e = absurd cc
then_tied Equal p e = (refl, e)
then_tied Greater p e = absurd cc

pub step_total : IsTotalOrder step_cmp
step_total = then_total (on_total step_from nat_cmp_total) (then_total (on_total step_kind nat_cmp_total) (on_total step_key nat_list_cmp_total))

pub step_itself : (s : Step) → step_cmp s s ≡ Equal
step_itself s = tied_itself step_total s

pub link_total : IsTotalOrder link_cmp
link_total =
    then_total (on_total link_from nat_cmp_total) (then_total (on_total link_kind nat_cmp_total) (then_total (on_total link_key nat_list_cmp_total)
    (then_total (on_total link_reader nat_cmp_total) (on_total link_walk (on_total reverse (lists_total step_total))))))

pub step_tied : (s o : Step) → step_to s ≡ step_to o → step_cmp s o ≡ Equal → s ≡ o
step_tied (step.Session a b) (step.Session c d) to e =
    let from = number_tied a c (then_tied (nat_cmp a c) _ e).0 in
    cc
step_tied (step.Session a b) (step.Reads c d y) to e =
    let rest = (then_tied (nat_cmp a c) Less e).1 in
    absurd cc
step_tied (step.Reads a b x) (step.Session c d) to e =
    let rest = (then_tied (nat_cmp a c) Greater e).1 in
    absurd cc
step_tied (step.Reads a b x) (step.Reads c d y) to e =
    let w = then_tied (nat_cmp a c) (name_cmp x y) e in
    let from = number_tied a c w.0 in
    let key = exact_bytes x y w.1 in
    cc
