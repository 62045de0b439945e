-- A read that contradicts a cover closes a cycle.
use Rattle.std.proofs.Common.{ℕ, ◌≡◌, ◌<◌, ◌≤◌, ◌⊎◌, inl, inr, List, Some, sym, subst, arith}
use Rattle.std.specs.List.{Contains}
use Rattle.std.proofs.lemmas.Bool.{cases_lt}
use Rattle.tcc_reads.specs.History.{Entry, History, count}
use Rattle.tcc_graph.specs.Levels.{causally}
use Rattle.tcc_graph.specs.Routes.{HasCycle}
use Rattle.tcc_watch.specs.Delivered.{IsDelivered, with_last}
use Rattle.tcc_watch.specs.private.Rows.{IsRouted}
use Rattle.tcc_forget.specs.Cases.{Forgotten, Initial, IsOutdated, Observes, Passed}
use Rattle.tcc_forget.specs.Covers.{ComesOn, Cover, Covers, IsCover, IsReadable, LeadsTo}
use Rattle.tcc_forget.proofs.Arriving.{pair_of_read, writer_stays}
use Rattle.tcc_forget.proofs.Known.{known_observed}
use Rattle.tcc_forget.proofs.Leading.{around, derived_link, initial_leads, leads_stay}
use Rattle.tcc_forget.proofs.Lists.{cases_some}

module _ (h : History) (live : List ℕ) (cover : Cover) (e : Entry) (delivered : IsDelivered h) (covers : Covers h live cover)
    (on : ComesOn h live e) where
  abbrev g : History
  g = with_last h e

  abbrev t : ℕ
  t = count h

  module _ (x : List ℕ) (a : ℕ) (read : Contains e.reads (x, a)) where
    abbrev here : IsCover h live x (cover x)
    here = covers x

    -- a link to the source of the read, from a readable one that the reader has observed
    link_to : (b : ℕ) → IsReadable (cover x) b → (b ≡ a → ⊥) → Observes h e b → IsRouted (causally g) b a
    link_to b readable apart observed =
        derived_link g b a t x apart (pair_of_read h e x a on.may read) (writer_stays h e b x (here.written b readable)) observed

    closes : (b : ℕ) → IsReadable (cover x) b → (b ≡ a → ⊥) → Observes h e b → LeadsTo h a b → HasCycle (causally g)
    closes b readable apart observed leads = around g b a (link_to b readable apart observed) (leads_stay h e a b leads)

    -- a source that isn't readable comes before the one that covers it
    forgotten : 0 < a → (IsReadable (cover x) a → ⊥) → HasCycle (causally g)
    forgotten some not_readable =
        let w = here.covered a some (on.sources x a read) not_readable in
        closes w.0 w.1 (λ same. not_readable (subst (λ (z : ℕ). IsReadable (cover x) z) same w.1)) (known_observed h live e delivered on w.0 w.2) w.3

    -- `init` comes before each that is readable
    initial : (b : ℕ) → IsReadable (cover x) b → Observes h e b → a ≡ 0 → HasCycle (causally g)
    initial b readable observed none =
        let some : 0 < b = here.some b readable in
        let below : b < count h = (here.written b readable).0 in
        closes b readable (λ same. absurd (omega (arith, same, none, some))) observed
        (subst (λ (z : ℕ). LeadsTo h z b) (sym none) (inr (initial_leads h b some below)))

    -- the top comes before each that is listed
    passed : (b : ℕ) → Contains (cover x).listed b → Observes h e b → (Contains (cover x).listed a → ⊥) → (0 < a) ⊎ (a ≤ 0)
        → ((cover x).top ≡ Some a) ⊎ ((cover x).top ≡ Some a → ⊥) → HasCycle (causally g)
    passed b listed observed unlisted (inr none) is = initial b (inl listed) observed (omega (arith, none))
    passed b listed observed unlisted (inl some) (inl top) =
        closes b (inl listed) (λ same. unlisted (subst (λ (z : ℕ). Contains (cover x).listed z) same listed)) observed (here.onward a b top listed)
    passed b listed observed unlisted (inl some) (inr not_top) = forgotten some neither
      where
        neither : IsReadable (cover x) a → ⊥
        neither (inl there) = unlisted there
        neither (inr is) = not_top is

    pub outdated_cycle : IsOutdated h e (cover x) a → HasCycle (causally g)
    outdated_cycle (Forgotten some not_readable) = forgotten some not_readable
    outdated_cycle (Initial top none is) = initial top (inr is) (known_observed h live e delivered on top (here.known top is)) none
    outdated_cycle (Passed b unlisted listed observed) =
        passed b listed observed unlisted (cases_lt 0 a) (cases_some (cover x).top a)
