-- Blocks of sessions that are passed over, since none of their transactions has to come before another.
use Rattle.std.proofs.Common.{◌≡◌, ◌<◌, ◌≤◌, ◌+◌, ◌*◌, ◌/◌, ◌∙◌, ◌⊎◌, inl, inr, ℕ, Bool, true, false, List, get_or, sym, subst, arith}
use Rattle.std.proofs.lemmas.Bool.{cases_lt, false≢true}
use Rattle.tcc_reads.specs.History.{History, IsBySession, owner}
use Rattle.tcc_graph.specs.Keys.{key_at}
use Rattle.tcc_graph.specs.Levels.{causally}
use Rattle.tcc_graph.specs.Links.{IsReason}
use Rattle.tcc_graph.specs.declared.step.Step.{Step}
use Rattle.tcc_graph.proofs.WriterLemmas.{writer_in, read_is_key}
use Rattle.tcc_clocks.specs.Clocks.{LeadsOnward}
use Rattle.tcc_clocks.specs.Needed.{AreNeeded}
use Rattle.tcc_clocks.specs.declared.latest.TheConstants.{WIDE}
use Rattle.tcc_judge.specs.Orders.{BreaksAxiom}
use Rattle.tcc_judge.specs.Spanned.{IsLeadingBack}
use Rattle.tcc_judge.specs.private.Contradicted.{AreContradictedTo, IsContradictedBy, IsReadTo}
use Rattle.tcc_judge.specs.private.Sources.{AreSourcesTo}
use Rattle.tcc_judge.proofs.BehindLemmas.{IsBrokenPast, never_init}
use Rattle.tcc_judge.proofs.ContradictedLemmas.{greatest_same}

module _ (h : History) (needed : List Bool) (are : AreNeeded h needed) (number : ℕ) (unmarked : get_or needed number false ≡ false) where
  -- in a block that is passed over, no transaction has to come before another
  none_of_block : (b a : ℕ) (x : List ℕ) (c : ℕ) (walk : List Step) → IsReason (causally h) b a x c walk → 0 < b
      → number * WIDE ≤ owner h b → owner h b < (number + 1) * WIDE → ⊥
  none_of_block b a x c walk reason some late less =
      let block : owner h b / WIDE ≡ number = omega (arith, late, less) in
      let marked : get_or needed number false ≡ true
      = subst (λ (z : ℕ). get_or needed z false ≡ true) block
      (are a b c x reason.0.1 (writer_in h x b (read_is_key h a c x reason.0.1) reason.0.2) some reason.0.0) in
      false≢true (sym unmarked ∙ marked)

  -- a transaction that breaks the axiom is of a later session too
  pub broken_passed : (order : List ℕ) → IsBrokenPast h order (number * WIDE) → IsBrokenPast h order ((number + 1) * WIDE)
  broken_passed order past at is some = go is (cases_lt (owner h at.0) ((number + 1) * WIDE))
    where
      late : number * WIDE ≤ owner h at.0
      late = past at is some

      go : BreaksAxiom (causally h) order at → (owner h at.0 < (number + 1) * WIDE) ⊎ ((number + 1) * WIDE ≤ owner h at.0)
          → (number + 1) * WIDE ≤ owner h at.0
      go broken (inr high) = high
      go (x, c, walk, reason, apart) (inl low) = absurd (none_of_block at.0 at.1 x c walk reason some late low)

  -- what is contradicted by earlier sessions is contradicted by more of them
  more : (order : List ℕ) (a : ℕ) (x : List ℕ) (c : ℕ) → IsContradictedBy h order 0 (number * WIDE) a x c → IsContradictedBy h order 0 ((number + 1) * WIDE) a x c
  more order a x c is = record {
    by = is.by;
    committed = is.committed;
    low = is.low;
    high = omega (arith, is.high);
    walk = is.walk;
    reason = is.reason;
    apart = is.apart;
  }

  fewer : (order : List ℕ) (a : ℕ) (x : List ℕ) (c : ℕ) → IsContradictedBy h order 0 ((number + 1) * WIDE) a x c → IsContradictedBy h order 0 (number * WIDE) a x c
  fewer order a x c is = record {
    by = is.by;
    committed = is.committed;
    low = is.low;
    high = go (cases_lt (owner h is.by) (number * WIDE));
    walk = is.walk;
    reason = is.reason;
    apart = is.apart;
  }
    where
      go : (owner h is.by < number * WIDE) ⊎ (number * WIDE ≤ owner h is.by) → owner h is.by < number * WIDE
      go (inl early) = early
      go (inr late) = absurd (none_of_block is.by a x c is.walk is.reason is.committed late is.high)

  pub contradicted_passed : (order positions lasts : List ℕ) (stale : List Bool) → AreContradictedTo h order positions (number * WIDE) lasts stale
      → AreContradictedTo h order positions ((number + 1) * WIDE) lasts stale
  unfolding more fewer
  contradicted_passed order positions lasts stale w = record {
    long = w.long;
    first = w.first;
    each = λ place some l.
        let a = get_or order place 0 in
        greatest_same (IsReadTo h order positions 0 (number * WIDE) a) (IsReadTo h order positions 0 ((number + 1) * WIDE) a) (get_or lasts place 0)
        (λ n is. record { key = is.key; reader = is.reader; contradicted = more order a is.key is.reader is.contradicted; here = is.here })
        (λ n is. record { key = is.key; reader = is.reader; contradicted = fewer order a is.key is.reader is.contradicted; here = is.here }) (w.each place some l);
    keys_long = w.keys_long;
    of_key = λ k l. (
      (λ is. let by = (w.of_key k l).0 is in (by.0, more order 0 (key_at h k) by.0 by.1)),
      (λ is. (w.of_key k l).1 (is.0, fewer order 0 (key_at h k) is.0 is.1)),
    );
  }

  -- a transaction that has to come before one that comes before it is of an earlier session
  pub sources_passed : IsBySession h.entries → (order : List ℕ) → LeadsOnward h order → (marks : List Bool) → AreSourcesTo h order (number * WIDE) marks
      → AreSourcesTo h order ((number + 1) * WIDE) marks
  sources_passed numbered order onward marks w = record {
    long = w.long;
    each = λ v l. (
      (λ is. let was = (w.each v l).0 is in (was.0, omega (arith, was.1))),
      (λ is. (w.each v l).1 (is.0, early v is.0 is.1 (cases_lt (owner h v) (number * WIDE)))),
    );
  }
    where
      early : (v : ℕ) → IsLeadingBack h order v → owner h v < (number + 1) * WIDE → (owner h v < number * WIDE) ⊎ (number * WIDE ≤ owner h v)
          → owner h v < number * WIDE
      early v is less (inl low) = low
      early v (a, x, c, walk, reason, some, apart) less (inr late) =
          absurd (none_of_block v a x c walk reason (never_init h numbered order onward (v, a) (x, c, walk, reason, apart)) late less)
