-- A cover stays one: as a transaction comes, as a writer becomes unreadable, as a session leaves.
use Rattle.std.proofs.Common.{ℕ, ◌≡◌, ◌<◌, ◌⊎◌, inl, inr, Bool, true, false, List, [], ◌∷◌, None, Some, refl, sym, ap, subst, ◌∙◌, arith}
use Rattle.std.specs.Prelude.{if◌then◌else◌}
use Rattle.std.specs.List.{Contains}
use Rattle.std.proofs.lemmas.Bool.{cases_eq, false≢true}
use Rattle.tcc_reads.specs.History.{Entry, History, count}
use Rattle.tcc_graph.specs.Keys.{IsWriter, has_name}
use Rattle.tcc_watch.specs.Delivered.{IsDelivered, with_last}
use Rattle.tcc_watch.proofs.Arrived.{old_or_new}
use Rattle.tcc_forget.specs.Covers.{ComesOn, Cover, Covers, IsCover, IsKnown, IsReadable, LeadsTo, Readable, with_listed}
use Rattle.tcc_forget.specs.Sweeps.{DropsTop, MakesTop, Unlists}
use Rattle.tcc_forget.proofs.Arriving.{new_writer, new_writes, writer_stays, writer_was}
use Rattle.tcc_forget.proofs.Known.{known_observed, known_stays}
use Rattle.tcc_forget.proofs.Leading.{leads_join, leads_stay, reached_leads}
use Rattle.tcc_forget.proofs.Lists.{cases_some, head_or_tail, in_head, in_tail, none_is, some_is}

abbrev nothing : Cover
nothing x = record { listed = []; top = None }

none_readable : (a : ℕ) → IsReadable (record { listed = []; top = None }) a → ⊥
none_readable a (inl (k, within, here)) = absurd (omega (arith, within))
none_readable a (inr is) = none_is a None refl is

pub begins : (h : History) (live : List ℕ) → count h ≡ 1 → Covers h live nothing
begins h live one x = record {
  some = λ a readable. absurd (none_readable a readable);
  written = λ a readable. absurd (none_readable a readable);
  unlisted = λ top is. absurd (none_is top None refl is);
  known = λ top is. absurd (none_is top None refl is);
  onward = λ top b is. absurd (none_is top None refl is);
  covered = λ w some writer neither. absurd (omega (arith, some, writer.0, one));
}

-- ---- a transaction comes

module _ (h : History) (live : List ℕ) (cover : Cover) (e : Entry) (delivered : IsDelivered h) (covers : Covers h live cover)
    (on : ComesOn h live e) where
  abbrev g : History
  g = with_last h e

  abbrev t : ℕ
  t = count h

  module _ (x : List ℕ) where
    abbrev old : Readable
    old = cover x

    was : IsCover h live x (cover x)
    was = covers x

    abbrev longer : Readable
    longer = record { listed = t ∷ old.listed; top = old.top }

    -- the top and what it covers stay
    onward_there : (top b : ℕ) → old.top ≡ Some top → Contains old.listed b → LeadsTo g top b
    onward_there top b is listed = leads_stay h e top b (was.onward top b is listed)

    old_covered : (w : ℕ) → 0 < w → w < count h → IsWriter g w x → (IsReadable old w → ⊥)
        → (c : ℕ) × IsReadable old c × IsKnown g live c × LeadsTo g w c
    old_covered w some below writer neither =
        let p = was.covered w some (writer_was h e w x below writer) neither in
        (p.0, p.1, known_stays h live e delivered on p.0 p.2, leads_stay h e w p.0 p.3)

    unwritten : has_name e.writes x ≡ false → IsCover g live x old
    unwritten none = record {
      some = was.some;
      written = λ a readable. writer_stays h e a x (was.written a readable);
      unlisted = was.unlisted;
      known = λ top is. known_stays h live e delivered on top (was.known top is);
      onward = onward_there;
      covered = λ w some writer neither. covered w some writer neither (old_or_new h e w writer.0);
    }
      where
        covered : (w : ℕ) → 0 < w → IsWriter g w x → (IsReadable old w → ⊥) → (w < count h) ⊎ (w ≡ count h)
            → (c : ℕ) × IsReadable old c × IsKnown g live c × LeadsTo g w c
        covered w some writer neither (inl before) = old_covered w some before writer neither
        covered w some writer neither (inr new) =
            let writes = new_writes h e x delivered.some (subst (λ (z : ℕ). IsWriter g z x) new writer) in
            absurd (false≢true (sym none ∙ writes))

    readable_more : (a : ℕ) → IsReadable old a → IsReadable longer a
    readable_more a (inl listed) = inl (in_tail t a old.listed listed)
    readable_more a (inr is) = inr is

    readable_was : (a : ℕ) → IsReadable longer a → (t ≡ a) ⊎ IsReadable old a
    readable_was a (inl listed) = go (head_or_tail t a old.listed listed)
      where
        go : (t ≡ a) ⊎ Contains old.listed a → (t ≡ a) ⊎ IsReadable old a
        go (inl same) = inl same
        go (inr there) = inr (inl there)
    readable_was a (inr is) = inr (inr is)

    written : has_name e.writes x ≡ true → IsCover g live x longer
    written is_written = record {
      some = λ a readable. some a (readable_was a readable);
      written = λ a readable. writes a (readable_was a readable);
      unlisted = λ top is listed. unlisted top is (head_or_tail t top old.listed listed);
      known = λ top is. known_stays h live e delivered on top (was.known top is);
      onward = λ top b is listed. onward top b is (head_or_tail t b old.listed listed);
      covered = λ w some writer neither. covered w some writer neither (old_or_new h e w writer.0);
    }
      where
        some : (a : ℕ) → (t ≡ a) ⊎ IsReadable old a → 0 < a
        some a (inl new) = omega (arith, new, delivered.some)
        some a (inr readable) = was.some a readable

        writes : (a : ℕ) → (t ≡ a) ⊎ IsReadable old a → IsWriter g a x
        writes a (inl new) = subst (λ (z : ℕ). IsWriter g z x) new (new_writer h e x is_written)
        writes a (inr readable) = writer_stays h e a x (was.written a readable)

        unlisted : (top : ℕ) → old.top ≡ Some top → (t ≡ top) ⊎ Contains old.listed top → ⊥
        unlisted top is (inl new) = absurd (omega (arith, new, (was.written top (inr is)).0))
        unlisted top is (inr listed) = was.unlisted top is listed

        onward : (top b : ℕ) → old.top ≡ Some top → (t ≡ b) ⊎ Contains old.listed b → LeadsTo g top b
        onward top b is (inl new) =
            subst (λ (z : ℕ). LeadsTo g top z) new (inr (reached_leads g top t (known_observed h live e delivered on top (was.known top is))))
        onward top b is (inr listed) = onward_there top b is listed

        covered : (w : ℕ) → 0 < w → IsWriter g w x → (IsReadable longer w → ⊥) → (w < count h) ⊎ (w ≡ count h)
            → (c : ℕ) × IsReadable longer c × IsKnown g live c × LeadsTo g w c
        covered w some writer neither (inl before) =
            let p = old_covered w some before writer (λ readable. neither (readable_more w readable)) in (p.0, readable_more p.0 p.1, p.2, p.3)
        covered w some writer neither (inr new) =
            absurd (neither (inl (subst (λ (z : ℕ). Contains (t ∷ old.listed) z) (sym new) (in_head t old.listed))))

  pub comes : Covers g live (with_listed h e cover)
  comes x = go (has_name e.writes x) refl
    where
      go : (b : Bool) → has_name e.writes x ≡ b → IsCover g live x (if b then longer x else cover x)
      go true is = written x is
      go false is = unwritten x is

-- ---- writers become unreadable

module _ (h : History) (live : List ℕ) (x : List ℕ) (old new : Readable) (was : IsCover h live x old) where
  pub unlists : Unlists h live old new → IsCover h live x new
  unlists u = record {
    some = λ a readable. was.some a (readable_was a readable);
    written = λ a readable. was.written a (readable_was a readable);
    unlisted = λ top is listed. was.unlisted top (sym u.same ∙ is) ((u.without top).0 listed).0;
    known = λ top is. was.known top (sym u.same ∙ is);
    onward = λ top b is listed. was.onward top b (sym u.same ∙ is) ((u.without b).0 listed).0;
    covered = covered;
  }
    where
      readable_was : (a : ℕ) → IsReadable new a → IsReadable old a
      readable_was a (inl listed) = inl ((u.without a).0 listed).0
      readable_was a (inr is) = inr (sym u.same ∙ is)

      g_there : IsReadable new u.g
      g_there = inl ((u.without u.g).1 (u.listed, u.apart))

      -- what was covered by b is covered by the one after it
      moved : (w : ℕ) → (c : ℕ) × IsReadable old c × IsKnown h live c × LeadsTo h w c → (c : ℕ) × IsReadable new c × IsKnown h live c × LeadsTo h w c
      moved w (c, inr is, known, leads) = (c, inr (u.same ∙ is), known, leads)
      moved w (c, inl listed, known, leads) = go (cases_eq c u.b)
        where
          go : (c ≡ u.b) ⊎ (c ≡ u.b → ⊥) → (c : ℕ) × IsReadable new c × IsKnown h live c × LeadsTo h w c
          go (inl same) = (u.g, g_there, u.known, leads_join h w u.b u.g (subst (λ (z : ℕ). LeadsTo h w z) same leads) u.onward)
          go (inr apart) = (c, inl ((u.without c).1 (listed, apart)), known, leads)

      covered : (w : ℕ) → 0 < w → IsWriter h w x → (IsReadable new w → ⊥) → (c : ℕ) × IsReadable new c × IsKnown h live c × LeadsTo h w c
      covered w some writer neither = go (cases_eq w u.b)
        where
          go : (w ≡ u.b) ⊎ (w ≡ u.b → ⊥) → (c : ℕ) × IsReadable new c × IsKnown h live c × LeadsTo h w c
          go (inl same) = (u.g, g_there, u.known, subst (λ (z : ℕ). LeadsTo h z u.g) (sym same) u.onward)
          go (inr apart) = moved w (was.covered w some writer not_old)
            where
              not_old : IsReadable old w → ⊥
              not_old (inl listed) = neither (inl ((u.without w).1 (listed, apart)))
              not_old (inr is) = neither (inr (u.same ∙ is))

  pub drops_top : DropsTop h live old new → IsCover h live x new
  drops_top d = record {
    some = λ a readable. was.some a (readable_was a readable);
    written = λ a readable. was.written a (readable_was a readable);
    unlisted = λ top is. absurd (none_is top new.top d.none is);
    known = λ top is. absurd (none_is top new.top d.none is);
    onward = λ top b is. absurd (none_is top new.top d.none is);
    covered = covered;
  }
    where
      readable_was : (a : ℕ) → IsReadable new a → IsReadable old a
      readable_was a (inl listed) = inl (subst (λ (z : List ℕ). Contains z a) d.same listed)
      readable_was a (inr is) = absurd (none_is a new.top d.none is)

      there : (a : ℕ) → Contains old.listed a → IsReadable new a
      there a listed = inl (subst (λ (z : List ℕ). Contains z a) (sym d.same) listed)

      moved : (w : ℕ) → (c : ℕ) × IsReadable old c × IsKnown h live c × LeadsTo h w c → (c : ℕ) × IsReadable new c × IsKnown h live c × LeadsTo h w c
      moved w (c, inl listed, known, leads) = (c, there c listed, known, leads)
      moved w (c, inr is, known, leads) = (d.g, there d.g d.listed, d.known, leads_join h w c d.g leads (was.onward c d.g is d.listed))

      covered : (w : ℕ) → 0 < w → IsWriter h w x → (IsReadable new w → ⊥) → (c : ℕ) × IsReadable new c × IsKnown h live c × LeadsTo h w c
      covered w some writer neither = go (cases_some old.top w)
        where
          go : (old.top ≡ Some w) ⊎ (old.top ≡ Some w → ⊥) → (c : ℕ) × IsReadable new c × IsKnown h live c × LeadsTo h w c
          go (inl is) = (d.g, there d.g d.listed, d.known, was.onward w d.g is d.listed)
          go (inr isnt) = moved w (was.covered w some writer not_old)
            where
              not_old : IsReadable old w → ⊥
              not_old (inl listed) = neither (there w listed)
              not_old (inr is) = isnt is

  pub makes_top : MakesTop h live old new → IsCover h live x new
  makes_top m = record {
    some = λ a readable. was.some a (readable_was a readable);
    written = λ a readable. was.written a (readable_was a readable);
    unlisted = λ top is listed. none_listed top listed;
    known = λ top is. subst (λ (z : ℕ). IsKnown h live z) (some_is m.top top new.top m.made is) m.known;
    onward = λ top b is listed. absurd (none_listed b listed);
    covered = λ w some writer neither. moved w (was.covered w some writer (λ readable. neither (there w readable)));
  }
    where
      none_listed : (a : ℕ) → Contains new.listed a → ⊥
      none_listed a listed = go (subst (λ (z : List ℕ). Contains z a) m.none listed)
        where
          go : Contains [] a → ⊥
          go (k, within, here) = absurd (omega (arith, within))

      readable_was : (a : ℕ) → IsReadable new a → IsReadable old a
      readable_was a (inl listed) = absurd (none_listed a listed)
      readable_was a (inr is) = inl (subst (λ (z : ℕ). Contains old.listed z) (some_is m.top a new.top m.made is) m.listed)

      there : (a : ℕ) → IsReadable old a → IsReadable new a
      there a (inl listed) = inr (m.made ∙ ap Some (sym (m.only a listed)))
      there a (inr is) = absurd (none_is a old.top m.free is)

      moved : (w : ℕ) → (c : ℕ) × IsReadable old c × IsKnown h live c × LeadsTo h w c → (c : ℕ) × IsReadable new c × IsKnown h live c × LeadsTo h w c
      moved w (c, readable, known, leads) = (c, there c readable, known, leads)

-- ---- a session leaves

pub leaves : (h : History) (live others : List ℕ) (cover : Cover) → ((session : ℕ) → Contains others session → Contains live session)
    → Covers h live cover → Covers h others cover
leaves h live others cover within covers x = record {
  some = (covers x).some;
  written = (covers x).written;
  unlisted = (covers x).unlisted;
  known = λ top is. known_less top ((covers x).known top is);
  onward = (covers x).onward;
  covered = λ w some writer neither. let p = (covers x).covered w some writer neither in (p.0, p.1, known_less p.0 p.2, p.3);
}
  where
    known_less : (w : ℕ) → IsKnown h live w → IsKnown h others w
    known_less w known session is_live = known session (within session is_live)
