-- The links of a cycle are, in the numbers of the cut by them, a cycle of the cut.
use Rattle.std.proofs.Common.{ℕ, zero, suc, ◌≡◌, ◌<◌, ◌+◌, ◌==◌, ◌⊎◌, inl, inr, true, List, [], ◌∷◌, length, filter, map, refl, sym, ap, subst, ◌∙◌, arith}
use Rattle.std.specs.Prelude.{All, Option, Some, slice_index, slice_index_or, unwrap_or}
use Rattle.std.specs.List.{Contains}
use Rattle.std.proofs.lemmas.Bool.{cases_eq, cases_order, eq-eqb, eqb-true, or_cases, or_left, or_right}
use Rattle.std.proofs.lemmas.List.{length-map}
use Rattle.std.proofs.lemmas.List.Elements.{All-cons, All-contains_itself, All-head, All-nil, All-tail}
use Rattle.tcc_txn.specs.Snapshots.{Sessions}
use Rattle.tcc_txn.proofs.Lists.{from_filter, from_map, in_filter, in_map}
use Rattle.tcc_reads.specs.History.{Entry, History, count, entry_at, owner, place as place_in}
use Rattle.tcc_reads.specs.OneSource.{HasOneSource, IsNumber}
use Rattle.tcc_reads.specs.Sites.{Stand, is_committed, committed, stands}
use Rattle.tcc_reads.specs.Sources.{external_reads, history, pair_cmp, source, visible_write}
use Rattle.tcc_reads.proofs.OneSource.{one_source}
use Rattle.tcc_reads.proofs.Rising.{by_session}
use Rattle.tcc_graph.specs.Keys.{IsWriter, has_name}
use Rattle.tcc_graph.specs.Levels.{judged}
use Rattle.tcc_graph.specs.Links.{IsLink, link_to}
use Rattle.tcc_graph.specs.Relations.{IsReadsPair, IsSessionPair, reads_from}
use Rattle.tcc_graph.specs.Renumbered.{link_by, step_by}
use Rattle.tcc_graph.specs.Routes.{AreCycle, LinksLead}
use Rattle.tcc_graph.specs.Walks.{IsStep, Leads, step_to}
use Rattle.tcc_graph.specs.declared.level.Level.{Level}
use Rattle.tcc_graph.specs.declared.link.Link.{Link}
use Rattle.tcc_graph.specs.declared.link.Link.TheVariants as link
use Rattle.tcc_graph.specs.declared.step.Step.{Step}
use Rattle.tcc_graph.specs.declared.step.Step.TheVariants as step
use Rattle.tcc_graph.proofs.Kept.{allowed_by, cycle_by, from_step, leads_on, to_step}
use Rattle.tcc_graph.proofs.Pairs.{initial_pair, lower_first, pair_parts}
use Rattle.tcc_graph.specs.Operations.{source_value}
use Rattle.tcc_slices.specs.Needs.{HasStep, IsMet, IsWritten}
use Rattle.tcc_slices.specs.private.Carrying.{place}
use Rattle.tcc_slices.specs.private.Fitting.{IsFit}
use Rattle.tcc_slices.specs.declared.needs.Need.{Need}
use Rattle.tcc_slices.specs.declared.needs.Need.TheVariants as need
use Rattle.tcc_slices.proofs.Elements.{once_from, once_in, reads_apart}
use Rattle.tcc_slices.proofs.Faultless.{IsAt, at_part, faultless, listed, part_of, some_shown}
use Rattle.tcc_slices.proofs.Freed.{put_visible, visible_put}
use Rattle.tcc_slices.proofs.Needing.{contradicted_step, met_listed, read_listed, reads_step, session_step, walk_steps, write_listed}
use Rattle.tcc_slices.proofs.Numbered.{entry_is, number_below, number_some}
use Rattle.tcc_slices.proofs.PartsOf.{put_kept, put_value, read_kept, source_is}
use Rattle.tcc_slices.proofs.Placing.{place_is as place_of}
use Rattle.tcc_slices.proofs.Ranging.{all_pass}
use Rattle.tcc_slices.proofs.Sliced.{same_names, same_owner}
use Rattle.tcc_slices.proofs.Written.{shown, shows_it, value_written, written_value}

module _ (s slice : Sessions) (links : List Link) (needs : List (ℕ × Need)) (numbers : List ℕ) (fit : IsFit s slice links needs numbers) where
  abbrev h : History
  h = history s

  abbrev k : History
  k = history slice

  abbrev g : ℕ → ℕ
  g = place numbers

  -- ---- the number of a part
  ended : committed (stands slice) ≡ stands slice
  ended = all_pass is_committed (stands slice) (λ i d inside. (fit.cut.each i d inside).part.ended)

  -- a transaction of the whole that the links meet, and its part
  record HasPart (n : ℕ) : Type 0 where
    index : ℕ
    t : Stand
    at : IsAt s slice links needs numbers fit index t
    number : slice_index numbers (index + 1) ≡ n
    moved : g n ≡ index + 1
    is : IsNumber slice (g n) t

  part_at : (n : ℕ) (one : Need) → 0 < n → Contains needs (n, one) → HasPart n
  part_at n one some has = record { index = w.0; t = p.0; at = p.2; number = w.2; moved = moved; is = is }
    where
      w : (i : ℕ) × (i < length (stands slice)) × (slice_index numbers (i + 1) ≡ n)
      w = part_of s slice links needs numbers fit n one some has

      p : (t : Stand) × Contains (stands slice) t × IsAt s slice links needs numbers fit w.0 t
      p = at_part s slice links needs numbers fit w.0 w.1

      moved : g n ≡ w.0 + 1
      moved = sym (place_of numbers n fit.rising (w.0 + 1) (omega (arith, w.1, fit.cut.long)) w.2)

      is : IsNumber slice (g n) p.0
      is = (
        w.0,
        subst (λ (z : List Stand). w.0 < length z) (sym ended) w.1,
        moved,
        subst (λ (z : List Stand). slice_index_or z w.0 p.0 ≡ p.0) (sym ended) p.2.here,
      )

  met_part : (n : ℕ) → 0 < n → IsMet links n → HasPart n
  met_part n some met =
      let w = met_listed links n some met in
      part_at n w.0 some (listed s slice links needs numbers fit n w.0 w.1)

  zero_moved : g 0 ≡ 0
  zero_moved = sym (place_of numbers 0 fit.rising 0 (omega (arith, fit.cut.long)) fit.first)

  below : (n : ℕ) → IsMet links n → g n < count k
  below zero met = subst (λ (z : ℕ). z < count k) (sym zero_moved) (omega arith)
  below (suc m) met = let p = met_part (suc m) (omega arith) met in number_below slice (g (suc m)) p.t p.is

  above : (n : ℕ) → 0 < n → IsMet links n → 0 < g n
  above n some met = let p = met_part n some met in omega (arith, p.moved)

  -- numbers that are met rise as they did
  rises : (m n : ℕ) → 0 < m → m < n → IsMet links m → IsMet links n → g m < g n
  rises m n some less met_m met_n = go (cases_order p.index q.index)
    where
      p : HasPart m
      p = met_part m some met_m

      q : HasPart n
      q = met_part n (omega (arith, some, less)) met_n

      go : (p.index ≡ q.index) ⊎ ((p.index < q.index) ⊎ (q.index < p.index)) → g m < g n
      go (inl same) = absurd (omega (arith, less, sym p.number ∙ ap (λ (i : ℕ). slice_index numbers (i + 1)) same ∙ q.number))
      go (inr (inl low)) = omega (arith, low, p.moved, q.moved)
      go (inr (inr high)) =
          let up = fit.rising (q.index + 1) (p.index + 1) (omega (arith, high)) (omega (arith, p.at.inside, fit.cut.long)) in
          absurd (omega (arith, up, p.number, q.number, less))

  apart : (m n : ℕ) → IsMet links m → IsMet links n → g m ≡ g n → m ≡ n
  apart m n met_m met_n same = go (cases_order m n)
    where
      low : (a b : ℕ) → a < b → IsMet links a → IsMet links b → g a < g b
      low zero b less met_a met_b = omega (arith, zero_moved, above b less met_b)
      low (suc a) b less met_a met_b = rises (suc a) b (omega arith) less met_a met_b

      go : (m ≡ n) ⊎ ((m < n) ⊎ (n < m)) → m ≡ n
      go (inl e) = e
      go (inr (inl less)) = absurd (omega (arith, low m n less met_m met_n, same))
      go (inr (inr more)) = absurd (omega (arith, low n m more met_n met_m, same))

  -- ---- steps
  session_moved : (a b : ℕ) → HasStep links (step.Session a b) → IsSessionPair k (g a) (g b)
  session_moved zero b has =
      let w = pair_parts h 0 b (fit.steps (step.Session 0 b) has) in
      let met : IsMet links b = inl (step.Session 0 b, has, inr refl) in
      initial_pair k (g 0) (g b) zero_moved (below 0 (inl (step.Session 0 b, has, inl refl))) (above b w.some met) (below b met)
  session_moved (suc a) b has = go (cases_order (suc a) b)
    where
      some : 0 < suc a
      some = omega arith

      met_a : IsMet links (suc a)
      met_a = inl (step.Session (suc a) b, has, inl refl)

      met_b : IsMet links b
      met_b = inl (step.Session (suc a) b, has, inr refl)

      more : 0 < b
      more = (pair_parts h (suc a) b (fit.steps (step.Session (suc a) b) has)).some

      p : HasPart (suc a)
      p = met_part (suc a) some met_a

      q : HasPart b
      q = met_part b more met_b

      owned : owner h (suc a) ≡ owner h b
      owned = (pair_parts h (suc a) b (fit.steps (step.Session (suc a) b) has)).same some

      whole_p : IsNumber s (suc a) p.at.whole
      whole_p = subst (λ (z : ℕ). IsNumber s z p.at.whole) p.number p.at.of.is

      whole_q : IsNumber s b q.at.whole
      whole_q = subst (λ (z : ℕ). IsNumber s z q.at.whole) q.number q.at.of.is

      owners : owner k (g (suc a)) ≡ owner k (g b)
      owners =
          same_owner slice (g (suc a)) (g b) p.t q.t p.is q.is
          (p.at.of.name ∙ same_names s (suc a) b p.at.whole q.at.whole whole_p whole_q owned ∙ sym q.at.of.name)

      go : (suc a ≡ b) ⊎ ((suc a < b) ⊎ (b < suc a)) → IsSessionPair k (g (suc a)) (g b)
      go (inl same) = absurd (omega (arith, (pair_parts h (suc a) b (fit.steps (step.Session (suc a) b) has)).lower some, ap (place_in h) same))
      go (inr (inl less)) =
          lower_first k (g (suc a)) (g b) (above (suc a) some met_a) (below (suc a) met_a) (above b more met_b) (below b met_b) owners
          ((by_session slice (g (suc a)) (g b) (rises (suc a) b some less met_a met_b) (below b met_b)).1 owners)
      go (inr (inr high)) =
          absurd (omega (
            arith,
            (pair_parts h (suc a) b (fit.steps (step.Session (suc a) b) has)).lower some,
            (by_session s b (suc a) high (pair_parts h (suc a) b (fit.steps (step.Session (suc a) b) has)).from).1 (sym owned),
          ))

  -- what a part shows, where the write is needed
  shows_there : (a : ℕ) (p : HasPart a) (x : List ℕ) (v : ℕ) → Contains needs (a, need.Write x) → visible_write x p.at.whole.txn.ops ≡ Some v
      → visible_write x p.t.txn.ops ≡ Some v
  shows_there a p x v has shown =
      let there = put_kept s needs (slice_index numbers (p.index + 1)) p.t p.at.whole p.at.of x v
      (subst (λ (z : ℕ). Contains needs (z, need.Write x)) (sym p.number) has) shown in
      let w = put_visible x p.t.txn.ops v there in
      let same : Some w.0 ≡ Some v
      = sym (put_value s needs (slice_index numbers (p.index + 1)) p.t p.at.whole p.at.of x w.0 (visible_put x p.t.txn.ops w.0 w.1)) ∙ shown in
      w.1 ∙ same

  reads_moved : (a n : ℕ) (x : List ℕ) → HasStep links (step.Reads a n x) → IsReadsPair k (g a) (g n) x
  reads_moved a zero x has = let inside = (fit.steps (step.Reads a 0 x) has).2.1 in absurd (omega (arith, inside))
  reads_moved a (suc m) x has = (below a (inl (step.Reads a (suc m) x, has, inl refl)), below (suc m) met, in_k)
    where
      met : IsMet links (suc m)
      met = inl (step.Reads a (suc m) x, has, inr refl)

      need_of : Contains needs (suc m, need.Read x a)
      need_of = listed s slice links needs numbers fit (suc m) (need.Read x a) (read_listed links (suc m) a x (omega arith) has)

      p : HasPart (suc m)
      p = part_at (suc m) (need.Read x a) (omega arith) need_of

      is : IsNumber s (suc m) p.at.whole
      is = subst (λ (z : ℕ). IsNumber s z p.at.whole) p.number p.at.of.is

      pair : IsReadsPair h a (suc m) x
      pair = fit.steps (step.Reads a (suc m) x) has

      -- the read in the whole, by its value
      r : (y : List ℕ × ℕ) × Contains (filter (λ read. read.1 == a) (entry_at h (suc m)).reads) y × (y.0 ≡ x)
      r = from_map (λ (read : List ℕ × ℕ). read.0) (filter (λ read. read.1 == a) (entry_at h (suc m)).reads) x pair.2

      kept : Contains (entry_at h (suc m)).reads r.0 × ((r.0.1 == a) ≡ true)
      kept = from_filter (λ (read : List ℕ × ℕ). read.1 == a) (entry_at h (suc m)).reads r.0 r.1

      q : (v : List ℕ × ℕ) × Contains (external_reads p.at.whole) v × (◌≡◌ {A = List ℕ × ℕ} (v.0, source (stands s) v.0 v.1) r.0)
      q =
          from_map (λ (v : List ℕ × ℕ). (v.0, source (stands s) v.0 v.1)) (external_reads p.at.whole) r.0
          (once_from pair_cmp (map (λ (v : List ℕ × ℕ). (v.0, source (stands s) v.0 v.1)) (external_reads p.at.whole)) r.0
          (subst (λ (e : Entry). Contains e.reads r.0) (entry_is s (suc m) p.at.whole is) kept.0))

      key_is : q.0.0 ≡ x
      key_is = ap (λ (z : List ℕ × ℕ). z.0) q.2 ∙ r.2

      reads : Contains (external_reads p.at.whole) (x, q.0.1)
      reads = subst (λ (z : List ℕ). Contains (external_reads p.at.whole) (z, q.0.1)) key_is q.1

      from_a : source (stands s) x q.0.1 ≡ a
      from_a =
          ap (λ (z : List ℕ). source (stands s) z q.0.1) (sym key_is) ∙ ap (λ (z : List ℕ × ℕ). z.1) q.2 ∙ eqb-true r.0.1 a kept.1

      one : HasOneSource s (suc m) x q.0.1
      one = one_source s fit.none (suc m) x q.0.1 (p.at.whole, is, reads)

      -- the value is that which its source shows
      value : q.0.1 ≡ source_value s h a x
      value = go (cases_eq q.0.1 0)
        where
          go : (q.0.1 ≡ 0) ⊎ (q.0.1 ≡ 0 → ⊥) → q.0.1 ≡ source_value s h a x
          go (inl nought) =
              let none : 0 ≡ a = sym (one.initial nought) ∙ from_a in
              nought ∙ ap (λ (z : ℕ). source_value s h z x) none
          go (inr some) =
              let w = one.given some in
              let giver : IsNumber s a w.0 = subst (λ (z : ℕ). IsNumber s z w.0) from_a w.1 in
              sym (source_is s a w.0 x giver ∙ ap (λ (o : Option ℕ). unwrap_or o 0) (shown x q.0.1 w.0 w.2))

      has_read : Contains (external_reads p.t) (x, q.0.1)
      has_read =
          read_kept s needs (slice_index numbers (p.index + 1)) p.t p.at.whole p.at.of x q.0.1 a
          (subst (λ (z : ℕ). Contains needs (z, need.Read x a)) (sym p.number) need_of) value reads

      own : HasOneSource slice (g (suc m)) x q.0.1
      own = one_source slice (faultless s slice links needs numbers fit) (g (suc m)) x q.0.1 (p.t, p.is, has_read)

      source_moved : source (stands slice) x q.0.1 ≡ g a
      source_moved = go (cases_eq q.0.1 0)
        where
          go : (q.0.1 ≡ 0) ⊎ (q.0.1 ≡ 0 → ⊥) → source (stands slice) x q.0.1 ≡ g a
          go (inl nought) =
              let none : 0 ≡ a = sym (one.initial nought) ∙ from_a in
              own.initial nought ∙ sym zero_moved ∙ ap g none
          go (inr some) = sym (own.only some (g a) (other.t, other.is, shows_it x q.0.1 other.t (shows_there a other x q.0.1 written visible)))
            where
              positive : 0 < a
              positive = let w = one.given some in number_some s a w.0 (subst (λ (z : ℕ). IsNumber s z w.0) from_a w.1)

              written : Contains needs (a, need.Write x)
              written = listed s slice links needs numbers fit a (need.Write x) (write_listed links a x positive (inl (suc m, has)))

              other : HasPart a
              other = part_at a (need.Write x) positive written

              other_is : IsNumber s a other.at.whole
              other_is = subst (λ (z : ℕ). IsNumber s z other.at.whole) other.number other.at.of.is

              visible : visible_write x other.at.whole.txn.ops ≡ Some q.0.1
              visible = some_shown (visible_write x other.at.whole.txn.ops) q.0.1 some (value ∙ source_is s a other.at.whole x other_is)

      in_k : Contains (reads_from k (g a) (g (suc m))) x
      in_k =
          in_map (λ (read : List ℕ × ℕ). read.0) (filter (λ read. read.1 == g a) (entry_at k (g (suc m))).reads) (x, source (stands slice) x q.0.1)
          (in_filter (λ (read : List ℕ × ℕ). read.1 == g a) (entry_at k (g (suc m))).reads (x, source (stands slice) x q.0.1)
          (subst (λ (e : Entry). Contains e.reads (x, source (stands slice) x q.0.1)) (sym (entry_is slice (g (suc m)) p.t p.is))
          (once_in pair_cmp reads_apart (map (λ (y : List ℕ × ℕ). (y.0, source (stands slice) y.0 y.1)) (external_reads p.t)) (x, source (stands slice) x q.0.1)
          (in_map (λ (y : List ℕ × ℕ). (y.0, source (stands slice) y.0 y.1)) (external_reads p.t) (x, q.0.1) has_read)))
          (eq-eqb (source (stands slice) x q.0.1) (g a) source_moved))

  writer_moved : (b : ℕ) (x : List ℕ) → IsWritten links b x → IsMet links b → IsWriter h b x → IsWriter k (g b) x
  writer_moved zero x written met w = (below 0 met, or_left _ _ (eq-eqb (g 0) 0 zero_moved))
  writer_moved (suc m) x written met w = (below (suc m) met, or_right (g (suc m) == 0) (has_name (entry_at k (g (suc m))).writes x) there)
    where
      has : Contains needs (suc m, need.Write x)
      has = listed s slice links needs numbers fit (suc m) (need.Write x) (write_listed links (suc m) x (omega arith) written)

      p : HasPart (suc m)
      p = part_at (suc m) (need.Write x) (omega arith) has

      is : IsNumber s (suc m) p.at.whole
      is = subst (λ (z : ℕ). IsNumber s z p.at.whole) p.number p.at.of.is

      writes : has_name (entry_at h (suc m)).writes x ≡ true
      writes = go (or_cases (suc m == 0) (has_name (entry_at h (suc m)).writes x) w.1)
        where
          go : ((suc m == 0) ≡ true) ⊎ (has_name (entry_at h (suc m)).writes x ≡ true) → has_name (entry_at h (suc m)).writes x ≡ true
          go (inl none) = let e : suc m ≡ 0 = eqb-true (suc m) 0 none in absurd (omega arith)
          go (inr here) = here

      there : has_name (entry_at k (g (suc m))).writes x ≡ true
      there =
          let v = written_value p.at.whole x (sym (ap (λ (e : Entry). has_name e.writes x) (entry_is s (suc m) p.at.whole is)) ∙ writes) in
          ap (λ (e : Entry). has_name e.writes x) (entry_is slice (g (suc m)) p.t p.is)
          ∙ value_written p.t x v.0 (shows_there (suc m) p x v.0 has v.1)

  -- ---- walks and links
  step_moved : (t : Step) → HasStep links t → IsStep k (step_by g t)
  step_moved (step.Session a b) has = session_moved a b has
  step_moved (step.Reads a b x) has = reads_moved a b x has

  leads_moved : (a b : ℕ) (walk : List Step) → All (HasStep links) walk → Leads h a b walk → Leads k (g a) (g b) (map (step_by g) walk)
  leads_moved a b [] have led = ap g led
  leads_moved a b (t ∷ walk) have led = (
    from_step g t ∙ ap g led.0,
    step_moved t (All-head (HasStep links) t walk have),
    subst (λ (z : ℕ). Leads k z (g b) (map (step_by g) walk)) (sym (to_step g t)) (leads_moved (step_to t) b walk (All-tail (HasStep links) t walk have) led.2),
  )

  link_moved : (l : Level) (one : Link) → Contains links one → IsLink (judged h l) one → IsLink (judged k l) (link_by g one)
  link_moved l (link.Session a b) has is = session_moved a b (session_step links a b has)
  link_moved l (link.Reads a b x) has is = reads_moved a b x (reads_step links a b x has)
  link_moved l (link.Derived b a x c walk) has is =
      let read = contradicted_step links b a x c walk has in
      let met_b : IsMet links b = inr (x, a, c, walk, has) in
      let met_a : IsMet links a = inl (step.Reads a c x, read, inl refl) in (
        ((λ same. is.0.0 (apart b a met_b met_a same)), reads_moved a c x read, writer_moved b x (inr (a, c, walk, has)) met_b is.0.2),
        ((omega (arith, length-map walk (step_by g), is.1.0.0), leads_moved b c walk (walk_steps links b a x c walk has) is.1.0.1), allowed_by g l walk is.1.1),
      )

  links_moved : (l : Level) (some : List Link) → All (Contains links) some → All (IsLink (judged h l)) some → All (IsLink (judged k l)) (map (link_by g) some)
  links_moved l [] have are = All-nil (IsLink (judged k l))
  links_moved l (one ∷ some) have are =
      All-cons (IsLink (judged k l)) (link_by g one) (map (link_by g) some)
      (link_moved l one (All-head (Contains links) one some have) (All-head (IsLink (judged h l)) one some are))
      (links_moved l some (All-tail (Contains links) one some have) (All-tail (IsLink (judged h l)) one some are))

  all_links : (l : Level) (a b : ℕ) (some : List Link) → LinksLead (judged h l) a b some → All (IsLink (judged h l)) some
  all_links l a b [] led = All-nil (IsLink (judged h l))
  all_links l a b (one ∷ some) led =
      All-cons (IsLink (judged h l)) one some led.1 (all_links l (link_to one) b some led.2)

  pub cycle_moved : (l : Level) → AreCycle (judged h l) links → AreCycle (judged k l) (map (link_by g) links)
  cycle_moved l (start, (some, led)) = (
    g start,
    (cycle_by g (judged k l) start links some (leads_on (judged h l) start start links led)
        (links_moved l links (All-contains_itself links) (all_links l start start links led))).0,
  )
