-- A transaction that comes last: what is there keeps its pairs, walks and reasons, and all that is new has it as its end or its reader.
use Rattle.std.proofs.Common.{ℕ, ◌+◌, ◌≡◌, ◌<◌, ◌≤◌, ◌==◌, ◌||◌, ◌⊎◌, inl, inr, true, List, [], ◌∷◌, map, filter, refl, sym, ap, subst, ◌∙◌, arith, length-append}
use Rattle.std.specs.Prelude.{All}
use Rattle.std.specs.List.{Contains}
use Rattle.std.proofs.Math.ListN.{get_or-append}
use Rattle.std.proofs.lemmas.List.{get_or_push}
use Rattle.std.proofs.lemmas.Bool.{cases_lt}
use Rattle.tcc_reads.specs.History.{Entry, History, count, entry_at, owner, place, initial}
use Rattle.tcc_graph.specs.Relations.{IsSessionPair, IsReadsPair, IsCausalPair}
use Rattle.tcc_graph.specs.Keys.{has_name, IsWriter}
use Rattle.tcc_graph.specs.Walks.{step_to, IsStep, Leads, IsReached}
use Rattle.tcc_graph.specs.Levels.{judged}
use Rattle.tcc_graph.specs.Links.{IsReason, IsLink, link_from, link_to}
use Rattle.tcc_graph.specs.Routes.{LinksLead, HasCycle}
use Rattle.tcc_graph.specs.declared.level.Level.{Level}
use Rattle.tcc_graph.specs.declared.step.Step.{Step}
use Rattle.tcc_graph.specs.declared.step.Step.TheVariants as step
use Rattle.tcc_graph.specs.declared.link.Link.{Link}
use Rattle.tcc_graph.specs.declared.link.Link.TheVariants as link
use Rattle.tcc_graph.proofs.Kept.{IsKept, kept_link, same_link, kept_walk}
use Rattle.tcc_graph.proofs.Pairs.{PairParts, pair_parts, lower_first, initial_pair}
use Rattle.tcc_watch.specs.Delivered.{IsBy, IsDelivered, MayCome, with_last}
use Rattle.tcc_watch.specs.private.Rows.{IsRouted}
use Rattle.tcc_watch.proofs.Rising.{session_rises, read_rises, leads_rise, walk_rises}

module _ (h : History) (e : Entry) where
  abbrev g : History
  g = with_last h e

  pub count_more : count g ≡ count h + 1
  count_more = length-append h.entries (e ∷ [])

  pub old_entry : (n : ℕ) → n < count h → entry_at g n ≡ entry_at h n
  old_entry n below = get_or-append h.entries (e ∷ []) initial n below

  pub new_entry : (n : ℕ) → n ≡ count h → entry_at g n ≡ e
  new_entry n is = get_or_push h.entries e initial n (sym is)

  pub old_owner : (n : ℕ) → n < count h → owner g n ≡ owner h n
  old_owner n below = ap (λ (z : Entry). z.owner) (old_entry n below)

  pub old_place : (n : ℕ) → n < count h → place g n ≡ place h n
  old_place n below = ap (λ (z : Entry). z.place) (old_entry n below)

  -- a number is one of those that were there, or the new one
  pub old_or_new : (n : ℕ) → n < count g → (n < count h) ⊎ (n ≡ count h)
  old_or_new n below = go (cases_lt n (count h))
    where
      go : (n < count h) ⊎ (count h ≤ n) → (n < count h) ⊎ (n ≡ count h)
      go (inl less) = inl less
      go (inr more) = inr (omega (arith, more, below, count_more))

  pub more : (n : ℕ) → n < count h → n < count g
  more n below = omega (arith, below, count_more)

  -- ---- what was there is there

  session_stays : (a b : ℕ) → 0 < a → IsSessionPair h a b → IsSessionPair g a b
  session_stays a b some p =
      let w = pair_parts h a b p in
      lower_first g a b some (more a w.from) w.some (more b w.to) (old_owner a w.from ∙ w.same some ∙ sym (old_owner b w.to))
      (omega (arith, old_place a w.from, old_place b w.to, w.lower some))

  read_stays : (a b : ℕ) (x : List ℕ) → IsReadsPair h a b x → IsReadsPair g a b x
  read_stays a b x (from, to, there) = (
    more a from,
    more b to,
    subst (λ (z : Entry). Contains (map (λ read. read.0) (filter (λ read. read.1 == a) z.reads)) x) (sym (old_entry b to)) there,
  )

  stays : IsKept h g (λ n. n)
  stays = record {
    first = refl;
    some = λ n some below. some;
    below = more;
    once = λ a b at_a at_b same. same;
    session = session_stays;
    written = λ n x some below is. subst (λ (z : Entry). has_name z.writes x ≡ true) (sym (old_entry n below)) is;
    read = read_stays;
  }

  pub link_stays : (level : Level) (l : Link) → IsLink (judged h level) l → IsLink (judged g level) l
  link_stays level l is = subst (λ (z : Link). IsLink (judged g level) z) (same_link l) (kept_link h g (λ n. n) stays level l is)

  lead_stays : (level : Level) (a b : ℕ) (links : List Link) → LinksLead (judged h level) a b links → LinksLead (judged g level) a b links
  lead_stays level a b [] p = p
  lead_stays level a b (l ∷ links) p = (p.0, link_stays level l p.1, lead_stays level (link_to l) b links p.2)

  pub routed_stays : (level : Level) (a b : ℕ) → IsRouted (judged h level) a b → IsRouted (judged g level) a b
  routed_stays level a b (links, (some, p)) = (links, (some, lead_stays level a b links p))

  pub cycle_stays : (level : Level) → HasCycle (judged h level) → HasCycle (judged g level)
  cycle_stays level (s, links, (some, p)) = (s, links, (some, lead_stays level s s links p))

  pub reached_stays : (a b : ℕ) → IsReached h a b → IsReached g a b
  reached_stays a b (walk, p) = (_, kept_walk h g (λ n. n) stays a b walk p)

  -- ---- the numbers still go along the pairs

  module _ (delivered : IsDelivered h) (may : MayCome h e) where
    pub delivered_more : IsDelivered g
    delivered_more = record {
      some = omega (arith, delivered.some, count_more);
      first = old_entry 0 delivered.some ∙ delivered.first;
      placed = λ n some below. placed n some (old_or_new n below);
      sessions = λ m n some less below same. sessions m n some less (old_or_new n below) same;
      sources = λ n below. sources n (old_or_new n below);
    }
      where
        placed : (n : ℕ) → 0 < n → (n < count h) ⊎ (n ≡ count h) → 0 < place g n
        placed n some (inl old) = omega (arith, delivered.placed n some old, old_place n old)
        placed n some (inr new) = let is = ap (λ (z : Entry). z.place) (new_entry n new) in omega (arith, may.placed, is)

        sessions : (m n : ℕ) → 0 < m → m < n → (n < count h) ⊎ (n ≡ count h) → owner g m ≡ owner g n → place g m < place g n
        sessions m n some less (inl old) same =
            let before : m < count h = omega (arith, less, old) in
            let lower : place h m < place h n = delivered.sessions m n some less old (sym (old_owner m before) ∙ same ∙ old_owner n old) in
            omega (arith, lower, old_place m before, old_place n old)
        sessions m n some less (inr new) same =
            let before : m < count h = omega (arith, less, new) in
            let is = ap (λ (z : Entry). z.place) (new_entry n new) in
            let lower : place h m < e.place = may.session m some before (sym (old_owner m before) ∙ same ∙ ap (λ (z : Entry). z.owner) (new_entry n new)) in
            omega (arith, lower, is, old_place m before)

        sources : (n : ℕ) → (n < count h) ⊎ (n ≡ count h) → All (λ read. read.1 < n) (entry_at g n).reads
        sources n (inl old) = subst (λ (z : Entry). All (λ read. read.1 < n) z.reads) (sym (old_entry n old)) (delivered.sources n old)
        sources n (inr new) =
            subst (λ (z : Entry). All (λ read. read.1 < n) z.reads) (sym (new_entry n new))
            (subst (λ (m : ℕ). All (λ read. read.1 < m) e.reads) (sym new) may.sources)

    -- ---- what ends at or is read by what was there was there

    pub session_was : (a b : ℕ) → b < count h → IsSessionPair g a b → IsSessionPair h a b
    session_was a b old p = go (cases_lt 0 a)
      where
        w : PairParts g a b
        w = pair_parts g a b p

        before : a < count h
        before = omega (arith, session_rises g delivered_more a b p, old)

        go : (0 < a) ⊎ (a ≤ 0) → IsSessionPair h a b
        go (inl some) =
            lower_first h a b some before w.some old (sym (old_owner a before) ∙ w.same some ∙ old_owner b old)
            (omega (arith, old_place a before, old_place b old, w.lower some))
        go (inr none) = initial_pair h a b (omega (arith, none)) before w.some old

    pub read_was : (a b : ℕ) (x : List ℕ) → b < count h → IsReadsPair g a b x → IsReadsPair h a b x
    read_was a b x old p = (
      omega (arith, read_rises g delivered_more a b x p, old),
      old,
      subst (λ (z : Entry). Contains (map (λ read. read.0) (filter (λ read. read.1 == a) z.reads)) x) (old_entry b old) p.2,
    )

    pub pair_was : (a b : ℕ) → b < count h → IsCausalPair g a b → IsCausalPair h a b
    pair_was a b old (inl p) = inl (session_was a b old p)
    pair_was a b old (inr (x, p)) = inr (x, read_was a b x old p)

    step_was : (s : Step) → step_to s < count h → IsStep g s → IsStep h s
    step_was (step.Session a b) old p = session_was a b old p
    step_was (step.Reads a b x) old p = read_was a b x old p

    leads_was : (a b : ℕ) (steps : List Step) → b < count h → Leads g a b steps → Leads h a b steps
    leads_was a b [] old p = p
    leads_was a b (s ∷ steps) old p =
        (p.0, step_was s (omega (arith, leads_rise g delivered_more (step_to s) b steps p.2, old)) p.1, leads_was (step_to s) b steps old p.2)

    pub reached_was : (a b : ℕ) → b < count h → IsReached g a b → IsReached h a b
    reached_was a b old (walk, p) = (walk, (p.0, leads_was a b walk old p.1))

    writer_was : (b : ℕ) (x : List ℕ) → b < count h → IsWriter g b x → IsWriter h b x
    writer_was b x old p = (old, subst (λ (z : Entry). ((b == 0) || has_name z.writes x) ≡ true) (old_entry b old) p.1)

    pub reason_was : (level : Level) (b a : ℕ) (x : List ℕ) (c : ℕ) (walk : List Step) → c < count h → IsReason (judged g level) b a x c walk
        → IsReason (judged h level) b a x c walk
    reason_was level b a x c walk old ((apart, reads, writer), (path, allowed)) =
        let before : b < count h = omega (arith, walk_rises g delivered_more b c walk path, old) in
        ((apart, read_was a c x old reads, writer_was b x before writer), ((path.0, leads_was b c walk old path.1), allowed))

    -- what holds of the ends of each link that was there, of each pair into the new transaction, and of each derived link by its
    -- reads, holds of the ends of each link
    pub all_links : (level : Level) (Holds : ℕ → ℕ → Type 0) → ((l : Link) → IsLink (judged h level) l → Holds (link_from l) (link_to l))
        → ((a : ℕ) → IsCausalPair g a (count h) → Holds a (count h))
        → ((b a : ℕ) (x : List ℕ) (walk : List Step) → IsReason (judged g level) b a x (count h) walk → Holds b a)
        → (l : Link) → IsLink (judged g level) l → Holds (link_from l) (link_to l)
    all_links level Holds links pairs reasons (link.Session a b) p = go (old_or_new b (pair_parts g a b p).to)
      where
        go : (b < count h) ⊎ (b ≡ count h) → Holds a b
        go (inl old) = links (link.Session a b) (session_was a b old p)
        go (inr new) = subst (λ (z : ℕ). Holds a z) (sym new) (pairs a (inl (subst (λ (z : ℕ). IsSessionPair g a z) new p)))
    all_links level Holds links pairs reasons (link.Reads a b x) p = go (old_or_new b p.1)
      where
        go : (b < count h) ⊎ (b ≡ count h) → Holds a b
        go (inl old) = links (link.Reads a b x) (read_was a b x old p)
        go (inr new) = subst (λ (z : ℕ). Holds a z) (sym new) (pairs a (inr (x, subst (λ (z : ℕ). IsReadsPair g a z x) new p)))
    all_links level Holds links pairs reasons (link.Derived b a x c walk) p = go (old_or_new c p.0.1.1)
      where
        go : (c < count h) ⊎ (c ≡ count h) → Holds b a
        go (inl old) = links (link.Derived b a x c walk) (reason_was level b a x c walk old p)
        go (inr new) = reasons b a x walk (subst (λ (z : ℕ). IsReason (judged g level) b a x z walk) new p)

    -- so each link that is new is by the new transaction
    pub new_link : (level : Level) (l : Link) → IsLink (judged g level) l → IsLink (judged h level) l ⊎ IsBy (count h) l
    new_link level (link.Session a b) p = go (old_or_new b (pair_parts g a b p).to)
      where
        go : (b < count h) ⊎ (b ≡ count h) → IsLink (judged h level) (link.Session a b) ⊎ (b ≡ count h)
        go (inl old) = inl (session_was a b old p)
        go (inr new) = inr new
    new_link level (link.Reads a b x) p = go (old_or_new b p.1)
      where
        go : (b < count h) ⊎ (b ≡ count h) → IsLink (judged h level) (link.Reads a b x) ⊎ (b ≡ count h)
        go (inl old) = inl (read_was a b x old p)
        go (inr new) = inr new
    new_link level (link.Derived b a x c walk) p = go (old_or_new c p.0.1.1)
      where
        go : (c < count h) ⊎ (c ≡ count h) → IsLink (judged h level) (link.Derived b a x c walk) ⊎ (c ≡ count h)
        go (inl old) = inl (reason_was level b a x c walk old p)
        go (inr new) = inr new
