-- Where numbers go along the causal pairs, the newest transaction that a cycle names is no end of its links, and so the reader of one.
use Rattle.std.proofs.Common.{ℕ, ◌≡◌, ◌≢◌, ◌<◌, ◌≤◌, ◌+◌, ◌⊎◌, inl, inr, List, [], ◌∷◌, ◌++◌, refl, sym, ap, ◌∙◌, subst, arith, length, map}
use Rattle.std.specs.Prelude.{All}
use Rattle.std.specs.List.{Contains}
use Rattle.std.proofs.lemmas.Bool.{cases_lt}
use Rattle.std.proofs.lemmas.List.Elements.{All-nil, All-cons, All-head, All-tail, All-append, All-weaker, All-contains, Contains-append_right}
use Rattle.tcc_txn.specs.Snapshots.{Sessions}
use Rattle.tcc_txn.proofs.Lists.{from_map}
use Rattle.tcc_reads.specs.History.{Entry, History, count}
use Rattle.tcc_reads.specs.Sources.{history}
use Rattle.tcc_graph.specs.Walks.{step_from, step_to, IsStepBelow, Leads}
use Rattle.tcc_graph.specs.Levels.{Judged, judged}
use Rattle.tcc_graph.specs.Links.{IsLink, IsLinkBelow, link_from, link_to, cost}
use Rattle.tcc_graph.specs.Renumbered.{link_by}
use Rattle.tcc_graph.specs.Ties.{link_kind, link_reader}
use Rattle.tcc_graph.specs.Routes.{LinksLead, IsCycle, IsRoute}
use Rattle.tcc_graph.specs.declared.level.Level.{Level}
use Rattle.tcc_graph.specs.declared.step.Step.{Step}
use Rattle.tcc_graph.specs.declared.link.Link.{Link}
use Rattle.tcc_graph.specs.declared.link.Link.TheVariants as link
use Rattle.tcc_graph.proofs.Linking.{cost_append, cost_around, derived_cost, lead_append, lead_split}
use Rattle.tcc_graph.proofs.Pairs.{step_pair}
use Rattle.tcc_watch.specs.Delivered.{IsBy, IsDelivered, MayCome, with_last}
use Rattle.tcc_watch.specs.Newest.{with_more, MayAllCome, EndsBelow, HasReader, IsNewestReader, AreCheaper, Continues, Closes}
use Rattle.tcc_slices.proofs.Fits.{each_link}
use Rattle.tcc_watch.proofs.Alike.{cycle_carried}
use Rattle.tcc_watch.proofs.Deliveries.{back_to, back_is, home, there as forth}
use Rattle.tcc_watch.proofs.Arrived.{count_more, delivered_more, new_link}
use Rattle.tcc_watch.proofs.Rising.{session_rises, read_rises, pair_rises, leads_rise, walk_rises}

-- the newest transaction of a link: where its pair leads, or its reader
abbrev top : Link → ℕ
top (link.Session a b) = b
top (link.Reads a b x) = b
top (link.Derived b a x c walk) = c

abbrev AreUpTo : ℕ → List Link → Type 0
AreUpTo z links = All (λ l. top l ≤ z) links

-- steps that lead to b are over numbers up to it
steps_below : (h : History) → IsDelivered h → (a b z : ℕ) (steps : List Step) → b ≤ z → Leads h a b steps → All (IsStepBelow (z + 1)) steps
steps_below h delivered a b z [] low p = All-nil (IsStepBelow (z + 1))
steps_below h delivered a b z (s ∷ steps) low p =
    let one : step_from s < step_to s = pair_rises h delivered (step_from s) (step_to s) (step_pair h s p.1) in
    let on : step_to s ≤ b = leads_rise h delivered (step_to s) b steps p.2 in
    All-cons (IsStepBelow (z + 1)) s steps (omega (arith, one, on, low), omega (arith, on, low)) (steps_below h delivered (step_to s) b z steps low p.2)

module _ (j : Judged) (delivered : IsDelivered j.history) where
  -- a link begins below its newest transaction
  begins_below : (l : Link) → IsLink j l → link_from l < top l
  begins_below (link.Session a b) p = session_rises j.history delivered a b p
  begins_below (link.Reads a b x) p = read_rises j.history delivered a b x p
  begins_below (link.Derived b a x c walk) p = walk_rises j.history delivered b c walk p.1.0

  -- and has no number above it
  has_below : (z : ℕ) (l : Link) → IsLink j l → top l ≤ z → IsLinkBelow (z + 1) l
  has_below z (link.Session a b) p low = (omega (arith, session_rises j.history delivered a b p, low), omega (arith, low))
  has_below z (link.Reads a b x) p low = (omega (arith, read_rises j.history delivered a b x p, low), omega (arith, low))
  has_below z (link.Derived b a x c walk) p low = (
    omega (arith, walk_rises j.history delivered b c walk p.1.0, low),
    (omega (arith, read_rises j.history delivered a c x p.0.1, low), (omega (arith, low), steps_below j.history delivered b c z walk low p.1.0.1)),
  )

  all_below : (z a b : ℕ) (links : List Link) → LinksLead j a b links → AreUpTo z links → All (IsLinkBelow (z + 1)) links
  all_below z a b [] lead tops = All-nil (IsLinkBelow (z + 1))
  all_below z a b (l ∷ links) lead tops =
      All-cons (IsLinkBelow (z + 1)) l links (has_below z l lead.1 (All-head (λ l. top l ≤ z) l links tops))
      (all_below z (link_to l) b links lead.2 (All-tail (λ l. top l ≤ z) l links tops))

  -- where a link of a cycle ends the next one begins, and so below the newest of that
  ends_below : (z a b : ℕ) (links : List Link) → LinksLead j a b links → b < z → AreUpTo z links → All (EndsBelow z) links
  ends_below z a b [] lead low tops = All-nil (EndsBelow z)
  ends_below z a b (l ∷ []) lead low tops =
      let up : top l ≤ z = All-head (λ l. top l ≤ z) l [] tops in
      All-cons (EndsBelow z) l [] (omega (arith, begins_below l lead.1, up), omega (arith, lead.2, low)) (All-nil (EndsBelow z))
  ends_below z a b (l ∷ k ∷ links) lead low tops =
      let up : top l ≤ z = All-head (λ l. top l ≤ z) l (k ∷ links) tops in
      let rest : AreUpTo z (k ∷ links) = All-tail (λ l. top l ≤ z) l (k ∷ links) tops in
      let next : top k ≤ z = All-head (λ l. top l ≤ z) k links rest in
      All-cons (EndsBelow z) l (k ∷ links)
      (omega (arith, begins_below l lead.1, up), omega (arith, begins_below k lead.2.1, lead.2.0, next))
      (ends_below z (link_to l) b (k ∷ links) lead.2 low rest)

-- one of the links has the newest transaction of all
record HasTop (links : List Link) : Type 0 where
  front : List Link
  link : Link
  rest : List Link
  split : links ≡ front ++ link ∷ rest
  all : AreUpTo (top link) links

top_of : (l : Link) (links : List Link) → HasTop (l ∷ links)
top_of l [] =
    record {
      front = [];
      link = l;
      rest = [];
      split = refl;
      all = All-cons (λ k. top k ≤ top l) l [] (omega arith) (All-nil (λ k. top k ≤ top l));
    }
top_of l (k ∷ links) = go (top_of k links)
  where
    go : HasTop (k ∷ links) → HasTop (l ∷ k ∷ links)
    go w = pick (cases_lt (top w.link) (top l))
      where
        pick : (top w.link < top l) ⊎ (top l ≤ top w.link) → HasTop (l ∷ k ∷ links)
        pick (inl newer) =
            record {
              front = [];
              link = l;
              rest = k ∷ links;
              split = refl;
              all = All-cons (λ m. top m ≤ top l) l (k ∷ links) (omega arith)
                  (All-weaker (λ m. top m ≤ top w.link) (λ m. top m ≤ top l) (λ m up. omega (arith, up, newer)) (k ∷ links) w.all);
            }
        pick (inr older) =
            record {
              front = l ∷ w.front;
              link = w.link;
              rest = w.rest;
              split = rw w.split refl;
              all = All-cons (λ m. top m ≤ top w.link) l (k ∷ links) older w.all;
            }

-- a link that doesn't end at its newest transaction is derived
derived_at : (l : Link) → link_to l < top l → (b : ℕ) × (a : ℕ) × (x : List ℕ) × (walk : List Step) × (l ≡ link.Derived b a x (top l) walk)
derived_at (link.Session a b) low = absurd (omega (arith, low))
derived_at (link.Reads a b x) low = absurd (omega (arith, low))
derived_at (link.Derived b a x c walk) low = (b, a, x, walk, refl)

here_in : (front : List Link) (l : Link) (rest : List Link) → Contains (front ++ l ∷ rest) l
here_in front l rest = Contains-append_right front (l ∷ rest) l (0, omega arith, refl)

-- what a cycle's newest transaction is, and where the link is that has it as its reader
pub record IsClosed (j : Judged) (s : ℕ) (links : List Link) : Type 0 where
  pub z : ℕ
  pub front : List Link
  pub b : ℕ
  pub a : ℕ
  pub x : List ℕ
  pub walk : List Step
  pub rest : List Link
  pub split : links ≡ front ++ link.Derived b a x z walk ∷ rest
  pub newest : All (IsLinkBelow (z + 1)) links
  pub ends : All (EndsBelow z) links

pub closed : (j : Judged) → IsDelivered j.history → (s : ℕ) (links : List Link) → IsCycle j s links → IsClosed j s links
closed j delivered s [] cycle = absurd (omega (arith, cycle.0))
closed j delivered s (l ∷ links) (some, lead) = go (top_of l links)
  where
    go : HasTop (l ∷ links) → IsClosed j s (l ∷ links)
    go w = by (derived_at w.link to)
      where
        z : ℕ
        z = top w.link

        first : top l ≤ z
        first = All-head (λ m. top m ≤ z) l links w.all

        start : s < z
        start = omega (arith, begins_below j delivered l lead.1, lead.0, first)

        ends : All (EndsBelow z) (l ∷ links)
        ends = ends_below j delivered z s s (l ∷ links) lead start w.all

        to : link_to w.link < z
        to = (All-contains (EndsBelow z) (l ∷ links) w.link ends
            (subst (λ (m : List Link). Contains m w.link) (sym w.split) (here_in w.front w.link w.rest))).1

        by : (b : ℕ) × (a : ℕ) × (x : List ℕ) × (walk : List Step) × (w.link ≡ link.Derived b a x z walk) → IsClosed j s (l ∷ links)
        by (b, a, x, walk, is) =
            record {
              z = z;
              front = w.front;
              b = b;
              a = a;
              x = x;
              walk = walk;
              rest = w.rest;
              split = subst (λ (m : Link). l ∷ links ≡ w.front ++ m ∷ w.rest) is w.split;
              newest = all_below j delivered z s s (l ∷ links) lead w.all;
              ends = ends;
            }

pub newest_reader : (j : Judged) → IsDelivered j.history → (s : ℕ) (links : List Link) → IsCycle j s links → (z : ℕ) × IsNewestReader z links
newest_reader j delivered s links cycle =
    let w = closed j delivered s links cycle in
    let read = link.Derived w.b w.a w.x w.z w.walk in (
      w.z,
      record {
        newest = w.newest;
        ends = w.ends;
        reader = (w.b, w.a, w.x, w.walk, subst (λ (m : List Link). Contains m read) (sym w.split) (here_in w.front read w.rest));
      },
    )

-- ---- histories that grow at their end

pub delivered_all : (h : History) (more : List Entry) → IsDelivered h → MayAllCome h more → IsDelivered (with_more h more)
delivered_all h [] delivered may = delivered
delivered_all h (e ∷ more) delivered may = delivered_all (with_last h e) more (delivered_more h e delivered may.0) may.1

link_mono : (m n : ℕ) (l : Link) → m ≤ n → IsLinkBelow m l → IsLinkBelow n l
link_mono m n (link.Session a b) low p = (omega (arith, p.0, low), omega (arith, p.1, low))
link_mono m n (link.Reads a b x) low p = (omega (arith, p.0, low), omega (arith, p.1, low))
link_mono m n (link.Derived b a x c walk) low (at_b, (at_a, (at_c, steps))) = (
  omega (arith, at_b, low),
  (
    omega (arith, at_a, low),
    (omega (arith, at_c, low), All-weaker (IsStepBelow m) (IsStepBelow n) (λ s q. (omega (arith, q.0, low), omega (arith, q.1, low))) walk steps),
  ),
)

links_mono : (m n : ℕ) (links : List Link) → m ≤ n → All (IsLinkBelow m) links → All (IsLinkBelow n) links
links_mono m n links low below = All-weaker (IsLinkBelow m) (IsLinkBelow n) (λ l p. link_mono m n l low p) links below

-- a link whose numbers are all lower is by no newer transaction
not_by : (n : ℕ) (l : Link) → IsLinkBelow n l → IsBy n l → ⊥
not_by n (link.Session a b) p by = absurd (omega (arith, p.1, by))
not_by n (link.Reads a b x) p by = absurd (omega (arith, p.1, by))
not_by n (link.Derived b a x c walk) (at_b, (at_a, (at_c, steps))) by = absurd (omega (arith, at_c, by))

-- a link over transactions that were there was there
was_one : (h : History) (e : Entry) (level : Level) → IsDelivered h → MayCome h e → (l : Link) → IsLinkBelow (count h) l → IsLink (judged (with_last h e) level) l
    → IsLink (judged h level) l
was_one h e level delivered may l below is = go (new_link h e delivered may level l is)
  where
    go : IsLink (judged h level) l ⊎ IsBy (count h) l → IsLink (judged h level) l
    go (inl old) = old
    go (inr by) = absurd (not_by (count h) l below by)

link_was : (h : History) (more : List Entry) (level : Level) → IsDelivered h → MayAllCome h more → (l : Link) → IsLinkBelow (count h) l
    → IsLink (judged (with_more h more) level) l → IsLink (judged h level) l
link_was h [] level delivered may l below is = is
link_was h (e ∷ more) level delivered may l below is =
    was_one h e level delivered may.0 l below
    (link_was (with_last h e) more level (delivered_more h e delivered may.0) may.1 l
    (link_mono (count h) (count (with_last h e)) l (omega (arith, count_more h e)) below) is)

lead_was : (h : History) (more : List Entry) (level : Level) → IsDelivered h → MayAllCome h more → (a b : ℕ) (links : List Link)
    → All (IsLinkBelow (count h)) links → LinksLead (judged (with_more h more) level) a b links → LinksLead (judged h level) a b links
lead_was h more level delivered may a b [] below p = p
lead_was h more level delivered may a b (l ∷ links) below p = (
  p.0,
  link_was h more level delivered may l (All-head (IsLinkBelow (count h)) l links below) p.1,
  lead_was h more level delivered may (link_to l) b links (All-tail (IsLinkBelow (count h)) l links below) p.2,
)

-- a cycle was there, or its newest transaction is new
pub old_or_closed : (h : History) (more : List Entry) (level : Level) → IsDelivered h → MayAllCome h more → (s : ℕ) (links : List Link)
    → IsCycle (judged (with_more h more) level) s links
    → IsCycle (judged h level) s links ⊎ ((z : ℕ) × (count h ≤ z) × IsNewestReader z links)
old_or_closed h more level delivered may s links cycle = go (newest_reader (judged (with_more h more) level) (delivered_all h more delivered may) s links cycle)
  where
    go : (z : ℕ) × IsNewestReader z links → IsCycle (judged h level) s links ⊎ ((z : ℕ) × (count h ≤ z) × IsNewestReader z links)
    go (z, newest) = by (cases_lt z (count h))
      where
        by : (z < count h) ⊎ (count h ≤ z) → IsCycle (judged h level) s links ⊎ ((z : ℕ) × (count h ≤ z) × IsNewestReader z links)
        by (inl old) =
            inl (cycle.0, lead_was h more level delivered may s s links (links_mono (z + 1) (count h) links (omega (arith, old)) newest.newest) cycle.1)
        by (inr new) = inr (z, new, newest)

-- ---- snapshots that go on

derived_link : (f : ℕ → ℕ) (l : Link) (b a : ℕ) (x : List ℕ) (z : ℕ) (walk : List Step) → link_by f l ≡ link.Derived b a x z walk
    → (b' : ℕ) × (a' : ℕ) × (x' : List ℕ) × (c : ℕ) × (walk' : List Step) × (l ≡ link.Derived b' a' x' c walk') × (f c ≡ z)
derived_link f (link.Session m n) b a x z walk is = let kinds = ap link_kind is in absurd (omega (arith, kinds))
derived_link f (link.Reads m n y) b a x z walk is = let kinds = ap link_kind is in absurd (omega (arith, kinds))
derived_link f (link.Derived m n y c way) b a x z walk is = (m, n, y, c, way, refl, ap link_reader is)

reader_below : (j : Judged) (b a : ℕ) (x : List ℕ) (c : ℕ) (walk : List Step) → IsLink j (link.Derived b a x c walk) → c < count j.history
reader_below j b a x c walk is = is.0.1.1

reader_there : (j : Judged) (s : ℕ) (links : List Link) (z : ℕ) → IsCycle j s links → HasReader links z → z < count j.history
reader_there j s links z cycle (b, a, x, walk, there) = reader_below j b a x z walk (each_link j links (s, cycle) (link.Derived b a x z walk) there)

-- what has a reader in other numbers has it in its own
reader_of : (j : Judged) (f : ℕ → ℕ) (s : ℕ) (links : List Link) (z : ℕ) → IsCycle j s links → HasReader (map (link_by f) links) z
    → (c : ℕ) × (c < count j.history) × (f c ≡ z) × HasReader links c
reader_of j f s links z cycle (b, a, x, walk, there) = go (from_map (link_by f) links (link.Derived b a x z walk) there)
  where
    go : (l : Link) × Contains links l × (link_by f l ≡ link.Derived b a x z walk) → (c : ℕ) × (c < count j.history) × (f c ≡ z) × HasReader links c
    go (l, has, is) = by (derived_link f l b a x z walk is)
      where
        by : (b' : ℕ) × (a' : ℕ) × (x' : List ℕ) × (c : ℕ) × (walk' : List Step) × (l ≡ link.Derived b' a' x' c walk') × (f c ≡ z)
            → (c : ℕ) × (c < count j.history) × (f c ≡ z) × HasReader links c
        by (b', a', x', c, walk', here, at) = (
          c,
          reader_below j b' a' x' c walk' (subst (IsLink j) here (each_link j links (s, cycle) l has)),
          at,
          (b', a', x', walk', subst (λ (m : Link). Contains links m) here has),
        )

module _ (small large : Sessions) (h : History) (more : List Entry) (f g : ℕ → ℕ) (on : Continues small large h more f g) (level : Level) where
  abbrev all : History
  all = with_more h more

  abbrev back : ℕ → ℕ
  back = back_to large all g on.later on.all

  -- a cycle of the first snapshot costs as much, or there is a new reader
  pub as_cheap_or_closed : (s : ℕ) (links : List Link) → IsCycle (judged (history large) level) s links
      → ((t : ℕ) × (others : List Link) × IsCycle (judged (history small) level) t others × (cost others ≡ cost links))
      ⊎ ((z : ℕ) × (count h ≤ z) × (z < count (with_more h more)) × HasReader links (g z))
  as_cheap_or_closed s links cycle = go (old_or_closed h more level on.delivered on.come (back s) (map (link_by back) links) there.0)
    where
      there : IsCycle (judged all level) (back s) (map (link_by back) links) × (cost (map (link_by back) links) ≡ cost links)
      there = cycle_carried (history large) all back level (home large all g on.later on.all) s links cycle

      go : IsCycle (judged h level) (back s) (map (link_by back) links) ⊎ ((z : ℕ) × (count h ≤ z) × IsNewestReader z (map (link_by back) links))
          → ((t : ℕ) × (others : List Link) × IsCycle (judged (history small) level) t others × (cost others ≡ cost links))
          ⊎ ((z : ℕ) × (count h ≤ z) × (z < count (with_more h more)) × HasReader links (g z))
      go (inl old) =
          let was = cycle_carried h (history small) f level (forth small h f on.before on.first) (back s) (map (link_by back) links) old in
          inl (f (back s), map (link_by f) (map (link_by back) links), was.0, was.1 ∙ there.1)
      go (inr (z, new, newest)) =
          let w = reader_of (judged (history large) level) back s links z cycle newest.reader in
          let at : w.0 ≡ g z = sym (back_is large all g on.later on.all w.0 w.1) ∙ ap g w.2 in
          inr (z, new, reader_there (judged all level) (back s) (map (link_by back) links) z there.0 newest.reader, subst (λ (c : ℕ). HasReader links c) at w.3)

  -- so one that costs less than each that was there has a new reader
  pub cheaper_closed : (s : ℕ) (links : List Link) → IsCycle (judged (history large) level) s links → AreCheaper (judged (history small) level) links
      → (z : ℕ) × (count h ≤ z) × (z < count (with_more h more)) × HasReader links (g z)
  cheaper_closed s links cycle cheaper = go (as_cheap_or_closed s links cycle)
    where
      go : ((t : ℕ) × (others : List Link) × IsCycle (judged (history small) level) t others × (cost others ≡ cost links))
          ⊎ ((z : ℕ) × (count h ≤ z) × (z < count (with_more h more)) × HasReader links (g z)) → (z : ℕ) × (count h ≤ z) × (z < count (with_more h more)) × HasReader links (g z)
      go (inl (t, others, old, same)) = absurd (omega (arith, cheaper t others old, same))
      go (inr new) = new

-- ---- a cycle, begun at the link that closes it

all_parts : (P : Link → Type 0) (front rest : List Link) → All P (front ++ rest) → All P front × All P rest
all_parts P [] rest all = (All-nil P, all)
all_parts P (l ∷ front) rest all =
    let on = all_parts P front rest (All-tail P l (front ++ rest) all) in
    (All-cons P l front (All-head P l (front ++ rest) all) on.0, on.1)

-- the links but for one, those after it first
around_all : (P : Link → Type 0) (front : List Link) (l : Link) (rest : List Link) → All P (front ++ l ∷ rest) → All P (rest ++ front)
around_all P front l rest all = let parts = all_parts P front (l ∷ rest) all in All-append P rest front (All-tail P l rest parts.1) parts.0

some_way : (j : Judged) (a b : ℕ) (links : List Link) → LinksLead j a b links → b ≢ a → IsRoute j a b links
some_way j a b [] lead apart = absurd (apart (sym lead))
some_way j a b (l ∷ links) lead apart = (omega arith, lead)

pub closing : (j : Judged) → IsDelivered j.history → (s : ℕ) (links : List Link) → IsCycle j s links → (z : ℕ) × Closes j z (cost links)
closing j delivered s links cycle = go (closed j delivered s links cycle)
  where
    go : IsClosed j s links → (z : ℕ) × Closes j z (cost links)
    go w = (
      w.z,
      record {
        b = w.b;
        a = w.a;
        x = w.x;
        walk = w.walk;
        route = w.rest ++ w.front;
        reason = on.1;
        leads = some_way j w.a w.b (w.rest ++ w.front) (lead_append j w.a s w.b w.rest w.front on.2 back) on.1.0.0;
        older = around_all (EndsBelow w.z) w.front read w.rest (subst (λ (m : List Link). All (EndsBelow w.z) m) w.split w.ends);
        newest = around_all (IsLinkBelow (w.z + 1)) w.front read w.rest (subst (λ (m : List Link). All (IsLinkBelow (w.z + 1)) m) w.split w.newest);
        costs = ap cost w.split ∙ costs;
      },
    )
      where
        read : Link
        read = link.Derived w.b w.a w.x w.z w.walk

        parts : (m : ℕ) × LinksLead j s m w.front × LinksLead j m s (read ∷ w.rest)
        parts = lead_split j s s w.front (read ∷ w.rest) (subst (λ (m : List Link). LinksLead j s s m) w.split cycle.1)

        on : LinksLead j parts.0 s (read ∷ w.rest)
        on = parts.2

        back : LinksLead j s w.b w.front
        back = subst (λ (m : ℕ). LinksLead j s m w.front) (sym on.0) parts.1

        costs : cost (w.front ++ read ∷ w.rest) ≡ length w.walk + 1 + cost (w.rest ++ w.front)
        costs = omega (arith, cost_around w.front read w.rest, derived_cost w.b w.a w.x w.z w.walk, cost_append w.rest w.front)
