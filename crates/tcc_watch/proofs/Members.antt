-- The rows of a session's transactions: a later one goes at least as far. Rows that are raised session by session are all raised.
use Rattle.std.proofs.Common.{ℕ, ◌+◌, ◌≡◌, ◌<◌, ◌≤◌, ◌⊎◌, inl, inr, List, [], length, slice_index, refl, sym, ap, subst, ◌∙◌, arith}
use Rattle.std.specs.List.{Contains}
use Rattle.std.proofs.lemmas.Bool.{cases_lt, cases_eq}
use Rattle.std.proofs.lemmas.List.{get_or_default, get_or_past}
use Rattle.tcc_reads.specs.History.{Entry, History, count, owner, place}
use Rattle.tcc_graph.specs.Tables.{row_of}
use Rattle.tcc_watch.specs.Delivered.{IsDelivered}
use Rattle.tcc_watch.specs.declared.at.At.{At}
use Rattle.tcc_watch.specs.private.Rows.{last_in, GoesTo, IsUpTo, IsPlaceOf, AreOrdered, AreMembers, AreRising, IsRaisedRow, AreRaised, AreRaisedBelow, IsRaisedAt, IsRaised}

module _ (h : History) (rows : List (List ℕ)) (members : List (List ℕ)) (delivered : IsDelivered h) (ordered : AreOrdered h rows) (right : AreMembers h members) where
  -- `init` comes before all
  pub place_of_init : place h 0 ≡ 0
  place_of_init = ap (λ (e : Entry). e.place) delivered.first

  -- what is up to another goes no further than that in any session
  pub further : (u v session : ℕ) → u < count h → v < count h → IsUpTo h rows u v → last_in rows u session ≤ last_in rows v session
  further u v session at_u at_v up = go (ordered.held.places u session at_u)
    where
      go : IsPlaceOf h session (last_in rows u session) → last_in rows u session ≤ last_in rows v session
      go (inl none) = omega (arith, none)
      go (inr (w, some, below, owned, is)) =
          let upto : place h w ≤ last_in rows u (owner h w) = subst (λ (z : ℕ). place h w ≤ last_in rows u z) (sym owned) (omega (arith, is)) in
          let on : place h w ≤ last_in rows v (owner h w) = ordered.joined w u v below at_u at_v upto up in
          let at = ap (λ k. last_in rows v k) owned in
          omega (arith, on, is, at)

  -- of one session the earlier is up to the later
  module _ (session : ℕ) where
    abbrev numbers : List ℕ
    numbers = row_of members session

    below : (i : ℕ) → i < length numbers → slice_index numbers i < count h
    below i inside = (right.each session i inside).1

    upto : (i k : ℕ) → k < length numbers → (i < k) ⊎ (i ≡ k) → IsUpTo h rows (slice_index numbers i) (slice_index numbers k)
    upto i k inside (inr same) = subst (λ (z : ℕ). IsUpTo h rows (slice_index numbers z) (slice_index numbers k)) (sym same) (ordered.itself _ (below k inside))
    upto i k inside (inl less) =
        let one = right.each session i (omega (arith, less, inside)) in
        let two = right.each session k inside in
        let owned : owner h (slice_index numbers i) ≡ owner h (slice_index numbers k) = one.2 ∙ sym two.2 in
        let lower = delivered.sessions (slice_index numbers i) (slice_index numbers k) one.0 (right.rising session i k less inside) two.1 owned in
        let own : place h (slice_index numbers k) ≤ last_in rows (slice_index numbers k) (owner h (slice_index numbers k)) = ordered.itself _ two.1 in
        let at = ap (λ z. last_in rows (slice_index numbers k) z) owned in
        omega (arith, lower, own, at)

    either : (i k : ℕ) → i ≤ k → (i ≡ k) ⊎ (i ≡ k → ⊥) → (i < k) ⊎ (i ≡ k)
    either i k order (inl same) = inr same
    either i k order (inr apart) = inl (omega (arith, order, apart))

    members_rise : AreRising rows numbers
    members_rise = record {
      below = λ i inside. omega (arith, below i inside, ordered.held.long);
      ascending = λ i k less inside. right.rising session i k less inside;
      further = λ i k s order inside.
          further (slice_index numbers i) (slice_index numbers k) s (below i (omega (arith, order, inside))) (below k inside)
          (upto i k inside (either i k order (cases_eq i k)));
    }

    -- the number of a member, and the index of a number
    pub member_index : (n : ℕ) → Contains numbers n → (i : ℕ) × (i < length numbers) × (slice_index numbers i ≡ n)
    member_index n (i, inside, is) = (i, inside, get_or_default numbers i 0 n inside ∙ is)

    module _ (now : List (List ℕ)) (b a : ℕ) (so_far : AreRaisedBelow h rows now b a session) where
      same_row : (i : ℕ) → i < length numbers → row_of now (slice_index numbers i) ≡ row_of rows (slice_index numbers i)
      same_row i inside = so_far.left (slice_index numbers i) (inr (omega (arith, (right.each session i inside).2)))

      pub still_rise : AreRising now numbers
      still_rise = record {
        below = λ i inside. omega (arith, members_rise.below i inside, so_far.long);
        ascending = members_rise.ascending;
        further = λ i k s order inside.
            let one = ap (λ (r : List ℕ). slice_index r s) (same_row i (omega (arith, order, inside))) in
            let two = ap (λ (r : List ℕ). slice_index r s) (same_row k inside) in
            omega (arith, one, two, members_rise.further i k s order inside);
      }

      module _ (at_b at_a : At) (is_b : (at_b.session ≡ owner h b) × (at_b.place ≡ place h b)) (is_a : (at_a.session ≡ owner h a) × (at_a.place ≡ place h a))
          (new : List (List ℕ)) (more : AreRaised at_a at_b (row_of rows b) now new numbers) where
        -- what the row of a member says of a transaction, by its session and place
        goes : (at : At) (n v : ℕ) → (at.session ≡ owner h n) × (at.place ≡ place h n) → row_of now v ≡ row_of rows v → GoesTo at (row_of now v) → IsUpTo h rows n v
        goes at n v is same there =
            let one = ap (λ (r : List ℕ). slice_index r at.session) same in
            let two = ap (λ k. last_in rows v k) is.0 in
            omega (arith, there, one, two, is.1)

        comes : (at : At) (n v : ℕ) → (at.session ≡ owner h n) × (at.place ≡ place h n) → row_of now v ≡ row_of rows v → IsUpTo h rows n v → GoesTo at (row_of now v)
        comes at n v is same there =
            let one = ap (λ (r : List ℕ). slice_index r at.session) same in
            let two = ap (λ k. last_in rows v k) is.0 in
            omega (arith, there, one, two, is.1)

        raised_at : (v : ℕ) → row_of now v ≡ row_of rows v → IsRaisedRow at_a at_b (row_of rows b) (row_of now v) (row_of new v) → IsRaisedAt h rows new b a v
        raised_at v same (inl (kept, inl before)) = inl (kept ∙ same, inl (λ up. before (comes at_a a v is_a same up)))
        raised_at v same (inl (kept, inr there)) = inl (kept ∙ same, inr (goes at_b b v is_b same there))
        raised_at v same (inr (there, each)) =
            inr (goes at_a a v is_a same there, λ s. let one = ap (λ (r : List ℕ). slice_index r s) same in omega (arith, each s, one))

        here : (v : ℕ) → 0 < v → v < count h → owner h v ≡ session → IsRaisedAt h rows new b a v
        here v some inside owned =
            let w = member_index v (subst (λ (z : ℕ). Contains (row_of members z) v) owned (right.all v some inside)) in
            let same = subst (λ (z : ℕ). row_of now z ≡ row_of rows z) w.2 (same_row w.0 w.1) in
            raised_at v same (subst (λ (z : ℕ). IsRaisedRow at_a at_b (row_of rows b) (row_of now z) (row_of new z)) w.2 (more.each w.0 w.1))

        -- a number of another session is no member
        other : (v : ℕ) → (owner h v ≡ session → ⊥) → row_of new v ≡ row_of now v
        other v apart = more.others v (λ there. let w = member_index v there in apart (ap (λ n. owner h n) (sym w.2) ∙ (right.each session w.0 w.1).2))

        moved : (v : ℕ) → row_of new v ≡ row_of now v → IsRaisedAt h rows now b a v → IsRaisedAt h rows new b a v
        moved v same (inl (kept, why)) = inl (same ∙ kept, why)
        moved v same (inr (after, each)) =
            inr (after, λ s. let one = ap (λ (r : List ℕ). slice_index r s) same in omega (arith, each s, one))

        done : (v : ℕ) → 0 < v → v < count h → owner h v < session + 1 → (owner h v ≡ session) ⊎ (owner h v ≡ session → ⊥) → IsRaisedAt h rows new b a v
        done v some inside low (inl owned) = here v some inside owned
        done v some inside low (inr apart) = moved v (other v apart) (so_far.done v some inside (omega (arith, low, apart)))

        left : (v : ℕ) → (v ≡ 0) ⊎ (session + 1 ≤ owner h v) → row_of new v ≡ row_of rows v
        left v (inl zeroth) =
            more.others v (λ there. let w = member_index v there in absurd (omega (arith, (right.each session w.0 w.1).0, w.2, zeroth)))
            ∙ so_far.left v (inl zeroth)
        left v (inr over) = other v (λ owned. absurd (omega (arith, over, owned))) ∙ so_far.left v (inr (omega (arith, over)))

        pub below_more : AreRaisedBelow h rows new b a (session + 1)
        below_more = record {
          long = more.long ∙ so_far.long;
          done = λ v some inside low. done v some inside low (cases_eq (owner h v) session);
          left = left;
        }

  pub below_none : (b a : ℕ) → AreRaisedBelow h rows rows b a 0
  below_none b a = record { long = refl; done = λ v some inside low. absurd (omega (arith, low)); left = λ v w. refl }

  -- where all sessions are done, all rows are
  module _ (now : List (List ℕ)) (b a : ℕ) (at_a : a < count h) (some_a : 0 < a) (whole : AreRaisedBelow h rows now b a (length members)) where
    inside : (v : ℕ) → 0 < v → v < count h → (owner h v < length members) ⊎ (length members ≤ owner h v) → owner h v < length members
    inside v some below (inl less) = less
    inside v some below (inr past) =
        let (i, within, is) = right.all v some below in
        let none = ap (λ (r : List ℕ). length r) (get_or_past members (owner h v) [] past) in
        absurd (omega (arith, within, none))

    first : IsUpTo h rows a 0 → ⊥
    first up =
        let zeroth : 0 ≡ a = ordered.apart 0 a delivered.some at_a (omega (arith, place_of_init)) up in
        absurd (omega (arith, zeroth, some_a))

    each : (v : ℕ) → v < count h → (0 < v) ⊎ (v ≤ 0) → IsRaisedAt h rows now b a v
    each v below (inl some) = whole.done v some below (inside v some below (cases_lt (owner h v) (length members)))
    each v below (inr none) =
        let zeroth : v ≡ 0 = omega (arith, none) in
        inl (whole.left v (inl zeroth), inl (λ up. first (subst (λ (z : ℕ). IsUpTo h rows a z) zeroth up)))

    pub all_raised : IsRaised h rows now b a
    all_raised = record { long = whole.long; each = λ v below. each v below (cases_lt 0 v) }
