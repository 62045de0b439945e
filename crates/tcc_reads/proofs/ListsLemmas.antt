-- Transactions from the lists in which they are held.
use Rattle.std.proofs.Common.{◌≡◌, ◌<◌, ℕ, zero, suc, List, [], ◌∷◌, ◌++◌, length, map, drop, get_or, refl, ap, arith}
use Rattle.tcc_reads.specs.Indexed.{Indexed, indexed_of}
use Rattle.tcc_reads.specs.private.Lists.{transactions_of}

-- a row of the rest
later_row : {T : Type 0} (rows : List (List T)) (n : ℕ) → get_or (drop 1 rows) n [] ≡ get_or rows (suc n) []
later_row [] n = refl
later_row (row ∷ rows) n = refl

pub no_transactions : (ws : List (List ℕ)) (rs : List (List (ℕ × ℕ))) → transactions_of [] ws rs ≡ []
unfolding transactions_of
no_transactions ws rs = refl

pub transactions_long : (ps : List (ℕ × ℕ)) (ws : List (List ℕ)) (rs : List (List (ℕ × ℕ))) → length (transactions_of ps ws rs) ≡ length ps
unfolding transactions_of
transactions_long [] ws rs = refl
transactions_long (p ∷ ps) ws rs = ap suc (transactions_long ps (drop 1 ws) (drop 1 rs))

pub transactions_places : (ps : List (ℕ × ℕ)) (ws : List (List ℕ)) (rs : List (List (ℕ × ℕ)))
    → ps ≡ map {B = ℕ × ℕ} (λ t. (t.owner, t.place)) (transactions_of ps ws rs)
unfolding transactions_of
transactions_places [] ws rs = refl
transactions_places (p ∷ ps) ws rs = ap (λ (l : List (ℕ × ℕ)). p ∷ l) (transactions_places ps (drop 1 ws) (drop 1 rs))

pub transactions_owner : (ps : List (ℕ × ℕ)) (ws : List (List ℕ)) (rs : List (List (ℕ × ℕ))) (n : ℕ) → n < length ps
    → (get_or ps n (0, 0)).0 ≡ (indexed_of (transactions_of ps ws rs) n).owner
unfolding transactions_of
transactions_owner [] ws rs n l = absurd (omega (arith, l))
transactions_owner (p ∷ ps) ws rs zero l = refl
transactions_owner (p ∷ ps) ws rs (suc n) l = transactions_owner ps (drop 1 ws) (drop 1 rs) n (omega (arith, l))

pub transactions_place : (ps : List (ℕ × ℕ)) (ws : List (List ℕ)) (rs : List (List (ℕ × ℕ))) (n : ℕ) → n < length ps
    → (get_or ps n (0, 0)).1 ≡ (indexed_of (transactions_of ps ws rs) n).place
unfolding transactions_of
transactions_place [] ws rs n l = absurd (omega (arith, l))
transactions_place (p ∷ ps) ws rs zero l = refl
transactions_place (p ∷ ps) ws rs (suc n) l = transactions_place ps (drop 1 ws) (drop 1 rs) n (omega (arith, l))

pub transactions_writes : (ps : List (ℕ × ℕ)) (ws : List (List ℕ)) (rs : List (List (ℕ × ℕ))) (n : ℕ) → n < length ps
    → get_or ws n [] ≡ (indexed_of (transactions_of ps ws rs) n).writes
unfolding transactions_of
transactions_writes [] ws rs n l = absurd (omega (arith, l))
transactions_writes (p ∷ ps) ws rs zero l = refl
transactions_writes (p ∷ ps) ws rs (suc n) l = rw (← later_row ws n) (transactions_writes ps (drop 1 ws) (drop 1 rs) n (omega (arith, l)))

pub transactions_reads : (ps : List (ℕ × ℕ)) (ws : List (List ℕ)) (rs : List (List (ℕ × ℕ))) (n : ℕ) → n < length ps
    → get_or rs n [] ≡ (indexed_of (transactions_of ps ws rs) n).reads
unfolding transactions_of
transactions_reads [] ws rs n l = absurd (omega (arith, l))
transactions_reads (p ∷ ps) ws rs zero l = refl
transactions_reads (p ∷ ps) ws rs (suc n) l = rw (← later_row rs n) (transactions_reads ps (drop 1 ws) (drop 1 rs) n (omega (arith, l)))

pub transactions_pushed : (ps : List (ℕ × ℕ)) (ws : List (List ℕ)) (rs : List (List (ℕ × ℕ))) → length ws ≡ length ps → length rs ≡ length ps
    → (p : ℕ × ℕ) (w : List ℕ) (r : List (ℕ × ℕ))
    → transactions_of (ps ++ p ∷ []) (ws ++ w ∷ []) (rs ++ r ∷ [])
    ≡ transactions_of ps ws rs ++ record { owner = p.0; place = p.1; writes = w; reads = r } ∷ []
unfolding transactions_of
transactions_pushed [] [] [] wl rl p w r = refl
transactions_pushed [] (w' ∷ ws) rs wl rl p w r = absurd (omega (arith, wl))
transactions_pushed [] [] (r' ∷ rs) wl rl p w r = absurd (omega (arith, rl))
transactions_pushed (q ∷ ps) [] rs wl rl p w r = absurd (omega (arith, wl))
transactions_pushed (q ∷ ps) (w' ∷ ws) [] wl rl p w r = absurd (omega (arith, rl))
transactions_pushed (q ∷ ps) (w' ∷ ws) (r' ∷ rs) wl rl p w r =
    ap (λ (l : List Indexed). record { owner = q.0; place = q.1; writes = w'; reads = r' } ∷ l)
    (transactions_pushed ps ws rs (omega (arith, wl)) (omega (arith, rl)) p w r)
