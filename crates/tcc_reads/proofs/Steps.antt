-- One transaction after another, and what is found in it.
use Rattle.std.proofs.Common.{◌≡◌, ℕ, ◌+◌, ◌<◌, Bool, true, false, cond, List, [], ◌∷◌, ◌++◌, length, get_or, drop, map, filter, flat_map, refl, ap, sym, subst, ◌∙◌}
use Rattle.std.proofs.Common.{append-nil, append_assoc}
use Rattle.tcc_txn.specs.Snapshots.{Sessions}
use Rattle.tcc_reads.specs.History.{Entry}
use Rattle.tcc_reads.specs.declared.fault.ReadFault.{ReadFault}
use Rattle.tcc_reads.specs.declared.located.Place.{Place}
use Rattle.tcc_reads.specs.declared.writers.Write.{Write}
use Rattle.tcc_reads.specs.private.Numbers.{Numbered, numbered, numbered_at}
use Rattle.tcc_reads.specs.private.Verdicts.{Writes, AreOwn, all_writes, entries_found, entry_found, faults_found, writes_of}
use Rattle.tcc_reads.specs.private.Tracings.{entries_traced, entry_traced}
use Rattle.tcc_reads.proofs.Ties.{read_at}

-- the transaction at an index, and those after it
module _ (s : Sessions) (places : List Place) (i : ℕ) (d : Place) (within : i < length places) (one : Numbered) (is : one ≡ numbered_at s (get_or places i d)) where
  abbrev later : List Numbered
  later = numbered s (drop (i + 1) places)

  ahead : numbered s (drop i places) ≡ one ∷ later
  ahead = ap (numbered s) (read_at places i d (get_or places i d) within refl).ahead ∙ ap (λ (n : Numbered). n ∷ later) (sym is)

  pub own_here : (table : Writes) → AreOwn table (numbered s (drop i places)) → AreOwn table (one ∷ [])
  own_here table own = ((subst (AreOwn table) ahead own).0, tt)

  pub own_later : (table : Writes) → AreOwn table (numbered s (drop i places)) → AreOwn table later
  own_later table own = (subst (AreOwn table) ahead own).1

  -- what was taken from the first parts, and what is still ahead
  taken : {X : Type 0} (parts : List Numbered → List X) → ((n : Numbered) (ns : List Numbered) → parts (n ∷ ns) ≡ parts (n ∷ []) ++ parts ns)
      → (done new whole : List X) → new ≡ done ++ parts (one ∷ []) → done ++ parts (numbered s (drop i places)) ≡ whole → new ++ parts later ≡ whole
  taken {X} parts split done new whole more given =
      ap (λ (xs : List X). xs ++ parts later) more
      ∙ append_assoc done (parts (one ∷ [])) (parts later)
      ∙ ap (λ (xs : List X). done ++ xs) (sym (ap parts ahead ∙ split one later))
      ∙ given

  pub entries_taken : (table : Writes) (done new whole : List Entry) → new ≡ done ++ entries_found table (one ∷ [])
      → done ++ entries_found table (numbered s (drop i places)) ≡ whole → new ++ entries_found table later ≡ whole
  entries_taken table = taken (entries_found table) (λ n ns.
      let rest : List Entry = entries_found table ns in
      elim n.stand.txn.committed as (λ b. map (entry_found table) (cond b (n ∷ filter (λ m. m.stand.txn.committed) ns) (filter (λ m. m.stand.txn.committed) ns))
      ≡ map (entry_found table) (cond b (n ∷ []) []) ++ rest) [ true ↦ refl | false ↦ refl ])

  pub traced_taken : (table : Writes) (passes : List ℕ × ℕ → Bool) (done new whole : List Entry) → new ≡ done ++ entries_traced table passes (one ∷ [])
      → done ++ entries_traced table passes (numbered s (drop i places)) ≡ whole → new ++ entries_traced table passes later ≡ whole
  traced_taken table passes = taken (entries_traced table passes) (λ n ns.
      let rest : List Entry = entries_traced table passes ns in
      elim n.stand.txn.committed as (λ b. map (entry_traced table passes) (cond b (n ∷ filter (λ m. m.stand.txn.committed) ns) (filter (λ m. m.stand.txn.committed) ns))
      ≡ map (entry_traced table passes) (cond b (n ∷ []) []) ++ rest) [ true ↦ refl | false ↦ refl ])

  pub faults_taken : (table : Writes) (done new whole : List ReadFault) → new ≡ done ++ faults_found table one
      → done ++ flat_map (faults_found table) (numbered s (drop i places)) ≡ whole → new ++ flat_map (faults_found table) later ≡ whole
  faults_taken table done new whole more = taken (flat_map (faults_found table))
      (λ n ns. ap (λ (fs : List ReadFault). fs ++ flat_map (faults_found table) ns) (sym (append-nil (faults_found table n)))) done new whole
      (more ∙ ap (λ (fs : List ReadFault). done ++ fs) (sym (append-nil (faults_found table one))))

  pub writes_taken : (keys : List (List ℕ)) (done new whole : List Write) → new ≡ done ++ writes_of keys one
      → done ++ all_writes keys (numbered s (drop i places)) ≡ whole → new ++ all_writes keys later ≡ whole
  writes_taken keys done new whole more = taken (all_writes keys)
      (λ n ns. ap (λ (ws : List Write). ws ++ all_writes keys ns) (sym (append-nil (writes_of keys n)))) done new whole
      (more ∙ ap (λ (ws : List Write). done ++ ws) (sym (append-nil (writes_of keys one))))
