-- The reads and the writers of a history with one transaction more.
use Rattle.std.proofs.Common.{ℕ, ◌≡◌, ◌<◌, ◌==◌, ◌||◌, ◌⊎◌, inl, inr, true, List, refl, sym, subst, arith, map, filter}
use Rattle.std.specs.List.{Contains}
use Rattle.std.proofs.lemmas.Bool.{eq-eqb, eqb-true, or_cases, or_right}
use Rattle.std.proofs.lemmas.List.Elements.{All-contains}
use Rattle.tcc_txn.proofs.Lists.{in_filter, in_map}
use Rattle.tcc_reads.specs.History.{Entry, History, count, entry_at}
use Rattle.tcc_graph.specs.Keys.{IsWriter, has_name}
use Rattle.tcc_graph.specs.Levels.{causally}
use Rattle.tcc_graph.specs.Links.{IsLink, link_from}
use Rattle.tcc_graph.specs.Relations.{IsReadsPair}
use Rattle.tcc_graph.specs.declared.link.Link.{Link}
use Rattle.tcc_graph.specs.declared.link.Link.TheVariants as link
use Rattle.tcc_graph.proofs.Pairs.{pair_parts}
use Rattle.tcc_watch.specs.Delivered.{IsDelivered, MayCome, with_last}
use Rattle.tcc_watch.proofs.Arrived.{count_more, delivered_more, more, new_entry, old_entry}
use Rattle.tcc_watch.proofs.Rising.{read_of, read_rises, session_rises, walk_rises}

module _ (h : History) (e : Entry) where
  abbrev g : History
  g = with_last h e

  abbrev t : ℕ
  t = count h

  pub writer_stays : (b : ℕ) (x : List ℕ) → IsWriter h b x → IsWriter g b x
  writer_stays b x (below, is) = (more h e b below, subst (λ (z : Entry). ((b == 0) || has_name z.writes x) ≡ true) (sym (old_entry h e b below)) is)

  pub writer_was : (b : ℕ) (x : List ℕ) → b < count h → IsWriter g b x → IsWriter h b x
  writer_was b x old (below, is) = (old, subst (λ (z : Entry). ((b == 0) || has_name z.writes x) ≡ true) (old_entry h e b old) is)

  pub new_writes : (x : List ℕ) → 0 < t → IsWriter g t x → has_name e.writes x ≡ true
  new_writes x some (below, is) = go (or_cases (t == 0) (has_name (entry_at g t).writes x) is)
    where
      go : ((t == 0) ≡ true) ⊎ (has_name (entry_at g t).writes x ≡ true) → has_name e.writes x ≡ true
      go (inl none) = absurd (omega (arith, eqb-true t 0 none, some))
      go (inr writes) = subst (λ (z : Entry). has_name z.writes x ≡ true) (new_entry h e t refl) writes

  pub new_writer : (x : List ℕ) → has_name e.writes x ≡ true → IsWriter g t x
  new_writer x writes = (
    omega (arith, count_more h e),
    or_right (t == 0) (has_name (entry_at g t).writes x) (subst (λ (z : Entry). has_name z.writes x ≡ true) (sym (new_entry h e t refl)) writes),
  )

  pub pair_of_read : (x : List ℕ) (a : ℕ) → MayCome h e → Contains e.reads (x, a) → IsReadsPair g a t x
  pair_of_read x a may there =
      let below : a < count h = All-contains (λ (read : List ℕ × ℕ). read.1 < count h) e.reads (x, a) may.sources there in (
        more h e a below,
        omega (arith, count_more h e),
        subst (λ (z : Entry). Contains (map (λ read. read.0) (filter (λ read. read.1 == a) z.reads)) x) (sym (new_entry h e t refl))
            (in_map (λ (read : List ℕ × ℕ). read.0) (filter (λ read. read.1 == a) e.reads) (x, a)
            (in_filter (λ (read : List ℕ × ℕ). read.1 == a) e.reads (x, a) there (eq-eqb a a refl))),
      )

  pub read_of_pair : (x : List ℕ) (a : ℕ) → IsReadsPair g a t x → Contains e.reads (x, a)
  read_of_pair x a p =
      let w = read_of g a t x p.2 in
      subst (λ (z : ℕ). Contains e.reads (x, z)) w.3
      (subst (λ (z : List ℕ). Contains e.reads (z, w.0.1)) w.2 (subst (λ (z : Entry). Contains z.reads w.0) (new_entry h e t refl) w.1))

  module _ (delivered : IsDelivered h) (may : MayCome h e) where
    -- no link begins at the transaction that comes
    pub begins_before : (l : Link) → IsLink (causally g) l → link_from l < count h
    begins_before (link.Session a b) p =
        omega (arith, session_rises g (delivered_more h e delivered may) a b p, (pair_parts g a b p).to, count_more h e)
    begins_before (link.Reads a b x) p = omega (arith, read_rises g (delivered_more h e delivered may) a b x p, p.1, count_more h e)
    begins_before (link.Derived b a x c walk) p =
        omega (arith, walk_rises g (delivered_more h e delivered may) b c walk p.1.0, p.0.1.1, count_more h e)
