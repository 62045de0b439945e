-- What is traced is what the definition says.
use Rattle.std.proofs.Common.{◌≡◌, ℕ, Bool, true, false, cond, List, [], ◌∷◌, ◌++◌, map, filter, filter_map, Option, None, Some}
use Rattle.std.proofs.Common.{option_map, refl, ap, sym, ◌∙◌, subst, is_none}
use Rattle.std.specs.List.{cons_option, position_from}
use Rattle.tcc_txn.specs.declared.op.Op.{Op}
use Rattle.tcc_txn.specs.declared.op.Op.TheVariants.{Get, Put}
use Rattle.tcc_txn.specs.Transactions.{op_key, op_value}
use Rattle.tcc_reads.specs.declared.fault.ReadFault.{ReadFault}
use Rattle.tcc_reads.specs.declared.writers.Writer.{Writer}
use Rattle.tcc_reads.specs.declared.judging.OpJudgement.{OpJudgement}
use Rattle.tcc_reads.specs.declared.judging.OpJudgement.TheVariants.{Faulty, ReadsFrom, Silent}
use Rattle.tcc_reads.specs.History.{Entry}
use Rattle.tcc_reads.specs.Sites.{Stand, Site, sites_from, sites_of, committed}
use Rattle.tcc_reads.specs.private.Numbers.{Numbered, next_number, numbered_from}
use Rattle.tcc_reads.specs.Sources.{shows, external_part, external_read, visible_write, sorted_once, pair_cmp, writes_of}
use Rattle.tcc_reads.specs.Faults.{writer, fault_at}
use Rattle.tcc_reads.specs.Traced.{sound_read}
use Rattle.tcc_reads.specs.private.Verdicts.{Writes, fault_in, source_in, fault_found, source_found, site_judgement, entries_found}
use Rattle.tcc_reads.specs.private.Tracings.{source_traced, entry_traced, entries_traced}
use Rattle.tcc_reads.proofs.Agreement.{Agree, fault_agrees}
use Rattle.tcc_reads.proofs.Sourcing.{with_source, site_source}

-- if all passes, what is traced is what is found
pub passes_all : (table : Writes) (p : List ℕ × ℕ → Bool) → ((r : List ℕ × ℕ) → p r ≡ true) → (ns : List Numbered)
    → entries_found table ns ≡ entries_traced table p ns
passes_all table p all ns =
    sym (λ i. map (λ (n : Numbered). record {
      owner = n.stand.session;
      place = n.stand.place;
      writes = writes_of n.stand;
      reads = sorted_once pair_cmp
          (filter_map (λ (site : Site). cond (all (op_key site.op, op_value site.op) i) (source_found table n site) None) (sites_of n.stand));
    }) (filter (λ n. n.stand.txn.committed) ns))

-- a read that is kept is the operation's key and value
part_is : (op : Op) (own : List ℕ → Option ℕ) (r : List ℕ × ℕ) → external_part op own ≡ Some r → r ≡ (op_key op, op_value op)
part_is (Put key value) own r is = absurd cc
part_is (Get key value) own r is = go (is_none (own key)) is
  where
    go : (b : Bool) → cond b (Some (key, value)) None ≡ Some r → r ≡ (key, value)
    go true e = cc
    go false e = absurd cc

no_source : (stand : Stand) (position : ℕ) (op : Op) (judgement : OpJudgement) (f : ReadFault) → fault_in stand position op judgement ≡ Some f
    → source_in op judgement ≡ None
no_source stand position op (Faulty kind) f e = refl
no_source stand position op (ReadsFrom number) f e = absurd cc
no_source stand position op Silent f e = refl

-- what a filter keeps of one read
sieve : (all : List Stand) (p : List ℕ × ℕ → Bool) (here : List ℕ × ℕ) (o : Option (List ℕ × ℕ)) → ((r : List ℕ × ℕ) → o ≡ Some r → r ≡ here)
    → (xs : List (List ℕ × ℕ))
    → cons_option (cond (p here) (option_map (with_source all) o) None) (map (with_source all) (filter p xs)) ≡ map (with_source all) (filter p (cons_option o xs))
sieve all p here None only xs =
    elim (p here) as (λ b. cons_option (cond b None None) (map (with_source all) (filter p xs)) ≡ map (with_source all) (filter p xs)) [ true ↦ refl | false ↦ refl ]
sieve all p here (Some r) only xs =
    subst (λ (z : List ℕ × ℕ). cons_option (cond (p z) (Some (with_source all r)) None) (map (with_source all) (filter p xs))
    ≡ map (with_source all) (cond (p r) (r ∷ filter p xs) (filter p xs))) (only r refl)
    (elim (p r) as (λ b. cons_option (cond b (Some (with_source all r)) None) (map (with_source all) (filter p xs))
    ≡ map (with_source all) (cond b (r ∷ filter p xs) (filter p xs))) [ true ↦ refl | false ↦ refl ])

module _ (all : List Stand) (table : List ℕ → ℕ → Option Writer) (agrees : (x : List ℕ) (v : ℕ) → Agree (table x v) (writer all x v))
    (known : (x : List ℕ) (v : ℕ) (first : Writer) (m : ℕ) → table x v ≡ Some first → first.number ≡ Some m → first.last ≡ true
    → position_from (shows x v) 1 (committed all) ≡ Some m) where
  sound_source : (n : Numbered) → n.stand.txn.committed ≡ true → (before : List Op) (op : Op) (after : List Op)
      → let one : Site = record { stand = n.stand; before = before; op = op; after = after } in
      source_found table n one ≡ option_map (with_source all) (sound_read all one)
  sound_source n ended before op after = go (fault_found table n one) refl
    where
      one : Site
      one = record { stand = n.stand; before = before; op = op; after = after }

      agreed : (o : Option ReadFault) → fault_found table n one ≡ o → o ≡ fault_at all one
      agreed o is = sym is ∙ fault_agrees all table agrees n before op after

      go : (o : Option ReadFault) → fault_found table n one ≡ o
          → source_found table n one ≡ option_map (with_source all) (cond (is_none (fault_at all one)) (external_read one) None)
      go None is =
          site_source all table known n ended before op after is
          ∙ ap (λ (f : Option ReadFault). option_map (with_source all) (cond (is_none f) (external_read one) None)) (agreed None is)
      go (Some f) is =
          no_source n.stand _ op (site_judgement table n one) f is
          ∙ ap (λ (f : Option ReadFault). option_map (with_source all) (cond (is_none f) (external_read one) None)) (agreed (Some f) is)

  sound_is : (site : Site) (r : List ℕ × ℕ) → sound_read all site ≡ Some r → r ≡ (op_key site.op, op_value site.op)
  sound_is site r is = go (is_none (fault_at all site)) is
    where
      go : (b : Bool) → cond b (external_read site) None ≡ Some r → r ≡ (op_key site.op, op_value site.op)
      go true e = part_is site.op (λ x. visible_write x site.before) r e
      go false e = absurd cc

  module _ (p : List ℕ × ℕ → Bool) where
    sources_sound : (n : Numbered) → n.stand.txn.committed ≡ true → (before ops : List Op)
        → filter_map (source_traced table p n) (sites_from n.stand before ops)
        ≡ map (with_source all) (filter p (filter_map (sound_read all) (sites_from n.stand before ops)))
    sources_sound n ended before [] = refl
    sources_sound n ended before (op ∷ after) =
        let one : Site = record { stand = n.stand; before = before; op = op; after = after } in
        (λ i. cons_option (cond (p (op_key op, op_value op)) (sound_source n ended before op after i) None) (sources_sound n ended (before ++ op ∷ []) after i))
        ∙ sieve all p (op_key op, op_value op) (sound_read all one) (sound_is one)
        (filter_map (sound_read all) (sites_from n.stand (before ++ op ∷ []) after))

    -- a committed transaction with the reads that are kept
    abbrev kept_entry : Stand → Entry
    kept_entry stand = record {
      owner = stand.session;
      place = stand.place;
      writes = writes_of stand;
      reads = sorted_once pair_cmp (map (with_source all) (filter p (filter_map (sound_read all) (sites_of stand))));
    }

    -- the entries traced are those
    pub traces_agree : (number : ℕ) (some : List Stand) → entries_traced table p (numbered_from number some) ≡ map kept_entry (committed some)
    traces_agree number [] = refl
    traces_agree number (stand ∷ later) = by_end stand.txn.committed refl (traces_agree (next_number number stand) later)
      where
        here : Numbered
        here = record { number = number; stand = stand }

        by_end : (b : Bool) → stand.txn.committed ≡ b
            → entries_traced table p (numbered_from (next_number number stand) later) ≡ map kept_entry (committed later)
            → entries_traced table p (numbered_from number (stand ∷ later)) ≡ map kept_entry (committed (stand ∷ later))
        by_end true ended rest =
            let entry : entry_traced table p here ≡ kept_entry stand
            = ap (λ rs. record { owner = stand.session; place = stand.place; writes = writes_of stand; reads = sorted_once pair_cmp rs })
            (sources_sound here ended [] stand.txn.ops) in
            ap (λ b. map (entry_traced table p)
            (cond b (here ∷ filter (λ n. n.stand.txn.committed) (numbered_from (next_number number stand) later))
            (filter (λ n. n.stand.txn.committed) (numbered_from (next_number number stand) later)))) ended
            ∙ (λ i. entry i ∷ rest i)
            ∙ sym (ap (λ b. map kept_entry (cond b (stand ∷ committed later) (committed later))) ended)
        by_end false gone rest =
            ap (λ b. map (entry_traced table p)
            (cond b (here ∷ filter (λ n. n.stand.txn.committed) (numbered_from (next_number number stand) later))
            (filter (λ n. n.stand.txn.committed) (numbered_from (next_number number stand) later)))) gone
            ∙ rest
            ∙ sym (ap (λ b. map kept_entry (cond b (stand ∷ committed later) (committed later))) gone)
