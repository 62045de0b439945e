-- In a snapshot without faults, the sources found are the sources by the definition.
use Rattle.std.proofs.Common.{◌≡◌, ℕ, ◌+◌, Bool, true, false, cond, not, ◌&&◌, ◌||◌, List, [], ◌∷◌, ◌++◌, length, map, filter}
use Rattle.std.proofs.Common.{filter_map, flat_map, Option, None, Some, option_map, unwrap_or, refl, ap, sym, ◌∙◌, is_none}
use Rattle.std.proofs.Common.{nat_eq}
use Rattle.std.specs.Prelude.{◌==◌}
use Rattle.std.specs.List.{list_any, cons_option, position_from}
use Rattle.std.specs.Option.{option_or, option_eq}
use Rattle.std.specs.Str.{bytes_eq}
use Rattle.tcc_txn.specs.declared.op.Op.{Op}
use Rattle.tcc_txn.specs.declared.op.Op.TheVariants.{Get, Put}
use Rattle.tcc_reads.specs.declared.fault.ReadFaultKind.TheVariants.{Duplicate, BrokenInternal, Intermediate, Future}
use Rattle.tcc_reads.specs.declared.writers.Writer.{Writer}
use Rattle.tcc_reads.specs.declared.judging.OpJudgement.{OpJudgement}
use Rattle.tcc_reads.specs.declared.judging.OpJudgement.TheVariants.{Faulty, ReadsFrom, Silent}
use Rattle.tcc_reads.specs.Sites.{Stand, Site, at, sites_from, committed}
use Rattle.tcc_reads.specs.private.Numbers.{Numbered, next_number, numbered_from}
use Rattle.tcc_reads.specs.Sources.{puts_at, value_put, visible_write, shows, source, external_read, external_reads, sorted_once, pair_cmp, writes_of, entry_of}
use Rattle.tcc_reads.specs.Faults.{puts}
use Rattle.tcc_txn.specs.Transactions.{op_key}
use Rattle.tcc_reads.specs.private.Verdicts.{writer_at, first_in, first_writer, is_in, write_judgement, judgement_from, read_judgement, own_judgement}
use Rattle.tcc_reads.specs.private.Verdicts.{site_judgement, fault_in, source_in, fault_found, source_found, faults_found, sources_found, entry_found}
use Rattle.tcc_reads.specs.private.Verdicts.{entries_found}
use Rattle.std.proofs.lemmas.Bool.{and_parts, or_parts, not-true}
use Rattle.tcc_reads.proofs.Ties.{same_name}
use Rattle.tcc_reads.proofs.Agreement.{kind_in}

-- whether the option has this value
abbrev pub has : ℕ → Option ℕ → Bool
has v o = option_eq nat_eq o (Some v)

has-later : (v value : ℕ) (b : Bool) (o : Option ℕ) → has v o ≡ false → (b && (value == v)) ≡ false → has v (option_or o (cond b (Some value) None)) ≡ false
has-later v value true None none not_here = not_here
has-later v value false None none not_here = refl
has-later v value b (Some a) none not_here = none

pub has-kept : (v : ℕ) (o p : Option ℕ) → has v o ≡ true → has v (option_or o p) ≡ true
has-kept v None p here = cc
has-kept v (Some a) p here = here

or-none : (o : Option ℕ) → option_or o None ≡ o
or-none None = refl
or-none (Some a) = refl

-- a value that is never written isn't the visible one
pub never_shown : (x : List ℕ) (v : ℕ) (ops : List Op) → list_any (puts x v) ops ≡ false → has v (visible_write x ops) ≡ false
never_shown x v [] none = refl
never_shown x v (Get key value ∷ later) none = ap (has v) (or-none (visible_write x later)) ∙ never_shown x v later none
never_shown x v (Put key value ∷ later) none =
    let parts = or_parts (bytes_eq key x && (value == v)) (list_any (puts x v) later) none in
    has-later v value (bytes_eq key x) (visible_write x later) (never_shown x v later parts.1) parts.0

-- if a key isn't written, nothing is visible there
nothing_visible : (x : List ℕ) (ops : List Op) → list_any (puts_at x) ops ≡ false → visible_write x ops ≡ None
nothing_visible x [] none = refl
nothing_visible x (Get key value ∷ later) none = ap (λ o. option_or o None) (nothing_visible x later none)
nothing_visible x (Put key value ∷ later) none =
    let parts = or_parts (bytes_eq key x) (list_any (puts_at x) later) none in
    λ i. option_or (nothing_visible x later parts.1 i) (cond (parts.0 i) (Some value) None)

-- the last write of a key is visible
pub last_shown : (x : List ℕ) (v : ℕ) (op : Op) (after : List Op) → puts x v op ≡ true → not (list_any (puts_at (op_key op)) after) ≡ true
    → has v (visible_write x (op ∷ after)) ≡ true
last_shown x v (Get key value) after here last = cc
last_shown x v (Put key value) after here last =
    let parts = and_parts (bytes_eq key x) (value == v) here in
    let same : key ≡ x = same_name key x parts.0 in
    let quiet : list_any (puts_at x) after ≡ false = ap (λ k. list_any (puts_at k) after) (sym same) ∙ not-true (list_any (puts_at key) after) last in
    (λ i. has v (option_or (nothing_visible x after quiet i) (cond (parts.0 i) (Some value) None))) ∙ parts.1

none_in : (n : Numbered) (before ops : List Op) (x : List ℕ) (v : ℕ) (otherwise : Option Writer) → list_any (puts x v) ops ≡ false
    → first_in n before ops x v otherwise ≡ otherwise
none_in n before [] x v otherwise none = refl
none_in n before (op ∷ after) x v otherwise none =
    let parts = or_parts (puts x v op) (list_any (puts x v) after) none in
    ap (λ b. cond b (Some (writer_at n before (op_key op) after)) (first_in n (before ++ op ∷ []) after x v otherwise)) parts.0
    ∙ none_in n (before ++ op ∷ []) after x v otherwise parts.1

-- a first write that is found in a transaction has its number, and is visible if it is the last one at its key
pub record IsFoundIn (n : Numbered) (ops : List Op) (x : List ℕ) (v : ℕ) (first : Writer) : Type 0 where
  pub number : first.number ≡ cond n.stand.txn.committed (Some n.number) None
  pub shown : first.last ≡ true → has v (visible_write x ops) ≡ true

found_in : (n : Numbered) (before ops : List Op) (x : List ℕ) (v : ℕ) (otherwise : Option Writer) (first : Writer) → list_any (puts x v) ops ≡ true
    → first_in n before ops x v otherwise ≡ Some first → IsFoundIn n ops x v first
found_in n before [] x v otherwise first some found = cc
found_in n before (op ∷ after) x v otherwise first some found =
    by (puts x v op) refl (λ any in_rest. found_in n (before ++ op ∷ []) after x v otherwise first any in_rest)
  where
    by : (b : Bool) → puts x v op ≡ b
        → (list_any (puts x v) after ≡ true → first_in n (before ++ op ∷ []) after x v otherwise ≡ Some first → IsFoundIn n after x v first)
        → IsFoundIn n (op ∷ after) x v first
    by true here deeper =
        let same : Some (writer_at n before (op_key op) after) ≡ Some first
        = sym (ap (λ b. cond b (Some (writer_at n before (op_key op) after)) (first_in n (before ++ op ∷ []) after x v otherwise)) here) ∙ found in
        let is : writer_at n before (op_key op) after ≡ first = cc in
        record {
          number = sym (ap (λ w. w.number) is);
          shown = λ last. last_shown x v op after here (ap (λ w. w.last) is ∙ last);
        }
    by false elsewhere deeper =
        let rest : IsFoundIn n after x v first =
        deeper (sym (ap (λ b. b || list_any (puts x v) after) elsewhere) ∙ some)
        (sym (ap (λ b. cond b (Some (writer_at n before (op_key op) after)) (first_in n (before ++ op ∷ []) after x v otherwise)) elsewhere) ∙ found) in
        record { number = rest.number; shown = λ last. has-kept v (visible_write x after) (value_put x op) (rest.shown last) }

abbrev numbered : ℕ → Stand → Numbered
numbered number stand = record { number = number; stand = stand }

-- the number of a first write that is the last one at its key is the source of its value
pub sourced : (number : ℕ) (some : List Stand) (x : List ℕ) (v : ℕ) (first : Writer) (m : ℕ)
    → first_writer (numbered_from number some) x v ≡ Some first → first.number ≡ Some m → first.last ≡ true
    → position_from (shows x v) number (committed some) ≡ Some m
sourced number [] x v first m found is last = cc
sourced number (stand ∷ later) x v first m found is last =
    by_ops (list_any (puts x v) stand.txn.ops) refl (λ in_rest. sourced (next_number number stand) later x v first m in_rest is last)
  where
    by_ops : (b : Bool) → list_any (puts x v) stand.txn.ops ≡ b
        → (first_writer (numbered_from (next_number number stand) later) x v ≡ Some first
        → position_from (shows x v) (next_number number stand) (committed later) ≡ Some m)
        → position_from (shows x v) number (committed (stand ∷ later)) ≡ Some m
    by_ops true here deeper = by_end stand.txn.committed refl
      where
        facts : IsFoundIn (numbered number stand) stand.txn.ops x v first
        facts = found_in (numbered number stand) [] stand.txn.ops x v (first_writer (numbered_from (next_number number stand) later) x v) first here found

        by_end : (b : Bool) → stand.txn.committed ≡ b → position_from (shows x v) number
            (cond stand.txn.committed (stand ∷ committed later) (committed later)) ≡ Some m
        by_end true ended =
            let same_number : Some number ≡ Some m = sym (ap (λ b. cond b (Some number) None) ended) ∙ sym facts.number ∙ is in
            ap (λ b. position_from (shows x v) number (cond b (stand ∷ committed later) (committed later))) ended
            ∙ ap (λ b. cond b (Some number) (position_from (shows x v) (number + 1) (committed later))) (facts.shown last)
            ∙ same_number
        by_end false gone =
            let none : None ≡ Some m = sym (ap (λ b. cond b (Some number) None) gone) ∙ sym facts.number ∙ is in
            cc
    by_ops false absent deeper = by_end stand.txn.committed refl deeper_here
      where
        deeper_here : position_from (shows x v) (next_number number stand) (committed later) ≡ Some m
        deeper_here =
            deeper (sym (none_in (numbered number stand) [] stand.txn.ops x v (first_writer (numbered_from (next_number number stand) later) x v) absent)
            ∙ found)

        by_end : (b : Bool) → stand.txn.committed ≡ b → position_from (shows x v) (next_number number stand) (committed later) ≡ Some m
            → position_from (shows x v) number (cond stand.txn.committed (stand ∷ committed later) (committed later)) ≡ Some m
        by_end true ended next =
            ap (λ b. position_from (shows x v) number (cond b (stand ∷ committed later) (committed later))) ended
            ∙ ap (λ b. cond b (Some number) (position_from (shows x v) (number + 1) (committed later))) (never_shown x v stand.txn.ops absent)
            ∙ sym (ap (λ b. position_from (shows x v) (cond b (number + 1) number) (committed later)) ended)
            ∙ next
        by_end false gone next =
            ap (λ b. position_from (shows x v) number (cond b (stand ∷ committed later) (committed later))) gone
            ∙ sym (ap (λ b. position_from (shows x v) (cond b (number + 1) number) (committed later)) gone)
            ∙ next

-- an external read, by key and source
abbrev pub with_source : List Stand → List ℕ × ℕ → List ℕ × ℕ
with_source all r = (r.0, source all r.0 r.1)

pub no_pair : {A : Type 0} (o : Option A) (xs : List A) → cons_option o xs ≡ [] → (o ≡ None) × (xs ≡ [])
no_pair None xs e = (refl, e)
no_pair (Some x) xs e = cc

no_append : {A : Type 0} (xs ys : List A) → xs ++ ys ≡ [] → (xs ≡ []) × (ys ≡ [])
no_append [] ys e = (refl, e)
no_append (x ∷ xs) ys e = cc

no_kind : (stand : Stand) (position : ℕ) (op : Op) (judgement : OpJudgement) → fault_in stand position op judgement ≡ None → kind_in judgement ≡ None
no_kind stand position op (Faulty kind) e = cc
no_kind stand position op (ReadsFrom number) e = refl
no_kind stand position op Silent e = refl

module _ (all : List Stand) (table : List ℕ → ℕ → Option Writer)
    (known : (x : List ℕ) (v : ℕ) (first : Writer) (m : ℕ) → table x v ≡ Some first → first.number ≡ Some m → first.last ≡ true
    → position_from (shows x v) 1 (committed all) ≡ Some m) where
  -- for a read of another value than 0
  found_source : (n : Numbered) (key : List ℕ) (value : ℕ) → kind_in (read_judgement n (table key value)) ≡ None
      → source_in (Get key value) (read_judgement n (table key value)) ≡ Some (key, unwrap_or (position_from (shows key value) 1 (committed all)) 0)
  found_source n key value none = by_found (table key value) refl none
    where
      by_last : (first : Writer) (m : ℕ) → table key value ≡ Some first → first.number ≡ Some m → (b : Bool) → first.last ≡ b
          → kind_in (cond b (ReadsFrom m) (Faulty Intermediate)) ≡ None
          → source_in (Get key value) (cond b (ReadsFrom m) (Faulty Intermediate)) ≡ Some (key, unwrap_or (position_from (shows key value) 1 (committed all)) 0)
      by_last first m found is true last none = ap (λ o. Some (key, unwrap_or o 0)) (sym (known key value first m found is last))
      by_last first m found is false last none = cc

      by_place : (first : Writer) (m : ℕ) → table key value ≡ Some first → first.number ≡ Some m → (b : Bool)
          → kind_in (cond b (Faulty Future) (cond first.last (ReadsFrom m) (Faulty Intermediate))) ≡ None
          → source_in (Get key value) (cond b (Faulty Future) (cond first.last (ReadsFrom m) (Faulty Intermediate)))
          ≡ Some (key, unwrap_or (position_from (shows key value) 1 (committed all)) 0)
      by_place first m found is true none = cc
      by_place first m found is false none = by_last first m found is first.last refl none

      by_number : (first : Writer) → table key value ≡ Some first → (number : Option ℕ) → first.number ≡ number
          → kind_in (judgement_from n first number) ≡ None
          → source_in (Get key value) (judgement_from n first number) ≡ Some (key, unwrap_or (position_from (shows key value) 1 (committed all)) 0)
      by_number first found None is none = cc
      by_number first found (Some m) is none = by_place first m found is (is_in n first) none

      by_found : (o : Option Writer) → table key value ≡ o → kind_in (read_judgement n o) ≡ None
          → source_in (Get key value) (read_judgement n o) ≡ Some (key, unwrap_or (position_from (shows key value) 1 (committed all)) 0)
      by_found None found none = cc
      by_found (Some first) found none = by_number first found first.number refl none

  own_source : (n : Numbered) (key : List ℕ) (value : ℕ) (own : Option ℕ) → kind_in (own_judgement n value own (table key value)) ≡ None
      → source_in (Get key value) (own_judgement n value own (table key value))
      ≡ option_map (with_source all) (cond (is_none own) (Some (key, value)) None)
  own_source n key value (Some own) none =
      elim (own == value) as (λ b. source_in (Get key value) (cond b Silent (Faulty BrokenInternal)) ≡ None) [ true ↦ refl | false ↦ refl ]
  own_source n key value None none =
      elim (value == 0) as (λ b. kind_in (cond b (ReadsFrom 0) (read_judgement n (table key value))) ≡ None
      → source_in (Get key value) (cond b (ReadsFrom 0) (read_judgement n (table key value)))
      ≡ Some (key, cond b 0 (unwrap_or (position_from (shows key value) 1 (committed all)) 0))) [
        | true ↦ λ _. refl
        | false ↦ λ quiet. found_source n key value quiet
      ] none

  write_source : (n : Numbered) (key : List ℕ) (value position : ℕ) (found : Option Writer) → source_in (Put key value) (write_judgement n position found) ≡ None
  write_source n key value position None = refl
  write_source n key value position (Some first) =
      elim (is_in n first && (first.op == position)) as (λ b. source_in (Put key value) (cond b Silent (Faulty Duplicate)) ≡ None) [ true ↦ refl | false ↦ refl ]

  pub site_source : (n : Numbered) → n.stand.txn.committed ≡ true → (before : List Op) (op : Op) (after : List Op)
      → let one : Site = record { stand = n.stand; before = before; op = op; after = after } in
      fault_found table n one ≡ None → source_found table n one ≡ option_map (with_source all) (external_read one)
  site_source n ended before (Put key value) after none = write_source n key value (length before + 1) (table key value)
  site_source n ended before (Get key value) after none =
      let one : Site = record { stand = n.stand; before = before; op = Get key value; after = after } in
      let own : Option ℕ = visible_write key before in
      let quiet : kind_in (site_judgement table n one) ≡ None = no_kind n.stand (at one) (Get key value) (site_judgement table n one) none in
      ap (λ b. source_in (Get key value) (cond b (own_judgement n value own (table key value)) Silent)) ended
      ∙ own_source n key value own (sym (ap (λ b. kind_in (cond b (own_judgement n value own (table key value)) Silent)) ended) ∙ quiet)

  map-cons_option : {A B : Type 0} (f : A → B) (o : Option A) (xs : List A) → cons_option (option_map f o) (map f xs) ≡ map f (cons_option o xs)
  map-cons_option f None xs = refl
  map-cons_option f (Some x) xs = refl

  sources_in : (n : Numbered) → n.stand.txn.committed ≡ true → (before ops : List Op)
      → filter_map (fault_found table n) (sites_from n.stand before ops) ≡ []
      → filter_map (source_found table n) (sites_from n.stand before ops) ≡ map (with_source all) (filter_map external_read (sites_from n.stand before ops))
  sources_in n ended before [] none = refl
  sources_in n ended before (op ∷ after) none =
      let one : Site = record { stand = n.stand; before = before; op = op; after = after } in
      let parts = no_pair (fault_found table n one) (filter_map (fault_found table n) (sites_from n.stand (before ++ op ∷ []) after)) none in
      (λ i. cons_option (site_source n ended before op after parts.0 i) (sources_in n ended (before ++ op ∷ []) after parts.1 i))
      ∙ map-cons_option (with_source all) (external_read one) (filter_map external_read (sites_from n.stand (before ++ op ∷ []) after))

  -- the entries found are those of the history
  pub entries_agree : (number : ℕ) (some : List Stand) → flat_map (faults_found table) (numbered_from number some) ≡ []
      → entries_found table (numbered_from number some) ≡ map (entry_of all) (committed some)
  entries_agree number [] none = refl
  entries_agree number (stand ∷ later) none = by_end stand.txn.committed refl (entries_agree (next_number number stand) later parts.1)
    where
      parts : (faults_found table (numbered number stand) ≡ []) × (flat_map (faults_found table) (numbered_from (next_number number stand) later) ≡ [])
      parts = no_append (faults_found table (numbered number stand)) (flat_map (faults_found table) (numbered_from (next_number number stand) later)) none

      by_end : (b : Bool) → stand.txn.committed ≡ b
          → entries_found table (numbered_from (next_number number stand) later) ≡ map (entry_of all) (committed later)
          → entries_found table (numbered_from number (stand ∷ later)) ≡ map (entry_of all) (committed (stand ∷ later))
      by_end true ended rest =
          let reads : sources_found table (numbered number stand) ≡ map (with_source all) (external_reads stand)
          = sources_in (numbered number stand) ended [] stand.txn.ops parts.0 in
          let entry : entry_found table (numbered number stand) ≡ entry_of all stand
          = ap (λ rs. record { owner = stand.session; place = stand.place; writes = writes_of stand; reads = sorted_once pair_cmp rs }) reads in
          ap (λ b. map (entry_found table)
          (cond b (numbered number stand ∷ filter (λ n. n.stand.txn.committed) (numbered_from (next_number number stand) later))
          (filter (λ n. n.stand.txn.committed) (numbered_from (next_number number stand) later)))) ended
          ∙ (λ i. entry i ∷ rest i)
          ∙ sym (ap (λ b. map (entry_of all) (cond b (stand ∷ committed later) (committed later))) ended)
      by_end false gone rest =
          ap (λ b. map (entry_found table)
          (cond b (numbered number stand ∷ filter (λ n. n.stand.txn.committed) (numbered_from (next_number number stand) later))
          (filter (λ n. n.stand.txn.committed) (numbered_from (next_number number stand) later)))) gone
          ∙ rest
          ∙ sym (ap (λ b. map (entry_of all) (cond b (stand ∷ committed later) (committed later))) gone)
