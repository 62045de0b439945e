-- The resolver's table and judgements agree with the definitions.
use Rattle.std.proofs.Common.{◌≡◌, ℕ, Bool, true, false, cond, ◌&&◌, List, [], ◌∷◌, ◌++◌, find}
use Rattle.std.proofs.Common.{filter_map, flat_map, Option, None, Some, option_map, refl, ap, sym}
use Rattle.std.proofs.Common.{◌∙◌, is_some}
use Rattle.std.specs.Prelude.{◌==◌}
use Rattle.std.specs.List.{cons_option}
use Rattle.std.proofs.lemmas.List.Elements.{filter_map-append}
use Rattle.tcc_txn.specs.declared.op.Op.{Op}
use Rattle.tcc_txn.specs.declared.op.Op.TheVariants.{Get, Put}
use Rattle.tcc_reads.specs.declared.fault.ReadFault.{ReadFault}
use Rattle.tcc_reads.specs.declared.writers.Writer.{Writer}
use Rattle.tcc_reads.specs.declared.fault.ReadFaultKind.{ReadFaultKind}
use Rattle.tcc_reads.specs.declared.fault.ReadFaultKind.TheVariants.{Duplicate, BrokenInternal, Intermediate, Future}
use Rattle.tcc_reads.specs.declared.judging.OpJudgement.{OpJudgement}
use Rattle.tcc_reads.specs.declared.judging.OpJudgement.TheVariants.{Faulty, ReadsFrom, Silent}
use Rattle.tcc_reads.specs.Sites.{Stand, Site, at, sites_from, sites_of, sites}
use Rattle.tcc_reads.specs.private.Numbers.{Numbered, next_number, numbered_from}
use Rattle.tcc_reads.specs.Sources.{visible_write}
use Rattle.tcc_reads.specs.Faults.{puts, writer, is_last_at_key, is_same_transaction, is_same_site, write_kind, external_kind, read_kind, kind_at, fault_at}
use Rattle.tcc_txn.specs.Transactions.{op_key, op_value}
use Rattle.tcc_reads.specs.private.Verdicts.{writer_at, first_in, first_writer, is_in, write_judgement}
use Rattle.tcc_reads.specs.private.Verdicts.{judgement_from, read_judgement, own_judgement, site_judgement, fault_in}
use Rattle.tcc_reads.specs.private.Verdicts.{fault_found, faults_found}

-- the table's record of a write is right
pub record Records (first : Writer) (site : Site) : Type 0 where
  pub session : first.session ≡ site.stand.session
  pub place : first.place ≡ site.stand.place
  pub op : first.op ≡ at site
  pub number : is_some first.number ≡ site.stand.txn.committed
  pub last : first.last ≡ is_last_at_key site

-- the table and the history both have no write, or have the same one
abbrev pub Agree : Option Writer → Option Site → Type 0
Agree None None = Unit {0}
Agree None (Some site) = ⊥
Agree (Some first) None = ⊥
Agree (Some first) (Some site) = Records first site

is_some-if : (b : Bool) (n : ℕ) → is_some (cond b (Some n) None) ≡ b
is_some-if true n = refl
is_some-if false n = refl

agree_in : (n : Numbered) (before ops : List Op) (x : List ℕ) (v : ℕ) (others : List Site) (otherwise : Option Writer)
    → Agree otherwise (find (λ site. puts x v site.op) others)
    → Agree (first_in n before ops x v otherwise) (find (λ site. puts x v site.op) (sites_from n.stand before ops ++ others))
agree_in n before [] x v others otherwise agree = agree
agree_in n before (op ∷ after) x v others otherwise agree =
    elim (puts x v op) as (λ b. Agree (cond b (Some (writer_at n before (op_key op) after)) (first_in n (before ++ op ∷ []) after x v otherwise))
    (cond b (Some (record { stand = n.stand; before = before; op = op; after = after }))
    (find (λ site. puts x v site.op) (sites_from n.stand (before ++ op ∷ []) after ++ others)))) [
      | true ↦ record { session = refl; place = refl; op = refl; number = is_some-if n.stand.txn.committed n.number; last = refl }
      | false ↦ agree_in n (before ++ op ∷ []) after x v others otherwise agree
    ]

-- the first writes of the numbered transactions are the writers
pub agree_on : (number : ℕ) (all : List Stand) (x : List ℕ) (v : ℕ)
    → Agree (first_writer (numbered_from number all) x v) (find (λ site. puts x v site.op) (sites all))
agree_on number [] x v = tt
agree_on number (stand ∷ later) x v =
    agree_in (record { number = number; stand = stand }) [] stand.txn.ops x v (sites later)
    (first_writer (numbered_from (next_number number stand) later) x v) (agree_on (next_number number stand) later x v)

-- the kind of fault that a judgement names
abbrev pub kind_in : OpJudgement → Option ReadFaultKind
kind_in (Faulty kind) = Some kind
kind_in (ReadsFrom number) = None
kind_in Silent = None

report : Stand → ℕ → Op → ReadFaultKind → ReadFault
report stand position op kind =
    record { session = stand.name; place = stand.place; op = position; key = op_key op; value = op_value op; kind = kind }

fault_in-kind : (stand : Stand) (position : ℕ) (op : Op) (judgement : OpJudgement)
    → fault_in stand position op judgement ≡ option_map (report stand position op) (kind_in judgement)
unfolding report
fault_in-kind stand position op (Faulty kind) = refl
fault_in-kind stand position op (ReadsFrom number) = refl
fault_in-kind stand position op Silent = refl

module _ (n : Numbered) (before : List Op) (op : Op) (after : List Op) where
  abbrev site : Site
  site = record { stand = n.stand; before = before; op = op; after = after }

  same_place : (first : Writer) (write : Site) → Records first write → is_in n first ≡ is_same_transaction write.stand n.stand
  same_place first write right = λ i. (right.session i == n.stand.session) && (right.place i == n.stand.place)

  write_kinds : (found : Option Writer) (write : Option Site) → Agree found write → kind_in (write_judgement n (at site) found) ≡ write_kind site write
  write_kinds None None agree = refl
  write_kinds None (Some write) agree = absurd agree
  write_kinds (Some first) None agree = absurd agree
  write_kinds (Some first) (Some write) agree =
      rw (same_place first write agree, agree.op)
      (elim (is_same_site write site) as (λ b. kind_in (cond b Silent (Faulty Duplicate)) ≡ cond b None (Some Duplicate)) [ true ↦ refl | false ↦ refl ])

  external_kinds : (found : Option Writer) (write : Option Site) → Agree found write → kind_in (read_judgement n found) ≡ external_kind site write
  external_kinds None None agree = refl
  external_kinds None (Some write) agree = absurd agree
  external_kinds (Some first) None agree = absurd agree
  external_kinds (Some first) (Some write) agree = by_number first.number agree.number
    where
      by_number : (number : Option ℕ) → is_some number ≡ write.stand.txn.committed → kind_in (judgement_from n first number) ≡ external_kind site (Some write)
      by_number None none = rw (← none) refl
      by_number (Some m) some =
          rw (← some, same_place first write agree, agree.last)
          (elim (is_same_transaction write.stand n.stand) as
          (λ b. kind_in (cond b (Faulty Future) (cond (is_last_at_key write) (ReadsFrom m) (Faulty Intermediate)))
          ≡ cond b (Some Future) (cond (is_last_at_key write) None (Some Intermediate))) [
            | true ↦ refl
            | false ↦ elim (is_last_at_key write) as
                (λ b. kind_in (cond b (ReadsFrom m) (Faulty Intermediate)) ≡ cond b None (Some Intermediate)) [ true ↦ refl | false ↦ refl ]
          ])

module _ (all : List Stand) (table : List ℕ → ℕ → Option Writer) (agrees : (x : List ℕ) (v : ℕ) → Agree (table x v) (writer all x v)) where
  own_kinds : (n : Numbered) (before after : List Op) (key : List ℕ) (value : ℕ) (own : Option ℕ)
      → let read : Site = record { stand = n.stand; before = before; op = Get key value; after = after } in
      kind_in (own_judgement n value own (table key value)) ≡ read_kind all read key value own
  own_kinds n before after key value (Some own) =
      elim (own == value) as (λ b. kind_in (cond b Silent (Faulty BrokenInternal)) ≡ cond b None (Some BrokenInternal)) [ true ↦ refl | false ↦ refl ]
  own_kinds n before after key value None =
      let read : Site = record { stand = n.stand; before = before; op = Get key value; after = after } in
      elim (value == 0) as (λ b. kind_in (cond b (ReadsFrom 0) (read_judgement n (table key value)))
      ≡ cond b None (external_kind read (writer all key value))) [
        | true ↦ refl
        | false ↦ external_kinds n before (Get key value) after (table key value) (writer all key value) (agrees key value)
      ]

  kinds_agree : (n : Numbered) (before : List Op) (op : Op) (after : List Op)
      → let one : Site = record { stand = n.stand; before = before; op = op; after = after } in
      kind_in (site_judgement table n one) ≡ kind_at all one op
  kinds_agree n before (Put key value) after =
      write_kinds n before (Put key value) after (table key value) (writer all key value) (agrees key value)
  kinds_agree n before (Get key value) after =
      let read : Site = record { stand = n.stand; before = before; op = Get key value; after = after } in
      elim n.stand.txn.committed as (λ b. kind_in (cond b (own_judgement n value (visible_write key before) (table key value)) Silent)
      ≡ cond b (read_kind all read key value (visible_write key before)) None) [
        | true ↦ own_kinds n before after key value (visible_write key before)
        | false ↦ refl
      ]

  -- if the fault of an operation is found, it is its fault
  pub fault_agrees : (n : Numbered) (before : List Op) (op : Op) (after : List Op)
      → let one : Site = record { stand = n.stand; before = before; op = op; after = after } in
      fault_found table n one ≡ fault_at all one
  unfolding report
  fault_agrees n before op after =
      let one : Site = record { stand = n.stand; before = before; op = op; after = after } in
      fault_in-kind n.stand (at one) op (site_judgement table n one) ∙ ap (option_map (report n.stand (at one) op)) (kinds_agree n before op after)

  faults_agree_in : (n : Numbered) (before ops : List Op)
      → filter_map (fault_found table n) (sites_from n.stand before ops) ≡ filter_map (fault_at all) (sites_from n.stand before ops)
  faults_agree_in n before [] = refl
  faults_agree_in n before (op ∷ after) = λ i. cons_option (fault_agrees n before op after i) (faults_agree_in n (before ++ op ∷ []) after i)

  -- the faults found are the faults by the definition
  pub faults_agree : (number : ℕ) (some : List Stand)
      → flat_map (faults_found table) (numbered_from number some) ≡ filter_map (fault_at all) (sites some)
  faults_agree number [] = refl
  faults_agree number (stand ∷ later) =
      let n : Numbered = record { number = number; stand = stand } in
      (λ i. faults_agree_in n [] stand.txn.ops i ++ faults_agree (next_number number stand) later i)
      ∙ sym (filter_map-append (fault_at all) (sites_of stand) (sites later))
