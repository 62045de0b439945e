-- The resolver's look-ups, one operation at a time.
use Rattle.std.proofs.Common.{◌≡◌, ℕ, ◌+◌, ◌-◌, arith, cond, ◌&&◌, List, [], ◌∷◌, ◌++◌, ◌<◌, length, get_or, take, drop, Option, None, Some, refl, ap, sym, ◌∙◌}
use Rattle.std.specs.Option.{option_or}
use Rattle.std.specs.Prelude.{◌==◌}
use Rattle.tcc_txn.specs.declared.op.Op.{Op}
use Rattle.tcc_txn.specs.declared.op.Op.TheVariants.{Get, Put}
use Rattle.tcc_reads.specs.declared.fault.ReadFaultKind.TheVariants.{Duplicate}
use Rattle.tcc_reads.specs.declared.judging.OpJudgement.TheVariants.{Faulty, Silent}
use Rattle.tcc_reads.specs.private.Numbers.{Numbered}
use Rattle.tcc_reads.specs.Sources.{value_put, visible_write}
use Rattle.tcc_reads.specs.private.Verdicts.{Writes, AreOwnIn, IsOwn, write_judgement}
use Rattle.tcc_reads.proofs.Ties.{IsReadBefore, numbers_same, read_at, read_before}

option_or-none : (o : Option ℕ) → option_or None o ≡ option_or o None
option_or-none None = refl
option_or-none (Some x) = refl

option_or-assoc : (a b c : Option ℕ) → option_or (option_or a b) c ≡ option_or a (option_or b c)
option_or-assoc None b c = refl
option_or-assoc (Some x) b c = refl

-- one more operation of the same transaction
pub visible_write-push : (x : List ℕ) (before : List Op) (op : Op) → visible_write x (before ++ op ∷ []) ≡ option_or (value_put x op) (visible_write x before)
visible_write-push x [] op = option_or-none (value_put x op)
visible_write-push x (first ∷ before) op =
    ap (λ o. option_or o (value_put x first)) (visible_write-push x before op)
    ∙ option_or-assoc (value_put x op) (visible_write x before) (value_put x first)

-- the latest write among the first operations, by the last of them and those before it
pub latest_write : (x : List ℕ) (ops : List Op) (left : ℕ) (d op : Op) → left < length ops → get_or ops (length ops - 1 - left) d ≡ op
    → visible_write x (take (length ops - left) ops) ≡ option_or (value_put x op) (visible_write x (take (length ops - (left + 1)) ops))
latest_write x ops left d op within is =
    let same : length ops - left - 1 ≡ length ops - 1 - left = omega arith in
    let next : length ops - left - 1 ≡ length ops - (left + 1) = omega arith in
    let read : IsReadBefore ops (length ops - left) op
    = read_before ops (length ops - left) d op (omega arith) (omega arith) (ap (λ k. get_or ops k d) same ∙ is) in
    ap (visible_write x) (sym read.behind)
    ∙ visible_write-push x (take (length ops - left - 1) ops) op
    ∙ ap (λ k. option_or (value_put x op) (visible_write x (take k ops))) next

-- an own write says nothing about other transactions
pub own_is_silent : (table : Writes) (n : Numbered) (before after : List Op) (op : Op) (position : ℕ)
    → length before + 1 ≡ position → AreOwnIn table n before (op ∷ after) → IsOwn table n position op
own_is_silent table n before after (Get key value) position counted own = tt
own_is_silent table n before after (Put key value) position counted own =
    ap (write_judgement n position) own.0
    ∙ (λ i. cond ((numbers_same n.stand.session i && numbers_same n.stand.place i) && ((ap (λ k. k == position) counted ∙ numbers_same position) i)) Silent
    (Faulty Duplicate))

own_after : (table : Writes) (n : Numbered) (before after : List Op) (op : Op)
    → AreOwnIn table n before (op ∷ after) → AreOwnIn table n (before ++ op ∷ []) after
own_after table n before after (Get key value) own = own
own_after table n before after (Put key value) own = own.1

-- the operation at an index is done: what is known of those after it
module _ (ops : List Op) (index : ℕ) (op : Op) (within : index < length ops) (is : get_or ops index op ≡ op) where
  pub own_ahead : (table : Writes) (n : Numbered) → AreOwnIn table n (take index ops) (drop index ops) → AreOwnIn table n (take (index + 1) ops) (drop (index + 1) ops)
  own_ahead table n own =
      let read = read_at ops index op op within is in
      rw read.behind (own_after table n (take index ops) (drop (index + 1) ops) op (rw read.ahead at own))
