use Rattle.std.proofs.Common.{rules, ◌≡◌, ◌<◌, ◌+◌, ◌%◌, ◌∙◌, sym, max, length, slice_index, set, arith}
use Rattle.std.proofs.lemmas.Grind.{common_steps}
use Rattle.tcc_core.proofs.Filing.{one_set, two_set, filed_opened, listed_more, listed_kept, reached_below}
use Rattle.tcc_core.specs.declared.bucket_queue.TheConstants.{BUCKETS, NOWHERE}
use Rattle.tcc_core.proofs.queue.Queue.lower.Goals.{then-index, else-index}
use Rattle.tcc_core.proofs.queue.Queue.lower.Goals as goal

pub index_mut-requires : goal.index_mut-requires
index_mut-requires c =
    let q = c.self.inside in
    let within : c.args.v < length q.costs.items = rw (← c.self.view_is) at c.requires.within in
    let known : c.index.result.now ≡ slice_index q.costs.items c.args.v = grind (arith, common_steps, within) in
    let long : q.listed.len ≡ length q.listed.items = search rules in
    omega (arith, long, c.self.invariant.1.long, c.self.invariant.1.counted, reached_below q.costs.items c.args.v within (sym known ∙ c.if-index.true))

pub overflow_add-self : goal.overflow_add-self
overflow_add-self c =
    let q = c.self.inside in
    let within : c.args.v < length q.costs.items = rw (← c.self.view_is) at c.requires.within in
    let known : c.index.result.now ≡ slice_index q.costs.items c.args.v = grind (arith, common_steps, within) in
    let low = reached_below q.costs.items c.args.v within (sym known ∙ c.if-index.true) in
    omega (arith, low, c.self.invariant.1.counted, c.self.invariant.1.long, c.self.invariant.1.few)

pub invariant_of-self : goal.invariant_of-self
invariant_of-self c =
    let q = c.self.inside in
    let v = c.args.v in
    let n = c.args.cost in
    let costs = q.costs.items in
    let (filed, listed) = c.self.invariant in
    let within : v < length costs = rw (← c.self.view_is) at c.requires.within in
    let above : q.floor < n = rw (← c.self.view_is) at c.requires.above in
    let window : n < q.floor + BUCKETS = rw (← c.self.view_is) at c.requires.window in
    let known : c.index.result.now ≡ slice_index costs v = grind (arith, common_steps, within) in
    let inside : v < length q.buckets = omega (arith, filed.long, within) in
    elim c.if-index.branch [
      | then-index w ↦
          let more : c.max-self-inside.result ≡ max q.most n = rw w.self-inside-is at c.max-self-inside.ensures in
          let put : c.put.new.self ≡ set q.buckets v (n % BUCKETS) = rw w.self-inside-is at c.put.ensures in
          rw (w.self-inside-is, put) (
            filed_opened filed within above window c.requires.few more (one_set costs v n within) (one_set q.buckets v (n % BUCKETS) inside),
            listed_more listed v n within (sym known ∙ w.if-index.true) (omega (arith, c.requires.few)),
          )
      | else-index w ↦
          let more : c.max-self-inside.result ≡ max q.most n = rw w.self-inside-is at c.max-self-inside.ensures in
          let put : c.put.new.self ≡ set w.take.new.self v (n % BUCKETS) = rw w.self-inside-is at c.put.ensures in
          rw (w.self-inside-is, put, w.take.ensures) (
            filed_opened filed within above window c.requires.few more (one_set costs v n within) (two_set q.buckets v NOWHERE (n % BUCKETS) inside),
            listed_kept listed v n within (λ e. w.if-index.false (known ∙ e)) (omega (arith, c.requires.few)),
          )
    ]
