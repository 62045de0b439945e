use Rattle.std.proofs.Common.{◌≡◌, length, arith}
use Rattle.tcc_graph.proofs.KeptKeys.{kept_sorted, long_ranks}
use Rattle.tcc_graph.proofs.OwnKeys.{each_passes, is_own, kept_indexed, kept_keys, only_own, own_indexed, own_names}
use Rattle.tcc_graph.proofs.own_keys.with_own_keys.Goals as goal

pub marks_of-requires : goal.marks_of-requires
marks_of-requires c =
    let long : c.len.result ≡ length c.args.names.items = omega (arith, c.len.ensures) in
    rw long c.requires.within

pub returns-then-all_marked-clause-value : goal.returns-then-all_marked-clause-value
returns-then-all_marked-clause-value c =
    let names = c.args.names.items in
    let all = c.args.transactions in
    let within = c.requires.within in
    let only = c.in_ok-marks.ensures.only (is_own names all within) (only_own names all within) in
    let marked = rw c.deref.ensures.value at (c.all_marked.ensures c.if-all_marked.true) in
    own_names names all within c.requires.sorted
    (λ k h. each_passes (is_own names all within) c.in_ok-marks.marks.items only marked k (omega (arith, h, c.in_ok-marks.ensures.long, c.len.ensures)))

pub returns-then-all_marked-clause-indexed : goal.returns-then-all_marked-clause-indexed
returns-then-all_marked-clause-indexed c = own_indexed c.args.names.items c.args.transactions c.requires.within

pub all_renumbered-requires : goal.all_renumbered-requires
all_renumbered-requires c =
    let marks = c.in_ok-marks.marks.items in
    let long : length marks ≡ length c.args.names.items = omega (arith, c.in_ok-marks.ensures.long, c.len.ensures) in
    rw (c.deref-4.ensures.value, c.in_ok-kept.ensures.ranks, c.deref-3.ensures.value, long_ranks 0 marks, long) c.requires.within

pub returns-clause-value : goal.returns-clause-value
returns-clause-value c =
    let names = c.args.names.items in
    let all = c.args.transactions in
    let within = c.requires.within in
    let marks = c.in_ok-marks.marks.items in
    let long : length marks ≡ length names = omega (arith, c.in_ok-marks.ensures.long, c.len.ensures) in
    let used = c.in_ok-marks.ensures.all in
    let only = c.in_ok-marks.ensures.only (is_own names all within) (only_own names all within) in
    rw (c.in_ok-kept.ensures.names, c.deref-2.ensures.value, c.deref-3.ensures.value) (kept_keys names c.requires.sorted all within marks long used only)

pub returns-clause-sorted : goal.returns-clause-sorted
returns-clause-sorted c =
    rw (c.in_ok-kept.ensures.names, c.deref-2.ensures.value, c.deref-3.ensures.value)
    (kept_sorted c.args.names.items c.in_ok-marks.marks.items c.requires.sorted)

pub returns-clause-indexed : goal.returns-clause-indexed
returns-clause-indexed c =
    let names = c.args.names.items in
    let all = c.args.transactions in
    let within = c.requires.within in
    let marks = c.in_ok-marks.marks.items in
    let long : length marks ≡ length names = omega (arith, c.in_ok-marks.ensures.long, c.len.ensures) in
    let used = c.in_ok-marks.ensures.all in
    let only = c.in_ok-marks.ensures.only (is_own names all within) (only_own names all within) in
    rw (
      c.in_ok-kept.ensures.names,
      c.in_ok-indexed.ensures,
      c.deref-4.ensures.value,
      c.in_ok-kept.ensures.ranks,
      c.deref-2.ensures.value,
      c.deref-3.ensures.value,
    ) (kept_indexed names c.requires.sorted all within marks long used only)
