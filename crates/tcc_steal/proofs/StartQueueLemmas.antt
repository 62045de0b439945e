-- Each step on the deque of starts keeps the rule, and what it reports follows from the rule.
use Rattle.std.proofs.Common.{◌≡◌, ◌≢◌, ◌<◌, ◌+◌, ℕ, zero, suc, true, List, [], ◌∷◌, ◌++◌, length}
use Rattle.std.proofs.Common.{length-set, length-append, set, nat_lt, if◌then◌else◌, refl, sym, ap, subst}
use Rattle.std.proofs.Common.{⊎_elim, arith}
use Rattle.std.proofs.lemmas.Bool.{false≢true}
use Rattle.std.proofs.lemmas.Bool.Decides.{nat_tests}
use Rattle.std.proofs.lemmas.List.Elements.{All-nil, All-cons}
use mathlib.Core.Option.{some, some-injective, some-ne-none}
use lib.ListN.{get_elem?}
use Rattle.crossbeam_deque.specs.Tasks as tasks
use Rattle.crossbeam_deque.proofs.Lists.{at_set, at_snoc}
use Rattle.tcc_steal.specs.declared.deque_view.PassView.{PassView}
use Rattle.tcc_steal.specs.private.StartQueues.{AreRun, times, times_taken, IsStartQueue, first_pass, without_push, thief_of, Pushes, Takes}

-- ---- lists

below_length : (views : List PassView) (pass : ℕ) (view : PassView) → get_elem? views pass ≡ some view → pass < length views
below_length [] pass view at = absurd (some-ne-none view (sym at))
below_length (v ∷ views) zero view at = omega arith
below_length (v ∷ views) (suc pass) view at = let rest = below_length views pass view at in omega arith

taken_set : (x : ℕ) (views : List PassView) (pass : ℕ) (old new : PassView) → get_elem? views pass ≡ some old
    → times_taken x (set views pass new) + times x old.starts ≡ times_taken x views + times x new.starts
taken_set x [] pass old new at = absurd (some-ne-none old (sym at))
taken_set x (v ∷ views) zero old new at = let same : times x v.starts ≡ times x old.starts =
    ap (λ (u : PassView). times x u.starts) (some-injective v old at) in omega arith
taken_set x (v ∷ views) (suc pass) old new at = let rest = taken_set x views pass old new at in omega arith

taken_last : (x : ℕ) (views : List PassView) (new : PassView) → times_taken x (views ++ new ∷ []) ≡ times_taken x views + times x new.starts
taken_last x [] new = omega arith
taken_last x (v ∷ views) new = let rest = taken_last x views new in omega arith

times_append : (x : ℕ) (xs ys : List ℕ) → times x (xs ++ ys) ≡ times x xs + times x ys
times_append x [] ys = omega arith
times_append x (y ∷ xs) ys = let rest = times_append x xs ys in omega arith

run_last : (first : ℕ) (xs : List ℕ) (x : ℕ) → AreRun first xs → x ≡ first + length xs → AreRun first (xs ++ x ∷ [])
run_last first [] x run is = (omega (arith, is), tt)
run_last first (y ∷ xs) x run is = (run.0, run_last (first + 1) xs x run.1 (omega (arith, is)))

-- a fact of one view, and of each other
each_set : (P : PassView → Type 0) (views : List PassView) (pass : ℕ) (new : PassView) → P new → ((j : ℕ) (u : PassView) → j ≢ pass → get_elem? views j ≡ some u → P u)
    → (j : ℕ) (u : PassView) → get_elem? (set views pass new) j ≡ some u → P u
each_set P views pass new mine others j u at =
    ⊎_elim (λ (t : (j ≡ pass) × (new ≡ u)). subst P t.1 mine) (λ (t : (j ≢ pass) × (get_elem? views j ≡ some u)). others j u t.0 t.1)
    (at_set views pass j new u at)

each_last : (P : PassView → Type 0) (views : List PassView) (new : PassView) → P new → ((j : ℕ) (u : PassView) → get_elem? views j ≡ some u → P u) → (j : ℕ) (u : PassView)
    → get_elem? (views ++ new ∷ []) j ≡ some u → P u
each_last P views new mine others j u at =
    ⊎_elim (λ (t : get_elem? views j ≡ some u). others j u t) (λ (t : new ≡ u). subst P t mine) (at_snoc views new u j at)

-- where one is alone, there is no other
no_other : (views : List PassView) (pass j : ℕ) (view u : PassView) → length views ≡ 1 → get_elem? views pass ≡ some view → get_elem? views j ≡ some u → j ≢ pass → ⊥
no_other views pass j view u one at there apart = apart (omega (arith, one, below_length views pass view at, below_length views j u there))

-- ---- steps

pub begins : IsStartQueue [] (first_pass ∷ [])
begins = record {
  first = 0;
  run = tt;
  known = λ j u at live. one (λ v. v.pushed ≡ 0) refl j u at;
  alone = λ j u at may_push. refl;
  once = λ x. none x;
}
  where
    none : (x : ℕ) → times_taken x (first_pass ∷ []) ≡ (if nat_lt x 0 then 1 else 0)
    none x = grind (arith, nat_tests)

    one : (P : PassView → Type 0) → P first_pass → (j : ℕ) (u : PassView) → get_elem? (first_pass ∷ []) j ≡ some u → P u
    one P is zero u at = subst P (some-injective first_pass u at) is
    one P is (suc j) u at = absurd (some-ne-none u (sym at))

pub pushes : (pass : ℕ) (view : PassView) (x : ℕ) → view.may_push ≡ true → view.live ≡ true → x ≡ view.pushed
    → tasks.Pushes IsStartQueue pass view (x ∷ []) (Pushes view (x ∷ []))
pushes pass view x may_push live is items views h at =
    let new : PassView = record view { pushed = view.pushed + 1 } in
    let all : view.pushed ≡ h.first + length items = h.known pass view at live in
    let one : length views ≡ 1 = h.alone pass view at may_push in (
      new,
      record {
        first = h.first;
        run = run_last h.first items x h.run (omega (arith, is, all));
        known =
            each_set (λ u. u.live ≡ true → u.pushed ≡ h.first + length (items ++ x ∷ [])) views pass new
            (λ _. omega (arith, all, length-append items (x ∷ []))) (λ j u apart there _. absurd (no_other views pass j view u one at there apart));
        alone = λ j u there _. omega (arith, one, length-set views pass new);
        once = λ y. let same = taken_set y views pass view new at in let old = h.once y in omega arith;
      },
      refl,
    )

-- one more number was taken
one_more : (x first : ℕ) → (if nat_lt x first then 1 else 0) + (times x (first ∷ [])) ≡ (if nat_lt x (first + 1) then 1 else 0)
one_more x first = grind (arith, nat_tests)

pub takes : (pass : ℕ) (view : PassView) → view.live ≡ true → tasks.Takes IsStartQueue pass view 1 (Takes view)
takes pass view live [] items views long few h at = absurd (omega arith)
takes pass view live (x ∷ y ∷ xs) items views long few h at = absurd (omega arith)
takes pass view live (x ∷ []) items views long few h at =
    let new : PassView = record view { starts = view.starts ++ x ∷ [] } in
    let all : view.pushed ≡ h.first + length (x ∷ items) = h.known pass view at live in
    let here : x ≡ h.first = h.run.0 in (
      new,
      record {
        first = h.first + 1;
        run = h.run.1;
        known =
            each_set (λ u. u.live ≡ true → u.pushed ≡ h.first + 1 + length items) views pass new (λ _. omega (arith, all))
            (λ j u apart there alive. omega (arith, h.known j u there alive));
        alone =
            each_set (λ u. u.may_push ≡ true → length (set views pass new) ≡ 1) views pass new
            (λ may_push. omega (arith, h.alone pass view at may_push, length-set views pass new))
            (λ j u apart there may_push. omega (arith, h.alone j u there may_push, length-set views pass new));
        once = λ y. let same = taken_set y views pass view new at in let old = h.once y in let more = times_append y view.starts (x ∷ []) in let next =
            one_more y h.first in let is : times y (x ∷ []) ≡ times y (h.first ∷ []) = ap (λ (k : ℕ). times y (k ∷ [])) here in omega arith;
      },
      (refl, All-cons (λ z. z < view.pushed) x [] (omega (arith, all, here)) (All-nil (λ z. z < view.pushed))),
    )

pub finds : (pass : ℕ) (view : PassView) → tasks.Finds IsStartQueue pass view (Unit {0})
finds pass view views h at = tt

pub forks : (pass : ℕ) (view : PassView) → tasks.Forks IsStartQueue pass view (without_push view) (thief_of view)
forks pass view items views h at =
    let left : PassView = without_push view in
    let right : PassView = thief_of view in
    let Known : PassView → Type 0 = λ u. u.live ≡ true → u.pushed ≡ h.first + length items in
    let Quiet : PassView → Type 0 = λ u. u.may_push ≡ true → ⊥ in
    let quiet : (j : ℕ) (u : PassView) → get_elem? (set views pass left ++ right ∷ []) j ≡ some u → Quiet u =
    each_last Quiet (set views pass left) right (λ e. false≢true e)
    (each_set Quiet views pass left (λ e. false≢true e) (λ j u apart there may_push. no_other views pass j view u (h.alone j u there may_push) at there apart)) in
    record {
      first = h.first;
      run = h.run;
      known =
          each_last Known (set views pass left) right (λ live. h.known pass view at live)
          (each_set Known views pass left (λ live. h.known pass view at live) (λ j u apart there live. h.known j u there live));
      alone = λ j u there may_push. absurd (quiet j u there may_push);
      once = λ x. let same = taken_set x views pass view left at in let more = taken_last x (set views pass left) right in let old = h.once x in omega arith;
    }
