-- What the deque holds, what each pass has taken from it, and what each step reports to its pass.
use Rattle.std.specs.Prelude.{ℕ, ◌<◌, ◌+◌, ◌==◌, ◌≡◌, ◌++◌, true, false, List, [], ◌∷◌, length, All, nat_lt, if◌then◌else◌}
use mathlib.Core.Option.{some}
use lib.ListN.{get_elem?}
use Rattle.tcc_steal.specs.declared.deque_view.PassView.{PassView}

-- the numbers from first on, in order
abbrev pub AreRun : ℕ → List ℕ → Type 0
AreRun first [] = Unit {0}
AreRun first (x ∷ xs) = (x ≡ first) × AreRun (first + 1) xs

-- how often x is in the list
abbrev pub times : ℕ → List ℕ → ℕ
times x [] = 0
times x (y ∷ ys) = (if y == x then 1 else 0) + times x ys

-- how often x was taken, by all passes together
abbrev pub times_taken : ℕ → List PassView → ℕ
times_taken x [] = 0
times_taken x (view ∷ views) = times x view.starts + times_taken x views

-- the deque holds the numbers from `first` on, up to those that were pushed, and each number below it was taken once
pub record IsStartQueue (items : List ℕ) (views : List PassView) : Type 0 where
  pub first : ℕ
  pub run : AreRun first items
  pub known : (pass : ℕ) (view : PassView) → get_elem? views pass ≡ some view → view.live ≡ true → view.pushed ≡ first + length items
  pub alone : (pass : ℕ) (view : PassView) → get_elem? views pass ≡ some view → view.may_push ≡ true → length views ≡ 1
  pub once : (x : ℕ) → times_taken x views ≡ (if nat_lt x first then 1 else 0)

-- the pass that the deque comes with
abbrev pub first_pass : PassView
first_pass = record { may_push = true; live = true; pushed = 0; starts = [] }

-- the view of no pass
abbrev pub nobody : PassView
nobody = record { may_push = false; live = false; pushed = 0; starts = [] }

-- the pass once others are there
abbrev pub without_push : PassView → PassView
without_push view = record view { may_push = false }

-- a pass that is cut off, which has taken nothing
abbrev pub thief_of : PassView → PassView
thief_of view = record view { may_push = false; starts = [] }

-- what a push reports
abbrev pub Pushes : PassView → List ℕ → PassView → Type 0
Pushes before xs after = after ≡ record before { pushed = before.pushed + 1 }

-- what a pop or a steal reports: the pass has the start, which was pushed
abbrev pub Takes : PassView → List ℕ → PassView → Type 0
Takes before xs after = (after ≡ record before { starts = before.starts ++ xs }) × All (λ x. x < before.pushed) xs

-- a pass of a deque to which this many starts were pushed
pub record IsTaker (count : ℕ) (view : PassView) : Type 0 where
  pub live : view.live ≡ true
  pub pushed : view.pushed ≡ count
