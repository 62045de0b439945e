-- How writers of a key become unreadable, and so are forgotten.
use Rattle.std.specs.Prelude.{ℕ, ◌≡◌, ◌≢◌, ◌↔◌, List, [], None, Some, Contains}
use Rattle.tcc_reads.specs.History.{History}
use Rattle.tcc_forget.specs.Covers.{IsKnown, LeadsTo, Readable}

-- the list without b
abbrev pub IsWithout : List ℕ → List ℕ → ℕ → Type 0
IsWithout old new b = (n : ℕ) → Contains new n ↔ (Contains old n × (n ≢ b))

-- b is unlisted, since one that all live sessions know is listed and comes after it
pub record Unlists (h : History) (live : List ℕ) (old : Readable) (new : Readable) : Type 0 where
  pub b : ℕ
  pub g : ℕ
  pub listed : Contains old.listed g
  pub apart : g ≢ b
  pub known : IsKnown h live g
  pub onward : LeadsTo h b g
  pub without : IsWithout old.listed new.listed b
  pub same : new.top ≡ old.top

-- the top goes, since one that all live sessions know is listed
pub record DropsTop (h : History) (live : List ℕ) (old : Readable) (new : Readable) : Type 0 where
  pub g : ℕ
  pub listed : Contains old.listed g
  pub known : IsKnown h live g
  pub same : new.listed ≡ old.listed
  pub none : new.top ≡ None

-- the only one that is listed becomes the top, since all live sessions know it
pub record MakesTop (h : History) (live : List ℕ) (old : Readable) (new : Readable) : Type 0 where
  pub top : ℕ
  pub listed : Contains old.listed top
  pub only : (n : ℕ) → Contains old.listed n → n ≡ top
  pub known : IsKnown h live top
  pub free : old.top ≡ None
  pub none : new.listed ≡ []
  pub made : new.top ≡ Some top
