-- Each first answer has its tables: those that its history determines.
use Rattle.std.proofs.Common.{ℕ, ◌≡◌, ◌<◌, ◌+◌, ◌-◌, inl, inr, List, [], length, map, get_or, Some, refl, sym, ◌∙◌, ap, subst, arith}
use Rattle.std.specs.List.{range_with_len}
use Rattle.std.proofs.Math.Nat.{zero-add}
use Rattle.std.proofs.lemmas.List.FromFn.{get_or-map-range_with_len, length-map-range_with_len}
use Rattle.tcc_reads.specs.History.{History, count, place}
use Rattle.tcc_graph.specs.Clocks.{IsClocksOf, IsLast}
use Rattle.tcc_graph.specs.Keys.{numbers}
use Rattle.tcc_graph.specs.Levels.{Judged, IsAllowedWalk}
use Rattle.tcc_graph.specs.Links.{cost}
use Rattle.tcc_graph.specs.Routes.{IsUpwardRoute}
use Rattle.tcc_graph.specs.declared.level.Level.{Level}
use Rattle.tcc_graph.specs.declared.level.Level.TheVariants.{Causal, Atomic}
use Rattle.tcc_core.specs.Shares.{IsCappedDistance}
use Rattle.tcc_cert.specs.Tables.{entry}
use Rattle.tcc_answer.specs.declared.answer.Answer.{Answer}
use Rattle.tcc_answer.specs.declared.answer.Answer.TheVariants as answer
use Rattle.tcc_explain.specs.Certificates.{IsCappedShortest, IsClocksAt, IsFarTable, IsNearTable}
use Rattle.tcc_explain.specs.Explained.{IsAnswerOfHistory, IsBareAnswer}
use Rattle.tcc_explain.specs.Tabled.{clock_table, clocks_for, far_table, greatest, has_route, has_walk, is_behind, least_below, near_table, with_tables}
use Rattle.tcc_explain.proofs.TabledWalks.{IsCapped, shortest_is}
use Rattle.tcc_explain.proofs.TabledRoutes.{distance_is}
use Rattle.tcc_explain.proofs.TabledClocks.{last_is}

-- a table of this many rows, each with numbers from one on
table_at : (n : ℕ) (from wide : ℕ → ℕ) (cell : ℕ → ℕ → ℕ) (a i v : ℕ) → a < n → i < wide a → from a + i ≡ v
    → entry (map (λ a. map (cell a) (range_with_len (from a) (wide a))) (range_with_len 0 n)) a i ≡ cell a v
table_at n from wide cell a i v low within at =
    ap (λ (r : List ℕ). get_or r i 0) (get_or-map-range_with_len (λ a. map (cell a) (range_with_len (from a) (wide a))) 0 n a a [] low (zero-add a))
    ∙ get_or-map-range_with_len (cell a) (from a) (wide a) i v 0 within at

table_wide : (n : ℕ) (from wide : ℕ → ℕ) (cell : ℕ → ℕ → ℕ) (a : ℕ) (d : List ℕ) → a < n
    → length (get_or (map (λ a. map (cell a) (range_with_len (from a) (wide a))) (range_with_len 0 n)) a d) ≡ wide a
table_wide n from wide cell a d low =
    ap length (get_or-map-range_with_len (λ a. map (cell a) (range_with_len (from a) (wide a))) 0 n a a d low (zero-add a))
    ∙ length-map-range_with_len (cell a) (from a) (wide a)

table_long : (n : ℕ) (from wide : ℕ → ℕ) (cell : ℕ → ℕ → ℕ)
    → length (map (λ a. map (cell a) (range_with_len (from a) (wide a))) (range_with_len 0 n)) ≡ n
table_long n from wide cell = length-map-range_with_len (λ a. map (cell a) (range_with_len (from a) (wide a))) 0 n

module _ (j : Judged) (cap : ℕ) where
  abbrev shortest : ℕ → ℕ → ℕ
  shortest a c = least_below (λ n. has_walk j n a c) cap

  abbrev distance : ℕ → ℕ → ℕ
  distance s v = least_below (λ n. has_route j n s v) cap

  short : (a c n : ℕ) → IsCapped (IsAllowedWalk j a c) length cap n → IsCappedShortest j cap a c n
  short a c n (inl (low, attained, least)) = inl (low, record { attained = attained; least = least })
  short a c n (inr high) = inr high

  far : (s v n : ℕ) → IsCapped (IsUpwardRoute j s v) cost cap n → IsCappedDistance j s v (Some cap) (Some n)
  far s v n (inl (low, attained, least)) = inl (low, record { attained = attained; least = least })
  far s v n (inr high) = inr high

  pub near_is : IsNearTable j cap (near_table j cap)
  near_is = record {
    size = record {
      long = table_long (count j.history) (λ a. 0) (λ a. count j.history) shortest;
      wide = λ a d low. table_wide (count j.history) (λ a. 0) (λ a. count j.history) shortest a d
          (omega (arith, low, table_long (count j.history) (λ a. 0) (λ a. count j.history) shortest));
    };
    exact = λ a c from to.
        subst (IsCappedShortest j cap a c)
        (sym (table_at (count j.history) (λ a. 0) (λ a. count j.history) shortest a c c from to (zero-add c)))
        (short a c (shortest a c) (shortest_is j cap a c));
  }

  pub far_is : IsFarTable j cap (far_table j cap)
  far_is = record {
    size = record {
      long = table_long (count j.history) (λ s. s) (λ s. count j.history - s) distance;
      wide = λ s low. table_wide (count j.history) (λ s. s) (λ s. count j.history - s) distance s [] low;
    };
    exact = λ s v up to.
        subst (λ (z : ℕ). IsCappedDistance j s v (Some cap) (Some z))
        (sym (table_at (count j.history) (λ s. s) (λ s. count j.history - s) distance s (v - s) v (omega arith) (omega arith) (omega arith)))
        (far s v (distance s v) (distance_is j cap s v));
  }

module _ (h : History) where
  abbrev last : ℕ → ℕ → ℕ
  last t session = greatest (is_behind h t session) (place h) (numbers h)

  pub clocks_are : IsClocksOf h (clock_table h)
  clocks_are = record {
    long = table_long (count h) (λ t. 0) (λ t. length h.sessions) last;
    wide = λ t d low. table_wide (count h) (λ t. 0) (λ t. length h.sessions) last t d
        (omega (arith, low, table_long (count h) (λ t. 0) (λ t. length h.sessions) last));
    exact = λ t session below known.
        subst (IsLast h t session)
        (sym (table_at (count h) (λ t. 0) (λ t. length h.sessions) last t session session below known (zero-add session)))
        (last_is h t session);
  }

  pub clocks_at : (level : Level) → IsClocksAt level h (clocks_for level h)
  clocks_at Causal = clocks_are
  clocks_at Atomic = refl

pub tabled : (j : Judged) (a : Answer) → IsBareAnswer j a → IsAnswerOfHistory j (with_tables j.history a)
tabled j (answer.Commit c) (is, level, sessions, labels) =
    (is, level, sessions, labels, subst (λ (l : Level). IsClocksAt j.level j.history (clocks_for l j.history)) (sym level) (clocks_at j.history j.level))
tabled j (answer.Anomaly a) (is, level, labels) = (
  is,
  level,
  labels,
  subst (λ (l : Level). IsNearTable j (cost a.links) (near_table (record { history = j.history; level = l }) (cost a.links))) (sym level) (near_is j (cost a.links)),
  subst (λ (l : Level). IsFarTable j (cost a.links) (far_table (record { history = j.history; level = l }) (cost a.links))) (sym level) (far_is j (cost a.links)),
)

pub bare : (j : Judged) (a : Answer) → IsAnswerOfHistory j a → IsBareAnswer j a
bare j (answer.Commit c) (is, level, sessions, labels, clocks) = (is, level, sessions, labels)
bare j (answer.Anomaly a) (is, level, labels, near, far) = (is, level, labels)
