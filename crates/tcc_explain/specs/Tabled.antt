-- The tables of certificates, as a history determines them: what an answer has besides, even where the tables were not worked out.
use Rattle.std.specs.Prelude.{ℕ, zero, suc, ◌+◌, ◌-◌, Bool, ◌&&◌, ◌||◌, ◌==◌, not, nat_lt, nat_le, max, if◌then◌else◌, List, [], ◌∷◌, length, map}
use Rattle.std.specs.List.{list_any, range_with_len}
use Rattle.tcc_reads.specs.History.{History, count, owner, place}
use Rattle.tcc_graph.specs.Keys.{numbers, writes}
use Rattle.tcc_graph.specs.Levels.{Judged, judged}
use Rattle.tcc_graph.specs.Links.{cost}
use Rattle.tcc_graph.specs.Relations.{causal_pair, reads_from}
use Rattle.tcc_graph.specs.declared.level.Level.{Level}
use Rattle.tcc_graph.specs.declared.level.Level.TheVariants.{Causal, Atomic}
use Rattle.tcc_answer.specs.declared.answer.Answer.{Answer}
use Rattle.tcc_answer.specs.declared.answer.Answer.TheVariants as answer

-- the least number below the limit that passes; the limit where none does
abbrev pub least_below : (ℕ → Bool) → ℕ → ℕ
least_below test zero = 0
least_below test (suc limit) = if test 0 then 0 else suc (least_below (λ n. test (suc n)) limit)

-- this many steps lead from a to c
abbrev pub steps_lead : History → ℕ → ℕ → ℕ → Bool
steps_lead h zero a c = a == c
steps_lead h (suc n) a c = list_any (λ b. causal_pair h a b && steps_lead h n b c) (numbers h)

-- a walk of this many steps is one that the level allows
abbrev pub allows : Level → ℕ → Bool
allows Causal n = nat_lt 0 n
allows Atomic n = n == 1

-- an allowed walk of this many steps leads from a to c
abbrev pub has_walk : Judged → ℕ → ℕ → ℕ → Bool
has_walk j n a c = allows j.level n && steps_lead j.history n a c

-- some key that c reads from a is written by b, another transaction
abbrev pub may_contradict : History → ℕ → ℕ → ℕ → Bool
may_contradict h b a c =
    nat_lt a (count h) && nat_lt b (count h) && not (b == a) && list_any (λ x. writes h b x) (reads_from h a c)

-- a link of this many steps leads from u to v
abbrev pub has_link : Judged → ℕ → ℕ → ℕ → Bool
has_link j n u v =
    ((n == 1) && causal_pair j.history u v)
    || list_any (λ c. may_contradict j.history u v c && has_walk j (n - 1) u c) (numbers j.history)

-- this many links that together have n steps lead from u to v, over numbers from s upward
abbrev pub links_lead : Judged → ℕ → ℕ → ℕ → ℕ → ℕ → Bool
links_lead j s zero n u v = (n == 0) && (u == v)
links_lead j s (suc links) n u v =
    list_any (λ w. nat_le s w && list_any (λ q. has_link j q u w && links_lead j s links (n - q) w v) (range_with_len 0 (n + 1))) (numbers j.history)

-- a route of this many steps leads from s to v over numbers from s upward
abbrev pub has_route : Judged → ℕ → ℕ → ℕ → Bool
has_route j n s v = list_any (λ links. links_lead j s (suc links) n s v) (range_with_len 0 n)

-- the least lengths of walks that the level allows, capped
abbrev pub near_table : Judged → ℕ → List (List ℕ)
near_table j cap = map (λ a. map (λ c. least_below (λ n. has_walk j n a c) cap) (numbers j.history)) (numbers j.history)

-- the least costs of routes from each number upward, capped
abbrev pub far_table : Judged → ℕ → List (List ℕ)
far_table j cap = map (λ s. map (λ v. least_below (λ n. has_route j n s v) cap) (range_with_len s (count j.history - s))) (numbers j.history)

-- b is a committed transaction of the session, and t is reached from it
abbrev pub is_behind : History → ℕ → ℕ → ℕ → Bool
is_behind h t session b = nat_lt 0 b && (owner h b == session) && list_any (λ n. steps_lead h (suc n) b t) (numbers h)

-- the greatest value of the numbers that pass; 0 where none passes
abbrev pub greatest : (ℕ → Bool) → (ℕ → ℕ) → List ℕ → ℕ
greatest test size [] = 0
greatest test size (n ∷ ns) = max (if test n then size n else 0) (greatest test size ns)

-- the last place of each session from which a transaction is reached
abbrev pub clock_table : History → List (List ℕ)
clock_table h =
    map (λ t. map (λ session. greatest (is_behind h t session) (place h) (numbers h)) (range_with_len 0 (length h.sessions))) (numbers h)

abbrev pub clocks_for : Level → History → List (List ℕ)
clocks_for Causal h = clock_table h
clocks_for Atomic h = []

-- an answer for a history with the tables that its certificate has, whatever tables it came with
abbrev pub with_tables : History → Answer → Answer
with_tables h (answer.Commit c) =
    answer.Commit (record { level = c.level; order = c.order; sessions = c.sessions; clocks = clocks_for c.level h; labels = c.labels })
with_tables h (answer.Anomaly a) =
    answer.Anomaly (record {
      level = a.level;
      links = a.links;
      near = near_table (judged h a.level) (cost a.links);
      far = far_table (judged h a.level) (cost a.links);
      labels = a.labels;
    })
