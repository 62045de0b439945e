-- The certificate of the answer for a snapshot has a text: its numbers are within the ranges of version 2, and its keys are names.
use Rattle.std.proofs.Common.{ℕ, ◌≡◌, ◌<◌, ◌≤◌, ◌⊎◌, inl, inr, List, [], ◌∷◌, length, All, Ok, subst, sym, arith}
use Rattle.std.proofs.lemmas.List.{length-map}
use Rattle.std.proofs.lemmas.List.Elements.{All-nil, All-cons, All-head, All-tail}
use Rattle.std.specs.FinMap as finite
use Rattle.tcc_txn.specs.declared.limits.TheConstants.{MAX_COUNT, MAX_SESSIONS}
use Rattle.tcc_txn.specs.Snapshots.{Sessions}
use Rattle.tcc_txn.specs.Finished.{KeepsLimits}
use Rattle.tcc_reads.specs.History.{count, place}
use Rattle.tcc_reads.specs.Sources.{history}
use Rattle.tcc_graph.specs.Levels.{Judged, judged}
use Rattle.tcc_graph.specs.Walks.{step_to, IsStep, Leads}
use Rattle.tcc_graph.specs.Links.{IsLink, link_to, cost}
use Rattle.tcc_graph.specs.Routes.{LinksLead, IsLeastCycle}
use Rattle.tcc_graph.specs.Ties.{link_walk}
use Rattle.tcc_graph.specs.Orders.{IsCommitOrder}
use Rattle.tcc_graph.specs.declared.level.Level.{Level}
use Rattle.tcc_graph.specs.declared.level.Level.TheVariants.{Causal, Atomic}
use Rattle.tcc_graph.specs.declared.step.Step.{Step}
use Rattle.tcc_graph.specs.declared.step.Step.TheVariants as step
use Rattle.tcc_graph.specs.declared.link.Link.{Link}
use Rattle.tcc_graph.specs.declared.link.Link.TheVariants as link
use Rattle.tcc_graph.specs.Clocks.{IsClocksOf, IsLast, IsBehind}
use Rattle.tcc_cert.specs.Tables.{entry, HasSize, HasRows, HasFarSize, IsCapped}
use Rattle.tcc_cert.specs.CycleRules.{IsStepBelow, IsLinkBelow}
use Rattle.tcc_cert.specs.declared.ranges.TextFormat.TheVariants.{Small}
use Rattle.tcc_cert.specs.Texts.{IsNumber, HasStepText, HasLinkText, HasClocksText, HasOrderText, HasCycleText, HasText, certificate_text}
use Rattle.tcc_cert.specs.Reading.{certificate_read}
use Rattle.tcc_cert.specs.declared.version.Version.TheVariants.{Two}
use Rattle.tcc_cert.specs.declared.version_2.TheConstants.{V2_MAX_COST, V2_MAX_NUMBER}
use Rattle.tcc_cert.proofs.ClaimsBack.{text-back}
use Rattle.tcc_answer.specs.Claims.{certificate_of}
use Rattle.tcc_answer.specs.declared.answer.Answer.{Answer}
use Rattle.tcc_answer.specs.declared.answer.Answer.TheVariants as answer
use Rattle.tcc_core.proofs.BoundLemmas.{few_links, walks_few, cycle_bounded}
use Rattle.tcc_explain.specs.Certificates.{IsNearTable, IsFarTable, IsClocksAt}
use Rattle.tcc_explain.specs.Explained.{IsAnswerOfHistory}
use Rattle.tcc_explain.specs.Keys.{HasNames}
use Rattle.tcc_explain.proofs.CertifiedCycle as least_cycle
use Rattle.tcc_explain.proofs.CertifiedOrder as commit_order
use Rattle.tcc_explain.proofs.ReadKeys.{key_named}
use Rattle.tcc_slices.proofs.Labels.{place_few}
use Rattle.tcc_explain.proofs.FewTransactions.{count_few}

-- a table whose rows are as long, stated in another way
rows_sized : (rows columns : ℕ) (table : List (List ℕ)) → HasSize rows columns table → HasRows rows (λ t. columns) table
rows_sized rows columns table size = record { long = size.long; wide = λ t low. size.wide t [] (omega (arith, size.long)) }

-- no number of a table is above one that is no lower than its cap
capped_more : (cap most : ℕ) (table : List (List ℕ)) → cap ≤ most → IsCapped cap table → IsCapped most table
capped_more cap most table fits capped = λ a d l. λ c e k. omega (arith, fits, capped a d l c e k)

module _ (s : Sessions) (limits : KeepsLimits s) where
  few : count (history s) ≤ MAX_COUNT
  few = omega (arith, count_few s, limits.1)

  few_sessions : length (history s).sessions ≤ MAX_SESSIONS
  few_sessions = omega (arith, length-map (finite.entries s) (λ named. named.0), finite.len-entries s, limits.0)

  number : (n : ℕ) → n < count (history s) → IsNumber (Small Two) n
  number n below = omega (arith, below, few)

  -- ---- a commit order

  module _ (clocks : List (List ℕ)) where
    last_few : (t session last : ℕ) → IsLast (history s) t session last → last ≤ V2_MAX_NUMBER
    last_few t session last is = go is.attained
      where
        go : (last ≡ 0) ⊎ ((b : ℕ) × IsBehind (history s) t session b × (place (history s) b ≡ last)) → last ≤ V2_MAX_NUMBER
        go (inl none) = omega (arith, none)
        go (inr (b, behind, here)) = omega (arith, here, place_few s b behind.below, limits.1)

    clocks_capped : IsClocksOf (history s) clocks → IsCapped V2_MAX_NUMBER clocks
    clocks_capped are =
        least_cycle.capped_table (count (history s)) (length (history s).sessions) V2_MAX_NUMBER clocks (record { long = are.long; wide = are.wide })
        (λ t session from of. last_few t session (entry clocks t session) (are.exact t session from of))

    clocks_text : (level : Level) (n : ℕ) → n ≡ count (history s) → IsClocksAt level (history s) clocks
        → HasClocksText Two level n (length (history s).sessions) clocks
    clocks_text Causal n same are = record {
      size = subst (λ (k : ℕ). HasRows k (λ t. length (history s).sessions) clocks) (sym same)
          (rows_sized (count (history s)) (length (history s).sessions) clocks (record { long = are.long; wide = are.wide }));
      capped = clocks_capped are;
    }
    clocks_text Atomic n same none = none

  order_text : (level : Level) (order : List ℕ) (clocks : List (List ℕ)) → IsCommitOrder (judged (history s) level) order
      → IsClocksAt level (history s) clocks
      → HasOrderText (record { version = Two; level = level; order = order; sessions = length (history s).sessions; clocks = clocks })
  order_text level order clocks commit are =
      let long : length order ≡ count (history s) = commit_order.numbering_long (count (history s)) order commit.numbering in
      record {
        count = record { some = omega (arith, long); limit = omega (arith, long, few) };
        numbers = λ i d l. number _ (commit.numbering.below i d l);
        sessions = few_sessions;
        clocks = clocks_text clocks level (length order) long are;
      }

  -- ---- a least cycle

  module _ (named : HasNames s) where
    step_text : (st : Step) → IsStep (history s) st → IsStepBelow (count (history s)) st → HasStepText (Small Two) st
    step_text (step.Session u v) is ends = (number u ends.0, number v ends.1)
    step_text (step.Reads u v x) is ends = (number u ends.0, number v ends.1, key_named s named u v x is)

    steps_text : (a b : ℕ) (walk : List Step) → Leads (history s) a b walk → All (IsStepBelow (count (history s))) walk → All (HasStepText (Small Two)) walk
    steps_text a b [] leads below = All-nil (HasStepText (Small Two))
    steps_text a b (st ∷ walk) leads below =
        All-cons (HasStepText (Small Two)) st walk (step_text st leads.1 (All-head (IsStepBelow (count (history s))) st walk below))
        (steps_text (step_to st) b walk leads.2 (All-tail (IsStepBelow (count (history s))) st walk below))

    module _ (level : Level) where
      abbrev j : Judged
      j = judged (history s) level

      link_text : (l : Link) → IsLink j l → IsLinkBelow (count (history s)) l → length (link_walk l) ≤ count (history s) → HasLinkText (Small Two) l
      link_text (link.Session a b) is ends short = (number a ends.0, number b ends.1)
      link_text (link.Reads a b x) is ends short = (number a ends.0, number b ends.1, key_named s named a b x is)
      link_text (link.Derived b a x c walk) is ends short = (
        number b ends.0,
        number a ends.1.0,
        key_named s named a c x is.0.1,
        number c ends.1.1.0,
        record { some = is.1.0.0; limit = omega (arith, short, few) },
        steps_text b c walk is.1.0.1 ends.1.1.1,
      )

      links_text : (a b : ℕ) (links : List Link) → LinksLead j a b links → All (IsLinkBelow (count (history s))) links
          → All (λ l. length (link_walk l) ≤ count (history s)) links
          → All (HasLinkText (Small Two)) links
      links_text a b [] leads below short = All-nil (HasLinkText (Small Two))
      links_text a b (l ∷ links) leads below short =
          All-cons (HasLinkText (Small Two)) l links
          (link_text l leads.1 (All-head (IsLinkBelow (count (history s))) l links below)
          (All-head (λ (m : Link). length (link_walk m) ≤ count (history s)) l links short))
          (links_text (link_to l) b links leads.2 (All-tail (IsLinkBelow (count (history s))) l links below)
          (All-tail (λ (m : Link). length (link_walk m) ≤ count (history s)) l links short))

      cycle_text : (start : ℕ) (links : List Link) (near far : List (List ℕ)) → IsLeastCycle j start links → IsNearTable j (cost links) near
          → IsFarTable j (cost links) far
          → HasCycleText (record { version = Two; level = level; links = links; least = cost links; near = near; far = far })
      cycle_text start links near far least walks routes =
          let sizes = (least_cycle.certified j start links near far least walks routes).sizes in
          let most : cost links ≤ V2_MAX_COST = omega (arith, cycle_bounded j start links few least) in
          let long : length near ≡ count (history s) = sizes.near.long in
          record {
            count = record { some = omega (arith, long); limit = omega (arith, long, few) };
            steps = record { some = least.cycle.0; limit = omega (arith, few_links j start links least, few) };
            links = links_text start start links least.cycle.1 sizes.links (walks_few j start [] links least);
            least = most;
            near = record {
              size = subst (λ (k : ℕ). HasRows k (λ a. k) near) (sym long) (rows_sized (count (history s)) (count (history s)) near sizes.near);
              capped = capped_more (cost links) V2_MAX_COST near most sizes.near_capped;
            };
            far = record {
              size = subst (λ (k : ℕ). HasFarSize Two k far) (sym long) sizes.far;
              capped = capped_more (cost links) V2_MAX_COST far most sizes.far_capped;
            };
          }

  pub written : HasNames s → (level : Level) (a : Answer) → IsAnswerOfHistory (judged (history s) level) a → HasText (certificate_of a)
  written named level (answer.Commit c) (first, at, sessions, labels, clocks) =
      rw (at, sessions) (order_text level c.order c.clocks first.1.commit clocks)
  written named level (answer.Anomaly a) ((start, first), at, labels, near, far) =
      rw at (cycle_text named level start a.links a.near a.far first.least near far)

  -- the text of the answer's certificate is read as this certificate
  pub read_back : HasNames s → (level : Level) (a : Answer) → IsAnswerOfHistory (judged (history s) level) a
      → certificate_read (certificate_text (certificate_of a)) ≡ Ok (certificate_of a)
  read_back named level a is = text-back (certificate_of a) (written named level a is)
