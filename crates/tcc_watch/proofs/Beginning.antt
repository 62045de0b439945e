-- A history with `init` alone: all is known of it.
use Rattle.std.proofs.Common.{ℕ, zero, suc, ◌≡◌, ◌<◌, inl, inr, List, [], ◌∷◌, length, slice_index, refl, sym, subst, arith}
use Rattle.std.specs.Prelude.{All, slice_index_or}
use Rattle.std.proofs.lemmas.List.Elements.{All-nil}
use Rattle.tcc_reads.specs.History.{History, entry_at, owner, place}
use Rattle.tcc_graph.specs.Relations.{IsCausalPair}
use Rattle.tcc_graph.specs.Tables.{row_of}
use Rattle.tcc_graph.specs.Levels.{causally}
use Rattle.tcc_graph.specs.Links.{IsLink}
use Rattle.tcc_graph.specs.declared.link.Link.{Link}
use Rattle.tcc_graph.specs.declared.link.Link.TheVariants as link
use Rattle.tcc_graph.proofs.Pairs.{pair_below}
use Rattle.tcc_watch.specs.Delivered.{IsDelivered}
use Rattle.tcc_watch.specs.declared.at.At.{At}
use Rattle.tcc_watch.specs.declared.delivered.Delivered.{Delivered}
use Rattle.tcc_watch.specs.declared.linking.SessionWriters.{SessionWriters}
use Rattle.tcc_watch.specs.private.Rows.{IsUpTo, AreOrdered, AreStands, AreMembers}
use Rattle.tcc_watch.specs.private.Links.{AreWriters, IsClosure}
use Rattle.tcc_watch.specs.private.Tables.{AreClocks}
use Rattle.tcc_watch.specs.private.Writers.{lists_in}
use Rattle.tcc_watch.specs.private.Delivering.{IsState, before_all}
use Rattle.tcc_watch.proofs.Rising.{pair_rises}

module _ (sessions : List (List ℕ)) where
  abbrev h : History
  h = before_all sessions

  delivered : IsDelivered h
  delivered = record {
    some = omega arith;
    first = refl;
    placed = λ n some below. absurd (omega (arith, some, below));
    sessions = λ m n some less below same. absurd (omega (arith, some, less, below));
    sources = λ n below. none n below;
  }
    where
      none : (n : ℕ) → n < 1 → All (λ (read : List ℕ × ℕ). read.1 < n) (entry_at h n).reads
      none zero below = All-nil (λ (read : List ℕ × ℕ). read.1 < 0)
      none (suc n) below = absurd (omega (arith, below))

  -- there are no pairs
  no_pair : (a b : ℕ) → IsCausalPair h a b → ⊥
  no_pair a b p = let rises = pair_rises h delivered a b p in let below : b < 1 = (pair_below h a b p).1 in absurd (omega (arith, rises, below))

  no_link : (l : Link) → IsLink (causally h) l → ⊥
  no_link (link.Session a b) p = no_pair a b (inl p)
  no_link (link.Reads a b x) p = no_pair a b (inr (x, p))
  no_link (link.Derived b a x c walk) p = no_pair a c (inr (x, p.0.1))

  same : (u v : ℕ) → u < 1 → v < 1 → u ≡ v
  same u v at_u at_v = omega (arith, at_u, at_v)

  place_none : (u : ℕ) → u < 1 → (entry_at h u).place ≡ 0
  place_none zero below = refl
  place_none (suc u) below = absurd (omega (arith, below))

  up : (u v : ℕ) → u < 1 → IsUpTo h ([] ∷ []) u v
  up u v below = let none = place_none u below in omega (arith, none)

  cell : (v session : ℕ) → v < 1 → slice_index (row_of ([] ∷ []) v) session ≡ 0
  cell zero session below = refl
  cell (suc v) session below = absurd (omega (arith, below))

  ordered : AreOrdered h ([] ∷ [])
  ordered = record {
    held = record { long = refl; places = λ v session below. inl (cell v session below) };
    itself = λ v below. up v v below;
    joined = λ u v w at_u at_v at_w uv vw. up u w at_u;
    apart = λ u v at_u at_v uv vu. same u v at_u at_v;
  }

  pub first_state : (d : Delivered) → d.tables.stands.items ≡ record { session = 0; place = 0 } ∷ [] → d.tables.members.items ≡ [] → d.tables.clocks.items ≡ [] ∷ []
      → d.tables.closure.items ≡ [] ∷ [] → ((x : List ℕ) → lists_in d.writers x ≡ []) → IsState h d
  first_state d stands members clocks closure writers = record {
    tables = record {
      laid = record {
        delivered = delivered;
        placed = subst (λ (z : List At). AreStands h z) (sym stands) first_stands;
        listed = subst (λ (z : List (List ℕ)). AreMembers h z) (sym members) first_members;
        clocked = subst (λ (z : List (List ℕ)). AreClocks h z) (sym clocks)
            (record { ordered = ordered; pairs = λ a b p. absurd (no_pair a b p); sound = λ u v at_u at_v p. inl (same u v at_u at_v) });
        closed = subst (λ (z : List (List ℕ)). IsClosure h z) (sym closure)
            (record { ordered = ordered; pairs = λ a b p. absurd (no_pair a b p); sound = λ u v at_u at_v p. inl (same u v at_u at_v) });
      };
      links = λ l is. absurd (no_link l is);
    };
    writers = λ x. subst (λ (z : List SessionWriters). AreWriters h 1 x z) (sym (writers x)) (record {
      each = λ i e inside. absurd (omega (arith, inside));
      last = λ i e inside. absurd (omega (arith, inside));
      all = λ b some below is. absurd (omega (arith, some, below));
    });
  }
    where
      first_stands : AreStands h (record { session = 0; place = 0 } ∷ [])
      first_stands = record { long = refl; session = λ n e below. session n e below; place = λ n e below. place_is n e below }
        where
          session : (n : ℕ) (e : At) → n < 1 → (slice_index_or (record { session = 0; place = 0 } ∷ []) n e).session ≡ owner h n
          session zero e below = refl
          session (suc n) e below = absurd (omega (arith, below))

          place_is : (n : ℕ) (e : At) → n < 1 → (slice_index_or (record { session = 0; place = 0 } ∷ []) n e).place ≡ place h n
          place_is zero e below = refl
          place_is (suc n) e below = absurd (omega (arith, below))

      first_members : AreMembers h []
      first_members = record {
        each = λ other i inside. absurd (none other i inside);
        rising = λ other i k less inside. absurd (none other k inside);
        all = λ n some below. absurd (omega (arith, some, below));
      }
        where
          none : (other i : ℕ) → i < length (row_of {X = ℕ} [] other) → ⊥
          none other i inside = absurd (omega (arith, inside))
