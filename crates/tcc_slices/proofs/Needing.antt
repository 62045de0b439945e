-- What links need: all that is listed of them is needed by them, and all that they need is listed.
use Rattle.std.proofs.Common.{◌≡◌, ◌<◌, ◌++◌, ◌==◌, ◌⊎◌, ℕ, zero, suc, Bool, true, false, cond, List, [], ◌∷◌, get_or, refl, sym, subst, inl, inr, arith}
use Rattle.std.specs.Prelude.{All, Contains, flat_map}
use Rattle.std.proofs.lemmas.Bool.{ne_eqb}
use Rattle.std.proofs.lemmas.List.Elements.{All-append, All-cons, All-contains_itself, All-head, All-nil, All-tail, Contains-append_cases, Contains-append_left, Contains-append_right, Contains-get_or, Contains-push}
use Rattle.tcc_txn.proofs.Lists.{in_flat_map}
use Rattle.tcc_graph.specs.Links.{unfolding_of}
use Rattle.tcc_graph.specs.Walks.{step_from, step_to}
use Rattle.tcc_graph.specs.declared.step.Step.{Step}
use Rattle.tcc_graph.specs.declared.step.Step.TheVariants as step
use Rattle.tcc_graph.specs.declared.link.Link.{Link}
use Rattle.tcc_graph.specs.declared.link.Link.TheVariants as link
use Rattle.tcc_slices.specs.Needs.{HasStep, IsMet, IsWritten}
use Rattle.tcc_slices.specs.private.Needing.{AreNeeds, IsNeedOf, need_at, needs_of_link, needs_of_step}
use Rattle.tcc_slices.specs.declared.needs.Need.{Need}
use Rattle.tcc_slices.specs.declared.needs.Need.TheVariants as need

-- ---- the steps of a link
pub session_step : (links : List Link) (a b : ℕ) → Contains links (link.Session a b) → HasStep links (step.Session a b)
session_step links a b has = (link.Session a b, has, (0, omega arith, refl))

pub reads_step : (links : List Link) (a b : ℕ) (x : List ℕ) → Contains links (link.Reads a b x) → HasStep links (step.Reads a b x)
reads_step links a b x has = (link.Reads a b x, has, (0, omega arith, refl))

pub contradicted_step : (links : List Link) (b a : ℕ) (x : List ℕ) (c : ℕ) (walk : List Step) → Contains links (link.Derived b a x c walk)
    → HasStep links (step.Reads a c x)
contradicted_step links b a x c walk has = (link.Derived b a x c walk, has, Contains-push walk (step.Reads a c x))

pub walk_steps : (links : List Link) (b a : ℕ) (x : List ℕ) (c : ℕ) (walk : List Step) → Contains links (link.Derived b a x c walk)
    → All (HasStep links) walk
walk_steps links b a x c walk has k d inside =
    let here : Contains walk (get_or walk k d) = Contains-get_or walk k d inside in
    (link.Derived b a x c walk, has, Contains-append_left walk (step.Reads a c x ∷ []) (get_or walk k d) here)

-- what is needed of a transaction shows that it is met
pub met_by : (links : List Link) (n : ℕ) (one : Need) → IsNeedOf links n one → IsMet links n
met_by links n need.There is = is
met_by links n (need.Write key) (inl (c, has)) = inl (step.Reads n c key, has, inl refl)
met_by links n (need.Write key) (inr (a, c, walk, has)) = inr (key, a, c, walk, has)
met_by links n (need.Read key source) has = inl (step.Reads source n key, has, inr refl)

-- ---- what is listed is needed
module _ (links : List Link) where
  abbrev IsTheirs : ℕ × Need → Type 0
  IsTheirs one = IsNeedOf links one.0 one.1

  at_theirs : (n : ℕ) (one : Need) → IsNeedOf links n one → All IsTheirs (need_at n one)
  at_theirs n one is = go (n == 0)
    where
      go : (b : Bool) → All IsTheirs (cond b [] ((n, one) ∷ []))
      go true = All-nil IsTheirs
      go false = All-cons IsTheirs (n, one) [] is (All-nil IsTheirs)

  step_theirs : (s : Step) → HasStep links s → All IsTheirs (needs_of_step s)
  step_theirs (step.Session a b) has =
      All-append IsTheirs (need_at a need.There) (need_at b need.There) (at_theirs a need.There (inl (step.Session a b, has, inl refl)))
      (at_theirs b need.There (inl (step.Session a b, has, inr refl)))
  step_theirs (step.Reads a b x) has =
      All-append IsTheirs (need_at a (need.Write x)) (need_at b (need.Read x a)) (at_theirs a (need.Write x) (inl (b, has)))
      (at_theirs b (need.Read x a) has)

  steps_theirs : (walk : List Step) → All (HasStep links) walk → All IsTheirs (flat_map needs_of_step walk)
  steps_theirs [] all = All-nil IsTheirs
  steps_theirs (s ∷ walk) all =
      All-append IsTheirs (needs_of_step s) (flat_map needs_of_step walk) (step_theirs s (All-head (HasStep links) s walk all))
      (steps_theirs walk (All-tail (HasStep links) s walk all))

  link_theirs : (l : Link) → Contains links l → All IsTheirs (needs_of_link l)
  link_theirs (link.Session a b) has = step_theirs (step.Session a b) (session_step links a b has)
  link_theirs (link.Reads a b x) has = step_theirs (step.Reads a b x) (reads_step links a b x has)
  link_theirs (link.Derived b a x c walk) has =
      All-append IsTheirs (need_at b (need.Write x)) (needs_of_step (step.Reads a c x) ++ flat_map needs_of_step walk)
      (at_theirs b (need.Write x) (inr (a, c, walk, has)))
      (All-append IsTheirs (needs_of_step (step.Reads a c x)) (flat_map needs_of_step walk)
      (step_theirs (step.Reads a c x) (contradicted_step links b a x c walk has)) (steps_theirs walk (walk_steps links b a x c walk has)))

  each_theirs : (some : List Link) → All (Contains links) some → All IsTheirs (flat_map needs_of_link some)
  each_theirs [] all = All-nil IsTheirs
  each_theirs (l ∷ some) all =
      All-append IsTheirs (needs_of_link l) (flat_map needs_of_link some) (link_theirs l (All-head (Contains links) l some all))
      (each_theirs some (All-tail (Contains links) l some all))

pub theirs : (links : List Link) → AreNeeds links (flat_map needs_of_link links)
theirs links = each_theirs links links (All-contains_itself links)

-- ---- what is needed is listed
in_at : (n : ℕ) (one : Need) → 0 < n → Contains (need_at n one) (n, one)
in_at n one some =
    let other : (n == 0) ≡ false = ne_eqb n 0 (λ same. absurd (omega (arith, some, same))) in
    subst (λ (b : Bool). Contains {X = ℕ × Need} (cond b [] ((n, one) ∷ [])) (n, one)) (sym other) (0, omega arith, refl)

-- the needs of a step of a link are some of the link's
of_link : (l : Link) (s : Step) (one : ℕ × Need) → Contains (unfolding_of l) s → Contains (needs_of_step s) one → Contains (needs_of_link l) one
of_link (link.Session a b) s one (zero, l, e) there = subst (λ (z : Step). Contains (needs_of_step z) one) (sym e) there
of_link (link.Session a b) s one (suc i, l, e) there = absurd (omega (arith, l))
of_link (link.Reads a b x) s one (zero, l, e) there = subst (λ (z : Step). Contains (needs_of_step z) one) (sym e) there
of_link (link.Reads a b x) s one (suc i, l, e) there = absurd (omega (arith, l))
of_link (link.Derived b a x c walk) s one has there = go (Contains-append_cases walk (step.Reads a c x ∷ []) s has)
  where
    go : Contains walk s ⊎ Contains (step.Reads a c x ∷ []) s → Contains (needs_of_link (link.Derived b a x c walk)) one
    go (inl on) =
        Contains-append_right (need_at b (need.Write x)) (needs_of_step (step.Reads a c x) ++ flat_map needs_of_step walk) one
        (Contains-append_right (needs_of_step (step.Reads a c x)) (flat_map needs_of_step walk) one (in_flat_map needs_of_step walk s one on there))
    go (inr (zero, l, e)) =
        Contains-append_right (need_at b (need.Write x)) (needs_of_step (step.Reads a c x) ++ flat_map needs_of_step walk) one
        (Contains-append_left (needs_of_step (step.Reads a c x)) (flat_map needs_of_step walk) one
        (subst (λ (z : Step). Contains (needs_of_step z) one) (sym e) there))
    go (inr (suc i, l, e)) = absurd (omega (arith, l))

module _ (links : List Link) where
  of_step : (s : Step) (one : ℕ × Need) → HasStep links s → Contains (needs_of_step s) one → Contains (flat_map needs_of_link links) one
  of_step s one (l, has, on) there = in_flat_map needs_of_link links l one has (of_link l s one on there)

  of_derived : (n a c : ℕ) (x : List ℕ) (walk : List Step) → 0 < n → Contains links (link.Derived n a x c walk)
      → Contains (flat_map needs_of_link links) (n, need.Write x)
  of_derived n a c x walk some has =
      in_flat_map needs_of_link links (link.Derived n a x c walk) (n, need.Write x) has
      (Contains-append_left (need_at n (need.Write x)) (needs_of_step (step.Reads a c x) ++ flat_map needs_of_step walk) (n, need.Write x)
      (in_at n (need.Write x) some))

  pub read_listed : (n a : ℕ) (x : List ℕ) → 0 < n → HasStep links (step.Reads a n x) → Contains (flat_map needs_of_link links) (n, need.Read x a)
  read_listed n a x some has =
      of_step (step.Reads a n x) (n, need.Read x a) has
      (Contains-append_right (need_at a (need.Write x)) (need_at n (need.Read x a)) (n, need.Read x a) (in_at n (need.Read x a) some))

  pub write_listed : (n : ℕ) (x : List ℕ) → 0 < n → IsWritten links n x → Contains (flat_map needs_of_link links) (n, need.Write x)
  write_listed n x some (inl (c, has)) =
      of_step (step.Reads n c x) (n, need.Write x) has
      (Contains-append_left (need_at n (need.Write x)) (need_at c (need.Read x n)) (n, need.Write x) (in_at n (need.Write x) some))
  write_listed n x some (inr (a, c, walk, has)) = of_derived n a c x walk some has

  abbrev IsListed : ℕ → Type 0
  IsListed n = (one : Need) × Contains (flat_map needs_of_link links) (n, one)

  from_listed : (s : Step) → 0 < step_from s → HasStep links s → IsListed (step_from s)
  from_listed (step.Session a b) some has = (
    need.There,
    of_step (step.Session a b) (a, need.There) has
        (Contains-append_left (need_at a need.There) (need_at b need.There) (a, need.There) (in_at a need.There some)),
  )
  from_listed (step.Reads a b x) some has = (need.Write x, write_listed a x some (inl (b, has)))

  to_listed : (s : Step) → 0 < step_to s → HasStep links s → IsListed (step_to s)
  to_listed (step.Session a b) some has = (
    need.There,
    of_step (step.Session a b) (b, need.There) has
        (Contains-append_right (need_at a need.There) (need_at b need.There) (b, need.There) (in_at b need.There some)),
  )
  to_listed (step.Reads a b x) some has = (need.Read x a, read_listed b a x some has)

  pub met_listed : (n : ℕ) → 0 < n → IsMet links n → IsListed n
  met_listed n some (inl (s, has, inl from)) = subst IsListed from (from_listed s (omega (arith, from, some)) has)
  met_listed n some (inl (s, has, inr to)) = subst IsListed to (to_listed s (omega (arith, to, some)) has)
  met_listed n some (inr (x, a, c, walk, has)) = (need.Write x, of_derived n a c x walk some has)
