-- Links so far, and those to come: of those so far something is known.
use Rattle.std.proofs.Common.{◌≡◌, ℕ, ◌<◌, ◌+◌, ◌⊎◌, List, [], ◌∷◌, ◌++◌, length, get_or, None}
use Rattle.std.proofs.Common.{inl, inr, refl, sym, ap, subst, ◌∙◌, arith, append_assoc, append-nil}
use Rattle.std.specs.Prelude.{All, map}
use Rattle.std.proofs.lemmas.List.{length-append}
use Rattle.std.proofs.lemmas.List.Elements.{All-push}
use Rattle.std.proofs.Math.Seq.{get_or-append_seam}
use Rattle.tcc_graph.specs.declared.link.Link.{Link}
use Rattle.tcc_cert.specs.Parts.{IsFirst, Parts}
use Rattle.tcc_cert.specs.declared.part.Part.{Part}
use Rattle.tcc_cert.specs.declared.part.Part.TheVariants as part
use Rattle.tcc_rules.specs.declared.links.LinksSeen.{LinksSeen}
use Rattle.tcc_check.proofs.ComingFacts.{first-fault, first-line, first-parts}

-- this many links come, and then these parts
abbrev AreComing : ℕ → Parts → List Link → List Part → Type 0
AreComing n ahead links tables = (length links ≡ n) × (ahead.parts ≡ map part.Link links ++ tables)

-- a link that is there is the next of them
next-link : (one : Link) (rest : List Part) (todo : List Link) (tables : List Part) → 0 < length todo → part.Link one ∷ rest ≡ map part.Link todo ++ tables
    → (later : List Link) × (todo ≡ one ∷ later) × (rest ≡ map part.Link later ++ tables)
next-link one rest [] tables some is = absurd (omega (arith, some))
next-link one rest (other ∷ later) tables some is = (later, (let same : one ≡ other = cc in ap (λ r. r ∷ later) (sym same)), cc)

-- the next part of them is such a link
next-not-link : (given : Part) (rest : List Part) (todo : List Link) (tables : List Part) → 0 < length todo → given ∷ rest ≡ map part.Link todo ++ tables
    → (one : Link) × (given ≡ part.Link one)
next-not-link given rest [] tables some is = absurd (omega (arith, some))
next-not-link given rest (one ∷ later) tables some is = (one, cc)

none-left : (todo : List Link) (tables : List Part) → 0 < length todo → [] ≡ map part.Link todo ++ tables → ⊥
none-left [] tables some is = omega (arith, some)
none-left (one ∷ later) tables some is = cc

-- after the first i links come the others
pub record AreLinksBehind (n : ℕ) (below : Link → Type 0) (P : List Link → ℕ → LinksSeen → Type 0) (i : ℕ) (seen : LinksSeen) (links : List Link)
    (ahead rest : Parts) : Type 0 where
  pub line : rest.line ≡ ahead.line
  pub fault : rest.fault ≡ ahead.fault
  pub long : length links ≡ i
  pub all_below : All below links
  pub others : (all : List Link) (tables : List Part) → length all ≡ n → ahead.parts ≡ map part.Link all ++ tables
      → (todo : List Link) × (all ≡ links ++ todo) × (rest.parts ≡ map part.Link todo ++ tables)
  pub found : (all : List Link) (tables : List Part) → length all ≡ n → ahead.parts ≡ map part.Link all ++ tables → P all i seen

module _ (n : ℕ) (below : Link → Type 0) (P : List Link → ℕ → LinksSeen → Type 0) where
  pub links-begun : (seen : LinksSeen) (ahead : Parts) → ((all : List Link) → P all 0 seen) → AreLinksBehind n below P 0 seen [] ahead ahead
  links-begun seen ahead nothing = record {
    line = refl;
    fault = refl;
    long = refl;
    all_below = λ k d l. absurd (omega (arith, l));
    others = λ all tables long is. (all, refl, is);
    found = λ all tables long is. nothing all;
  }

  module _ (i : ℕ) (seen : LinksSeen) (links : List Link) (ahead now rest : Parts) (fewer : i < n) (old : AreLinksBehind n below P i seen links ahead now) where
    some-left : (all todo : List Link) → length all ≡ n → all ≡ links ++ todo → 0 < length todo
    some-left all todo long split = omega (arith, long, fewer, old.long, ap length split, length-append links todo)

    -- another part comes only where there are fewer links
    pub links-other : (given : Part) → ((one : Link) → given ≡ part.Link one → ⊥) → IsFirst given now rest
        → (all : List Link) (tables : List Part) → length all ≡ n → ahead.parts ≡ map part.Link all ++ tables → ⊥
    links-other given other first all tables long is = go (first-parts given now rest first)
      where
        left : (todo : List Link) × (all ≡ links ++ todo) × (now.parts ≡ map part.Link todo ++ tables)
        left = old.others all tables long is

        some : 0 < length left.0
        some = some-left all left.0 long left.1

        go : ((given ≡ part.End) × (now.parts ≡ []) × (now.fault ≡ None)) ⊎ (now.parts ≡ given ∷ rest.parts) → ⊥
        go (inl end) = none-left left.0 tables some (sym end.1 ∙ left.2)
        go (inr one) = let found = next-not-link given rest.parts left.0 tables some (sym one ∙ left.2) in other found.0 found.1

    module _ (one : Link) (first : IsFirst (part.Link one) now rest) where
      next : (all : List Link) (tables : List Part) → length all ≡ n → ahead.parts ≡ map part.Link all ++ tables
          → (later : List Link) × (all ≡ links ++ one ∷ later) × (rest.parts ≡ map part.Link later ++ tables)
      next all tables long is =
          let left = old.others all tables long is in
          let found = next-link one rest.parts left.0 tables (some-left all left.0 long left.1) (sym (ap (λ p. p.parts) first) ∙ left.2) in
          (found.0, left.1 ∙ ap (λ t. links ++ t) found.1, found.2)

      inside : (all later : List Link) → all ≡ links ++ one ∷ later → i < length all
      inside all later split = omega (arith, old.long, ap length split, length-append links (one ∷ later))

      here : (all later : List Link) (d : Link) → all ≡ links ++ one ∷ later → get_or all i d ≡ one
      here all later d split = ap (λ t. get_or t i d) split ∙ ap (λ k. get_or (links ++ one ∷ later) k d) (sym old.long) ∙ get_or-append_seam links one later d

      -- so it is below, where all are
      pub links-below : (all : List Link) (tables : List Part) → length all ≡ n → ahead.parts ≡ map part.Link all ++ tables → All below all → below one
      links-below all tables long is right =
          let split = next all tables long is in
          subst below (here all split.0 one split.1) (right i one (inside all split.0 split.1))

      pub links-go-on : (new : LinksSeen) → below one → ((all : List Link) → i < length all → one ≡ get_or all i one → P all i seen → P all (i + 1) new)
          → AreLinksBehind n below P (i + 1) new (links ++ one ∷ []) ahead rest
      links-go-on new is_below more = record {
        line = first-line (part.Link one) now rest first ∙ old.line;
        fault = first-fault (part.Link one) now rest first ∙ old.fault;
        long = length-append links (one ∷ []) ∙ omega (arith, old.long);
        all_below = All-push below links one old.all_below is_below;
        others = λ all tables long is.
            let split = next all tables long is in
            (split.0, split.1 ∙ sym (append_assoc links (one ∷ []) split.0), split.2);
        found = λ all tables long is.
            let split = next all tables long is in
            more all (inside all split.0 split.1) (sym (here all split.0 one split.1)) (old.found all tables long is);
      }

  -- all links came
  pub links-ended : (seen : LinksSeen) (links : List Link) (ahead now : Parts) → AreLinksBehind n below P n seen links ahead now
      → (all : List Link) (tables : List Part) → length all ≡ n → ahead.parts ≡ map part.Link all ++ tables
      → All below all × P all n seen × (now.parts ≡ tables)
  links-ended seen links ahead now old all tables long is = go left.0 left.1 left.2
    where
      left : (todo : List Link) × (all ≡ links ++ todo) × (now.parts ≡ map part.Link todo ++ tables)
      left = old.others all tables long is

      go : (todo : List Link) → all ≡ links ++ todo → now.parts ≡ map part.Link todo ++ tables → All below all × P all n seen × (now.parts ≡ tables)
      go [] split behind = (subst (λ (l : List Link). All below l) (sym (split ∙ append-nil links)) old.all_below, old.found all tables long is, behind)
      go (one ∷ later) split behind = absurd (omega (arith, old.long, long, ap length split, length-append links (one ∷ later)))
