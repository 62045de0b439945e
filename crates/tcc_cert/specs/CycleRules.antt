-- The rules for a claim that a cycle is least. The tables are untrusted: `near` claims to bound the lengths of walks from below, `far` the
-- costs of routes.
use Rattle.std.specs.Prelude.{ℕ, ◌<◌, ◌≤◌, ◌≡◌, ◌+◌, ◌⊎◌, List, [], ◌∷◌, ◌++◌, length, All, Option, None, Some}
use Rattle.tcc_reads.specs.History.{History, count}
use Rattle.tcc_graph.specs.Relations.{IsCausalPair}
pub use Rattle.tcc_graph.specs.Walks.{IsStepBelow}
use Rattle.tcc_graph.specs.Levels.{Judged}
use Rattle.tcc_graph.specs.Links.{MayContradict, IsLink, cost, link_from, link_to}
pub use Rattle.tcc_graph.specs.Links.{IsLinkBelow}
use Rattle.tcc_graph.specs.declared.level.Level.{Level}
use Rattle.tcc_graph.specs.declared.level.Level.TheVariants.{Causal}
use Rattle.tcc_graph.specs.declared.link.Link.{Link}
use Rattle.tcc_cert.specs.declared.version.Version.{Version}
use Rattle.tcc_cert.specs.declared.certificate.CycleClaim.{CycleClaim}
use Rattle.tcc_cert.specs.Tables.{entry, lowest, far_entry, HasSize, HasFarSize, IsCapped}

-- the tables and the numbers are those of a history of this size, and no number is above the cost
pub record HasRightSizes (h : History) (k : CycleClaim) : Type 0 where
  pub near : HasSize (count h) (count h) k.near
  pub far : HasFarSize k.version (count h) k.far
  pub links : All (IsLinkBelow (count h)) k.links
  pub near_capped : IsCapped k.least k.near
  pub far_capped : IsCapped k.least k.far

-- each link begins where the one before it ends, the first of them at `at`
abbrev pub IsLinkRight : Judged → ℕ → Link → Type 0
IsLinkRight j at l = (link_from l ≡ at) × IsLink j l

-- where the last link ends, and `at` where there is none
abbrev pub ends_at : ℕ → List Link → ℕ
ends_at at [] = at
ends_at at (l ∷ links) = ends_at (link_to l) links

-- link i, counted from 1, is not right after those before it, where the first has to begin at `from`
pub record IsWrongFrom (j : Judged) (from : ℕ) (links : List Link) (i : ℕ) : Type 0 where
  pub before : List Link
  pub link : Link
  pub after : List Link
  pub split : links ≡ before ++ link ∷ after
  pub at : i ≡ length before + 1
  pub wrong : IsLinkRight j (ends_at from before) link → ⊥

-- link i is not right after those before it, where the first has to begin where the last ends
abbrev pub IsLinkWrong : Judged → List Link → ℕ → Type 0
IsLinkWrong j links i = IsWrongFrom j (ends_at 0 links) links i

-- the links, one at least, are a cycle of this cost
pub record AreLinksRight (j : Judged) (most : ℕ) (links : List Link) : Type 0 where
  pub some : 0 < length links
  pub right : (i : ℕ) → IsLinkWrong j links i → ⊥
  pub costs : cost links ≡ most

-- where they are not: at the first link that is not right, counted from 1, or at 0 where each is right
abbrev pub IsLinksFault : Judged → ℕ → List Link → ℕ × ℕ → Type 0
IsLinksFault j most links at =
    (IsLinkWrong j links at.0 × ((at.1 ≡ 0) × ((i : ℕ) → i < at.0 → IsLinkWrong j links i → ⊥)))
    ⊎ ((at ≡ (0, 0)) × (((i : ℕ) → IsLinkWrong j links i → ⊥) × (AreLinksRight j most links → ⊥)))

-- the first link that is not right, counted from 1; 0 where each is right, but there are none or they have another cost; none where they
-- are such a cycle
abbrev pub IsFirstWrongLink : Judged → ℕ → List Link → Option ℕ → Type 0
IsFirstWrongLink j most links None = AreLinksRight j most links
IsFirstWrongLink j most links (Some at) = IsLinksFault j most links (at, 0)

-- a causal pair is at most 1 long
abbrev pub BreaksNearPair : History → List (List ℕ) → ℕ × ℕ → Type 0
BreaksNearPair h near at = IsCausalPair h at.0 at.1 × (1 < entry near at.0 at.1)

-- one more causal pair adds at most one step; this is not asked where walks are single pairs
abbrev pub BreaksNearStep : History → Level → List (List ℕ) → ℕ × ℕ → Type 0
BreaksNearStep h level near at =
    (level ≡ Causal) × ((at.0 < count h) × ((b : ℕ) × IsCausalPair h b at.1 × (entry near at.0 b + 1 < entry near at.0 at.1)))

-- a single link that ends no lower than it begins has at most its cost
abbrev pub BreaksFarLink : History → Version → List (List ℕ) → List (List ℕ) → ℕ × ℕ → Type 0
BreaksFarLink h version near far at =
    (lowest version at.0 ≤ at.1) × (
    (IsCausalPair h at.0 at.1 × (1 < far_entry version far at.0 at.1))
    ⊎ ((x : List ℕ) × (c : ℕ) × MayContradict h at.0 at.1 x c × (1 + entry near at.0 c < far_entry version far at.0 at.1)))

-- one more link that ends no lower than the beginning adds at most its cost
abbrev pub BreaksFarStep : History → Version → List (List ℕ) → List (List ℕ) → ℕ × ℕ → Type 0
BreaksFarStep h version near far at =
    (at.0 < count h) × ((lowest version at.0 ≤ at.1) × ((u : ℕ) × (lowest version at.0 ≤ u) × (
    (IsCausalPair h u at.1 × (far_entry version far at.0 u + 1 < far_entry version far at.0 at.1))
    ⊎ ((x : List ℕ) × (c : ℕ) × MayContradict h u at.1 x c × (far_entry version far at.0 u + 1 + entry near u c < far_entry version far at.0 at.1)))))

-- no way back is cheaper than the cycle
abbrev pub BreaksReturn : History → Version → ℕ → List (List ℕ) → ℕ × ℕ → Type 0
BreaksReturn h version least far at = (at.0 < count h) × ((at.1 ≡ at.0) × (far_entry version far at.0 at.0 < least))
