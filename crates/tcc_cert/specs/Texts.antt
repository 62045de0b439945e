-- The text of a certificate: lines of words, the words separated by one space, each line ended by one line feed.
use Rattle.std.specs.Prelude.{ℕ, ◌≤◌, ◌≡◌, ◌-◌, List, [], ◌∷◌, ◌++◌, length, map, All, None, codes, decimal, flat_map}
use Rattle.std.specs.List.{join_by}
use Rattle.tcc_txn.specs.Names.{name_fault}
use Rattle.tcc_graph.specs.declared.step.Step.{Step}
use Rattle.tcc_graph.specs.declared.step.Step.TheVariants as step
use Rattle.tcc_graph.specs.declared.link.Link.{Link}
use Rattle.tcc_graph.specs.declared.link.Link.TheVariants as link
use Rattle.tcc_graph.specs.declared.level.Level.{Level}
use Rattle.tcc_graph.specs.declared.level.Level.TheVariants.{Causal, Atomic}
use Rattle.tcc_cert.specs.declared.version.Version.{Version}
use Rattle.tcc_cert.specs.declared.version.Version.TheVariants.{One, Two}
use Rattle.tcc_cert.specs.declared.ranges.TextFormat.{TextFormat}
use Rattle.tcc_cert.specs.declared.ranges.TextFormat.TheVariants.{Small}
use Rattle.tcc_cert.specs.Ranges.{ranges_at, ranges_of}
use Rattle.tcc_cert.specs.Tables.{lowest, HasRows, IsCapped}
use Rattle.tcc_cert.specs.declared.certificate.Certificate.{Certificate}
use Rattle.tcc_cert.specs.declared.certificate.Certificate.TheVariants as claim
use Rattle.tcc_cert.specs.declared.certificate.CycleClaim.{CycleClaim}
use Rattle.tcc_cert.specs.declared.certificate.OrderClaim.{OrderClaim}

-- the words of a line
abbrev pub Words : Type 0
Words = List (List ℕ)

-- words separated by one space
abbrev pub words_text : Words → List ℕ
words_text words = join_by (λ word. word) (codes " ") words

abbrev pub line_text : Words → List ℕ
line_text words = words_text words ++ codes "\n"

abbrev pub numbers_words : List ℕ → Words
numbers_words numbers = map decimal numbers

abbrev pub table_lines : List (List ℕ) → List Words
table_lines table = map numbers_words table

-- a step of a walk: `S u v` or `R u v KEY`
abbrev pub step_words : Step → Words
step_words (step.Session u v) = codes "S" ∷ decimal u ∷ decimal v ∷ []
step_words (step.Reads u v key) = codes "R" ∷ decimal u ∷ decimal v ∷ key ∷ []

-- a link: a step's line, or `D b a KEY c W` and a line for each of the W steps of its walk
abbrev pub link_lines : Link → List Words
link_lines (link.Session u v) = step_words (step.Session u v) ∷ []
link_lines (link.Reads u v key) = step_words (step.Reads u v key) ∷ []
link_lines (link.Derived b a key c walk) =
    (codes "D" ∷ decimal b ∷ decimal a ∷ key ∷ decimal c ∷ decimal (length walk) ∷ []) ∷ map step_words walk

-- the first line; version 1 names the level where it isn't `Causal`, version 2 always
abbrev pub header_words : Version → Level → Words
header_words One Causal = codes "tcc-certificate" ∷ codes "1" ∷ []
header_words One Atomic = codes "tcc-certificate" ∷ codes "1" ∷ codes "atomic" ∷ []
header_words Two Causal = codes "tcc-certificate" ∷ codes "2" ∷ codes "causal" ∷ []
header_words Two Atomic = codes "tcc-certificate" ∷ codes "2" ∷ codes "atomic" ∷ []

-- the clocks, which are left out at `Atomic`
abbrev pub clocks_lines : Level → List (List ℕ) → List Words
clocks_lines Causal clocks = (codes "clocks" ∷ []) ∷ table_lines clocks
clocks_lines Atomic clocks = []

-- `order N S`, the order, and the clocks: N rows of S numbers
abbrev pub order_lines : OrderClaim → List Words
order_lines k =
    (codes "order" ∷ decimal (length k.order) ∷ decimal k.sessions ∷ [])
    ∷ numbers_words k.order
    ∷ (clocks_lines k.level k.clocks ++ (codes "end" ∷ []) ∷ [])

-- `cycle N M L`, the M links, and two tables of N rows
abbrev pub cycle_lines : CycleClaim → List Words
cycle_lines k =
    (codes "cycle" ∷ decimal (length k.near) ∷ decimal (length k.links) ∷ decimal k.least ∷ [])
    ∷ (flat_map link_lines k.links
    ++ (codes "near" ∷ [])
    ∷ (table_lines k.near
    ++ (codes "far" ∷ [])
    ∷ (table_lines k.far
    ++ (codes "end" ∷ []) ∷ [])))

-- the first line, and those after it
abbrev pub header_of : Certificate → Words
header_of (claim.Order k) = header_words k.version k.level
header_of (claim.Cycle k) = header_words k.version k.level

abbrev pub claim_lines : Certificate → List Words
claim_lines (claim.Order k) = order_lines k
claim_lines (claim.Cycle k) = cycle_lines k

abbrev pub lines_text : List Words → List ℕ
lines_text lines = flat_map line_text lines

abbrev pub certificate_text : Certificate → List ℕ
certificate_text certificate = lines_text (header_of certificate ∷ claim_lines certificate)

-- a count of transactions, links or steps
pub record IsCount (scale : TextFormat) (n : ℕ) : Type 0 where
  pub some : 1 ≤ n
  pub limit : n ≤ (ranges_at scale).count

-- indices of transactions, and places in clocks
abbrev pub IsNumber : TextFormat → ℕ → Type 0
IsNumber scale n = n ≤ (ranges_at scale).number

abbrev pub IsKey : List ℕ → Type 0
IsKey key = name_fault key ≡ None

abbrev pub HasStepText : TextFormat → Step → Type 0
HasStepText scale (step.Session u v) = IsNumber scale u × IsNumber scale v
HasStepText scale (step.Reads u v key) = IsNumber scale u × IsNumber scale v × IsKey key

abbrev pub HasLinkText : TextFormat → Link → Type 0
HasLinkText scale (link.Session u v) = IsNumber scale u × IsNumber scale v
HasLinkText scale (link.Reads u v key) = IsNumber scale u × IsNumber scale v × IsKey key
HasLinkText scale (link.Derived b a key c walk) =
    IsNumber scale b × IsNumber scale a × IsKey key × IsNumber scale c × IsCount scale (length walk) × All (HasStepText scale) walk

-- this many rows, each with as many numbers as its index says, none above the limit
pub record HasTableText (rows : ℕ) (columns : ℕ → ℕ) (most : ℕ) (table : List (List ℕ)) : Type 0 where
  pub size : HasRows rows columns table
  pub capped : IsCapped most table

-- N rows of S numbers, and none at `Atomic`
abbrev pub HasClocksText : Version → Level → ℕ → ℕ → List (List ℕ) → Type 0
HasClocksText version Causal transactions sessions clocks = HasTableText transactions (λ t. sessions) (ranges_of version).number clocks
HasClocksText version Atomic transactions sessions clocks = clocks ≡ []

pub record HasOrderText (k : OrderClaim) : Type 0 where
  pub count : IsCount (Small k.version) (length k.order)
  pub numbers : All (IsNumber (Small k.version)) k.order
  pub sessions : k.sessions ≤ (ranges_of k.version).sessions
  pub clocks : HasClocksText k.version k.level (length k.order) k.sessions k.clocks

pub record HasCycleText (k : CycleClaim) : Type 0 where
  pub count : IsCount (Small k.version) (length k.near)
  pub steps : IsCount (Small k.version) (length k.links)
  pub links : All (HasLinkText (Small k.version)) k.links
  pub least : k.least ≤ (ranges_of k.version).cost
  pub near : HasTableText (length k.near) (λ a. length k.near) (ranges_of k.version).cost k.near
  pub far : HasTableText (length k.near) (λ s. length k.near - lowest k.version s) (ranges_of k.version).cost k.far

-- the values that have a text
abbrev pub HasText : Certificate → Type 0
HasText (claim.Order k) = HasOrderText k
HasText (claim.Cycle k) = HasCycleText k
