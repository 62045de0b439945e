-- Worked texts are read as the definitions say.
use Rattle.std.proofs.Common.{◌≡◌, ℕ, List, [], ◌∷◌, ◌++◌, Result, Ok, Err, refl, codes}
use Rattle.std.specs.List.{AllByRecursion}
use Rattle.tcc_graph.specs.declared.step.Step.TheVariants as step
use Rattle.tcc_graph.specs.declared.link.Link.TheVariants as link
use Rattle.tcc_cert.specs.declared.certificate.Certificate.{Certificate}
use Rattle.tcc_cert.specs.declared.certificate.Certificate.TheVariants as claim
use Rattle.tcc_cert.specs.declared.fault.CertFault.{CertFault}
use Rattle.tcc_cert.specs.declared.fault.CertFaultKind.{CertFaultKind}
use Rattle.tcc_cert.specs.declared.fault.CertFaultKind.TheVariants.{Header, Word, Number, Count, TooLarge, Truncated, Trailing}
use Rattle.tcc_graph.specs.declared.level.Level.TheVariants.{Causal, Atomic}
use Rattle.tcc_cert.specs.declared.version.Version.{Version}
use Rattle.tcc_cert.specs.declared.version.Version.TheVariants.{One, Two}
use Rattle.tcc_cert.specs.Reading.{certificate_read}

-- a history without transactions: one row of clocks without a number
no_transactions : certificate_read (codes "tcc-certificate 1\norder 1 0\n0\nclocks\n\nend\n")
    ≡ Ok (claim.Order (record { version = One; level = Causal; order = 0 ∷ []; sessions = 0; clocks = [] ∷ [] }))
no_transactions = refl

-- at `Atomic` it has no clocks
no_clocks : certificate_read (codes "tcc-certificate 2 atomic\norder 1 0\n0\nend\n")
    ≡ Ok (claim.Order (record { version = Two; level = Atomic; order = 0 ∷ []; sessions = 0; clocks = [] }))
no_clocks = refl

abbrev links_and_near : List ℕ
links_and_near = codes "S 0 1\nD 1 0 x 2 1\nS 1 2\nnear\n3 1 1\n3 3 1\n3 3 3\n"

abbrev far : List ℕ
far = codes "far\n3 1 1\n2 3 1\n3 3 3\n"

-- the claim of a read of 0 after an own write, with these rows of `far`
abbrev stale : Version → List (List ℕ) → Certificate
stale version rows = claim.Cycle (record {
  version = version;
  level = Causal;
  links = link.Session 0 1 ∷ link.Derived 1 0 (codes "x") 2 (step.Session 1 2 ∷ []) ∷ [];
  least = 3;
  near = (3 ∷ 1 ∷ 1 ∷ []) ∷ (3 ∷ 3 ∷ 1 ∷ []) ∷ (3 ∷ 3 ∷ 3 ∷ []) ∷ [];
  far = rows;
})

-- its text in version 1
stale_read : certificate_read (codes "tcc-certificate 1\ncycle 3 2 3\n" ++ (links_and_near ++ (far ++ codes "end\n")))
    ≡ Ok (stale One ((3 ∷ 1 ∷ 1 ∷ []) ∷ (2 ∷ 3 ∷ 1 ∷ []) ∷ (3 ∷ 3 ∷ 3 ∷ []) ∷ []))
stale_read = refl

abbrev upward : List ℕ
upward = codes "far\n3 1 1\n3 1\n3\n"

-- and in version 2
stale_read_upward : certificate_read (codes "tcc-certificate 2 causal\ncycle 3 2 3\n" ++ (links_and_near ++ (upward ++ codes "end\n")))
    ≡ Ok (stale Two ((3 ∷ 1 ∷ 1 ∷ []) ∷ (3 ∷ 1 ∷ []) ∷ (3 ∷ []) ∷ []))
stale_read_upward = refl

-- `read` finds this fault, at this line, in each of the texts
abbrev pub HaveFault : {C : Type 0} → (List ℕ → Result C CertFault) → ℕ → CertFaultKind → List (List ℕ) → Type 0
HaveFault read line kind texts = AllByRecursion (λ text. read text ≡ Err (record { line = line; kind = kind })) texts

other_headers : HaveFault certificate_read 1 Header (codes "tcc-certificate 2\ncycle 3 2 3\n" ∷ codes "tcc-certificate 1 causal\ncycle 3 2 3\n" ∷ [])
other_headers = (refl, (refl, tt))

other_words : HaveFault certificate_read 2 Word (codes "tcc-certificate 1\nring 3 2 3\n" ∷ [])
other_words = (refl, tt)

-- two spaces part an empty word
other_counts : HaveFault certificate_read 2 Count (codes "tcc-certificate 1\ncycle 3 2\n" ∷ codes "tcc-certificate 1\ncycle  3 2 3\n" ∷ [])
other_counts = (refl, (refl, tt))

no_numbers : HaveFault certificate_read 2 Number (codes "tcc-certificate 1\ncycle 03 2 3\n" ∷ codes "tcc-certificate 1\ncycle 3 0 3\n" ∷ [])
no_numbers = (refl, (refl, tt))

-- a count that is too large in version 1 isn't in version 2
too_large : HaveFault certificate_read 2 TooLarge (codes "tcc-certificate 1\ncycle 1025 2 3\n" ∷ codes "tcc-certificate 2 causal\ncycle 4097 2 3\n" ∷ [])
    × HaveFault certificate_read 3 Truncated (codes "tcc-certificate 2 causal\ncycle 1025 2 3\n" ∷ [])
too_large = ((refl, (refl, tt)), (refl, tt))

-- texts that end within `far`, the second row of which is one of version 1, or after it
abbrev two_rows : List ℕ
two_rows = codes "far\n3 1 1\n2 3 1\n"

cut_or_longer : HaveFault certificate_read 12 Count ((codes "tcc-certificate 2 causal\ncycle 3 2 3\n" ++ (links_and_near ++ two_rows)) ∷ [])
    × HaveFault (λ rest. certificate_read (codes "tcc-certificate 1\ncycle 3 2 3\n" ++ (links_and_near ++ rest))) 13 Truncated (two_rows ∷ [])
    × HaveFault (λ rest. certificate_read (codes "tcc-certificate 1\ncycle 3 2 3\n" ++ (links_and_near ++ (far ++ rest)))) 14 Truncated (codes "end" ∷ [])
    × HaveFault (λ rest. certificate_read (codes "tcc-certificate 1\ncycle 3 2 3\n" ++ (links_and_near ++ (far ++ rest)))) 15 Trailing (codes "end\n\n" ∷ [])
cut_or_longer = ((refl, tt), (refl, tt), (refl, tt), (refl, tt))
