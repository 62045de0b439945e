-- Worked texts of version 3 are written and read as the definitions say.
use Rattle.std.proofs.Common.{◌≡◌, ℕ, true, false, List, [], ◌∷◌, ◌++◌, Option, None, Some, Result, Ok, refl, codes}
use Rattle.tcc_graph.specs.declared.level.Level.TheVariants.{Causal, Atomic}
use Rattle.tcc_graph.specs.declared.link.Link.TheVariants as link
use Rattle.tcc_graph.specs.declared.step.Step.TheVariants as step
use Rattle.tcc_cert.specs.declared.fault.CertFault.{CertFault}
use Rattle.tcc_cert.specs.declared.fault.CertFaultKind.TheVariants.{Header, Word, Number, Count, TooLarge, Truncated, Trailing}
use Rattle.tcc_cert.specs.declared.large.LargeCertificate.{LargeCertificate}
use Rattle.tcc_cert.specs.declared.large.LargeCertificate.TheVariants as claim
use Rattle.tcc_cert.specs.declared.large.Run.{Run}
use Rattle.tcc_cert.specs.LargeTexts.{large_certificate_text}
use Rattle.tcc_cert.specs.LargeReading.{is_large, large_certificate_read}
use Rattle.tcc_cert.proofs.WorkedReading.{HaveFault}
use Rattle.tcc_cert.proofs.OneDigit.{digit}

abbrev run : ℕ → ℕ → Run
run session count = record { session = session; count = count }

-- the long fork: each session has one transaction
abbrev fork : LargeCertificate
fork = claim.Order (record { level = Causal; transactions = 5; sessions = 4; runs = run 0 1 ∷ run 1 1 ∷ run 2 1 ∷ run 3 1 ∷ [] })

abbrev fork_text : List ℕ
fork_text = codes "tcc-certificate 3 causal\norder 5 4 4\n0 1\n1 1\n2 1\n3 1\nend\n"

-- x is read from 1 after an own write that 4 steps lead to
abbrev five_steps : Option (List Run) → LargeCertificate
five_steps least = claim.Cycle (record {
  level = Causal;
  transactions = 5;
  links = link.Session 0 1 ∷ link.Derived 1 0 (codes "x") 4 (step.Reads 1 2 (codes "x") ∷ step.Reads 2 3 (codes "y") ∷ step.Session 3 4 ∷ []) ∷ [];
  cost = 5;
  least = least;
})

abbrev five_steps_text : List ℕ → List ℕ
five_steps_text tail =
    codes "tcc-certificate 3 causal\ncycle 5 2 5\nS 0 1\nD 1 0 x 4 3\nR 1 2 x\nR 2 3 y\nS 3 4\n" ++ tail

abbrev its_runs : List Run
its_runs = run 0 1 ∷ run 1 1 ∷ run 2 2 ∷ []

fork_written : large_certificate_text fork ≡ fork_text
fork_written = rw (digit 0, digit 1, digit 2, digit 3, digit 4, digit 5) refl

least_written : large_certificate_text (five_steps (Some its_runs)) ≡ five_steps_text (codes "least 3\n0 1\n1 1\n2 2\nend\n")
least_written = rw (digit 0, digit 1, digit 2, digit 3, digit 4, digit 5) refl

fork_read : large_certificate_read fork_text ≡ Ok fork
fork_read = refl

least_read : large_certificate_read (five_steps_text (codes "least 3\n0 1\n1 1\n2 2\nend\n")) ≡ Ok (five_steps (Some its_runs))
least_read = refl

-- with no runs, and with no claim of leastness
no_runs_read : large_certificate_read (five_steps_text (codes "least 0\nend\n")) ≡ Ok (five_steps (Some []))
no_runs_read = refl

no_claim_read : large_certificate_read (five_steps_text (codes "end\n")) ≡ Ok (five_steps None)
no_claim_read = refl

-- a history without transactions has an order without runs
none_read : large_certificate_read (codes "tcc-certificate 3 atomic\norder 1 0 0\nend\n")
    ≡ Ok (claim.Order (record { level = Atomic; transactions = 1; sessions = 0; runs = [] }))
none_read = refl

-- a first line without a level
no_level : HaveFault large_certificate_read 1 Header (codes "tcc-certificate 3\norder 1 0 0\n" ∷ [])
no_level = (refl, tt)

-- what is read after the first line
abbrev behind_first : List ℕ → Result LargeCertificate CertFault
behind_first rest = large_certificate_read (codes "tcc-certificate 3 causal\n" ++ rest)

faulty_sizes : HaveFault behind_first 2 Word (codes "ring 5 4 4\n" ∷ [])
    × HaveFault behind_first 2 Count (codes "order 5 4\n" ∷ [])
    × HaveFault behind_first 2 Number (codes "order 05 4 4\n" ∷ codes "order 0 4 4\n" ∷ [])
    × HaveFault behind_first 2 TooLarge (codes "order 5 65536 4\n" ∷ [])
faulty_sizes = ((refl, tt), (refl, tt), (refl, (refl, tt)), (refl, tt))

faulty_runs : HaveFault behind_first 3 Number (codes "order 5 4 4\n0 0\n" ∷ [])
    × HaveFault behind_first 3 Count (codes "order 5 4 4\n\n" ∷ [])
    × HaveFault behind_first 3 TooLarge (codes "order 5 4 4\n65535 1\n" ∷ [])
    × HaveFault behind_first 4 Word (codes "order 5 4 1\n0 1\n1 1\n" ∷ [])
faulty_runs = ((refl, tt), (refl, tt), (refl, tt), (refl, tt))

-- what is read after the links
abbrev behind_links : List ℕ → Result LargeCertificate CertFault
behind_links tail = large_certificate_read (five_steps_text tail)

faulty_tails : HaveFault behind_links 8 Word (codes "0 1\n" ∷ [])
    × HaveFault behind_links 8 Count (codes "least\n" ∷ codes "end end\n" ∷ [])
    × HaveFault behind_links 9 Count (codes "least 1\nend\n" ∷ [])
    × HaveFault behind_links 8 Truncated (codes "end" ∷ [])
    × HaveFault behind_links 9 Trailing (codes "end\n\n" ∷ [])
faulty_tails = ((refl, tt), (refl, (refl, tt)), (refl, tt), (refl, tt), (refl, tt))

-- the version is that of the first line
told_by_the_first_line : (is_large fork_text ≡ true) × (is_large (codes "tcc-certificate 2 causal\n") ≡ false)
told_by_the_first_line = (refl, refl)
