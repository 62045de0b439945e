-- Worked texts agree with the definitions.
use Rattle.std.proofs.Common.{◌≡◌, ℕ, List, [], ◌∷◌, refl, codes}
use Rattle.tcc_graph.specs.declared.step.Step.TheVariants as step
use Rattle.tcc_graph.specs.declared.link.Link.TheVariants as link
use Rattle.tcc_cert.specs.declared.certificate.Certificate.TheVariants as claim
use Rattle.tcc_graph.specs.declared.level.Level.TheVariants.{Causal, Atomic}
use Rattle.tcc_cert.specs.declared.certificate.CycleClaim.{CycleClaim}
use Rattle.tcc_cert.specs.declared.version.Version.{Version}
use Rattle.tcc_cert.specs.declared.version.Version.TheVariants.{One, Two}
use Rattle.tcc_cert.specs.Texts.{certificate_text}
use Rattle.tcc_cert.proofs.OneDigit.{digit}

-- a history without transactions: one row of clocks without a number
no_transactions : certificate_text (claim.Order (record { version = One; level = Causal; order = 0 ∷ []; sessions = 0; clocks = [] ∷ [] }))
    ≡ codes "tcc-certificate 1\norder 1 0\n0\nclocks\n\nend\n"
no_transactions = rw (digit 0, digit 1) refl

-- a read of 0 after an own write
stale_read : certificate_text (claim.Cycle (record {
  version = One;
  level = Causal;
  links = link.Session 0 1 ∷ link.Derived 1 0 (codes "x") 2 (step.Session 1 2 ∷ []) ∷ [];
  least = 3;
  near = (3 ∷ 1 ∷ 1 ∷ []) ∷ (3 ∷ 3 ∷ 1 ∷ []) ∷ (3 ∷ 3 ∷ 3 ∷ []) ∷ [];
  far = (3 ∷ 1 ∷ 1 ∷ []) ∷ (2 ∷ 3 ∷ 1 ∷ []) ∷ (3 ∷ 3 ∷ 3 ∷ []) ∷ [];
}))
    ≡ codes "tcc-certificate 1\ncycle 3 2 3\nS 0 1\nD 1 0 x 2 1\nS 1 2\nnear\n3 1 1\n3 3 1\n3 3 3\nfar\n3 1 1\n2 3 1\n3 3 3\nend\n"
stale_read = rw (digit 0, digit 1, digit 2, digit 3) refl

-- two transactions that read from one another
abbrev circular : Version → List (List ℕ) → CycleClaim
circular version far = record {
  version = version;
  level = Causal;
  links = link.Reads 1 2 (codes "x") ∷ link.Reads 2 1 (codes "y") ∷ [];
  least = 2;
  near = (2 ∷ 1 ∷ 1 ∷ []) ∷ (2 ∷ 2 ∷ 1 ∷ []) ∷ (2 ∷ 1 ∷ 2 ∷ []) ∷ [];
  far = far;
}

two_reads : certificate_text (claim.Cycle (circular One ((2 ∷ 1 ∷ 1 ∷ []) ∷ (2 ∷ 2 ∷ 1 ∷ []) ∷ (2 ∷ 1 ∷ 2 ∷ []) ∷ [])))
    ≡ codes "tcc-certificate 1\ncycle 3 2 2\nR 1 2 x\nR 2 1 y\nnear\n2 1 1\n2 2 1\n2 1 2\nfar\n2 1 1\n2 2 1\n2 1 2\nend\n"
two_reads = rw (digit 1, digit 2, digit 3) refl

-- the long fork
long_fork : certificate_text (claim.Order (record {
  version = One;
  level = Causal;
  order = 0 ∷ 1 ∷ 2 ∷ 3 ∷ 4 ∷ [];
  sessions = 4;
  clocks = (0 ∷ 0 ∷ 0 ∷ 0 ∷ []) ∷ (0 ∷ 0 ∷ 0 ∷ 0 ∷ []) ∷ (0 ∷ 0 ∷ 0 ∷ 0 ∷ []) ∷ (1 ∷ 0 ∷ 0 ∷ 0 ∷ []) ∷ (0 ∷ 1 ∷ 0 ∷ 0 ∷ []) ∷ [];
}))
    ≡ codes "tcc-certificate 1\norder 5 4\n0 1 2 3 4\nclocks\n0 0 0 0\n0 0 0 0\n0 0 0 0\n1 0 0 0\n0 1 0 0\nend\n"
long_fork = rw (digit 0, digit 1, digit 2, digit 3, digit 4, digit 5) refl

-- rows of version 2 begin at their own number
two_reads_upward : certificate_text (claim.Cycle (circular Two ((2 ∷ 1 ∷ 1 ∷ []) ∷ (2 ∷ 1 ∷ []) ∷ (2 ∷ []) ∷ [])))
    ≡ codes "tcc-certificate 2 causal\ncycle 3 2 2\nR 1 2 x\nR 2 1 y\nnear\n2 1 1\n2 2 1\n2 1 2\nfar\n2 1 1\n2 1\n2\nend\n"
two_reads_upward = rw (digit 1, digit 2, digit 3) refl

-- at `Atomic` an order has no clocks
no_clocks : certificate_text (claim.Order (record { version = One; level = Atomic; order = 0 ∷ 1 ∷ 2 ∷ 3 ∷ []; sessions = 2; clocks = [] }))
    ≡ codes "tcc-certificate 1 atomic\norder 4 2\n0 1 2 3\nend\n"
no_clocks = rw (digit 0, digit 1, digit 2, digit 3, digit 4) refl
