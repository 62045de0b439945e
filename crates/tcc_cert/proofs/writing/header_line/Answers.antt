-- Each version and level has a line of its own.
use Rattle.tcc_cert.proofs.writing.header_line.Goals as goal

pub returns-in-One-Causal : goal.returns-in-One-Causal
returns-in-One-Causal g c = rw (c.in-One-Causal.is-0, c.in-One-Causal.is-1) c.line.ensures

pub returns-in-One-Atomic : goal.returns-in-One-Atomic
returns-in-One-Atomic g c = rw (c.in-One-Atomic.is-0, c.in-One-Atomic.is-1) c.line-in-One-Atomic.ensures

pub returns-in-Two-Causal : goal.returns-in-Two-Causal
returns-in-Two-Causal g c = rw (c.in-Two-Causal.is-0, c.in-Two-Causal.is-1) c.line-in-Two-Causal.ensures

pub returns-in-Two-Atomic : goal.returns-in-Two-Atomic
returns-in-Two-Atomic g c = rw (c.in-Two-Atomic.is-0, c.in-Two-Atomic.is-1) c.line-in-Two-Atomic.ensures
