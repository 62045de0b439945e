-- A run that ends neither by a device that failed nor out of memory prints all that it says.
use Rattle.std.proofs.Common.{ℕ, ◌≡◌, ◌≢◌, List, Option, inl, inr, ◌⊎◌}
use Rattle.tcc_txn.specs.Snapshots.{Sessions}
use Rattle.tcc_txn.specs.declared.limits.Limits.{Limits}
use Rattle.tcc_print.specs.Courses.{IsCourse, Said}
use Rattle.tcc_print.specs.Printed.{Prints, device_line, memory_line}
use Rattle.tcc_print.specs.Statuses.{code_of}
use Rattle.tcc_print.specs.declared.options.Options.{Options}
use Rattle.tcc_print.specs.declared.status.Status.TheVariants.{Device, Memory}
use Rattle.tcc_print.proofs.LastSaid.{device_code}
use Rattle.tcc_run.specs.LargeRuns.{AllGoesOut, CertificateStops, FileFails, Files, IsRun, SliceStops, finished_within}

-- what is printed where memory is out has its status, or that of a device
memory_code : (before after : Option (List ℕ)) (text : List ℕ) (code : ℕ) → Prints before after text Memory code → (code ≡ code_of Memory) ⊎ (code ≡ code_of Device)
memory_code before after text code (inl whole) = inl whole.1
memory_code before after text code (inr part) = inr part.1

module _ (limits : Limits) (is_said : Sessions → Said → Type 0) (options : Options) (records : List ℕ) (before after : Option (List ℕ))
    (files files' : Files) (code : ℕ) (fine : code ≢ code_of Device)
    (space : code ≢ code_of Memory) where
  out_of_memory : (between : Option (List ℕ)) → Prints between after (memory_line options.json) Memory code → ⊥
  out_of_memory between prints = elim (memory_code between after (memory_line options.json) code prints) [
    | inl memory ↦ space memory
    | inr device ↦ fine device
  ]

  certificate_fails : (last : Said) (between : Option (List ℕ)) → CertificateStops options last between after files.certificate files'.certificate code → ⊥
  certificate_fails last between (text, is, part, prints) = fine (device_code between after (device_line options.json) code prints)

  slice_fails : (last : Said) (between : Option (List ℕ)) → SliceStops options (finished_within limits records) last between after files.slice files'.slice code → ⊥
  slice_fails last between (given, inl (slice, n, cut, gains, prints)) = fine (device_code between after (device_line options.json) code prints)
  slice_fails last between (given, inr (anomalous, none, prints)) = out_of_memory between prints

  file_fails : (text : List ℕ) (last : Said) → FileFails options (finished_within limits records) before after files files' text last code → ⊥
  file_fails text last (between, out, inl stops) = certificate_fails last between stops.0
  file_fails text last (between, out, inr stops) = slice_fails last between stops.1

  pub goes_out : IsRun limits is_said options records before after files files' code
      → IsCourse limits is_said options records
      (λ text last. AllGoesOut options (finished_within limits records) before after files files' text last code)
  goes_out (said, last, ends, end, inl goes) = (said, last, ends, end, goes)
  goes_out (said, last, ends, end, inr (inl fails)) = absurd (fine fails.0.0.1)
  goes_out (said, last, ends, end, inr (inr fails)) = absurd (file_fails _ last fails)
