-- What a run of explain --large writes to the file for the certificate is accepted by the check of the same records.
use Rattle.std.proofs.Common.{ℕ, ◌≡◌, ◌≢◌, List, [], Option, None, Some, refl, sym, ap, subst, ◌∙◌, inl, inr, ◌⊎◌}
use Rattle.std.specs.Prelude.{unwrap_or}
use Rattle.std.specs.Io.KnownBytes.{Appends}
use Rattle.std.specs.List.{last_or}
use Rattle.tcc_txn.specs.declared.limits.Limits.TheVariants.{Large}
use Rattle.tcc_reads.specs.Faults.{read_faults}
use Rattle.tcc_print.specs.Courses.{Contents, Gains, IsEndedCourse, IsWholeCourse, Said, texts}
use Rattle.tcc_print.specs.Printed.{device_line}
use Rattle.tcc_print.specs.Statuses.{code_of}
use Rattle.tcc_print.specs.declared.options.Options.{Options}
use Rattle.tcc_print.specs.declared.status.Status.TheVariants.{Device, Memory}
use Rattle.tcc_print.proofs.LastSaid.{certified_last, device_code, last_of_all, texts_end}
use Rattle.tcc_run.specs.LargeClosing.{IsAcceptedWith, PrintsDecided}
use Rattle.tcc_run.specs.LargeRuns.{AllGoesOut, CertificateStops, Files, IsLargeRun, IsSaidWithLarge, Stops, answers_of, finished}
use Rattle.tcc_run.specs.private.Laws.{Laws}
use Rattle.tcc_run.proofs.Accepted.{said_accepted, said_certified}
use Rattle.tcc_run.proofs.GoesOut.{goes_out}

nothing : {X : Type 0} (x : X) → None ≡ Some x → ⊥
nothing x e = cc e

module _ (laws : Laws) (options : Options) (records : List ℕ) where
  -- ---- what is left in a file

  of_said : (last : Said) (text : List ℕ) → last.certificate ≡ Some text → (answers_of records).fault ≡ None
      → IsSaidWithLarge options (finished records) last → IsAcceptedWith options records text
  of_said last text has unfaulted (inl (resolved, is)) = said_accepted laws options records unfaulted resolved last text has is
  of_said last text has unfaulted (inr (faulty, same)) = absurd (nothing text (sym (ap (λ (s : Said). s.certificate) same) ∙ has))

  closes : (said : List Said) (last : Said) (text : List ℕ) → last_or None said ≡ Some last → last.certificate ≡ Some text
      → IsWholeCourse (IsSaidWithLarge options) (answers_of records) said ⊎ IsEndedCourse Large (IsSaidWithLarge options) options records said
      → IsAcceptedWith options records text
  closes said last text end has ends =
      let all = certified_last Large (IsSaidWithLarge options) options records said last end ends text has in of_said last text has all.0 all.1

  module _ (text : List ℕ) (some : text ≢ []) (said : List Said) (last : Said) (end : last_or None said ≡ Some last)
      (ends : IsWholeCourse (IsSaidWithLarge options) (answers_of records) said ⊎ IsEndedCourse Large (IsSaidWithLarge options) options records said) where
    of_gains : Gains (Some (Some [])) (Some (Some text)) (unwrap_or last.certificate []) → IsAcceptedWith options records text
    of_gains gains = go last.certificate refl
      where
        go : (kept : Option (List ℕ)) → last.certificate ≡ kept → IsAcceptedWith options records text
        go None has = absurd (some (gains ∙ ap (λ (k : Option (List ℕ)). unwrap_or k []) has))
        go (Some written) has =
            let same : text ≡ written = gains ∙ ap (λ (k : Option (List ℕ)). unwrap_or k []) has in
            closes said last text end (has ∙ ap Some (sym same)) ends

    of_certificate : (before after : Option (List ℕ)) (code : ℕ) → code ≢ code_of Device
        → CertificateStops options last before after (Some (Some [])) (Some (Some text)) code → IsAcceptedWith options records text
    of_certificate before after code fine (whole, is, part, prints) =
        absurd (fine (device_code before after (device_line options.json) code prints))

    of_stops : (before after : Option (List ℕ)) (slice slice' : Contents) (code : ℕ) → code ≢ code_of Device
        → Stops options (finished records) last before after (record { certificate = Some (Some []); slice = slice })
        (record { certificate = Some (Some text); slice = slice' }) code
        → IsAcceptedWith options records text
    of_stops before after slice slice' code fine (inl stops) = of_certificate before after code fine stops.0
    of_stops before after slice slice' code fine (inr stops) = of_gains stops.0

  pub left : (text : List ℕ) (before after : Option (List ℕ)) (slice slice' : Contents) (code : ℕ)
      → IsLargeRun options records before after (record { certificate = Some (Some []); slice = slice })
      (record { certificate = Some (Some text); slice = slice' }) code
      → text ≢ [] → code ≢ code_of Device → IsAcceptedWith options records text
  left text before after slice slice' code (said, last, ends, end, inl goes) some fine =
      of_gains text some said last end ends goes.1
  left text before after slice slice' code (said, last, ends, end, inr (inl fails)) some fine = absurd (fine fails.0.0.1)
  left text before after slice slice' code (said, last, ends, end, inr (inr (between, out, stops))) some fine =
      of_stops text some said last end ends between after slice slice' code fine stops

  -- ---- what was printed last

  module _ (unfaulted : (answers_of records).fault ≡ None) (resolved : read_faults (finished records) ≡ []) (before after : Option (List ℕ))
      (files files' : Files) (code : ℕ) (fine : code ≢ code_of Device) (space : code ≢ code_of Memory) where
    abbrev Printed : Type 0
    Printed = PrintsDecided options records before after files files' code

    of_resolved : (said : List Said) (last : Said) → last_or None said ≡ Some last
        → AllGoesOut options (finished records) before after files files' (texts said) last code → IsSaidWithLarge options (finished records) last → Printed
    of_resolved said last end (out, gains, sliced, ends_by) (inl (none, is)) =
        let (front, whole) = texts_end said last end in
        let (text, has) = said_certified laws options records unfaulted resolved last is in
        record {
          said = last;
          resolved = is;
          front = front;
          printed = subst (Appends before after) whole out;
          text = text;
          certificate = has;
          written = subst (λ (kept : Option (List ℕ)). Gains files.certificate files'.certificate (unwrap_or kept [])) has gains;
          sliced = sliced;
          status = ends_by;
          accepted = said_accepted laws options records unfaulted resolved last text has is;
        }
    of_resolved said last end goes (inr (faulty, same)) = absurd (faulty resolved)

    of_ends : (said : List Said) (last : Said) → last_or None said ≡ Some last
        → AllGoesOut options (finished records) before after files files' (texts said) last code
        → IsWholeCourse (IsSaidWithLarge options) (answers_of records) said ⊎ IsEndedCourse Large (IsSaidWithLarge options) options records said → Printed
    of_ends said last end goes ends =
        of_resolved said last end goes
        (last_of_all Large (IsSaidWithLarge options) options records said last end ends unfaulted code fine space goes.3)

    pub prints : IsLargeRun options records before after files files' code → Printed
    prints run = let (said, last, ends, end, goes) = goes_out Large (IsSaidWithLarge options) options records before after files files' code fine space run in of_ends said last end goes ends
