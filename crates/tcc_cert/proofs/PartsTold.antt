-- The parts of what is read, as they come: those of the value, and then the end, or the fault of its reading.
use Rattle.std.proofs.Common.{◌≡◌, ℕ, zero, suc, ◌+◌, Bool, true, false, cond, eqb, length, List, [], ◌∷◌, ◌++◌}
use Rattle.std.proofs.Common.{Option, None, Some, Result, Ok, Err, refl, sym, ap, subst, ◌∙◌, append_assoc, append-nil}
use Rattle.std.specs.Prelude.{map}
use Rattle.tcc_cert.specs.declared.fault.CertFault.{CertFault}
use Rattle.tcc_cert.specs.declared.fault.CertFaultKind.{CertFaultKind}
use Rattle.tcc_cert.specs.declared.fault.CertFaultKind.TheVariants.{Trailing}
use Rattle.tcc_cert.specs.Outcomes.{reached}
use Rattle.tcc_cert.specs.Parts.{◌>>>◌, PartsOf, after_part, ended_parts, rows_then}
use Rattle.tcc_cert.specs.Reading.{◌>>=◌, Position, Reads, ended, numbered}

-- the fault of what comes after the end
abbrev pub fault_behind : Position → Option CertFaultKind
fault_behind at = cond (eqb (length at.bytes) 0) None (Some Trailing)

pub bind-assoc : {A B C : Type 0} (read : Reads A) (f : A × Position → Reads B) (g : B × Position → Reads C) → ((read >>= f) >>= g) ≡ (read >>= λ x. f x >>= g)
bind-assoc (Ok x) f g = refl
bind-assoc (Err fault) f g = refl

-- what was read has these parts after others, and the text ends as they do
abbrev pub IsTold : {C P : Type 0} → (C → List P) → List P → Reads C → PartsOf P → Type 0
IsTold parts_of front (Ok read) told = (parts_of read.0 ≡ front ++ told.parts) × (told.line ≡ read.1.line) × (told.fault ≡ fault_behind read.1)
IsTold parts_of front (Err fault) told = (told.line ≡ fault.line) × (told.fault ≡ Some fault.kind)

-- the parts of what the whole text says and the end, or the fault
abbrev pub IsAllTold : {C P : Type 0} → (C → List P) → Result C CertFault → PartsOf P → Type 0
IsAllTold parts_of (Ok c) told = (told.parts ≡ parts_of c) × (told.fault ≡ None)
IsAllTold parts_of (Err fault) told = (told.fault ≡ Some fault.kind) × (told.line ≡ fault.line)

module _ {C P : Type 0} (parts_of : C → List P) where
  pub told-behind : {X : Type 0} (front : List P) (read : Reads X) (go : X × Position → Reads C) (behind : X × Position → PartsOf P)
      → ((x : X × Position) → IsTold parts_of front (go x) (behind x))
      → IsTold parts_of front (read >>= go) (read >>> behind)
  told-behind front (Ok x) go behind later = later x
  told-behind front (Err fault) go behind later = (refl, refl)

  pub told-part : (front : List P) (first : P) (read : Reads C) (told : PartsOf P) → IsTold parts_of (front ++ first ∷ []) read told
      → IsTold parts_of front read (after_part first told)
  told-part front first (Ok x) told is = (is.0 ∙ append_assoc front (first ∷ []) told.parts, is.1, is.2)
  told-part front first (Err fault) told is = is

  pub told-rows : {X : Type 0} (form : X → P) (read : ℕ → Position → Reads X) (behind : Position → PartsOf P) (n from : ℕ) (at : Position) (front : List P)
      (go : List X × Position → Reads C)
      → ((rows : List X) (after : Position) → length rows ≡ n → IsTold parts_of (front ++ map form rows) (go (rows, after)) (behind after))
      → IsTold parts_of front (numbered read from n at >>= go) (rows_then form read behind from n at)
  told-rows form read behind zero from at front go later =
      subst (λ l. IsTold parts_of l (go ([], at)) (behind at)) (append-nil front) (later [] at refl)
  told-rows {X} form read behind (suc n) from at front go later =
      let others : (first : X × Position) → List X × Position → Reads (List X) = λ first rest. Ok (first.0 ∷ rest.0, rest.1) in
      subst (λ r. IsTold parts_of front r (rows_then form read behind from (suc n) at))
      (sym (bind-assoc (read from at) (λ first. numbered read (from + 1) n first.1 >>= others first) go))
      (told-behind front (read from at) (λ first. (numbered read (from + 1) n first.1 >>= others first) >>= go)
      (λ row. after_part (form row.0) (rows_then form read behind (from + 1) n row.1))
      (λ first. told-part front (form first.0) ((numbered read (from + 1) n first.1 >>= others first) >>= go) (rows_then form read behind (from + 1) n first.1)
      (subst (λ r. IsTold parts_of (front ++ form first.0 ∷ []) r (rows_then form read behind (from + 1) n first.1))
      (sym (bind-assoc (numbered read (from + 1) n first.1) (others first) go))
      (told-rows form read behind n (from + 1) first.1 (front ++ form first.0 ∷ []) (λ rest. go (first.0 ∷ rest.0, rest.1))
      (λ rows after long. subst (λ l. IsTold parts_of l (go (first.0 ∷ rows, after)) (behind after)) (sym (append_assoc front (form first.0 ∷ []) (map form rows)))
      (later (first.0 ∷ rows) after (ap suc long)))))))

  -- nothing was left to read
  pub told-ended : (front : List P) (c : C) (at : Position) → parts_of c ≡ front → IsTold parts_of front (Ok (c, at)) (ended_parts at)
  told-ended front c at is = (is ∙ sym (append-nil front), refl, refl)

  -- ---- the whole text

  pub all-told : (read : Reads C) (told : PartsOf P) → IsTold parts_of [] read told → IsAllTold parts_of (read >>= λ c. ended c.0 c.1) told
  all-told (Err fault) told is = (is.1, is.0)
  all-told (Ok x) told is = by (eqb (length x.1.bytes) 0) is.2
    where
      by : (none : Bool) → told.fault ≡ cond none None (Some Trailing) → IsAllTold parts_of (cond none (Ok x.0) (Err (record { line = x.1.line; kind = Trailing }))) told
      by true fault = (sym is.0, fault)
      by false fault = (fault, is.1)

  -- parts that end without a fault are those of a value
  pub whole-of : (read : Result C CertFault) (told : PartsOf P) → IsAllTold parts_of read told → told.fault ≡ None
      → (c : C) × (read ≡ Ok c) × (told.parts ≡ parts_of c)
  whole-of (Ok c) told is none = (c, refl, is.0)
  whole-of (Err fault) told is none =
      let bad : None ≡ Some fault.kind = sym none ∙ is.0 in
      absurd cc

  -- parts that end in a fault are those before the fault of the text
  pub fault-of : (read : Result C CertFault) (told : PartsOf P) (fault : CertFault) → IsAllTold parts_of read told → told.fault ≡ Some fault.kind
      → told.line ≡ fault.line → read ≡ Err fault
  fault-of (Ok c) told fault is kind line =
      let bad : None ≡ Some fault.kind = sym is.1 ∙ kind in
      absurd cc
  fault-of (Err other) told fault is kind line =
      let both : Some other.kind ≡ Some fault.kind = sym is.0 ∙ kind in
      let same : other.kind ≡ fault.kind = cc in
      ap (λ l. Err (record { line = l; kind = other.kind })) (sym is.1 ∙ line) ∙ ap (λ k. Err (record { line = fault.line; kind = k })) same

  -- the parts end at the line at which the reading does
  pub reached-of : (read : Reads C) (told : PartsOf P) → IsTold parts_of [] read told → told.line ≡ reached read
  reached-of (Ok x) told is = is.1
  reached-of (Err fault) told is = is.0
