-- Texts sent one after the other.
use Rattle.std.proofs.Common.{ℕ, List, [], ◌++◌, Option, Result, Ok, Err, refl, sym, ap, subst, ◌∙◌}
use Rattle.std.proofs.Common.{append_assoc, append-nil, length, take, drop, take-append-drop}
use Rattle.std.proofs.lemmas.List.{take_at}
use Rattle.std.specs.Result.{OnOk, OnErr, IsErr}
use Rattle.std.specs.Io.KnownBytes.{Appends}
use Rattle.std.proofs.KnownBytes.{Appends-trans}
use Rattle.tcc_cert.specs.private.Writing.{Stops, IsSent}
use Rattle.tcc_cert.specs.Given.{Sends}

-- two texts, one after the other
pub Sends-then : {a b c : Option (List ℕ)} {f g h s t : List ℕ} → Sends a f b g s → Sends b g c h t → Sends a f c h (s ++ t)
Sends-then {a} {b} {c} {f} {g} {h} {s} {t} p q = record {
  sent = p.sent ++ q.sent;
  appended = Appends-trans a b c p.sent q.sent p.appended q.appended;
  whole =
      sym (append_assoc f s t)
      ∙ ap (λ l. l ++ t) p.whole
      ∙ append_assoc p.sent g t
      ∙ ap (λ l. p.sent ++ l) q.whole
      ∙ sym (append_assoc p.sent q.sent h);
}

-- more that is not sent
pub Stops-early : {a b : Option (List ℕ)} {f s : List ℕ} (t : List ℕ) → Stops a f b s → Stops a f b (s ++ t)
Stops-early {a} {b} {f} {s} t (g, p) = (
  g ++ t,
  record {
    sent = p.sent;
    appended = p.appended;
    whole = sym (append_assoc f s t) ∙ ap (λ l. l ++ t) p.whole ∙ append_assoc p.sent g t;
  },
)

pub Stops-then : {a b c : Option (List ℕ)} {f g s t : List ℕ} → Sends a f b g s → Stops b g c t → Stops a f c (s ++ t)
Stops-then p (h, q) = (h, Sends-then p q)

-- a call that failed
pub failed : {X E : Type 0} (r : Result X E) (a b : Option (List ℕ)) (f g t : List ℕ) → IsErr r → Stops a f b t → IsSent r a f b g t
failed (Ok x) a b f g t h stops = absurd cc
failed (Err e) a b f g t h stops = stops

-- the first of two calls failed
pub failed-early : {X E : Type 0} (r : Result X E) (a b : Option (List ℕ)) (f g s t : List ℕ) → IsErr r → Stops a f b s → IsSent r a f b g (s ++ t)
failed-early r a b f g s t h stops = failed r a b f g (s ++ t) h (Stops-early t stops)

-- a last call
pub IsSent-then : {X E : Type 0} (r : Result X E) (a b c : Option (List ℕ)) (f g h s t : List ℕ) → Sends a f b g s → IsSent r b g c h t
    → IsSent r a f c h (s ++ t)
IsSent-then (Ok x) a b c f g h s t p q = Sends-then p q
IsSent-then (Err e) a b c f g h s t p q = Stops-then p q

-- a part of what was held
pub Stops-held : {a b : Option (List ℕ)} (n : ℕ) (held : List ℕ) → Appends a b (take n held) → Stops a held b []
Stops-held n held h =
    (drop n held, record { sent = take n held; appended = h; whole = append-nil held ∙ sym (take-append-drop n held) })

-- a text, where nothing is held
pub IsSent-bare : {X E : Type 0} (r : Result X E) (a b : Option (List ℕ)) (t : List ℕ)
    → OnOk r (Appends a b t) → OnErr r ((n : ℕ) × Appends a b (take n t)) → IsSent r a [] b [] t
IsSent-bare (Ok x) a b t whole part = record { sent = t; appended = whole; whole = sym (append-nil t) }
IsSent-bare (Err e) a b t whole (n, part) =
    (drop n t, record { sent = take n t; appended = part; whole = sym (take-append-drop n t) })

-- what was held is sent last
pub Stops-out : {a b c : Option (List ℕ)} {f g t : List ℕ} → Sends a f b g t → Stops b g c [] → Stops a f c t
Stops-out {a} {b} {c} {f} {g} {t} p q = subst (Stops a f c) (append-nil t) (Stops-then p q)

-- where nothing was held, a part of the text was written, or the whole
pub Appends-part : {a b : Option (List ℕ)} {t : List ℕ} → Stops a [] b t → (n : ℕ) × Appends a b (take n t)
Appends-part {a} {b} {t} (left, p) =
    (length p.sent, subst (Appends a b) (sym (ap (take (length p.sent)) p.whole ∙ take_at p.sent left (length p.sent) refl)) p.appended)

pub Appends-whole : {a b : Option (List ℕ)} {t : List ℕ} → Sends a [] b [] t → Appends a b t
Appends-whole {a} {b} {t} p = subst (Appends a b) (sym (p.whole ∙ append-nil p.sent)) p.appended

-- a part was written where nothing was held, and the rest was still to be sent
pub part_out : {X E : Type 0} (r : Result X E) (a b c : Option (List ℕ)) (g h t : List ℕ) → Sends a [] b g t → IsSent r b g c h []
    → OnErr r ((n : ℕ) × Appends a c (take n t))
part_out (Ok x) a b c g h t p q = tt
part_out (Err e) a b c g h t p q = Appends-part (Stops-out p q)
