-- the session is named
use Rattle.std.proofs.Common.{append_assoc, ◌≡◌, ◌++◌, ◌∙◌, List, ℕ, Bor, OnOk, map, ap, codes, option_map, subst, sym}
use Rattle.tcc_print.specs.RowNotes.{quoted}
use Rattle.tcc_print.proofs.RowNotes.{session-there}
use Rattle.tcc_print.proofs.notes.push_session.Goals as goal

pub returns-in_ok-push-in-Some : goal.returns-in_ok-push-in-Some
returns-in_ok-push-in-Some c =
    let before : List ℕ = c.args.text.now.items in
    let session : List ℕ = c.in-Some.session.now in
    let shown = session-there (map (λ (field : Bor (List ℕ)). field.now) c.args.fields.now) c.args.place session c.if-place-gt0.true
    (ap (option_map (λ (session : Bor (List ℕ)). session.now)) (sym c.in-Some.is) ∙ c.session_of.ensures) in
    subst (λ t. OnOk c.push_quoted.result (c.push_quoted.new.text.items ≡ t))
    (ap (λ t. t ++ quoted session) c.in_ok-push-in-Some.ensures ∙ append_assoc before (codes " of session ") (quoted session)
    ∙ ap (λ t. before ++ t) (sym shown))
    c.push_quoted.ensures
