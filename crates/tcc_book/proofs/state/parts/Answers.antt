use Rattle.std.proofs.Common.{◌≡◌, ◌++◌, ◌∷◌, [], List, ℕ, map, sym, ap, ◌∙◌, append_assoc, rules, subst, All, ◌<◌, length}
use Rattle.std.proofs.lemmas.List.{map-append}
use Rattle.std.proofs.lemmas.List.Elements.{All-tail}
use Rattle.std.specs.Global.{Vec}
use Rattle.tcc_txn.specs.Snapshots.{parts_of}
use Rattle.tcc_txn.specs.Transactions.{Transaction}
use Rattle.tcc_book.specs.private.BookStorage.{AreWithin, part_at}
use Rattle.tcc_book.proofs.state.parts.Goals as goal

pub loop-session-preserved : goal.loop-session-preserved
loop-session-preserved c =
    let first : c.loop-session.session-iterator ≡ (c.in-Some.session.now, c.in-Some.list.now) ∷ c.next.new.self = search rules in
    let journal = c.args.journal.now in
    let recorded : part_at journal (c.in-Some.session.now, c.in-Some.list.now) ≡ (c.in-Some.session.now, c.in_ok-listed.field-0.items) = search rules in
    let longer : parts_of c.push.new.self.items ≡ parts_of c.loop-session.parts.items ++ part_at journal (c.in-Some.session.now, c.in-Some.list.now) ∷ [] =
    ap parts_of c.in_ok-push.ensures.items
    ∙ map-append (λ (part : List ℕ × Vec Transaction). (part.0, part.1.items)) c.loop-session.parts.items ((c.in-Some.session.now, c.in_ok-listed.field-0) ∷ [])
    ∙ ap (λ p. parts_of c.loop-session.parts.items ++ p ∷ []) (sym recorded) in (
      ap (λ ps. ps ++ map (part_at journal) c.next.new.self) longer
          ∙ append_assoc (parts_of c.loop-session.parts.items) (part_at journal (c.in-Some.session.now, c.in-Some.list.now) ∷ [])
          (map (part_at journal) c.next.new.self)
          ∙ ap (λ es. parts_of c.loop-session.parts.items ++ map (part_at journal) es) (sym first) ∙ c.loop-session.invariant.0,
      All-tail (λ (e : List ℕ × Vec ℕ). All (λ position. position < length journal) e.1.items) (c.in-Some.session.now, c.in-Some.list.now) c.next.new.self
          (subst (AreWithin journal) first c.loop-session.invariant.1),
    )
