use Rattle.std.proofs.Common.{◌≡◌, [], List, ℕ, Some, None, length, refl, ap, sym, subst, slice_get, ◌∙◌}
use Rattle.std.proofs.lemmas.Option.{slice_get_read, slice_get_past}
use Rattle.tcc_txn.specs.Snapshots.{listed_at}
use Rattle.tcc_txn.specs.Transactions.{Transaction}
use Rattle.tcc_txn.specs.private.Packing.{AllPacked, ArePacked, Names, sessions_in, txns_in}
use Rattle.tcc_txn.proofs.PackedOps.{Part, listed-past, listed-there}
use Rattle.tcc_txn.proofs.packed.PackedSessions.recorded.Goals as goal

pub packed_at-requires : goal.packed_at-requires
packed_at-requires c =
    let part : Part = c.in-Some.part.now in
    let found = c.in-Some.ensures.lookup in
    let all : AllPacked c.self.inside.keys c.deref.result.now = subst (AllPacked c.self.inside.keys) (sym c.deref.ensures.value) c.self.invariant in
    let here : ArePacked c.self.inside.keys part.1 =
    subst (λ (p : Part). ArePacked c.self.inside.keys p.1) (sym found.1) (all c.args.i part found.3.0) in
    subst (λ (names : Names). ArePacked names part.1) (sym c.names.ensures) here

pub returns-in-Some : goal.returns-in-Some
returns-in-Some c =
    let keys = c.self.inside.keys in
    let parts : List Part = c.deref.result.now in
    let part : Part = c.in-Some.part.now in
    let found = c.in-Some.ensures.lookup in
    let read : slice_get parts c.args.i ≡ Some part = slice_get_read parts (length parts) c.args.i part refl found.3.0 found.1 in
    let list : txns_in keys part.1 ≡ listed_at c.args.self.now c.args.i
    = sym (listed-there keys parts c.args.i part read)
    ∙ (ap (λ (ps : List Part). listed_at (sessions_in keys ps) c.args.i) c.deref.ensures.value
    ∙ ap (λ (es : List (List ℕ × List Transaction)). listed_at es c.args.i) c.self.view_is) in
    c.packed_at.ensures
    ∙ (ap (λ (names : Names). slice_get (txns_in names part.1) c.args.index) c.names.ensures
    ∙ ap (λ (ts : List Transaction). slice_get ts c.args.index) list)

pub returns-in-None : goal.returns-in-None
returns-in-None c =
    let keys = c.self.inside.keys in
    let parts : List Part = c.deref.result.now in
    let none : slice_get parts c.args.i ≡ None = slice_get_past parts c.args.i c.in-None.ensures.lookup.3 in
    let list : [] ≡ listed_at c.args.self.now c.args.i
    = sym (listed-past keys parts c.args.i none)
    ∙ (ap (λ (ps : List Part). listed_at (sessions_in keys ps) c.args.i) c.deref.ensures.value
    ∙ ap (λ (es : List (List ℕ × List Transaction)). listed_at es c.args.i) c.self.view_is) in
    ap (λ (ts : List Transaction). slice_get ts c.args.index) list
