use Rattle.std.proofs.Common.{◌<◌, ℕ, length, ap, ◌∙◌, arith}
use Rattle.std.proofs.lemmas.List.{get_or_read}
use Rattle.tcc_reads.proofs.ListsLemmas.{transactions_long, transactions_owner, transactions_place}
use Rattle.tcc_reads.proofs.transactions.Transactions.place.Goals as goal

pub index-requires : goal.index-requires
index-requires c =
    let inside : c.args.number < length c.self.inside.places.items = rw (← c.self.view_is, transactions_long) at c.requires in
    omega (arith, inside, c.self.inside.places.ok.0)

pub returns-clause-owner : goal.returns-clause-owner
returns-clause-owner c =
    let places = c.self.inside.places.items in
    let inside : c.args.number < length places = rw (← c.self.view_is, transactions_long) at c.requires in
    rw (← c.self.view_is)
    (ap (λ (p : ℕ × ℕ). p.0) (get_or_read places c.args.number c.index.result.now inside c.index.ensures (0, 0))
    ∙ transactions_owner places c.self.inside.writes c.self.inside.reads c.args.number inside)

pub returns-clause-place : goal.returns-clause-place
returns-clause-place c =
    let places = c.self.inside.places.items in
    let inside : c.args.number < length places = rw (← c.self.view_is, transactions_long) at c.requires in
    rw (← c.self.view_is)
    (ap (λ (p : ℕ × ℕ). p.1) (get_or_read places c.args.number c.index.result.now inside c.index.ensures (0, 0))
    ∙ transactions_place places c.self.inside.writes c.self.inside.reads c.args.number inside)
