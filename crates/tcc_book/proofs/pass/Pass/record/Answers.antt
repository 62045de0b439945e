use Rattle.std.proofs.Common.{◌∷◌, [], ap, length, length-append, arith}
use Rattle.tcc_book.proofs.Positions.{few-positions, length-positions}
use Rattle.tcc_book.proofs.pass.Pass.record.Goals as goal

pub invariant_of-self-2 : goal.invariant_of-self-2
invariant_of-self-2 c =
    let is = c.in_ok-record.ensures.records in
    let journal = c.args.book.now.journal in
    let session = c.self.inside.session in
    omega (
      arith,
      is.0,
      is.1.1,
      length-positions session 0 journal,
      few-positions session 0 journal,
      c.len-held.ensures,
      c.reserve.new.self.ok.0,
      ap length c.in-Ok.ensures.items,
      ap length c.reserve.ensures.items,
      length-append c.reserve.new.self.items (c.args.copy ∷ []),
    )
