-- Words that ask for nothing end the run by their fault, or out of memory.
use Rattle.std.proofs.Common.{ℕ, List, Option, Err, rules, subst, inl, inr, map, string_bytes}
use Rattle.clap.specs.Words.{HasKind, fault_of, kind_of}
use Rattle.clap.specs.declared.error.Error.{Error}
use Rattle.tcc_cli.specs.CommandLines.{AreLevels, EndsUnasked, IsAsked, Words, tcc_command}
use Rattle.tcc_cli.proofs.command_line.read_words.Goals as goal

ended : (levels : Words) (words : List (List ℕ)) (before after : Option (List ℕ)) (e : Error) (code : ℕ) → AreLevels levels
    → HasKind (fault_of (tcc_command levels) words) e → EndsUnasked (kind_of e) before after code → IsAsked words before after (Err code)
ended levels words before after e code are (inl memory) ends =
    (levels, are, inl (subst (λ kind. EndsUnasked kind before after code) memory ends))
ended levels words before after e code are (inr among) ends = (levels, are, inr (inl (kind_of e, among, ends)))

pub returns-in-Err : goal.returns-in-Err
returns-in-Err g c =
    ended c.as_slice.result (map string_bytes c.args.words.now) (g.W.Write.contents c.args.out.now) (g.W.Write.contents c.end_unasked.new.out)
    c.in-Err.error c.end_unasked.result (search rules) c.in-Err.ensures.fails c.end_unasked.ensures
