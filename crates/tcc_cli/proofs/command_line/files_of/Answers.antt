-- The paths are the words that clap has for them, and the flag is read.
use Rattle.std.proofs.Common.{◌≡◌, ◌∙◌, ap, sym, Some, codes}
use Rattle.clap.specs.Matches.{found_of, one_text}
use Rattle.clap.specs.Walk.{one_of}
use Rattle.clap.specs.Words.{rows_of}
use Rattle.clap.proofs.WalkLemmas.{first_value-rows, one_text-rows}
use Rattle.tcc_cli.proofs.command_line.files_of.Goals as goal

pub returns-in_ok-to_string-in-Some-Some-2-clause-asked :
    goal.returns-in_ok-to_string-in-Some-Some-2-clause-asked
returns-in_ok-to_string-in-Some-Some-2-clause-asked c =
    let found = found_of c.args.matches.now in
    let text_is : one_text found (codes "large") ≡ one_of (codes "large") (rows_of found) = one_text-rows found (codes "large") in (
      sym (first_value-rows found (codes "history")) ∙ sym c.in-Some-Some.ensures
          ∙ ap Some (sym c.in_ok-to_string-in-Some-Some.ensures.ok),
      sym (first_value-rows found (codes "certificate")) ∙ sym c.in-Some-Some.ensures'
          ∙ ap Some (sym c.in_ok-to_string-in-Some-Some-2.ensures.ok),
      (
        (λ is. c.get_flag-large.ensures.value (text_is ∙ is)),
        ((λ is. c.get_flag-large.ensures.other (text_is ∙ is)), (λ is. c.get_flag-large.ensures.none (text_is ∙ is))),
      ),
    )
