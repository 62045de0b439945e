-- the line so far is that of the numbers so far
use Rattle.std.proofs.Common.{◌≡◌, ◌<◌, ◌≤◌, ◌-◌, ◌*◌, length, take}
use Rattle.std.specs.Prelude.{All}
use Rattle.tcc_cert.specs.Texts.{numbers_words, words_text}
use Rattle.tcc_cert.proofs.reading.rows.digits_of.Given as goal

abbrev pub invariant-loop-index : goal.invariant-loop-index
invariant-loop-index l =
    record {
      some : 0 < l.index;
      long : length l.numbers.items ≡ l.index;
      line : take (2 * l.index - 1) l.line ≡ words_text (numbers_words l.numbers.items);
      within : All (λ number. number ≤ l.most) l.numbers.items;
    }
