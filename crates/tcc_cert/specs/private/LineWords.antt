-- The words of a line that is written.
use Rattle.std.specs.Prelude.{ℕ, List, decimal}
use Rattle.tcc_cert.specs.declared.lines.Word.{Word}
use Rattle.tcc_cert.specs.declared.lines.Word.TheVariants.{Text, Number}

abbrev pub word_text : Word → List ℕ
word_text (Text bytes) = bytes.now
word_text (Number number) = decimal number
