-- What is written of two bytes and of some codes.
use Rattle.std.proofs.Common.{◌≡◌, ◌++◌, ◌∷◌, [], refl, codes}
use Rattle.std.specs.Fmt.{digits}
use Rattle.tcc_batch.specs.Junit.{escaped, suite_text}
use Rattle.tcc_batch.specs.Lines.{summary_text}

summary : summary_text 9 10 ≡ codes "consistent: 9 of 10 histories\n"
unfolding digits
summary = refl

-- what XML has no form for becomes a question mark
value : escaped (codes "a<b & \"c\"" ++ 7 ∷ 10 ∷ []) ≡ codes "a&lt;b &amp; &quot;c&quot;?&#10;"
value = refl

suite : suite_text 3 1 0 ≡ codes "<?xml version=\"1.0\" encoding=\"UTF-8\"?>\n<testsuite name=\"tcc batch\" tests=\"3\" failures=\"1\" errors=\"0\">\n"
unfolding digits
suite = refl
