-- Streams and their requests, worked out from the definitions alone.
use Rattle.std.proofs.Common.{◌≡◌, [], ◌∷◌, codes, refl, true, false}
use Rattle.tcc_graph.specs.declared.level.Level.TheVariants.{Atomic, Causal}
use Rattle.tcc_requests.specs.Requests.{Asks, Begins, End, More, Refuses, Unreadable, next}
use Rattle.tcc_requests.specs.declared.question.Question.TheVariants.{Check, Explain, ExplainLarge, Survey}
use Rattle.tcc_requests.specs.declared.request.Refusal.TheVariants.{Cut, TooLong, Unknown}

-- nothing is left
none : next [] ≡ End
none = refl

-- three bytes of records, and what comes after them
explain : next (codes "3 explain\nabcd") ≡ More (Asks (Explain Causal false false) (codes "abc") []) (codes "d")
explain = refl

-- options come in any order
large : next (codes "1 explain --slice --large --level=atomic\na") ≡ More (Asks (ExplainLarge Atomic false false true) (codes "a") []) []
large = refl

-- one byte of records, and two of a certificate
check : next (codes "1+2 check --large\nabcd") ≡ More (Asks (Check true) (codes "a") (codes "bc")) (codes "d")
check = refl

-- the body ends early, by a byte
short : next (codes "3 explain\nab") ≡ More (Refuses Cut) []
short = refl

-- a question that isn't known; a slice without the large limits; a check without a certificate; no question at all
unknown : next (codes "1 guess\nab") ≡ More (Refuses Unknown) (codes "b")
unknown = refl

slice : next (codes "1 explain --slice\nab") ≡ More (Refuses Unknown) (codes "b")
slice = refl

bare_check : next (codes "1 check\nab") ≡ More (Refuses Unknown) (codes "b")
bare_check = refl

no_question : next (codes "1\nab") ≡ More (Refuses Unknown) (codes "b")
no_question = refl

-- a body of 1,073,741,825 bytes
long : next (codes "1073741825 explain\nab") ≡ More (Refuses TooLong) []
long = refl

-- no length, a length with a leading zero, a line that doesn't end
no_length : next (codes "explain\nab") ≡ Unreadable
no_length = refl

zero_first : next (codes "01 explain\nab") ≡ Unreadable
zero_first = refl

no_line : next (codes "1 explain") ≡ Unreadable
no_line = refl

-- the second request is refused, and the third is taken
three : Begins (codes "1 survey --json\na0 guess\n2 explain --certificate\nbcd")
    (Asks (Survey Causal true false) (codes "a") [] ∷ Refuses Unknown ∷ Asks (Explain Causal false true) (codes "bc") [] ∷ []) (codes "d")
three = (_, refl, (_, refl, (_, refl, refl)))
