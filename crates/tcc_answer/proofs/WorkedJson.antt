-- Worked lines of JSON agree with the definitions.
use Rattle.std.proofs.Common.{◌≡◌, ◌++◌, refl, codes, lit<}
use Rattle.std.proofs.lemmas.Fmt.{decimal_digit}
use Rattle.serde_json.proofs.OnLiterals.{serde_json_on_literals}
use Rattle.tcc_answer.specs.Json.{answer_json, json_line}
use Rattle.tcc_answer.proofs.WorkedAnswers.{stale_read, long_fork}

stale_read_line : json_line (answer_json stale_read)
    ≡ codes "{\"answer\":\"anomaly\",\"cycle\":[{\"from\":\"init\",\"kind\":\"session\",\"to\":\"a/1\"},"
    ++ codes "{\"from\":\"a/1\",\"key\":\"x\",\"kind\":\"derived\",\"reader\":\"a/2\",\"to\":\"init\","
    ++ codes "\"walk\":[{\"from\":\"a/1\",\"kind\":\"session\",\"to\":\"a/2\"}]}],\"shape\":\"stale-initial-read\",\"steps\":3}\n"
unfolding serde_json_on_literals
stale_read_line = rw (decimal_digit 3 (lit< tt)) refl

long_fork_line : json_line (answer_json long_fork)
    ≡ codes "{\"answer\":\"consistent\",\"order\":[\"init\",\"a/1\",\"b/1\",\"c/1\",\"d/1\"],\"sessions\":4,\"transactions\":4}\n"
unfolding serde_json_on_literals
long_fork_line = rw (decimal_digit 4 (lit< tt)) refl
