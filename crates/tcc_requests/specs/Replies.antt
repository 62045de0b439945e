-- The replies to requests, as they are written.
use Rattle.std.specs.Prelude.{ℕ, List, [], ◌++◌, length, codes, decimal}
use Rattle.tcc_requests.specs.declared.request.Refusal.{Refusal}
use Rattle.tcc_requests.specs.declared.request.Refusal.TheVariants.{Header, Cut, TooLong, Unknown, Memory}

-- the first line: how the run ended, and the lengths of answer, certificate, slice and notes
abbrev pub reply_head : ℕ → ℕ → ℕ → ℕ → ℕ → List ℕ
reply_head status answer certificate slice notes =
    decimal status ++ (codes " " ++ (decimal answer ++ (codes " " ++ (decimal certificate ++ (codes " " ++ (decimal slice ++ (codes " " ++ (decimal notes ++ codes "\n"))))))))

-- the line, and then the texts
abbrev pub reply_text : ℕ → List ℕ → List ℕ → List ℕ → List ℕ → List ℕ
reply_text status answer certificate slice notes =
    reply_head status (length answer) (length certificate) (length slice) (length notes) ++ answer ++ certificate ++ slice ++ notes

-- what is replied in place of an answer
abbrev pub refusal_text : Refusal → List ℕ
refusal_text Header = codes "refused: header\n"
refusal_text Cut = codes "refused: cut\n"
refusal_text TooLong = codes "refused: too long\n"
refusal_text Unknown = codes "refused: unknown\n"
refusal_text Memory = codes "memory\n"

-- 64, as for a fault of the command line, and 5 where memory is out
abbrev pub refusal_status : Refusal → ℕ
refusal_status Memory = 5
refusal_status why = 64

abbrev pub refusal_reply : Refusal → List ℕ
refusal_reply why = reply_text (refusal_status why) (refusal_text why) [] [] []
