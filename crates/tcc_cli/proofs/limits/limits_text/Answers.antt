-- Each piece is a line of the table.
use Rattle.std.proofs.Common.{◌∙◌, ◌++◌, ap, ap₂, append-nil, codes}
use Rattle.std.proofs.lemmas.Result.{IfOk-weaker}
use Rattle.tcc_cli.specs.Limits.{head_line, limit_line}
use Rattle.tcc_cli.proofs.limits.limits_text.Goals as goal

pub returns : goal.returns
returns c =
    let sessions = c.as_bytes.ensures.value ∙ c.in_ok-sessions.ensures
    ∙ ap₂ (limit_line (codes "sessions")) c.sessions.ensures c.sessions-2.ensures in
    let transactions = c.as_bytes-2.ensures.value ∙ c.in_ok-transactions.ensures
    ∙ ap₂ (limit_line (codes "transactions")) c.transactions.ensures c.transactions-2.ensures in
    let operations = c.as_bytes-3.ensures.value ∙ c.in_ok-operations.ensures in
    let keys = c.as_bytes-4.ensures.value ∙ c.in_ok-keys.ensures ∙ ap₂ (limit_line (codes "keys")) c.keys.ensures c.keys-2.ensures in
    let seals = c.as_bytes-5.ensures.value ∙ c.in_ok-seals.ensures ∙ ap₂ (limit_line (codes "seals")) c.seals.ensures c.seals-2.ensures in
    let bytes = c.as_bytes-6.ensures.value ∙ c.in_ok-bytes.ensures ∙ ap₂ (limit_line (codes "bytes")) c.bytes.ensures c.bytes-2.ensures in
    let names = c.as_bytes-7.ensures.value ∙ c.in_ok-names.ensures in
    let workers = c.as_bytes-8.ensures.value ∙ c.in_ok-workers.ensures in
    let lines = ap₂ ◌++◌ sessions (ap₂ ◌++◌ transactions (ap₂ ◌++◌ operations (ap₂ ◌++◌ keys (ap₂ ◌++◌ seals (ap₂ ◌++◌ bytes (ap₂ ◌++◌ names
    (append-nil c.as_bytes-8.result.now ∙ workers))))))) in
    IfOk-weaker c.joined.result _ _ (λ text is. is ∙ ap (λ rest. head_line ++ rest) lines) c.joined.ensures
