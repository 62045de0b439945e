-- Each reply is written out.
use Rattle.std.proofs.Common.{◌∙◌, ap, sym}
use Rattle.tcc_requests.specs.Replies.{refusal_reply}
use Rattle.tcc_requests.proofs.WorkedReplies.{cut_off, header, memory, too_long, unknown}
use Rattle.tcc_requests.proofs.replies.refusal_reply.Goals as goal

pub returns-in-Header : goal.returns-in-Header
returns-in-Header c = header ∙ ap refusal_reply (sym c.in-Header.is)

pub returns-in-Cut : goal.returns-in-Cut
returns-in-Cut c = cut_off ∙ ap refusal_reply (sym c.in-Cut.is)

pub returns-in-TooLong : goal.returns-in-TooLong
returns-in-TooLong c = too_long ∙ ap refusal_reply (sym c.in-TooLong.is)

pub returns-in-Unknown : goal.returns-in-Unknown
returns-in-Unknown c = unknown ∙ ap refusal_reply (sym c.in-Unknown.is)

pub returns-in-Memory : goal.returns-in-Memory
returns-in-Memory c = memory ∙ ap refusal_reply (sym c.in-Memory.is)
