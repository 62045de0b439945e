use Rattle.std.proofs.Common.{ap}
use Rattle.tcc_answer.specs.Claims.{certificate_of}
use Rattle.tcc_answer.specs.Texts.{answer_text}
use Rattle.tcc_answer.specs.Json.{answer_json}
use Rattle.tcc_explain.proofs.FirstAnswers as one
use Rattle.tcc_explain.proofs.OneAnswer.{one_whole}
use Rattle.tcc_explain.proofs.laws.one_answer.Goals as goal

pub returns : goal.returns
returns c = record {
  order = one.one_order;
  answer = one.one_answer;
  whole = one_whole;
  text = λ j some other is also. ap answer_text (one_whole j some other is also);
  json = λ j some other is also. ap answer_json (one_whole j some other is also);
  certificate = λ j some other is also. ap certificate_of (one_whole j some other is also);
}
