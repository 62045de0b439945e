use Rattle.tcc_forget.proofs.Deciding.{decided}
use Rattle.tcc_forget.proofs.Made.{leads_by, made_leads}
use Rattle.tcc_forget.proofs.Outdated.{outdated_cycle}
use Rattle.tcc_forget.proofs.laws.forgetting.Goals as goal

pub returns-clause-contradicts : goal.returns-clause-contradicts
returns-clause-contradicts c h live cover e x a delivered covers on read is = outdated_cycle h live cover e delivered covers on x a read is

pub returns-clause-decides : goal.returns-clause-decides
returns-clause-decides c h live cover e delivered none covers on = decided h live cover e delivered none covers on

pub returns-clause-leads : goal.returns-clause-leads
returns-clause-leads c h live cover e u v delivered covers on below leads = leads_by h live cover e delivered covers on u v below leads

pub returns-clause-made : goal.returns-clause-made
returns-clause-made c h live cover e u v made delivered covers on leads = made_leads h live cover e delivered covers on u v made leads
