use Rattle.tcc_cli.proofs.OrdersLeftOut.{left_out}
use Rattle.tcc_cli.proofs.laws.orders_left_out.Goals as goal

pub returns : goal.returns
returns c = left_out
