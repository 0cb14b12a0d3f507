use Rattle.damon_control.proofs.ReadWritten.{live_setup_read_back, setup_read_back}
use Rattle.damon_control.proofs.laws.setups_are_read_back.Goals as goal

pub returns : goal.returns
returns c = record { back = setup_read_back; live = live_setup_read_back }
