use Rattle.damon_control.specs.ScriptView.{said_by}
use Rattle.damon_app.proofs.Summing.{summary_made}
use Rattle.damon_app.proofs.summary.make_summary.Goals as goal

pub returns : goal.returns
returns c = summary_made c.args.number (said_by c.in_ok-script.script) c.in_ok-player.player.world.monitor c.monitor.result.now c.new-line.result.items c.print_line.new.out.items c.in_ok-print_line.ensures c.new-line.ensures.items c.monitor.ensures c.in_ok-player.ensures c.in_ok-script.ensures.script
