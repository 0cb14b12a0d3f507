use Rattle.std.proofs.Common.{ℕ, length, ap, arith}
use Rattle.std.proofs.lemmas.List.{length-map}
use Rattle.damon_types.specs.Listed.{Listed}
use Rattle.damon_control.specs.Live.{LiveValue}
use Rattle.damon_live.proofs.begin.begin_run.Goals as goal

pub returns-clause-room : goal.returns-clause-room
returns-clause-room g c =
    omega (arith, c.in_ok-receipts.ensures.room, c.len.ensures, length-map c.args.script.now.workers.list (λ (t : Listed ℕ). t.list), ap (λ (x : LiveValue). length x.workers) c.requires.said, c.requires.seats)
