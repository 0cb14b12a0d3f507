use Rattle.std.proofs.Common.{arith}
use Rattle.run_journal.proofs.LoadRuns.{run_length, run_rest}
use Rattle.run_journal.proofs.load_run.LoadRun.split_at.Goals as goal

pub overflow_add-rest : goal.overflow_add-rest
overflow_add-rest c =
    let s = c.args.self in
    omega (arith, c.requires, run_length s.set.now s.start s.count s.within, s.within, s.small)

pub returns-clause-rest : goal.returns-clause-rest
returns-clause-rest c =
    let s = c.args.self in
    run_rest s.set.now s.start s.count c.args.count (omega (arith, c.requires, run_length s.set.now s.start s.count s.within))
