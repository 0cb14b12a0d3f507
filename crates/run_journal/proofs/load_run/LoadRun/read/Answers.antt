use Rattle.std.proofs.Common.{◌+◌, ◌-◌, length, take, ap, ◌∙◌, arith}
use Rattle.run_journal.proofs.LoadRuns.{run_first, run_length, run_rest}
use Rattle.run_journal.proofs.load_run.LoadRun.read.Goals as goal

pub returns : goal.returns
returns c =
    let run = c.args.self.now in
    let xs = run.set.now in
    let from = c.args.from in
    let n = length c.args.places.now in
    let size = run_length xs run.start run.count run.within in
    c.get_each.ensures
    ∙ run_first xs (run.start + from) (run.count - from) n (omega (arith, size, c.requires))
    ∙ ap (take n) (run_rest xs run.start run.count from (omega (arith, size, c.requires)))
