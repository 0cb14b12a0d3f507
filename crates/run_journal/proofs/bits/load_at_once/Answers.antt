use Rattle.std.proofs.Common.{◌<◌, ◌∙◌}
use Rattle.damon_core.specs.State.{row_count}
use Rattle.run_journal.proofs.Loading.{core_all_loaded}
use Rattle.run_journal.proofs.bits.load_at_once.Goals as goal

pub returns-clause-core : goal.returns-clause-core
returns-clause-core c =
    let old = c.args.monitor.now.core in
    let some : 0 < row_count old = c.rows-rows.ensures.some in
    c.loaded_all.ensures.core ∙ core_all_loaded (row_count old) old c.requires.armed some
