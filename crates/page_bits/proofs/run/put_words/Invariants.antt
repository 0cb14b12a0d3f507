use Rattle.std.proofs.Common.{◌-◌, ◌*◌}
use Rattle.page_bits.specs.Runs.{IsRunPut}
use Rattle.page_bits.proofs.run.put_words.Given as goal

abbrev pub invariant-loop-index : goal.invariant-loop-index
invariant-loop-index l = IsRunPut l.fn.words l.words (64 * l.fn.from) (64 * (l.index - l.fn.from)) l.fn.now l.count
