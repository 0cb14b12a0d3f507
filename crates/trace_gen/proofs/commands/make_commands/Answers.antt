use Rattle.std.proofs.Common.{ap, arith, ◌∙◌}
use Rattle.trace_gen.proofs.BlockLemmas.{blocks_none, blocks_more, few_blocks}
use Rattle.trace_gen.proofs.commands.make_commands.Goals as goal

pub passes-init : goal.passes-init
passes-init c = blocks_none c.of-access.result c.zone_of-zone.result c.reserve.new.self.list (c.reserve.ensures.list ∙ ap (λ l. l.list) c.new-commands.ensures)

pub add_block-requires-clause-few : goal.add_block-requires-clause-few
add_block-requires-clause-few c = few_blocks c.of-access.result c.zone_of-zone.result c.passes.t c.passes.commands.list c.passes.invariant (omega (arith, c.passes-test.true))

pub passes-preserved : goal.passes-preserved
passes-preserved c = blocks_more c.of-access.result c.zone_of-zone.result c.passes.t c.passes.commands.list c.add_block.new.commands.list c.passes.invariant c.in_ok-add_block.ensures
