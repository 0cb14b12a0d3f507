use Rattle.std.proofs.Common.{length, refl, arith}
use Rattle.trace_gen.proofs.BlockLemmas.{one_more, strides_none, strides_more}
use Rattle.trace_gen.proofs.commands.add_strides.Goals as goal

pub strides-init : goal.strides-init
strides-init c = record { touches = strides_none c.args.t c.args.commands.now.list; count = omega arith }

pub strides-preserved : goal.strides-preserved
strides-preserved c = record {
  touches = strides_more c.args.t c.args.commands.now.list c.strides.j _ c.strides.commands.list c.push.new.self.list c.strides.invariant.touches c.in_ok-push.ensures.ok refl;
  count = one_more c.strides.commands.list c.push.new.self.list _ (length c.args.commands.now.list) c.strides.j c.in_ok-push.ensures.ok c.strides.invariant.count;
}
