use Rattle.std.proofs.Common.{◌++◌, sym, ap, ◌∙◌, subst}
use Rattle.std.proofs.lemmas.Result.{err_from_is_err_and}
use Rattle.damon_core.specs.Stands.{Stands}
use Rattle.damon_world.specs.Moment.{next_event}
use Rattle.snapshot_print.specs.Forms.{writing_of}
use Rattle.snapshot_print.specs.Printed.{printed_monitor}
use Rattle.script_run.specs.Calls.{IsAggregated}
use Rattle.script_run.proofs.Making.{GoesAlong, IsDue, aggregated_at, aggregation_plays, aggregation_puts, aggregation_writes, made-puts, one_step, somewhere-aggregated, words_at}
use Rattle.script_run.proofs.Moves.{OnErr-map, OnOk-map, keeps-more, keeps-none}
use Rattle.script_run.proofs.together.make_aggregation.Goals as goal

pub after_aggregation-requires : goal.after_aggregation-requires
after_aggregation-requires g c =
    let stream = g.R.Rng.stream in
    let stands = g.C.Callbacks.stands_for in
    let k = g.C.Callbacks.callbacks in
    let old = c.args.world.now in
    let new = c.advance.new.self in
    let kk = c.args.callbacks.now in
    let due : IsDue stream k stands old = (c.requires.due, c.requires.ticks) in
    let plays = one_step stream k stands old new c.advance.result c.requires.due c.advance.ensures.count c.advance.ensures.plays in
    let there = c.requires.somewhere in
    let r = there.course in
    let words = words_at stream k stands r in
    let is = aggregated_at stream k stands old new kk due plays r there.reached there.here in
    (r.memory, r.moment.state, words, subst (λ v. IsAggregated (λ memory t. stands kk memory t) v r.memory r.moment.state words) (sym c.monitor.ensures) is)

pub put_in-requires : goal.put_in-requires
put_in-requires g c =
    let stream = g.R.Rng.stream in
    let stands = g.C.Callbacks.stands_for in
    let k = g.C.Callbacks.callbacks in
    let old = c.args.world.now in
    let new = c.advance.new.self in
    let kk = c.args.callbacks.now in
    let due : IsDue stream k stands old = (c.requires.due, c.requires.ticks) in
    let plays = one_step stream k stands old new c.advance.result c.requires.due c.advance.ensures.count c.advance.ensures.plays in
    let told = c.after_aggregation in
    let follow = subst (λ v. GoesAlong stream k stands v kk told.new.self) c.monitor.ensures told.ensures.stands in
    somewhere-aggregated stream k stands old new kk told.new.self due plays follow c.requires.somewhere

pub returns-in_err-print_aggregate-clause-err : goal.returns-in_err-print_aggregate-clause-err
returns-in_err-print_aggregate-clause-err g c =
    let p = err_from_is_err_and c.from_residual.result c.from_residual.ensures.1 in
    rw p.1 (keeps-none c.args.out.now.items _ c.in_err-print_aggregate.ensures.err)

pub returns-in_err-print_aggregate-clause-somewhere : goal.returns-in_err-print_aggregate-clause-somewhere
returns-in_err-print_aggregate-clause-somewhere g c =
    let stream = g.R.Rng.stream in
    let stands = g.C.Callbacks.stands_for in
    let k = g.C.Callbacks.callbacks in
    let old = c.args.world.now in
    let new = c.advance.new.self in
    let kk = c.args.callbacks.now in
    let due : IsDue stream k stands old = (c.requires.due, c.requires.ticks) in
    let plays = one_step stream k stands old new c.advance.result c.requires.due c.advance.ensures.count c.advance.ensures.plays in
    let told = c.after_aggregation in
    let follow = subst (λ v. GoesAlong stream k stands v kk told.new.self) c.monitor.ensures told.ensures.stands in
    somewhere-aggregated stream k stands old new kk told.new.self due plays follow c.requires.somewhere

pub returns-in_err-append_lines-clause-err : goal.returns-in_err-append_lines-clause-err
returns-in_err-append_lines-clause-err g c =
    let p = err_from_is_err_and c.from_residual-in_err-append_lines.result c.from_residual-in_err-append_lines.ensures.1 in
    rw p.1 (keeps-more c.args.out.now.items c.print_aggregate.new.out.items _ _ c.in_ok-print_aggregate.ensures.ok (keeps-none c.print_aggregate.new.out.items _ c.in_err-append_lines.ensures.err))

pub returns-in_err-append_lines-clause-somewhere : goal.returns-in_err-append_lines-clause-somewhere
returns-in_err-append_lines-clause-somewhere g c =
    let stream = g.R.Rng.stream in
    let stands = g.C.Callbacks.stands_for in
    let k = g.C.Callbacks.callbacks in
    let old = c.args.world.now in
    let new = c.advance.new.self in
    let kk = c.args.callbacks.now in
    let due : IsDue stream k stands old = (c.requires.due, c.requires.ticks) in
    let plays = one_step stream k stands old new c.advance.result c.requires.due c.advance.ensures.count c.advance.ensures.plays in
    let told = c.after_aggregation in
    let follow = subst (λ v. GoesAlong stream k stands v kk told.new.self) c.monitor.ensures told.ensures.stands in
    somewhere-aggregated stream k stands old new kk told.new.self due plays follow c.requires.somewhere

pub returns-clause-made : goal.returns-clause-made
returns-clause-made g c =
    let stream = g.R.Rng.stream in
    let stands = g.C.Callbacks.stands_for in
    let k = g.C.Callbacks.callbacks in
    let old = c.args.world.now in
    let new = c.advance.new.self in
    let kk = c.args.callbacks.now in
    let due : IsDue stream k stands old = (c.requires.due, c.requires.ticks) in
    let plays = one_step stream k stands old new c.advance.result c.requires.due c.advance.ensures.count c.advance.ensures.plays in
    let told = c.after_aggregation in
    let follow = subst (λ v. GoesAlong stream k stands v kk told.new.self) c.monitor.ensures told.ensures.stands in
    let x = c.args.out.now.items in
    let y = c.print_aggregate.new.out.items in
    let z = c.append_lines.new.out.items in
    let writing = writing_of c.args.printer.form in
    let grew = c.in_ok-print_aggregate.ensures.ok ∙ ap (λ v. x ++ writing.aggregate (printed_monitor v)) c.monitor-2.ensures in
    let writes = aggregation_writes stream k stands old new kk told.new.self writing x y z due plays follow grew
    (λ memory s words stood shows. c.in_ok-append_lines.ensures.ok memory s words stood (subst (λ v. Stands v s) (sym c.monitor-3.ensures) shows)) in
    let pending = g.C.Callbacks.pending told.new.self in
    OnOk-map c.put_in.result
    (λ rest. made-puts stream k stands old new c.put_in.new.world kk told.new.self c.put_in.new.callbacks writing x z c.put_in.new.out.items (λ r. next_event r.moment.state r.moment.stream) pending
    (aggregation_plays stream k stands old new kk told.new.self due plays follow) writes rest
    (aggregation_puts stream k stands old new kk pending due plays (λ memory s words is. told.ensures.puts memory s words (subst (λ v. IsAggregated (λ memory t. stands kk memory t) v memory s words) (sym c.monitor.ensures) is))))
    c.put_in.ensures.made

pub returns-clause-err : goal.returns-clause-err
returns-clause-err g c =
    let stream = g.R.Rng.stream in
    let stands = g.C.Callbacks.stands_for in
    let k = g.C.Callbacks.callbacks in
    let old = c.args.world.now in
    let new = c.advance.new.self in
    let kk = c.args.callbacks.now in
    let due : IsDue stream k stands old = (c.requires.due, c.requires.ticks) in
    let plays = one_step stream k stands old new c.advance.result c.requires.due c.advance.ensures.count c.advance.ensures.plays in
    let told = c.after_aggregation in
    let follow = subst (λ v. GoesAlong stream k stands v kk told.new.self) c.monitor.ensures told.ensures.stands in
    let x = c.args.out.now.items in
    let y = c.print_aggregate.new.out.items in
    let z = c.append_lines.new.out.items in
    let writing = writing_of c.args.printer.form in
    let grew = c.in_ok-print_aggregate.ensures.ok ∙ ap (λ v. x ++ writing.aggregate (printed_monitor v)) c.monitor-2.ensures in
    let writes = aggregation_writes stream k stands old new kk told.new.self writing x y z due plays follow grew
    (λ memory s words stood shows. c.in_ok-append_lines.ensures.ok memory s words stood (subst (λ v. Stands v s) (sym c.monitor-3.ensures) shows)) in
    let there = c.requires.somewhere in
    OnErr-map c.put_in.result (λ front. keeps-more x z c.put_in.new.out.items _ (writes there.course there.reached there.here) front) c.put_in.ensures.err
