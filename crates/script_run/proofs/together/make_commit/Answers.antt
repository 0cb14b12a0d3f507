use Rattle.std.proofs.Common.{◌++◌, ap, ◌∙◌}
use Rattle.std.proofs.lemmas.Result.{err_from_is_err_and}
use Rattle.live_commit.specs.Commit.{commit_value}
use Rattle.damon_core.specs.Commit.{commit_answer}
use Rattle.damon_core.specs.Event.{commit}
use Rattle.damon_core.specs.State.{Core}
use Rattle.snapshot_print.specs.Forms.{writing_of}
use Rattle.script_run.proofs.Making.{commit_plays, commit_writes, made-puts, somewhere-one}
use Rattle.script_run.proofs.Moves.{OnErr-map, OnOk-map, keeps-more, keeps-none}
use Rattle.script_run.proofs.together.make_commit.Goals as goal

pub put_in-requires : goal.put_in-requires
put_in-requires g c =
    let stream = g.R.Rng.stream in
    let stands = g.C.Callbacks.stands_for in
    let k = g.C.Callbacks.callbacks in
    let parts = commit_value c.args.commit.now in
    let made = c.commit-answer in
    let plays = commit_plays stream k stands c.args.world.now made.new.self c.args.callbacks.now c.after_commit.new.self parts made.ensures.source made.ensures.event (λ memory s reached stood same. c.after_commit.ensures.stands memory s (record { reached = reached; stood = stood; is = made.ensures.answer ∙ same })) in
    somewhere-one stream k stands c.args.world.now made.new.self c.args.callbacks.now c.after_commit.new.self (λ r. commit parts) plays c.requires

pub returns-in_err-print_commit-clause-err : goal.returns-in_err-print_commit-clause-err
returns-in_err-print_commit-clause-err g c =
    let p = err_from_is_err_and c.from_residual.result c.from_residual.ensures.1 in
    rw p.1 (keeps-none c.args.out.now.items _ c.in_err-print_commit.ensures.err)

pub returns-in_err-print_commit-clause-somewhere : goal.returns-in_err-print_commit-clause-somewhere
returns-in_err-print_commit-clause-somewhere g c =
    let stream = g.R.Rng.stream in
    let stands = g.C.Callbacks.stands_for in
    let k = g.C.Callbacks.callbacks in
    let parts = commit_value c.args.commit.now in
    let made = c.commit-answer in
    let plays = commit_plays stream k stands c.args.world.now made.new.self c.args.callbacks.now c.after_commit.new.self parts made.ensures.source made.ensures.event (λ memory s reached stood same. c.after_commit.ensures.stands memory s (record { reached = reached; stood = stood; is = made.ensures.answer ∙ same })) in
    somewhere-one stream k stands c.args.world.now made.new.self c.args.callbacks.now c.after_commit.new.self (λ r. commit parts) plays c.requires

pub returns-clause-made : goal.returns-clause-made
returns-clause-made g c =
    let stream = g.R.Rng.stream in
    let stands = g.C.Callbacks.stands_for in
    let k = g.C.Callbacks.callbacks in
    let parts = commit_value c.args.commit.now in
    let old = c.args.world.now in
    let made = c.commit-answer in
    let told = c.after_commit in
    let x = c.args.out.now.items in
    let y = c.print_commit.new.out.items in
    let writing = writing_of c.args.printer.form in
    let plays = commit_plays stream k stands old made.new.self c.args.callbacks.now told.new.self parts made.ensures.source made.ensures.event (λ memory s reached stood same. told.ensures.stands memory s (record { reached = reached; stood = stood; is = made.ensures.answer ∙ same })) in
    let grew = c.in_ok-print_commit.ensures.ok
    ∙ ap (λ t. x ++ writing.commit t made.result) (c.ticks.ensures ∙ ap (λ v. v.core.ticks) c.monitor.ensures ∙ made.ensures.ticks)
    ∙ ap (λ a. x ++ writing.commit old.monitor.core.ticks a) made.ensures.answer in
    let writes = commit_writes stream k stands g.met.C.Callbacks.in_place old c.args.callbacks.now writing x y parts grew in
    OnOk-map c.put_in.result
    (λ rest. made-puts stream k stands old made.new.self c.put_in.new.world c.args.callbacks.now told.new.self c.put_in.new.callbacks writing x y c.put_in.new.out.items (λ r. commit parts) (g.C.Callbacks.pending told.new.self) plays writes rest
    (λ r reached here. told.ensures.puts r.memory r.moment.state (record { reached = reached; stood = here.callbacks; is = made.ensures.answer ∙ ap (λ (q : Core). commit_answer parts q) here.world.state.monitor.same })))
    c.put_in.ensures.made

pub returns-clause-err : goal.returns-clause-err
returns-clause-err g c =
    OnErr-map c.put_in.result (λ front. keeps-more c.args.out.now.items c.print_commit.new.out.items c.put_in.new.out.items _ c.in_ok-print_commit.ensures.ok front) c.put_in.ensures.err
