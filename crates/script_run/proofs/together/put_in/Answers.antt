use Rattle.std.proofs.Common.{refl, sym, ap, ◌∙◌, subst, length, arith}
use Rattle.std.proofs.lemmas.Result.{err_from_is_err_and}
use Rattle.live_commit.specs.Commit.{commit_value}
use Rattle.snapshot_print.specs.Forms.{writing_of}
use Rattle.script_run.specs.Kept.{ArePutIn, StandSomewhere}
use Rattle.script_run.proofs.Making.{puts-all, puts-next, puts-none, somewhere-commit}
use Rattle.script_run.proofs.Moves.{keeps-more, keeps-none}
use Rattle.script_run.proofs.together.put_in.Goals as goal

pub puts-init : goal.puts-init
puts-init g c = record {
  so_far = puts-none g.R.Rng.stream g.C.Callbacks.stands_for g.C.Callbacks.pending c.args.world.now c.args.callbacks.now (writing_of c.args.printer.form) c.args.out.now.items;
  somewhere = c.requires;
  ticks = refl;
  space = refl;
}

pub puts-preserved-in_ok-put_commit : goal.puts-preserved-in_ok-put_commit
puts-preserved-in_ok-put_commit g c =
    let all = puts-next g.R.Rng.stream g.C.Callbacks.stands_for g.C.Callbacks.pending c.args.world.now c.puts.world c.put_commit.new.world c.args.callbacks.now c.puts.callbacks c.next_commit.new.self (writing_of c.args.printer.form) c.args.out.now.items c.puts.out.items c.put_commit.new.out.items (commit_value c.in-Some.next) c.puts.invariant.so_far c.puts.invariant.somewhere c.in-Some.ensures.next c.put_commit.ensures.source c.put_commit.ensures.event c.in-Some.ensures.stands c.in_ok-put_commit.ensures.ok in
    record {
      so_far = all.0;
      somewhere = all.1;
      ticks = c.put_commit.ensures.ticks ∙ c.puts.invariant.ticks;
      space = c.put_commit.ensures.space ∙ c.puts.invariant.space;
    }

pub puts-preserved : goal.puts-preserved
puts-preserved g c =
    let all = puts-next g.R.Rng.stream g.C.Callbacks.stands_for g.C.Callbacks.pending c.args.world.now c.puts.world c.put_commit.new.world c.args.callbacks.now c.puts.callbacks c.next_commit.new.self (writing_of c.args.printer.form) c.args.out.now.items c.puts.out.items c.put_commit.new.out.items (commit_value c.in-Some.next) c.puts.invariant.so_far c.puts.invariant.somewhere c.in-Some.ensures.next c.put_commit.ensures.source c.put_commit.ensures.event c.in-Some.ensures.stands c.in_ok-put_commit.ensures.ok in
    record {
      so_far = all.0;
      somewhere = all.1;
      ticks = c.put_commit.ensures.ticks ∙ c.puts.invariant.ticks;
      space = c.put_commit.ensures.space ∙ c.puts.invariant.space;
    }

pub puts-smaller-in_ok-put_commit : goal.puts-smaller-in_ok-put_commit
puts-smaller-in_ok-put_commit g c = omega (arith, ap (λ es. length es) c.in-Some.ensures.next)

pub puts-smaller : goal.puts-smaller
puts-smaller g c = omega (arith, ap (λ es. length es) c.in-Some.ensures.next)

pub returns-in_err-put_commit-clause-err : goal.returns-in_err-put_commit-clause-err
returns-in_err-put_commit-clause-err g c =
    let p = err_from_is_err_and c.from_residual.result c.from_residual.ensures.1 in
    let there = c.requires in
    rw p.1 (keeps-more c.args.out.now.items c.puts.out.items _ _ (c.puts.invariant.so_far.made.text there.course there.reached there.here) (keeps-none c.puts.out.items _ c.in_err-put_commit.ensures.err))

pub returns-in_err-put_commit-clause-somewhere : goal.returns-in_err-put_commit-clause-somewhere
returns-in_err-put_commit-clause-somewhere g c =
    somewhere-commit g.R.Rng.stream g.C.Callbacks.stands_for c.puts.world c.put_commit.new.world c.puts.callbacks c.next_commit.new.self (commit_value c.in-Some.next) c.put_commit.ensures.source c.put_commit.ensures.event c.in-Some.ensures.stands c.puts.invariant.somewhere

pub returns-clause-made : goal.returns-clause-made
returns-clause-made g c =
    let stream = g.R.Rng.stream in
    let stands = g.C.Callbacks.stands_for in
    let none = c.in_default.is in
    subst (λ kk. ArePutIn stream stands c.args.world.now c.puts.world c.args.callbacks.now kk (writing_of c.args.printer.form) c.args.out.now.items c.puts.out.items (g.C.Callbacks.pending c.args.callbacks.now)) (sym (c.next_commit.ensures.same none))
    (puts-all stream stands g.C.Callbacks.pending c.args.world.now c.puts.world c.args.callbacks.now c.puts.callbacks (writing_of c.args.printer.form) c.args.out.now.items c.puts.out.items c.puts.invariant.so_far (c.next_commit.ensures.none none))

pub returns-clause-somewhere : goal.returns-clause-somewhere
returns-clause-somewhere g c =
    subst (λ kk. StandSomewhere g.R.Rng.stream g.C.Callbacks.stands_for c.puts.world kk) (sym (c.next_commit.ensures.same c.in_default.is)) c.puts.invariant.somewhere
