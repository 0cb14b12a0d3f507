use Rattle.std.proofs.Common.{Ok, sym, ap, subst, arith}
use Rattle.std.proofs.lemmas.Result.{err_from_is_err_and}
use Rattle.script_run.specs.Player.{WritesSomeWith}
use Rattle.script_run.proofs.Moves.{on-none, on-then, on-writes}
use Rattle.script_run.proofs.player.Player.fill.Goals as goal

pub moves-init : goal.moves-init
moves-init g c = record {
  on = on-none g.R.Rng.stream g.C.Callbacks.callbacks g.C.Callbacks.stands_for c.args.self.now c.args.out.now.items;
  most = omega arith;
  less = λ few many. absurd (omega (arith, few, many));
}

pub returns-in_err-go_on-clause-err : goal.returns-in_err-go_on-clause-err
returns-in_err-go_on-clause-err g c =
    let p = err_from_is_err_and c.from_residual.result c.from_residual.ensures.1 in
    rw p.1 (subst (λ t. WritesSomeWith g.R.Rng.stream g.C.Callbacks.callbacks g.C.Callbacks.stands_for c.args.self.now c.args.out.now.items t) (sym c.in_err-go_on.ensures.err) (on-writes g.R.Rng.stream g.C.Callbacks.callbacks g.C.Callbacks.stands_for c.args.self.now c.moves.self _ _ c.moves.invariant.on))

pub returns-then-not-branch-clause-on : goal.returns-then-not-branch-clause-on
returns-then-not-branch-clause-on g c = on-then g.R.Rng.stream g.C.Callbacks.callbacks g.C.Callbacks.stands_for c.args.self.now c.moves.self c.go_on.new.self _ _ _ c.moves.invariant.on c.in_ok-go_on.ensures.on

pub moves-preserved : goal.moves-preserved
moves-preserved g c =
    let more = c.in_ok-go_on.ensures in
    let some = more.less (ap (λ b. Ok b) c.if-not-branch.false) in
    record {
      on = on-then g.R.Rng.stream g.C.Callbacks.callbacks g.C.Callbacks.stands_for c.args.self.now c.moves.self c.go_on.new.self _ _ _ c.moves.invariant.on more.on;
      most = omega (arith, some, c.moves.invariant.most);
      less = λ few many. omega (arith, some, c.moves.invariant.most);
    }
