use Rattle.std.proofs.Common.{◌≡◌, ℕ, ◌+◌, ◌≤◌, List, [], ◌∷◌, length, refl, sym, ap, ◌∙◌, subst, arith}
use Rattle.std.proofs.lemmas.List.Sums.{sum_by-cons}
use Rattle.rand_core.specs.Steps.{stream_of, steps_u32}
use Rattle.rand_pcg.specs.Pcg.{pcg32}
use Rattle.damon_types.specs.Space.{pages_of}
use Rattle.script_lines.specs.Command.{CommandValue, Touch, Sweep, Step, Arm, Finish, Show, Commit, weight, work_of}
use Rattle.damon_control.specs.ScriptView.{said_by}
use Rattle.script_run.specs.Part as part
use Rattle.script_run.specs.Kept.{ArePartsWithin}
use Rattle.script_run.specs.Player.{left_in, left_of}
use Rattle.script_run.specs.Parts.{part_of, parts_of}
use Rattle.script_run.proofs.Continuing.{commands_are_parts}
use Rattle.script_run.specs.Course.{going_with}
use Rattle.script_run.specs.RunWith.{start_with}
use Rattle.script_run.proofs.Ways.{Reached-start}
use Rattle.script_run.proofs.Fits.{parts_within}
use Rattle.script_run.proofs.player.make_player.Goals as goal

left_of-part : (cap : ℕ) (c : CommandValue) → left_of (part_of cap c) ≤ weight cap c
left_of-part cap (Touch page) = omega arith
left_of-part cap (Sweep from to) = omega arith
left_of-part cap (Step times) = omega arith
left_of-part cap Arm = omega arith
left_of-part cap Finish = omega arith
left_of-part cap Show = omega arith
left_of-part cap (Commit commit) = omega arith

left_in-parts : (cap : ℕ) (cs : List CommandValue) → left_in (parts_of cap cs) ≤ work_of cap cs + length cs
left_in-parts cap [] = omega arith
left_in-parts cap (c ∷ cs) =
    omega (arith, left_of-part cap c, left_in-parts cap cs, sum_by-cons (λ q. 1 + left_of q) (part_of cap c) (parts_of cap cs), sum_by-cons (weight cap) c cs)

pub invariant_of-result : goal.invariant_of-result
invariant_of-result g c =
    let s = c.args.script in
    let cs = s.commands.list in
    let space : s.setup.space ≡ c.in_ok-world.world.monitor.core.space = ap (λ x. x.space) (sym c.in_ok-world.ensures.core) in
    record {
      somewhere = record {
        course = start_with g.C.Callbacks.callbacks (said_by s);
        reached = Reached-start (said_by s) (record { space = c.targets-targets.ensures.sound; sound = s.setup.sound; order = c.len-ranges.ensures.order });
        here = record {
          world = record { state = c.in_ok-world.ensures.opening; words = ap (stream_of (steps_u32 pcg32)) (c.in_ok-world.ensures.source ∙ c.generator.ensures) };
          callbacks = c.requires.opening;
        };
      };
      within = (
        omega arith,
        subst (λ sp. ArePartsWithin (pages_of sp) (parts_of s.setup.cap cs)) space
            (parts_within s.setup.cap (pages_of s.setup.space) cs c.requires.within),
      );
      work = omega (arith, left_in-parts s.setup.cap cs, sum_by-cons (λ q. 1 + left_of q) (part.Touches 0 0) (parts_of s.setup.cap cs), c.requires.work, c.len-commands.ensures, ap (λ x. x.ticks) c.in_ok-world.ensures.core);
    }

pub returns-clause-way : goal.returns-clause-way
returns-clause-way g c = record {
  can_open = record { space = c.targets-targets.ensures.sound; sound = c.args.script.setup.sound; order = c.len-ranges.ensures.order };
  made = [];
  fit = tt;
  stands = record {
    world = record { state = c.in_ok-world.ensures.opening; words = ap (stream_of (steps_u32 pcg32)) (c.in_ok-world.ensures.source ∙ c.generator.ensures) };
    callbacks = c.requires.opening;
  };
  left = commands_are_parts (going_with g.C.Callbacks.callbacks) c.args.script.setup.cap (start_with g.C.Callbacks.callbacks (said_by c.args.script)) c.args.script.commands.list;
  written = refl;
  form = refl;
}

pub returns-clause-at : goal.returns-clause-at
returns-clause-at g c = record {
  world = record { state = c.in_ok-world.ensures.opening; words = ap (stream_of (steps_u32 pcg32)) (c.in_ok-world.ensures.source ∙ c.generator.ensures) };
  callbacks = c.requires.opening;
}
