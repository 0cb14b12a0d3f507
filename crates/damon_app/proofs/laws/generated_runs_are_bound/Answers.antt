use Rattle.trace_gen.specs.Gen.{gen}
use Rattle.damon_app.proofs.laws.generated_runs_are_bound.Goals as goal

pub returns : goal.returns
returns c = record {
  bound = λ n. c.each_script_is_bound.ensures (gen n) (c.generated_scripts_are_sound.ensures n);
  choices = λ n. c.each_choice_is_best.ensures (gen n) (c.generated_scripts_are_sound.ensures n);
}
