use Rattle.trace_gen.proofs.SetupLimits.{gen-IsSound}
use Rattle.trace_gen.proofs.laws.generated_scripts_are_sound.Goals as goal

pub returns : goal.returns
returns c = gen-IsSound
