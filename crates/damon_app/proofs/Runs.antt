-- What holds of each script within its limits holds of each script that the program can be asked to run.
use Rattle.std.proofs.Common.{inl, inr, ℕ, sym, subst}
use Rattle.damon_control.specs.Script.{ScriptValue}
use Rattle.damon_control.specs.Sound.{IsSound}
use Rattle.damon_control.proofs.Lemmas.{scripts_sound, texts_read}
use Rattle.trace_gen.specs.Gen.{gen}
use Rattle.damon_app.specs.Runs.{CanRun}

can_run-IsSound : ((n : ℕ) → IsSound (gen n)) → (s : ScriptValue) → CanRun s → IsSound s
can_run-IsSound generated s (inl (text, says)) = scripts_sound text s ((texts_read text s).1 says)
can_run-IsSound generated s (inr (n, is)) = subst IsSound (sym is) (generated n)

pub of_each_run : (P : ScriptValue → Type 0) → ((n : ℕ) → IsSound (gen n)) → ((s : ScriptValue) → IsSound s → P s) → (s : ScriptValue) → CanRun s → P s
of_each_run P generated each s can = each s (can_run-IsSound generated s can)
