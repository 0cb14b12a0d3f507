use Rattle.std.proofs.Common.{◌≡◌}
use Rattle.script_lines.specs.Words.{words_in}
use Rattle.script_lines.specs.Keys.{settings_of, with_settings}
use Rattle.script_lines.specs.Refusal.{◌>>=◌}
use Rattle.script_lines.specs.Settings.{settled}
use Rattle.script_lines.proofs.WordLemmas.{size_left}
use Rattle.script_lines.proofs.keys.read_settings.Given as goal

abbrev pub invariant-words : goal.invariant-words
invariant-words l =
    with_settings l.fn.scheme (words_in l.keys) ≡ (settings_of (words_in l.rest) >>= λ settings. (l.scheme >>= λ scheme. settled scheme settings))

abbrev pub decreases-words : goal.decreases-words
decreases-words l = size_left l.rest
