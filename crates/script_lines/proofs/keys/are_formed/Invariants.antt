use Rattle.std.proofs.Common.{◌≡◌, None, option_map}
use Rattle.script_lines.specs.Words.{words_in}
use Rattle.script_lines.specs.Keys.{are_formed}
use Rattle.script_lines.specs.Settings.{key_place}
use Rattle.script_lines.proofs.WordLemmas.{size_left}
use Rattle.script_lines.proofs.keys.are_formed.Given as goal

abbrev pub invariant-words : goal.invariant-words
invariant-words l = are_formed l.version None (words_in l.keys) ≡ are_formed l.version (option_map key_place l.last) (words_in l.rest)

abbrev pub decreases-words : goal.decreases-words
decreases-words l = size_left l.rest
