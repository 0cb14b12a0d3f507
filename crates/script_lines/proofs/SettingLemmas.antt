-- The settings of words are set one after another.
use Rattle.std.proofs.Common.{◌≡◌, ◌∷◌, ℕ, List, Ok, Err, refl}
use Rattle.std.specs.Prelude.{Result}
use Rattle.damon_types.specs.declared.scheme.Scheme.{Scheme}
use Rattle.script_lines.specs.declared.kind.ScriptKind.{ScriptKind}
use Rattle.script_lines.specs.declared.keys.Setting.{Setting}
use Rattle.script_lines.specs.Keys.{setting_of, settings_of}
use Rattle.script_lines.specs.Refusal.{◌>>=◌}
use Rattle.script_lines.specs.Settings.{settled, with_setting}

-- the scheme so far with the settings of the words that are left
abbrev pub settled_by : Result Scheme ScriptKind → List (List ℕ) → Result Scheme ScriptKind
settled_by so_far words = settings_of words >>= λ settings. (so_far >>= λ scheme. settled scheme settings)

-- the first word's setting may be set before the others are read
pub settled_by_word : (so_far : Result Scheme ScriptKind) (word : List ℕ) (words : List (List ℕ)) (setting : Setting) → setting_of word ≡ Ok setting
    → settled_by so_far (word ∷ words) ≡ settled_by (so_far >>= λ scheme. with_setting scheme setting) words
settled_by_word so_far word words setting is = rw is (by (settings_of words) so_far)
  where
    by : (rest : Result (List Setting) ScriptKind) (so_far : Result Scheme ScriptKind)
        → ((rest >>= λ settings. Ok (setting ∷ settings)) >>= λ settings. (so_far >>= λ scheme. settled scheme settings))
        ≡ (rest >>= λ settings. ((so_far >>= λ scheme. with_setting scheme setting) >>= λ scheme. settled scheme settings))
    by (Err kind) so_far = refl
    by (Ok settings) (Err kind) = refl
    by (Ok settings) (Ok scheme) = refl
