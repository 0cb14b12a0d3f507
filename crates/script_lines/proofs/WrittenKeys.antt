-- What appending keys one after another makes.
use Rattle.std.proofs.Common.{◌≡◌, ℕ, List, [], ◌∷◌, ◌++◌, map, sym, ap, ◌∙◌, append_assoc}
use Rattle.std.proofs.lemmas.Grind.{flat_map-append}
use Rattle.std.proofs.lemmas.List.{append-nil}
use Rattle.std.specs.Prelude.{codes}
use Rattle.std.specs.Fmt.{decimal}
use Rattle.damon_types.specs.declared.scheme.Action.{Action}
use Rattle.script_lines.specs.declared.keys.Setting.{Setting}
use Rattle.script_lines.specs.KeysText.{keys_text}
use Rattle.damon_types.specs.Actions.{action_name}
use Rattle.script_lines.specs.Spelling.{spaced, spelled_scheme, spelled_setting}

-- the keys of settings and others are the keys of both
pub keys_text-append : (front back : List Setting) → keys_text (front ++ back) ≡ keys_text front ++ keys_text back
keys_text-append front back = flat_map-append (λ s. codes " " ++ spelled_setting s) front back

-- a word and settings, with a space between each two
pub spaced-keys : (word : List ℕ) (settings : List Setting) → spaced (word ∷ map spelled_setting settings) ≡ word ++ keys_text settings
spaced-keys word [] = sym (append-nil word)
spaced-keys word (s ∷ settings) = ap (λ t. word ++ 32 ∷ t) (spaced-keys (spelled_setting s) settings)

-- the line of a scheme, word by word
pub scheme_spelled : (slot : ℕ) (action : Action) (settings : List Setting)
    → spelled_scheme slot action settings ≡ codes "scheme " ++ (decimal slot ++ (codes " " ++ (action_name action ++ keys_text settings)))
scheme_spelled slot action settings =
    ap (λ t. codes "scheme " ++ (decimal slot ++ (codes " " ++ t))) (spaced-keys (action_name action) settings)

-- keys were appended after others
pub keys_added : (text before : List ℕ) (a b : List Setting) → text ≡ before ++ keys_text a → text ++ keys_text b ≡ before ++ keys_text (a ++ b)
keys_added text before a b is =
    ap (λ t. t ++ keys_text b) is
    ∙ append_assoc before (keys_text a) (keys_text b)
    ∙ ap (λ t. before ++ t) (sym (keys_text-append a b))
