-- KeysText: internal to the proofs, the text of settings in a line.
use Rattle.std.specs.Prelude.{ℕ, List, ◌++◌, codes}
use Rattle.std.specs.List.{flat_map}
use Rattle.script_lines.specs.declared.keys.Setting.{Setting}
use Rattle.script_lines.specs.Spelling.{spelled_setting}

-- settings with a space before each
abbrev pub keys_text : List Setting → List ℕ
keys_text settings = flat_map (λ s. codes " " ++ spelled_setting s) settings
