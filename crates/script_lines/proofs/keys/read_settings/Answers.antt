use Rattle.std.proofs.Common.{◌≡◌, ◌∷◌, ◌∙◌, Ok, sym, ap, arith}
use Rattle.std.proofs.lemmas.Grind.{common_steps}
use Rattle.script_lines.specs.Keys.{setting_of}
use Rattle.script_lines.specs.Refusal.{◌>>=◌}
use Rattle.script_lines.specs.Words.{words_in}
use Rattle.script_lines.specs.Settings.{with_setting}
use Rattle.script_lines.proofs.SettingLemmas.{settled_by, settled_by_word}
use Rattle.script_lines.proofs.WordLemmas.{size_left_less}
use Rattle.script_lines.proofs.keys.read_settings.Goals as goal

pub words-smaller : goal.words-smaller
words-smaller c = size_left_less c.words.rest c.split_front.result.1 c.in-Some.text c.in-Some.is c.split_front.ensures.shorter

pub words-preserved : goal.words-preserved
words-preserved c =
    let next : c.and_then-scheme.result ≡ (c.words.scheme >>= λ s. with_setting s c.in_ok-setting.setting) = grind (arith, common_steps) in
    let said : words_in c.words.rest ≡ c.split_front.result.0.now ∷ words_in c.split_front.result.1 = grind (arith, common_steps) in
    let set : setting_of c.split_front.result.0.now ≡ Ok c.in_ok-setting.setting = grind (arith, common_steps) in
    c.words.invariant ∙ ap (settled_by c.words.scheme) said
    ∙ settled_by_word c.words.scheme c.split_front.result.0.now (words_in c.split_front.result.1) c.in_ok-setting.setting set
    ∙ ap (λ scheme. settled_by scheme (words_in c.split_front.result.1)) (sym next)
