-- A line that a scheme is read from says that scheme.
use Rattle.std.proofs.Common.{◌≡◌, ◌∷◌, [], ℕ, true, not, List, map, codes, Some, None, Ok, refl, ap, subst, ◌∙◌}
use Rattle.std.specs.Prelude.{Option}
use Rattle.std.specs.Option.{ok_or}
use Rattle.damon_types.specs.declared.scheme.Action.{Action}
use Rattle.damon_types.specs.declared.scheme.Action.TheVariants.{Stat, Willneed, Cold, Pageout, Hugepage, Nohugepage, LruPrio, LruDeprio}
use Rattle.damon_types.specs.declared.scheme.Scheme.{Scheme}
use Rattle.damon_types.specs.declared.scheme.SlotChange.{SlotChange}
use Rattle.damon_types.specs.declared.scheme.Version.{Version}
use Rattle.damon_types.specs.Scheme.{checked_in}
use Rattle.line_text.specs.Parts.{joined}
use Rattle.script_lines.specs.declared.kind.ScriptKind.TheVariants.{Form, Repeated, Scheme as BadScheme}
use Rattle.script_lines.specs.Body.{change_line}
use Rattle.script_lines.specs.Head.{is_changed}
use Rattle.script_lines.specs.Keys.{action_of, are_formed, scheme_in, setting_of, settings_of, with_settings}
use Rattle.script_lines.specs.Laws.{GivesScheme, IsScheme, NamesActions, ReadsOnly, ReadsOnlySchemes}
use Rattle.script_lines.specs.Refusal.{◌>>=◌, only_if, refused_as}
use Rattle.damon_types.specs.Actions.{action_name}
use Rattle.script_lines.specs.Spelling.{spelled_setting}
use Rattle.script_lines.specs.Words.{arguments, number_8}
use Rattle.script_lines.specs.Settings.{default_scheme, settled}
use Rattle.script_lines.proofs.ReadSchemes.{in_order-formed}
use Rattle.script_lines.proofs.SpellFits.{settings_of-fit}
use Rattle.script_lines.proofs.SpellKeys.{setting_of-Ok}
use Rattle.script_lines.proofs.SpellSteps.{bind-Ok, ok_or-Ok, only_if-Ok}
use Rattle.script_lines.proofs.SpellWords.{arguments-Ok, number_8-Ok, number_8-small, same_or_other}

pub action_of-Some : NamesActions
action_of-Some name action e =
    same_or_other name (codes "stat") _ _ _ (named Stat)
    (same_or_other name (codes "willneed") _ _ _ (named Willneed)
    (same_or_other name (codes "cold") _ _ _ (named Cold)
    (same_or_other name (codes "pageout") _ _ _ (named Pageout)
    (same_or_other name (codes "hugepage") _ _ _ (named Hugepage)
    (same_or_other name (codes "nohugepage") _ _ _ (named Nohugepage)
    (same_or_other name (codes "lru_prio") _ _ _ (named LruPrio)
    (same_or_other name (codes "lru_deprio") _ _ _ (named LruDeprio) (λ no. absurd cc)))))))) e
  where
    named : (here : Action) → name ≡ action_name here → ◌≡◌ {A = Option Action} (Some here) (Some action) → name ≡ action_name action
    named here is e = let same : here ≡ action = cc in is ∙ ap action_name same

-- words that are read as settings are the spellings of them
settings_of-Ok : ReadsOnly settings_of (map spelled_setting)
settings_of-Ok [] settings e = let none : [] ≡ settings = cc in ap (map spelled_setting) none
settings_of-Ok (word ∷ words) settings e =
    let first = bind-Ok (setting_of word) _ settings e in
    let others = bind-Ok (settings_of words) _ settings first.2 in
    let is : first.0 ∷ others.0 ≡ settings = cc in
    (λ i. setting_of-Ok word first.0 first.1 i ∷ settings_of-Ok words others.0 others.1 i) ∙ ap (map spelled_setting) is

-- a line whose words are read as a scheme says that scheme
scheme_in-Ok : (version : Version) (line : List ℕ) (words : List (List ℕ)) (said : ℕ × Scheme) → line ≡ joined 32 (codes "scheme" ∷ words) → scheme_in version words ≡ Ok said
    → IsScheme version line said.0 said.1
scheme_in-Ok version line [] said is e = absurd cc
scheme_in-Ok version line (slot ∷ []) said is e = absurd cc
scheme_in-Ok version line (slot ∷ name ∷ keys) said is e =
    let action = bind-Ok (ok_or (action_of name) Form) _ said e in
    let formed = bind-Ok (only_if (are_formed version None keys) Form (tt {0})) _ said action.2 in
    let number = bind-Ok (number_8 slot) _ said formed.2 in
    let scheme = bind-Ok (with_settings (default_scheme action.0) keys) _ said number.2 in
    let same : (number.0, scheme.0) ≡ said = cc in
    let settings = bind-Ok (settings_of keys) (settled (default_scheme action.0)) scheme.0 scheme.1 in
    let are = settings_of-Ok keys settings.0 settings.1 in
    let formed_so = (only_if-Ok (are_formed version None keys) Form (tt {0}) formed.0 formed.1).0 in
    let named = action_of-Some name action.0 (ok_or-Ok (action_of name) Form action.0 action.1) in
    subst (λ (s : ℕ × Scheme). IsScheme version line s.0 s.1) same (record {
      action = action.0;
      settings = settings.0;
      spelled = is ∙ (λ i. joined 32 (codes "scheme" ∷ number_8-Ok slot number.0 number.1 i ∷ named i ∷ are i));
      small = number_8-small slot number.0 number.1;
      fit = settings_of-fit keys settings.0 settings.1;
      in_order = in_order-formed version None settings.0 (subst (λ ks. are_formed version None ks ≡ true) are formed_so);
      made = settings.2;
    })

pub change_line-Ok : (version : Version) (line : List ℕ) (change : SlotChange) → change_line version line ≡ Ok change → GivesScheme version line change
change_line-Ok version line change e =
    let said = bind-Ok (arguments (codes "scheme") line >>= scheme_in version) _ change e in
    let words = bind-Ok (arguments (codes "scheme") line) (scheme_in version) said.0 said.1 in
    let is : record { slot = said.0.0; scheme = Some said.0.1 } ≡ change = cc in
    let line_is = arguments-Ok (codes "scheme") line words.0 words.1 in
    subst (GivesScheme version line) is (said.0.1, refl, scheme_in-Ok version line words.0 said.0 line_is words.2)

pub scheme_line-Ok : ReadsOnlySchemes
scheme_line-Ok version before line change e =
    let words = bind-Ok (arguments (codes "scheme") line) _ change e in
    let said = bind-Ok (scheme_in version words.0) _ change words.2 in
    let sound = bind-Ok (refused_as BadScheme (checked_in version said.0.0 said.0.1)) _ change said.2 in
    let is = (only_if-Ok (not (is_changed said.0.0 before)) Repeated (record { slot = said.0.0; scheme = Some said.0.1 }) change sound.2).1 in
    let line_is = arguments-Ok (codes "scheme") line words.0 words.1 in
    subst (GivesScheme version line) is (said.0.1, refl, scheme_in-Ok version line words.0 said.0 line_is said.1)
