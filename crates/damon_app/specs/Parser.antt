-- The command that clap parses the words by. No public clause cites this file.
use Rattle.std.specs.Prelude.{ℕ, Bool, ◌==◌, List, [], ◌∷◌, Option, Some, None, codes, true, false, option_map, option_and_then, string_bytes, String}
use Rattle.std.specs.List.{list_any}
use Rattle.std.specs.declared.alloc.Global.{Global}
use Rattle.clap.specs.Simple.{App, Shape, new_app, new_rule, with_rule, with_subcommand}
use Rattle.clap.specs.Walk.{Row, Rule, all_of, first_of}
use Rattle.clap.specs.declared.builder.action.ArgAction.TheVariants.{Set}
use Rattle.quota_goal.specs.declared.goals.TheConstants.{MAX_GOALS}
use Rattle.damon_app.specs.declared.request.Request.{Request}
use Rattle.damon_app.specs.Request.{asked_alone, asked_to_tune, asked_with}

-- the argument of `gen` and of `heat`
abbrev pub number_rule : Rule
number_rule = record (new_rule (codes "number")) { required = true; action = Some Set }

-- the argument of `tune`: from 1 to 16 words
abbrev pub goals_rule : Rule
goals_rule = record (new_rule (codes "goals")) {
  required = true;
  action = Some Set;
  range = Some (record { start_inclusive = 1; end_inclusive = MAX_GOALS });
}

-- `gen` with its argument
abbrev pub generate_shape : Shape
generate_shape = (with_rule (new_app (codes "gen")) number_rule).top

-- `heat` with its argument
abbrev pub heat_shape : Shape
heat_shape = (with_rule (new_app (codes "heat")) number_rule).top

-- `tune` with its argument
abbrev pub tune_shape : Shape
tune_shape = (with_rule (new_app (codes "tune")) goals_rule).top

-- the command without its subcommands
abbrev pub top_app : App
top_app = record (new_app (codes "damon")) { top = record (new_app (codes "damon")).top { no_binary_name = true; disable_help_flag = true; disable_help_subcommand = true; subcommand_required = true } }

-- an app with these subcommands, the first one first
abbrev pub with_subcommands : App → List Shape → App
with_subcommands app [] = app
with_subcommands app (s ∷ shapes) = with_subcommands (with_subcommand app s) shapes

-- the command
abbrev pub damon_app : App
damon_app = with_subcommands top_app
    ((new_app (codes "replay")).top ∷ (new_app (codes "json")).top ∷ (new_app (codes "verify")).top ∷ generate_shape ∷ heat_shape
    ∷ tune_shape ∷ (new_app (codes "admin")).top ∷ (new_app (codes "reclaim")).top ∷ [])

-- whether a word begins with a hyphen
abbrev pub begins_with_hyphen : List ℕ → Bool
begins_with_hyphen [] = false
begins_with_hyphen (c ∷ cs) = c == 45

-- whether one of the words does
abbrev pub has_option : List (String Global) → Bool
has_option words = list_any (λ word. begins_with_hyphen (string_bytes word)) words

-- a subcommand that was found: its name, and the values of its arguments
pub record Found : Type 0 where
  pub name : List ℕ
  pub number : Option (List ℕ)
  pub goals : Option (List (List ℕ))

-- the subcommand of a parse
abbrev pub words_found : Option (List ℕ × List Row) → Option Found
words_found found =
    option_map (λ p. record { name = p.0; number = first_of (codes "number") p.1; goals = all_of (codes "goals") p.1 }) found

-- what a subcommand without goals asks for, with a number or without
abbrev pub by_number : List ℕ → Option (List ℕ) → Option Request
by_number name None = asked_alone name
by_number name (Some digits) = asked_with name digits

-- what a subcommand asks for, with goals or without
abbrev pub by_goals : List ℕ → Option (List (List ℕ)) → Option (List ℕ) → Option Request
by_goals name None digits = by_number name digits
by_goals name (Some words) digits = asked_to_tune words

-- what a subcommand asks for, if one was found
abbrev pub request_found : Option Found → Option Request
request_found found = option_and_then (λ f. by_goals f.name f.goals f.number) found
