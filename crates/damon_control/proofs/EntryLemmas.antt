-- What entries say while the list of commits grows.
use Rattle.std.proofs.Common.{◌≡◌, List, ℕ, [], ◌∷◌, ◌++◌, All, refl, ap, ◌∙◌}
use Rattle.std.specs.List.{AllByRecursion}
use Rattle.std.specs.Global.{Box}
use Rattle.std.proofs.lemmas.List.{map-append}
use Rattle.std.proofs.lemmas.List.Elements.{recursion_from_All}
use Rattle.live_commit.specs.declared.commit.Commit.{Commit}
use Rattle.script_lines.specs.declared.command.Command.{Command}
use Rattle.script_lines.specs.Command.{CommandValue}
use Rattle.damon_control.specs.Commands.{NamesCommit, StaysSame, entry_value, entry_values}

stay_same : (old new : List (Box Commit)) (es : List (Command ℕ)) → AllByRecursion (NamesCommit old) es → StaysSame old new → entry_values new es ≡ entry_values old es
stay_same old new [] names same = refl
stay_same old new (e ∷ es) names same =
    ap (λ v. v ∷ entry_values new es) (same e names.0).1
    ∙ ap (λ vs. entry_value old e ∷ vs) (stay_same old new es names.1 same)

-- one entry more says one command more
pub one_entry_more : (old new : List (Box Commit)) (es ds : List (Command ℕ)) (e : Command ℕ) (v : CommandValue) → All (NamesCommit old) es → StaysSame old new → ds ≡ es ++ e ∷ [] → entry_value new e ≡ v
    → entry_values new ds ≡ entry_values old es ++ v ∷ []
one_entry_more old new es ds e v names same more said =
    ap (entry_values new) more
    ∙ map-append (entry_value new) es (e ∷ [])
    ∙ ap (λ vs. vs ++ entry_value new e ∷ []) (stay_same old new es (recursion_from_All (NamesCommit old) es names) same)
    ∙ ap (λ w. entry_values old es ++ w ∷ []) said
