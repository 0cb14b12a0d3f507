-- What a live text says keeps the limits of a live script, and a text can spell it.
use Rattle.std.proofs.Common.{◌≡◌, ◌∷◌, [], ℕ, List, Ok}
use Rattle.std.specs.List.{AllByRecursion}
use Rattle.damon_types.specs.declared.scheme.Version.{Version}
use Rattle.damon_control.specs.Live.{CallValue, CommitCall, LiveValue, ShowCall}
use Rattle.damon_control.specs.LiveText.{SayCall, SayController}
use Rattle.damon_control.specs.Script.{live_of}
use Rattle.damon_control.specs.Sound.{IsLiveSound, IsSpelledCall}
use Rattle.damon_control.specs.Text.{EachSays}
use Rattle.damon_control.proofs.Says.{live_of-IsLiveText}
use Rattle.damon_control.proofs.SetupLimits.{SaySetup-InOrder, SaySetup-IsSetup}

call_spelled : (version : Version) (lines : List (List ℕ)) (call : CallValue) → SayCall version lines call → IsSpelledCall call
call_spelled version lines ShowCall says = tt
call_spelled version lines (CommitCall commit) says = says.some_range

calls_spelled : (version : Version) (groups : List (List (List ℕ))) (calls : List CallValue) → EachSays (SayCall version) groups calls → AllByRecursion IsSpelledCall calls
calls_spelled version [] [] each = tt
calls_spelled version (group ∷ groups) (call ∷ calls) each = (call_spelled version group call each.0, calls_spelled version groups calls each.1)
calls_spelled version [] (call ∷ calls) each = absurd each
calls_spelled version (group ∷ groups) [] each = absurd each

controllers_spelled : (version : Version) (groups : List (List (List ℕ))) (controllers : List (List CallValue)) → EachSays (SayController version) groups controllers
    → AllByRecursion (λ calls. AllByRecursion IsSpelledCall calls) controllers
controllers_spelled version [] [] each = tt
controllers_spelled version (group ∷ groups) (calls ∷ controllers) each =
    (calls_spelled version each.0.groups calls each.0.each, controllers_spelled version groups controllers each.1)
controllers_spelled version [] (calls ∷ controllers) each = absurd each
controllers_spelled version (group ∷ groups) [] each = absurd each

-- each text that is read as a live script gives one within its limits
pub live_scripts_sound : (text : List ℕ) (v : LiveValue) → live_of text ≡ Ok v → IsLiveSound v
live_scripts_sound text v read =
    let says = live_of-IsLiveText text v read in
    record {
      space = says.says_setup.space;
      setup = SaySetup-IsSetup says.setup v.seed v.setup says.says_setup;
      order = SaySetup-InOrder says.setup v.seed v.setup says.says_setup;
      limits = says.limits;
      spelled = controllers_spelled v.setup.version says.controllers v.controllers says.say_controllers;
    }
