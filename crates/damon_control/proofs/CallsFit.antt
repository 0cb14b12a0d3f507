-- What a live text says can be spelled: its setup, and each of its calls.
use Rattle.std.proofs.Common.{◌≡◌, ◌∷◌, [], ℕ, List, Ok}
use Rattle.std.specs.List.{AllByRecursion}
use Rattle.damon_types.specs.declared.scheme.Version.{Version}
use Rattle.live_commit.specs.Setup.{SetupValue}
use Rattle.damon_control.specs.Live.{CallValue, CommitCall, LiveValue, ShowCall}
use Rattle.damon_control.specs.LiveText.{SayCall, SayController}
use Rattle.damon_control.specs.Script.{HeadValue, head_of, live_of}
use Rattle.damon_control.specs.Spellable.{FitsCall, IsLiveSpellable}
use Rattle.damon_control.specs.Text.{EachSays, SaySetup}
use Rattle.damon_control.specs.WriteBack.{IsWritable}
use Rattle.damon_control.proofs.Says.{head_of-SaysHead, live_of-IsLiveText}
use Rattle.damon_control.proofs.SetupLimits.{SaySetup-InOrder, SaySetup-IsSetup}

-- ---- the calls

call_fits : (version : Version) (lines : List (List ℕ)) (call : CallValue) → SayCall version lines call → FitsCall version call
call_fits version lines ShowCall says = tt
call_fits version lines (CommitCall commit) says = (says.fits, says.some_range, says.in_version)

calls_fit : (version : Version) (groups : List (List (List ℕ))) (calls : List CallValue) → EachSays (SayCall version) groups calls → AllByRecursion (FitsCall version) calls
calls_fit version [] [] each = tt
calls_fit version (group ∷ groups) (call ∷ calls) each = (call_fits version group call each.0, calls_fit version groups calls each.1)
calls_fit version [] (call ∷ calls) each = absurd each
calls_fit version (group ∷ groups) [] each = absurd each

controllers_fit : (version : Version) (groups : List (List (List ℕ))) (controllers : List (List CallValue)) → EachSays (SayController version) groups controllers
    → AllByRecursion (λ calls. AllByRecursion (FitsCall version) calls) controllers
controllers_fit version [] [] each = tt
controllers_fit version (group ∷ groups) (calls ∷ controllers) each = (calls_fit version each.0.groups calls each.0.each, controllers_fit version groups controllers each.1)
controllers_fit version [] (calls ∷ controllers) each = absurd each
controllers_fit version (group ∷ groups) [] each = absurd each

-- ---- the setup

-- lines say a seed and a setup within their types
setup_writable : (lines : List (List ℕ)) (seed : ℕ) (setup : SetupValue) → SaySetup lines seed setup → IsWritable seed setup
setup_writable lines seed setup says = record {
  seed_fits = says.seed_fits;
  space = says.space;
  setup = SaySetup-IsSetup lines seed setup says;
  order = SaySetup-InOrder lines seed setup says;
  changes = says.changes;
}

-- what is read as a head can be written
pub heads_writable : (text : List ℕ) (h : HeadValue) → head_of text ≡ Ok h → IsWritable h.seed h.setup
heads_writable text h e = let says = head_of-SaysHead text h e in setup_writable says.setup h.seed h.setup says.says_setup

-- each text that is read as a live script gives one that a text can spell
pub live_scripts_spellable : (text : List ℕ) (v : LiveValue) → live_of text ≡ Ok v → IsLiveSpellable v
live_scripts_spellable text v read =
    let says = live_of-IsLiveText text v read in
    record {
      setup = setup_writable says.setup v.seed v.setup says.says_setup;
      calls = controllers_fit v.setup.version says.controllers v.controllers says.say_controllers;
    }
