-- What each line says, and that a line that is read says what was read.
use Rattle.std.specs.Prelude.{◌≡◌, ◌⊎◌, ℕ, ◌+◌, ◌-◌, ◌^◌, ◌<◌, ◌≤◌, Bool, true, List, [], ◌∷◌, ◌++◌, codes, Some, None, option_map, Result, Ok}
use Rattle.std.specs.Fmt.{decimal}
use Rattle.std.specs.List.{AllByRecursion}
use Rattle.damon_types.specs.declared.scheme.Action.{Action}
use Rattle.damon_types.specs.declared.scheme.Scheme.{Scheme}
use Rattle.damon_types.specs.declared.scheme.SlotChange.{SlotChange}
use Rattle.damon_types.specs.declared.scheme.Version.{Version}
use Rattle.damon_types.specs.declared.space.TheConstants.{PAGE_SIZE}
use Rattle.damon_types.specs.declared.space.Target.{Target}
use Rattle.damon_types.specs.Space.{page_of}
use Rattle.line_text.specs.Address.{spelled_address}
use Rattle.live_commit.specs.Commit.{CommitValue}
use Rattle.script_lines.specs.declared.part.Part.{Part}
use Rattle.script_lines.specs.declared.part.Part.TheVariants.{Attrs, Range, Slot, Metric, Cost}
use Rattle.script_lines.specs.declared.kind.ScriptKind.{ScriptKind}
use Rattle.script_lines.specs.declared.keys.Setting.{Setting}
use Rattle.script_lines.specs.Body.{are_swept, command_line, part_line, sweep_line, touch_line, wants_attrs, wants_cost, wants_metric, wants_slot}
use Rattle.script_lines.specs.Command.{CommandValue, Touch, Sweep, Step, Arm, Finish, Show, Commit}
use Rattle.script_lines.specs.Head.{scheme_line}
use Rattle.script_lines.specs.Fits.{FitsAttrs, FitsCost, FitsRange, FitsSetting}
use Rattle.script_lines.specs.Keys.{action_of}
use Rattle.script_lines.specs.Settings.{AreAfter, default_scheme, settled}
use Rattle.script_lines.specs.Words.{alone}
use Rattle.damon_types.specs.Actions.{action_name}
use Rattle.script_lines.specs.Spelling.{spaced, spelled_attrs, spelled_cost, spelled_range, spelled_scheme}

-- text that a value is read from is the spelling of that value
abbrev pub ReadsOnly : {T A : Type 0} → (T → Result A ScriptKind) → (A → T) → Type 0
ReadsOnly {T} {A} read spelled = (text : T) (x : A) → read text ≡ Ok x → text ≡ spelled x

-- a word that names an action is the name of it
abbrev pub NamesActions : Type 0
NamesActions =
    (name : List ℕ) (action : Action) → action_of name ≡ Some action → name ≡ action_name action

-- a line of a version spells a slot, an action and settings in order, which turn the action's default into this scheme
pub record IsScheme (version : Version) (line : List ℕ) (slot : ℕ) (scheme : Scheme) : Type 0 where
  pub action : Action
  pub settings : List Setting
  pub spelled : line ≡ spelled_scheme slot action settings
  pub small : slot < 2 ^ 8
  pub fit : AllByRecursion FitsSetting settings
  pub in_order : AreAfter version None settings
  pub made : settled (default_scheme action) settings ≡ Ok scheme

-- a line gives a slot its scheme
abbrev pub GivesScheme : Version → List ℕ → SlotChange → Type 0
GivesScheme version line change =
    (scheme : Scheme) × (change.scheme ≡ Some scheme) × IsScheme version line change.slot scheme

-- a line empties a slot
abbrev pub EmptiesSlot : List ℕ → SlotChange → Type 0
EmptiesSlot line change =
    (change.scheme ≡ None) × (line ≡ codes "drop " ++ decimal change.slot) × (change.slot < 2 ^ 8)

-- a line of a version says a part of a commit
abbrev pub IsPart : Version → List ℕ → Part → Type 0
IsPart version line (Attrs attrs) = (line ≡ spelled_attrs attrs) × FitsAttrs attrs
IsPart version line (Range range) = (line ≡ spelled_range range) × FitsRange range
IsPart version line (Slot change) = GivesScheme version line change ⊎ EmptiesSlot line change
IsPart version line (Metric value) = (line ≡ codes "metric " ++ decimal value) × (value < 2 ^ 32)
IsPart version line (Cost cost) = (line ≡ spelled_cost cost) × FitsCost cost

-- whether a part may come next: attributes, ranges, a slot change, a metric, and in version Two a cost; only ranges repeat
abbrev pub may_come : Version → CommitValue → Part → Bool
may_come version before (Attrs attrs) = wants_attrs before
may_come version before (Range range) = wants_slot before
may_come version before (Slot change) = wants_slot before
may_come version before (Metric value) = wants_metric before
may_come version before (Cost cost) = wants_cost version before

-- a line touches the page that holds this byte of a target
pub record IsTouch (space : List Target) (line : List ℕ) (page : ℕ) : Type 0 where
  pub target : ℕ
  pub addr : ℕ
  pub spelled : line ≡ spaced (codes "touch" ∷ decimal target ∷ spelled_address addr ∷ [])
  pub target_fits : target < 2 ^ 32
  pub addr_fits : addr < 2 ^ 64
  pub holds : page_of space target addr ≡ Some page

-- a line sweeps the pages of a target between two addresses, from `first` to before `end`
pub record IsSweep (space : List Target) (line : List ℕ) (first end : ℕ) : Type 0 where
  pub target : ℕ
  pub from : ℕ
  pub to : ℕ
  pub spelled : line ≡ spaced (codes "sweep" ∷ decimal target ∷ spelled_address from ∷ spelled_address to ∷ [])
  pub target_fits : target < 2 ^ 32
  pub from_fits : from < 2 ^ 64
  pub to_fits : to < 2 ^ 64
  pub whole : are_swept from to ≡ true
  pub begins : page_of space target from ≡ Some first
  pub ends : option_map (λ last. last + 1) (page_of space target (to - PAGE_SIZE)) ≡ Some end

-- a line says a command; a commit has lines of its own
abbrev pub IsCommand : List Target → List ℕ → CommandValue → Type 0
IsCommand space line (Touch page) = IsTouch space line page
IsCommand space line (Sweep first end) = IsSweep space line first end
IsCommand space line (Step times) = (line ≡ codes "step " ++ decimal times) × (1 ≤ times) × (times ≤ 1000000)
IsCommand space line Arm = line ≡ codes "arm"
IsCommand space line Finish = line ≡ codes "finish"
IsCommand space line Show = line ≡ codes "show"
IsCommand space line (Commit commit) = ⊥

-- a line that is read as one word is that word
abbrev pub ReadsOnlyWords : Type 0
ReadsOnlyWords = (word line : List ℕ) → alone word line ≡ Ok tt → line ≡ word

-- a line that a touch is read from touches a page
abbrev pub ReadsOnlyTouches : Type 0
ReadsOnlyTouches =
    (space : List Target) (line : List ℕ) (command : CommandValue) → touch_line space line ≡ Ok command
    → (page : ℕ) × (Touch page ≡ command) × IsTouch space line page

-- a line that a sweep is read from sweeps pages
abbrev pub ReadsOnlySweeps : Type 0
ReadsOnlySweeps =
    (space : List Target) (line : List ℕ) (command : CommandValue) → sweep_line space line ≡ Ok command
    → (first : ℕ) × (end : ℕ) × (Sweep first end ≡ command) × IsSweep space line first end

-- a line that a command is read from says that command
abbrev pub ReadsOnlyCommands : Type 0
ReadsOnlyCommands =
    (space : List Target) (line : List ℕ) (command : CommandValue)
    → command_line space line ≡ Ok command → IsCommand space line command

-- a line that a part of a commit is read from says that part, and it may come there
abbrev pub ReadsOnlyParts : Type 0
ReadsOnlyParts =
    (version : Version) (before : CommitValue) (line : List ℕ) (part : Part)
    → part_line version before line ≡ Ok part → (may_come version before part ≡ true) × IsPart version line part

-- a line of a setup that a slot change is read from gives the slot its scheme
abbrev pub ReadsOnlySchemes : Type 0
ReadsOnlySchemes =
    (version : Version) (before : List SlotChange) (line : List ℕ) (change : SlotChange)
    → scheme_line version before line ≡ Ok change → GivesScheme version line change
