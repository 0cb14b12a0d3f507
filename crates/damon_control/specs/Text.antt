-- A script as a text: its lines, what they say, and the limits of what they say.
use Rattle.std.specs.Prelude.{◌≡◌, ◌≢◌, ◌⊎◌, ◌↔◌, ℕ, ◌^◌, ◌<◌, ◌≤◌, List, [], ◌∷◌, ◌++◌, length, map, codes, Ok, All, AllPairs, IfSome, IsSome, MatchOption}
use Rattle.std.specs.Fmt.{decimal}
use Rattle.std.specs.List.{AllZip, flat_map}
use Rattle.std.specs.Option.{option_map_or, unwrap_or}
use Rattle.damon_types.specs.declared.range.RangeSpec.{RangeSpec}
use Rattle.damon_types.specs.declared.scheme.SlotChange.{SlotChange}
use Rattle.damon_types.specs.declared.scheme.Version.{Version}
use Rattle.damon_types.specs.Attrs.{IsAttrs}
use Rattle.damon_types.specs.Scheme.{checked_in}
use Rattle.damon_types.specs.Space.{IsSpace}
use Rattle.live_commit.specs.declared.setup.TheConstants.{MAX_CAP, MAX_UNIT, MIN_CAP}
use Rattle.live_commit.specs.Commit.{CommitValue}
use Rattle.live_commit.specs.Setup.{SetupValue}
use Rattle.target_ranges.specs.Checked.{checked_ranges}
use Rattle.target_ranges.specs.Made.{ranges_of}
use Rattle.damon_control.specs.declared.script.TheConstants.{MAX_WORK}
use Rattle.script_lines.specs.Command.{CommandValue, Commit, work_of}
use Rattle.script_lines.specs.Fits.{FitsChange}
use Rattle.script_lines.specs.Laws.{IsCommand}
use Rattle.script_lines.specs.SchemeLine.{SaysScheme, named}
use Rattle.damon_control.specs.Script.{ScriptValue, script_header, script_of}
use Rattle.script_lines.specs.Spelling.{spelled_attrs, spelled_cost, spelled_range, spelled_target}
use Rattle.damon_control.specs.WriteBack.{FitsCommit, IsSpelledIn, SpellsRanges}
use Rattle.damon_control.specs.Written.{number_lines}

-- a line says what becomes of a slot: the scheme that it gets, or that it is dropped
abbrev pub SaysSlot : List ℕ → SlotChange → Type 0
SaysSlot line c = MatchOption c.scheme (line ≡ codes "drop " ++ decimal c.slot) (SaysScheme line c.slot)

-- lines say a seed and a setup: a line for each number, target, range and scheme, in this order and each within its limits
pub record SaySetup (lines : List (List ℕ)) (seed : ℕ) (setup : SetupValue) : Type 0 where
  pub specs : List RangeSpec
  pub schemes : List (List ℕ)
  pub spelled :
      lines
      ≡ (number_lines seed setup.unit setup.cap setup.attrs ++ (map spelled_target setup.space ++ map spelled_range specs)) ++ schemes
  pub seed_fits : seed < 2 ^ 64
  pub space : IsSpace setup.space
  pub unit_some : 1 ≤ setup.unit
  pub unit_most : setup.unit ≤ MAX_UNIT
  pub cap_some : MIN_CAP ≤ setup.cap
  pub cap_most : setup.cap ≤ MAX_CAP
  pub attrs : IsAttrs setup.attrs
  pub max_cap : setup.attrs.max ≤ setup.cap
  pub ranges : checked_ranges setup.space setup.unit setup.cap specs ≡ Ok tt
  pub some_range : 1 ≤ length specs
  pub few_ranges : length specs ≤ setup.attrs.max
  pub watched : ranges_of setup.space specs ≡ setup.ranges
  pub apart : AllPairs (λ c d. c.slot ≢ d.slot) setup.slots
  pub set : All (λ c. IsSome c.scheme) setup.slots
  pub accepted : All (λ c. IfSome c.scheme (λ s. checked_in setup.version c.slot s ≡ Ok tt)) setup.slots
  pub changes : All FitsChange setup.slots
  pub give : AllZip SaysSlot schemes setup.slots

-- Lines say a commit that a text of the version can spell: attributes, ranges, a slot, a metric and a cost, between `commit` and
-- `apply`.
pub record AreCommit (version : Version) (lines : List (List ℕ)) (c : CommitValue) : Type 0 where
  pub slot : List (List ℕ)
  pub spelled :
      lines
      ≡ codes "commit"
      ∷ (named [] spelled_attrs c.attrs
      ++ (map spelled_range (unwrap_or c.ranges [])
      ++ (slot ++ (named (codes "metric ") decimal c.metric ++ (named [] spelled_cost c.cost ++ codes "apply" ∷ [])))))
  pub says_slot : AllZip SaysSlot slot (option_map_or (λ change. change ∷ []) c.slot [])
  pub fits : FitsCommit c
  pub some_range : SpellsRanges c
  pub in_version : IsSpelledIn version c

-- lines after a setup say a command: one line, or those of a commit
abbrev pub SayCommand : SetupValue → List (List ℕ) → CommandValue → Type 0
SayCommand setup lines command =
    ((line : List ℕ) × (lines ≡ line ∷ []) × IsCommand setup.space line command)
    ⊎ ((commit : CommitValue) × (command ≡ Commit commit) × AreCommit setup.version lines commit)

-- a text says a script: its first line with the version, the lines of its setup, `begin`, those of each command, and `end`; the commands are
-- not too much work
pub record IsText (text : List ℕ) (s : ScriptValue) : Type 0 where
  pub setup : List (List ℕ)
  pub commands : List (List (List ℕ))
  pub spelled : text
      ≡ flat_map (λ line. line ++ 10 ∷ [])
      (script_header s.setup.version ∷ (setup ++ codes "begin" ∷ (flat_map (λ group. group) commands ++ codes "end" ∷ [])))
  pub says_setup : SaySetup setup s.seed s.setup
  pub say_commands : AllZip (SayCommand s.setup) commands s.commands
  pub work : work_of s.setup.cap s.commands ≤ MAX_WORK

-- the lines of groups, one group after another
abbrev pub all_lines : List (List (List ℕ)) → List (List ℕ)
all_lines groups = flat_map (λ group. group) groups

-- a line, or a group of lines, for each value, in order, and each says its value
abbrev pub EachSays : {L A : Type 0} → (L → A → Type 0) → List L → List A → Type 0
EachSays says lines values = AllZip says lines values

-- the texts that are read as a script are those that say it
abbrev pub TextsAreRead : Type 0
TextsAreRead = (text : List ℕ) (s : ScriptValue) → (script_of text ≡ Ok s) ↔ IsText text s
