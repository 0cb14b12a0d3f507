-- What lines say that lead from the header of a text to a place.
use Rattle.std.proofs.Common.{◌≡◌, ◌∷◌, [], ◌&&◌, ◌+◌, ◌^◌, ◌<◌, ◌≤◌, ℕ, Bool, true, false, List, ◌++◌, length, map, codes, Ok, refl, sym, ap, subst, ◌∙◌, append_assoc, arith, decimal}
use Rattle.std.proofs.lemmas.List.{append-nil}
use Rattle.std.proofs.lemmas.List.Sums.{sum_by-cons}
use Rattle.std.specs.Prelude.{Result, if◌then◌else◌}
use Rattle.std.specs.List.{fold}
use Rattle.damon_types.specs.declared.range.RangeSpec.{RangeSpec}
use Rattle.damon_types.specs.declared.scheme.Version.{Version}
use Rattle.damon_types.specs.declared.space.Target.{Target}
use Rattle.damon_types.specs.Space.{checked}
use Rattle.live_commit.specs.Checked.{checked_cap, checked_limits, checked_unit}
use Rattle.live_commit.specs.Commit.{CommitValue}
use Rattle.live_commit.specs.Setup.{SetupValue}
use Rattle.target_ranges.specs.Checked.{checked_ranges}
use Rattle.script_lines.specs.declared.part.Part.{Part}
use Rattle.script_lines.specs.declared.kind.ScriptKind.{ScriptKind}
use Rattle.damon_control.specs.declared.grammar.Grammar.{Grammar}
use Rattle.damon_control.specs.declared.grammar.Grammar.TheVariants.{OfScript, OfLive, OfJournal}
use Rattle.script_lines.specs.declared.setup.Frame.{Frame}
use Rattle.damon_control.specs.declared.script.TheConstants.{MAX_WORK}
use Rattle.script_lines.specs.Body.{no_commit, with_part}
use Rattle.script_lines.specs.Command.{CommandValue, weight, work_of}
use Rattle.script_lines.specs.Head.{setup_said}
use Rattle.script_lines.specs.Laws.{IsPart, may_come}
use Rattle.damon_control.specs.Live.{LiveValue}
use Rattle.damon_control.specs.LiveText.{IsLiveText, KeepsLimits, SayController, SayWorker}
use Rattle.script_lines.specs.Refusal.{◌>>=◌}
use Rattle.damon_control.specs.Script.{AtAttrs, AtCap, AtEnd, AtHeader, AtRanges, AtSchemes, AtSeed, AtTargets, AtUnit, Body, HeadValue, InBody, InCommit, Place, Said, Within, header_of, version_in}
use Rattle.script_lines.specs.Spelling.{spelled_attrs, spelled_range, spelled_target}
use Rattle.damon_control.specs.Text.{EachSays, IsText, SayCommand, SaySetup, all_lines}
use Rattle.script_lines.specs.Lines.{lines_text}
use Rattle.damon_control.specs.WriteBack.{MayCommit}
use Rattle.damon_control.proofs.OneSpelling.{IsSpelledFor}
use Rattle.damon_control.proofs.Steps.{bind-Ok}
use Rattle.damon_control.specs.CommitLines.{come_in_order}

-- the first line, those of a frame, and others after them
abbrev pub frame_lines : Grammar → Frame → List (List ℕ) → List (List ℕ)
frame_lines g f lines =
    header_of g f.version ∷ (codes "seed " ++ decimal f.seed) ∷ (codes "unit " ++ decimal f.unit) ∷ (codes "cap " ++ decimal f.cap) ∷ spelled_attrs f.attrs ∷ lines

-- a frame within its limits
pub record IsFrame (f : Frame) : Type 0 where
  pub seed_fits : f.seed < 2 ^ 64
  pub limits : checked_limits f.unit f.cap f.attrs ≡ Ok tt

-- lines of a frame and of targets
pub record SayTargets (g : Grammar) (lines : List (List ℕ)) (f : Frame) (targets : List Target) : Type 0 where
  pub spelled : lines ≡ frame_lines g f (map spelled_target targets)
  pub frame : IsFrame f
  pub sound : 1 ≤ length targets → checked targets ≡ Ok tt

-- and of ranges
pub record SayRanges (g : Grammar) (lines : List (List ℕ)) (f : Frame) (targets : List Target) (specs : List RangeSpec) : Type 0 where
  pub spelled : lines ≡ frame_lines g f (map spelled_target targets ++ map spelled_range specs)
  pub frame : IsFrame f
  pub targets_sound : checked targets ≡ Ok tt
  pub sound : checked_ranges targets f.unit f.cap specs ≡ Ok tt
  pub few : length specs ≤ f.attrs.max

-- and of schemes: the first line, and those of a setup, its schemes in the spelling that the grammar wants
pub record SaySchemes (g : Grammar) (lines : List (List ℕ)) (seed : ℕ) (setup : SetupValue) : Type 0 where
  pub others : List (List ℕ)
  pub spelled : lines ≡ header_of g setup.version ∷ others
  pub says : SaySetup others seed setup
  pub in_spelling : EachSays (IsSpelledFor g) says.schemes setup.slots

-- lines of a script up to a line of its body
pub record SayBody (lines : List (List ℕ)) (b : Body) : Type 0 where
  pub setup : List (List ℕ)
  pub commands : List (List (List ℕ))
  pub spelled : lines ≡ header_of OfScript b.said.setup.version ∷ (setup ++ codes "begin" ∷ all_lines commands)
  pub says_setup : SaySetup setup b.said.seed b.said.setup
  pub say_commands : EachSays (SayCommand b.said.setup) commands b.said.commands
  pub sum : b.work ≡ work_of b.said.setup.cap b.said.commands
  pub work : b.work ≤ MAX_WORK

-- lines of a live script up to a line of its blocks
pub record SayBlocks (lines : List (List ℕ)) (v : LiveValue) : Type 0 where
  pub setup : List (List ℕ)
  pub workers : List (List (List ℕ))
  pub controllers : List (List (List ℕ))
  pub spelled : lines ≡ header_of OfLive v.setup.version ∷ (setup ++ (codes "passes " ++ decimal v.passes) ∷ (all_lines workers ++ all_lines controllers))
  pub says_setup : SaySetup setup v.seed v.setup
  pub say_workers : EachSays (SayWorker v.setup.space) workers v.workers
  pub say_controllers : EachSays (SayController v.setup.version) controllers v.controllers
  pub limits : KeepsLimits v

-- lines up to a line of the body
abbrev pub SayWithin : (g : Grammar) → List (List ℕ) → Within g → Type 0
SayWithin OfScript lines b = SayBody lines b
SayWithin OfLive lines v = SayBlocks lines v
SayWithin OfJournal lines none = ⊥

-- and of a commit that is not at its end
pub record SayCommit (g : Grammar) (lines : List (List ℕ)) (b : Within g) (commit : CommitValue) : Type 0 where
  pub front : List (List ℕ)
  pub between : List (List ℕ)
  pub parts : List Part
  pub spelled : lines ≡ front ++ codes "commit" ∷ between
  pub body : SayWithin g front b
  pub begins : MayCommit g b
  pub each : EachSays (IsPart (version_in g b)) between parts
  pub in_order : come_in_order (version_in g b) no_commit parts ≡ true
  pub made : fold with_part no_commit parts ≡ commit

-- a text says the head of a journal: its first line with the version, the lines of its setup, the schemes in their one spelling, and `begin`
pub record SaysHead (text : List ℕ) (h : HeadValue) : Type 0 where
  pub setup : List (List ℕ)
  pub spelled : text ≡ lines_text (header_of OfJournal h.setup.version ∷ (setup ++ codes "begin" ∷ []))
  pub says_setup : SaySetup setup h.seed h.setup
  pub in_spelling : EachSays (IsSpelledFor OfJournal) says_setup.schemes h.setup.slots

-- a text says what was read
abbrev pub IsTextOf : (g : Grammar) → List ℕ → Said g → Type 0
IsTextOf OfScript text s = IsText text s
IsTextOf OfLive text v = IsLiveText text v
IsTextOf OfJournal text h = SaysHead text h

-- lines that lead to a place say this
abbrev pub Says : (g : Grammar) → List (List ℕ) → Place g → Type 0
Says g lines AtHeader = lines ≡ []
Says g lines (AtSeed version) = lines ≡ header_of g version ∷ []
Says g lines (AtUnit version seed) = (lines ≡ header_of g version ∷ (codes "seed " ++ decimal seed) ∷ []) × (seed < 2 ^ 64)
Says g lines (AtCap version seed unit) =
    (lines ≡ header_of g version ∷ (codes "seed " ++ decimal seed) ∷ (codes "unit " ++ decimal unit) ∷ []) × (seed < 2 ^ 64) × (checked_unit unit ≡ Ok tt)
Says g lines (AtAttrs version seed unit cap) =
    (lines ≡ header_of g version ∷ (codes "seed " ++ decimal seed) ∷ (codes "unit " ++ decimal unit) ∷ (codes "cap " ++ decimal cap) ∷ [])
    × (seed < 2 ^ 64)
    × (checked_unit unit ≡ Ok tt)
    × (checked_cap cap ≡ Ok tt)
Says g lines (AtTargets f targets) = SayTargets g lines f targets
Says g lines (AtRanges f targets specs) = SayRanges g lines f targets specs
Says g lines (AtSchemes f targets specs slots) = SaySchemes g lines f.seed (setup_said f targets specs slots)
Says g lines (InBody b) = SayWithin g lines b
Says g lines (InCommit b commit) = SayCommit g lines b commit
Says g lines (AtEnd s) = IsTextOf g (lines_text lines) s

-- what holds of each place to which a reading leads, holds of the one to which it did
pub read_to : {A B : Type 0} (P : B → Type 0) (r : Result A ScriptKind) (to : A → B) (next : B) → ((x : A) → r ≡ Ok x → P (to x)) → (r >>= λ x. Ok (to x)) ≡ Ok next → P next
read_to P r to next each e =
    let said = bind-Ok r (λ x. Ok (to x)) next e in
    let is : to said.0 ≡ next = cc in
    subst P is (each said.0 said.1)

-- one of two ways was gone, each after its test
pub both_ways : {R G : Type 0} (test : Bool) (here others x : R) → (test ≡ true → here ≡ x → G) → (test ≡ false → others ≡ x → G) → (if test then here else others) ≡ x → G
both_ways true here others x found next e = found refl e
both_ways false here others x found next e = next refl e

pub each_more : {L A : Type 0} (says : L → A → Type 0) (lines : List L) (values : List A) (line : L) (value : A) → EachSays says lines values → says line value → EachSays says (lines ++ line ∷ []) (values ++ value ∷ [])
each_more says [] [] line value all here = (here, tt)
each_more says (l ∷ lines) (v ∷ values) line value all here = (all.0, each_more says lines values line value all.1 here)
each_more says [] (v ∷ values) line value all here = absurd all
each_more says (l ∷ lines) [] line value all here = absurd all

pub all_lines-more : (groups : List (List (List ℕ))) (group : List (List ℕ)) → all_lines (groups ++ group ∷ []) ≡ all_lines groups ++ group
all_lines-more [] group = append-nil group
all_lines-more (g ∷ groups) group = ap (λ ls. g ++ ls) (all_lines-more groups group) ∙ sym (append_assoc g (all_lines groups) group)

pub with_parts-more : (commit : CommitValue) (parts : List Part) (part : Part) → fold with_part commit (parts ++ part ∷ []) ≡ with_part (fold with_part commit parts) part
with_parts-more commit [] part = refl
with_parts-more commit (p ∷ parts) part = with_parts-more (with_part commit p) parts part

both_true : (first second : Bool) → (first && second) ≡ true → (first ≡ true) × (second ≡ true)
both_true true second both = (refl, both)
both_true false second both = absurd cc

pub order-more : (version : Version) (commit : CommitValue) (parts : List Part) (part : Part) → come_in_order version commit parts ≡ true → may_come version (fold with_part commit parts) part ≡ true → come_in_order version commit (parts ++ part ∷ []) ≡ true
order-more version commit [] part before here = rw here refl
order-more version commit (p ∷ parts) part before here =
    let both = both_true (may_come version commit p) (come_in_order version (with_part commit p) parts) before in
    rw both.0 (order-more version (with_part commit p) parts part both.1 here)

pub work-more : (cap : ℕ) (commands : List CommandValue) (c : CommandValue) → work_of cap (commands ++ c ∷ []) ≡ work_of cap commands + weight cap c
work-more cap [] c = omega (arith, sum_by-cons (weight cap) c [])
work-more cap (d ∷ commands) c =
    omega (arith, sum_by-cons (weight cap) d (commands ++ c ∷ []), sum_by-cons (weight cap) d commands, work-more cap commands c)
