-- Lines that say a setup lead from the first line of a text to its body or its end, and those of a commit to its last line.
use Rattle.std.proofs.Common.{◌≡◌, ◌∷◌, [], ◌==◌, ◌||◌, ◌^◌, ◌<◌, ◌≤◌, ℕ, Bool, true, false, List, ◌++◌, length, map, codes, Ok, Err, refl, sym, ap, subst, ◌∙◌, append_assoc, arith, decimal}
use Rattle.std.proofs.lemmas.Bool.Decides.{nat_tests}
use Rattle.std.proofs.lemmas.List.{append-nil, length-append}
use Rattle.std.specs.Prelude.{Result, if◌then◌else◌}
use Rattle.std.specs.List.{fold, AllByRecursion}
use Rattle.std.specs.Result.{result_and}
use Rattle.damon_types.specs.Faults.{fault_as}
use Rattle.damon_types.specs.declared.range.RangeSpec.{RangeSpec}
use Rattle.damon_types.specs.declared.scheme.SlotChange.{SlotChange}
use Rattle.damon_types.specs.declared.scheme.Version.{Version}
use Rattle.damon_types.specs.declared.scheme.Version.TheVariants.{One, Two}
use Rattle.damon_types.specs.declared.space.Target.{Target}
use Rattle.damon_types.specs.Scheme.{checked_in}
use Rattle.damon_types.specs.Space.{checked}
use Rattle.damon_types.proofs.Lemmas.{both_ok}
use Rattle.line_text.specs.Parts.{parts}
use Rattle.live_commit.specs.declared.fault.SetupFault.TheVariants.{BadScheme, RepeatedSlot}
use Rattle.live_commit.specs.Checked.{checked_limits}
use Rattle.live_commit.specs.Commit.{CommitValue}
use Rattle.live_commit.specs.Setup.{SetupValue}
use Rattle.live_commit.specs.Slots.{checked_after, checked_slot, checked_slots, has_scheme, is_set}
use Rattle.target_ranges.specs.declared.fault.RangeFault.{RangeFault}
use Rattle.target_ranges.specs.declared.fault.RangeWhy.{RangeWhy}
use Rattle.target_ranges.specs.Checked.{checked_next, checked_ranges, fault_at}
use Rattle.target_ranges.specs.Made.{ranges_of}
use Rattle.damon_control.specs.declared.grammar.Grammar.{Grammar}
use Rattle.damon_control.specs.declared.grammar.Grammar.TheVariants.{OfScript, OfLive, OfJournal}
use Rattle.script_lines.specs.declared.part.Part.{Part}
use Rattle.script_lines.specs.declared.kind.ScriptKind.{ScriptKind}
use Rattle.script_lines.specs.declared.setup.Frame.{Frame}
use Rattle.script_lines.specs.Body.{part_line, with_part}
use Rattle.script_lines.specs.Fits.{FitsAttrs}
use Rattle.script_lines.specs.Head.{attrs_line, cap_line, is_changed, range_line, scheme_line, seed_line, target_line, unit_line}
use Rattle.script_lines.specs.Laws.{GivesScheme, IsPart, may_come}
use Rattle.script_lines.specs.Refusal.{◌>>=◌}
use Rattle.damon_control.specs.Script.{AtAttrs, AtCap, AtEnd, AtHeader, AtRanges, AtSchemes, AtSeed, AtTargets, AtUnit, InCommit, Place, Said, Within, after_setup, header_of, place_after, reads, scheme_line_in, version_in}
use Rattle.script_lines.specs.Spelling.{spelled_attrs, spelled_range, spelled_target}
use Rattle.damon_control.specs.Text.{EachSays, SaySetup}
use Rattle.script_lines.specs.Lines.{lines_text}
use Rattle.script_lines.specs.Words.{begins_with}
use Rattle.target_ranges.proofs.Lemmas.{checked_ranges-append, checked_ranges-push}
use Rattle.damon_control.proofs.Leads.{leads, leads-line, leads-read, lines_apart}
use Rattle.script_lines.proofs.Lemmas.{begins_other, lines_read_back}
use Rattle.damon_control.proofs.LineWords.{both_true, leads-IsPiece, part_begins, range_begins, scheme_begins, target_begins}
use Rattle.damon_control.proofs.OneSpelling.{IsSpelledFor, scheme_in-Ok, scheme_in-read}
use Rattle.live_commit.proofs.Lemmas.{limits_kept}
use Rattle.damon_control.proofs.SpaceLimits.{accepted-FitsRange, checked-IsSpace, checked_before}
use Rattle.damon_control.specs.CommitLines.{come_in_order}
use Rattle.damon_control.proofs.SlotLines.{free_accepted, said_gives, scheme_accepted}
use Rattle.damon_control.proofs.SetupChecks.{said_limits, said_slots, space_checked}

-- ---- the lines before the targets

-- a value that is read leads on
pub lead_to : {A : Type 0} (g : Grammar) (r : Result A ScriptKind) (x : A) (to : A → Place g) → r ≡ Ok x → (r >>= λ y. Ok (to y)) ≡ Ok (to x)
lead_to g r x to is = rw is refl

-- the way that a test takes
pub then_way : {R : Type 0} (test : Bool) (here others : R) → test ≡ true → (if test then here else others) ≡ here
then_way true here others is = refl
then_way false here others is = absurd cc

pub else_way : {R : Type 0} (test : Bool) (here others : R) → test ≡ false → (if test then here else others) ≡ others
else_way true here others is = absurd cc
else_way false here others is = refl

pub either_true : (first second : Bool) → first ≡ true → (first || second) ≡ true
either_true true second is = refl
either_true false second is = absurd cc

pub neither_true : (first second : Bool) → first ≡ false → second ≡ false → (first || second) ≡ false
neither_true false second one two = two
neither_true true second one two = absurd cc

-- the first line
header_read : (g : Grammar) (version : Version) → place_after g AtHeader (header_of g version) ≡ Ok (AtSeed version)
header_read OfScript One = refl
header_read OfScript Two = refl
header_read OfLive One = refl
header_read OfLive Two = refl
header_read OfJournal One = refl
header_read OfJournal Two = refl

frame_leads : (g : Grammar) (f : Frame) (lines : List (List ℕ)) → f.seed < 2 ^ 64 → checked_limits f.unit f.cap f.attrs ≡ Ok tt
    → leads g AtHeader (header_of g f.version ∷ (codes "seed " ++ decimal f.seed) ∷ (codes "unit " ++ decimal f.unit) ∷ (codes "cap " ++ decimal f.cap) ∷ spelled_attrs f.attrs ∷ lines) ≡ leads g (AtTargets f []) lines
frame_leads g f lines small sound =
    let limits = limits_kept f.unit f.cap f.attrs sound in
    let most : f.attrs.max ≤ 4096 = omega (arith, limits.max_cap, limits.cap_most) in
    let least : f.attrs.min ≤ 4096 = omega (arith, limits.attrs.max, most) in
    let fits : FitsAttrs f.attrs = (omega (arith, least), omega (arith, most), omega (arith, limits.attrs.aggr_most)) in
    let after_cap = spelled_attrs f.attrs ∷ lines in
    let after_unit = (codes "cap " ++ decimal f.cap) ∷ after_cap in
    let after_seed = (codes "unit " ++ decimal f.unit) ∷ after_unit in
    leads-line g AtHeader (AtSeed f.version) (header_of g f.version) ((codes "seed " ++ decimal f.seed) ∷ after_seed) (header_read g f.version)
    ∙ leads-line g (AtSeed f.version) (AtUnit f.version f.seed) (codes "seed " ++ decimal f.seed) after_seed (lead_to g (seed_line (codes "seed " ++ decimal f.seed)) f.seed (λ n. AtUnit f.version n) (lines_read_back.seed f.seed small))
    ∙ leads-line g (AtUnit f.version f.seed) (AtCap f.version f.seed f.unit) (codes "unit " ++ decimal f.unit) after_unit
    (lead_to g (unit_line (codes "unit " ++ decimal f.unit)) f.unit (λ n. AtCap f.version f.seed n) (lines_read_back.unit f.unit limits.unit_some limits.unit_most))
    ∙ leads-line g (AtCap f.version f.seed f.unit) (AtAttrs f.version f.seed f.unit f.cap) (codes "cap " ++ decimal f.cap) after_cap
    (lead_to g (cap_line (codes "cap " ++ decimal f.cap)) f.cap (λ n. AtAttrs f.version f.seed f.unit n) (lines_read_back.cap f.cap limits.cap_some limits.cap_most))
    ∙ leads-line g (AtAttrs f.version f.seed f.unit f.cap) (AtTargets f []) (spelled_attrs f.attrs) lines
    (lead_to g (attrs_line f.cap (spelled_attrs f.attrs)) f.attrs (λ a. AtTargets (record { version = f.version; seed = f.seed; unit = f.unit; cap = f.cap; attrs = a }) [])
    (lines_read_back.attrs f.cap f.attrs fits limits.checked limits.max_cap))

-- ---- targets

target_leads : (g : Grammar) (f : Frame) (before : List Target) (line : List ℕ) (t : Target) → target_line before line ≡ Ok t → place_after g (AtTargets f before) line ≡ Ok (AtTargets f (before ++ t ∷ []))
target_leads g f before line t read =
    then_way (begins_with (codes "target") line || (length before == 0)) _ _ (either_true (begins_with (codes "target") line) _ (target_begins before line t read).begins)
    ∙ lead_to g (target_line before line) t (λ u. AtTargets f (before ++ u ∷ [])) read

targets_lead : (g : Grammar) (f : Frame) (before more : List Target) (lines : List (List ℕ)) → checked (before ++ more) ≡ Ok tt
    → leads g (AtTargets f before) (map spelled_target more ++ lines) ≡ leads g (AtTargets f (before ++ more)) lines
targets_lead g f before [] lines sound = ap (λ ts. leads g (AtTargets f ts) lines) (sym (append-nil before))
targets_lead g f before (t ∷ more) lines sound =
    let all = append_assoc before (t ∷ []) more in
    let whole : checked ((before ++ t ∷ []) ++ more) ≡ Ok tt = ap checked all ∙ sound in
    let first = checked_before (before ++ t ∷ []) more (omega (arith, length-append before (t ∷ []))) whole in
    leads-line g (AtTargets f before) (AtTargets f (before ++ t ∷ [])) (spelled_target t) (map spelled_target more ++ lines)
    (target_leads g f before (spelled_target t) t (lines_read_back.target before t first))
    ∙ targets_lead g f (before ++ t ∷ []) more lines whole
    ∙ ap (λ ts. leads g (AtTargets f ts) lines) all

-- ---- ranges

range_leads : (g : Grammar) (f : Frame) (targets : List Target) (before : List RangeSpec) (line : List ℕ) (r : RangeSpec) → range_line f targets before line ≡ Ok r
    → place_after g (AtRanges f targets before) line ≡ Ok (AtRanges f targets (before ++ r ∷ []))
range_leads g f targets before line r read =
    then_way (begins_with (codes "range") line || (length before == 0)) _ _ (either_true (begins_with (codes "range") line) _ (range_begins f targets before line r read).begins)
    ∙ lead_to g (range_line f targets before line) r (λ u. AtRanges f targets (before ++ u ∷ [])) read

-- the first of accepted ranges are accepted
ranges_before : (ts : List Target) (unit cap : ℕ) (front back : List RangeSpec) → checked_ranges ts unit cap (front ++ back) ≡ Ok tt → checked_ranges ts unit cap front ≡ Ok tt
ranges_before ts unit cap front back ok = by (checked_ranges ts unit cap front) refl
  where
    by : (r : Result (Unit {0}) RangeFault) → checked_ranges ts unit cap front ≡ r → checked_ranges ts unit cap front ≡ Ok tt
    by (Ok t) is = is
    by (Err fault) is = let all = checked_ranges-append ts unit cap front back fault is in absurd cc

no_fault : (index : ℕ) (r : Result (Unit {0}) RangeWhy) → fault_at index r ≡ Ok tt → r ≡ Ok tt
no_fault index (Ok t) ok = refl
no_fault index (Err why) ok = absurd cc

-- the frame of a setup
abbrev pub frame_of : ℕ → SetupValue → Frame
frame_of seed setup = record { version = setup.version; seed = seed; unit = setup.unit; cap = setup.cap; attrs = setup.attrs }

-- the line of a range is read, where it and those before it are the first of accepted ranges
range_read : (f : Frame) (targets : List Target) (before more : List RangeSpec) (r : RangeSpec) → checked targets ≡ Ok tt → checked_ranges targets f.unit f.cap (before ++ r ∷ more) ≡ Ok tt
    → length (before ++ r ∷ more) ≤ f.attrs.max → range_line f targets before (spelled_range r) ≡ Ok r
range_read f targets before more r space sound few =
    let whole : checked_ranges targets f.unit f.cap ((before ++ r ∷ []) ++ more) ≡ Ok tt = ap (checked_ranges targets f.unit f.cap) (append_assoc before (r ∷ []) more) ∙ sound in
    let here = ranges_before targets f.unit f.cap (before ++ r ∷ []) more whole in
    let first = ranges_before targets f.unit f.cap before (r ∷ []) here in
    let next = no_fault (length before) (checked_next targets f.unit f.cap before r) (sym (checked_ranges-push targets f.unit f.cap before r first) ∙ here) in
    let room : length before < f.attrs.max = omega (arith, few, length-append before (r ∷ more)) in
    lines_read_back.range f targets before r (accepted-FitsRange targets f.unit f.cap (length before) _ r space next) next room

ranges_lead : (g : Grammar) (f : Frame) (targets : List Target) (before more : List RangeSpec) (lines : List (List ℕ)) → checked targets ≡ Ok tt → checked_ranges targets f.unit f.cap (before ++ more) ≡ Ok tt
    → length (before ++ more) ≤ f.attrs.max → leads g (AtRanges f targets before) (map spelled_range more ++ lines) ≡ leads g (AtRanges f targets (before ++ more)) lines
ranges_lead g f targets before [] lines space sound few = ap (λ rs. leads g (AtRanges f targets rs) lines) (sym (append-nil before))
ranges_lead g f targets before (r ∷ more) lines space sound few =
    let all = append_assoc before (r ∷ []) more in
    leads-line g (AtRanges f targets before) (AtRanges f targets (before ++ r ∷ [])) (spelled_range r) (map spelled_range more ++ lines)
    (range_leads g f targets before (spelled_range r) r (range_read f targets before more r space sound few))
    ∙ ranges_lead g f targets (before ++ r ∷ []) more lines space (ap (checked_ranges targets f.unit f.cap) all ∙ sound) (subst (λ (rs : List RangeSpec). length rs ≤ f.attrs.max) (sym all) few)
    ∙ ap (λ rs. leads g (AtRanges f targets rs) lines) all

-- ---- from one kind of lines to the next

pub some_is : {A : Type 0} (xs : List A) → 1 ≤ length xs → (length xs == 0) ≡ false
some_is xs some = grind (arith, nat_tests)

-- after some targets a line that is of no target is the first of the ranges
past_targets : (g : Grammar) (f : Frame) (targets : List Target) (line : List ℕ) (lines : List (List ℕ)) → 1 ≤ length targets → begins_with (codes "target") line ≡ false
    → leads g (AtTargets f targets) (line ∷ lines) ≡ leads g (AtRanges f targets []) (line ∷ lines)
past_targets g f targets line lines some other = ap (λ r. r >>= λ next. leads g next lines) same
  where
    same : place_after g (AtTargets f targets) line ≡ place_after g (AtRanges f targets []) line
    same = else_way (begins_with (codes "target") line || (length targets == 0)) _ _ (neither_true (begins_with (codes "target") line) (length targets == 0) other (some_is targets some))

-- after some ranges a line that is of no range is the first of the schemes
past_ranges : (g : Grammar) (f : Frame) (targets : List Target) (specs : List RangeSpec) (line : List ℕ) (lines : List (List ℕ)) → 1 ≤ length specs → begins_with (codes "range") line ≡ false
    → leads g (AtRanges f targets specs) (line ∷ lines) ≡ leads g (AtSchemes f targets specs []) (line ∷ lines)
past_ranges g f targets specs line lines some other = ap (λ r. r >>= λ next. leads g next lines) same
  where
    same : place_after g (AtRanges f targets specs) line ≡ place_after g (AtSchemes f targets specs []) line
    same = else_way (begins_with (codes "range") line || (length specs == 0)) _ _ (neither_true (begins_with (codes "range") line) (length specs == 0) other (some_is specs some))

-- ---- schemes

scheme_leads : (g : Grammar) (f : Frame) (targets : List Target) (specs : List RangeSpec) (before : List SlotChange) (line : List ℕ) (c : SlotChange) → scheme_line_in g f.version before line ≡ Ok c
    → place_after g (AtSchemes f targets specs before) line ≡ Ok (AtSchemes f targets specs (before ++ c ∷ []))
scheme_leads g f targets specs before line c read =
    then_way (begins_with (codes "scheme") line) _ _ (scheme_begins f.version before line c (scheme_in-Ok g f.version before line c read)).begins
    ∙ lead_to g (scheme_line_in g f.version before line) c (λ d. AtSchemes f targets specs (before ++ d ∷ [])) read

-- where each change has a scheme, a slot that none sets is a slot that none is of
none_sets : (slot : ℕ) (changes : List SlotChange) → AllByRecursion (λ c. has_scheme c ≡ true) changes → is_set slot changes ≡ false → is_changed slot changes ≡ false
none_sets slot [] each free = refl
none_sets slot (c ∷ changes) each free =
    let here = rw each.0 at free in
    let both = both_false (c.slot == slot) (is_set slot changes) here in
    rw both.0 (none_sets slot changes each.1 both.1)
  where
    both_false : (first second : Bool) → (first || second) ≡ false → (first ≡ false) × (second ≡ false)
    both_false true second e = absurd cc
    both_false false second e = (refl, e)

each_set-more : (changes : List SlotChange) (c : SlotChange) → AllByRecursion (λ d. has_scheme d ≡ true) changes → has_scheme c ≡ true → AllByRecursion (λ d. has_scheme d ≡ true) (changes ++ c ∷ [])
each_set-more [] c each here = (here, tt)
each_set-more (d ∷ changes) c each here = (each.0, each_set-more changes c each.1 here)

scheme_read : (version : Version) (before : List SlotChange) (line : List ℕ) (c : SlotChange) → AllByRecursion (λ d. has_scheme d ≡ true) before → GivesScheme version line c → checked_slot version (length before) before c ≡ Ok tt
    → scheme_line version before line ≡ Ok c
scheme_read version before line c each gives ok =
    let set : result_and (fault_as (BadScheme (length before)) (checked_in version c.slot gives.0)) (if is_set c.slot before then Err (RepeatedSlot (length before)) else Ok (tt {0})) ≡ Ok tt = rw gives.1 at ok in
    let both = both_ok (fault_as (BadScheme (length before)) (checked_in version c.slot gives.0)) (if is_set c.slot before then Err (RepeatedSlot (length before)) else Ok (tt {0})) set in
    lines_read_back.scheme version before line c gives.0 gives gives.1
    (scheme_accepted (length before) (checked_in version c.slot gives.0) both.0)
    (none_sets c.slot before each (free_accepted (length before) (is_set c.slot before) both.1))

schemes_lead : (g : Grammar) (f : Frame) (targets : List Target) (specs : List RangeSpec) (before : List SlotChange) (schemes : List (List ℕ)) (more : List SlotChange) (lines : List (List ℕ))
    → AllByRecursion (λ c. has_scheme c ≡ true) before → EachSays (GivesScheme f.version) schemes more → EachSays (IsSpelledFor g) schemes more → checked_after f.version before more ≡ Ok tt
    → leads g (AtSchemes f targets specs before) (schemes ++ lines) ≡ leads g (AtSchemes f targets specs (before ++ more)) lines
schemes_lead g f targets specs before [] [] lines each gives spelled ok = ap (λ cs. leads g (AtSchemes f targets specs cs) lines) (sym (append-nil before))
schemes_lead g f targets specs before (line ∷ schemes) (c ∷ more) lines each gives spelled ok =
    let both = both_ok (checked_slot f.version (length before) before c) (checked_after f.version (before ++ c ∷ []) more) ok in
    let set : has_scheme c ≡ true = rw gives.0.1 refl in
    leads-line g (AtSchemes f targets specs before) (AtSchemes f targets specs (before ++ c ∷ [])) line (schemes ++ lines)
    (scheme_leads g f targets specs before line c (scheme_in-read g f.version before line c (scheme_read f.version before line c each gives.0 both.0) spelled.0))
    ∙ schemes_lead g f targets specs (before ++ c ∷ []) schemes more lines (each_set-more before c each set) gives.1 spelled.1 both.1
    ∙ ap (λ cs. leads g (AtSchemes f targets specs cs) lines) (append_assoc before (c ∷ []) more)
schemes_lead g f targets specs before [] (c ∷ more) lines each gives spelled ok = absurd gives
schemes_lead g f targets specs before (line ∷ schemes) [] lines each gives spelled ok = absurd gives

-- ---- commits

part_leads : (g : Grammar) (b : Within g) (commit : CommitValue) (line : List ℕ) (part : Part) → may_come (version_in g b) commit part ≡ true → IsPart (version_in g b) line part
    → place_after g (InCommit b commit) line ≡ Ok (InCommit b (with_part commit part))
part_leads g b commit line part may is =
    let read = lines_read_back.part (version_in g b) commit line part may is in
    else_way (begins_with (codes "apply") line) _ _ (part_begins (version_in g b) commit line part read).not_first
    ∙ lead_to g (part_line (version_in g b) commit line) part (λ p. InCommit b (with_part commit p)) read

pub parts_lead : (g : Grammar) (b : Within g) (commit : CommitValue) (between : List (List ℕ)) (parts : List Part) (lines : List (List ℕ)) → EachSays (IsPart (version_in g b)) between parts → come_in_order (version_in g b) commit parts ≡ true
    → leads g (InCommit b commit) (between ++ lines) ≡ leads g (InCommit b (fold with_part commit parts)) lines
parts_lead g b commit [] [] lines each order = refl
parts_lead g b commit (line ∷ between) (part ∷ parts) lines each order =
    let both = both_true (may_come (version_in g b) commit part) (come_in_order (version_in g b) (with_part commit part) parts) order in
    leads-line g (InCommit b commit) (InCommit b (with_part commit part)) line (between ++ lines) (part_leads g b commit line part both.0 each.0)
    ∙ parts_lead g b (with_part commit part) between parts lines each.1 both.1
parts_lead g b commit [] (part ∷ parts) lines each order = absurd each
parts_lead g b commit (line ∷ between) [] lines each order = absurd each

-- ---- a whole setup

-- the ranges of a setup follow its targets
targets_ranges_lead : (g : Grammar) (f : Frame) (targets : List Target) (specs : List RangeSpec) (lines : List (List ℕ)) → checked targets ≡ Ok tt → checked_ranges targets f.unit f.cap specs ≡ Ok tt
    → 1 ≤ length specs → length specs ≤ f.attrs.max → leads g (AtTargets f targets) (map spelled_range specs ++ lines) ≡ leads g (AtRanges f targets specs) lines
targets_ranges_lead g f targets [] lines space sound some few = absurd (omega (arith, some))
targets_ranges_lead g f targets (r ∷ specs) lines space sound some few =
    let begins = range_begins f targets [] (spelled_range r) r (range_read f targets [] specs r space sound few) in
    past_targets g f targets (spelled_range r) (map spelled_range specs ++ lines) (checked-IsSpace targets space).some
    (begins_other (codes "range") (codes "target") (spelled_range r) begins.begins refl)
    ∙ ranges_lead g f targets [] (r ∷ specs) lines space sound few

-- the line after a setup is of no range and no scheme, and leads to this place
pub record Opens (g : Grammar) (seed : ℕ) (setup : SetupValue) (opening : List ℕ) (next : Place g) : Type 0 where
  pub no_range : begins_with (codes "range") opening ≡ false
  pub no_scheme : begins_with (codes "scheme") opening ≡ false
  pub opens :
      (specs : List RangeSpec) → ranges_of setup.space specs ≡ setup.ranges
      → after_setup g (frame_of seed setup) setup.space specs setup.slots opening ≡ Ok next

-- its schemes follow its ranges, and the line after the setup its schemes
ranges_schemes_lead : (g : Grammar) (f : Frame) (targets : List Target) (specs : List RangeSpec) (schemes : List (List ℕ)) (slots : List SlotChange) (opening : List ℕ) (lines : List (List ℕ)) → 1 ≤ length specs
    → EachSays (GivesScheme f.version) schemes slots → checked_slots f.version slots ≡ Ok tt → begins_with (codes "range") opening ≡ false
    → leads g (AtRanges f targets specs) (schemes ++ opening ∷ lines) ≡ leads g (AtSchemes f targets specs []) (schemes ++ opening ∷ lines)
ranges_schemes_lead g f targets specs [] [] opening lines some give sound other = past_ranges g f targets specs opening lines some other
ranges_schemes_lead g f targets specs (line ∷ schemes) (c ∷ slots) opening lines some give sound other =
    let first = both_ok (checked_slot f.version 0 [] c) (checked_after f.version (c ∷ []) slots) sound in
    let begins = scheme_begins f.version [] line c (scheme_read f.version [] line c tt give.0 first.0) in
    past_ranges g f targets specs line (schemes ++ opening ∷ lines) some (begins_other (codes "scheme") (codes "range") line begins.begins refl)
ranges_schemes_lead g f targets specs [] (c ∷ slots) opening lines some give sound other = absurd give
ranges_schemes_lead g f targets specs (line ∷ schemes) [] opening lines some give sound other = absurd give

regroup : (a b c d : List (List ℕ)) → ((a ++ b) ++ c) ++ d ≡ a ++ (b ++ (c ++ d))
regroup a b c d = simp append_assoc

-- a setup's lines, and the one after them, lead to the place that this one opens
pub setup_leads : (g : Grammar) (seed : ℕ) (setup : SetupValue) (lines : List (List ℕ)) (opening : List ℕ) (next : Place g) (back : List (List ℕ)) (says : SaySetup lines seed setup) → EachSays (IsSpelledFor g) says.schemes setup.slots
    → Opens g seed setup opening next → leads g AtHeader (header_of g setup.version ∷ (lines ++ opening ∷ back)) ≡ leads g next back
setup_leads g seed setup lines opening next back says spelled opens =
    let f = frame_of seed setup in
    let space = setup.space in
    let slots = said_slots lines seed setup says in
    let targets = space_checked setup.space says.space in
    let give = said_gives setup.version [] says.schemes setup.slots says.give says.set says.changes slots in
    let after_ranges = says.schemes ++ opening ∷ back in
    let after_targets = map spelled_range says.specs ++ after_ranges in
    let frame_lines = λ (ls : List (List ℕ)). header_of g setup.version ∷ (codes "seed " ++ decimal seed) ∷ (codes "unit " ++ decimal setup.unit) ∷ (codes "cap " ++ decimal setup.cap) ∷ spelled_attrs setup.attrs ∷ ls in
    let lines_are : header_of g setup.version ∷ (lines ++ opening ∷ back) ≡ frame_lines (map spelled_target space ++ after_targets) =
    ap (λ ls. header_of g setup.version ∷ (ls ++ opening ∷ back)) says.spelled
    ∙ ap frame_lines (regroup (map spelled_target space) (map spelled_range says.specs) says.schemes (opening ∷ back))
    in
    let last : place_after g (AtSchemes f space says.specs setup.slots) opening ≡ Ok next =
    else_way (begins_with (codes "scheme") opening) _ _ opens.no_scheme ∙ opens.opens says.specs says.watched
    in
    ap (leads g AtHeader) lines_are
    ∙ frame_leads g f (map spelled_target space ++ after_targets) says.seed_fits (said_limits lines seed setup says)
    ∙ targets_lead g f [] space after_targets targets
    ∙ targets_ranges_lead g f space says.specs after_ranges targets says.ranges says.some_range says.few_ranges
    ∙ ranges_schemes_lead g f space says.specs says.schemes setup.slots opening back says.some_range give slots opens.no_range
    ∙ schemes_lead g f space says.specs [] says.schemes setup.slots (opening ∷ back) tt give spelled slots
    ∙ leads-line g (AtSchemes f space says.specs setup.slots) next opening back last

-- lines that lead to the end of a text are read as what it says
pub led_read : (g : Grammar) (lines : List (List ℕ)) (s : Said g) → leads g AtHeader lines ≡ Ok (AtEnd s) → reads g 1 AtHeader (parts 10 (lines_text lines)) ≡ Ok s
led_read g lines s lead =
    ap (reads g 1 AtHeader) (lines_apart lines (leads-IsPiece g AtHeader lines (AtEnd s) lead))
    ∙ leads-read g 1 AtHeader lines s lead
