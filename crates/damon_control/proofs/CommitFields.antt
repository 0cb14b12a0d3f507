-- The lines of a commit by its parts, one after another, and by its fields.
use Rattle.std.proofs.Common.{◌≡◌, ⊎_elim, ◌∷◌, [], ◌++◌, ◌^◌, ◌<◌, ◌≤◌, ℕ, true, false, List, length, map, codes, Option, Some, None, Ok, refl, sym, ap, subst, ◌∙◌, append_assoc, arith, decimal, length-append}
use Rattle.std.specs.Prelude.{◌&&◌, All, Bool, IfSome}
use Rattle.std.specs.List.{fold}
use Rattle.std.specs.Option.{option_map_or, unwrap_or}
use Rattle.std.proofs.lemmas.List.Elements.{All-append, All-from_recursion, All-head, All-tail}
use Rattle.damon_types.specs.declared.attrs.Attrs.{Attrs as AttrsValue}
use Rattle.damon_types.specs.declared.range.RangeSpec.{RangeSpec}
use Rattle.damon_types.specs.declared.scheme.CostPart.{CostPart}
use Rattle.damon_types.specs.declared.scheme.SlotChange.{SlotChange}
use Rattle.damon_types.specs.declared.scheme.Version.{Version}
use Rattle.damon_types.specs.declared.scheme.Version.TheVariants.{One, Two}
use Rattle.live_commit.specs.Commit.{CommitValue}
use Rattle.script_lines.specs.declared.part.Part.{Part}
use Rattle.script_lines.specs.declared.part.Part.TheVariants.{Attrs, Cost, Metric, Range, Slot}
use Rattle.script_lines.specs.Body.{no_commit, part_line, with_part, with_range}
use Rattle.script_lines.specs.Fits.{FitsAttrs, FitsChange, FitsCost, FitsRange}
use Rattle.script_lines.specs.Laws.{EmptiesSlot, GivesScheme, IsPart, may_come}
use Rattle.script_lines.specs.SchemeLine.{named}
use Rattle.script_lines.specs.Spelling.{spelled_attrs, spelled_cost, spelled_range}
use Rattle.damon_control.specs.CommitLines.{come_in_order}
use Rattle.damon_control.specs.Live.{CommitCall}
use Rattle.damon_control.specs.Spellable.{FitsCall}
use Rattle.damon_control.specs.Text.{AreCommit, EachSays, SaysSlot}
use Rattle.damon_control.specs.WriteBack.{FitsCommit, IsSpelledIn, SpellsRanges}
use Rattle.damon_control.specs.Written.{part_given, parts_of, ranges_given}
use Rattle.script_lines.proofs.Lemmas.{part_line-Ok}
use Rattle.damon_control.proofs.PartsInOrder.{TimesAreIn, cost_is_in, parts_are, parts_in, times_are_in}
use Rattle.damon_control.proofs.SchemesFit.{ChangeFits, empties_fits, gives_fits}
use Rattle.damon_control.proofs.SlotLines.{empties_said, gives_said, slot_part}

-- lines of a version say a commit: its parts stand in order between `commit` and `apply`, a line each
pub record AreParts (version : Version) (lines : List (List ℕ)) (commit : CommitValue) : Type 0 where
  pub between : List (List ℕ)
  pub parts : List Part
  pub spelled : lines ≡ codes "commit" ∷ (between ++ codes "apply" ∷ [])
  pub each : EachSays (IsPart version) between parts
  pub in_order : come_in_order version no_commit parts ≡ true
  pub made : fold with_part no_commit parts ≡ commit

-- ---- what a text can spell of a commit

-- one more range
with_range-some : (ranges : Option (List RangeSpec)) (r : RangeSpec) → IfSome (with_range ranges r) (λ rs. 1 ≤ length rs)
with_range-some None r = omega arith
with_range-some (Some rs) r = omega (arith, length-append rs (r ∷ []))

part_spelled : (c : CommitValue) (part : Part) → SpellsRanges c → SpellsRanges (with_part c part)
part_spelled c (Attrs attrs) fine = fine
part_spelled c (Range range) fine = with_range-some c.ranges range
part_spelled c (Slot change) fine = fine
part_spelled c (Metric value) fine = fine
part_spelled c (Cost cost) fine = fine

both_are : (a b : Bool) → a && b ≡ true → (a ≡ true) × (b ≡ true)
both_are true b is = (refl, is)
both_are false b is = absurd cc

-- one more range
with_range-fits : (ranges : Option (List RangeSpec)) (r : RangeSpec) → IfSome ranges (λ rs. All FitsRange rs) → FitsRange r → IfSome (with_range ranges r) (λ rs. All FitsRange rs)
with_range-fits None r all fits = All-from_recursion FitsRange (r ∷ []) (fits, tt)
with_range-fits (Some rs) r all fits = All-append FitsRange rs (r ∷ []) all (All-from_recursion FitsRange (r ∷ []) (fits, tt))

change_fits : (version : Version) (line : List ℕ) (change : SlotChange) → IsPart version line (Slot change) → ChangeFits version change
change_fits version line change is = ⊎_elim (λ (gives : GivesScheme version line change). gives_fits version line change gives) (λ (empties : EmptiesSlot line change). empties_fits version line change empties) is

part_fits : (version : Version) (line : List ℕ) (c : CommitValue) (part : Part) → IsPart version line part → FitsCommit c → FitsCommit (with_part c part)
part_fits version line c (Attrs attrs) is fits =
    record { attrs_fit = is.1; ranges_fit = fits.ranges_fit; slot_fits = fits.slot_fits; metric_fits = fits.metric_fits; cost_fits = fits.cost_fits }
part_fits version line c (Range range) is fits =
    record { attrs_fit = fits.attrs_fit; ranges_fit = with_range-fits c.ranges range fits.ranges_fit is.1; slot_fits = fits.slot_fits; metric_fits = fits.metric_fits; cost_fits = fits.cost_fits }
part_fits version line c (Slot change) is fits =
    record { attrs_fit = fits.attrs_fit; ranges_fit = fits.ranges_fit; slot_fits = (change_fits version line change is).0; metric_fits = fits.metric_fits; cost_fits = fits.cost_fits }
part_fits version line c (Metric value) is fits =
    record { attrs_fit = fits.attrs_fit; ranges_fit = fits.ranges_fit; slot_fits = fits.slot_fits; metric_fits = is.1; cost_fits = fits.cost_fits }
part_fits version line c (Cost cost) is fits =
    record { attrs_fit = fits.attrs_fit; ranges_fit = fits.ranges_fit; slot_fits = fits.slot_fits; metric_fits = fits.metric_fits; cost_fits = is.1 }

-- in version One there comes no cost, and no quota with a time
part_in : (version : Version) (line : List ℕ) (c : CommitValue) (part : Part) → may_come version c part ≡ true → IsPart version line part → IsSpelledIn version c → IsSpelledIn version (with_part c part)
part_in Two line c part may is spelled = tt
part_in One line c (Attrs attrs) may is spelled = spelled
part_in One line c (Range range) may is spelled = spelled
part_in One line c (Slot change) may is spelled = (spelled.0, (change_fits One line change is).1)
part_in One line c (Metric value) may is spelled = spelled
part_in One line c (Cost cost) may is spelled = absurd cc

-- what a text of this version can spell of a commit
abbrev Spells : Version → CommitValue → Type 0
Spells version c = FitsCall version (CommitCall c)

-- a part that is read after those of a commit that can be spelled
pub parts_keep : (version : Version) (commit : CommitValue) (line : List ℕ) (part : Part) → part_line version commit line ≡ Ok part → FitsCall version (CommitCall commit)
    → FitsCall version (CommitCall (with_part commit part))
parts_keep version c line part read fits =
    let is = part_line-Ok version c line part read in
    (part_fits version line c part is.1 fits.0, part_spelled c part fits.1, part_in version line c part is.0 is.1 fits.2)

parts_fit : (version : Version) (c : CommitValue) (lines : List (List ℕ)) (parts : List Part) → EachSays (IsPart version) lines parts → come_in_order version c parts ≡ true → Spells version c → Spells version (fold with_part c parts)
parts_fit version c [] [] each order fits = fits
parts_fit version c [] (part ∷ parts) each order fits = absurd each
parts_fit version c (line ∷ lines) [] each order fits = absurd each
parts_fit version c (line ∷ lines) (part ∷ parts) each order fits =
    let come = both_are (may_come version c part) (come_in_order version (with_part c part) parts) order in
    parts_fit version (with_part c part) lines parts each.1 come.1 (part_fits version line c part each.0 fits.0, part_spelled c part fits.1, part_in version line c part come.0 each.0 fits.2)

nothing_spelled : (version : Version) → IsSpelledIn version no_commit
nothing_spelled One = (refl, tt)
nothing_spelled Two = tt

pub no_commit_fits : (version : Version) → FitsCall version (CommitCall no_commit)
no_commit_fits version = (record { attrs_fit = tt; ranges_fit = tt; slot_fits = tt; metric_fits = tt; cost_fits = tt }, tt, nothing_spelled version)

-- ---- the lines of each field

-- lines of values in a row are those of the first ones, and those of the others
record Split {L A : Type 0} (says : L → A → Type 0) (lines : List L) (first others : List A) : Type 0 where
  front : List L
  back : List L
  is : lines ≡ front ++ back
  each : EachSays says front first
  rest : EachSays says back others

split : {L A : Type 0} (says : L → A → Type 0) (lines : List L) (first others : List A) → EachSays says lines (first ++ others) → Split says lines first others
split says lines [] others each = record { front = []; back = lines; is = refl; each = tt; rest = each }
split says [] (x ∷ first) others each = absurd each
split says (line ∷ lines) (x ∷ first) others each =
    let more = split says lines first others each.1 in
    record { front = line ∷ more.front; back = more.back; is = ap (λ ls. line ∷ ls) more.is; each = (each.0, more.each); rest = more.rest }

each_both : {L A : Type 0} (says : L → A → Type 0) (front back : List L) (first others : List A) → EachSays says front first → EachSays says back others → EachSays says (front ++ back) (first ++ others)
each_both says [] back [] others each rest = rest
each_both says (line ∷ front) back (x ∷ first) others each rest = (each.0, each_both says front back first others each.1 rest)
each_both says [] back (x ∷ first) others each rest = absurd each
each_both says (line ∷ front) back [] others each rest = absurd each

no_lines : {L A : Type 0} (says : L → A → Type 0) (lines : List L) → EachSays says lines [] → lines ≡ []
no_lines says [] each = refl
no_lines says (line ∷ lines) each = absurd each

given_lines : {A : Type 0} (version : Version) (part : A → Part) (name : List ℕ) (spelled : A → List ℕ) → ((line : List ℕ) (x : A) → IsPart version line (part x) → line ≡ name ++ spelled x) → (value : Option A) (lines : List (List ℕ))
    → EachSays (IsPart version) lines (part_given part value) → lines ≡ named name spelled value
given_lines version part name spelled is None lines each = no_lines (IsPart version) lines each
given_lines version part name spelled is (Some x) [] each = absurd each
given_lines version part name spelled is (Some x) (line ∷ lines) each = λ i. is line x each.0 i ∷ no_lines (IsPart version) lines each.1 i

each_range : (version : Version) (ranges : List RangeSpec) (lines : List (List ℕ)) → EachSays (IsPart version) lines (map (λ r. Range r) ranges) → lines ≡ map spelled_range ranges
each_range version [] lines each = no_lines (IsPart version) lines each
each_range version (r ∷ ranges) [] each = absurd each
each_range version (r ∷ ranges) (line ∷ lines) each = λ i. each.0.0 i ∷ each_range version ranges lines each.1 i

range_lines : (version : Version) (ranges : Option (List RangeSpec)) (lines : List (List ℕ)) → EachSays (IsPart version) lines (ranges_given ranges) → lines ≡ map spelled_range (unwrap_or ranges [])
range_lines version None lines each = no_lines (IsPart version) lines each
range_lines version (Some ranges) lines each = each_range version ranges lines each

-- the slot change of a commit, if it has one
abbrev slot_in : Option SlotChange → List SlotChange
slot_in slot = option_map_or (λ change. change ∷ []) slot []

slot_lines : (version : Version) (slot : Option SlotChange) (lines : List (List ℕ)) → EachSays (IsPart version) lines (part_given (λ c. Slot c) slot) → EachSays SaysSlot lines (slot_in slot)
slot_lines version None [] each = tt
slot_lines version None (line ∷ lines) each = absurd each
slot_lines version (Some c) [] each = absurd each
slot_lines version (Some c) (line ∷ []) each =
    (⊎_elim (λ (gives : GivesScheme version line c). gives_said version line c gives) (λ (empties : EmptiesSlot line c). empties_said line c empties) each.0, tt)
slot_lines version (Some c) (line ∷ next ∷ lines) each = absurd each.1

-- ---- by its parts, and by its fields

regroup : (a r s m k x : List (List ℕ)) → (a ++ (r ++ (s ++ (m ++ k)))) ++ x ≡ a ++ (r ++ (s ++ (m ++ (k ++ x))))
regroup a r s m k x = simp append_assoc

-- lines whose parts make a commit say it
pub commit_said : (version : Version) (lines : List (List ℕ)) (c : CommitValue) → AreParts version lines c → AreCommit version lines c
commit_said version lines c are =
    let spells : Spells version c = subst (Spells version) are.made (parts_fit version no_commit are.between are.parts are.each are.in_order (no_commit_fits version)) in
    let same : are.parts ≡ parts_of c = sym (parts_are version no_commit are.parts are.in_order) ∙ ap parts_of are.made in
    let each : EachSays (IsPart version) are.between (parts_of c) = subst (λ (ps : List Part). EachSays (IsPart version) are.between ps) same are.each in
    let attrs = split (IsPart version) are.between (part_given (λ a. Attrs a) c.attrs) _ each in
    let ranges = split (IsPart version) attrs.back (ranges_given c.ranges) _ attrs.rest in
    let slot = split (IsPart version) ranges.back (part_given (λ s. Slot s) c.slot) _ ranges.rest in
    let metric = split (IsPart version) slot.back (part_given (λ m. Metric m) c.metric) (part_given (λ p. Cost p) c.cost) slot.rest in
    let attrs_are = given_lines version (λ a. Attrs a) [] spelled_attrs (λ line a is. is.0) c.attrs attrs.front attrs.each in
    let ranges_are = range_lines version c.ranges ranges.front ranges.each in
    let metric_is = given_lines version (λ m. Metric m) (codes "metric ") decimal (λ line m is. is.0) c.metric metric.front metric.each in
    let cost_is = given_lines version (λ p. Cost p) [] spelled_cost (λ line p is. is.0) c.cost metric.back metric.rest in
    let all : are.between ≡ named [] spelled_attrs c.attrs ++ (map spelled_range (unwrap_or c.ranges []) ++ (slot.front ++ (named (codes "metric ") decimal c.metric ++ named [] spelled_cost c.cost))) =
    attrs.is
    ∙ ap (λ ls. attrs.front ++ ls) (ranges.is ∙ ap (λ ls. ranges.front ++ ls) (slot.is ∙ ap (λ ls. slot.front ++ ls) metric.is))
    ∙ (λ i. attrs_are i ++ (ranges_are i ++ (slot.front ++ (metric_is i ++ cost_is i))))
    in
    record {
      slot = slot.front;
      spelled =
          are.spelled
          ∙ ap (λ ls. codes "commit" ∷ (ls ++ codes "apply" ∷ [])) all
          ∙ ap (λ ls. codes "commit" ∷ ls)
          (regroup (named [] spelled_attrs c.attrs) (map spelled_range (unwrap_or c.ranges [])) slot.front (named (codes "metric ") decimal c.metric) (named [] spelled_cost c.cost) (codes "apply" ∷ []));
      says_slot = slot_lines version c.slot slot.front slot.each;
      fits = spells.0;
      some_range = spells.1;
      in_version = spells.2;
    }

attrs_part : (version : Version) (attrs : Option AttrsValue) → IfSome attrs FitsAttrs → EachSays (IsPart version) (named [] spelled_attrs attrs) (part_given (λ a. Attrs a) attrs)
attrs_part version None fit = tt
attrs_part version (Some a) fit = ((refl, fit), tt)

each_range_part : (version : Version) (ranges : List RangeSpec) → All FitsRange ranges → EachSays (IsPart version) (map spelled_range ranges) (map (λ r. Range r) ranges)
each_range_part version [] fit = tt
each_range_part version (r ∷ ranges) fit = ((refl, All-head FitsRange r ranges fit), each_range_part version ranges (All-tail FitsRange r ranges fit))

ranges_part : (version : Version) (ranges : Option (List RangeSpec)) → IfSome ranges (λ rs. All FitsRange rs) → EachSays (IsPart version) (map spelled_range (unwrap_or ranges [])) (ranges_given ranges)
ranges_part version None fit = tt
ranges_part version (Some ranges) fit = each_range_part version ranges fit

slot_parts : (version : Version) (slot : Option SlotChange) (lines : List (List ℕ)) → EachSays SaysSlot lines (slot_in slot) → IfSome slot FitsChange → TimesAreIn version slot
    → EachSays (IsPart version) lines (part_given (λ c. Slot c) slot)
slot_parts version None [] each fits timed = tt
slot_parts version None (line ∷ lines) each fits timed = absurd each
slot_parts version (Some c) [] each fits timed = absurd each
slot_parts version (Some c) (line ∷ []) each fits timed = (slot_part version line c each.0 fits timed, tt)
slot_parts version (Some c) (line ∷ next ∷ lines) each fits timed = absurd each.1

metric_part : (version : Version) (metric : Option ℕ) → IfSome metric (λ m. m < 2 ^ 32) → EachSays (IsPart version) (named (codes "metric ") decimal metric) (part_given (λ m. Metric m) metric)
metric_part version None fit = tt
metric_part version (Some m) fit = ((refl, fit), tt)

cost_part : (version : Version) (cost : Option CostPart) → IfSome cost FitsCost → EachSays (IsPart version) (named [] spelled_cost cost) (part_given (λ p. Cost p) cost)
cost_part version None fit = tt
cost_part version (Some p) fit = ((refl, fit), tt)

-- lines that say a commit are those of parts that make it
pub commit_parts : (version : Version) (lines : List (List ℕ)) (c : CommitValue) → AreCommit version lines c → AreParts version lines c
commit_parts version lines c says =
    let are = parts_in version c.attrs c.ranges (record { slot = c.slot; metric = c.metric; cost = c.cost }) (cost_is_in version c says.in_version) says.some_range in
    let attrs = named [] spelled_attrs c.attrs in
    let ranges = map spelled_range (unwrap_or c.ranges []) in
    let metric = named (codes "metric ") decimal c.metric in
    let cost = named [] spelled_cost c.cost in
    record {
      between = attrs ++ (ranges ++ (says.slot ++ (metric ++ cost)));
      parts = parts_of c;
      spelled = says.spelled ∙ ap (λ ls. codes "commit" ∷ ls) (sym (regroup attrs ranges says.slot metric cost (codes "apply" ∷ [])));
      each =
          each_both (IsPart version) attrs _ (part_given (λ a. Attrs a) c.attrs) _ (attrs_part version c.attrs says.fits.attrs_fit)
          (each_both (IsPart version) ranges _ (ranges_given c.ranges) _ (ranges_part version c.ranges says.fits.ranges_fit)
          (each_both (IsPart version) says.slot _ (part_given (λ s. Slot s) c.slot) _ (slot_parts version c.slot says.slot says.says_slot says.fits.slot_fits (times_are_in version c says.in_version))
          (each_both (IsPart version) metric cost (part_given (λ m. Metric m) c.metric) (part_given (λ p. Cost p) c.cost) (metric_part version c.metric says.fits.metric_fits) (cost_part version c.cost says.fits.cost_fits))));
      in_order = are.in_order;
      made = are.made;
    }
