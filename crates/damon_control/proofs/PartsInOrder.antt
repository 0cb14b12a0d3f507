-- The parts of a commit in order.
use Rattle.std.proofs.Common.{◌≡◌, ◌∷◌, [], ◌≤◌, ℕ, true, List, ◌++◌, length, map, Ok, Some, None, refl, sym, ap, subst, ◌∙◌, append_assoc, arith}
use Rattle.std.specs.Prelude.{IfSome, Option}
use Rattle.std.specs.List.{fold}
use Rattle.std.proofs.lemmas.List.{append-nil, map-append}
use Rattle.damon_types.specs.declared.attrs.Attrs.{Attrs}
use Rattle.damon_types.specs.declared.range.RangeSpec.{RangeSpec}
use Rattle.damon_types.specs.declared.scheme.CostPart.{CostPart}
use Rattle.damon_types.specs.declared.scheme.Quota.{Quota}
use Rattle.damon_types.specs.declared.scheme.Scheme.{Scheme}
use Rattle.damon_types.specs.declared.scheme.SlotChange.{SlotChange}
use Rattle.damon_types.specs.declared.scheme.Version.{Version}
use Rattle.damon_types.specs.declared.scheme.Version.TheVariants.{One, Two}
use Rattle.damon_types.specs.Scheme.{checked_time}
use Rattle.live_commit.specs.Commit.{CommitValue}
use Rattle.script_lines.specs.declared.part.Part.{Part}
use Rattle.script_lines.specs.declared.part.Part.TheVariants.{Attrs as AttrsPart, Range as RangePart, Slot, Metric, Cost}
use Rattle.script_lines.specs.Body.{no_commit, with_part}
use Rattle.script_lines.specs.Laws.{may_come}
use Rattle.damon_control.specs.CommitLines.{come_in_order}
use Rattle.damon_control.specs.WriteBack.{IsSpelledIn}
use Rattle.damon_control.specs.Written.{part_given, parts_of, ranges_given}
use Rattle.damon_control.proofs.LineWords.{both_true}

-- ---- times and costs

-- the scheme of a slot change has no time that the version does not spell
abbrev pub HasTimeIn : Version → Option Scheme → Type 0
HasTimeIn version scheme = IfSome scheme (λ s. checked_time version s.quota ≡ Ok tt)

-- the same of the slot change of a commit
abbrev pub TimesAreIn : Version → Option SlotChange → Type 0
TimesAreIn version slot = IfSome slot (λ change. HasTimeIn version change.scheme)

-- version Two spells each time
time_in_two : (quota : Option Quota) → checked_time Two quota ≡ Ok tt
time_in_two None = refl
time_in_two (Some q) = refl

scheme_in_two : (scheme : Option Scheme) → HasTimeIn Two scheme
scheme_in_two None = tt
scheme_in_two (Some s) = time_in_two s.quota

slot_in_two : (slot : Option SlotChange) → TimesAreIn Two slot
slot_in_two None = tt
slot_in_two (Some change) = scheme_in_two change.scheme

pub times_are_in : (version : Version) (c : CommitValue) → IsSpelledIn version c → TimesAreIn version c.slot
times_are_in One c is = is.1
times_are_in Two c is = slot_in_two c.slot

-- ---- the parts of a commit come in order

-- the parts of a commit after its ranges
pub record Rest : Type 0 where
  pub slot : Option SlotChange
  pub metric : Option ℕ
  pub cost : Option CostPart

-- these parts, as lines say them
abbrev last_parts : Rest → List Part
last_parts r = part_given (λ s. Slot s) r.slot ++ (part_given (λ m. Metric m) r.metric ++ part_given (λ p. Cost p) r.cost)

-- a commit with attributes and ranges alone
abbrev with_ranges : Option Attrs → Option (List RangeSpec) → CommitValue
with_ranges attrs ranges = record no_commit { attrs = attrs; ranges = ranges }

-- a commit with these parts
abbrev pub commit_of : Option Attrs → Option (List RangeSpec) → Rest → CommitValue
commit_of attrs ranges r = record { attrs = attrs; ranges = ranges; slot = r.slot; metric = r.metric; cost = r.cost }

-- the parts are in order, and make a commit
pub record AreIn (version : Version) (before : CommitValue) (parts : List Part) (c : CommitValue) : Type 0 where
  pub in_order : come_in_order version before parts ≡ true
  pub made : fold with_part before parts ≡ c

-- a cost comes in version Two alone
abbrev pub CostIsIn : Version → Option CostPart → Type 0
CostIsIn One cost = cost ≡ None
CostIsIn Two cost = Unit {0}

last_in : (version : Version) (attrs : Option Attrs) (ranges : Option (List RangeSpec)) (slot : Option SlotChange) (metric : Option ℕ) (cost : Option CostPart) → CostIsIn version cost
    → let rest : Rest = record { slot = slot; metric = metric; cost = cost } in
    AreIn version (with_ranges attrs ranges) (last_parts rest) (commit_of attrs ranges rest)
last_in version attrs ranges None None None is = record { in_order = refl; made = refl }
last_in version attrs ranges None (Some m) None is = record { in_order = refl; made = refl }
last_in version attrs ranges (Some c) None None is = record { in_order = refl; made = refl }
last_in version attrs ranges (Some c) (Some m) None is = record { in_order = refl; made = refl }
last_in One attrs ranges slot metric (Some p) is = absurd cc
last_in Two attrs ranges None None (Some p) is = record { in_order = refl; made = refl }
last_in Two attrs ranges None (Some m) (Some p) is = record { in_order = refl; made = refl }
last_in Two attrs ranges (Some c) None (Some p) is = record { in_order = refl; made = refl }
last_in Two attrs ranges (Some c) (Some m) (Some p) is = record { in_order = refl; made = refl }

more_in : (version : Version) (attrs : Option Attrs) (before ranges : List RangeSpec) (rest : List Part) (c : CommitValue) → AreIn version (with_ranges attrs (Some (before ++ ranges))) rest c
    → AreIn version (with_ranges attrs (Some before)) (map (λ r. RangePart r) ranges ++ rest) c
more_in version attrs before [] rest c are = subst (λ (rs : List RangeSpec). AreIn version (with_ranges attrs (Some rs)) rest c) (append-nil before) are
more_in version attrs before (r ∷ ranges) rest c are =
    let all = sym (append_assoc before (r ∷ []) ranges) in
    let others = more_in version attrs (before ++ r ∷ []) ranges rest c (subst (λ (rs : List RangeSpec). AreIn version (with_ranges attrs (Some rs)) rest c) all are) in
    record { in_order = others.in_order; made = others.made }

pub parts_in : (version : Version) (attrs : Option Attrs) (ranges : Option (List RangeSpec)) (rest : Rest) → CostIsIn version rest.cost → IfSome ranges (λ rs. 1 ≤ length rs)
    → AreIn version no_commit (parts_of (commit_of attrs ranges rest)) (commit_of attrs ranges rest)
parts_in version None None rest is some = last_in version None None rest.slot rest.metric rest.cost is
parts_in version (Some a) None rest is some =
    let others = last_in version (Some a) None rest.slot rest.metric rest.cost is in
    record { in_order = others.in_order; made = others.made }
parts_in version attrs (Some []) rest is some = absurd (omega (arith, some))
parts_in version None (Some (r ∷ ranges)) rest is some =
    let others = more_in version None (r ∷ []) ranges (last_parts rest) (commit_of None (Some (r ∷ ranges)) rest) (last_in version None (Some (r ∷ ranges)) rest.slot rest.metric rest.cost is) in
    record { in_order = others.in_order; made = others.made }
parts_in version (Some a) (Some (r ∷ ranges)) rest is some =
    let others = more_in version (Some a) (r ∷ []) ranges (last_parts rest) (commit_of (Some a) (Some (r ∷ ranges)) rest) (last_in version (Some a) (Some (r ∷ ranges)) rest.slot rest.metric rest.cost is) in
    record { in_order = others.in_order; made = others.made }

pub cost_is_in : (version : Version) (c : CommitValue) → IsSpelledIn version c → CostIsIn version c.cost
cost_is_in One c is = is.0
cost_is_in Two c is = tt

-- ---- one part more

-- a part behind lists of others
behind_two : (a r : List Part) (p : Part) → a ++ (r ++ p ∷ []) ≡ (a ++ (r ++ [])) ++ p ∷ []
behind_two a r p = ap (λ ps. a ++ ps) (sym (append_assoc r [] (p ∷ []))) ∙ sym (append_assoc a (r ++ []) (p ∷ []))

behind_three : (a r s : List Part) (p : Part) → a ++ (r ++ (s ++ p ∷ [])) ≡ (a ++ (r ++ (s ++ []))) ++ p ∷ []
behind_three a r s p = ap (λ ps. a ++ ps) (behind_two r s p) ∙ sym (append_assoc a (r ++ (s ++ [])) (p ∷ []))

behind_four : (a r s m : List Part) (p : Part) → a ++ (r ++ (s ++ (m ++ p ∷ []))) ≡ (a ++ (r ++ (s ++ (m ++ [])))) ++ p ∷ []
behind_four a r s m p = ap (λ ps. a ++ ps) (behind_three r s m p) ∙ sym (append_assoc a (r ++ (s ++ (m ++ []))) (p ∷ []))

-- a range behind attributes and other ranges
behind_ranges : (a : List Part) (rs : List RangeSpec) (r : RangeSpec) → a ++ (map (λ q. RangePart q) (rs ++ r ∷ []) ++ []) ≡ (a ++ (map (λ q. RangePart q) rs ++ [])) ++ RangePart r ∷ []
behind_ranges a rs r =
    ap (λ ps. a ++ ps) (append-nil (map (λ q. RangePart q) (rs ++ r ∷ [])) ∙ map-append (λ q. RangePart q) rs (r ∷ []))
    ∙ behind_two a (map (λ q. RangePart q) rs) (RangePart r)

-- a commit with these parts
abbrev made_of : Option Attrs → Option (List RangeSpec) → Option SlotChange → Option ℕ → Option CostPart → CommitValue
made_of attrs ranges slot metric cost = record { attrs = attrs; ranges = ranges; slot = slot; metric = metric; cost = cost }

pub parts_more : (version : Version) (attrs : Option Attrs) (ranges : Option (List RangeSpec)) (slot : Option SlotChange) (metric : Option ℕ) (cost : Option CostPart) (p : Part)
    → may_come version (made_of attrs ranges slot metric cost) p ≡ true
    → parts_of (with_part (made_of attrs ranges slot metric cost) p) ≡ parts_of (made_of attrs ranges slot metric cost) ++ p ∷ []
parts_more version None None None None None (AttrsPart a) may = refl
parts_more version attrs None None None None (RangePart r) may = behind_two (part_given (λ a. AttrsPart a) attrs) [] (RangePart r)
parts_more version attrs (Some rs) None None None (RangePart r) may = behind_ranges (part_given (λ a. AttrsPart a) attrs) rs r
parts_more version attrs ranges None None None (Slot d) may = behind_two (part_given (λ a. AttrsPart a) attrs) (ranges_given ranges) (Slot d)
parts_more version attrs ranges slot None None (Metric m) may = behind_three (part_given (λ a. AttrsPart a) attrs) (ranges_given ranges) (part_given (λ s. Slot s) slot) (Metric m)
parts_more Two attrs ranges slot metric None (Cost k) may =
    behind_four (part_given (λ a. AttrsPart a) attrs) (ranges_given ranges) (part_given (λ s. Slot s) slot) (part_given (λ m. Metric m) metric) (Cost k)
parts_more version attrs ranges slot metric cost (AttrsPart a) may = absurd cc
parts_more version attrs ranges slot metric cost (RangePart r) may = absurd cc
parts_more version attrs ranges slot metric cost (Slot d) may = absurd cc
parts_more version attrs ranges slot metric cost (Metric m) may = absurd cc
parts_more One attrs ranges slot metric cost (Cost k) may = absurd cc
parts_more Two attrs ranges slot metric (Some c) (Cost k) may = absurd cc

-- the parts of a commit with more parts are its own and those
pub parts_are : (version : Version) (c : CommitValue) (parts : List Part) → come_in_order version c parts ≡ true → parts_of (fold with_part c parts) ≡ parts_of c ++ parts
parts_are version c [] order = sym (append-nil (parts_of c))
parts_are version c (p ∷ parts) order =
    let both = both_true (may_come version c p) (come_in_order version (with_part c p) parts) order in
    parts_are version (with_part c p) parts both.1
    ∙ ap (λ ps. ps ++ parts) (parts_more version c.attrs c.ranges c.slot c.metric c.cost p both.0)
    ∙ append_assoc (parts_of c) (p ∷ []) parts
