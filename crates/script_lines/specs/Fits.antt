-- The values that a line can spell: each number is within its field.
use Rattle.std.specs.Prelude.{◌≡◌, ◌^◌, ◌<◌, ◌≤◌, length, None, All, IfSome}
use Rattle.damon_types.specs.declared.attrs.Attrs.{Attrs}
use Rattle.damon_types.specs.declared.filter.TheConstants.{MAX_FILTERS}
use Rattle.damon_types.specs.declared.filter.FilterKind.{FilterKind}
use Rattle.damon_types.specs.declared.filter.FilterKind.TheVariants.{Addr, Target, Class}
use Rattle.damon_types.specs.declared.range.RangeSpec.{RangeSpec}
use Rattle.damon_types.specs.declared.scheme.CostPart.{CostPart}
use Rattle.damon_types.specs.declared.scheme.Scheme.{Scheme}
use Rattle.damon_types.specs.declared.scheme.SlotChange.{SlotChange}
use Rattle.damon_types.specs.declared.scheme.Span.{Span}
use Rattle.script_lines.specs.declared.keys.Setting.{Setting}
use Rattle.script_lines.specs.declared.keys.Setting.TheVariants.{Size as SizeOf, Count as CountOf, Age as AgeOf, Quota as QuotaOf, Time as TimeOf, Weights as WeightsOf, Prefer as PreferOf, Marks as MarksOf, Filter as FilterOf}

-- three fields of 32 bits
abbrev pub FitsAttrs : Attrs → Type 0
FitsAttrs a = (a.min < 2 ^ 32) × (a.max < 2 ^ 32) × (a.aggr < 2 ^ 32)

-- a target of 32 bits, two addresses and a class of 8 bits
abbrev pub FitsRange : RangeSpec → Type 0
FitsRange r = (r.target < 2 ^ 32) × (r.from < 2 ^ 64) × (r.to < 2 ^ 64) × (r.class < 2 ^ 8)

-- a slot of 8 bits and nanoseconds of 64
abbrev pub FitsCost : CostPart → Type 0
FitsCost cost = (cost.slot < 2 ^ 8) × (cost.nanos < 2 ^ 64)

-- two fields of 32 bits
abbrev pub FitsSpan : Span → Type 0
FitsSpan s = (s.low < 2 ^ 32) × (s.high < 2 ^ 32)

-- two addresses, a target of 32 bits, or a class of 8 bits
abbrev pub FitsKind : FilterKind → Type 0
FitsKind (Addr from to) = (from < 2 ^ 64) × (to < 2 ^ 64)
FitsKind (Target target) = target < 2 ^ 32
FitsKind (Class class) = class < 2 ^ 8

-- the value of a setting is within its fields; the time of a quota is a setting of its own
abbrev pub FitsSetting : Setting → Type 0
FitsSetting (SizeOf span) = FitsSpan span
FitsSetting (CountOf span) = FitsSpan span
FitsSetting (AgeOf span) = FitsSpan span
FitsSetting (QuotaOf q) = (q.bytes < 2 ^ 64) × (q.reset < 2 ^ 32) × (q.time ≡ None)
FitsSetting (TimeOf time) = time < 2 ^ 64
FitsSetting (WeightsOf w) = (w.size < 2 ^ 16) × (w.count < 2 ^ 16) × (w.age < 2 ^ 16)
FitsSetting (PreferOf prefer) = Unit {0}
FitsSetting (MarksOf m) = (m.high < 2 ^ 32) × (m.mid < 2 ^ 32) × (m.low < 2 ^ 32)
FitsSetting (FilterOf filter) = FitsKind filter.kind

-- a scheme as its type has it: each number is within its field, and its filters within their list
pub record FitsScheme (s : Scheme) : Type 0 where
  pub size : FitsSpan s.pattern.size
  pub count : FitsSpan s.pattern.count
  pub age : FitsSpan s.pattern.age
  pub quota : IfSome s.quota (λ q. (q.bytes < 2 ^ 64) × (q.reset < 2 ^ 32) × IfSome q.time (λ time. time < 2 ^ 64))
  pub weights : (s.weights.size < 2 ^ 16) × (s.weights.count < 2 ^ 16) × (s.weights.age < 2 ^ 16)
  pub marks : IfSome s.marks (λ m. (m.high < 2 ^ 32) × (m.mid < 2 ^ 32) × (m.low < 2 ^ 32))
  pub filters : All (λ f. FitsKind f.kind) s.filters
  pub few : length s.filters ≤ MAX_FILTERS

-- a slot change as its type has it
pub record FitsChange (c : SlotChange) : Type 0 where
  pub small : c.slot < 2 ^ 8
  pub fits : IfSome c.scheme FitsScheme
