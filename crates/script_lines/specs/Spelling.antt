-- The one spelling of each part of a script.
use Rattle.std.specs.Prelude.{ℕ, Bool, true, false, List, [], ◌∷◌, ◌++◌, map, codes}
use Rattle.std.specs.Fmt.{decimal}
use Rattle.damon_types.specs.Actions.{action_name}
use Rattle.damon_types.specs.declared.attrs.Attrs.{Attrs}
use Rattle.damon_types.specs.declared.filter.Filter.{Filter}
use Rattle.damon_types.specs.declared.filter.FilterKind.{FilterKind}
use Rattle.damon_types.specs.declared.filter.FilterKind.TheVariants.{Addr, Target as TargetKind, Class}
use Rattle.damon_types.specs.declared.range.RangeSpec.{RangeSpec}
use Rattle.damon_types.specs.declared.scheme.Action.{Action}
use Rattle.damon_types.specs.declared.scheme.CostPart.{CostPart}
use Rattle.damon_types.specs.declared.scheme.Marks.{Marks}
use Rattle.damon_types.specs.declared.scheme.Prefer.{Prefer}
use Rattle.damon_types.specs.declared.scheme.Prefer.TheVariants.{Hot, Cold}
use Rattle.damon_types.specs.declared.scheme.Span.{Span}
use Rattle.damon_types.specs.declared.scheme.Weights.{Weights}
use Rattle.damon_types.specs.declared.space.Target.{Target}
use Rattle.line_text.specs.Address.{spelled_address}
use Rattle.line_text.specs.Parts.{joined}
use Rattle.script_lines.specs.declared.keys.Setting.{Setting}
use Rattle.script_lines.specs.declared.keys.Setting.TheVariants.{Size as SizeOf, Count as CountOf, Age as AgeOf, Quota as QuotaOf, Time as TimeOf, Weights as WeightsOf, Prefer as PreferOf, Marks as MarksOf, Filter as FilterOf}

-- words with a space between each two
abbrev pub spaced : List (List ℕ) → List ℕ
spaced words = joined 32 words

-- values with a comma between each two
abbrev pub listed : List (List ℕ) → List ℕ
listed values = joined 44 values

-- `attrs MIN MAX AGGR`
abbrev pub spelled_attrs : Attrs → List ℕ
spelled_attrs a = spaced (codes "attrs" ∷ decimal a.min ∷ decimal a.max ∷ decimal a.aggr ∷ [])

-- `target BASE PAGES`
abbrev pub spelled_target : Target → List ℕ
spelled_target t = spaced (codes "target" ∷ spelled_address t.base ∷ decimal t.pages ∷ [])

-- `range TARGET FROM TO CLASS`
abbrev pub spelled_range : RangeSpec → List ℕ
spelled_range r =
    spaced (codes "range" ∷ decimal r.target ∷ spelled_address r.from ∷ spelled_address r.to ∷ decimal r.class ∷ [])

-- `cost SLOT NANOSECONDS`
abbrev pub spelled_cost : CostPart → List ℕ
spelled_cost cost = spaced (codes "cost" ∷ decimal cost.slot ∷ decimal cost.nanos ∷ [])

-- `LOW,HIGH`
abbrev pub spelled_span : Span → List ℕ
spelled_span s = listed (decimal s.low ∷ decimal s.high ∷ [])

-- `SIZE,COUNT,AGE`
abbrev pub spelled_weights : Weights → List ℕ
spelled_weights w = listed (decimal w.size ∷ decimal w.count ∷ decimal w.age ∷ [])

-- `HIGH,MID,LOW`
abbrev pub spelled_marks : Marks → List ℕ
spelled_marks m = listed (decimal m.high ∷ decimal m.mid ∷ decimal m.low ∷ [])

-- `hot` or `cold`
abbrev pub spelled_prefer : Prefer → List ℕ
spelled_prefer Hot = codes "hot"
spelled_prefer Cold = codes "cold"

-- `allow` or `reject`
abbrev pub spelled_answer : Bool → List ℕ
spelled_answer true = codes "allow"
spelled_answer false = codes "reject"

-- what stands before the name of a kind: nothing, or `not-` for all other pages
abbrev pub spelled_side : Bool → List ℕ
spelled_side true = []
spelled_side false = codes "not-"

-- the name of a kind of pages
abbrev pub kind_name : FilterKind → List ℕ
kind_name (Addr from to) = codes "addr"
kind_name (TargetKind target) = codes "target"
kind_name (Class class) = codes "class"

-- the pages of a kind: `FROM-TO`, `TARGET` or `CLASS`
abbrev pub kind_value : FilterKind → List ℕ
kind_value (Addr from to) = spelled_address from ++ (codes "-" ++ spelled_address to)
kind_value (TargetKind target) = decimal target
kind_value (Class class) = decimal class

-- `ANSWER:[not-]KIND:VALUE`
abbrev pub spelled_filter : Filter → List ℕ
spelled_filter f =
    spelled_answer f.allow ++ (codes ":" ++ ((spelled_side f.matching ++ kind_name f.kind) ++ (codes ":" ++ kind_value f.kind)))

-- `KEY=VALUE`; the time of a quota is a setting of its own
abbrev pub spelled_setting : Setting → List ℕ
spelled_setting (SizeOf span) = codes "size=" ++ spelled_span span
spelled_setting (CountOf span) = codes "count=" ++ spelled_span span
spelled_setting (AgeOf span) = codes "age=" ++ spelled_span span
spelled_setting (QuotaOf quota) = codes "quota=" ++ listed (decimal quota.bytes ∷ decimal quota.reset ∷ [])
spelled_setting (TimeOf time) = codes "time=" ++ decimal time
spelled_setting (WeightsOf w) = codes "weights=" ++ spelled_weights w
spelled_setting (PreferOf prefer) = codes "prefer=" ++ spelled_prefer prefer
spelled_setting (MarksOf m) = codes "marks=" ++ spelled_marks m
spelled_setting (FilterOf filter) = codes "filter=" ++ spelled_filter filter

-- `scheme SLOT ACTION KEYS`
abbrev pub spelled_scheme : ℕ → Action → List Setting → List ℕ
spelled_scheme slot action settings =
    spaced (codes "scheme" ∷ decimal slot ∷ action_name action ∷ map spelled_setting settings)
