-- The one spelling of a slot change: the settings of its scheme that are written.
use Rattle.std.specs.Prelude.{ℕ, ◌-◌, ◌^◌, Bool, true, false, ◌&&◌, ◌==◌, List, [], ◌∷◌, ◌++◌, map, Option, Some, None, codes}
use Rattle.std.specs.Fmt.{decimal}
use Rattle.damon_types.specs.declared.scheme.Marks.{Marks}
use Rattle.damon_types.specs.declared.scheme.Pattern.{Pattern}
use Rattle.damon_types.specs.declared.scheme.Prefer.{Prefer}
use Rattle.damon_types.specs.declared.scheme.Prefer.TheVariants.{Hot, Cold}
use Rattle.damon_types.specs.declared.scheme.Quota.{Quota}
use Rattle.damon_types.specs.declared.scheme.Scheme.{Scheme}
use Rattle.damon_types.specs.declared.scheme.SlotChange.{SlotChange}
use Rattle.damon_types.specs.declared.scheme.Span.{Span}
use Rattle.damon_types.specs.declared.scheme.Weights.{Weights}
use Rattle.script_lines.specs.declared.keys.Setting.{Setting}
use Rattle.script_lines.specs.declared.keys.Setting.TheVariants.{Size as SizeOf, Count as CountOf, Age as AgeOf, Quota as QuotaOf, Time as TimeOf, Weights as WeightsOf, Prefer as PreferOf, Marks as MarksOf, Filter as FilterOf}
use Rattle.script_lines.specs.Spelling.{spelled_scheme}

-- a setting, unless its value is the default of its key
abbrev pub unless : Bool → Setting → List Setting
unless true setting = []
unless false setting = setting ∷ []

-- whether a span holds each number, which is the default
abbrev pub is_any : Span → Bool
is_any span = (span.low == 0) && (span.high == 2 ^ 32 - 1)

-- whether the weights are the default
abbrev pub are_even : Weights → Bool
are_even w = (w.size == 1) && ((w.count == 1) && (w.age == 1))

-- the settings of a pattern
abbrev pub pattern_given : Pattern → List Setting
pattern_given p =
    unless (is_any p.size) (SizeOf p.size) ++ (unless (is_any p.count) (CountOf p.count) ++ unless (is_any p.age) (AgeOf p.age))

-- the setting of a time, if there is one
abbrev pub time_given : Option ℕ → List Setting
time_given None = []
time_given (Some time) = TimeOf time ∷ []

-- the settings of a quota, if there is one: its bytes and reset interval, and its time
abbrev pub quota_given : Option Quota → List Setting
quota_given None = []
quota_given (Some quota) = QuotaOf (record quota { time = None }) ∷ time_given quota.time

-- the setting of the preference, where it is not `hot`
abbrev pub prefer_given : Prefer → List Setting
prefer_given Hot = []
prefer_given Cold = PreferOf Cold ∷ []

-- the setting of watermarks, if there are some
abbrev pub marks_given : Option Marks → List Setting
marks_given None = []
marks_given (Some marks) = MarksOf marks ∷ []

-- the settings of a scheme in the order of their keys, but for those whose value is the default
abbrev pub settings_given : Scheme → List Setting
settings_given s =
    pattern_given s.pattern
    ++ (quota_given s.quota
    ++ (unless (are_even s.weights) (WeightsOf s.weights)
    ++ (prefer_given s.prefer ++ (marks_given s.marks ++ map (λ f. FilterOf f) s.filters))))

-- the line of a slot that gets this scheme, or is emptied
abbrev pub slot_line : ℕ → Option Scheme → List ℕ
slot_line slot None = codes "drop " ++ decimal slot
slot_line slot (Some s) = spelled_scheme slot s.action (settings_given s)

-- the line of a slot change
abbrev pub change_text : SlotChange → List ℕ
change_text c = slot_line c.slot c.scheme
