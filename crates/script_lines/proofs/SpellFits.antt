-- What is read is within its fields.
use Rattle.std.proofs.Common.{◌≡◌, ◌∷◌, [], ◌^◌, ◌<◌, ℕ, List, codes, None, Ok, refl, subst}
use Rattle.std.specs.List.{AllByRecursion}
use Rattle.std.specs.Option.{ok_or}
use Rattle.damon_types.specs.declared.attrs.Attrs.{Attrs}
use Rattle.damon_types.specs.declared.filter.Filter.{Filter}
use Rattle.damon_types.specs.declared.filter.FilterKind.{FilterKind}
use Rattle.damon_types.specs.declared.filter.FilterKind.TheVariants.{Addr, Target, Class}
use Rattle.damon_types.specs.declared.range.RangeSpec.{RangeSpec}
use Rattle.damon_types.specs.declared.scheme.CostPart.{CostPart}
use Rattle.damon_types.specs.declared.scheme.Marks.{Marks}
use Rattle.damon_types.specs.declared.scheme.Quota.{Quota}
use Rattle.damon_types.specs.declared.scheme.Span.{Span}
use Rattle.damon_types.specs.declared.scheme.Weights.{Weights}
use Rattle.line_text.specs.Parts.{one_of, parts, two_of, three_of, four_of}
use Rattle.script_lines.specs.declared.kind.ScriptKind.TheVariants.{Form}
use Rattle.script_lines.specs.declared.keys.Key.{Key}
use Rattle.script_lines.specs.declared.keys.Key.TheVariants.{Size, Count, Age, Quota as QuotaKey, Time as TimeKey, Weights as WeightsKey, Prefer as PreferKey, Marks as MarksKey, Filter as FilterKey}
use Rattle.script_lines.specs.declared.keys.Setting.{Setting}
use Rattle.script_lines.specs.declared.keys.Setting.TheVariants.{Size as SizeOf, Count as CountOf, Age as AgeOf, Quota as QuotaOf, Time as TimeOf, Weights as WeightsOf, Prefer as PreferOf, Marks as MarksOf, Filter as FilterOf}
use Rattle.script_lines.specs.Fields.{attrs_in, cost_in, range_in}
use Rattle.script_lines.specs.Fits.{FitsAttrs, FitsCost, FitsKind, FitsRange, FitsSetting, FitsSpan}
use Rattle.script_lines.specs.Keys.{addr_of, answer_of, filter_of, key_and_value, kind_of, marks_of, plain_name, prefer_of, quota_of, setting_for, setting_of, settings_of, span_in, time_of, weights_of}
use Rattle.script_lines.specs.Refusal.{◌>>=◌}
use Rattle.script_lines.specs.Separators.{colon, comma, dash}
use Rattle.script_lines.specs.Words.{byte_address, number_8, number_16, number_32, number_64, same_word}
use Rattle.script_lines.proofs.SpellSteps.{bind-Ok, either_way}
use Rattle.script_lines.proofs.SpellWords.{byte_address-small, number_8-small, number_16-small, number_32-small, number_64-small}

pub attrs_in-fits : (words : List (List ℕ)) (attrs : Attrs) → attrs_in words ≡ Ok attrs → FitsAttrs attrs
attrs_in-fits words attrs e =
    let fields = bind-Ok (ok_or (three_of words) Form) _ attrs e in
    let least = bind-Ok (number_32 fields.0.0) _ attrs fields.2 in
    let most = bind-Ok (number_32 fields.0.1) _ attrs least.2 in
    let aggr = bind-Ok (number_32 fields.0.2) _ attrs most.2 in
    let is : record { min = least.0; max = most.0; aggr = aggr.0 } ≡ attrs = cc in
    subst FitsAttrs is (number_32-small fields.0.0 least.0 least.1, number_32-small fields.0.1 most.0 most.1, number_32-small fields.0.2 aggr.0 aggr.1)

pub range_in-fits : (words : List (List ℕ)) (range : RangeSpec) → range_in words ≡ Ok range → FitsRange range
range_in-fits words range e =
    let fields = bind-Ok (ok_or (four_of words) Form) _ range e in
    let target = bind-Ok (number_32 fields.0.0) _ range fields.2 in
    let from = bind-Ok (byte_address fields.0.1) _ range target.2 in
    let to = bind-Ok (byte_address fields.0.2) _ range from.2 in
    let class = bind-Ok (number_8 fields.0.3) _ range to.2 in
    let is : record { target = target.0; from = from.0; to = to.0; class = class.0 } ≡ range = cc in
    subst FitsRange is (
      number_32-small fields.0.0 target.0 target.1,
      byte_address-small fields.0.1 from.0 from.1,
      byte_address-small fields.0.2 to.0 to.1,
      number_8-small fields.0.3 class.0 class.1,
    )

pub cost_in-fits : (words : List (List ℕ)) (cost : CostPart) → cost_in words ≡ Ok cost → FitsCost cost
cost_in-fits words cost e =
    let fields = bind-Ok (ok_or (two_of words) Form) _ cost e in
    let slot = bind-Ok (number_8 fields.0.0) _ cost fields.2 in
    let nanos = bind-Ok (number_64 fields.0.1) _ cost slot.2 in
    let is : record { slot = slot.0; nanos = nanos.0 } ≡ cost = cc in
    subst FitsCost is (number_8-small fields.0.0 slot.0 slot.1, number_64-small fields.0.1 nanos.0 nanos.1)

span_in-fits : (value : List ℕ) (span : Span) → span_in value ≡ Ok span → FitsSpan span
span_in-fits value span e =
    let ends = bind-Ok (ok_or (two_of (parts comma value)) Form) _ span e in
    let low = bind-Ok (number_32 ends.0.0) _ span ends.2 in
    let high = bind-Ok (number_32 ends.0.1) _ span low.2 in
    let is : record { low = low.0; high = high.0 } ≡ span = cc in
    subst FitsSpan is (number_32-small ends.0.0 low.0 low.1, number_32-small ends.0.1 high.0 high.1)

quota_of-fits : (value : List ℕ) (quota : Quota) → quota_of value ≡ Ok quota → FitsSetting (QuotaOf quota)
quota_of-fits value quota e =
    let fields = bind-Ok (ok_or (two_of (parts comma value)) Form) _ quota e in
    let bytes = bind-Ok (number_64 fields.0.0) _ quota fields.2 in
    let reset = bind-Ok (number_32 fields.0.1) _ quota bytes.2 in
    let is : record { bytes = bytes.0; reset = reset.0; time = None } ≡ quota = cc in
    let P : Quota → Type 0 = λ q. FitsSetting (QuotaOf q) in
    subst P is (number_64-small fields.0.0 bytes.0 bytes.1, number_32-small fields.0.1 reset.0 reset.1, refl)

time_of-fits : (value : List ℕ) (time : ℕ) → time_of value ≡ Ok time → time < 2 ^ 64
time_of-fits value time e =
    let word = bind-Ok (ok_or (one_of (parts comma value)) Form) _ time e in
    number_64-small word.0 time word.2

weights_of-fits : (value : List ℕ) (weights : Weights) → weights_of value ≡ Ok weights → FitsSetting (WeightsOf weights)
weights_of-fits value weights e =
    let fields = bind-Ok (ok_or (three_of (parts comma value)) Form) _ weights e in
    let size = bind-Ok (number_16 fields.0.0) _ weights fields.2 in
    let count = bind-Ok (number_16 fields.0.1) _ weights size.2 in
    let age = bind-Ok (number_16 fields.0.2) _ weights count.2 in
    let is : record { size = size.0; count = count.0; age = age.0 } ≡ weights = cc in
    let P : Weights → Type 0 = λ w. FitsSetting (WeightsOf w) in
    subst P is (number_16-small fields.0.0 size.0 size.1, number_16-small fields.0.1 count.0 count.1, number_16-small fields.0.2 age.0 age.1)

marks_of-fits : (value : List ℕ) (marks : Marks) → marks_of value ≡ Ok marks → FitsSetting (MarksOf marks)
marks_of-fits value marks e =
    let fields = bind-Ok (ok_or (three_of (parts comma value)) Form) _ marks e in
    let high = bind-Ok (number_32 fields.0.0) _ marks fields.2 in
    let mid = bind-Ok (number_32 fields.0.1) _ marks high.2 in
    let low = bind-Ok (number_32 fields.0.2) _ marks mid.2 in
    let is : record { high = high.0; mid = mid.0; low = low.0 } ≡ marks = cc in
    let P : Marks → Type 0 = λ m. FitsSetting (MarksOf m) in
    subst P is (number_32-small fields.0.0 high.0 high.1, number_32-small fields.0.1 mid.0 mid.1, number_32-small fields.0.2 low.0 low.1)

addr_of-fits : (value : List ℕ) (kind : FilterKind) → addr_of value ≡ Ok kind → FitsKind kind
addr_of-fits value kind e =
    let ends = bind-Ok (ok_or (two_of (parts dash value)) Form) _ kind e in
    let from = bind-Ok (byte_address ends.0.0) _ kind ends.2 in
    let to = bind-Ok (byte_address ends.0.1) _ kind from.2 in
    let is : Addr from.0 to.0 ≡ kind = cc in
    subst FitsKind is (byte_address-small ends.0.0 from.0 from.1, byte_address-small ends.0.1 to.0 to.1)

target_of-fits : (value : List ℕ) (kind : FilterKind) → (number_32 value >>= λ target. Ok (Target target)) ≡ Ok kind → FitsKind kind
target_of-fits value kind e =
    let target = bind-Ok (number_32 value) _ kind e in
    let is : Target target.0 ≡ kind = cc in
    subst FitsKind is (number_32-small value target.0 target.1)

class_of-fits : (value : List ℕ) (kind : FilterKind) → (number_8 value >>= λ class. Ok (Class class)) ≡ Ok kind → FitsKind kind
class_of-fits value kind e =
    let class = bind-Ok (number_8 value) _ kind e in
    let is : Class class.0 ≡ kind = cc in
    subst FitsKind is (number_8-small value class.0 class.1)

kind_of-fits : (name value : List ℕ) (kind : FilterKind) → kind_of name value ≡ Ok kind → FitsKind kind
kind_of-fits name value kind e =
    either_way (same_word name (codes "addr")) _ _ _ (addr_of-fits value kind)
    (either_way (same_word name (codes "target")) _ _ _ (target_of-fits value kind)
    (either_way (same_word name (codes "class")) _ _ _ (class_of-fits value kind) (λ none. absurd cc))) e

filter_of-fits : (value : List ℕ) (filter : Filter) → filter_of value ≡ Ok filter → FitsKind filter.kind
filter_of-fits value filter e =
    let fields = bind-Ok (ok_or (three_of (parts colon value)) Form) _ filter e in
    let allow = bind-Ok (answer_of fields.0.0) _ filter fields.2 in
    let kind = bind-Ok (kind_of (plain_name fields.0.1).1 fields.0.2) _ filter allow.2 in
    let is : record { allow = allow.0; matching = (plain_name fields.0.1).0; kind = kind.0 } ≡ filter = cc in
    let P : Filter → Type 0 = λ f. FitsKind f.kind in
    subst P is (kind_of-fits (plain_name fields.0.1).1 fields.0.2 kind.0 kind.1)

setting_for-fits : (key : Key) (value : List ℕ) (setting : Setting) → setting_for key value ≡ Ok setting → FitsSetting setting
setting_for-fits Size value setting e =
    let x = bind-Ok (span_in value) _ setting e in
    let is : SizeOf x.0 ≡ setting = cc in
    subst FitsSetting is (span_in-fits value x.0 x.1)
setting_for-fits Count value setting e =
    let x = bind-Ok (span_in value) _ setting e in
    let is : CountOf x.0 ≡ setting = cc in
    subst FitsSetting is (span_in-fits value x.0 x.1)
setting_for-fits Age value setting e =
    let x = bind-Ok (span_in value) _ setting e in
    let is : AgeOf x.0 ≡ setting = cc in
    subst FitsSetting is (span_in-fits value x.0 x.1)
setting_for-fits QuotaKey value setting e =
    let x = bind-Ok (quota_of value) _ setting e in
    let is : QuotaOf x.0 ≡ setting = cc in
    subst FitsSetting is (quota_of-fits value x.0 x.1)
setting_for-fits TimeKey value setting e =
    let x = bind-Ok (time_of value) _ setting e in
    let is : TimeOf x.0 ≡ setting = cc in
    subst FitsSetting is (time_of-fits value x.0 x.1)
setting_for-fits WeightsKey value setting e =
    let x = bind-Ok (weights_of value) _ setting e in
    let is : WeightsOf x.0 ≡ setting = cc in
    subst FitsSetting is (weights_of-fits value x.0 x.1)
setting_for-fits PreferKey value setting e =
    let x = bind-Ok (prefer_of value) _ setting e in
    let is : PreferOf x.0 ≡ setting = cc in
    subst FitsSetting is tt
setting_for-fits MarksKey value setting e =
    let x = bind-Ok (marks_of value) _ setting e in
    let is : MarksOf x.0 ≡ setting = cc in
    subst FitsSetting is (marks_of-fits value x.0 x.1)
setting_for-fits FilterKey value setting e =
    let x = bind-Ok (filter_of value) _ setting e in
    let is : FilterOf x.0 ≡ setting = cc in
    subst FitsSetting is (filter_of-fits value x.0 x.1)

setting_of-fits : (word : List ℕ) (setting : Setting) → setting_of word ≡ Ok setting → FitsSetting setting
setting_of-fits word setting e =
    let both = bind-Ok (key_and_value word) _ setting e in
    setting_for-fits both.0.0 both.0.1 setting both.2

pub settings_of-fit : (words : List (List ℕ)) (settings : List Setting) → settings_of words ≡ Ok settings → AllByRecursion FitsSetting settings
settings_of-fit [] settings e = let none : [] ≡ settings = cc in subst (AllByRecursion FitsSetting) none tt
settings_of-fit (word ∷ words) settings e =
    let first = bind-Ok (setting_of word) _ settings e in
    let others = bind-Ok (settings_of words) _ settings first.2 in
    let is : first.0 ∷ others.0 ≡ settings = cc in
    subst (AllByRecursion FitsSetting) is (setting_of-fits word first.0 first.1, settings_of-fit words others.0 others.1)
