-- The settings of a scheme: their order, and what they make of the action's default.
use Rattle.std.specs.Prelude.{◌≡◌, ◌⊎◌, ℕ, ◌-◌, ◌^◌, ◌<◌, nat_lt, List, [], ◌∷◌, ◌++◌, length, Option, Some, None, option_map, Result, Ok, Err, if◌then◌else◌}
use Rattle.damon_types.specs.declared.scheme.Action.{Action}
use Rattle.damon_types.specs.declared.scheme.Prefer.TheVariants.{Hot}
use Rattle.damon_types.specs.declared.scheme.Quota.{Quota}
use Rattle.damon_types.specs.declared.scheme.Scheme.{Scheme}
use Rattle.damon_types.specs.declared.scheme.Span.{Span}
use Rattle.damon_types.specs.declared.scheme.Version.{Version}
use Rattle.damon_types.specs.declared.scheme.Version.TheVariants.{Two}
use Rattle.script_lines.specs.declared.kind.ScriptKind.{ScriptKind}
use Rattle.script_lines.specs.declared.kind.ScriptKind.TheVariants.{Limit}
use Rattle.script_lines.specs.declared.keys.Key.{Key}
use Rattle.script_lines.specs.declared.keys.Key.TheVariants.{Size, Count, Age, Quota as QuotaKey, Time as TimeKey, Weights as WeightsKey, Prefer as PreferKey, Marks as MarksKey, Filter as FilterKey}
use Rattle.script_lines.specs.declared.keys.Setting.{Setting}
use Rattle.script_lines.specs.declared.keys.Setting.TheVariants.{Size as SizeOf, Count as CountOf, Age as AgeOf, Quota as QuotaOf, Time as TimeOf, Weights as WeightsOf, Prefer as PreferOf, Marks as MarksOf, Filter as FilterOf}
use Rattle.script_lines.specs.Refusal.{◌>>=◌}

-- the place of a key in the order of keys
abbrev pub key_place : Key → ℕ
key_place Size = 0
key_place Count = 1
key_place Age = 2
key_place QuotaKey = 3
key_place TimeKey = 4
key_place WeightsKey = 5
key_place PreferKey = 6
key_place MarksKey = 7
key_place FilterKey = 8

-- the key of a setting
abbrev pub key_of : Setting → Key
key_of (SizeOf span) = Size
key_of (CountOf span) = Count
key_of (AgeOf span) = Age
key_of (QuotaOf quota) = QuotaKey
key_of (TimeOf time) = TimeKey
key_of (WeightsOf weights) = WeightsKey
key_of (PreferOf prefer) = PreferKey
key_of (MarksOf marks) = MarksKey
key_of (FilterOf filter) = FilterKey

-- a setting comes later than the one before it, if any: its key has a later place, or both are filters
abbrev pub ComesLater : Option Setting → Setting → Type 0
ComesLater None later = Unit {0}
ComesLater (Some earlier) later =
    (key_place (key_of earlier) < key_place (key_of later))
    ⊎ ((key_of earlier ≡ FilterKey) × (key_of later ≡ FilterKey))

-- a setting may follow the one before it, if any; a time stands directly after the quota, and in version Two alone
pub record MayFollow (version : Version) (earlier : Option Setting) (later : Setting) : Type 0 where
  pub comes_later : ComesLater earlier later
  pub timed : key_of later ≡ TimeKey → (version ≡ Two) × (option_map key_of earlier ≡ Some QuotaKey)

-- settings after another, if any, stand in the order of their keys, and only the filter repeats
abbrev pub AreAfter : Version → Option Setting → List Setting → Type 0
AreAfter version last [] = Unit {0}
AreAfter version last (setting ∷ more) = MayFollow version last setting × AreAfter version (Some setting) more

-- the scheme of an action with each key at its default
abbrev pub default_scheme : Action → Scheme
default_scheme action = record {
  action = action;
  pattern = record { size = any; count = any; age = any };
  quota = None;
  weights = record { size = 1; count = 1; age = 1 };
  prefer = Hot;
  marks = None;
  filters = [];
}
  where
    any : Span
    any = record { low = 0; high = 2 ^ 32 - 1 }

-- a scheme with one more setting: a time is that of the quota, if there is one, and a ninth filter is refused
abbrev pub with_setting : Scheme → Setting → Result Scheme ScriptKind
with_setting s (SizeOf x) = Ok (record s { pattern = record s.pattern { size = x } })
with_setting s (CountOf x) = Ok (record s { pattern = record s.pattern { count = x } })
with_setting s (AgeOf x) = Ok (record s { pattern = record s.pattern { age = x } })
with_setting s (QuotaOf x) = Ok (record s { quota = Some x })
with_setting s (TimeOf x) = Ok (record s { quota = option_map (λ (q : Quota). record q { time = Some x }) s.quota })
with_setting s (WeightsOf x) = Ok (record s { weights = x })
with_setting s (PreferOf x) = Ok (record s { prefer = x })
with_setting s (MarksOf x) = Ok (record s { marks = Some x })
with_setting s (FilterOf x) =
    if nat_lt (length s.filters) 8 then Ok (record s { filters = s.filters ++ x ∷ [] }) else Err Limit

-- a scheme with these settings, one after another
abbrev pub settled : Scheme → List Setting → Result Scheme ScriptKind
settled scheme [] = Ok scheme
settled scheme (setting ∷ settings) = with_setting scheme setting >>= λ s. settled s settings
