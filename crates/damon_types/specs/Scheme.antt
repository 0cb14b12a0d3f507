-- The limits of schemes.
use Rattle.std.specs.Prelude.{ℕ, ◌%◌, Bool, ◌&&◌, ◌==◌, true, not, nat_lt, nat_le, List, position, Option, Some, None, Result, Ok, Err, if◌then◌else◌}
use Rattle.std.specs.Option.{option_map_or}
use Rattle.std.specs.Option.{is_some}
use Rattle.std.specs.Result.{result_and}
use Rattle.damon_types.specs.declared.range.TheConstants.{MAX_CLASS}
use Rattle.damon_types.specs.declared.scheme.TheConstants.{MAX_SLOT}
use Rattle.damon_types.specs.declared.space.TheConstants.{PAGE_SIZE}
use Rattle.damon_types.specs.declared.filter.Filter.{Filter}
use Rattle.damon_types.specs.declared.filter.FilterKind.{FilterKind}
use Rattle.damon_types.specs.declared.filter.FilterKind.TheVariants.{Addr, Target, Class}
use Rattle.damon_types.specs.declared.scheme.Marks.{Marks}
use Rattle.damon_types.specs.declared.scheme.Pattern.{Pattern}
use Rattle.damon_types.specs.declared.scheme.Quota.{Quota}
use Rattle.damon_types.specs.declared.scheme.Scheme.{Scheme}
use Rattle.damon_types.specs.declared.scheme.Version.{Version}
use Rattle.damon_types.specs.declared.scheme.Version.TheVariants.{One, Two}
use Rattle.damon_types.specs.declared.scheme.SchemeFault.{SchemeFault}
use Rattle.damon_types.specs.declared.scheme.SchemeFault.TheVariants.{SlotOutOfRange, PatternReversed, ZeroReset, MarksOutOfOrder, BadFilter, TimeInOne}

-- the first part of a pattern whose ends are reversed
abbrev pub checked_pattern : Pattern → Result (Unit {0}) SchemeFault
checked_pattern p =
    if nat_lt p.size.high p.size.low then Err (PatternReversed 0)
    else if nat_lt p.count.high p.count.low then Err (PatternReversed 1)
    else if nat_lt p.age.high p.age.low then Err (PatternReversed 2)
    else Ok tt

-- a quota has a reset interval of at least one tick
abbrev pub checked_quota : Option Quota → Result (Unit {0}) SchemeFault
checked_quota quota = option_map_or (λ q. if q.reset == 0 then Err ZeroReset else Ok tt) quota (Ok tt)

-- watermarks fall from high over mid to low
abbrev pub checked_marks : Option Marks → Result (Unit {0}) SchemeFault
checked_marks marks = option_map_or (λ m. if nat_le m.mid m.high && nat_le m.low m.mid then Ok tt else Err MarksOutOfOrder) marks (Ok tt)

-- whether the addresses are multiples of the page size and in order, or the class is within its limit
abbrev pub is_filter : FilterKind → Bool
is_filter (Addr from to) = (from % PAGE_SIZE == 0) && ((to % PAGE_SIZE == 0) && nat_lt from to)
is_filter (Target target) = true
is_filter (Class class) = nat_le class MAX_CLASS

-- the index of the first filter that breaks a limit, if there is one
abbrev pub bad_filter : List Filter → Option ℕ
bad_filter filters = position (λ f. not (is_filter f.kind)) filters

-- the refusal of the filter with an index
abbrev pub filter_fault : Option ℕ → Result (Unit {0}) SchemeFault
filter_fault found = option_map_or (λ index. Err (BadFilter index)) found (Ok tt)

-- the first limit that a scheme for a slot breaks, in the order of SchemeFault
abbrev pub checked_scheme : ℕ → Scheme → Result (Unit {0}) SchemeFault
checked_scheme slot s =
    if nat_lt MAX_SLOT slot then Err (SlotOutOfRange slot)
    else result_and (checked_pattern s.pattern)
    (result_and (checked_quota s.quota) (result_and (checked_marks s.marks) (filter_fault (bad_filter s.filters))))

-- a quota has a time in version Two alone
abbrev pub checked_time : Version → Option Quota → Result (Unit {0}) SchemeFault
checked_time version None = Ok tt
checked_time Two (Some q) = Ok tt
checked_time One (Some q) = if is_some q.time then Err TimeInOne else Ok tt

-- the first limit that a scheme for a slot breaks in a version: its time comes last
abbrev pub checked_in : Version → ℕ → Scheme → Result (Unit {0}) SchemeFault
checked_in version slot s = result_and (checked_scheme slot s) (checked_time version s.quota)
