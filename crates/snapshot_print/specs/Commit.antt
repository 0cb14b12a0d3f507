-- What the line of a commit says.
use Rattle.std.specs.Prelude.{ℕ, List, Result, Ok, Err, codes}
use Rattle.std.specs.Fmt.{decimal}
use Rattle.damon_types.specs.declared.attrs.AttrsFault.{AttrsFault}
use Rattle.damon_types.specs.declared.attrs.AttrsFault.TheVariants.{MinTooSmall, MinOverMax, AggrOutOfRange}
use Rattle.damon_types.specs.declared.scheme.SchemeFault.{SchemeFault}
use Rattle.damon_types.specs.declared.scheme.SchemeFault.TheVariants.{SlotOutOfRange, PatternReversed, ZeroReset}
use Rattle.damon_types.specs.declared.scheme.SchemeFault.TheVariants.{MarksOutOfOrder, BadFilter, TimeInOne}
use Rattle.target_ranges.specs.declared.fault.RangeWhy.{RangeWhy}
use Rattle.target_ranges.specs.declared.fault.RangeWhy.TheVariants.{TooMany, NoSuchTarget, Unaligned, Reversed}
use Rattle.target_ranges.specs.declared.fault.RangeWhy.TheVariants.{OutsideSpan, TooSmall, BadClass, Overlap}
use Rattle.live_commit.specs.declared.fault.CommitFault.{CommitFault}
use Rattle.live_commit.specs.declared.fault.CommitFault.TheVariants.{Busy, NoRange, BadRange, RangesOverMax}
use Rattle.live_commit.specs.declared.fault.CommitFault.TheVariants.{BadAttrs, OverCap, BadScheme, BadCost}
use Rattle.damon_core.specs.declared.changed.Changed.{Changed}
use Rattle.snapshot_print.specs.Fields.{◌then◌, yes_or_no}

-- the word of the reason why a range is rejected
abbrev pub range_why : RangeWhy → List ℕ
range_why TooMany = codes "too-many"
range_why NoSuchTarget = codes "no-such-target"
range_why Unaligned = codes "unaligned"
range_why Reversed = codes "reversed"
range_why OutsideSpan = codes "outside-span"
range_why TooSmall = codes "too-small"
range_why BadClass = codes "bad-class"
range_why Overlap = codes "overlap"

-- the word of the limit that attributes break
abbrev pub attrs_why : AttrsFault → List ℕ
attrs_why (MinTooSmall min) = codes "min-too-small"
attrs_why (MinOverMax min max) = codes "min-over-max"
attrs_why (AggrOutOfRange aggr) = codes "aggr-out-of-range"

-- the word of the limit that a scheme or its slot breaks
abbrev pub scheme_why : SchemeFault → List ℕ
scheme_why (SlotOutOfRange slot) = codes "slot-out-of-range"
scheme_why (PatternReversed part) = codes "pattern-reversed"
scheme_why ZeroReset = codes "zero-reset"
scheme_why MarksOutOfOrder = codes "marks-out-of-order"
scheme_why (BadFilter index) = codes "bad-filter"
scheme_why TimeInOne = codes "time-in-one"

-- why a commit was refused
abbrev pub refusal_text : CommitFault → List ℕ
refusal_text (Busy next) = codes "busy next=" then decimal next
refusal_text NoRange = codes "no-range"
refusal_text (BadRange index why) = codes "bad-range index=" then decimal index then codes " " then range_why why
refusal_text (RangesOverMax ranges max) =
    codes "ranges-over-max ranges=" then decimal ranges then codes " max=" then decimal max
refusal_text (BadAttrs why) = codes "bad-attrs " then attrs_why why
refusal_text (OverCap max cap) = codes "over-cap max=" then decimal max then codes " cap=" then decimal cap
refusal_text (BadScheme why) = codes "bad-scheme " then scheme_why why
refusal_text (BadCost slot) = codes "bad-cost slot=" then decimal slot

-- the answer of a commit, after the tick: its rows and whether a pass became void, or why it was refused
abbrev pub answer_text : Result Changed CommitFault → List ℕ
answer_text (Ok changed) =
    codes "ok rows=" then decimal changed.rows then codes " void=" then yes_or_no changed.void
answer_text (Err fault) = codes "refused " then refusal_text fault
