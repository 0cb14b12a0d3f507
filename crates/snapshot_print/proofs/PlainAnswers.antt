-- The answer of a commit has nothing to escape.
use Rattle.std.proofs.Common.{◌≡◌, ℕ, Bool, true, false, List, ◌++◌, Result, Ok, Err, codes, decimal, refl, ap, ap₂, ◌∙◌}
use Rattle.std.proofs.lemmas.Grind.{flat_map-append}
use Rattle.json.specs.Print.{escape, escape_byte}
use Rattle.damon_types.specs.declared.attrs.AttrsFault.{AttrsFault}
use Rattle.damon_types.specs.declared.attrs.AttrsFault.TheVariants.{MinTooSmall, MinOverMax, AggrOutOfRange}
use Rattle.damon_types.specs.declared.scheme.SchemeFault.{SchemeFault}
use Rattle.damon_types.specs.declared.scheme.SchemeFault.TheVariants.{SlotOutOfRange, PatternReversed, ZeroReset}
use Rattle.damon_types.specs.declared.scheme.SchemeFault.TheVariants.{MarksOutOfOrder, BadFilter, TimeInOne}
use Rattle.target_ranges.specs.declared.fault.RangeWhy.{RangeWhy}
use Rattle.target_ranges.specs.declared.fault.RangeWhy.TheVariants.{TooMany, NoSuchTarget, Unaligned, Reversed}
use Rattle.target_ranges.specs.declared.fault.RangeWhy.TheVariants.{OutsideSpan, TooSmall, BadClass, Overlap}
use Rattle.live_commit.specs.declared.fault.CommitFault.{CommitFault}
use Rattle.live_commit.specs.declared.fault.CommitFault.TheVariants.{Busy, NoRange, BadRange, RangesOverMax}
use Rattle.live_commit.specs.declared.fault.CommitFault.TheVariants.{BadAttrs, OverCap, BadScheme, BadCost}
use Rattle.damon_core.specs.declared.changed.Changed.{Changed}
use Rattle.snapshot_print.specs.Commit.{answer_text, attrs_why, range_why, refusal_text, scheme_why}
use Rattle.snapshot_print.specs.Fields.{yes_or_no}
use Rattle.snapshot_print.proofs.Escaping.{decimal_is_plain}

-- a number, and then another text
then_plain : (n : ℕ) (rest : List ℕ) → escape rest ≡ rest → escape (decimal n ++ rest) ≡ decimal n ++ rest
then_plain n rest plain = flat_map-append escape_byte (decimal n) rest ∙ ap₂ (λ x y. x ++ y) (decimal_is_plain n) plain

yes_or_no_is_plain : (b : Bool) → escape (yes_or_no b) ≡ yes_or_no b
unfolding escape_byte
yes_or_no_is_plain true = refl
yes_or_no_is_plain false = refl

range_why_is_plain : (why : RangeWhy) → escape (range_why why) ≡ range_why why
unfolding escape_byte
range_why_is_plain TooMany = refl
range_why_is_plain NoSuchTarget = refl
range_why_is_plain Unaligned = refl
range_why_is_plain Reversed = refl
range_why_is_plain OutsideSpan = refl
range_why_is_plain TooSmall = refl
range_why_is_plain BadClass = refl
range_why_is_plain Overlap = refl

attrs_why_is_plain : (why : AttrsFault) → escape (attrs_why why) ≡ attrs_why why
unfolding escape_byte
attrs_why_is_plain (MinTooSmall min) = refl
attrs_why_is_plain (MinOverMax min max) = refl
attrs_why_is_plain (AggrOutOfRange aggr) = refl

scheme_why_is_plain : (why : SchemeFault) → escape (scheme_why why) ≡ scheme_why why
unfolding escape_byte
scheme_why_is_plain (SlotOutOfRange slot) = refl
scheme_why_is_plain (PatternReversed part) = refl
scheme_why_is_plain ZeroReset = refl
scheme_why_is_plain MarksOutOfOrder = refl
scheme_why_is_plain (BadFilter index) = refl
scheme_why_is_plain TimeInOne = refl

refusal_is_plain : (fault : CommitFault) → escape (refusal_text fault) ≡ refusal_text fault
unfolding escape_byte
refusal_is_plain (Busy next) = ap (λ t. codes "busy next=" ++ t) (decimal_is_plain next)
refusal_is_plain NoRange = refl
refusal_is_plain (BadRange index why) =
    ap (λ t. codes "bad-range index=" ++ t) (then_plain index (codes " " ++ range_why why) (ap (λ t. codes " " ++ t) (range_why_is_plain why)))
refusal_is_plain (RangesOverMax ranges max) =
    ap (λ t. codes "ranges-over-max ranges=" ++ t) (then_plain ranges (codes " max=" ++ decimal max) (ap (λ t. codes " max=" ++ t) (decimal_is_plain max)))
refusal_is_plain (BadAttrs why) = ap (λ t. codes "bad-attrs " ++ t) (attrs_why_is_plain why)
refusal_is_plain (OverCap max cap) =
    ap (λ t. codes "over-cap max=" ++ t) (then_plain max (codes " cap=" ++ decimal cap) (ap (λ t. codes " cap=" ++ t) (decimal_is_plain cap)))
refusal_is_plain (BadScheme why) = ap (λ t. codes "bad-scheme " ++ t) (scheme_why_is_plain why)
refusal_is_plain (BadCost slot) = ap (λ t. codes "bad-cost slot=" ++ t) (decimal_is_plain slot)

pub answer_is_plain : (answer : Result Changed CommitFault) → escape (answer_text answer) ≡ answer_text answer
unfolding escape_byte
answer_is_plain (Ok changed) =
    ap (λ t. codes "ok rows=" ++ t) (then_plain changed.rows (codes " void=" ++ yes_or_no changed.void) (ap (λ t. codes " void=" ++ t) (yes_or_no_is_plain changed.void)))
answer_is_plain (Err fault) = ap (λ t. codes "refused " ++ t) (refusal_is_plain fault)
