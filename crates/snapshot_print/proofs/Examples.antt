-- Lines of commits, and values of JSON lines, worked out by hand.
use Rattle.std.proofs.Common.{◌≡◌, [], ◌∷◌, true, false, codes, Ok, Err, None, refl}
use Rattle.std.specs.Fmt.{digits}
use Rattle.target_ranges.specs.declared.fault.RangeWhy.TheVariants.{Overlap}
use Rattle.damon_types.specs.declared.scheme.SchemeFault.TheVariants.{PatternReversed, TimeInOne}
use Rattle.live_commit.specs.declared.fault.CommitFault.TheVariants.{Busy, BadRange, RangesOverMax, OverCap, BadScheme, BadCost}
use Rattle.damon_types.specs.declared.scheme.Action.TheVariants.{Pageout}
use Rattle.serde_json.specs.Written.{compact_text}
use Rattle.serde_json.proofs.OnLiterals.{serde_json_on_literals}
use Rattle.snapshot_print.specs.Commit.{answer_text}
use Rattle.snapshot_print.specs.Lines.{as_text}
use Rattle.snapshot_print.specs.Json.{as_json, choice_json, list_of, row_json, slot_json}

pass_becomes_void : as_text.commit 120 (Ok (record { rows = 34; void = true })) ≡ codes "commit tick=120 ok rows=34 void=yes\n"
unfolding digits
pass_becomes_void = refl

no_pass_is_under_way : answer_text (Ok (record { rows = 3; void = false })) ≡ codes "ok rows=3 void=no"
unfolding digits
no_pass_is_under_way = refl

a_pass_is_busy : as_text.commit 0 (Err (Busy 1)) ≡ codes "commit tick=0 refused busy next=1\n"
unfolding digits
a_pass_is_busy = refl

second_range_overlaps : answer_text (Err (BadRange 1 Overlap)) ≡ codes "refused bad-range index=1 overlap"
unfolding digits
second_range_overlaps = refl

nine_ranges_over_eight : answer_text (Err (RangesOverMax 9 8)) ≡ codes "refused ranges-over-max ranges=9 max=8"
unfolding digits
nine_ranges_over_eight = refl

over_the_cap : answer_text (Err (OverCap 65 64)) ≡ codes "refused over-cap max=65 cap=64"
unfolding digits
over_the_cap = refl

-- the words leave out which part of the pattern is reversed
pattern_is_reversed : answer_text (Err (BadScheme (PatternReversed 2))) ≡ codes "refused bad-scheme pattern-reversed"
pattern_is_reversed = refl

time_in_version_one : answer_text (Err (BadScheme TimeInOne)) ≡ codes "refused bad-scheme time-in-one"
time_in_version_one = refl

cost_of_slot_16 : answer_text (Err (BadCost 16)) ≡ codes "refused bad-cost slot=16"
unfolding digits
cost_of_slot_16 = refl

pass_becomes_void_in_json : as_json.commit 120 (Ok (record { rows = 34; void = true })) ≡ codes "{\"answer\":\"ok rows=34 void=yes\",\"kind\":\"commit\",\"tick\":120}\n"
unfolding digits serde_json_on_literals
pass_becomes_void_in_json = refl

pass_is_busy_in_json : as_json.commit 0 (Err (Busy 1)) ≡ codes "{\"answer\":\"refused busy next=1\",\"kind\":\"commit\",\"tick\":0}\n"
unfolding digits serde_json_on_literals
pass_is_busy_in_json = refl

-- the last page of a target with three pages
row_in_json : compact_text (row_json (record { base = 65536; pages = 3 } ∷ []) (record { target = 0; start = 2; pages = 1; count = 1; last = 20; age = 0 })) ≡ codes "{\"age\":0,\"count\":1,\"end\":\"0x13000\",\"last\":20,\"start\":\"0x12000\",\"target\":0}"
unfolding digits serde_json_on_literals
row_in_json = refl

slot_is_inactive_in_json : compact_text (choice_json (record { slot = 3; active = false; left = None; taken = 0; lowest = None })) ≡ codes "{\"active\":false,\"left\":null,\"lowest\":null,\"slot\":3,\"taken\":0}"
unfolding digits serde_json_on_literals
slot_is_inactive_in_json = refl

nothing_is_applied_in_json : compact_text (list_of []) ≡ codes "[]"
nothing_is_applied_in_json = refl

slot_in_json : compact_text (slot_json 3 (record { action = Pageout; active = true; window = record { start = 0; charged = 1 }; tried = 6; applied = 1; exceeds = 2 })) ≡ codes "{\"action\":\"pageout\",\"active\":true,\"applied\":1,\"charged\":1,\"exceeds\":2,\"slot\":3,\"start\":0,\"tried\":6}"
unfolding digits serde_json_on_literals
slot_in_json = refl
