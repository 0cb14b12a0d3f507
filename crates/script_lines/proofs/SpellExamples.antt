-- Spellings, written out.
use Rattle.std.proofs.Common.{◌≡◌, ◌≤◌, inl, inr, lit<, arith, ◌∷◌, [], true, false, codes, Some, None, Ok, Err, refl, ◌++◌, decimal}
use Rattle.std.specs.Fmt.{digits}
use Rattle.damon_types.specs.declared.filter.FilterKind.TheVariants.{Addr, Target, Class}
use Rattle.damon_types.specs.declared.scheme.Action.TheVariants.{LruDeprio}
use Rattle.damon_types.specs.declared.scheme.Prefer.TheVariants.{Hot, Cold}
use Rattle.damon_types.specs.declared.scheme.Version.{Version}
use Rattle.damon_types.specs.declared.scheme.Version.TheVariants.{One, Two}
use Rattle.live_commit.specs.Commit.{CommitValue}
use Rattle.script_lines.specs.declared.keys.Key.TheVariants.{Filter as FilterKey}
use Rattle.script_lines.specs.declared.keys.Setting.{Setting}
use Rattle.script_lines.specs.declared.keys.Setting.TheVariants.{Age, Prefer, Quota, Time, Marks, Filter}
use Rattle.script_lines.specs.Spelling.{spelled_attrs, spelled_cost, spelled_range, spelled_scheme, spelled_setting, spelled_target}
use Rattle.script_lines.proofs.SpelledParts.{spelled_sweep}
use Rattle.script_lines.specs.declared.kind.ScriptKind.TheVariants.{Form, Number, Word}
use Rattle.script_lines.specs.declared.part.Part.TheVariants.{Cost}
use Rattle.script_lines.specs.Body.{no_commit, part_line}
use Rattle.script_lines.specs.Keys.{are_formed}
use Rattle.script_lines.specs.Lines.{lines_text}
use Rattle.script_lines.specs.Settings.{AreAfter, ComesLater, MayFollow, key_of, key_place}

seed_is_decimal : (codes "seed " ++ decimal 18446744073709551615) ≡ codes "seed 18446744073709551615"
unfolding digits
seed_is_decimal = refl

attrs_are_three_words : spelled_attrs (record { min = 3; max = 8; aggr = 5 }) ≡ codes "attrs 3 8 5"
unfolding digits
attrs_are_three_words = refl

target_has_its_base : spelled_target (record { base = 65536; pages = 3 }) ≡ codes "target 0x10000 3"
unfolding digits
target_has_its_base = refl

range_has_its_class : spelled_range (record { target = 0; from = 65536; to = 77824; class = 9 }) ≡ codes "range 0 0x10000 0x13000 9"
unfolding digits
range_has_its_class = refl

sweep_has_two_addresses : spelled_sweep 1 0 4096 ≡ codes "sweep 1 0x0 0x1000"
unfolding digits
sweep_has_two_addresses = refl

span_has_a_comma : spelled_setting (Age (record { low = 2; high = 10 })) ≡ codes "age=2,10"
unfolding digits
span_has_a_comma = refl

side_is_a_word : spelled_setting (Prefer Cold) ≡ codes "prefer=cold"
side_is_a_word = refl

marks_fall : spelled_setting (Marks (record { high = 500; mid = 400; low = 200 })) ≡ codes "marks=500,400,200"
unfolding digits
marks_fall = refl

filter_of_addresses : spelled_setting (Filter (record { allow = true; matching = true; kind = Addr 0 8192 })) ≡ codes "filter=allow:addr:0x0-0x2000"
unfolding digits
filter_of_addresses = refl

filter_of_other_targets : spelled_setting (Filter (record { allow = false; matching = false; kind = Target 7 })) ≡ codes "filter=reject:not-target:7"
unfolding digits
filter_of_other_targets = refl

scheme_has_settings : spelled_scheme 3 LruDeprio (Prefer Cold ∷ Filter (record { allow = true; matching = true; kind = Class 1 }) ∷ [])
    ≡ codes "scheme 3 lru_deprio prefer=cold filter=allow:class:1"
unfolding digits
scheme_has_settings = refl

abbrev a_filter : Setting
a_filter = Filter (record { allow = true; matching = true; kind = Class 1 })

filters_may_repeat : AreAfter One None (Age (record { low = 2; high = 10 }) ∷ a_filter ∷ a_filter ∷ [])
filters_may_repeat = (
  record { comes_later = tt; timed = λ is. absurd cc },
  (record { comes_later = inl (lit< tt); timed = λ is. absurd cc }, (record { comes_later = inr (refl, refl); timed = λ is. absurd cc }, tt)),
)

-- a setting that is no later than the one before it may not follow it
no_later : (version : Version) (earlier later : Setting) → MayFollow version (Some earlier) later
    → key_place (key_of later) ≤ key_place (key_of earlier) → (key_of later ≡ FilterKey → ⊥) → ⊥
no_later version earlier later follows less other = by follows.comes_later
  where
    by : ComesLater (Some earlier) later → ⊥
    by (inl rises) = omega (arith, rises, less)
    by (inr (filter, same)) = other same

other_keys_stand_once : AreAfter Two None (Prefer Cold ∷ Prefer Hot ∷ []) → ⊥
other_keys_stand_once (first, (follows, rest)) = no_later Two (Prefer Cold) (Prefer Hot) follows (omega arith) (λ is. cc)

keys_stand_in_order : AreAfter Two None (Prefer Cold ∷ Age (record { low = 2; high = 10 }) ∷ []) → ⊥
keys_stand_in_order (first, (follows, rest)) = no_later Two (Prefer Cold) (Age (record { low = 2; high = 10 })) follows (omega arith) (λ is. cc)

abbrev a_quota : Setting
a_quota = Quota (record { bytes = 409600; reset = 20; time = None })

time_is_a_number : spelled_setting (Time 1000) ≡ codes "time=1000"
unfolding digits
time_is_a_number = refl

time_follows_its_quota : AreAfter Two None (a_quota ∷ Time 1000 ∷ [])
time_follows_its_quota = (record { comes_later = tt; timed = λ is. absurd cc }, (record { comes_later = inl (lit< tt); timed = λ is. (refl, refl) }, tt))

no_time_in_version_one : AreAfter One None (a_quota ∷ Time 1000 ∷ []) → ⊥
no_time_in_version_one (first, (follows, rest)) = let two = (follows.timed refl).0 in cc

no_time_without_a_quota : AreAfter Two None (Time 1000 ∷ []) → ⊥
no_time_without_a_quota (first, rest) = let quota = (first.timed refl).1 in cc

time_is_read_after_its_quota : are_formed Two None (codes "quota=4096,5" ∷ codes "time=9" ∷ []) ≡ true
time_is_read_after_its_quota = refl

time_is_no_key_of_version_one : are_formed One None (codes "quota=4096,5" ∷ codes "time=9" ∷ []) ≡ false
time_is_no_key_of_version_one = refl

time_wants_a_quota_before_it : are_formed Two None (codes "time=9" ∷ codes "weights=1,2,3" ∷ []) ≡ false
time_wants_a_quota_before_it = refl

time_is_one_number : are_formed Two None (codes "quota=4096,5" ∷ codes "time=9,9" ∷ []) ≡ false
time_is_one_number = refl

-- a commit with a metric alone
abbrev with_metric : CommitValue
with_metric = record no_commit { metric = Some 3 }

cost_follows_the_metric : part_line Two with_metric (codes "cost 15 7") ≡ Ok (Cost (record { slot = 15; nanos = 7 }))
cost_follows_the_metric = refl

cost_is_no_word_of_version_one : part_line One with_metric (codes "cost 15 7") ≡ Err Word
cost_is_no_word_of_version_one = refl

cost_comes_once : part_line Two (record with_metric { cost = Some (record { slot = 15; nanos = 7 }) }) (codes "cost 15 7") ≡ Err Word
cost_comes_once = refl

no_metric_after_a_cost : part_line Two (record no_commit { cost = Some (record { slot = 15; nanos = 7 }) }) (codes "metric 3") ≡ Err Word
no_metric_after_a_cost = refl

cost_has_two_numbers : part_line Two no_commit (codes "cost 15") ≡ Err Form
cost_has_two_numbers = refl

slot_of_a_cost_has_8_bits : part_line Two no_commit (codes "cost 256 7") ≡ Err Number
slot_of_a_cost_has_8_bits = refl

cost_is_two_words : spelled_cost (record { slot = 3; nanos = 70 }) ≡ codes "cost 3 70"
unfolding digits
cost_is_two_words = refl

lines_have_their_ends : lines_text (codes "begin" ∷ codes "end" ∷ []) ≡ codes "begin\nend\n"
lines_have_their_ends = refl
