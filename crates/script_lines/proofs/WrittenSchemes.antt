-- The line that is written of a slot change says that change.
use Rattle.std.proofs.Common.{◌≡◌, inl, inr, ℕ, ◌+◌, ◌-◌, ◌^◌, ◌<◌, ◌≤◌, Bool, true, false, nat_lt, List, [], ◌∷◌, ◌++◌, length, map, Some, None, Ok, refl, sym, ap, subst, ◌∙◌, append_assoc, arith}
use Rattle.std.specs.List.{AllByRecursion}
use Rattle.std.specs.Prelude.{All, IfSome, Option}
use Rattle.std.proofs.lemmas.Bool.Decides.{nat_tests}
use Rattle.std.proofs.lemmas.List.{append-nil, length-append}
use Rattle.std.proofs.lemmas.List.Elements.{All-head, All-tail}
use Rattle.damon_types.specs.declared.filter.Filter.{Filter}
use Rattle.damon_types.specs.declared.scheme.Marks.{Marks}
use Rattle.damon_types.specs.declared.scheme.Prefer.{Prefer}
use Rattle.damon_types.specs.declared.scheme.Prefer.TheVariants.{Hot, Cold}
use Rattle.damon_types.specs.declared.scheme.Quota.{Quota}
use Rattle.damon_types.specs.declared.scheme.Scheme.{Scheme}
use Rattle.damon_types.specs.declared.scheme.SlotChange.{SlotChange}
use Rattle.damon_types.specs.declared.scheme.Span.{Span}
use Rattle.damon_types.specs.declared.scheme.Version.{Version}
use Rattle.damon_types.specs.declared.scheme.Version.TheVariants.{One, Two}
use Rattle.damon_types.specs.declared.scheme.Weights.{Weights}
use Rattle.damon_types.specs.Scheme.{checked_time}
use Rattle.script_lines.specs.declared.keys.Key.{Key}
use Rattle.script_lines.specs.declared.keys.Key.TheVariants.{Filter as FilterKey, Quota as QuotaKey, Time as TimeKey}
use Rattle.script_lines.specs.declared.keys.Setting.{Setting}
use Rattle.script_lines.specs.declared.keys.Setting.TheVariants.{Size as SizeOf, Count as CountOf, Age as AgeOf, Quota as QuotaOf, Time as TimeOf, Weights as WeightsOf, Prefer as PreferOf, Marks as MarksOf, Filter as FilterOf}
use Rattle.script_lines.specs.Fits.{FitsKind, FitsSetting, FitsChange, FitsScheme}
use Rattle.script_lines.specs.Laws.{EmptiesSlot, GivesScheme}
use Rattle.script_lines.specs.Settings.{AreAfter, ComesLater, default_scheme, key_of, key_place, settled}
use Rattle.script_lines.specs.WrittenLine.{are_even, change_text, is_any, marks_given, prefer_given, quota_given, settings_given, slot_line, time_given, unless}

-- ---- the settings fit

pub fit-append : (a b : List Setting) → AllByRecursion FitsSetting a → AllByRecursion FitsSetting b → AllByRecursion FitsSetting (a ++ b)
fit-append [] b first second = second
fit-append (s ∷ a) b first second = (first.0, fit-append a b first.1 second)

unless-fit : (test : Bool) (s : Setting) → FitsSetting s → AllByRecursion FitsSetting (unless test s)
unless-fit true s fits = tt
unless-fit false s fits = (fits, tt)

time-fit : (time : Option ℕ) → IfSome time (λ t. t < 2 ^ 64) → AllByRecursion FitsSetting (time_given time)
time-fit None fits = tt
time-fit (Some time) fits = (fits, tt)

pub quota-fit : (quota : Option Quota) → IfSome quota (λ q. (q.bytes < 2 ^ 64) × (q.reset < 2 ^ 32) × IfSome q.time (λ time. time < 2 ^ 64)) → AllByRecursion FitsSetting (quota_given quota)
quota-fit None fits = tt
quota-fit (Some quota) fits = ((fits.0, fits.1, refl), time-fit quota.time fits.2)

prefer-fit : (prefer : Prefer) → AllByRecursion FitsSetting (prefer_given prefer)
prefer-fit Hot = tt
prefer-fit Cold = (tt, tt)

pub marks-fit : (marks : Option Marks) → IfSome marks (λ m. FitsSetting (MarksOf m)) → AllByRecursion FitsSetting (marks_given marks)
marks-fit None fits = tt
marks-fit (Some marks) fits = (fits, tt)

pub filters-fit : (filters : List Filter) → All (λ f. FitsKind f.kind) filters → AllByRecursion FitsSetting (map (λ f. FilterOf f) filters)
filters-fit [] each = tt
filters-fit (f ∷ filters) each = (All-head (λ g. FitsKind g.kind) f filters each, filters-fit filters (All-tail (λ g. FitsKind g.kind) f filters each))

scheme-fit : (s : Scheme) → FitsScheme s → AllByRecursion FitsSetting (settings_given s)
scheme-fit s fits =
    let size = unless (is_any s.pattern.size) (SizeOf s.pattern.size) in
    let count = unless (is_any s.pattern.count) (CountOf s.pattern.count) in
    let age = unless (is_any s.pattern.age) (AgeOf s.pattern.age) in
    let quota = quota_given s.quota in
    let weights = unless (are_even s.weights) (WeightsOf s.weights) in
    let prefer = prefer_given s.prefer in
    let marks = marks_given s.marks in
    let filters = map (λ f. FilterOf f) s.filters in
    fit-append (size ++ (count ++ age)) (quota ++ (weights ++ (prefer ++ (marks ++ filters))))
    (fit-append size (count ++ age) (unless-fit (is_any s.pattern.size) (SizeOf s.pattern.size) fits.size)
    (fit-append count age (unless-fit (is_any s.pattern.count) (CountOf s.pattern.count) fits.count)
    (unless-fit (is_any s.pattern.age) (AgeOf s.pattern.age) fits.age)))
    (fit-append quota (weights ++ (prefer ++ (marks ++ filters))) (quota-fit s.quota fits.quota)
    (fit-append weights (prefer ++ (marks ++ filters)) (unless-fit (are_even s.weights) (WeightsOf s.weights) fits.weights)
    (fit-append prefer (marks ++ filters) (prefer-fit s.prefer)
    (fit-append marks filters (marks-fit s.marks fits.marks) (filters-fit s.filters fits.filters)))))

-- ---- and stand in order

-- the least place of a key after this one
abbrev pub next_place : Key → ℕ
next_place FilterKey = 8
next_place key = key_place key + 1

-- settings from a place on, in order; a time stands at its own place alone, directly after the quota
abbrev pub From : Version → ℕ → List Setting → Type 0
From version place [] = Unit {0}
From version place (s ∷ settings) =
    (place ≤ key_place (key_of s))
    × (key_of s ≡ TimeKey → (version ≡ Two) × (place ≡ 4))
    × From version (next_place (key_of s)) settings

pub from-earlier : (version : Version) (early late : ℕ) (settings : List Setting) → early ≤ late → (late ≡ 4 → ⊥) → From version late settings → From version early settings
from-earlier version early late [] less other all = tt
from-earlier version early late (s ∷ settings) less other all = (omega (arith, less, all.0), (λ is. absurd (other (all.1 is).1)), all.2)

-- a setting that may be left out, before others
record IsBefore (place : ℕ) (s : Setting) : Type 0 where
  here : place ≤ key_place (key_of s)
  less : place ≤ next_place (key_of s)
  no_quota : next_place (key_of s) ≡ 4 → ⊥
  no_time : key_of s ≡ TimeKey → ⊥

from-unless : (version : Version) (place : ℕ) (test : Bool) (s : Setting) (rest : List Setting) → IsBefore place s → From version (next_place (key_of s)) rest → From version place (unless test s ++ rest)
from-unless version place true s rest is after = from-earlier version place (next_place (key_of s)) rest is.less is.no_quota after
from-unless version place false s rest is after = (is.here, (λ time. absurd (is.no_time time)), after)

from-time : (version : Version) (bytes reset : ℕ) (time : Option ℕ) (rest : List Setting) → checked_time version (Some (record { bytes = bytes; reset = reset; time = time })) ≡ Ok tt → From version 5 rest → From version 4 (time_given time ++ rest)
from-time version bytes reset None rest sound after = from-earlier version 4 5 rest (omega arith) (λ e. omega (arith, e)) after
from-time Two bytes reset (Some time) rest sound after = (omega arith, (λ is. (refl, refl)), after)
from-time One bytes reset (Some time) rest sound after = absurd cc

pub from-quota : (version : Version) (quota : Option Quota) (rest : List Setting) → checked_time version quota ≡ Ok tt → From version 5 rest → From version 3 (quota_given quota ++ rest)
from-quota version None rest sound after = from-earlier version 3 5 rest (omega arith) (λ e. omega (arith, e)) after
from-quota version (Some quota) rest sound after = (omega arith, (λ is. absurd cc), from-time version quota.bytes quota.reset quota.time rest sound after)

pub from-prefer : (version : Version) (prefer : Prefer) (rest : List Setting) → From version 7 rest → From version 6 (prefer_given prefer ++ rest)
from-prefer version Hot rest after = from-earlier version 6 7 rest (omega arith) (λ e. omega (arith, e)) after
from-prefer version Cold rest after = (omega arith, (λ is. absurd cc), after)

pub from-marks : (version : Version) (marks : Option Marks) (rest : List Setting) → From version 8 rest → From version 7 (marks_given marks ++ rest)
from-marks version None rest after = from-earlier version 7 8 rest (omega arith) (λ e. omega (arith, e)) after
from-marks version (Some marks) rest after = (omega arith, (λ is. absurd cc), after)

pub from-filters : (version : Version) (filters : List Filter) → From version 8 (map (λ f. FilterOf f) filters)
from-filters version [] = tt
from-filters version (f ∷ filters) = (omega arith, (λ is. absurd cc), from-filters version filters)

-- the settings of a pattern before others
pattern_apart : (a b c rest : List Setting) → (a ++ (b ++ c)) ++ rest ≡ a ++ (b ++ (c ++ rest))
pattern_apart a b c rest = simp append_assoc

scheme-from : (version : Version) (s : Scheme) → checked_time version s.quota ≡ Ok tt → From version 0 (settings_given s)
scheme-from version s sound =
    let before_size : IsBefore 0 (SizeOf s.pattern.size) = record { here = omega arith; less = omega arith; no_quota = λ e. omega (arith, e); no_time = λ e. cc } in
    let before_count : IsBefore 1 (CountOf s.pattern.count) = record { here = omega arith; less = omega arith; no_quota = λ e. omega (arith, e); no_time = λ e. cc } in
    let before_age : IsBefore 2 (AgeOf s.pattern.age) = record { here = omega arith; less = omega arith; no_quota = λ e. omega (arith, e); no_time = λ e. cc } in
    let before_weights : IsBefore 5 (WeightsOf s.weights) = record { here = omega arith; less = omega arith; no_quota = λ e. omega (arith, e); no_time = λ e. cc } in
    subst (From version 0) (sym (pattern_apart (unless (is_any s.pattern.size) (SizeOf s.pattern.size)) (unless (is_any s.pattern.count) (CountOf s.pattern.count)) (unless (is_any s.pattern.age) (AgeOf s.pattern.age))
    (quota_given s.quota ++ (unless (are_even s.weights) (WeightsOf s.weights) ++ (prefer_given s.prefer ++ (marks_given s.marks ++ map (λ f. FilterOf f) s.filters))))))
    (from-unless version 0 (is_any s.pattern.size) (SizeOf s.pattern.size) _ before_size
    (from-unless version 1 (is_any s.pattern.count) (CountOf s.pattern.count) _ before_count
    (from-unless version 2 (is_any s.pattern.age) (AgeOf s.pattern.age) _ before_age
    (from-quota version s.quota _ sound
    (from-unless version 5 (are_even s.weights) (WeightsOf s.weights) _ before_weights
    (from-prefer version s.prefer _ (from-marks version s.marks _ (from-filters version s.filters))))))))

pub filter_follows : (later : Setting) → 8 ≤ key_place (key_of later) → key_of later ≡ FilterKey
filter_follows (SizeOf x) most = absurd (omega (arith, most))
filter_follows (CountOf x) most = absurd (omega (arith, most))
filter_follows (AgeOf x) most = absurd (omega (arith, most))
filter_follows (QuotaOf x) most = absurd (omega (arith, most))
filter_follows (TimeOf x) most = absurd (omega (arith, most))
filter_follows (WeightsOf x) most = absurd (omega (arith, most))
filter_follows (PreferOf x) most = absurd (omega (arith, most))
filter_follows (MarksOf x) most = absurd (omega (arith, most))
filter_follows (FilterOf x) most = refl

follows : (earlier later : Setting) → next_place (key_of earlier) ≤ key_place (key_of later) → ComesLater (Some earlier) later
follows (SizeOf x) later most = inl (omega (arith, most))
follows (CountOf x) later most = inl (omega (arith, most))
follows (AgeOf x) later most = inl (omega (arith, most))
follows (QuotaOf x) later most = inl (omega (arith, most))
follows (TimeOf x) later most = inl (omega (arith, most))
follows (WeightsOf x) later most = inl (omega (arith, most))
follows (PreferOf x) later most = inl (omega (arith, most))
follows (MarksOf x) later most = inl (omega (arith, most))
follows (FilterOf x) later most = inr (refl, filter_follows later most)

-- only the quota is directly before the place of a time
quota_before : (s : Setting) → next_place (key_of s) ≡ 4 → key_of s ≡ QuotaKey
quota_before (SizeOf x) e = absurd (omega (arith, e))
quota_before (CountOf x) e = absurd (omega (arith, e))
quota_before (AgeOf x) e = absurd (omega (arith, e))
quota_before (QuotaOf x) e = refl
quota_before (TimeOf x) e = absurd (omega (arith, e))
quota_before (WeightsOf x) e = absurd (omega (arith, e))
quota_before (PreferOf x) e = absurd (omega (arith, e))
quota_before (MarksOf x) e = absurd (omega (arith, e))
quota_before (FilterOf x) e = absurd (omega (arith, e))

from-after : (version : Version) (earlier : Setting) (settings : List Setting) → From version (next_place (key_of earlier)) settings → AreAfter version (Some earlier) settings
from-after version earlier [] all = tt
from-after version earlier (later ∷ more) all = (
  record {
    comes_later = follows earlier later all.0;
    timed = λ is. ((all.1 is).0, ap (λ k. Some k) (quota_before earlier (all.1 is).1));
  },
  from-after version later more all.2,
)

pub from-in_order : (version : Version) (settings : List Setting) → From version 0 settings → AreAfter version None settings
from-in_order version [] all = tt
from-in_order version (s ∷ more) all = (record { comes_later = tt; timed = λ is. absurd (omega (arith, (all.1 is).1)) }, from-after version s more all.2)

-- ---- and make the scheme

-- the span of a key that is not given
abbrev any : Span
any = record { low = 0; high = 2 ^ 32 - 1 }

-- the weights of a scheme that gives none
abbrev even : Weights
even = record { size = 1; count = 1; age = 1 }

any_is : (span : Span) → is_any span ≡ true → any ≡ span
any_is span e =
    let low : 0 ≡ span.low = grind (arith, nat_tests) in
    let high : 2 ^ 32 - 1 ≡ span.high = grind (arith, nat_tests) in
    λ i. record { low = low i; high = high i }

even_is : (w : Weights) → are_even w ≡ true → even ≡ w
even_is w e =
    let size : 1 ≡ w.size = grind (arith, nat_tests) in
    let count : 1 ≡ w.count = grind (arith, nat_tests) in
    let age : 1 ≡ w.age = grind (arith, nat_tests) in
    λ i. record { size = size i; count = count i; age = age i }

size_settled : (s : Scheme) (span : Span) (rest : List Setting) → s.pattern.size ≡ any
    → settled s (unless (is_any span) (SizeOf span) ++ rest) ≡ settled (record s { pattern = record s.pattern { size = span } }) rest
size_settled s span rest is = by (is_any span) refl
  where
    by : (test : Bool) → is_any span ≡ test → settled s (unless test (SizeOf span) ++ rest) ≡ settled (record s { pattern = record s.pattern { size = span } }) rest
    by true e = ap (λ (x : Span). settled (record s { pattern = record s.pattern { size = x } }) rest) (is ∙ any_is span e)
    by false e = refl

count_settled : (s : Scheme) (span : Span) (rest : List Setting) → s.pattern.count ≡ any
    → settled s (unless (is_any span) (CountOf span) ++ rest) ≡ settled (record s { pattern = record s.pattern { count = span } }) rest
count_settled s span rest is = by (is_any span) refl
  where
    by : (test : Bool) → is_any span ≡ test → settled s (unless test (CountOf span) ++ rest) ≡ settled (record s { pattern = record s.pattern { count = span } }) rest
    by true e = ap (λ (x : Span). settled (record s { pattern = record s.pattern { count = x } }) rest) (is ∙ any_is span e)
    by false e = refl

age_settled : (s : Scheme) (span : Span) (rest : List Setting) → s.pattern.age ≡ any
    → settled s (unless (is_any span) (AgeOf span) ++ rest) ≡ settled (record s { pattern = record s.pattern { age = span } }) rest
age_settled s span rest is = by (is_any span) refl
  where
    by : (test : Bool) → is_any span ≡ test → settled s (unless test (AgeOf span) ++ rest) ≡ settled (record s { pattern = record s.pattern { age = span } }) rest
    by true e = ap (λ (x : Span). settled (record s { pattern = record s.pattern { age = x } }) rest) (is ∙ any_is span e)
    by false e = refl

time_settled : (s : Scheme) (q : Quota) (time : Option ℕ) (rest : List Setting)
    → settled (record s { quota = Some (record q { time = None }) }) (time_given time ++ rest) ≡ settled (record s { quota = Some (record q { time = time }) }) rest
time_settled s q None rest = refl
time_settled s q (Some time) rest = refl

pub quota_settled : (s : Scheme) (quota : Option Quota) (rest : List Setting) → s.quota ≡ None → settled s (quota_given quota ++ rest) ≡ settled (record s { quota = quota }) rest
quota_settled s None rest is = ap (λ (q : Option Quota). settled (record s { quota = q }) rest) is
quota_settled s (Some quota) rest is = time_settled s quota quota.time rest

weights_settled : (s : Scheme) (w : Weights) (rest : List Setting) → s.weights ≡ even
    → settled s (unless (are_even w) (WeightsOf w) ++ rest) ≡ settled (record s { weights = w }) rest
weights_settled s w rest is = by (are_even w) refl
  where
    by : (test : Bool) → are_even w ≡ test → settled s (unless test (WeightsOf w) ++ rest) ≡ settled (record s { weights = w }) rest
    by true e = ap (λ (x : Weights). settled (record s { weights = x }) rest) (is ∙ even_is w e)
    by false e = refl

prefer_settled : (s : Scheme) (prefer : Prefer) (rest : List Setting) → s.prefer ≡ Hot → settled s (prefer_given prefer ++ rest) ≡ settled (record s { prefer = prefer }) rest
prefer_settled s Hot rest is = ap (λ (p : Prefer). settled (record s { prefer = p }) rest) is
prefer_settled s Cold rest is = refl

pub marks_settled : (s : Scheme) (marks : Option Marks) (rest : List Setting) → s.marks ≡ None → settled s (marks_given marks ++ rest) ≡ settled (record s { marks = marks }) rest
marks_settled s None rest is = ap (λ (m : Option Marks). settled (record s { marks = m }) rest) is
marks_settled s (Some marks) rest is = refl

pub filters_settled : (s : Scheme) (before filters : List Filter) → length (before ++ filters) ≤ 8
    → settled (record s { filters = before }) (map (λ f. FilterOf f) filters) ≡ Ok (record s { filters = before ++ filters })
filters_settled s before [] few = ap (λ (fs : List Filter). Ok (record s { filters = fs })) (sym (append-nil before))
filters_settled s before (f ∷ filters) few =
    let room : length before < 8 = omega (arith, few, length-append before (f ∷ filters)) in
    let fits : nat_lt (length before) 8 ≡ true = grind (arith, nat_tests) in
    let all = append_assoc before (f ∷ []) filters in
    rw fits (filters_settled s (before ++ f ∷ []) filters (subst (λ (fs : List Filter). length fs ≤ 8) (sym all) few)
    ∙ ap (λ (fs : List Filter). Ok (record s { filters = fs })) all)

scheme_made : (s : Scheme) → length s.filters ≤ 8 → settled (default_scheme s.action) (settings_given s) ≡ Ok s
scheme_made s few =
    let first = default_scheme s.action in
    let sized = record first { pattern = record first.pattern { size = s.pattern.size } } in
    let counted = record sized { pattern = record sized.pattern { count = s.pattern.count } } in
    let aged = record counted { pattern = record counted.pattern { age = s.pattern.age } } in
    let limited = record aged { quota = s.quota } in
    let weighed = record limited { weights = s.weights } in
    let preferred = record weighed { prefer = s.prefer } in
    ap (settled first) (pattern_apart (unless (is_any s.pattern.size) (SizeOf s.pattern.size)) (unless (is_any s.pattern.count) (CountOf s.pattern.count)) (unless (is_any s.pattern.age) (AgeOf s.pattern.age)) _)
    ∙ size_settled first s.pattern.size _ refl
    ∙ count_settled sized s.pattern.count _ refl
    ∙ age_settled counted s.pattern.age _ refl
    ∙ quota_settled aged s.quota _ refl
    ∙ weights_settled limited s.weights _ refl
    ∙ prefer_settled weighed s.prefer _ refl
    ∙ marks_settled preferred s.marks _ refl
    ∙ filters_settled s [] s.filters few

-- ---- the line of a change

-- the line of a change with a scheme gives its slot this scheme
pub change_gives : (version : Version) (c : SlotChange) (s : Scheme) → c.scheme ≡ Some s → FitsChange c → checked_time version s.quota ≡ Ok tt
    → GivesScheme version (change_text c) c
change_gives version c s is fits sound =
    let fit : FitsScheme s = rw is at fits.fits in (
      s,
      is,
      record {
        action = s.action;
        settings = settings_given s;
        spelled = ap (slot_line c.slot) is;
        small = fits.small;
        fit = scheme-fit s fit;
        in_order = from-in_order version (settings_given s) (scheme-from version s sound);
        made = scheme_made s fit.few;
      },
    )

-- the line of a change without one empties its slot
pub change_empties : (c : SlotChange) → c.scheme ≡ None → FitsChange c → EmptiesSlot (change_text c) c
change_empties c is fits = (is, ap (slot_line c.slot) is, fits.small)
