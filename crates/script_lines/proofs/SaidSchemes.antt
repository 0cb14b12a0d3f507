-- The line of a scheme by its keys, and by its settings one after another.
use Rattle.std.proofs.Common.{◌≡◌, ◌≤◌, ◌<◌, ◌+◌, ◌==◌, ◌^◌, inl, inr, ℕ, Bool, true, false, List, [], ◌∷◌, ◌++◌, map, codes, Option, Some, None, Ok, refl, sym, ap, subst, ◌∙◌, decimal, arith}
use Rattle.std.specs.List.{AllByRecursion, slice_index_or}
use Rattle.std.specs.Option.{option_map_or, unwrap_or}
use Rattle.std.proofs.lemmas.Bool.Decides.{nat_tests}
use Rattle.std.proofs.lemmas.List.{append-nil, append_assoc}
use Rattle.damon_types.specs.declared.filter.Filter.{Filter}
use Rattle.damon_types.specs.declared.scheme.Action.{Action}
use Rattle.damon_types.specs.declared.scheme.Marks.{Marks}
use Rattle.damon_types.specs.declared.scheme.Prefer.{Prefer}
use Rattle.damon_types.specs.declared.scheme.Prefer.TheVariants.{Hot}
use Rattle.damon_types.specs.declared.scheme.Quota.{Quota}
use Rattle.damon_types.specs.declared.scheme.Scheme.{Scheme}
use Rattle.damon_types.specs.declared.scheme.Span.{Span}
use Rattle.damon_types.specs.declared.scheme.Version.{Version}
use Rattle.damon_types.specs.declared.scheme.Weights.{Weights}
use Rattle.damon_types.specs.Actions.{action_name}
use Rattle.damon_types.specs.Scheme.{checked_time}
use Rattle.script_lines.specs.declared.kind.ScriptKind.TheVariants.{Limit}
use Rattle.script_lines.specs.declared.keys.Key.{Key}
use Rattle.script_lines.specs.declared.keys.Key.TheVariants.{Size, Count, Age, Quota as QuotaKey, Time as TimeKey, Weights as WeightsKey, Prefer as PreferKey, Marks as MarksKey, Filter as FilterKey}
use Rattle.script_lines.specs.declared.keys.Setting.{Setting}
use Rattle.script_lines.specs.declared.keys.Setting.TheVariants.{Size as SizeOf, Count as CountOf, Age as AgeOf, Quota as QuotaOf, Time as TimeOf, Weights as WeightsOf, Prefer as PreferOf, Marks as MarksOf, Filter as FilterOf}
use Rattle.script_lines.specs.Fits.{FitsScheme, FitsSetting}
use Rattle.script_lines.specs.Laws.{IsScheme}
use Rattle.script_lines.specs.SchemeLine.{SaysScheme, any_span, named, quota_words}
use Rattle.script_lines.specs.Settings.{AreAfter, ComesLater, default_scheme, key_of, key_place, settled, with_setting}
use Rattle.script_lines.specs.Spelling.{spaced, spelled_filter, spelled_marks, spelled_prefer, spelled_setting, spelled_span, spelled_weights}
use Rattle.script_lines.specs.WrittenLine.{marks_given, quota_given, time_given}
use Rattle.script_lines.proofs.SpellSteps.{bind-Ok, if-Ok}
use Rattle.script_lines.proofs.WrittenSchemes.{From, filter_follows, filters-fit, filters_settled, fit-append, from-earlier, from-filters, from-in_order, from-marks, from-quota, marks-fit, marks_settled, next_place, quota-fit, quota_settled}

-- ---- the keys of a line, each of which may be left out, and their settings

record Keys : Type 0 where
  size : Option Span
  count : Option Span
  age : Option Span
  quota : Option Quota
  weights : Option Weights
  prefer : Option Prefer
  marks : Option Marks
  filters : List Filter

-- the setting of a value, where there is one
abbrev given : {T : Type 0} → (T → Setting) → Option T → List Setting
given make value = option_map_or (λ x. make x ∷ []) value []

abbrev settings_in : Keys → List Setting
settings_in k =
    given (λ x. SizeOf x) k.size ++ (given (λ x. CountOf x) k.count ++ (given (λ x. AgeOf x) k.age ++ (quota_given k.quota
    ++ (given (λ x. WeightsOf x) k.weights ++ (given (λ x. PreferOf x) k.prefer ++ (marks_given k.marks ++ map (λ f. FilterOf f) k.filters))))))

-- ---- their words

abbrev words_in : Keys → List (List ℕ)
words_in k =
    named (codes "size=") spelled_span k.size
    ++ (named (codes "count=") spelled_span k.count
    ++ (named (codes "age=") spelled_span k.age
    ++ (quota_words k.quota
    ++ (named (codes "weights=") spelled_weights k.weights
    ++ (named (codes "prefer=") spelled_prefer k.prefer
    ++ (named (codes "marks=") spelled_marks k.marks ++ map (λ f. codes "filter=" ++ spelled_filter f) k.filters))))))

given_spelled : {T : Type 0} (make : T → Setting) (name : List ℕ) (spelled : T → List ℕ) → ((x : T) → spelled_setting (make x) ≡ name ++ spelled x) → (value : Option T) (rest : List Setting) (words : List (List ℕ))
    → map spelled_setting rest ≡ words → map spelled_setting (given make value ++ rest) ≡ named name spelled value ++ words
given_spelled make name spelled is None rest words e = e
given_spelled make name spelled is (Some x) rest words e = λ i. is x i ∷ e i

time_spelled : (time : Option ℕ) (rest : List Setting) (words : List (List ℕ)) → map spelled_setting rest ≡ words → map spelled_setting (time_given time ++ rest) ≡ named (codes "time=") decimal time ++ words
time_spelled None rest words e = e
time_spelled (Some time) rest words e = ap (λ ws. (codes "time=" ++ decimal time) ∷ ws) e

quota_spelled : (quota : Option Quota) (rest : List Setting) (words : List (List ℕ)) → map spelled_setting rest ≡ words → map spelled_setting (quota_given quota ++ rest) ≡ quota_words quota ++ words
quota_spelled None rest words e = e
quota_spelled (Some q) rest words e = ap (λ ws. spelled_setting (QuotaOf q) ∷ ws) (time_spelled q.time rest words e)

marks_spelled : (marks : Option Marks) (rest : List Setting) (words : List (List ℕ)) → map spelled_setting rest ≡ words → map spelled_setting (marks_given marks ++ rest) ≡ named (codes "marks=") spelled_marks marks ++ words
marks_spelled None rest words e = e
marks_spelled (Some m) rest words e = ap (λ ws. spelled_setting (MarksOf m) ∷ ws) e

filters_spelled : (filters : List Filter) → map spelled_setting (map (λ f. FilterOf f) filters) ≡ map (λ f. codes "filter=" ++ spelled_filter f) filters
filters_spelled [] = refl
filters_spelled (f ∷ filters) = ap (λ ws. spelled_setting (FilterOf f) ∷ ws) (filters_spelled filters)

keys_spelled : (k : Keys) → map spelled_setting (settings_in k) ≡ words_in k
keys_spelled k =
    given_spelled (λ x. SizeOf x) (codes "size=") spelled_span (λ x. refl) k.size _ _
    (given_spelled (λ x. CountOf x) (codes "count=") spelled_span (λ x. refl) k.count _ _
    (given_spelled (λ x. AgeOf x) (codes "age=") spelled_span (λ x. refl) k.age _ _
    (quota_spelled k.quota _ _
    (given_spelled (λ x. WeightsOf x) (codes "weights=") spelled_weights (λ x. refl) k.weights _ _
    (given_spelled (λ x. PreferOf x) (codes "prefer=") spelled_prefer (λ x. refl) k.prefer _ _
    (marks_spelled k.marks _ _ (filters_spelled k.filters)))))))

-- ---- what they make of the action's default

-- the scheme of these keys but for its filters
abbrev made_of : Action → Keys → Scheme
made_of action k = record {
  action = action;
  pattern = record { size = unwrap_or k.size any_span; count = unwrap_or k.count any_span; age = unwrap_or k.age any_span };
  quota = k.quota;
  weights = unwrap_or k.weights (record { size = 1; count = 1; age = 1 });
  prefer = unwrap_or k.prefer Hot;
  marks = k.marks;
  filters = [];
}

size_settled : (s : Scheme) (value : Option Span) (rest : List Setting)
    → settled s (given (λ x. SizeOf x) value ++ rest) ≡ settled (record s { pattern = record s.pattern { size = unwrap_or value s.pattern.size } }) rest
size_settled s None rest = refl
size_settled s (Some x) rest = refl

count_settled : (s : Scheme) (value : Option Span) (rest : List Setting)
    → settled s (given (λ x. CountOf x) value ++ rest) ≡ settled (record s { pattern = record s.pattern { count = unwrap_or value s.pattern.count } }) rest
count_settled s None rest = refl
count_settled s (Some x) rest = refl

age_settled : (s : Scheme) (value : Option Span) (rest : List Setting)
    → settled s (given (λ x. AgeOf x) value ++ rest) ≡ settled (record s { pattern = record s.pattern { age = unwrap_or value s.pattern.age } }) rest
age_settled s None rest = refl
age_settled s (Some x) rest = refl

weights_settled : (s : Scheme) (value : Option Weights) (rest : List Setting) → settled s (given (λ x. WeightsOf x) value ++ rest) ≡ settled (record s { weights = unwrap_or value s.weights }) rest
weights_settled s None rest = refl
weights_settled s (Some x) rest = refl

prefer_settled : (s : Scheme) (value : Option Prefer) (rest : List Setting) → settled s (given (λ x. PreferOf x) value ++ rest) ≡ settled (record s { prefer = unwrap_or value s.prefer }) rest
prefer_settled s None rest = refl
prefer_settled s (Some x) rest = refl

keys_settled : (action : Action) (k : Keys) → settled (default_scheme action) (settings_in k) ≡ settled (made_of action k) (map (λ f. FilterOf f) k.filters)
keys_settled action k =
    let first = default_scheme action in
    let sized = record first { pattern = record first.pattern { size = unwrap_or k.size first.pattern.size } } in
    let counted = record sized { pattern = record sized.pattern { count = unwrap_or k.count sized.pattern.count } } in
    let aged = record counted { pattern = record counted.pattern { age = unwrap_or k.age counted.pattern.age } } in
    let limited = record aged { quota = k.quota } in
    let weighed = record limited { weights = unwrap_or k.weights limited.weights } in
    let preferred = record weighed { prefer = unwrap_or k.prefer weighed.prefer } in
    size_settled first k.size _
    ∙ count_settled sized k.count _
    ∙ age_settled counted k.age _
    ∙ quota_settled aged k.quota _ refl
    ∙ weights_settled limited k.weights _
    ∙ prefer_settled weighed k.prefer _
    ∙ marks_settled preferred k.marks _ refl

-- a scheme that filters were taken into has them behind those before
filters_taken : (s t : Scheme) (filters : List Filter) → settled s (map (λ f. FilterOf f) filters) ≡ Ok t → record s { filters = s.filters ++ filters } ≡ t
filters_taken s t [] e =
    let same : s ≡ t = cc in
    ap (λ (fs : List Filter). record s { filters = fs }) (append-nil s.filters) ∙ same
filters_taken s t (f ∷ filters) e =
    let step = bind-Ok (with_setting s (FilterOf f)) (λ u. settled u (map (λ g. FilterOf g) filters)) t e in
    let next : record s { filters = s.filters ++ f ∷ [] } ≡ step.0 = if-Ok _ Limit _ step.0 step.1 in
    ap (λ (fs : List Filter). record s { filters = fs }) (sym (append_assoc s.filters (f ∷ []) filters))
    ∙ filters_taken (record s { filters = s.filters ++ f ∷ [] }) t filters (subst (λ (u : Scheme). settled u (map (λ g. FilterOf g) filters) ≡ Ok t) (sym next) step.2)

-- ---- settings in order, key by key

-- the value under a key
abbrev Value : Key → Type 0
Value Size = Span
Value Count = Span
Value Age = Span
Value QuotaKey = Quota
Value TimeKey = ℕ
Value WeightsKey = Weights
Value PreferKey = Prefer
Value MarksKey = Marks
Value FilterKey = Filter

abbrev setting : (k : Key) → Value k → Setting
setting Size x = SizeOf x
setting Count x = CountOf x
setting Age x = AgeOf x
setting QuotaKey x = QuotaOf x
setting TimeKey x = TimeOf x
setting WeightsKey x = WeightsOf x
setting PreferKey x = PreferOf x
setting MarksKey x = MarksOf x
setting FilterKey x = FilterOf x

-- each setting is that of a value under its key
own_value : (s : Setting) → (x : Value (key_of s)) × (setting (key_of s) x ≡ s)
own_value (SizeOf x) = (x, refl)
own_value (CountOf x) = (x, refl)
own_value (AgeOf x) = (x, refl)
own_value (QuotaOf x) = (x, refl)
own_value (TimeOf x) = (x, refl)
own_value (WeightsOf x) = (x, refl)
own_value (PreferOf x) = (x, refl)
own_value (MarksOf x) = (x, refl)
own_value (FilterOf x) = (x, refl)

abbrev key_at : ℕ → Key
key_at place = slice_index_or (Size ∷ Count ∷ Age ∷ QuotaKey ∷ TimeKey ∷ WeightsKey ∷ PreferKey ∷ MarksKey ∷ []) place FilterKey

at_place : (k : Key) → key_at (key_place k) ≡ k
at_place Size = refl
at_place Count = refl
at_place Age = refl
at_place QuotaKey = refl
at_place TimeKey = refl
at_place WeightsKey = refl
at_place PreferKey = refl
at_place MarksKey = refl
at_place FilterKey = refl

-- keys at one place are the same
same_key : (j k : Key) → key_place j ≡ key_place k → j ≡ k
same_key j k e = sym (at_place j) ∙ ap key_at e ∙ at_place k

-- a setting with the place of a key is that of a value under it
value_at : (k : Key) (s : Setting) → key_of s ≡ k → (x : Value k) × (setting k x ≡ s)
value_at k s same = subst (λ (j : Key). (x : Value j) × (setting j x ≡ s)) same (own_value s)

-- settings after one of them
after-from : (version : Version) (earlier : Setting) (settings : List Setting) → AreAfter version (Some earlier) settings → From version (next_place (key_of earlier)) settings
after-from version earlier [] all = tt
after-from version earlier (later ∷ more) (follows, all) = (
  place_next earlier later follows.comes_later,
  (λ is. let timed = follows.timed is in (timed.0, (let quota : key_of earlier ≡ QuotaKey = cc in ap next_place quota))),
  after-from version later more all,
)
  where
    place_next : (earlier later : Setting) → ComesLater (Some earlier) later → next_place (key_of earlier) ≤ key_place (key_of later)
    place_next earlier later (inr (first, second)) = omega (arith, ap next_place first, ap key_place second)
    place_next (SizeOf x) later (inl less) = omega (arith, less)
    place_next (CountOf x) later (inl less) = omega (arith, less)
    place_next (AgeOf x) later (inl less) = omega (arith, less)
    place_next (QuotaOf x) later (inl less) = omega (arith, less)
    place_next (TimeOf x) later (inl less) = omega (arith, less)
    place_next (WeightsOf x) later (inl less) = omega (arith, less)
    place_next (PreferOf x) later (inl less) = omega (arith, less)
    place_next (MarksOf x) later (inl less) = omega (arith, less)
    place_next (FilterOf x) later (inl less) = omega (arith, less)

-- all settings
in_order-from : (version : Version) (settings : List Setting) → AreAfter version None settings → From version 0 settings
in_order-from version [] all = tt
in_order-from version (s ∷ more) all = (omega arith, (λ is. let timed = all.0.timed is in absurd cc), after-from version s more all.1)

-- settings from a place on begin with that of the key there, or without it
record Apart (version : Version) (k : Key) (next : ℕ) (settings : List Setting) : Type 0 where
  value : Option (Value k)
  rest : List Setting
  is : settings ≡ given (setting k) value ++ rest
  fit : AllByRecursion FitsSetting rest
  from : From version next rest

apart : (version : Version) (k : Key) (settings : List Setting) → next_place k ≡ key_place k + 1 → From version (key_place k) settings → AllByRecursion FitsSetting settings → Apart version k (next_place k) settings
apart version k [] one from fit = record { value = None; rest = []; is = refl; fit = tt; from = tt }
apart version k (s ∷ more) one from fit = by (key_place (key_of s) == key_place k) refl
  where
    by : (test : Bool) → (key_place (key_of s) == key_place k) ≡ test → Apart version k (next_place k) (s ∷ more)
    by true e =
        let place : key_place (key_of s) ≡ key_place k = grind (arith, nat_tests) in
        let same = same_key (key_of s) k place in
        let x = value_at k s same in
        record {
          value = Some x.0;
          rest = more;
          is = ap (λ t. t ∷ more) (sym x.1);
          fit = fit.1;
          from = subst (λ (j : Key). From version (next_place j) more) same from.2;
        }
    by false e =
        let later : key_place k + 1 ≤ key_place (key_of s) = grind (arith, nat_tests, from.0) in
        record {
          value = None;
          rest = s ∷ more;
          is = refl;
          fit = fit;
          from = (omega (arith, one, later), (λ is. absurd (omega (arith, later, ap key_place is, (from.1 is).1))), from.2);
        }

-- the quota with its time
record QuotaApart (version : Version) (settings : List Setting) : Type 0 where
  quota : Option Quota
  rest : List Setting
  is : settings ≡ quota_given quota ++ rest
  fit : AllByRecursion FitsSetting rest
  from : From version 5 rest

time_is : (time : Option ℕ) → given (setting TimeKey) time ≡ time_given time
time_is None = refl
time_is (Some t) = refl

-- a place from that of the quota on, which is neither its nor that of a time
past_both : (place : ℕ) → 3 ≤ place → (place == 3) ≡ false → (place ≡ 4 → ⊥) → 5 ≤ place
past_both place most no_quota no_time = by (place == 4) refl
  where
    by : (test : Bool) → (place == 4) ≡ test → 5 ≤ place
    by true e = let four : place ≡ 4 = grind (arith, nat_tests) in absurd (no_time four)
    by false e = grind (arith, nat_tests)

quota_apart : (version : Version) (settings : List Setting) → From version 3 settings → AllByRecursion FitsSetting settings → QuotaApart version settings
quota_apart version [] from fit = record { quota = None; rest = []; is = refl; fit = tt; from = tt }
quota_apart version (s ∷ more) from fit = by (key_place (key_of s) == 3) refl
  where
    by : (test : Bool) → (key_place (key_of s) == 3) ≡ test → QuotaApart version (s ∷ more)
    by true e =
        let place : key_place (key_of s) ≡ 3 = grind (arith, nat_tests) in
        let same = same_key (key_of s) QuotaKey place in
        let q = value_at QuotaKey s same in
        let fits : FitsSetting (QuotaOf q.0) = subst FitsSetting (sym q.1) fit.0 in
        let after = apart version TimeKey more refl (subst (λ (j : Key). From version (next_place j) more) same from.2) fit.1 in
        let quota : Quota = record q.0 { time = after.value } in
        let plain : q.0 ≡ record quota { time = None } = ap (λ (t : Option ℕ). record q.0 { time = t }) fits.2 in
        record {
          quota = Some quota;
          rest = after.rest;
          is =
              ap (λ t. t ∷ more) (sym q.1)
              ∙ (λ i. QuotaOf (plain i) ∷ after.is i)
              ∙ ap (λ ts. QuotaOf (record quota { time = None }) ∷ (ts ++ after.rest)) (time_is after.value);
          fit = after.fit;
          from = after.from;
        }
    by false e =
        let no_time : (key_of s ≡ TimeKey) → ⊥ = λ is. let early : 3 ≡ 4 = (from.1 is).1 in omega (arith, early) in
        let past = past_both (key_place (key_of s)) from.0 e (λ four. no_time (same_key (key_of s) TimeKey four)) in
        record { quota = None; rest = s ∷ more; is = refl; fit = fit; from = (past, (λ is. absurd (no_time is)), from.2) }

-- only filters are left
filters_apart : (version : Version) (settings : List Setting) → From version 8 settings → (filters : List Filter) × (settings ≡ map (λ f. FilterOf f) filters)
filters_apart version [] from = ([], refl)
filters_apart version (s ∷ more) from =
    let same = filter_follows s from.0 in
    let f = value_at FilterKey s same in
    let rest = filters_apart version more (subst (λ (j : Key). From version (next_place j) more) same from.2) in
    (f.0 ∷ rest.0, (λ i. sym f.1 i ∷ rest.1 i))

marks_is : (marks : Option Marks) → given (setting MarksKey) marks ≡ marks_given marks
marks_is None = refl
marks_is (Some m) = refl

-- settings in order are those of keys
keys_in : (version : Version) (settings : List Setting) → From version 0 settings → AllByRecursion FitsSetting settings → (k : Keys) × (settings ≡ settings_in k)
keys_in version settings from fit =
    let size = apart version Size settings refl from fit in
    let count = apart version Count size.rest refl size.from size.fit in
    let age = apart version Age count.rest refl count.from count.fit in
    let quota = quota_apart version age.rest age.from age.fit in
    let weights = apart version WeightsKey quota.rest refl quota.from quota.fit in
    let prefer = apart version PreferKey weights.rest refl weights.from weights.fit in
    let marks = apart version MarksKey prefer.rest refl prefer.from prefer.fit in
    let filters = filters_apart version marks.rest marks.from in
    let with_marks : prefer.rest ≡ marks_given marks.value ++ map (λ f. FilterOf f) filters.0 = marks.is ∙ (λ i. marks_is marks.value i ++ filters.1 i) in
    let k : Keys = record { size = size.value; count = count.value; age = age.value; quota = quota.quota; weights = weights.value; prefer = prefer.value; marks = marks.value; filters = filters.0 } in (
      k,
      size.is
          ∙ ap (λ ts. given (λ x. SizeOf x) k.size ++ ts) (count.is
          ∙ ap (λ ts. given (λ x. CountOf x) k.count ++ ts) (age.is
          ∙ ap (λ ts. given (λ x. AgeOf x) k.age ++ ts) (quota.is
          ∙ ap (λ ts. quota_given k.quota ++ ts) (weights.is
          ∙ ap (λ ts. given (λ x. WeightsOf x) k.weights ++ ts) (prefer.is
          ∙ ap (λ ts. given (λ x. PreferOf x) k.prefer ++ ts) with_marks))))),
    )

-- ---- and the settings of keys are in order, and fit

from-size : (version : Version) (value : Option Span) (rest : List Setting) → From version 1 rest → From version 0 (given (λ x. SizeOf x) value ++ rest)
from-size version None rest after = from-earlier version 0 1 rest (omega arith) (λ e. omega (arith, e)) after
from-size version (Some x) rest after = (omega arith, (λ is. absurd cc), after)

from-count : (version : Version) (value : Option Span) (rest : List Setting) → From version 2 rest → From version 1 (given (λ x. CountOf x) value ++ rest)
from-count version None rest after = from-earlier version 1 2 rest (omega arith) (λ e. omega (arith, e)) after
from-count version (Some x) rest after = (omega arith, (λ is. absurd cc), after)

from-age : (version : Version) (value : Option Span) (rest : List Setting) → From version 3 rest → From version 2 (given (λ x. AgeOf x) value ++ rest)
from-age version None rest after = from-earlier version 2 3 rest (omega arith) (λ e. omega (arith, e)) after
from-age version (Some x) rest after = (omega arith, (λ is. absurd cc), after)

from-weights : (version : Version) (value : Option Weights) (rest : List Setting) → From version 6 rest → From version 5 (given (λ x. WeightsOf x) value ++ rest)
from-weights version None rest after = from-earlier version 5 6 rest (omega arith) (λ e. omega (arith, e)) after
from-weights version (Some x) rest after = (omega arith, (λ is. absurd cc), after)

from-preferred : (version : Version) (value : Option Prefer) (rest : List Setting) → From version 7 rest → From version 6 (given (λ x. PreferOf x) value ++ rest)
from-preferred version None rest after = from-earlier version 6 7 rest (omega arith) (λ e. omega (arith, e)) after
from-preferred version (Some x) rest after = (omega arith, (λ is. absurd cc), after)

keys_from : (version : Version) (k : Keys) → checked_time version k.quota ≡ Ok tt → From version 0 (settings_in k)
keys_from version k sound =
    from-size version k.size _ (from-count version k.count _ (from-age version k.age _ (from-quota version k.quota _ sound
    (from-weights version k.weights _ (from-preferred version k.prefer _ (from-marks version k.marks _ (from-filters version k.filters)))))))

-- a value that fits as a part of a scheme fits where it is given
given-fit : {T : Type 0} (make : T → Setting) (value : Option T) (default part : T) → unwrap_or value default ≡ part → FitsSetting (make part) → AllByRecursion FitsSetting (given make value)
given-fit make None default part is fits = tt
given-fit make (Some x) default part is fits = (subst (λ y. FitsSetting (make y)) (sym is) fits, tt)

-- ---- both ways

-- a line whose settings make a scheme says it
pub scheme_said : (version : Version) (line : List ℕ) (slot : ℕ) (s : Scheme) → IsScheme version line slot s → SaysScheme line slot s
scheme_said version line slot s is =
    let keys = keys_in version is.settings (in_order-from version is.settings is.in_order) is.fit in
    let k = keys.0 in
    let made : settled (made_of is.action k) (map (λ f. FilterOf f) k.filters) ≡ Ok s =
    sym (keys_settled is.action k) ∙ ap (settled (default_scheme is.action)) (sym keys.1) ∙ is.made
    in
    let same : record (made_of is.action k) { filters = k.filters } ≡ s = filters_taken (made_of is.action k) s k.filters made in
    subst (SaysScheme line slot) same (record {
      size = k.size;
      count = k.count;
      age = k.age;
      weights = k.weights;
      prefer = k.prefer;
      spelled = is.spelled ∙ ap (λ ws. spaced (codes "scheme" ∷ decimal slot ∷ action_name is.action ∷ ws)) (ap (map spelled_setting) keys.1 ∙ keys_spelled k);
      pattern_is = refl;
      weights_are = refl;
      prefer_is = refl;
    })

-- a line that says a scheme has settings that make it
pub scheme_set : (version : Version) (line : List ℕ) (slot : ℕ) (s : Scheme) → SaysScheme line slot s → slot < 2 ^ 8 → FitsScheme s → checked_time version s.quota ≡ Ok tt → IsScheme version line slot s
scheme_set version line slot s says small fits sound =
    let k : Keys = record { size = says.size; count = says.count; age = says.age; quota = s.quota; weights = says.weights; prefer = says.prefer; marks = s.marks; filters = s.filters } in
    let same : record (made_of s.action k) { filters = s.filters } ≡ s =
    λ i. record { action = s.action; pattern = says.pattern_is i; quota = s.quota; weights = says.weights_are i; prefer = says.prefer_is i; marks = s.marks; filters = s.filters }
    in
    record {
      action = s.action;
      settings = settings_in k;
      spelled = says.spelled ∙ ap (λ ws. spaced (codes "scheme" ∷ decimal slot ∷ action_name s.action ∷ ws)) (sym (keys_spelled k));
      small = small;
      fit =
          fit-append (given (λ x. SizeOf x) k.size) _ (given-fit (λ x. SizeOf x) k.size any_span s.pattern.size (ap (λ p. p.size) says.pattern_is) fits.size)
          (fit-append (given (λ x. CountOf x) k.count) _ (given-fit (λ x. CountOf x) k.count any_span s.pattern.count (ap (λ p. p.count) says.pattern_is) fits.count)
          (fit-append (given (λ x. AgeOf x) k.age) _ (given-fit (λ x. AgeOf x) k.age any_span s.pattern.age (ap (λ p. p.age) says.pattern_is) fits.age)
          (fit-append (quota_given s.quota) _ (quota-fit s.quota fits.quota)
          (fit-append (given (λ x. WeightsOf x) k.weights) _ (given-fit (λ x. WeightsOf x) k.weights (record { size = 1; count = 1; age = 1 }) s.weights says.weights_are fits.weights)
          (fit-append (given (λ x. PreferOf x) k.prefer) _ (given-fit (λ x. PreferOf x) k.prefer Hot s.prefer says.prefer_is tt)
          (fit-append (marks_given s.marks) _ (marks-fit s.marks fits.marks) (filters-fit s.filters fits.filters)))))));
      in_order = from-in_order version (settings_in k) (keys_from version k sound);
      made = keys_settled s.action k ∙ filters_settled (made_of s.action k) [] s.filters fits.few ∙ ap (λ (t : Scheme). Ok t) same;
    }
