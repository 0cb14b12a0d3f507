-- What a line of a scheme says is a scheme whose numbers are within their fields, and whose quota has a time in version Two alone.
use Rattle.std.proofs.Common.{◌≡◌, ◌∷◌, [], ℕ, ◌^◌, ◌<◌, List, ◌++◌, length, Option, Some, None, Ok, refl, sym, subst, arith, length-append}
use Rattle.std.specs.List.{AllByRecursion}
use Rattle.std.specs.Prelude.{All, IfSome, nat_lt, option_map}
use Rattle.std.proofs.lemmas.Bool.Decides.{nat_tests}
use Rattle.std.proofs.lemmas.List.Elements.{All-append, All-from_recursion}
use Rattle.damon_types.specs.declared.filter.Filter.{Filter}
use Rattle.damon_types.specs.declared.scheme.Action.{Action}
use Rattle.damon_types.specs.declared.scheme.Quota.{Quota}
use Rattle.damon_types.specs.declared.scheme.Scheme.{Scheme}
use Rattle.damon_types.specs.declared.scheme.SlotChange.{SlotChange}
use Rattle.damon_types.specs.declared.scheme.Version.{Version}
use Rattle.damon_types.specs.declared.scheme.Version.TheVariants.{One, Two}
use Rattle.damon_types.specs.Scheme.{checked_time}
use Rattle.script_lines.specs.declared.kind.ScriptKind.TheVariants.{Limit}
use Rattle.script_lines.specs.declared.keys.Setting.{Setting}
use Rattle.script_lines.specs.declared.keys.Setting.TheVariants.{Size, Count, Age, Quota as QuotaOf, Time, Weights, Prefer, Marks, Filter as FilterOf}
use Rattle.script_lines.specs.Fits.{FitsChange, FitsKind, FitsScheme, FitsSetting}
use Rattle.script_lines.specs.Laws.{EmptiesSlot, GivesScheme, IsScheme}
use Rattle.script_lines.specs.Settings.{AreAfter, default_scheme, settled, with_setting}
use Rattle.damon_control.proofs.Steps.{bind-Ok, only_if-Ok}

-- its numbers are within their fields, and its quota has no time in version One
abbrev pub FitsIn : Version → Scheme → Type 0
FitsIn version s = FitsScheme s × (checked_time version s.quota ≡ Ok tt)

-- ---- the time of a quota

any_in_two : (q : Option Quota) → checked_time Two q ≡ Ok tt
any_in_two None = refl
any_in_two (Some q) = refl

no_time : (version : Version) (bytes reset : ℕ) (time : Option ℕ) → time ≡ None → checked_time version (Some (record { bytes = bytes; reset = reset; time = time })) ≡ Ok tt
no_time One bytes reset None none = refl
no_time One bytes reset (Some t) none = absurd cc
no_time Two bytes reset time none = refl

no_time-fits : (time : Option ℕ) → time ≡ None → IfSome time (λ t. t < 2 ^ 64)
no_time-fits None none = tt
no_time-fits (Some t) none = absurd cc

-- a quota, if there is one, with this time
abbrev with_time : Option Quota → ℕ → Option Quota
with_time quota time = option_map (λ (q : Quota). record q { time = Some time }) quota

-- bytes of 64 bits, a reset interval of 32, and a time of 64, if there is one
abbrev FitsQuota : Quota → Type 0
FitsQuota q = (q.bytes < 2 ^ 64) × (q.reset < 2 ^ 32) × IfSome q.time (λ time. time < 2 ^ 64)

with_time-fits : (q : Option Quota) (time : ℕ) → IfSome q FitsQuota → time < 2 ^ 64 → IfSome (with_time q time) FitsQuota
with_time-fits None time fits below = tt
with_time-fits (Some q) time fits below = (fits.0, fits.1, below)

-- ---- settings

-- a default
default_fits : (action : Action) → FitsScheme (default_scheme action)
default_fits action = record {
  size = (omega arith, omega arith);
  count = (omega arith, omega arith);
  age = (omega arith, omega arith);
  quota = tt;
  weights = (omega arith, omega arith, omega arith);
  marks = tt;
  filters = All-from_recursion (λ (f : Filter). FitsKind f.kind) [] tt;
  few = omega arith;
}

settled_fits : (version : Version) (s : Scheme) (last : Option Setting) (settings : List Setting) (scheme : Scheme) → FitsScheme s → checked_time version s.quota ≡ Ok tt
    → AllByRecursion FitsSetting settings → AreAfter version last settings → settled s settings ≡ Ok scheme → FitsIn version scheme
settled_fits version s last [] scheme fits timed each order e =
    let same : s ≡ scheme = cc in
    subst (FitsIn version) same (fits, timed)
settled_fits version s last (Size x ∷ more) scheme fits timed each order e =
    settled_fits version (record s { pattern = record s.pattern { size = x } }) (Some (Size x)) more scheme
    (record { size = each.0; count = fits.count; age = fits.age; quota = fits.quota; weights = fits.weights; marks = fits.marks; filters = fits.filters; few = fits.few }) timed each.1 order.1 e
settled_fits version s last (Count x ∷ more) scheme fits timed each order e =
    settled_fits version (record s { pattern = record s.pattern { count = x } }) (Some (Count x)) more scheme
    (record { size = fits.size; count = each.0; age = fits.age; quota = fits.quota; weights = fits.weights; marks = fits.marks; filters = fits.filters; few = fits.few }) timed each.1 order.1 e
settled_fits version s last (Age x ∷ more) scheme fits timed each order e =
    settled_fits version (record s { pattern = record s.pattern { age = x } }) (Some (Age x)) more scheme
    (record { size = fits.size; count = fits.count; age = each.0; quota = fits.quota; weights = fits.weights; marks = fits.marks; filters = fits.filters; few = fits.few }) timed each.1 order.1 e
settled_fits version s last (QuotaOf q ∷ more) scheme fits timed each order e =
    settled_fits version (record s { quota = Some q }) (Some (QuotaOf q)) more scheme
    (record { size = fits.size; count = fits.count; age = fits.age; quota = (each.0.0, each.0.1, no_time-fits q.time each.0.2); weights = fits.weights; marks = fits.marks; filters = fits.filters; few = fits.few })
    (no_time version q.bytes q.reset q.time each.0.2) each.1 order.1 e
settled_fits version s last (Time t ∷ more) scheme fits timed each order e =
    let two : version ≡ Two = (order.0.timed refl).0 in
    settled_fits version (record s { quota = with_time s.quota t }) (Some (Time t)) more scheme
    (record { size = fits.size; count = fits.count; age = fits.age; quota = with_time-fits s.quota t fits.quota each.0; weights = fits.weights; marks = fits.marks; filters = fits.filters; few = fits.few })
    (subst (λ (ver : Version). checked_time ver (with_time s.quota t) ≡ Ok tt) (sym two) (any_in_two (with_time s.quota t))) each.1 order.1 e
settled_fits version s last (Weights x ∷ more) scheme fits timed each order e =
    settled_fits version (record s { weights = x }) (Some (Weights x)) more scheme
    (record { size = fits.size; count = fits.count; age = fits.age; quota = fits.quota; weights = each.0; marks = fits.marks; filters = fits.filters; few = fits.few }) timed each.1 order.1 e
settled_fits version s last (Prefer x ∷ more) scheme fits timed each order e =
    settled_fits version (record s { prefer = x }) (Some (Prefer x)) more scheme
    (record { size = fits.size; count = fits.count; age = fits.age; quota = fits.quota; weights = fits.weights; marks = fits.marks; filters = fits.filters; few = fits.few }) timed each.1 order.1 e
settled_fits version s last (Marks x ∷ more) scheme fits timed each order e =
    settled_fits version (record s { marks = Some x }) (Some (Marks x)) more scheme
    (record { size = fits.size; count = fits.count; age = fits.age; quota = fits.quota; weights = fits.weights; marks = each.0; filters = fits.filters; few = fits.few }) timed each.1 order.1 e
settled_fits version s last (FilterOf x ∷ more) scheme fits timed each order e =
    let next : Scheme = record s { filters = s.filters ++ x ∷ [] } in
    let step = bind-Ok (with_setting s (FilterOf x)) (λ t. settled t more) scheme e in
    let room = only_if-Ok (nat_lt (length s.filters) 8) Limit next step.0 step.1 in
    let few : length s.filters < 8 = (let test = room.0 in grind (arith, nat_tests)) in
    let one : All (λ (f : Filter). FitsKind f.kind) (x ∷ []) = All-from_recursion (λ (f : Filter). FitsKind f.kind) (x ∷ []) (each.0, tt) in
    settled_fits version next (Some (FilterOf x)) more scheme
    (record {
      size = fits.size;
      count = fits.count;
      age = fits.age;
      quota = fits.quota;
      weights = fits.weights;
      marks = fits.marks;
      filters = All-append (λ (f : Filter). FitsKind f.kind) s.filters (x ∷ []) fits.filters one;
      few = omega (arith, few, length-append s.filters (x ∷ []));
    })
    timed each.1 order.1 (subst (λ (t : Scheme). settled t more ≡ Ok scheme) (sym room.1) step.2)

-- ---- changes

pub scheme_fits : (version : Version) (line : List ℕ) (slot : ℕ) (scheme : Scheme) → IsScheme version line slot scheme → FitsIn version scheme
scheme_fits version line slot scheme is = settled_fits version (default_scheme is.action) None is.settings scheme (default_fits is.action) refl is.fit is.in_order is.made

-- a change as its type has it, whose scheme has no time in version One
abbrev pub ChangeFits : Version → SlotChange → Type 0
ChangeFits version change = FitsChange change × IfSome change.scheme (λ s. checked_time version s.quota ≡ Ok tt)

pub gives_fits : (version : Version) (line : List ℕ) (change : SlotChange) → GivesScheme version line change → ChangeFits version change
gives_fits version line change gives =
    let fits = scheme_fits version line change.slot gives.0 gives.2 in
    let there : IfSome change.scheme FitsScheme × IfSome change.scheme (λ s. checked_time version s.quota ≡ Ok tt) =
    subst (λ (o : Option Scheme). IfSome o FitsScheme × IfSome o (λ s. checked_time version s.quota ≡ Ok tt)) (sym gives.1) fits in
    (record { small = gives.2.small; fits = there.0 }, there.1)

pub empties_fits : (version : Version) (line : List ℕ) (change : SlotChange) → EmptiesSlot line change → ChangeFits version change
empties_fits version line change empties =
    let there : IfSome change.scheme FitsScheme × IfSome change.scheme (λ s. checked_time version s.quota ≡ Ok tt) =
    subst (λ (o : Option Scheme). IfSome o FitsScheme × IfSome o (λ s. checked_time version s.quota ≡ Ok tt)) (sym empties.0) (tt, tt) in
    (record { small = empties.2; fits = there.0 }, there.1)
