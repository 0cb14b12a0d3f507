-- What is within its limits once a line was read.
use Rattle.std.proofs.Common.{◌≡◌, ◌∷◌, [], ◌&&◌, ◌-◌, ◌^◌, ◌<◌, ◌≤◌, ℕ, Bool, true, false, not, nat_le, nat_lt, List, ◌++◌, length, codes, Some, Ok, Err, refl, subst, arith}
use Rattle.std.proofs.lemmas.Bool.Decides.{nat_tests}
use Rattle.std.specs.Prelude.{if◌then◌else◌, Result, is_ok}
use Rattle.damon_types.specs.declared.attrs.Attrs.{Attrs}
use Rattle.damon_types.specs.declared.range.RangeSpec.{RangeSpec}
use Rattle.damon_types.specs.declared.scheme.SlotChange.{SlotChange}
use Rattle.damon_types.specs.declared.space.Target.{Target}
use Rattle.damon_types.specs.Attrs.{checked_attrs}
use Rattle.damon_types.specs.declared.scheme.Version.{Version}
use Rattle.damon_types.specs.Scheme.{checked_in}
use Rattle.damon_types.specs.Space.{checked}
use Rattle.line_text.specs.Number.{number}
use Rattle.line_text.proofs.Lemmas.{number-Some}
use Rattle.live_commit.specs.declared.fault.SetupFault.TheVariants.{OverCap as MaxOverCap}
use Rattle.live_commit.specs.Checked.{checked_cap, checked_limits, checked_unit}
use Rattle.live_commit.specs.Slots.{checked_slot}
use Rattle.target_ranges.specs.Checked.{checked_next}
use Rattle.script_lines.specs.declared.kind.ScriptKind.{ScriptKind}
use Rattle.script_lines.specs.declared.kind.ScriptKind.TheVariants.{Attrs as BadAttrs, Limit, Number, OverCap, Range as BadRange, RangesOverMax, Repeated, Scheme as BadScheme}
use Rattle.script_lines.specs.declared.setup.Frame.{Frame}
use Rattle.script_lines.specs.declared.blocks.TheConstants.{MAX_PASSES}
use Rattle.script_lines.specs.Blocks.{passes_line}
use Rattle.script_lines.specs.Fields.{attrs_in, range_in}
use Rattle.script_lines.specs.Head.{attrs_line, cap_line, is_changed, limited, one_target, range_line, scheme_line, seed_line, target_line, unit_line}
use Rattle.script_lines.specs.Keys.{scheme_in}
use Rattle.script_lines.specs.Refusal.{◌>>=◌, refused_as}
use Rattle.script_lines.specs.Words.{arguments, number_32, number_64, one_word}
use Rattle.script_lines.proofs.SlotLemmas.{checked_slot_accepted}
use Rattle.script_lines.proofs.SpellLines.{limited-bounds}
use Rattle.script_lines.proofs.SpellSteps.{bind-Ok, ok_or-Ok, only_if-Ok}

pub seed_fits : (line : List ℕ) (n : ℕ) → seed_line line ≡ Ok n → n < 2 ^ 64
seed_fits line n e =
    let word = bind-Ok (arguments (codes "seed") line >>= one_word) number_64 n e in
    let within = (number-Some (2 ^ 64 - 1) n word.0 (omega arith) (ok_or-Ok (number (2 ^ 64 - 1) word.0) Number n word.2)).1 in
    omega (arith, within)

pub limited_passes : (r : Result ℕ ScriptKind) (least most n : ℕ) → (r >>= limited least most) ≡ Ok n → (nat_le least n && nat_le n most) ≡ true
limited_passes r least most n e =
    let within = bind-Ok r (limited least most) n e in
    let passes = only_if-Ok (nat_le least within.0 && nat_le within.0 most) Limit within.0 n within.2 in
    subst (λ m. (nat_le least m && nat_le m most) ≡ true) passes.1 passes.0

pub unit_sound : (line : List ℕ) (n : ℕ) → unit_line line ≡ Ok n → checked_unit n ≡ Ok tt
unit_sound line n e = rw (limited_passes (arguments (codes "unit") line >>= one_word >>= number_32) 1 1048576 n e) refl

pub cap_sound : (line : List ℕ) (n : ℕ) → cap_line line ≡ Ok n → checked_cap n ≡ Ok tt
cap_sound line n e = rw (limited_passes (arguments (codes "cap") line >>= one_word >>= number_32) 3 4096 n e) refl

pub passes_sound : (line : List ℕ) (n : ℕ) → passes_line line ≡ Ok n → (1 ≤ n) × (n ≤ MAX_PASSES)
passes_sound line n e = limited-bounds (arguments (codes "passes") line >>= one_word >>= number_32) 1 1000000 n e

accepted : {E : Type 0} (kind : E → ScriptKind) (r : Result (Unit {0}) E) (t : Unit {0}) → refused_as kind r ≡ Ok t → r ≡ Ok tt
accepted kind (Ok u) t e = refl
accepted kind (Err why) t e = absurd cc

max_sound : (max cap : ℕ) → nat_le max cap ≡ true → (if nat_lt cap max then Err (MaxOverCap max cap) else Ok (tt {0})) ≡ Ok tt
max_sound max cap e = grind (arith, nat_tests)

pub limits_sound : (line : List ℕ) (unit cap : ℕ) (a : Attrs) → checked_unit unit ≡ Ok tt → checked_cap cap ≡ Ok tt → attrs_line cap line ≡ Ok a → checked_limits unit cap a ≡ Ok tt
limits_sound line unit cap a unit_is cap_is e =
    let words = bind-Ok (arguments (codes "attrs") line) _ a e in
    let read = bind-Ok (attrs_in words.0) _ a words.2 in
    let checks = bind-Ok (refused_as BadAttrs (checked_attrs read.0)) _ a read.2 in
    let below = only_if-Ok (nat_le read.0.max cap) OverCap read.0 a checks.2 in
    let of_read : checked_limits unit cap read.0 ≡ Ok tt =
    rw (unit_is, cap_is, accepted BadAttrs (checked_attrs read.0) checks.0 checks.1, max_sound read.0.max cap below.0) refl
    in
    subst (λ (b : Attrs). checked_limits unit cap b ≡ Ok tt) below.1 of_read

is_ok_Ok : {E : Type 0} (r : Result (Unit {0}) E) → is_ok r ≡ true → r ≡ Ok tt
is_ok_Ok (Ok t) e = refl
is_ok_Ok (Err why) e = absurd cc

pub target_sound : (before : List Target) (line : List ℕ) (t : Target) → target_line before line ≡ Ok t → checked (before ++ t ∷ []) ≡ Ok tt
target_sound before line t e =
    let one = bind-Ok (one_target line) _ t e in
    let passes = only_if-Ok (is_ok (checked (before ++ one.0 ∷ []))) Limit one.0 t one.2 in
    subst (λ (u : Target). checked (before ++ u ∷ []) ≡ Ok tt) passes.1 (is_ok_Ok (checked (before ++ one.0 ∷ [])) passes.0)

-- a range that is accepted after others, which are fewer than the most
pub record FollowsRanges (f : Frame) (targets : List Target) (before : List RangeSpec) (r : RangeSpec) : Type 0 where
  pub sound : checked_next targets f.unit f.cap before r ≡ Ok tt
  pub few : length before < f.attrs.max

pub range_follows : (f : Frame) (targets : List Target) (before : List RangeSpec) (line : List ℕ) (r : RangeSpec) → range_line f targets before line ≡ Ok r → FollowsRanges f targets before r
range_follows f targets before line r e =
    let words = bind-Ok (arguments (codes "range") line) _ r e in
    let read = bind-Ok (range_in words.0) _ r words.2 in
    let checks = bind-Ok (refused_as BadRange (checked_next targets f.unit f.cap before read.0)) _ r read.2 in
    let passes = only_if-Ok (nat_lt (length before) f.attrs.max) RangesOverMax read.0 r checks.2 in
    subst (FollowsRanges f targets before) passes.1 (record {
      sound = accepted BadRange (checked_next targets f.unit f.cap before read.0) checks.0 checks.1;
      few = grind (arith, nat_tests, passes.0);
    })

not_true : (b : Bool) → not b ≡ true → b ≡ false
not_true true e = absurd cc
not_true false e = refl

pub scheme_sound : (version : Version) (before : List SlotChange) (line : List ℕ) (change : SlotChange) → scheme_line version before line ≡ Ok change → checked_slot version (length before) before change ≡ Ok tt
scheme_sound version before line change e =
    let words = bind-Ok (arguments (codes "scheme") line) _ change e in
    let read = bind-Ok (scheme_in version words.0) _ change words.2 in
    let checks = bind-Ok (refused_as BadScheme (checked_in version read.0.0 read.0.1)) _ change read.2 in
    let passes = only_if-Ok (not (is_changed read.0.0 before)) Repeated (record { slot = read.0.0; scheme = Some read.0.1 }) change checks.2 in
    subst (λ (c : SlotChange). checked_slot version (length before) before c ≡ Ok tt) passes.1
    (checked_slot_accepted version before read.0.0 read.0.1
    (accepted BadScheme (checked_in version read.0.0 read.0.1) checks.0 checks.1)
    (not_true (is_changed read.0.0 before) passes.0))
