-- What lines say is a setup within its limits.
use Rattle.std.proofs.Common.{◌≡◌, ℕ, List, length, ap, subst, ◌∙◌, sym, arith}
use Rattle.damon_types.specs.declared.range.Range.{Range}
use Rattle.damon_types.specs.Ranges.{InOrder}
use Rattle.live_commit.specs.Setup.{IsSetup, SetupValue}
use Rattle.damon_control.specs.Text.{SaySetup}
use Rattle.target_ranges.proofs.Lemmas.{made_each, made_in_order}
use Rattle.damon_control.proofs.SpaceLimits.{AreMade, accepted-AreMade}
use Rattle.damon_control.proofs.SetupChecks.{said_slots}

-- lines say a setup within its limits
pub SaySetup-IsSetup : (lines : List (List ℕ)) (seed : ℕ) (setup : SetupValue) → SaySetup lines seed setup → IsSetup setup
SaySetup-IsSetup lines seed setup says =
    let made : AreMade setup.space setup.unit setup.ranges =
    subst (λ (gs : List Range). AreMade setup.space setup.unit gs) says.watched (accepted-AreMade setup.space setup.unit setup.cap says.specs says.ranges)
    in
    let count : length setup.ranges ≡ length says.specs = ap (λ (gs : List Range). length gs) (sym says.watched) ∙ made_each setup.space says.specs in
    record {
      unit_some = says.unit_some;
      unit_most = says.unit_most;
      cap_some = says.cap_some;
      cap_most = says.cap_most;
      attrs = says.attrs;
      max_cap = says.max_cap;
      ranges_some = omega (arith, count, says.some_range);
      ranges_most = omega (arith, count, says.few_ranges);
      wide = made.wide;
      classes = made.classes;
      within = made.within;
      set = says.set;
      slots = said_slots lines seed setup says;
    }

-- its ranges are in order
pub SaySetup-InOrder : (lines : List (List ℕ)) (seed : ℕ) (setup : SetupValue) → SaySetup lines seed setup → InOrder setup.ranges
SaySetup-InOrder lines seed setup says =
    subst (λ (gs : List Range). InOrder gs) says.watched
    (made_in_order setup.space setup.unit setup.cap says.specs says.space says.ranges)
