-- Which numbers of heat tables add up, worked out by hand.
use Rattle.std.proofs.Common.{◌≡◌, ℕ, zero, suc, ◌<◌, List, [], ◌∷◌, refl, arith}
use Rattle.std.specs.Prelude.{sum}
use Rattle.damon_types.specs.declared.row.Row.{Row}
use Rattle.damon_types.specs.declared.scheme.Version.TheVariants.{One}
use Rattle.damon_types.specs.declared.space.Target.{Target}
use Rattle.damon_types.specs.declared.range.Range.{Range}
use Rattle.heat_report.specs.Heat.{target_heats, target_total}
use Rattle.live_commit.specs.declared.phase.Phase.TheVariants.{Idle}
use Rattle.damon_core.specs.State.{State}
use Rattle.damon_app.specs.Heating.{AddUp}

-- a target of three pages, all of them watched as one range
abbrev space : List Target
space = record { base = 0; pages = 3 } ∷ []

abbrev watched : List Range
watched = record { target = 0; first = 0; pages = 3; class = 0 } ∷ []

-- a state directly after an aggregation of four passes that reported these rows
abbrev reported : List Row → State
reported rows = record {
  core = record {
    version = One;
    space = space;
    attrs = record { min = 3; max = 3; aggr = 4 };
    regions = record { ranges = watched; rows = []; unit = 1; cap = 3; max = 3 };
    phase = Idle;
    picks = [];
    ticks = 4;
    since = 0;
    before = 0;
    report = record { tick = 4; threshold = 0; rows = rows; runs = []; choices = [] };
  };
  notes = [];
}

-- pages 0 and 1 were accessed in two passes, and page 2 in four
abbrev apart : List Row
apart =
    record { target = 0; start = 0; pages = 2; count = 2; last = 0; age = 0 }
    ∷ record { target = 0; start = 2; pages = 1; count = 4; last = 0; age = 0 }
    ∷ []

heat_of_apart : (target : ℕ) → target < 1 → sum (target_heats apart space target 8) ≡ target_total apart target
heat_of_apart zero within = refl
heat_of_apart (suc target) within = absurd (omega (arith, within))

rows_apart : AddUp 8 (reported apart)
rows_apart = record { heat = heat_of_apart; freq = refl }

-- pages 1 and 2 are in two rows, of which only the first one gives a page its count
abbrev twice : List Row
twice =
    record { target = 0; start = 0; pages = 3; count = 2; last = 0; age = 0 }
    ∷ record { target = 0; start = 1; pages = 2; count = 4; last = 0; age = 0 }
    ∷ []

pages_in_two_rows : AddUp 8 (reported twice) → ⊥
pages_in_two_rows up = let heat : 6 ≡ 14 = up.heat 0 (omega arith) in absurd (omega (arith, heat))

-- a page of the range is in no row, so the numbers of `freq` do not have all pages
abbrev short : List Row
short = record { target = 0; start = 0; pages = 2; count = 2; last = 0; age = 0 } ∷ []

page_in_no_row : AddUp 8 (reported short) → ⊥
page_in_no_row up = let freq : 2 ≡ 3 = up.freq in absurd (omega (arith, freq))
