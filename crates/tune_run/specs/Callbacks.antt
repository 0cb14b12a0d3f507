-- The run of a script with quotas that follow goals: which commits are put in, and which lines end its report.
use Rattle.std.specs.Prelude.{ℕ, ◌==◌, Bool, List, [], ◌++◌, map, filter_map, codes, Option, Some, None, if◌then◌else◌}
use Rattle.std.specs.Fmt.{decimal}
use Rattle.std.specs.List.{flat_map, list_any, range_with_len}
use Rattle.std.specs.Option.{option_map, option_map_or}
use Rattle.damon_types.specs.declared.scheme.Scheme.{Scheme}
use Rattle.damon_types.specs.declared.scheme.SlotChange.{SlotChange}
use Rattle.live_commit.specs.Commit.{CommitValue}
use Rattle.damon_core.specs.After.{after}
use Rattle.damon_core.specs.Event.{Event, aggregate, commit}
use Rattle.damon_core.specs.Slots.{scheme_of, slot_count}
use Rattle.damon_core.specs.State.{State}
use Rattle.snapshot_print.specs.Fields.{number_or_none}
use Rattle.script_run.specs.Callbacks.{Callbacks}
use Rattle.quota_goal.specs.declared.goals.Goal.{Goal}
use Rattle.quota_goal.specs.declared.moment.Moment.{Moment}
use Rattle.quota_goal.specs.declared.moment.Moment.TheVariants.{Metric, Seen}
use Rattle.quota_goal.specs.Seen.{seen}
use Rattle.quota_goal.specs.Tuned.{TunerView, bytes_at, change_at}
use Rattle.tune_run.specs.Tops.{tops_kept, tops_of, was_accepted}

-- the scheme of each slot
abbrev pub schemes_in : State → List (Option Scheme)
schemes_in s = map (scheme_of s.notes) (range_with_len 0 slot_count)

-- the tuner in a state: the schemes in force, and these tops
abbrev pub tuner_in : List Goal → List ℕ → State → TunerView
tuner_in goals tops s = record { goals = goals; schemes = schemes_in s; tops = tops }

-- the moment at which goals are scored after an event, by the state before it: what an aggregation reports, and the metric of a
-- commit that was accepted
abbrev pub moment_after : State → Event → Option Moment
moment_after s (aggregate words) = Some (Seen (seen (after s (aggregate words)).core.report.rows))
moment_after s (commit parts) = if was_accepted parts s then option_map (λ value. Metric value) parts.metric else None
moment_after s _ = None

-- a commit of a slot change alone
abbrev pub change_alone : SlotChange → CommitValue
change_alone c = record { attrs = None; ranges = None; slot = Some c; metric = None; cost = None }

-- the changes that tune these slots at a moment, one for each slot whose bytes change
abbrev pub changes_at : TunerView → Moment → List ℕ → List SlotChange
changes_at t moment slots = filter_map (λ slot. change_at t slot moment) slots

-- these changes, each as a commit alone
abbrev pub commits_of : List SlotChange → List Event
commits_of changes = map (λ c. commit (change_alone c)) changes

-- the commits that tune all slots at a moment, in the order of the slots
abbrev pub tuned_by : TunerView → Moment → List Event
tuned_by t moment = commits_of (changes_at t moment (range_with_len 0 slot_count))

-- whether one of these goals is of a slot
abbrev pub has_goal : List Goal → ℕ → Bool
has_goal goals slot = list_any (λ g. g.slot == slot) goals

-- the line of a slot with its bytes, where one of the goals is of it
abbrev pub slot_text : TunerView → ℕ → List ℕ
slot_text t slot =
    if has_goal t.goals slot then codes "tuned " ++ decimal slot ++ codes " bytes=" ++ number_or_none (bytes_at t slot) ++ codes "\n"
    else []

-- the lines of all slots with a goal, in order
abbrev pub tuned_text : TunerView → List ℕ
tuned_text t = flat_map (slot_text t) (range_with_len 0 slot_count)

-- Quotas that follow goals. What is remembered is the top of each slot. After a moment that scores goals the changes that tune
-- the slots are put in, and after the last line follow the bytes of the slots with goals.
abbrev pub tune_callbacks : List Goal → Callbacks
tune_callbacks goals = record {
  first = λ s. tops_of s.notes;
  keeps = tops_kept;
  puts = λ tops s e. option_map_or (tuned_by (tuner_in goals tops (after s e))) (moment_after s e) [];
  writes = λ tops s e. [];
  ends = λ tops s. tuned_text (tuner_in goals tops s);
}
