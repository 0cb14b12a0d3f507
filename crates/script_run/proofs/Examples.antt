-- The run of a script alone, and one with callbacks, which has their events and texts where they belong.
use Rattle.std.proofs.Common.{◌≡◌, ℕ, suc, List, [], ◌∷◌, ◌++◌, refl, if◌then◌else◌}
use Rattle.live_commit.specs.Commit.{CommitValue}
use Rattle.damon_core.specs.After.{after}
use Rattle.damon_core.specs.Commit.{commit_answer}
use Rattle.damon_core.specs.Event.{Event, aggregate, commit, touch}
use Rattle.damon_world.specs.Moment.{Moment, moved, next_event}
use Rattle.snapshot_print.specs.Printed.{printed_state}
use Rattle.snapshot_print.specs.Writing.{Writing}
use Rattle.script_run.specs.declared.part.Until.{Until}
use Rattle.script_run.specs.Callbacks.{Callbacks}
use Rattle.script_run.specs.Course.{Course, course_after, going_with, with_puts}
use Rattle.script_run.specs.Going.{onward, plain}
use Rattle.script_run.specs.Part as part
use Rattle.script_run.specs.Parts.{part_events}
use Rattle.script_run.specs.RunWith.{text_from}
use Rattle.script_run.specs.Unfold.{steps_until, stops_at}

-- ---- without callbacks

each_step_is_alone : (u : Until) (n : ℕ) (m : Moment)
    → (let e = next_event m.state m.stream in
    steps_until plain u (suc n) m ≡ (if stops_at u m.state.core.phase then [] else e ∷ steps_until plain u n (moved m e)))
each_step_is_alone u n m = refl

-- ---- callbacks that put in the same commit after each event, write the same line, and count the events of the script

-- a moment of which nothing is remembered
abbrev bare : Moment → Course
bare m = record { moment = m; memory = [] }

module _ (parts : CommitValue) (line : List ℕ) where
  abbrev same_each_time : Callbacks
  same_each_time = record {
    first = λ s. [];
    keeps = λ memory s e. 1 ∷ memory;
    puts = λ memory s e. commit parts ∷ [];
    writes = λ memory s e. line;
    ends = λ memory s. memory;
  }

  it_follows_each_event : (r : Course) (other : CommitValue)
      → with_puts same_each_time r (commit other ∷ touch 3 ∷ []) ≡ commit other ∷ commit parts ∷ touch 3 ∷ commit parts ∷ []
  it_follows_each_event r other = refl

  the_script_alone_is_counted : (m : Moment) (other : CommitValue) → (onward (going_with same_each_time) (bare m) (commit other ∷ touch 3 ∷ [])).memory ≡ 1 ∷ 1 ∷ []
  the_script_alone_is_counted m other = refl

  no_part_has_it : (r : Course) → part_events (going_with same_each_time) r (part.Touches 3 2) ≡ touch 3 ∷ touch 4 ∷ []
  no_part_has_it r = refl

  -- the line stands between the text of the aggregation and that of what is put in
  the_line_comes_first : (w : Writing) (m : Moment) (words : List ℕ) (es : List Event)
      → (let e = aggregate words in
      let s = after m.state e in
      text_from same_each_time w (bare m) (e ∷ es)
      ≡ w.aggregate (printed_state s)
      ++ (line ++ ((w.commit s.core.ticks (commit_answer parts s.core) ++ []) ++ text_from same_each_time w (course_after same_each_time (bare m) e) es)))
  the_line_comes_first w m words es = refl
