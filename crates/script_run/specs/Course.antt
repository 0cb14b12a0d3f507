-- The course of a run with callbacks.
use Rattle.std.specs.Prelude.{ℕ, List, [], ◌∷◌, ◌++◌}
use Rattle.damon_core.specs.Event.{Event}
use Rattle.damon_world.specs.Moment.{Moment, along}
use Rattle.script_run.specs.Callbacks.{Callbacks, put_after}
use Rattle.script_run.specs.Going.{Going}

-- where a run stands: its moment, and what its callbacks remember
pub record Course : Type 0 where
  pub moment : Moment
  pub memory : List ℕ

-- the course after an event of the script and those that are put in after it
abbrev pub course_after : Callbacks → Course → Event → Course
course_after c r e = record {
  moment = along r.moment (e ∷ put_after c r.memory r.moment.state e);
  memory = c.keeps r.memory r.moment.state e;
}

-- a run with callbacks: its places are courses
abbrev pub going_with : Callbacks → Going Course
going_with c = record { moment = λ r. r.moment; next = course_after c }

-- events of the script, each with those that are put in after it
abbrev pub with_puts : Callbacks → Course → List Event → List Event
with_puts c r [] = []
with_puts c r (e ∷ es) = e ∷ (put_after c r.memory r.moment.state e ++ with_puts c (course_after c r e) es)
