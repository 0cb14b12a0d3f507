-- The bytes of slots, tuned by goals.
use Rattle.std.specs.Prelude.{ℕ, ◌==◌, List, [], ◌∷◌, filter_map, slice_index_or, slice_set, replicate, Option, Some, None, is_none, if◌then◌else◌}
use Rattle.std.specs.Option.{option_and_then, option_map, option_map_or}
use Rattle.damon_types.specs.declared.scheme.Quota.{Quota}
use Rattle.damon_types.specs.declared.scheme.Scheme.{Scheme}
use Rattle.damon_types.specs.declared.scheme.SlotChange.{SlotChange}
use Rattle.region_list.specs.Shrink.{least}
use Rattle.quota_goal.specs.declared.goals.Goal.{Goal}
use Rattle.quota_goal.specs.declared.moment.Moment.{Moment}
use Rattle.quota_goal.specs.declared.tuner.TheConstants.{SLOTS}
use Rattle.quota_goal.specs.Moment.{score_of}
use Rattle.quota_goal.specs.Next.{next}

-- The goals, and for each slot its scheme in force and its top: the bytes that the setup or a commit of the script gave it last.
pub record TunerView : Type 0 where
  pub goals : List Goal
  pub schemes : List (Option Scheme)
  pub tops : List ℕ

-- no slot is set
abbrev pub untuned : List Goal → TunerView
untuned goals = record { goals = goals; schemes = replicate SLOTS None; tops = replicate SLOTS 0 }

-- the scheme of a slot
abbrev pub scheme_at : TunerView → ℕ → Option Scheme
scheme_at t slot = slice_index_or t.schemes slot None

-- the top of a slot
abbrev pub top_at : TunerView → ℕ → ℕ
top_at t slot = slice_index_or t.tops slot 0

-- the bytes of a scheme's quota, if it has one
abbrev pub quota_bytes : Scheme → Option ℕ
quota_bytes s = option_map (λ q. q.bytes) s.quota

-- the bytes of a scheme that is tunable: it has a quota, and no marks
abbrev pub tunable_bytes : Scheme → Option ℕ
tunable_bytes s = if is_none s.marks then quota_bytes s else None

-- the bytes in force of a slot that is tunable: it is set, and its scheme is tunable
abbrev pub bytes_at : TunerView → ℕ → Option ℕ
bytes_at t slot = option_and_then tunable_bytes (scheme_at t slot)

-- the top after a slot change: the bytes that it gives, or as before where it gives none
abbrev pub top_after : Option Scheme → ℕ → ℕ
top_after scheme top = option_map_or (λ bytes. bytes) (option_and_then quota_bytes scheme) top

-- a slot change of the setup or of a commit of the script
abbrev pub given : SlotChange → TunerView → TunerView
given c t = record t {
  schemes = slice_set t.schemes c.slot c.scheme;
  tops = slice_set t.tops c.slot (top_after c.scheme (top_at t c.slot));
}

-- these slot changes, the first one first
abbrev pub all_given : List SlotChange → TunerView → TunerView
all_given [] t = t
all_given (c ∷ changes) t = all_given changes (given c t)

-- the next bytes by a goal, where it is one of the slot and is scored at the moment
abbrev pub next_of : ℕ → Moment → ℕ → ℕ → Goal → Option ℕ
next_of slot moment bytes top g = if g.slot == slot then option_map (next g bytes top) (score_of g.kind moment) else None

-- the next bytes by each goal of the slot that is scored at the moment
abbrev pub nexts : List Goal → ℕ → Moment → ℕ → ℕ → List ℕ
nexts goals slot moment bytes top = filter_map (next_of slot moment bytes top) goals

-- the least of some numbers, if there are any
abbrev pub least_of : List ℕ → Option ℕ
least_of [] = None
least_of (n ∷ ns) = Some (least (n ∷ ns))

-- other bytes than these
abbrev pub other_than : ℕ → ℕ → Option ℕ
other_than bytes new = if new == bytes then None else Some new

-- the new bytes of a slot with these bytes: the least of the next ones, where it differs
abbrev pub new_bytes : TunerView → ℕ → Moment → ℕ → Option ℕ
new_bytes t slot moment bytes = option_and_then (other_than bytes) (least_of (nexts t.goals slot moment bytes (top_at t slot)))

-- the same quota with these bytes
abbrev pub quota_with : ℕ → Quota → Quota
quota_with bytes q = record q { bytes = bytes }

-- the same scheme with these bytes in its quota
abbrev pub with_bytes : Scheme → ℕ → Scheme
with_bytes s bytes = record s { quota = option_map (quota_with bytes) s.quota }

-- the scheme that a scheme becomes at a moment, where it is tunable and its bytes change
abbrev pub retuned : TunerView → ℕ → Moment → Scheme → Option Scheme
retuned t slot moment s = option_map (with_bytes s) (option_and_then (new_bytes t slot moment) (tunable_bytes s))

-- the scheme that a slot's scheme becomes at a moment
abbrev pub tuned_at : TunerView → ℕ → Moment → Option Scheme
tuned_at t slot moment = option_and_then (retuned t slot moment) (scheme_at t slot)

-- the slot change that tunes a slot at a moment; None where it is not tunable, has no scored goal, or its bytes stay
abbrev pub change_at : TunerView → ℕ → Moment → Option SlotChange
change_at t slot moment = option_map (λ s. record { slot = slot; scheme = Some s }) (tuned_at t slot moment)

-- a slot change that tunes a slot: its top stays
abbrev pub after_change : Option SlotChange → TunerView → TunerView
after_change None t = t
after_change (Some c) t = record t { schemes = slice_set t.schemes c.slot c.scheme }
