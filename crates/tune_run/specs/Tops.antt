-- The tops of slots: the bytes that the setup or a commit of the script gave each of them last.
use Rattle.std.specs.Prelude.{ℕ, ◌==◌, Bool, List, [], ◌∷◌, map, slice_index_or, slice_set, Option, Some, None, is_ok, if◌then◌else◌}
use Rattle.std.specs.List.{range_with_len}
use Rattle.damon_types.specs.declared.scheme.SlotChange.{SlotChange}
use Rattle.live_commit.specs.Commit.{CommitValue}
use Rattle.damon_core.specs.Commit.{check_of}
use Rattle.damon_core.specs.Event.{Event, commit}
use Rattle.damon_core.specs.Note.{Note, set}
use Rattle.damon_core.specs.Slots.{slot_count}
use Rattle.damon_core.specs.State.{State}
use Rattle.quota_goal.specs.Tuned.{top_after}

-- the bytes that these notes gave a slot last, 0 where they gave it none
abbrev pub top_of : List Note → ℕ → ℕ
top_of [] slot = 0
top_of (set i scheme ∷ earlier) slot = if i == slot then top_after (Some scheme) (top_of earlier slot) else top_of earlier slot
top_of (_ ∷ earlier) slot = top_of earlier slot

-- the tops of all slots, by the notes
abbrev pub tops_of : List Note → List ℕ
tops_of notes = map (top_of notes) (range_with_len 0 slot_count)

-- the tops after a slot change of the script: that of its slot is the bytes that it gives, or as before where it gives none
abbrev pub tops_after : Option SlotChange → List ℕ → List ℕ
tops_after None tops = tops
tops_after (Some c) tops = slice_set tops c.slot (top_after c.scheme (slice_index_or tops c.slot 0))

-- whether a commit is accepted, by the state before it
abbrev pub was_accepted : CommitValue → State → Bool
was_accepted parts s = is_ok (check_of parts s.core)

-- the tops after an event of the script, by the state before it: a commit that was accepted changes that of its slot
abbrev pub tops_kept : List ℕ → State → Event → List ℕ
tops_kept tops s (commit parts) = if was_accepted parts s then tops_after parts.slot tops else tops
tops_kept tops s _ = tops
