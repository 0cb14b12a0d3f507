-- What the lines of a setup keep, once they are read.
use Rattle.std.specs.Prelude.{◌≡◌, ◌≤◌, length, Ok}
use Rattle.live_commit.specs.Slots.{checked_slots, kept_slots}
use Rattle.target_ranges.specs.Checked.{checked_ranges}
use Rattle.damon_control.specs.declared.reader.Head.{Head}
use Rattle.script_lines.specs.Limits.{AreLimits}

-- each check of a setup passes
pub record IsHead (h : Head) : Type 0 where
  pub limits : AreLimits h.frame
  pub ranges_sound : checked_ranges h.space h.frame.unit h.frame.cap h.specs.list ≡ Ok tt
  pub some : 1 ≤ length h.specs.list
  pub most : length h.specs.list ≤ h.frame.attrs.max
  pub slots_sound : checked_slots h.frame.version h.slots.list ≡ Ok tt
  pub set : kept_slots h.slots.list ≡ h.slots.list
