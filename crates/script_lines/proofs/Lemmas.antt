-- What the crates above may cite of the proofs of this crate.
pub use Rattle.script_lines.proofs.LineLimits.{FollowsRanges, cap_sound, limits_sound, passes_sound, range_follows, scheme_sound, seed_fits, target_sound, unit_sound}
pub use Rattle.script_lines.proofs.LineTexts.{drop-at, joined_before, lines_added, lines_text-append, parts_before}
pub use Rattle.script_lines.proofs.LinesBack.{lines_read_back}
pub use Rattle.script_lines.proofs.SaidSchemes.{scheme_said, scheme_set}
pub use Rattle.script_lines.proofs.SpellCommands.{command_line-Ok, part_line-Ok, sweep_line-pages, touch_line-page}
pub use Rattle.script_lines.proofs.SpellLines.{attrs_in-Ok, attrs_line-Ok, cap_line-Ok, limited-bounds, one_target-Ok, passes_line-Ok, range_in-Ok, range_line-Ok, seed_line-Ok, target_line-Ok, unit_line-Ok}
pub use Rattle.script_lines.proofs.SpellSchemes.{scheme_line-Ok}
pub use Rattle.script_lines.proofs.SpellWords.{alone-Ok}
pub use Rattle.script_lines.proofs.WordLemmas.{begins_other, size_left, size_left_less}
pub use Rattle.script_lines.proofs.WrittenSchemes.{change_empties, change_gives}
