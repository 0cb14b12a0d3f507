use Rattle.std.proofs.Common.{◌≡◌, ◌<◌, ◌≤◌, ◌++◌, length, vec_len}
use Rattle.text_io.specs.declared.output.TheConstants.{PIECE}
use Rattle.damon_admin.specs.Admin.{left_text}
use Rattle.damon_admin.proofs.admin.AdminTextSource.fill.Given as goal

-- what was appended and what is left to write are what was left, and fewer lines are left where a piece was made
abbrev pub invariant-lines : goal.invariant-lines
invariant-lines l = record {
  said : l.out.items ++ left_text l.self ≡ l.fn.out.items ++ left_text l.fn.self;
  most : length l.self.left ≤ length l.fn.self.left;
  less : vec_len l.fn.out < PIECE → PIECE ≤ vec_len l.out → length l.self.left < length l.fn.self.left;
}

abbrev pub decreases-lines : goal.decreases-lines
decreases-lines l = length l.self.left
