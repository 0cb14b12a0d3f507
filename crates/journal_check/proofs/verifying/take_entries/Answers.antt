use Rattle.std.proofs.Common.{true, false, subst, ◌∙◌}
use Rattle.journal_check.specs.Folding.{HasRead}
use Rattle.journal_check.proofs.verifying.take_entries.Goals as goal

pub entries-preserved : goal.entries-preserved
entries-preserved c =
    let next = c.in_ok-next_entry.ensures in
    let lines = c.next_entry.new.lines in
    let fold = c.next_entry.new.self in
    record {
      short = next.short;
      ahead = next.ahead c.if-branch.true;
      within = next.within;
      keeping = next.keeping ∙ c.entries.invariant.keeping;
      reads = λ v j h.
          let before = c.entries.invariant.reads v j h in
          let read : HasRead true before.0 before.1 c.entries.lines lines fold = subst (λ more. HasRead more before.0 before.1 c.entries.lines lines fold) c.if-branch.true (next.entry before.0 before.1 before.2) in
          (read.0, read.1, read.2, before.3 ∙ read.3);
    }

pub returns-clause-entries : goal.returns-clause-entries
returns-clause-entries c = λ v j h.
    let next = c.in_ok-next_entry.ensures in
    let lines = c.next_entry.new.lines in
    let fold = c.next_entry.new.self in
    let before = c.entries.invariant.reads v j h in
    let read : HasRead false before.0 before.1 c.entries.lines lines fold = subst (λ more. HasRead more before.0 before.1 c.entries.lines lines fold) c.if-branch.false (next.entry before.0 before.1 before.2) in
    record { live = before.0; journal = before.1; stands = read.0; next = read.1; goes_on = before.3 ∙ read.2 }
