use Rattle.std.proofs.Common.{◌≡◌, false, sym, ◌∙◌, subst}
use Rattle.std.specs.Prelude.{codes}
use Rattle.script_lines.specs.Words.{same_word}
use Rattle.journal_check.specs.declared.entries.fold.Fold.{Fold}
use Rattle.journal_check.specs.Folding.{FoldStands, HasTaken, IsWithin}
use Rattle.journal_text.specs.Place.{InEntries}
use Rattle.journal_check.proofs.EntriesStep.{at_call}
use Rattle.journal_check.proofs.entries.fold.Fold.next_entry.Goals as goal

pub take_call-requires-clause-within : goal.take_call-requires-clause-within
take_call-requires-clause-within c = subst (IsWithin c.take_entry.new.self) (sym c.in_ok-line.ensures.taken) (c.in_ok-take_entry.ensures.goes.within c.args.lines.now.taken c.requires.within)

pub returns-in_ok-take_call-clause-entry : goal.returns-in_ok-take_call-clause-entry
returns-in_ok-take_call-clause-entry c = λ v j h.
    let old : Fold = c.args.self.now in
    let mid : Fold = c.take_entry.new.self in
    let line = c.in_ok-line.line.now in
    let taken : HasTaken false v j line old mid = subst (λ b. HasTaken b v j line old mid) c.if-not-branch.true (c.in_ok-take_entry.ensures.taken v j h) in
    let other : same_word line (codes "receipts") ≡ false = sym c.same_word.ensures ∙ c.if-same_word.false in
    let call = c.in_ok-take_call.ensures.entry v j (subst (FoldStands v j) (sym taken.1) h) (at_call v j line taken.0 other) in
    (call.0, call.1, call.2, c.in_ok-line.ensures.line (InEntries v j) ∙ call.3)

pub returns-else-not-branch-clause-within : goal.returns-else-not-branch-clause-within
returns-else-not-branch-clause-within c = subst (IsWithin c.take_entry.new.self) (sym c.in_ok-line.ensures.taken) (c.in_ok-take_entry.ensures.goes.within c.args.lines.now.taken c.requires.within)
