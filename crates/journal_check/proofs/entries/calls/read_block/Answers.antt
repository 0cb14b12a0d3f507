use Rattle.std.proofs.Common.{◌≡◌, ◌≤◌, ◌<◌, ◌^◌, ◌-◌, ℕ, true, false, length, codes, Ok, Err, IfSome, refl, sym, ap, subst, ◌∙◌, arith}
use Rattle.damon_types.specs.declared.scheme.Version.{Version}
use Rattle.live_commit.specs.Commit.{CommitValue, commit_value}
use Rattle.script_lines.specs.Body.{no_commit, part_line, with_part}
use Rattle.script_lines.specs.Words.{same_word}
use Rattle.damon_control.specs.Live.{CommitCall}
use Rattle.damon_control.specs.Written.{part_text}
use Rattle.damon_control.proofs.Lemmas.{few_more}
use Rattle.run_journal.specs.declared.lawful.VerifyFault.{VerifyFault}
use Rattle.journal_check.specs.LinesLeft.{IsFault, lines_left, said_left}
use Rattle.journal_text.specs.Place.{AtAnswer, InBlock}
use Rattle.journal_check.proofs.BlockTaken.{ahead_same, applied, few_below, leads_on, line_refused, no_part, no_receipts, part_added, part_is_no_receipts}
use Rattle.journal_check.proofs.entries.calls.read_block.Goals as goal

pub returns-then-same_word-clause-commit : goal.returns-then-same_word-clause-commit
returns-then-same_word-clause-commit c =
    let line = c.in_ok-line.line.now in
    let commit = commit_value c.take_ranges.new.commit in
    let apply : same_word line (codes "apply") ≡ true = sym c.same_word.ensures ∙ c.if-same_word.true in
    λ v j k same.
    c.lines.invariant.said v j k same
    ∙ c.in_ok-take_ranges.ensures.said v j k
    ∙ c.in_ok-line.ensures.line (InBlock v j k commit)
    ∙ leads_on (InBlock v j k commit) (AtAnswer v j k (CommitCall commit)) line c.take_line.new.self (applied v j k commit line apply)

pub returns-then-same_word-clause-ahead : goal.returns-then-same_word-clause-ahead
returns-then-same_word-clause-ahead c =
    let line = c.in_ok-line.line.now in
    let apply : same_word line (codes "apply") ≡ true = sym c.same_word.ensures ∙ c.if-same_word.true in
    c.lines.invariant.ahead
    ∙ c.in_ok-take_ranges.ensures.ahead
    ∙ ahead_same line (lines_left c.take_ranges.new.lines) (lines_left c.take_line.new.self) c.in_ok-line.ensures.left (no_receipts line (codes "apply") apply refl)

pub returns-in_default-clause-fault : goal.returns-in_default-clause-fault
returns-in_default-clause-fault c = λ v j k same.
    let line = c.in_ok-line.line.now in
    let commit = commit_value c.take_ranges.new.commit in
    let kind = c.in_default.field-0 in
    let place = InBlock v j k commit in
    let other : same_word line (codes "apply") ≡ false = sym c.same_word.ensures ∙ c.if-same_word.false in
    let said : part_line v.setup.version commit line ≡ Err kind = ap (λ (n : Version). part_line n commit line) same ∙ (sym c.read_part.ensures ∙ c.in_default.is) in
    subst (λ (f : VerifyFault). IsFault f (said_left (InBlock v j k no_commit) c.args.lines.now)) (sym c.refuse.ensures)
    (c.lines.invariant.said v j k same ∙ c.in_ok-take_ranges.ensures.said v j k ∙ c.in_ok-line.ensures.line place ∙ line_refused place line c.take_line.new.self (no_part v j k commit line kind other said))

pub add_part-requires : goal.add_part-requires
add_part-requires c =
    let few : c.take_ranges.new.lines.taken < 2 ^ 32 - 1 = omega (arith, c.take_ranges.ensures.short) in
    few_below (λ r. r.list) c.take_ranges.new.lines.taken (2 ^ 32 - 1) c.take_ranges.new.commit.ranges few c.in_ok-take_ranges.ensures.few

pub lines-preserved : goal.lines-preserved
lines-preserved c =
    let l = c.take_line.new.self in
    let line = c.in_ok-line.line.now in
    let commit = commit_value c.take_ranges.new.commit in
    let part = c.in-Ok.part in
    let added = c.in_ok-add_part.ensures.ok in
    let other : same_word line (codes "apply") ≡ false = sym c.same_word.ensures ∙ c.if-same_word.false in
    let read : part_line c.args.version commit line ≡ Ok part = sym c.read_part.ensures ∙ c.in-Ok.is in
    let spelled : same_word line (part_text part) ≡ true = sym c.in_ok-same.ensures ∙ c.if-not-same.false in
    record {
      said = λ v j k same.
          let said : part_line v.setup.version commit line ≡ Ok part = ap (λ (n : Version). part_line n commit line) same ∙ read in
          c.lines.invariant.said v j k same
          ∙ c.in_ok-take_ranges.ensures.said v j k
          ∙ c.in_ok-line.ensures.line (InBlock v j k commit)
          ∙ leads_on (InBlock v j k commit) (InBlock v j k (with_part commit part)) line l (part_added v j k commit line part other said spelled)
          ∙ ap (λ (cv : CommitValue). said_left (InBlock v j k cv) l) (sym added);
      ahead = c.lines.invariant.ahead
          ∙ c.in_ok-take_ranges.ensures.ahead
          ∙ ahead_same line (lines_left c.take_ranges.new.lines) (lines_left l) c.in_ok-line.ensures.left (part_is_no_receipts c.args.version commit line part read);
      few = subst (λ (cv : CommitValue). IfSome cv.ranges (λ rs. length rs ≤ l.taken)) (sym added)
          (subst (λ (n : ℕ). IfSome (with_part commit part).ranges (λ rs. length rs ≤ n)) (sym c.in_ok-line.ensures.taken) (few_more c.take_ranges.new.lines.taken commit part c.in_ok-take_ranges.ensures.few));
      later = omega (arith, c.lines.invariant.later, c.in_ok-take_ranges.ensures.later, c.in_ok-line.ensures.taken);
      shorter = omega (arith, c.lines.invariant.shorter, c.in_ok-take_ranges.ensures.shorter, c.in_ok-line.ensures.shorter);
      short = c.take_line.ensures.small;
    }
