use Rattle.std.proofs.Common.{◌≡◌, ◌≤◌, false, length, codes, Ok, Err, IfSome, refl, sym, ap, subst, ◌∙◌, arith}
use Rattle.std.proofs.lemmas.Result.{err_from_is_err_and}
use Rattle.live_commit.specs.Commit.{commit_value}
use Rattle.script_lines.specs.Body.{part_line}
use Rattle.script_lines.specs.Words.{begins_with}
use Rattle.damon_control.specs.Left.{reads_left}
use Rattle.damon_control.specs.Script.{InCommit, at, version_in}
use Rattle.damon_control.proofs.CommitLemmas.{few_ranges, part_rejected, part_taken}
use Rattle.damon_control.proofs.commit.read_commit.Goals as goal

pub returns-in_err-part-clause-fault : goal.returns-in_err-part-clause-fault
returns-in_err-part-clause-fault c =
    let l = c.take_line.new.self in
    let line = c.in_ok-line.line.now in
    let commit = commit_value c.read_ranges.new.commit in
    let fault = c.in_err-part.field-0.0 in
    let other : begins_with (codes "apply") line ≡ false = c.first_word.ensures (codes "apply") ∙ sym c.same_word.ensures ∙ c.if-same_word.false in
    let p = err_from_is_err_and c.from_residual-in_err-part.result c.from_residual-in_err-part.ensures.1 in
    λ g b same.
    let said : at l.taken (part_line (version_in g b) commit line) ≡ Err fault =
    ap (λ v. at l.taken (part_line v commit line)) same ∙ ap (at l.taken) (sym c.read_part.ensures) ∙ sym c.refuse-in-lines.ensures ∙ c.in_err-part.was
    in
    rw (p.1, p.2)
    (c.lines.invariant.said g b same ∙ c.in_ok-read_ranges.ensures.said g b ∙ c.in_ok-line.ensures.line g (InCommit b commit) ∙ part_rejected g b commit line l fault other said)

pub lines-preserved : goal.lines-preserved
lines-preserved c =
    let l = c.take_line.new.self in
    let line = c.in_ok-line.line.now in
    let commit = commit_value c.read_ranges.new.commit in
    let part = c.in_ok-part.part in
    let added = c.in_ok-add_part.ensures.ok in
    let other : begins_with (codes "apply") line ≡ false = c.first_word.ensures (codes "apply") ∙ sym c.same_word.ensures ∙ c.if-same_word.false in
    record {
      said = λ g b same.
          let said : at l.taken (part_line (version_in g b) commit line) ≡ Ok part =
          ap (λ v. at l.taken (part_line v commit line)) same ∙ ap (at l.taken) (sym c.read_part.ensures) ∙ sym c.refuse-in-lines.ensures ∙ c.in_ok-part.was
          in
          c.lines.invariant.said g b same
          ∙ c.in_ok-read_ranges.ensures.said g b
          ∙ c.in_ok-line.ensures.line g (InCommit b commit)
          ∙ part_taken g b commit line l part other said
          ∙ ap (λ v. reads_left g (InCommit b v) l) (sym added);
      few = subst (λ n. IfSome c.add_part.new.commit.ranges (λ r. length r.list ≤ n)) (sym c.in_ok-line.ensures.taken)
          (few_ranges (λ r. r.list) c.read_ranges.new.lines.taken c.read_ranges.new.commit.ranges c.add_part.new.commit.ranges commit part refl (ap (λ v. v.ranges) added) c.in_ok-read_ranges.ensures.few);
      later = omega (arith, c.lines.invariant.later, c.in_ok-read_ranges.ensures.later, c.in_ok-line.ensures.taken);
      shorter = omega (arith, c.lines.invariant.shorter, c.in_ok-read_ranges.ensures.shorter, c.in_ok-line.ensures.shorter);
      small = c.take_line.ensures.small;
    }
