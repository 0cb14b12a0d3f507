use Rattle.std.proofs.Common.{◌+◌, ◌<◌, ◌∷◌, List, length, length-append, refl, sym, ap, ◌∙◌, arith}
use Rattle.std.specs.Prelude.{Option}
use Rattle.damon_types.specs.declared.range.RangeSpec.{RangeSpec}
use Rattle.line_text.specs.Parts.{parts}
use Rattle.live_commit.specs.Commit.{commit_value}
use Rattle.script_lines.specs.declared.part.Part.TheVariants.{Range}
use Rattle.script_lines.specs.Spelling.{spelled_range}
use Rattle.damon_control.specs.Script.{InCommit, reads}
use Rattle.damon_control.proofs.CommitLemmas.{few_ranges}
use Rattle.damon_control.proofs.RangeLines.{reads_range}
use Rattle.damon_control.proofs.commit.read_ranges.Goals as goal

pub lines-preserved : goal.lines-preserved
lines-preserved c =
    let n = c.lines.lines.taken + 1 in
    let commit = commit_value c.lines.commit in
    let line = c.in-Some.ensures.line in
    let added = c.in_ok-add_range.ensures.ok in
    let less : length c.in-Some.rest.now < length c.lines.lines.rest.now = omega (arith, ap length line, length-append (spelled_range c.in-Some.range) (10 ∷ c.in-Some.rest.now)) in
    record {
      wanted = c.lines.invariant.wanted;
      said = λ g b.
          c.lines.invariant.said g b
          ∙ reads_range _ _ _ line c.in-Some.ensures.fits n g b commit c.lines.invariant.wanted
          ∙ ap (λ (rs : Option (List RangeSpec)). reads g (n + 1) (InCommit b (record commit { ranges = rs })) (parts 10 c.in-Some.rest.now)) (sym added);
      few = few_ranges (λ l. l.list) c.lines.lines.taken c.lines.commit.ranges c.add_range.new.ranges commit (Range c.in-Some.range) refl added c.lines.invariant.few;
      later = omega (arith, c.lines.invariant.later);
      shorter = omega (arith, c.lines.invariant.shorter, less);
      small = omega (arith, c.lines.invariant.small, less);
    }
