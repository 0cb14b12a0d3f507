use Rattle.std.proofs.Common.{◌≤◌, ◌<◌, ◌^◌, ◌+◌, ◌-◌, ◌∷◌, length, IfSome, sym, ap, subst, length-append, ◌∙◌, arith}
use Rattle.line_text.specs.Parts.{parts}
use Rattle.live_commit.specs.Commit.{CommitValue, commit_value}
use Rattle.script_lines.specs.declared.part.Part.TheVariants.{Range}
use Rattle.script_lines.specs.Body.{wants_slot}
use Rattle.script_lines.specs.Spelling.{spelled_range}
use Rattle.damon_control.proofs.Lemmas.{few_more}
use Rattle.journal_text.specs.Place.{InBlock}
use Rattle.journal_text.specs.Reading.{said_from}
use Rattle.journal_check.proofs.BlockTaken.{few_below}
use Rattle.journal_check.proofs.RangeTaken.{BeginsWithRange, range_ahead, range_said}
use Rattle.journal_check.proofs.entries.calls.take_ranges.Goals as goal

pub add_part-requires : goal.add_part-requires
add_part-requires c =
    let few : c.lines.lines.taken < 2 ^ 32 - 1 = omega (arith, c.lines.invariant.short) in
    few_below (λ r. r.list) c.lines.lines.taken (2 ^ 32 - 1) c.lines.commit.ranges few c.lines.invariant.few

pub lines-preserved : goal.lines-preserved
lines-preserved c =
    let n = c.lines.lines.taken + 1 in
    let commit = commit_value c.lines.commit in
    let added = c.in_ok-add_part.ensures.ok in
    let begins : BeginsWithRange c.lines.lines.rest.now c.in-Some.range c.in-Some.rest.now = record { whole = c.in-Some.ensures.line; fits = c.in-Some.ensures.fits } in
    let less : length c.in-Some.rest.now < length c.lines.lines.rest.now = omega (arith, ap length begins.whole, length-append (spelled_range c.in-Some.range) (10 ∷ c.in-Some.rest.now)) in
    record {
      wanted = ap wants_slot added ∙ c.lines.invariant.wanted;
      said = λ v j k.
          c.lines.invariant.said v j k
          ∙ range_said _ _ _ begins n v j k commit c.lines.invariant.wanted
          ∙ ap (λ (cv : CommitValue). said_from (n + 1) (InBlock v j k cv) (parts 10 c.in-Some.rest.now)) (sym added);
      ahead = c.lines.invariant.ahead ∙ range_ahead _ _ _ begins;
      few = subst (λ (cv : CommitValue). IfSome cv.ranges (λ rs. length rs ≤ n)) (sym added) (few_more c.lines.lines.taken commit (Range c.in-Some.range) c.lines.invariant.few);
      later = omega (arith, c.lines.invariant.later);
      shorter = omega (arith, c.lines.invariant.shorter, less);
      short = omega (arith, c.lines.invariant.short, less);
    }
