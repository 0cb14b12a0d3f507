use Rattle.std.proofs.Common.{sym, ◌∙◌}
use Rattle.aggregator.proofs.RowLemmas.{aged_counts, aged_lasts}
use Rattle.aggregator.proofs.ages.AgingValuePass.run.Goals as goal

pub returns : goal.returns
returns c rows is =
    let t = c.args.self.now.threshold in
    let v = c.args.self.now.version in
    record {
      count = is.count ∙ sym (aged_counts t v rows);
      last = is.last ∙ sym (aged_lasts t v rows);
      age = c.age_values.ensures rows is;
    }
