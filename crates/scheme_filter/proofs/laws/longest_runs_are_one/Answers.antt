use Rattle.scheme_filter.proofs.RunsOfLemmas.{longest_is, runs_of-longest}
use Rattle.scheme_filter.proofs.laws.longest_runs_are_one.Goals as goal

pub returns : goal.returns
returns c = record {
  some = λ passes from pages. runs_of-longest passes pages from;
  one = λ passes from pages runs longest. longest_is passes pages from runs longest;
}
