use Rattle.std.proofs.Common.{None, subst}
use Rattle.priority.proofs.LowestLemmas.{IsLowest, lowest_is, lowest_one, none_taken, taken_none}
use Rattle.priority.specs.Chosen.{lowest_of}
use Rattle.priority.proofs.laws.lowest_is_least.Goals as goal

pub returns : goal.returns
returns c = record {
  none = λ cs. (λ is. taken_none cs (subst (λ o. IsLowest cs o) is (lowest_is cs)), λ none. lowest_one cs (lowest_of cs) None (lowest_is cs) (none_taken cs none));
  least = λ cs n is. (subst (λ o. IsLowest cs o) is (lowest_is cs)).0;
  taken = λ cs n is. (subst (λ o. IsLowest cs o) is (lowest_is cs)).1;
}
