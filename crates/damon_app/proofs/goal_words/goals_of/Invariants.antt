use Rattle.std.proofs.Common.{◌≡◌, drop, length, map}
use Rattle.damon_app.proofs.ReadingGoals.{with_front}
use Rattle.damon_app.specs.GoalWords.{goals_in}
use Rattle.damon_app.proofs.goal_words.goals_of.Given as goal

-- the goals are those of the words before, one a word
abbrev pub invariant-loop-word : goal.invariant-loop-word
invariant-loop-word l = record {
  all : with_front l.goals (goals_in (map (λ word. word.now) (drop l.word-index l.words))) ≡ goals_in (map (λ word. word.now) l.words);
  count : length l.goals ≡ l.word-index;
}
