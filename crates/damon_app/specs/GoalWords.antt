-- The goals of quotas that words say.
use Rattle.std.specs.Prelude.{ℕ, ◌-◌, ◌^◌, ◌&&◌, nat_le, List, [], ◌∷◌, length, codes, Option, Some, None, if◌then◌else◌}
use Rattle.line_text.specs.Number.{number}
use Rattle.line_text.specs.Parts.{parts}
use Rattle.line_text.specs.declared.bytes.TheConstants.{COLON}
use Rattle.script_lines.specs.Words.{same_word}
use Rattle.damon_types.specs.declared.scheme.TheConstants.{MAX_SLOT}
use Rattle.quota_goal.specs.declared.goals.Goal.{Goal}
use Rattle.quota_goal.specs.declared.goals.GoalKind.{GoalKind}
use Rattle.quota_goal.specs.declared.goals.GoalKind.TheVariants.{Metric, Hot, Cold}
use Rattle.quota_goal.specs.declared.goals.TheConstants.{MAX_GOALS}

infixl 10 ◌>>=◌
-- the value is passed on, if there is one
abbrev pub ◌>>=◌ : {A B : Type 0} → Option A → (A → Option B) → Option B
None >>= f = None
(Some x) >>= f = f x

-- the kind of goals that a word names
abbrev pub kind_of : List ℕ → Option GoalKind
kind_of word =
    if same_word word (codes "metric") then Some Metric
    else if same_word word (codes "hot") then Some Hot
    else if same_word word (codes "cold") then Some Cold
    else None

-- the goal, if its target is at least 1 and its low bound at most its high bound
abbrev pub in_order : Goal → Option Goal
in_order goal = if nat_le 1 goal.target && nat_le goal.low goal.high then Some goal else None

-- the goal that five fields say: a slot of at most 15, a kind, a target of 32 bits, and two bounds of 64 bits
abbrev pub goal_in : List (List ℕ) → Option Goal
goal_in (slot ∷ kind ∷ target ∷ low ∷ high ∷ []) = do
  slot ← number MAX_SLOT slot
  kind ← kind_of kind
  target ← number (2 ^ 32 - 1) target
  low ← number (2 ^ 64 - 1) low
  high ← number (2 ^ 64 - 1) high
  in_order (record { slot = slot; kind = kind; target = target; low = low; high = high })
goal_in _ = None

-- the goal that a word says: `SLOT:KIND:TARGET:LOW:HIGH`
abbrev pub goal_of : List ℕ → Option Goal
goal_of word = goal_in (parts COLON word)

-- the goals that words say, one a word, if each of them says one
abbrev pub goals_in : List (List ℕ) → Option (List Goal)
goals_in [] = Some []
goals_in (word ∷ words) = do
  goal ← goal_of word
  goals ← goals_in words
  Some (goal ∷ goals)

-- the goals of 1 to 16 words
abbrev pub goals_of : List (List ℕ) → Option (List Goal)
goals_of words = if nat_le 1 (length words) && nat_le (length words) MAX_GOALS then goals_in words else None
