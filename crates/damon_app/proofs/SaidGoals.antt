-- Goals that words say are within their limits.
use Rattle.std.proofs.Common.{◌≡◌, ℕ, ◌≤◌, ◌<◌, List, [], ◌∷◌, Option, Some, None, Bool, true, false, length, refl, subst, arith}
use Rattle.std.specs.Prelude.{◌-◌, ◌^◌, ◌&&◌, nat_le, if◌then◌else◌}
use Rattle.std.specs.List.{AllByRecursion}
use Rattle.std.proofs.lemmas.Bool.Decides.{nat_tests}
use Rattle.line_text.specs.Number.{number}
use Rattle.line_text.specs.Parts.{parts}
use Rattle.line_text.specs.declared.bytes.TheConstants.{COLON}
use Rattle.line_text.proofs.Lemmas.{number-Some}
use Rattle.damon_types.specs.declared.scheme.TheConstants.{MAX_SLOT}
use Rattle.quota_goal.specs.declared.goals.Goal.{Goal}
use Rattle.quota_goal.specs.declared.goals.GoalKind.{GoalKind}
use Rattle.quota_goal.specs.declared.goals.TheConstants.{MAX_GOALS}
use Rattle.quota_goal.specs.Goals.{IsGoal}
use Rattle.damon_app.specs.GoalWords.{◌>>=◌, goal_in, goal_of, goals_in, goals_of, in_order, kind_of}

ordered : (g goal : Goal) → g.slot ≤ MAX_SLOT → in_order g ≡ Some goal → IsGoal goal
ordered g goal slot is = by (nat_le 1 g.target) refl (nat_le g.low g.high) refl is
  where
    by : (t : Bool) → nat_le 1 g.target ≡ t → (u : Bool) → nat_le g.low g.high ≡ u → (if t && u then Some g else None) ≡ Some goal → IsGoal goal
    by true target true bounds is =
        let same : g ≡ goal = cc is in
        subst IsGoal same (record { slot = slot; target = grind (arith, nat_tests, target); bounds = grind (arith, nat_tests, bounds) })
    by true target false bounds is = absurd (cc is)
    by false target u bounds is = absurd (cc is)

-- five values that are there
all_there : (slots : Option ℕ) (kinds : Option GoalKind) (targets lows highs : Option ℕ) (goal : Goal)
    → (slots >>= (λ slot. kinds >>= (λ kind. targets >>= (λ target. lows >>= (λ low. highs >>= (λ high. in_order (record { slot = slot; kind = kind; target = target; low = low; high = high })))))))
    ≡ Some goal
    → ((slot : ℕ) → slots ≡ Some slot → slot ≤ MAX_SLOT) → IsGoal goal
all_there None kinds targets lows highs goal is within = absurd (cc is)
all_there (Some slot) None targets lows highs goal is within = absurd (cc is)
all_there (Some slot) (Some kind) None lows highs goal is within = absurd (cc is)
all_there (Some slot) (Some kind) (Some target) None highs goal is within = absurd (cc is)
all_there (Some slot) (Some kind) (Some target) (Some low) None goal is within = absurd (cc is)
all_there (Some slot) (Some kind) (Some target) (Some low) (Some high) goal is within =
    ordered (record { slot = slot; kind = kind; target = target; low = low; high = high }) goal (within slot refl) is

-- the first goal and the others
both_there : (first : Option Goal) (rest : Option (List Goal)) (goals : List Goal) → (first >>= (λ goal. rest >>= (λ more. Some (goal ∷ more)))) ≡ Some goals
    → ((goal : Goal) → first ≡ Some goal → IsGoal goal) → ((more : List Goal) → rest ≡ Some more → AllByRecursion IsGoal more) → AllByRecursion IsGoal goals
both_there None rest goals is one others = absurd (cc is)
both_there (Some goal) None goals is one others = absurd (cc is)
both_there (Some goal) (Some more) goals is one others =
    let same : goal ∷ more ≡ goals = cc is in
    subst (AllByRecursion IsGoal) same (one goal refl, others more refl)

slot_within : (word : List ℕ) (slot : ℕ) → number MAX_SLOT word ≡ Some slot → slot ≤ MAX_SLOT
slot_within word slot is = let few : 15 < 2 ^ 64 = omega arith in (number-Some MAX_SLOT slot word few is).1

fields_within : (fields : List (List ℕ)) (goal : Goal) → goal_in fields ≡ Some goal → IsGoal goal
fields_within [] goal is = absurd (cc is)
fields_within (a ∷ []) goal is = absurd (cc is)
fields_within (a ∷ b ∷ []) goal is = absurd (cc is)
fields_within (a ∷ b ∷ c ∷ []) goal is = absurd (cc is)
fields_within (a ∷ b ∷ c ∷ d ∷ []) goal is = absurd (cc is)
fields_within (a ∷ b ∷ c ∷ d ∷ e ∷ []) goal is =
    all_there (number MAX_SLOT a) (kind_of b) (number (2 ^ 32 - 1) c) (number (2 ^ 64 - 1) d) (number (2 ^ 64 - 1) e) goal is (slot_within a)
fields_within (a ∷ b ∷ c ∷ d ∷ e ∷ f ∷ fs) goal is = absurd (cc is)

words_within : (words : List (List ℕ)) (goals : List Goal) → goals_in words ≡ Some goals → AllByRecursion IsGoal goals
words_within [] goals is = let same : [] ≡ goals = cc is in subst (AllByRecursion IsGoal) same tt
words_within (word ∷ words) goals is =
    both_there (goal_of word) (goals_in words) goals is (λ goal. fields_within (parts COLON word) goal) (λ more. words_within words more)

pub said_goals : (words : List (List ℕ)) (goals : List Goal) → goals_of words ≡ Some goals → AllByRecursion IsGoal goals
said_goals words goals is = by (nat_le 1 (length words) && nat_le (length words) MAX_GOALS) is
  where
    by : (t : Bool) → (if t then goals_in words else None) ≡ Some goals → AllByRecursion IsGoal goals
    by true is = words_within words goals is
    by false is = absurd (cc is)
