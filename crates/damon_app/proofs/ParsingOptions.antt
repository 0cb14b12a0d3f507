-- Words one of which begins with a hyphen ask for nothing.
use Rattle.std.proofs.Common.{◌≡◌, ◌-◌, ◌^◌, arith, ℕ, List, [], ◌∷◌, true, false, Some, None, Option, codes, refl, ap, sym, ◌∙◌, Bool, subst}
use Rattle.std.specs.Prelude.{◌==◌, ◌||◌, String, if◌then◌else◌, map, string_bytes}
use Rattle.std.specs.declared.alloc.Global.{Global}
use Rattle.std.specs.List.{onto_first}
use Rattle.std.specs.Str.{bytes_eq}
use Rattle.std.proofs.lemmas.Slice.Eq.{bytes_eq-Decides}
use Rattle.std.proofs.lemmas.Bool.Decides.{nat_tests}
use Rattle.line_text.specs.Number.{number}
use Rattle.line_text.specs.Parts.{parts}
use Rattle.line_text.specs.declared.bytes.TheConstants.{COLON}
use Rattle.damon_types.specs.declared.scheme.TheConstants.{MAX_SLOT}
use Rattle.clap.specs.Walk.{Text}
use Rattle.quota_goal.specs.declared.goals.Goal.{Goal}
use Rattle.damon_app.specs.GoalWords.{◌>>=◌, goal_in, goal_of, goals_in}
use Rattle.damon_app.specs.Parser.{begins_with_hyphen, has_option}
use Rattle.damon_app.specs.declared.request.Request.{Request}
use Rattle.damon_app.specs.Request.{asked, asked_alone, asked_by, asked_to_tune, asked_with}
use Rattle.damon_app.proofs.Parsing.{may_tune}

-- ---- words with an option

is_hyphen : (c : ℕ) → (c == 45) ≡ true → c ≡ 45
is_hyphen c is = grind (arith, nat_tests)

no_report : (word : Text) → begins_with_hyphen word ≡ true → asked_alone word ≡ None
no_report [] is = absurd cc
no_report (c ∷ cs) is = subst (λ (b : ℕ). asked_alone (b ∷ cs) ≡ None) (sym (is_hyphen c is)) refl

no_run : (word digits : Text) → begins_with_hyphen word ≡ true → asked_with word digits ≡ None
no_run [] digits is = absurd cc
no_run (c ∷ cs) digits is = subst (λ (b : ℕ). asked_with (b ∷ cs) digits ≡ None) (sym (is_hyphen c is)) refl

no_number : (most : ℕ) (cs : Text) → number most (45 ∷ cs) ≡ None
no_number most [] = refl
no_number most (d ∷ ds) = refl

no_digits : (word digits : Text) → begins_with_hyphen digits ≡ true → asked_with word digits ≡ None
no_digits word [] is = absurd cc
no_digits word (c ∷ cs) is =
    subst (λ (b : ℕ). asked_with word (b ∷ cs) ≡ None) (sym (is_hyphen c is))
    (rw (no_number (2 ^ 64 - 1) cs) (by (bytes_eq word (codes "gen")) (bytes_eq word (codes "heat"))))
  where
    by : (t u : Bool) → ◌≡◌ {A = Option Request} (if t then None else if u then None else None) None
    by true u = refl
    by false true = refl
    by false false = refl

-- a word that begins with a hyphen says no goal: its first field is no number
no_slot : (parts : List Text) → goal_in (onto_first 45 parts) ≡ None
no_slot [] = refl
no_slot (s ∷ []) = refl
no_slot (s ∷ a ∷ []) = refl
no_slot (s ∷ a ∷ b ∷ []) = refl
no_slot (s ∷ a ∷ b ∷ c ∷ []) = refl
no_slot (s ∷ a ∷ b ∷ c ∷ d ∷ []) = rw (no_number MAX_SLOT s) refl
no_slot (s ∷ a ∷ b ∷ c ∷ d ∷ e ∷ es) = refl

no_goal : (word : Text) → begins_with_hyphen word ≡ true → goal_of word ≡ None
no_goal [] is = absurd cc
no_goal (c ∷ cs) is = subst (λ (b : ℕ). goal_of (b ∷ cs) ≡ None) (sym (is_hyphen c is)) (no_slot (parts COLON cs))

-- words one of which begins with a hyphen say no goals
no_goals : (words : List (String Global)) → has_option words ≡ true → goals_in (map string_bytes words) ≡ None
no_goals [] is = absurd cc
no_goals (word ∷ words) is = by (begins_with_hyphen (string_bytes word)) refl is (no_goals words)
  where
    by_rest : (o : Option Goal) → goals_in (map string_bytes words) ≡ None → (o >>= (λ goal. goals_in (map string_bytes words) >>= (λ goals. Some (goal ∷ goals)))) ≡ None
    by_rest None none = refl
    by_rest (Some goal) none = rw none refl

    by : (t : Bool) → begins_with_hyphen (string_bytes word) ≡ t → (t || has_option words) ≡ true → (has_option words ≡ true → goals_in (map string_bytes words) ≡ None) → goals_in (map string_bytes (word ∷ words)) ≡ None
    by true first is later = rw (no_goal (string_bytes word) first) refl
    by false first is later = by_rest (goal_of (string_bytes word)) (later is)

no_tuning : (words : List (String Global)) → goals_in (map string_bytes words) ≡ None → asked_to_tune (map string_bytes words) ≡ None
no_tuning words none = by (may_tune (map string_bytes words)) refl
  where
    by : (t : Bool) → may_tune (map string_bytes words) ≡ t → asked_to_tune (map string_bytes words) ≡ None
    by true is = rw (is, none) refl
    by false is = rw is refl

-- words with an option ask for nothing
no_request : (word : String Global) (words : List (String Global)) → has_option (word ∷ words) ≡ true → asked_by (string_bytes word) (map string_bytes words) ≡ None
no_request word [] is = by (begins_with_hyphen (string_bytes word)) refl is
  where
    by : (t : Bool) → begins_with_hyphen (string_bytes word) ≡ t → (t || false) ≡ true → asked_alone (string_bytes word) ≡ None
    by true first is = no_report (string_bytes word) first
    by false first is = absurd cc
no_request word (digits ∷ []) is = by (begins_with_hyphen (string_bytes word)) refl (begins_with_hyphen (string_bytes digits)) refl is
  where
    by : (t : Bool) → begins_with_hyphen (string_bytes word) ≡ t → (u : Bool) → begins_with_hyphen (string_bytes digits) ≡ u → (t || (u || false)) ≡ true → asked_with (string_bytes word) (string_bytes digits) ≡ None
    by true first u second is = no_run (string_bytes word) (string_bytes digits) first
    by false first true second is = no_digits (string_bytes word) (string_bytes digits) second
    by false first false second is = absurd cc
no_request word (digits ∷ more ∷ words) is = refl

pub option_asks : (words : List (String Global)) → has_option words ≡ true → asked words ≡ None
option_asks [] is = absurd cc
option_asks (word ∷ words) is = by (bytes_eq (string_bytes word) (codes "tune")) refl
  where
    tuned : (t : Bool) → begins_with_hyphen (string_bytes word) ≡ t → string_bytes word ≡ codes "tune" → (t || has_option words) ≡ true → asked_to_tune (map string_bytes words) ≡ None
    tuned true first tune is = absurd (let no : false ≡ true = ap begins_with_hyphen (sym tune) ∙ first in cc no)
    tuned false first tune is = no_tuning words (no_goals words is)

    by : (t : Bool) → bytes_eq (string_bytes word) (codes "tune") ≡ t → (if t then asked_to_tune (map string_bytes words) else asked_by (string_bytes word) (map string_bytes words)) ≡ None
    by true tune = tuned (begins_with_hyphen (string_bytes word)) refl ((bytes_eq-Decides (string_bytes word) (codes "tune")).0 tune) is
    by false other = no_request word words is
