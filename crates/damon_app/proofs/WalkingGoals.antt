-- What clap makes of `tune` and words none of which begins with a hyphen.
use Rattle.std.proofs.Common.{◌≡◌, ℕ, ◌≤◌, List, [], ◌∷◌, ◌++◌, true, false, Some, None, codes, length, refl, ap, ap₂, sym, ◌∙◌, append_assoc, append-nil, arith}
use Rattle.std.specs.Prelude.{◌==◌, nat_le, nat_lt, fold}
use Rattle.std.proofs.lemmas.Bool.Decides.{nat_tests}
use Rattle.clap.specs.declared.builder.value_parser.ValueParser.TheVariants.{String as any_text}
use Rattle.clap.specs.declared.error.kind.ErrorKind.TheVariants as kind
use Rattle.clap.specs.Faults.{check_fault, defaults_fault, entered_fault, fault_of, level_fault, settle_fault, turn_fault, walk_fault}
use Rattle.clap.specs.Kinds.{Kinds, or_else, range_kinds, values_kinds}
use Rattle.clap.specs.Simple.{Shape, built_leaf, entered, inherited, names_of, subcommand_of}
use Rattle.clap.specs.Walk.{Held, Text, Walk, finished, nothing_held, positional, settled, walk, walk_from, walked}
use Rattle.clap.proofs.OnLiterals.{clap_on_literals}
use Rattle.quota_goal.specs.declared.goals.TheConstants.{MAX_GOALS}
use Rattle.damon_app.specs.Parser.{damon_app, tune_shape, words_found}
use Rattle.damon_app.proofs.Walking.{ArePlain, IsPlainWord, after, built_app, or_else-nil, stopped_words, sub_fails, sub_passes}

-- the subcommand as it is built
abbrev tune_built : Shape
tune_built = built_leaf (inherited built_app.top tune_shape)

-- ---- the walk over its words

-- these words are pending
abbrev goals_held : List Text → Held
goals_held front = record { rows = []; pending = Some (codes "goals", front); skip = 0 }

abbrev goals_walk : List Text → Walk
goals_walk front = record { held = goals_held front; waiting = positional; position = 1; is_trailing = false; stopped = None }

first_goal : (word : Text) → IsPlainWord word → walked tune_built.rules [] (walk_from nothing_held) word ≡ goals_walk (word ∷ [])
unfolding clap_on_literals
first_goal [] plain = refl
first_goal (c ∷ cs) dash = rw (dash, dash) refl

next_goal : (front : List Text) (word : Text) → IsPlainWord word → walked tune_built.rules [] (goals_walk front) word ≡ goals_walk (front ++ word ∷ [])
unfolding clap_on_literals
next_goal front [] plain = refl
next_goal front (c ∷ cs) dash = rw (dash, dash) refl

first_free : (word : Text) → IsPlainWord word → turn_fault tune_built [] (walk_from nothing_held) word ≡ []
unfolding clap_on_literals
first_free [] plain = refl
first_free (c ∷ cs) dash = rw (dash, dash) refl

next_free : (front : List Text) (word : Text) → IsPlainWord word → turn_fault tune_built [] (goals_walk front) word ≡ []
unfolding clap_on_literals
next_free front [] plain = refl
next_free front (c ∷ cs) dash = rw (dash, dash) refl

more_goals : (front words : List Text) → ArePlain words → fold (walked tune_built.rules []) (goals_walk front) words ≡ goals_walk (front ++ words)
more_goals front [] plain = ap goals_walk (sym (append-nil front))
more_goals front (word ∷ words) plain =
    ap (λ w. fold (walked tune_built.rules []) w words) (next_goal front word plain.0)
    ∙ more_goals (front ++ word ∷ []) words plain.1
    ∙ ap goals_walk (append_assoc front (word ∷ []) words)

more_free : (front words : List Text) → ArePlain words → walk_fault tune_built [] (goals_walk front) words ≡ []
unfolding walk_fault
more_free front [] plain = refl
more_free front (word ∷ words) plain =
    ap₂ or_else (next_free front word plain.0)
    (ap (λ w. walk_fault tune_built [] w words) (next_goal front word plain.0) ∙ more_free (front ++ word ∷ []) words plain.1)

module _ (word : Text) (words : List Text) where
  all_goals : IsPlainWord word → ArePlain words → walk tune_built.rules [] nothing_held (word ∷ words) ≡ goals_walk (word ∷ words)
  all_goals first more =
      ap (λ w. fold (walked tune_built.rules []) w words) (first_goal word first) ∙ more_goals (word ∷ []) words more

  all_free : IsPlainWord word → ArePlain words → walk_fault tune_built [] (walk_from nothing_held) (word ∷ words) ≡ []
  unfolding walk_fault
  all_free first more =
      ap₂ or_else (first_free word first)
      (ap (λ w. walk_fault tune_built [] w words) (first_goal word first) ∙ more_free (word ∷ []) words more)

-- ---- after the walk

values_free : (values : List Text) → values_kinds false any_text values ≡ []
values_free [] = refl
values_free (v ∷ vs) = values_free vs

-- the only fault is the number of words
settled_by : (word : Text) (words : List Text)
    → settle_fault tune_built.rules tune_built.args_override_self (goals_held (word ∷ words)) ≡ range_kinds 1 MAX_GOALS (length (word ∷ words))
unfolding clap_on_literals
settled_by word words = rw (values_free words) (or_else-nil (range_kinds 1 MAX_GOALS (length (word ∷ words))))

later_free : (word : Text) (words : List Text)
    → or_else (defaults_fault (settled tune_built.rules (goals_held (word ∷ words))).rows tune_built.rules) (check_fault tune_built (finished tune_built.rules (goals_held (word ∷ words))) false) ≡ []
unfolding clap_on_literals
later_free word words = refl

level_by : (s : Shape) (end : Held) (words : List Text) (ks : Kinds) → walk_fault s [] (walk_from nothing_held) words ≡ [] → (walk s.rules [] nothing_held words).held ≡ end
    → settle_fault s.rules s.args_override_self end ≡ ks
    → or_else (defaults_fault (settled s.rules end).rows s.rules) (check_fault s (finished s.rules end) false) ≡ []
    → level_fault s [] nothing_held words false [] ≡ ks
level_by s end words ks passes held settles later = rw (passes, held, settles, later) (or_else-nil ks)

entered_by : (words : List Text) → entered_fault built_app (Some (codes "tune", words)) ≡ level_fault tune_built [] nothing_held words false []
unfolding clap_on_literals
entered_by words = refl

few_kinds : (n : ℕ) → 1 ≤ n → nat_le n MAX_GOALS ≡ true → range_kinds 1 MAX_GOALS n ≡ []
few_kinds n some few =
    let none : (n == 0) ≡ false = grind (arith, nat_tests, some) in
    let least : nat_lt n 1 ≡ false = grind (arith, nat_tests, some) in
    let most : nat_lt MAX_GOALS n ≡ false = grind (arith, nat_tests, few) in
    rw (none, least, most) refl

many_kinds : (n : ℕ) → 1 ≤ n → nat_le n MAX_GOALS ≡ false → range_kinds 1 MAX_GOALS n ≡ kind.TooManyValues ∷ []
many_kinds n some many =
    let none : (n == 0) ≡ false = grind (arith, nat_tests, some) in
    let least : nat_lt n 1 ≡ false = grind (arith, nat_tests, some) in
    let most : nat_lt MAX_GOALS n ≡ true = grind (arith, nat_tests, many) in
    rw (none, least, most) refl

module _ (word : Text) (words : List Text) (first : IsPlainWord word) (more : ArePlain words) where
  below : entered_fault built_app (Some (codes "tune", word ∷ words)) ≡ range_kinds 1 MAX_GOALS (length (word ∷ words))
  below =
      entered_by (word ∷ words)
      ∙ level_by tune_built (goals_held (word ∷ words)) (word ∷ words) (range_kinds 1 MAX_GOALS (length (word ∷ words)))
      (all_free word words first more) (ap (λ (w : Walk). w.held) (all_goals word words first more)) (settled_by word words) (later_free word words)

  pub goals_fail : (nat_le (length (word ∷ words)) MAX_GOALS) ≡ false → fault_of damon_app (codes "tune" ∷ word ∷ words) ≡ kind.TooManyValues ∷ []
  unfolding clap_on_literals
  goals_fail many = sub_fails (codes "tune") (word ∷ words) kind.TooManyValues [] refl refl (below ∙ many_kinds (length (word ∷ words)) (omega arith) many)

  pub goals_pass : (nat_le (length (word ∷ words)) MAX_GOALS) ≡ true → fault_of damon_app (codes "tune" ∷ word ∷ words) ≡ []
  unfolding clap_on_literals
  goals_pass few = sub_passes (codes "tune") (word ∷ words) refl refl refl refl (below ∙ few_kinds (length (word ∷ words)) (omega arith) few)

  pub goals_found : words_found (subcommand_of damon_app (codes "tune" ∷ word ∷ words)) ≡ Some (record { name = codes "tune"; number = None; goals = Some (word ∷ words) })
  unfolding clap_on_literals
  goals_found =
      ap (λ o. words_found (entered built_app o)) (stopped_words built_app.top.rules (names_of built_app) (after (codes "tune")) (codes "tune", []) (word ∷ words) refl)
      ∙ ap (λ (w : Walk). words_found (Some (codes "tune", finished tune_built.rules w.held))) (all_goals word words first more)
