-- What clap makes of words none of which begins with a hyphen.
use Rattle.std.proofs.Common.{◌≡◌, ◌≢◌, ap₂, arith, ◌⊎◌, inl, inr, ℕ, List, [], ◌∷◌, true, false, Some, None, Option, codes, length, refl, ap, sym, ◌∙◌, Bool, subst}
use Rattle.std.specs.Prelude.{◌==◌, ◌||◌, ◌&&◌, nat_le, String, if◌then◌else◌, map, string_bytes}
use Rattle.std.specs.declared.alloc.Global.{Global}
use Rattle.std.specs.List.{AllByRecursion}
use Rattle.std.specs.Str.{bytes_eq}
use Rattle.std.proofs.lemmas.Slice.Eq.{bytes_eq-Decides}
use Rattle.clap.specs.declared.error.kind.ErrorKind.{ErrorKind}
use Rattle.clap.specs.declared.error.kind.ErrorKind.TheVariants as kind
use Rattle.std.proofs.lemmas.Bool.Decides.{nat_tests}
use Rattle.std.specs.Option.{option_map}
use Rattle.std.specs.Box.{box_value}
use Rattle.line_text.specs.Number.{number}
use Rattle.clap.specs.declared.error.Error.{Error}
use Rattle.clap.specs.declared.parser.matches.ArgMatches.{ArgMatches}
use Rattle.clap.specs.declared.parser.matches.ArgMatches.TheViews.{out-ArgMatches, out-SubCommand}
use Rattle.clap.specs.Words.{kind_of, subcommand_name_of, subcommand_rows, subcommand_rows_of}
use Rattle.clap.specs.Faults.{fault_of, is_simple_and_free}
use Rattle.clap.specs.Kinds.{HasKind, IsAmong, Kinds}
use Rattle.clap.specs.Simple.{is_simple, subcommand_of}
use Rattle.clap.specs.Walk.{Row, Text, all_of, first_of}
use Rattle.clap.proofs.OnLiterals.{clap_on_literals}
use Rattle.quota_goal.specs.declared.goals.TheConstants.{MAX_GOALS}
use Rattle.damon_app.specs.Parser.{Found, begins_with_hyphen, by_goals, damon_app, has_option, request_found, words_found}
use Rattle.damon_app.specs.declared.request.Request.{Request}
use Rattle.damon_app.specs.declared.request.Request.TheVariants.{Report, Verify, Admin}
use Rattle.damon_app.specs.declared.request.Run.TheVariants.{Plain, Reclaim}
use Rattle.snapshot_print.specs.declared.form.Form.TheVariants.{Text as TextForm, Json as JsonForm}
use Rattle.damon_app.specs.Request.{asked, asked_by, asked_to_tune, asked_with, request_of}
use Rattle.damon_app.proofs.TooManyWords.{admin_fails, gen_fails, heat_fails, json_fails, reclaim_fails, replay_fails, verify_fails}
use Rattle.damon_app.proofs.Walking.{ArePlain, IsPlainWord}
use Rattle.damon_app.proofs.WalkingGoals.{goals_fail, goals_found, goals_pass}

pub free : is_simple_and_free damon_app ≡ true
unfolding clap_on_literals
free = refl

-- a subcommand that was found alone, with a number, or with goals
abbrev alone : Text → Found
alone name = record { name = name; number = None; goals = None }

abbrev numbered : Text → Text → Found
numbered name digits = record { name = name; number = Some digits; goals = None }

abbrev tuning : List Text → Found
tuning words = record { name = codes "tune"; number = None; goals = Some words }

-- ---- words that do not begin with a hyphen

module _ (c : ℕ) (cs : List ℕ) (dash : (c == 45) ≡ false) where
  other_fails : (ws : List Text) → bytes_eq (codes "replay") (c ∷ cs) ≡ false → bytes_eq (codes "json") (c ∷ cs) ≡ false → bytes_eq (codes "verify") (c ∷ cs) ≡ false → bytes_eq (codes "gen") (c ∷ cs) ≡ false → bytes_eq (codes "heat") (c ∷ cs) ≡ false → bytes_eq (codes "tune") (c ∷ cs) ≡ false → bytes_eq (codes "admin") (c ∷ cs) ≡ false → bytes_eq (codes "reclaim") (c ∷ cs) ≡ false → fault_of damon_app ((c ∷ cs) ∷ ws) ≡ kind.UnknownArgument ∷ kind.InvalidSubcommand ∷ []
  unfolding clap_on_literals
  other_fails ws r j v g h t a m = rw (r, j, v, g, h, t, a, m, dash, dash) refl

  gen_passes : fault_of damon_app (codes "gen" ∷ (c ∷ cs) ∷ []) ≡ []
  unfolding clap_on_literals
  gen_passes = rw (dash, dash) refl

  gen_finds : words_found (subcommand_of damon_app (codes "gen" ∷ (c ∷ cs) ∷ [])) ≡ Some (numbered (codes "gen") (c ∷ cs))
  unfolding clap_on_literals
  gen_finds = rw (dash, dash) refl

  heat_passes : fault_of damon_app (codes "heat" ∷ (c ∷ cs) ∷ []) ≡ []
  unfolding clap_on_literals
  heat_passes = rw (dash, dash) refl

  heat_finds : words_found (subcommand_of damon_app (codes "heat" ∷ (c ∷ cs) ∷ [])) ≡ Some (numbered (codes "heat") (c ∷ cs))
  unfolding clap_on_literals
  heat_finds = rw (dash, dash) refl

-- ---- the whole

-- what a word other than `tune` names, with the words after it
abbrev named_by : Text → List Text → Option Found
named_by word [] =
    if bytes_eq word (codes "replay") then Some (alone (codes "replay"))
    else if bytes_eq word (codes "json") then Some (alone (codes "json"))
    else if bytes_eq word (codes "verify") then Some (alone (codes "verify"))
    else if bytes_eq word (codes "admin") then Some (alone (codes "admin"))
    else if bytes_eq word (codes "reclaim") then Some (alone (codes "reclaim"))
    else None
named_by word (digits ∷ []) =
    if bytes_eq word (codes "gen") then Some (numbered (codes "gen") digits)
    else if bytes_eq word (codes "heat") then Some (numbered (codes "heat") digits)
    else None
named_by word (digits ∷ more ∷ words) = None

-- whether words may be goals by their number
abbrev pub may_tune : List Text → Bool
may_tune words = nat_le 1 (length words) && nat_le (length words) MAX_GOALS

-- what words name
abbrev pub named : List Text → Option Found
named [] = None
named (word ∷ words) =
    if bytes_eq word (codes "tune") then (if may_tune words then Some (tuning words) else None) else named_by word words

-- clap takes the words and finds what they name, or refuses words that name nothing
abbrev pub IsParsedAs : List Text → Type 0
IsParsedAs words =
    ((fault_of damon_app words ≡ []) × (words_found (subcommand_of damon_app words) ≡ named words))
    ⊎ ((k : ErrorKind) × (ks : Kinds) × (fault_of damon_app words ≡ k ∷ ks) × (named words ≡ None))

-- a word after one that takes none
none_after : (word : Text) → bytes_eq word (codes "tune") ≡ false → bytes_eq word (codes "gen") ≡ false → bytes_eq word (codes "heat") ≡ false
    → (x : Text) (ws : List Text) → named (word ∷ x ∷ ws) ≡ None
none_after word t g h x [] = rw (t, g, h) refl
none_after word t g h x (y ∷ ws) = rw t refl

-- a subcommand that takes no word
alone_parsed : (name : Text) → IsParsedAs (name ∷ []) → bytes_eq name (codes "tune") ≡ false → bytes_eq name (codes "gen") ≡ false → bytes_eq name (codes "heat") ≡ false
    → ((x : Text) (ws : List Text) → IsPlainWord x → fault_of damon_app (name ∷ x ∷ ws) ≡ kind.UnknownArgument ∷ [])
    → (ws : List Text) → ArePlain ws → IsParsedAs (name ∷ ws)
alone_parsed name itself t g h fails [] plain = itself
alone_parsed name itself t g h fails (x ∷ ws) plain = inr (kind.UnknownArgument, [], fails x ws plain.0, none_after name t g h x ws)

gen_parsed : (ws : List Text) → ArePlain ws → IsParsedAs (codes "gen" ∷ ws)
unfolding clap_on_literals
gen_parsed [] plain = inr (kind.MissingRequiredArgument, [], refl, refl)
gen_parsed ([] ∷ []) plain = inl (refl, refl)
gen_parsed ((c ∷ cs) ∷ []) plain = inl (gen_passes c cs plain.0, gen_finds c cs plain.0)
gen_parsed (x ∷ y ∷ ws) plain = inr (kind.UnknownArgument, [], gen_fails x y ws plain.0 plain.1.0, refl)

heat_parsed : (ws : List Text) → ArePlain ws → IsParsedAs (codes "heat" ∷ ws)
unfolding clap_on_literals
heat_parsed [] plain = inr (kind.MissingRequiredArgument, [], refl, refl)
heat_parsed ([] ∷ []) plain = inl (refl, refl)
heat_parsed ((c ∷ cs) ∷ []) plain = inl (heat_passes c cs plain.0, heat_finds c cs plain.0)
heat_parsed (x ∷ y ∷ ws) plain = inr (kind.UnknownArgument, [], heat_fails x y ws plain.0 plain.1.0, refl)

-- goals, if they are not too many
tune_named : (word : Text) (words : List Text) (t : Bool) → nat_le (length (word ∷ words)) MAX_GOALS ≡ t → named (codes "tune" ∷ word ∷ words) ≡ (if t then Some (tuning (word ∷ words)) else None)
tune_named word words t is =
    let some : nat_le 1 (length (word ∷ words)) ≡ true = grind (arith, nat_tests) in
    rw (some, is) refl

tune_parsed : (ws : List Text) → ArePlain ws → IsParsedAs (codes "tune" ∷ ws)
unfolding clap_on_literals
tune_parsed [] plain = inr (kind.MissingRequiredArgument, [], refl, refl)
tune_parsed (word ∷ words) plain = by (nat_le (length (word ∷ words)) MAX_GOALS) refl
  where
    by : (t : Bool) → nat_le (length (word ∷ words)) MAX_GOALS ≡ t → IsParsedAs (codes "tune" ∷ word ∷ words)
    by true is = inl (goals_pass word words plain.0 plain.1 is, goals_found word words plain.0 plain.1 ∙ sym (tune_named word words true is))
    by false is = inr (kind.TooManyValues, [], goals_fail word words plain.0 plain.1 is, tune_named word words false is)

-- words that name no subcommand
none_named : (word : Text) (ws : List Text) → bytes_eq word (codes "replay") ≡ false → bytes_eq word (codes "json") ≡ false → bytes_eq word (codes "verify") ≡ false → bytes_eq word (codes "gen") ≡ false → bytes_eq word (codes "heat") ≡ false → bytes_eq word (codes "tune") ≡ false → bytes_eq word (codes "admin") ≡ false → bytes_eq word (codes "reclaim") ≡ false → named (word ∷ ws) ≡ None
none_named word [] r j v g h t a m = rw (t, r, j, v, a, m) refl
none_named word (x ∷ ws) r j v g h t a m = none_after word t g h x ws

flipped : (a b : Text) → bytes_eq a b ≡ false → bytes_eq b a ≡ false
flipped a b not = by (bytes_eq b a) refl
  where
    by : (t : Bool) → bytes_eq b a ≡ t → t ≡ false
    by false is = refl
    by true is = let same : b ≡ a = (bytes_eq-Decides b a).0 is in let yes : bytes_eq a b ≡ true = (bytes_eq-Decides a b).1 (sym same) in absurd (let no : true ≡ false = sym yes ∙ not in cc no)

unnamed_parsed : (word : Text) (ws : List Text) → IsPlainWord word → bytes_eq word (codes "replay") ≡ false → bytes_eq word (codes "json") ≡ false → bytes_eq word (codes "verify") ≡ false → bytes_eq word (codes "gen") ≡ false → bytes_eq word (codes "heat") ≡ false → bytes_eq word (codes "tune") ≡ false → bytes_eq word (codes "admin") ≡ false → bytes_eq word (codes "reclaim") ≡ false → IsParsedAs (word ∷ ws)
unfolding clap_on_literals
unnamed_parsed [] ws plain r j v g h t a m = inr (kind.UnknownArgument, kind.InvalidSubcommand ∷ [], refl, none_named [] ws r j v g h t a m)
unnamed_parsed (c ∷ cs) ws plain r j v g h t a m =
    inr (kind.UnknownArgument, kind.InvalidSubcommand ∷ [], other_fails c cs plain ws (flipped (c ∷ cs) (codes "replay") r) (flipped (c ∷ cs) (codes "json") j) (flipped (c ∷ cs) (codes "verify") v) (flipped (c ∷ cs) (codes "gen") g) (flipped (c ∷ cs) (codes "heat") h) (flipped (c ∷ cs) (codes "tune") t) (flipped (c ∷ cs) (codes "admin") a) (flipped (c ∷ cs) (codes "reclaim") m), none_named (c ∷ cs) ws r j v g h t a m)

is_word : (word name : Text) (ws : List Text) → bytes_eq word name ≡ true → IsParsedAs (name ∷ ws) → IsParsedAs (word ∷ ws)
is_word word name ws same parsed = subst (λ (w : Text). IsParsedAs (w ∷ ws)) (sym ((bytes_eq-Decides word name).0 same)) parsed

-- a word that is one of these names, or none of them
in_turn : (word : Text) (ws names : List Text) → AllByRecursion (λ name. IsParsedAs (name ∷ ws)) names
    → (AllByRecursion (λ name. bytes_eq word name ≡ false) names → IsParsedAs (word ∷ ws)) → IsParsedAs (word ∷ ws)
in_turn word ws [] parsed none = none tt
in_turn word ws (name ∷ names) parsed none =
    (elim (bytes_eq word name) as (λ t. bytes_eq word name ≡ t → IsParsedAs (word ∷ ws)) [
      | true ↦ λ is. is_word word name ws is parsed.0
      | false ↦ λ not. in_turn word ws names parsed.1 (λ others. none (not, others))
    ]) refl

-- words none of which begins with a hyphen are parsed as what they name
pub words_parsed : (words : List Text) → ArePlain words → IsParsedAs words
unfolding clap_on_literals
words_parsed [] plain = inr (kind.MissingSubcommand, [], refl, refl)
words_parsed (word ∷ ws) plain =
    in_turn word ws (codes "replay" ∷ codes "json" ∷ codes "verify" ∷ codes "gen" ∷ codes "heat" ∷ codes "tune" ∷ codes "admin" ∷ codes "reclaim" ∷ []) (
      alone_parsed (codes "replay") (inl (refl, refl)) refl refl refl replay_fails ws plain.1,
      (
        alone_parsed (codes "json") (inl (refl, refl)) refl refl refl json_fails ws plain.1,
        (
          alone_parsed (codes "verify") (inl (refl, refl)) refl refl refl verify_fails ws plain.1,
          (
            gen_parsed ws plain.1,
            (
              heat_parsed ws plain.1,
              (
                tune_parsed ws plain.1,
                (
                  alone_parsed (codes "admin") (inl (refl, refl)) refl refl refl admin_fails ws plain.1,
                  (alone_parsed (codes "reclaim") (inl (refl, refl)) refl refl refl reclaim_fails ws plain.1, tt),
                ),
              ),
            ),
          ),
        ),
      ),
    )
    (λ o. unnamed_parsed word ws plain.0 o.0 o.1.0 o.1.1.0 o.1.1.1.0 o.1.1.1.1.0 o.1.1.1.1.1.0 o.1.1.1.1.1.1.0 o.1.1.1.1.1.1.1.0)

-- ---- what the words ask for

one_asks : (t u v a m : Bool)
    → request_found (if t then Some (alone (codes "replay")) else if u then Some (alone (codes "json")) else if v then Some (alone (codes "verify")) else if a then Some (alone (codes "admin")) else if m then Some (alone (codes "reclaim")) else None)
    ≡ (if t then Some (Report (Plain TextForm)) else if u then Some (Report (Plain JsonForm)) else if v then Some Verify else if a then Some Admin else if m then Some (Report Reclaim) else None)
one_asks true u v a m = refl
one_asks false true v a m = refl
one_asks false false true a m = refl
one_asks false false false true m = refl
one_asks false false false false true = refl
one_asks false false false false false = refl

two_ask : (t u : Bool) (digits : Text)
    → request_found (if t then Some (numbered (codes "gen") digits) else if u then Some (numbered (codes "heat") digits) else None)
    ≡ (if t then asked_with (codes "gen") digits else if u then asked_with (codes "heat") digits else None)
two_ask true u digits = refl
two_ask false true digits = refl
two_ask false false digits = refl

-- what a word other than `tune` names is what it asks for
by_asks : (word : Text) (words : List Text) → request_found (named_by word words) ≡ asked_by word words
by_asks word [] = one_asks (bytes_eq word (codes "replay")) (bytes_eq word (codes "json")) (bytes_eq word (codes "verify")) (bytes_eq word (codes "admin")) (bytes_eq word (codes "reclaim"))
by_asks word (digits ∷ []) = two_ask (bytes_eq word (codes "gen")) (bytes_eq word (codes "heat")) digits
by_asks word (digits ∷ more ∷ words) = refl

-- words that may not be goals by their number ask for nothing
tune_asks : (words : List Text) (t : Bool) → may_tune words ≡ t → request_found (if t then Some (tuning words) else None) ≡ asked_to_tune words
tune_asks words true is = refl
tune_asks words false is = rw is refl

-- what words name is what they ask for
named_asks : (words : List Text) → request_found (named words) ≡ request_of words
named_asks [] = refl
named_asks (word ∷ words) = by (bytes_eq word (codes "tune"))
  where
    by : (t : Bool) → request_found (if t then (if may_tune words then Some (tuning words) else None) else named_by word words) ≡ (if t then asked_to_tune words else asked_by word words)
    by true = tune_asks words (may_tune words) refl
    by false = by_asks word words

plain_word : (word : Text) → begins_with_hyphen word ≡ false → IsPlainWord word
plain_word [] not = tt
plain_word (c ∷ cs) not = not

plain_words : (words : List (String Global)) → has_option words ≡ false → ArePlain (map string_bytes words)
plain_words [] none = tt
plain_words (word ∷ words) none = both (begins_with_hyphen (string_bytes word)) refl none (plain_words words)
  where
    both : (t : Bool) → begins_with_hyphen (string_bytes word) ≡ t → (t || has_option words) ≡ false → (has_option words ≡ false → ArePlain (map string_bytes words)) → ArePlain (map string_bytes (word ∷ words))
    both true is rest later = absurd cc
    both false is rest later = (plain_word (string_bytes word) is, later rest)

module _ (words : List (String Global)) (none : has_option words ≡ false) where
  parsed : IsParsedAs (map string_bytes words)
  parsed = words_parsed (map string_bytes words) (plain_words words none)

  -- where clap takes the words, what it finds is what they ask for
  pub taken_asks : fault_of damon_app (map string_bytes words) ≡ [] → request_found (words_found (subcommand_of damon_app (map string_bytes words))) ≡ asked words
  taken_asks passes = elim parsed [
    | inl both ↦ ap request_found both.1 ∙ named_asks (map string_bytes words)
    | inr fails ↦ absurd (let no : fails.0 ∷ fails.1 ≡ [] = sym fails.2 ∙ passes in cc no)
  ]

  -- where it fails by a kind, they ask for nothing
  pub refused_asks : (k : ErrorKind) → IsAmong k (fault_of damon_app (map string_bytes words)) → None ≡ asked words
  refused_asks k among = elim parsed [
    | inl both ↦ absurd (subst (IsAmong k) both.0 among)
    | inr fails ↦ ap request_found (sym fails.3) ∙ named_asks (map string_bytes words)
  ]

  -- a failed parse asks for nothing, unless it wanted memory
  pub refusal_asks : (e : Error) (request : Option Request) → (request ≡ None) × (kind_of e ≢ kind.OutOfMemory) → HasKind (fault_of damon_app (map string_bytes words)) e → request ≡ asked words
  refusal_asks e request none_given (inl oom) = absurd (none_given.1 oom)
  refusal_asks e request none_given (inr among) = none_given.0 ∙ refused_asks (kind_of e) among

pub simple : is_simple damon_app ≡ true
unfolding clap_on_literals
simple = refl

pair_found : (pair : Option (Text × List Row)) (name : Text) (rows : List Row) → Some name ≡ option_map (λ p. p.0) pair → Some rows ≡ option_map (λ p. p.1) pair → pair ≡ Some (name, rows)
pair_found None name rows first second = absurd cc
pair_found (Some p) name rows first second =
    let n : name ≡ p.0 = cc in
    let r : rows ≡ p.1 = cc in
    ap₂ (λ (x : Text) (ys : List Row). Some (x, ys)) (sym n) (sym r)

name_pairs : (m : ArgMatches) → subcommand_name_of m ≡ option_map (λ p. p.0) (subcommand_rows_of m)
name_pairs m = elim ((out-ArgMatches m).subcommand) as (λ o. option_map (λ b. (out-SubCommand (box_value b)).name.now) o ≡ option_map (λ p. p.0) (subcommand_rows o)) [ None ↦ refl | Some b ↦ refl ]

pub subcommand_asks : (m : ArgMatches) (name : Text) (rows : List Row) (digits : Option Text) (goals : Option (List Text)) → Some name ≡ subcommand_name_of m → Some rows ≡ option_map (λ p. p.1) (subcommand_rows_of m) → digits ≡ first_of (codes "number") rows → goals ≡ all_of (codes "goals") rows → by_goals name goals digits ≡ request_found (words_found (subcommand_rows_of m))
subcommand_asks m name rows digits goals is_name is_rows is_digits is_goals =
    let found = pair_found (subcommand_rows_of m) name rows (is_name ∙ name_pairs m) is_rows in
    ap₂ (λ (g : Option (List Text)) (d : Option Text). by_goals name g d) is_goals is_digits ∙ sym (ap (λ f. request_found (words_found f)) found)
