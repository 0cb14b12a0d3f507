-- A line of a setup that says something is read as that.
use Rattle.std.proofs.Common.{◌≡◌, ◌≤◌, ◌^◌, ◌+◌, ◌*◌, ◌%◌, ◌<◌, ◌∷◌, [], ◌==◌, ◌&&◌, nat_le, nat_lt, ℕ, true, false, not, List, ◌++◌, length, codes, Some, Ok, Err, refl, ap, subst, ◌∙◌, decimal, arith}
use Rattle.std.specs.Prelude.{Result, is_ok}
use Rattle.std.specs.Cmp.Derive.{both_true}
use Rattle.std.specs.List.{list_all}
use Rattle.std.proofs.lemmas.Bool.Decides.{nat_tests}
use Rattle.damon_types.specs.declared.attrs.Attrs.{Attrs}
use Rattle.damon_types.specs.declared.range.RangeSpec.{RangeSpec}
use Rattle.damon_types.specs.declared.scheme.CostPart.{CostPart}
use Rattle.damon_types.specs.declared.scheme.Scheme.{Scheme}
use Rattle.damon_types.specs.declared.scheme.SlotChange.{SlotChange}
use Rattle.damon_types.specs.declared.space.SpaceFault.{SpaceFault}
use Rattle.damon_types.specs.declared.space.Target.{Target}
use Rattle.damon_types.specs.Attrs.{checked_attrs}
use Rattle.damon_types.specs.declared.scheme.Version.{Version}
use Rattle.damon_types.specs.Scheme.{checked_in}
use Rattle.std.specs.Result.{result_and}
use Rattle.damon_types.specs.Space.{checked, checked_targets_from, checked_target}
use Rattle.line_text.specs.Address.{spelled_address}
use Rattle.line_text.specs.Parts.{joined}
use Rattle.target_ranges.specs.Checked.{checked_next}
use Rattle.script_lines.specs.declared.kind.ScriptKind.{ScriptKind}
use Rattle.script_lines.specs.declared.kind.ScriptKind.TheVariants.{Limit, Attrs as BadAttrs, OverCap, Range as BadRange, RangesOverMax, Scheme as BadScheme, Repeated}
use Rattle.script_lines.specs.declared.setup.Frame.{Frame}
use Rattle.script_lines.specs.Fields.{attrs_in, range_in}
use Rattle.script_lines.specs.Fits.{FitsAttrs, FitsCost, FitsRange}
use Rattle.script_lines.specs.Head.{attrs_line, cap_line, is_changed, limited, one_target, range_line, scheme_line, seed_line, target_in, target_line, unit_line}
use Rattle.script_lines.specs.Keys.{scheme_in}
use Rattle.script_lines.specs.Laws.{GivesScheme, IsScheme}
use Rattle.script_lines.specs.Blocks.{passes_line}
use Rattle.script_lines.specs.Refusal.{◌>>=◌, only_if, refused_as}
use Rattle.script_lines.specs.Spelling.{spelled_attrs, spelled_range, spelled_target}
use Rattle.script_lines.proofs.SpelledParts.{attrs_words, cost_words, range_words, scheme_words, target_words}
use Rattle.script_lines.specs.Words.{arguments, number_32, number_64, one_word, same_word}
use Rattle.script_lines.proofs.PlainWords.{address_field, arguments-spaced, decimal_field, field_8, field_32, field_word, is_plain_word}
use Rattle.script_lines.proofs.ReadFields.{attrs_in-words, number_32-decimal, number_64-decimal, range_in-words, target_in-words}
use Rattle.script_lines.proofs.ReadSchemes.{scheme_in-words, scheme_words-plain}
use Rattle.script_lines.proofs.SpellSteps.{tested_way, then-Ok}

-- a line of a word and others is read as the others are
pub arguments-read : {A : Type 0} (word : List ℕ) (words : List (List ℕ)) (read : List (List ℕ) → Result A ScriptKind) (said : Result A ScriptKind)
    → same_word word word ≡ true → list_all is_plain_word (word ∷ words) ≡ true → read words ≡ said → (arguments word (joined 32 (word ∷ words)) >>= read) ≡ said
arguments-read word words read said same plain is = then-Ok (arguments word (joined 32 (word ∷ words))) read words said (arguments-spaced word words same plain) is

-- a line of a word and one more is read as the second is
pub one_word-read : {A : Type 0} (word only : List ℕ) (read : List ℕ → Result A ScriptKind) (said : Result A ScriptKind)
    → same_word word word ≡ true → list_all is_plain_word (word ∷ only ∷ []) ≡ true → read only ≡ said
    → (arguments word (joined 32 (word ∷ only ∷ [])) >>= one_word >>= read) ≡ said
one_word-read word only read said same plain is =
    then-Ok (arguments word (joined 32 (word ∷ only ∷ [])) >>= one_word) read only said (arguments-read word (only ∷ []) one_word (Ok only) same plain refl) is

pub limited-within : (least most n : ℕ) → least ≤ n → n ≤ most → limited least most n ≡ Ok n
limited-within least most n low high = let within : (nat_le least n && nat_le n most) ≡ true = grind (arith, nat_tests) in ap (λ t. only_if t Limit n) within

-- a line of one number of 32 bits
pub number_line : (word : List ℕ) (n : ℕ) → same_word word word ≡ true → is_plain_word word ≡ true → n < 2 ^ 32
    → (arguments word (joined 32 (word ∷ decimal n ∷ [])) >>= one_word >>= number_32) ≡ Ok n
number_line word n same plain small =
    one_word-read word (decimal n) number_32 (Ok n) same (both_true plain (both_true (field_word (decimal n) (field_32 n small)) refl)) (number_32-decimal n small)

pub seed_line-spelled : (n : ℕ) → n < 2 ^ 64 → seed_line (codes "seed " ++ decimal n) ≡ Ok n
seed_line-spelled n small =
    one_word-read (codes "seed") (decimal n) number_64 (Ok n) refl (both_true (field_word (decimal n) (decimal_field n small)) refl) (number_64-decimal n small)

pub unit_line-spelled : (n : ℕ) → 1 ≤ n → n ≤ 1048576 → unit_line (codes "unit " ++ decimal n) ≡ Ok n
unit_line-spelled n low high =
    then-Ok (arguments (codes "unit") (codes "unit " ++ decimal n) >>= one_word >>= number_32) (limited 1 1048576) n (Ok n) (number_line (codes "unit") n refl refl (omega arith))
    (limited-within 1 1048576 n low high)

pub cap_line-spelled : (n : ℕ) → 3 ≤ n → n ≤ 4096 → cap_line (codes "cap " ++ decimal n) ≡ Ok n
cap_line-spelled n low high =
    then-Ok (arguments (codes "cap") (codes "cap " ++ decimal n) >>= one_word >>= number_32) (limited 3 4096) n (Ok n) (number_line (codes "cap") n refl refl (omega arith))
    (limited-within 3 4096 n low high)

pub passes_line-spelled : (n : ℕ) → 1 ≤ n → n ≤ 1000000 → passes_line (codes "passes " ++ decimal n) ≡ Ok n
passes_line-spelled n low high =
    then-Ok (arguments (codes "passes") (codes "passes " ++ decimal n) >>= one_word >>= number_32) (limited 1 1000000) n (Ok n) (number_line (codes "passes") n refl refl (omega arith))
    (limited-within 1 1000000 n low high)

-- the words of attributes are plain
pub attrs_words-plain : (a : Attrs) → FitsAttrs a → list_all is_plain_word (attrs_words a) ≡ true
attrs_words-plain a fits =
    both_true (field_word (decimal a.min) (field_32 a.min fits.0))
    (both_true (field_word (decimal a.max) (field_32 a.max fits.1)) (both_true (field_word (decimal a.aggr) (field_32 a.aggr fits.2)) refl))

-- the words of a range are plain
pub range_words-plain : (r : RangeSpec) → FitsRange r → list_all is_plain_word (range_words r) ≡ true
range_words-plain r fits =
    both_true (field_word (decimal r.target) (field_32 r.target fits.0))
    (both_true (field_word (spelled_address r.from) (address_field r.from fits.1))
    (both_true (field_word (spelled_address r.to) (address_field r.to fits.2)) (both_true (field_word (decimal r.class) (field_8 r.class fits.3)) refl)))

pub attrs_line-spelled : (cap : ℕ) (a : Attrs) → FitsAttrs a → checked_attrs a ≡ Ok tt → a.max ≤ cap → attrs_line cap (spelled_attrs a) ≡ Ok a
attrs_line-spelled cap a fits sound most =
    let within : nat_le a.max cap ≡ true = grind (arith, nat_tests) in
    arguments-read (codes "attrs") (attrs_words a) _ (Ok a) refl (attrs_words-plain a fits)
    (then-Ok (attrs_in (attrs_words a)) _ a _ (attrs_in-words a fits)
    (then-Ok (refused_as BadAttrs (checked_attrs a)) _ tt _ (ap (refused_as BadAttrs) sound) (ap (λ t. only_if t OverCap a) within)))

-- a target within its limits is within its fields
target_small : (i : ℕ) (t : Target) → checked_target i t ≡ Ok tt → (t.base < 2 ^ 64) × (t.pages < 2 ^ 32)
target_small i t e =
    tested_way (nat_le 1 t.pages && nat_le t.pages 1048576) _ _ _
    (λ pages. tested_way ((t.base % 4096 == 0) && nat_le (t.base + 4096 * t.pages) (2 ^ 63)) _ _ _
    (λ base _. (grind (arith, nat_tests), grind (arith, nat_tests)))
    (λ none. absurd cc))
    (λ none. absurd cc) e

first_check : (a b : Result (Unit {0}) SpaceFault) → result_and a b ≡ Ok tt → a ≡ Ok tt
first_check (Ok t) b e = refl
first_check (Err why) b e = absurd cc

second_check : (a b : Result (Unit {0}) SpaceFault) → result_and a b ≡ Ok tt → b ≡ Ok tt
second_check (Ok t) b e = e
second_check (Err why) b e = absurd cc

last_small : (i : ℕ) (before : List Target) (t : Target) → checked_targets_from i (before ++ t ∷ []) ≡ Ok tt → (t.base < 2 ^ 64) × (t.pages < 2 ^ 32)
last_small i [] t e = target_small i t (first_check (checked_target i t) (Ok tt) e)
last_small i (u ∷ before) t e = last_small (i + 1) before t (second_check (checked_target i u) (checked_targets_from (i + 1) (before ++ t ∷ [])) e)

-- the last target of a space is within its fields
pub target_fits : (before : List Target) (t : Target) → checked (before ++ t ∷ []) ≡ Ok tt → (t.base < 2 ^ 64) × (t.pages < 2 ^ 32)
target_fits before t e =
    let targets = before ++ t ∷ [] in
    tested_way (length targets == 0) _ _ _ (λ _ none. absurd cc)
    (tested_way (nat_lt 64 (length targets)) _ _ _ (λ _ none. absurd cc)
    (λ both. last_small 0 before t (first_check (checked_targets_from 0 targets) _ both))) e

pub target_line-spelled : (before : List Target) (t : Target) → checked (before ++ t ∷ []) ≡ Ok tt → target_line before (spelled_target t) ≡ Ok t
target_line-spelled before t sound =
    let small = target_fits before t sound in
    let plain : list_all is_plain_word (target_words t) ≡ true =
    both_true (field_word (spelled_address t.base) (address_field t.base small.0)) (both_true (field_word (decimal t.pages) (field_32 t.pages small.1)) refl) in
    then-Ok (one_target (spelled_target t)) _ t _ (arguments-read (codes "target") (target_words t) target_in (Ok t) refl plain (target_in-words t small.0 small.1))
    (ap (λ r. only_if (is_ok r) Limit t) sound)

pub range_line-spelled : (f : Frame) (targets : List Target) (before : List RangeSpec) (r : RangeSpec) → FitsRange r → checked_next targets f.unit f.cap before r ≡ Ok tt
    → length before < f.attrs.max → range_line f targets before (spelled_range r) ≡ Ok r
range_line-spelled f targets before r fits sound few =
    let within : nat_lt (length before) f.attrs.max ≡ true = grind (arith, nat_tests) in
    arguments-read (codes "range") (range_words r) _ (Ok r) refl (range_words-plain r fits)
    (then-Ok (range_in (range_words r)) _ r _ (range_in-words r fits)
    (then-Ok (refused_as BadRange (checked_next targets f.unit f.cap before r)) _ tt _ (ap (refused_as BadRange) sound) (ap (λ t. only_if t RangesOverMax r) within)))

pub cost_words-plain : (c : CostPart) → FitsCost c → list_all is_plain_word (cost_words c) ≡ true
cost_words-plain c fits = both_true (field_word (decimal c.slot) (field_8 c.slot fits.0)) (both_true (field_word (decimal c.nanos) (decimal_field c.nanos fits.1)) refl)

-- a line that says a scheme has words that are read as that scheme
pub scheme-read : {A : Type 0} (version : Version) (line : List ℕ) (slot : ℕ) (scheme : Scheme) (read : List (List ℕ) → Result A ScriptKind) (said : Result A ScriptKind)
    → IsScheme version line slot scheme → ((words : List (List ℕ)) → scheme_in version words ≡ Ok (slot, scheme) → read words ≡ said) → (arguments (codes "scheme") line >>= read) ≡ said
scheme-read version line slot scheme read said is reads =
    let words = scheme_words slot is.action is.settings in
    ap (λ l. arguments (codes "scheme") l >>= read) is.spelled
    ∙ arguments-read (codes "scheme") words read said refl (scheme_words-plain slot is.action is.settings is.small is.fit)
    (reads words (scheme_in-words version slot is.action is.settings scheme is.small is.fit is.in_order is.made))

-- the first change of a slot is accepted
first_change : (before : List SlotChange) (change : SlotChange) (scheme : Scheme) → change.scheme ≡ Some scheme → is_changed change.slot before ≡ false
    → only_if (not (is_changed change.slot before)) Repeated (record { slot = change.slot; scheme = Some scheme }) ≡ Ok change
first_change before change scheme is fresh = rw (fresh, ← is) refl

pub scheme_line-spelled : (version : Version) (before : List SlotChange) (line : List ℕ) (change : SlotChange) (scheme : Scheme) → GivesScheme version line change
    → change.scheme ≡ Some scheme → checked_in version change.slot scheme ≡ Ok tt → is_changed change.slot before ≡ false → scheme_line version before line ≡ Ok change
scheme_line-spelled version before line change scheme gives is sound fresh =
    let same : gives.0 ≡ scheme = cc in
    scheme-read version line change.slot scheme _ (Ok change) (subst (IsScheme version line change.slot) same gives.2) (λ words said.
    then-Ok (scheme_in version words) _ (change.slot, scheme) (Ok change) said
    (then-Ok (refused_as BadScheme (checked_in version change.slot scheme)) _ tt (Ok change) (ap (refused_as BadScheme) sound) (first_change before change scheme is fresh)))
