-- What the reading of the head tells of a journal text.
use Rattle.std.proofs.Common.{◌≡◌, ◌⊎◌, inl, inr, ℕ, ◌+◌, ◌-◌, ◌<◌, ◌==◌, ◌||◌, Bool, true, false, List, [], ◌∷◌, ◌++◌, codes, length, take, Ok, Err, refl, sym, ap, ◌∙◌, subst, append-nil, append_assoc, length-append, arith}
use Rattle.std.proofs.Math.Seq.{take-append_seam}
use Rattle.std.specs.Prelude.{Result, if◌then◌else◌}
use Rattle.std.specs.List.{AllByRecursion}
use Rattle.std.specs.Option.{ok_or}
use Rattle.damon_types.specs.declared.range.RangeSpec.{RangeSpec}
use Rattle.damon_types.specs.declared.scheme.SlotChange.{SlotChange}
use Rattle.damon_types.specs.declared.space.Target.{Target}
use Rattle.line_text.specs.Parts.{joined, parts}
use Rattle.line_text.proofs.Lemmas.{joined-parts, parts_clean, parts_some}
use Rattle.script_lines.specs.declared.kind.ScriptKind.{ScriptKind}
use Rattle.script_lines.specs.declared.kind.ScriptKind.TheVariants.{After, Header, Word}
use Rattle.script_lines.specs.declared.setup.Frame.{Frame}
use Rattle.script_lines.specs.Head.{attrs_line, cap_line, range_line, seed_line, target_line, unit_line}
use Rattle.script_lines.specs.Lines.{lines_text}
use Rattle.script_lines.specs.Refusal.{◌>>=◌}
use Rattle.script_lines.specs.Words.{alone, begins_with, same_word}
use Rattle.script_lines.proofs.Lemmas.{alone-Ok, joined_before, parts_before}
use Rattle.damon_control.specs.declared.grammar.Grammar.TheVariants.{OfJournal}
use Rattle.damon_control.specs.JournalHead.{head_at}
use Rattle.damon_control.specs.Script.{AtAttrs, AtCap, AtEnd, AtHeader, AtRanges, AtSchemes, AtSeed, AtTargets, AtUnit, HeadValue, InBody, InCommit, Place, after_ranges, after_schemes, after_setup, at, at_text_end, head_of, place_after, reads, scheme_line_in, version_said}
use Rattle.journal_check.specs.declared.journal_lines.JournalLines.{JournalLines}
use Rattle.journal_check.specs.EndsOfText.{IsOther, Tells, said_after_head}
use Rattle.journal_check.specs.LinesLeft.{lines_left}
use Rattle.journal_text.specs.Place.{InEntries, InHead, JournalPlace, JournalRead, after_head, uncalled}
use Rattle.journal_text.specs.Reading.{after_head_line, read_journal, said_at_end, said_from}
use Rattle.run_journal.specs.Room.{nothing_said}
use Rattle.journal_text.proofs.Lemmas.{Pieces, bind-Ok, either_way, pieces_front, head_cases}

-- ---- the line `begin` and others

-- the line `begin`
abbrev begin : List ℕ
begin = codes "begin"

-- a line ends the head or is rejected
abbrev EndsHead : Result (Place OfJournal) ScriptKind → Type 0
EndsHead r = ((h : HeadValue) × (r ≡ Ok (AtEnd h))) ⊎ ((kind : ScriptKind) × (r ≡ Err kind))

either_ends : (test : Bool) (r s : Result (Place OfJournal) ScriptKind) → EndsHead r → EndsHead s → EndsHead (if test then r else s)
either_ends true r s first second = first
either_ends false r s first second = second

schemes_end : (f : Frame) (targets : List Target) (ranges : List RangeSpec) (slots : List SlotChange) → EndsHead (after_schemes OfJournal f targets ranges slots begin)
schemes_end f targets ranges slots = inl (head_at f targets ranges slots, refl)

ranges_end : (f : Frame) (targets : List Target) (ranges : List RangeSpec) → EndsHead (after_ranges OfJournal f targets ranges begin)
ranges_end f targets ranges =
    either_ends (length ranges == 0) (range_line f targets ranges begin >>= λ range. Ok (AtRanges f targets (ranges ++ range ∷ [])))
    (after_schemes OfJournal f targets ranges [] begin) (inr (Word, refl)) (schemes_end f targets ranges [])

-- so does `begin`, wherever it stands
begin_ends : (p : Place OfJournal) → EndsHead (place_after OfJournal p begin)
begin_ends AtHeader = inr (Header, refl)
begin_ends (AtSeed version) = inr (Word, refl)
begin_ends (AtUnit version seed) = inr (Word, refl)
begin_ends (AtCap version seed unit) = inr (Word, refl)
begin_ends (AtAttrs version seed unit cap) = inr (Word, refl)
begin_ends (AtTargets f targets) =
    either_ends (length targets == 0) (target_line targets begin >>= λ target. Ok (AtTargets f (targets ++ target ∷ [])))
    (after_ranges OfJournal f targets [] begin) (inr (Word, refl)) (ranges_end f targets [])
begin_ends (AtRanges f targets ranges) = ranges_end f targets ranges
begin_ends (AtSchemes f targets ranges slots) = schemes_end f targets ranges slots
begin_ends (InBody b) = absurd b
begin_ends (InCommit b commit) = absurd b
begin_ends (AtEnd h) = inr (After, refl)

-- whether a place is the end of the head
abbrev is_end : Place OfJournal → Bool
is_end (AtEnd h) = true
is_end _ = false

-- the same of the place after a line
abbrev ends_there : Result (Place OfJournal) ScriptKind → Bool
ends_there (Ok p) = is_end p
ends_there (Err kind) = false

-- a line that leads to another place does not end the head
not_there : {A G : Type 0} (r : Result A ScriptKind) (to : A → Place OfJournal) (h : HeadValue) → ((x : A) → is_end (to x) ≡ false) → (r >>= λ x. Ok (to x)) ≡ Ok (AtEnd h) → G
not_there (Err kind) to h other e = absurd cc
not_there (Ok x) to h other e = let clash : false ≡ true = sym (other x) ∙ ap ends_there e in absurd cc

-- only `begin` ends the head
module _ (line : List ℕ) (h : HeadValue) where
  at_setup : (f : Frame) (targets : List Target) (ranges : List RangeSpec) (slots : List SlotChange) → after_setup OfJournal f targets ranges slots line ≡ Ok (AtEnd h) → line ≡ begin
  at_setup f targets ranges slots e = alone-Ok begin line (bind-Ok (alone begin line) (λ _. Ok (AtEnd (head_at f targets ranges slots))) (AtEnd h) e).1

  at_schemes : (f : Frame) (targets : List Target) (ranges : List RangeSpec) (slots : List SlotChange) → after_schemes OfJournal f targets ranges slots line ≡ Ok (AtEnd h) → line ≡ begin
  at_schemes f targets ranges slots e =
      either_way (begins_with (codes "scheme") line) _ _ _ (not_there (scheme_line_in OfJournal f.version slots line) (λ change. AtSchemes f targets ranges (slots ++ change ∷ [])) h (λ x. refl))
      (at_setup f targets ranges slots) e

  at_ranges : (f : Frame) (targets : List Target) (ranges : List RangeSpec) → after_ranges OfJournal f targets ranges line ≡ Ok (AtEnd h) → line ≡ begin
  at_ranges f targets ranges e =
      either_way (begins_with (codes "range") line || (length ranges == 0)) _ _ _ (not_there (range_line f targets ranges line) (λ range. AtRanges f targets (ranges ++ range ∷ [])) h (λ x. refl))
      (at_schemes f targets ranges []) e

  only_begin_ends : (p : Place OfJournal) → place_after OfJournal p line ≡ Ok (AtEnd h) → line ≡ begin
  only_begin_ends AtHeader e = not_there (version_said OfJournal line) (λ version. AtSeed version) h (λ x. refl) e
  only_begin_ends (AtSeed version) e = not_there (seed_line line) (λ seed. AtUnit version seed) h (λ x. refl) e
  only_begin_ends (AtUnit version seed) e = not_there (unit_line line) (λ unit. AtCap version seed unit) h (λ x. refl) e
  only_begin_ends (AtCap version seed unit) e = not_there (cap_line line) (λ cap. AtAttrs version seed unit cap) h (λ x. refl) e
  only_begin_ends (AtAttrs version seed unit cap) e =
      not_there (attrs_line cap line) (λ attrs. AtTargets (record { version = version; seed = seed; unit = unit; cap = cap; attrs = attrs }) []) h (λ x. refl) e
  only_begin_ends (AtTargets f targets) e =
      either_way (begins_with (codes "target") line || (length targets == 0)) _ _ _ (not_there (target_line targets line) (λ target. AtTargets f (targets ++ target ∷ [])) h (λ x. refl))
      (at_ranges f targets []) e
  only_begin_ends (AtRanges f targets ranges) e = at_ranges f targets ranges e
  only_begin_ends (AtSchemes f targets ranges slots) e = at_schemes f targets ranges slots e
  only_begin_ends (InBody b) e = absurd b
  only_begin_ends (InCommit b commit) e = absurd b
  only_begin_ends (AtEnd s) e = absurd cc

-- after any other line that is read the head goes on
goes_on : (p q : Place OfJournal) (line : List ℕ) → IsOther line → place_after OfJournal p line ≡ Ok q → after_head q ≡ InHead q
goes_on p q line other e = by (head_cases q)
  where
    by : ((h : HeadValue) × (q ≡ AtEnd h)) ⊎ (after_head q ≡ InHead q) → after_head q ≡ InHead q
    by (inl (h, is)) =
        let ends : place_after OfJournal p line ≡ Ok (AtEnd h) = e ∙ ap (λ x. Ok x) is in
        let same : line ≡ begin = only_begin_ends line h p ends in
        let clash : true ≡ false = ap (λ l. same_word l begin) (sym same) ∙ other in
        absurd cc
    by (inr is) = is

-- ---- along the lines

-- what is said from a line on after a head
abbrev after_begin : ℕ → List (List ℕ) → HeadValue → Result JournalRead ℕ
after_begin n lines head = said_from n (InEntries (uncalled head) nothing_said) lines

step_tells : (n : ℕ) (r : Result (Place OfJournal) ScriptKind) (pieces lines : List (List ℕ)) (after : HeadValue → Result JournalRead ℕ)
    → ((q : Place OfJournal) → r ≡ Ok q → Tells (reads OfJournal (n + 1) q pieces) after (said_from (n + 1) (after_head q) lines))
    → Tells (at n r >>= λ q. reads OfJournal (n + 1) q pieces) after (ok_or (after_head_line r) n >>= λ next. said_from (n + 1) next lines)
step_tells n (Err kind) pieces lines after on = refl
step_tells n (Ok q) pieces lines after on = on q refl

-- a line of the head is read in the same way in both
line_tells : (n : ℕ) (p : Place OfJournal) (line : List ℕ) (pieces lines : List (List ℕ)) (after : HeadValue → Result JournalRead ℕ) → 0 < length pieces → 0 < length lines
    → ((q : Place OfJournal) → place_after OfJournal p line ≡ Ok q → Tells (reads OfJournal (n + 1) q pieces) after (said_from (n + 1) (after_head q) lines))
    → Tells (reads OfJournal n p (line ∷ pieces)) after (said_from n (InHead p) (line ∷ lines))
line_tells n p line [] lines after some more on = absurd (omega arith)
line_tells n p line (x ∷ pieces) [] after some more on = absurd (omega arith)
line_tells n p line (x ∷ pieces) (y ∷ lines) after some more on = step_tells n (place_after OfJournal p line) (x ∷ pieces) (y ∷ lines) after on

one_result : {A E : Type 0} (r : Result A E) (x y : A) → r ≡ Ok x → r ≡ Ok y → x ≡ y
one_result r x y first second = cc

not_both : {A E G : Type 0} (r : Result A E) (x : A) (why : E) → r ≡ Ok x → r ≡ Err why → G
not_both r x why good bad = absurd cc

-- after `begin` the entries follow
entries_follow : (n m : ℕ) (p q : Place OfJournal) (more : List (List ℕ)) → m ≡ n + 1 → place_after OfJournal p begin ≡ Ok q
    → Tells (reads OfJournal (n + 1) q ([] ∷ [])) (after_begin m more) (said_from (n + 1) (after_head q) more)
entries_follow n m p q more is e = by (begin_ends p)
  where
    by : EndsHead (place_after OfJournal p begin) → Tells (reads OfJournal (n + 1) q ([] ∷ [])) (after_begin m more) (said_from (n + 1) (after_head q) more)
    by (inl (h, ends)) =
        let there : AtEnd h ≡ q = one_result (place_after OfJournal p begin) (AtEnd h) q ends e in
        let told : said_from (n + 1) (InEntries (uncalled h) nothing_said) more ≡ after_begin m more h = ap (λ k. said_from k (InEntries (uncalled h) nothing_said) more) (sym is) in
        subst (λ (x : Place OfJournal). Tells (reads OfJournal (n + 1) x ([] ∷ [])) (after_begin m more) (said_from (n + 1) (after_head x) more)) there told
    by (inr (kind, fails)) = not_both (place_after OfJournal p begin) q kind e fails

-- the lines of a head up to the first `begin`
begin_tells : (n m : ℕ) (p : Place OfJournal) (front more : List (List ℕ)) → 0 < length more → AllByRecursion IsOther front → m ≡ n + length front + 1
    → Tells (reads OfJournal n p (front ++ begin ∷ [] ∷ [])) (after_begin m more) (said_from n (InHead p) (front ++ begin ∷ more))
begin_tells n m p [] more some others is = line_tells n p begin ([] ∷ []) more (after_begin m more) (omega arith) some (λ q e. entries_follow n m p q more (omega arith) e)
begin_tells n m p (line ∷ front) more some others is =
    let pieces : List (List ℕ) = front ++ begin ∷ [] ∷ [] in
    let lines : List (List ℕ) = front ++ begin ∷ more in
    line_tells n p line pieces lines (after_begin m more) (omega (arith, length-append front (begin ∷ [] ∷ []))) (omega (arith, length-append front (begin ∷ more))) (λ q e.
    subst (λ (place : JournalPlace). Tells (reads OfJournal (n + 1) q pieces) (after_begin m more) (said_from (n + 1) place lines)) (sym (goes_on p q line others.0 e))
    (begin_tells (n + 1) m q front more some others.1 (omega arith)))

-- a head that has not ended is cut, and so is the text
cut_tells : (n : ℕ) (p : Place OfJournal) (last : List ℕ) (after : HeadValue → Result JournalRead ℕ) → after_head p ≡ InHead p → Tells (at_text_end OfJournal n p last) after (said_at_end n (InHead p) last)
cut_tells n AtHeader last after goes = refl
cut_tells n (AtSeed version) last after goes = refl
cut_tells n (AtUnit version seed) last after goes = refl
cut_tells n (AtCap version seed unit) last after goes = refl
cut_tells n (AtAttrs version seed unit cap) last after goes = refl
cut_tells n (AtTargets f targets) last after goes = refl
cut_tells n (AtRanges f targets ranges) last after goes = refl
cut_tells n (AtSchemes f targets ranges slots) last after goes = refl
cut_tells n (InBody b) last after goes = absurd b
cut_tells n (InCommit b commit) last after goes = absurd b
cut_tells n (AtEnd h) last after goes = absurd cc

-- the lines of a text without `begin`
others_tell : (n : ℕ) (p : Place OfJournal) (front : List (List ℕ)) (last : List ℕ) (after : HeadValue → Result JournalRead ℕ) → AllByRecursion IsOther front → after_head p ≡ InHead p
    → Tells (reads OfJournal n p (front ++ last ∷ [])) after (said_from n (InHead p) (front ++ last ∷ []))
others_tell n p [] last after others goes = cut_tells n p last after goes
others_tell n p (line ∷ front) last after others goes =
    let lines : List (List ℕ) = front ++ last ∷ [] in
    let some : 0 < length lines = omega (arith, length-append front (last ∷ [])) in
    line_tells n p line lines lines after some some (λ q e.
    let on : after_head q ≡ InHead q = goes_on p q line others.0 e in
    subst (λ (place : JournalPlace). Tells (reads OfJournal (n + 1) q lines) after (said_from (n + 1) place lines)) (sym on) (others_tell (n + 1) q front last after others.1 on))

-- ---- the text of the head

-- a text is that of its head and the rest, and these are the pieces of its head
pub record HasHead (bytes rest : List ℕ) (front : List (List ℕ)) : Type 0 where
  pub whole : bytes ≡ lines_text (front ++ begin ∷ []) ++ rest
  pub pieces : parts 10 (lines_text (front ++ begin ∷ [])) ≡ front ++ begin ∷ [] ∷ []

pub has_head : (bytes rest : List ℕ) (front : List (List ℕ)) → parts 10 bytes ≡ front ++ begin ∷ parts 10 rest → HasHead bytes rest front
has_head bytes rest front split =
    let lines : List (List ℕ) = front ++ begin ∷ [] in
    let none : List ℕ = [] in
    let seam : front ++ begin ∷ parts 10 rest ≡ lines ++ parts 10 rest = sym (append_assoc front (begin ∷ []) (parts 10 rest)) in
    let each : Pieces lines = pieces_front lines (parts 10 rest) (subst Pieces (split ∙ seam) (parts_clean 10 bytes)) in
    record {
      whole =
          sym (joined-parts 10 bytes) ∙ ap (joined 10) (split ∙ seam) ∙ joined_before lines (parts 10 rest) (parts_some 10 rest)
          ∙ ap (λ t. lines_text lines ++ t) (joined-parts 10 rest);
      pieces = ap (parts 10) (sym (append-nil (lines_text lines))) ∙ parts_before lines none each ∙ append_assoc front (begin ∷ []) ([] ∷ []);
    }

-- what a text begins with, before its rest
pub taken_front : (bytes front rest : List ℕ) → bytes ≡ front ++ rest → take (length bytes - length rest) bytes ≡ front
taken_front bytes front rest is =
    let count : length bytes - length rest ≡ length front = omega (arith, ap length is, length-append front rest) in
    ap (λ n. take n bytes) count ∙ ap (take (length front)) is ∙ take-append_seam front rest

-- ---- the whole text

-- a text with a line `begin`
pub text_tells : (bytes head : List ℕ) (lines : JournalLines) (front : List (List ℕ)) → parts 10 bytes ≡ front ++ begin ∷ lines_left lines
    → AllByRecursion IsOther front → lines.taken ≡ length front + 1 → head ≡ lines_text (front ++ begin ∷ []) → Tells (head_of head) (said_after_head lines) (read_journal bytes)
text_tells bytes head lines front split others number is =
    let pieces : parts 10 head ≡ front ++ begin ∷ [] ∷ [] = ap (parts 10) is ∙ (has_head bytes lines.rest.now front split).pieces in
    let told : Tells (reads OfJournal 1 AtHeader (front ++ begin ∷ [] ∷ [])) (said_after_head lines) (said_from 1 (InHead AtHeader) (front ++ begin ∷ lines_left lines)) =
    begin_tells 1 (lines.taken + 1) AtHeader front (lines_left lines) (parts_some 10 lines.rest.now) others (omega arith) in
    let whole : Tells (reads OfJournal 1 AtHeader (front ++ begin ∷ [] ∷ [])) (said_after_head lines) (read_journal bytes) =
    subst (λ (ps : List (List ℕ)). Tells (reads OfJournal 1 AtHeader (front ++ begin ∷ [] ∷ [])) (said_after_head lines) (said_from 1 (InHead AtHeader) ps)) (sym split) told in
    subst (λ (ps : List (List ℕ)). Tells (reads OfJournal 1 AtHeader ps) (said_after_head lines) (read_journal bytes)) (sym pieces) whole

-- a text without one
pub others_text_tells : (bytes last : List ℕ) (front : List (List ℕ)) (after : HeadValue → Result JournalRead ℕ) → parts 10 bytes ≡ front ++ last ∷ [] → AllByRecursion IsOther front
    → Tells (head_of bytes) after (read_journal bytes)
others_text_tells bytes last front after split others =
    subst (λ (ps : List (List ℕ)). Tells (reads OfJournal 1 AtHeader ps) after (said_from 1 (InHead AtHeader) ps)) (sym split) (others_tell 1 AtHeader front last after others refl)
