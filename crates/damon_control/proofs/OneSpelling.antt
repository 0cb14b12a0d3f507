-- The lines of schemes in each kind of text: in a journal each is the one that is written of its change.
use Rattle.std.proofs.Common.{◌≡◌, ◌∷◌, [], ℕ, Bool, true, false, List, map, Ok, refl, sym, ap, ◌∙◌}
use Rattle.std.specs.Prelude.{Result}
use Rattle.std.specs.Cmp.Lexicographic.{bytes_decides, same_text}
use Rattle.damon_types.specs.declared.scheme.SlotChange.{SlotChange}
use Rattle.damon_types.specs.declared.scheme.Version.{Version}
use Rattle.damon_control.specs.declared.grammar.Grammar.{Grammar}
use Rattle.damon_control.specs.declared.grammar.Grammar.TheVariants.{OfScript, OfLive, OfJournal}
use Rattle.script_lines.specs.declared.kind.ScriptKind.{ScriptKind}
use Rattle.script_lines.specs.declared.kind.ScriptKind.TheVariants.{Form}
use Rattle.script_lines.specs.Head.{scheme_line}
use Rattle.script_lines.specs.Refusal.{◌>>=◌, only_if}
use Rattle.script_lines.specs.Words.{same_word}
use Rattle.script_lines.specs.WrittenLine.{change_text}
use Rattle.damon_control.specs.Script.{scheme_line_in}
use Rattle.damon_control.specs.Text.{EachSays, SaysSlot}
use Rattle.damon_control.proofs.Steps.{bind-Ok, only_if-Ok}

-- the line of a change is in its one spelling, where the grammar wants it
abbrev pub IsSpelledFor : Grammar → List ℕ → SlotChange → Type 0
IsSpelledFor OfScript line change = Unit {0}
IsSpelledFor OfLive line change = Unit {0}
IsSpelledFor OfJournal line change = line ≡ change_text change

-- a change, if the line is the one that is written of it
abbrev compared : List ℕ → SlotChange → Result SlotChange ScriptKind
compared line change = only_if (same_word line (change_text change)) Form change

-- a line of schemes of any text says what it says alone
pub scheme_in-Ok : (g : Grammar) (version : Version) (before : List SlotChange) (line : List ℕ) (c : SlotChange) → scheme_line_in g version before line ≡ Ok c → scheme_line version before line ≡ Ok c
scheme_in-Ok OfScript version before line c e = e
scheme_in-Ok OfLive version before line c e = e
scheme_in-Ok OfJournal version before line c e =
    let said = bind-Ok (scheme_line version before line) (compared line) c e in
    said.1 ∙ ap (λ d. Ok d) (only_if-Ok (same_word line (change_text said.0)) Form said.0 c said.2).1

-- and is in its one spelling, where the grammar wants it
pub scheme_in-spelled : (g : Grammar) (version : Version) (before : List SlotChange) (line : List ℕ) (c : SlotChange) → scheme_line_in g version before line ≡ Ok c → IsSpelledFor g line c
scheme_in-spelled OfScript version before line c e = tt
scheme_in-spelled OfLive version before line c e = tt
scheme_in-spelled OfJournal version before line c e =
    let said = bind-Ok (scheme_line version before line) (compared line) c e in
    let passes = only_if-Ok (same_word line (change_text said.0)) Form said.0 c said.2 in
    same_text line (change_text said.0) (sym passes.0) ∙ ap change_text passes.1

passed : (test : Bool) (change : SlotChange) → test ≡ true → only_if test Form change ≡ Ok change
passed true change is = refl
passed false change is = absurd cc

-- a line that is read alone, and in the spelling that the grammar wants, is read in the text
pub scheme_in-read : (g : Grammar) (version : Version) (before : List SlotChange) (line : List ℕ) (c : SlotChange) → scheme_line version before line ≡ Ok c → IsSpelledFor g line c → scheme_line_in g version before line ≡ Ok c
scheme_in-read OfScript version before line c read spelled = read
scheme_in-read OfLive version before line c read spelled = read
scheme_in-read OfJournal version before line c read spelled =
    ap (λ (r : Result SlotChange ScriptKind). r >>= compared line) read
    ∙ passed (same_word line (change_text c)) c ((bytes_decides line (change_text c)).1 spelled)

written_for : (g : Grammar) (c : SlotChange) → IsSpelledFor g (change_text c) c
written_for OfScript c = tt
written_for OfLive c = tt
written_for OfJournal c = refl

-- the lines that are written of changes are in their one spelling
pub each_written_for : (g : Grammar) (changes : List SlotChange) → EachSays (IsSpelledFor g) (map change_text changes) changes
each_written_for g [] = tt
each_written_for g (c ∷ changes) = (written_for g c, each_written_for g changes)

-- where the grammar wants no spelling, a line for each change is enough
pub each_in_any : (g : Grammar) → ((line : List ℕ) (c : SlotChange) → IsSpelledFor g line c) → (lines : List (List ℕ)) (changes : List SlotChange) → EachSays SaysSlot lines changes → EachSays (IsSpelledFor g) lines changes
each_in_any g any [] [] give = tt
each_in_any g any (line ∷ lines) (c ∷ changes) give = (any line c, each_in_any g any lines changes give.1)
each_in_any g any [] (c ∷ changes) give = absurd give
each_in_any g any (line ∷ lines) [] give = absurd give

-- lines in their one spelling are those that are written
pub each_is_written : (lines : List (List ℕ)) (changes : List SlotChange) → EachSays (IsSpelledFor OfJournal) lines changes → lines ≡ map change_text changes
each_is_written [] [] each = refl
each_is_written (line ∷ lines) (c ∷ changes) each = λ i. each.0 i ∷ each_is_written lines changes each.1 i
each_is_written [] (c ∷ changes) each = absurd each
each_is_written (line ∷ lines) [] each = absurd each
