-- Where lines lead from a place of a journal's text.
use Rattle.std.proofs.Common.{◌≡◌, ℕ, ◌+◌, ◌<◌, Bool, true, List, [], ◌∷◌, ◌++◌, length, Some, Ok, Err, refl, ap, ◌∙◌, length-append, arith}
use Rattle.std.specs.Prelude.{Option, option_and_then, if◌then◌else◌}
use Rattle.std.specs.Option.{ok_or}
use Rattle.script_lines.specs.Refusal.{◌>>=◌}
use Rattle.script_lines.specs.Words.{same_word}
use Rattle.journal_text.specs.EntryLine.{where_so}
use Rattle.journal_text.specs.Place.{AtAnswer, AtLast, InBlock, InEntries, InHead, InReceipts, JournalPlace, JournalRead}
use Rattle.journal_text.specs.Reading.{line_after, said_at_end, said_from}
use Rattle.journal_text.proofs.Common.{bind-Ok, if_ok, is_line, ok_some, same_line, then_some}

-- the place to which lines lead from another
abbrev pub leads_to : JournalPlace → List (List ℕ) → Option JournalPlace
leads_to place [] = Some place
leads_to place (line ∷ lines) = option_and_then (λ next. leads_to next lines) (line_after place line)

-- a line that leads on, before others
pub leads_by : (place next : JournalPlace) (line : List ℕ) (lines : List (List ℕ)) → line_after place line ≡ Some next → leads_to place (line ∷ lines) ≡ leads_to next lines
leads_by place next line lines is = ap (λ o. option_and_then (λ p. leads_to p lines) o) is

-- a place behind a test that passes
pub found : (test : Bool) (place : JournalPlace) → test ≡ true → where_so test place ≡ Some place
found test place is = ap (λ t. where_so t place) is

-- ---- a text that is read is lines that lead on, and the last bytes

-- a text ends with the last bytes that are wanted
record EndsText (place : JournalPlace) (bytes : List ℕ) (said : JournalRead) : Type 0 where
  last : List ℕ
  place_is : place ≡ AtLast said (last ∷ [])
  bytes_are : bytes ≡ last

-- a text that is read ends where they are wanted
ends_text : (n : ℕ) (place : JournalPlace) (bytes : List ℕ) (said : JournalRead) → said_at_end n place bytes ≡ Ok said → EndsText place bytes said
ends_text n (AtLast s (w ∷ [])) bytes said e =
    let is = if_ok (same_word bytes w) n s said e in
    record { last = w; place_is = ap (λ x. AtLast x (w ∷ [])) is.1; bytes_are = is_line bytes w is.0 }
ends_text n (AtLast s []) bytes said e = absurd cc
ends_text n (AtLast s (w ∷ v ∷ ws)) bytes said e = absurd cc
ends_text n (InHead p) bytes said e = absurd cc
ends_text n (InEntries v j) bytes said e = absurd cc
ends_text n (InBlock v j c commit) bytes said e = absurd cc
ends_text n (AtAnswer v j c call) bytes said e = absurd cc
ends_text n (InReceipts v j all) bytes said e = absurd cc

-- pieces are lines that lead to the last bytes, and these
pub record Led (place : JournalPlace) (pieces : List (List ℕ)) (said : JournalRead) : Type 0 where
  pub lines : List (List ℕ)
  pub last : List ℕ
  pub whole : pieces ≡ lines ++ last ∷ []
  pub lead : leads_to place lines ≡ Some (AtLast said (last ∷ []))

-- so it is with the pieces of a text that is read
pub said_led : (n : ℕ) (place : JournalPlace) (pieces : List (List ℕ)) (said : JournalRead) → 0 < length pieces → said_from n place pieces ≡ Ok said → Led place pieces said
said_led n place [] said some e = absurd (omega arith)
said_led n place (bytes ∷ []) said some e =
    let end = ends_text n place bytes said e in
    record { lines = []; last = end.last; whole = ap (λ l. l ∷ []) end.bytes_are; lead = ap (λ p. Some p) end.place_is }
said_led n place (line ∷ next ∷ more) said some e =
    let reached = bind-Ok (ok_or (line_after place line) n) (λ p. said_from (n + 1) p (next ∷ more)) said e in
    let others = said_led (n + 1) reached.0 (next ∷ more) said (omega arith) reached.2 in
    record {
      lines = line ∷ others.lines;
      last = others.last;
      whole = ap (λ ls. line ∷ ls) others.whole;
      lead = leads_by place reached.0 line others.lines (ok_some (line_after place line) n reached.0 reached.1) ∙ others.lead;
    }

-- ---- lines that lead on are read

-- a line with others behind it
said_more : (n : ℕ) (place : JournalPlace) (line : List ℕ) (lines : List (List ℕ)) → 0 < length lines
    → said_from n place (line ∷ lines) ≡ (ok_or (line_after place line) n >>= λ next. said_from (n + 1) next lines)
said_more n place line [] some = absurd (omega arith)
said_more n place line (next ∷ more) some = refl

-- each of the last lines is the one that is wanted
said_wanted : (n : ℕ) (said : JournalRead) (w : List ℕ) (ws : List (List ℕ)) → said_from n (AtLast said (w ∷ ws)) (w ∷ ws) ≡ Ok said
said_wanted n said w [] = ap (λ t. if t then Ok said else Err n) (same_line w)
said_wanted n said w (v ∷ ws) =
    ap (λ t. ok_or (where_so t (AtLast said (v ∷ ws))) n >>= λ p. said_from (n + 1) p (v ∷ ws)) (same_line w) ∙ said_wanted (n + 1) said v ws

-- the last lines are read where they are wanted
said_all : (n : ℕ) (said : JournalRead) (pieces : List (List ℕ)) → 0 < length pieces → said_from n (AtLast said pieces) pieces ≡ Ok said
said_all n said [] some = absurd (omega arith)
said_all n said (w ∷ ws) some = said_wanted n said w ws

-- lines that lead to the last ones are read, and then these
pub said_back : (n : ℕ) (place : JournalPlace) (lines wanted : List (List ℕ)) (said : JournalRead) → 0 < length wanted → leads_to place lines ≡ Some (AtLast said wanted) → said_from n place (lines ++ wanted) ≡ Ok said
said_back n place [] wanted said some e = let is : place ≡ AtLast said wanted = cc in ap (λ p. said_from n p wanted) is ∙ said_all n said wanted some
said_back n place (line ∷ lines) wanted said some e =
    let reached = then_some (line_after place line) (λ p. leads_to p lines) (AtLast said wanted) e in
    let more : 0 < length (lines ++ wanted) = omega (arith, some, length-append lines wanted) in
    said_more n place line (lines ++ wanted) more
    ∙ ap (λ o. ok_or o n >>= λ p. said_from (n + 1) p (lines ++ wanted)) reached.1
    ∙ said_back (n + 1) reached.0 lines wanted said some reached.2
