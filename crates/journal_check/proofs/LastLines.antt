-- The last lines of a text, compared with those that are wanted.
use Rattle.std.proofs.Common.{◌≡◌, ℕ, ◌+◌, ◌<◌, true, List, [], ◌∷◌, length, Bor, Err, refl, sym, ap, subst, ◌∙◌, arith}
use Rattle.std.specs.Prelude.{Option, Result}
use Rattle.std.specs.Option.{ok_or, option_copied}
use Rattle.line_text.specs.Parts.{parts, parts_left}
use Rattle.line_text.proofs.Lemmas.{parts_some}
use Rattle.script_lines.specs.Refusal.{◌>>=◌}
use Rattle.script_lines.specs.Words.{same_word}
use Rattle.run_journal.specs.declared.lawful.VerifyFault.{VerifyFault}
use Rattle.run_journal.specs.declared.lawful.VerifyFault.TheVariants.{Unlawful}
use Rattle.journal_text.specs.EntryLine.{where_so}
use Rattle.journal_check.specs.LinesLeft.{IsFault}
use Rattle.journal_text.specs.Place.{AtLast, JournalRead}
use Rattle.journal_text.specs.Reading.{said_from}

-- a text and the wanted one are split after their first lines
pub record AreSplit (text wanted line want : List ℕ) (lines wants : List (List ℕ)) : Type 0 where
  pub text_is : parts 10 text ≡ line ∷ lines
  pub wanted_is : parts 10 wanted ≡ want ∷ wants

-- so they are, where what is left of each is known
pub are_split : (text wanted line want : List ℕ) (left over rest after : Option (Bor (List ℕ))) → parts 10 text ≡ line ∷ parts_left 10 (option_copied left)
    → parts 10 wanted ≡ want ∷ parts_left 10 (option_copied over) → left ≡ rest → over ≡ after
    → AreSplit text wanted line want (parts_left 10 (option_copied rest)) (parts_left 10 (option_copied after))
are_split text wanted line want left over rest after first second rest_is after_is = record {
  text_is = first ∙ ap (λ (r : Option (Bor (List ℕ))). line ∷ parts_left 10 (option_copied r)) rest_is;
  wanted_is = second ∙ ap (λ (r : Option (Bor (List ℕ))). want ∷ parts_left 10 (option_copied r)) after_is;
}

-- what is said of them is said of their lines
split_said : (n : ℕ) (text wanted line want : List ℕ) (lines wants : List (List ℕ)) (said : JournalRead) → AreSplit text wanted line want lines wants
    → said_from n (AtLast said (parts 10 wanted)) (parts 10 text) ≡ said_from n (AtLast said (want ∷ wants)) (line ∷ lines)
split_said n text wanted line want lines wants said split =
    ap (λ ps. said_from n (AtLast said ps) (parts 10 text)) split.wanted_is ∙ ap (λ ps. said_from n (AtLast said (want ∷ wants)) ps) split.text_is

wanted_line : (n : ℕ) (said : JournalRead) (line want : List ℕ) (lines wants : List (List ℕ)) → 0 < length lines → 0 < length wants → same_word line want ≡ true
    → said_from n (AtLast said (want ∷ wants)) (line ∷ lines) ≡ said_from (n + 1) (AtLast said wants) lines
wanted_line n said line want [] wants some more e = absurd (omega arith)
wanted_line n said line want (next ∷ lines) [] some more e = absurd (omega arith)
wanted_line n said line want (next ∷ lines) (v ∷ wants) some more e = ap (λ t. ok_or (where_so t (AtLast said (v ∷ wants))) n >>= λ p. said_from (n + 1) p (next ∷ lines)) e

-- after the wanted line the lines after it are compared
pub goes_on : (n : ℕ) (text wanted line want rest after : List ℕ) → AreSplit text wanted line want (parts 10 rest) (parts 10 after) → same_word line want ≡ true
    → (said : JournalRead) → said_from n (AtLast said (parts 10 wanted)) (parts 10 text) ≡ said_from (n + 1) (AtLast said (parts 10 after)) (parts 10 rest)
goes_on n text wanted line want rest after split e said =
    split_said n text wanted line want (parts 10 rest) (parts 10 after) said split
    ∙ wanted_line n said line want (parts 10 rest) (parts 10 after) (parts_some 10 rest) (parts_some 10 after) e

text_ends : (n : ℕ) (said : JournalRead) (line want : List ℕ) (wants : List (List ℕ)) → 0 < length wants → said_from n (AtLast said (want ∷ wants)) (line ∷ []) ≡ Err n
text_ends n said line want [] more = absurd (omega arith)
text_ends n said line want (v ∷ wants) more = refl

-- where the text alone ends, its last line is rejected
pub ends_before : (n : ℕ) (text wanted line want after : List ℕ) → AreSplit text wanted line want [] (parts 10 after)
    → (said : JournalRead) → said_from n (AtLast said (parts 10 wanted)) (parts 10 text) ≡ Err n
ends_before n text wanted line want after split said =
    split_said n text wanted line want [] (parts 10 after) said split ∙ text_ends n said line want (parts 10 after) (parts_some 10 after)

text_goes_on : (n : ℕ) (said : JournalRead) (line want : List ℕ) (lines : List (List ℕ)) → 0 < length lines → said_from n (AtLast said (want ∷ [])) (line ∷ lines) ≡ Err n
text_goes_on n said line want [] some = absurd (omega arith)
text_goes_on n said line want (next ∷ lines) some = refl

-- where the wanted one alone ends, the line is rejected
pub ends_after : (n : ℕ) (text wanted line want rest : List ℕ) → AreSplit text wanted line want (parts 10 rest) []
    → (said : JournalRead) → said_from n (AtLast said (parts 10 wanted)) (parts 10 text) ≡ Err n
ends_after n text wanted line want rest split said =
    split_said n text wanted line want (parts 10 rest) [] said split ∙ text_goes_on n said line want (parts 10 rest) (parts_some 10 rest)

-- the fault that is returned is that of the text
pub fault_is : (fault : VerifyFault) (n : ℕ) (said : Result JournalRead ℕ) → fault ≡ Unlawful n → said ≡ Err n → IsFault fault said
fault_is fault n said is e = subst (λ (f : VerifyFault). IsFault f said) (sym is) e
