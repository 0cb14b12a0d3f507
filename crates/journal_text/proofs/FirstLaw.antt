-- What is read from a text is lawful, and the text is its text.
use Rattle.std.proofs.Common.{◌≡◌, ℕ, ◌<◌, List, [], ◌∷◌, ◌++◌, codes, length, Ok, refl, sym, ap, ◌∙◌, subst, append_assoc, append-nil, arith}
use Rattle.damon_types.specs.Space.{pages_of}
use Rattle.line_text.specs.Parts.{joined, parts}
use Rattle.line_text.proofs.Lemmas.{joined-parts, parts_clean, parts_some}
use Rattle.script_lines.specs.Lines.{lines_text}
use Rattle.script_lines.proofs.Lemmas.{joined_before, lines_text-append, parts_before}
use Rattle.damon_core.specs.InPhase.{IsInPhase}
use Rattle.damon_core.specs.Reached.{CanOpen, Reached}
use Rattle.damon_core.specs.State.{State}
use Rattle.damon_control.specs.declared.grammar.Grammar.TheVariants.{OfJournal}
use Rattle.damon_control.specs.JournalHead.{head_lines}
use Rattle.damon_control.specs.Script.{AtHeader, head_of, reads}
use Rattle.damon_control.proofs.Lemmas.{heads_read_only, heads_writable}
use Rattle.run_journal.specs.Lawful.{IsLawful}
use Rattle.journal_text.specs.Place.{AtLast, InEntries, InHead, JournalRead, uncalled}
use Rattle.run_journal.specs.Replay.{replay}
use Rattle.run_journal.specs.Room.{nothing_said}
use Rattle.journal_text.specs.Rules.{KeepsRules, ReadsOnlyLawful}
use Rattle.run_journal.specs.Steps.{steps}
use Rattle.journal_text.specs.Text.{journal_lines, journal_text, last_text, seen_lines, settled_lines}
use Rattle.journal_text.proofs.AllRead.{none_called}
use Rattle.journal_text.proofs.Common.{Pieces, pieces_front}
use Rattle.journal_text.proofs.EntriesSay.{CanSpell, SayLast}
use Rattle.journal_text.proofs.HeadSay.{head_led}
use Rattle.journal_text.proofs.Leading.{Led, said_led}
use Rattle.journal_text.proofs.LinesSay.{lines_say}
use Rattle.journal_text.proofs.NumbersRead.{read_fit}
use Rattle.journal_text.proofs.SeenSay.{all_seen}

-- what was read is lawful, and this is its text
record IsReadText (text : List ℕ) (said : JournalRead) : Type 0 where
  lawful : IsLawful said.live said.journal said.receipts
  can : CanSpell said.live
  rules : KeepsRules said.journal said.receipts
  spelled : text ≡ journal_text said.live said.journal said.receipts

-- the lines up to `settled`, and those after it
settled_and : (own entries seen shown : List (List ℕ)) → own ++ (entries ++ codes "receipts" ∷ (seen ++ codes "settled" ∷ shown)) ≡ (own ++ (entries ++ codes "receipts" ∷ (seen ++ codes "settled" ∷ []))) ++ shown
settled_and own entries seen shown = simp append_assoc

-- a text that is read is the text of what was read
read_text : (text : List ℕ) (said : JournalRead) → Led (InHead AtHeader) (parts 10 text) said → IsReadText text said
read_text text said led =
    let some : 0 < length (led.last ∷ []) = omega arith in
    let head = head_led AtHeader led.lines said (led.last ∷ []) led.lead in
    let pieces : Pieces (led.lines ++ led.last ∷ []) = subst Pieces led.whole (parts_clean 10 text) in
    let front : Pieces head.front = pieces_front head.front head.body (subst Pieces head.split (pieces_front led.lines (led.last ∷ []) pieces)) in
    let h = head.head in
    let apart : parts 10 (lines_text head.front ++ []) ≡ head.front ++ [] ∷ [] = parts_before head.front [] front in
    let is_head : head_of (lines_text head.front ++ []) ≡ Ok h = ap (reads OfJournal 1 AtHeader) apart ∙ head.read 1 in
    let says : SayLast (head_lines h.seed h.setup) head.body said (led.last ∷ []) =
    lines_say (head_lines h.seed h.setup) [] (InEntries (uncalled h) nothing_said) head.body (AtLast said (led.last ∷ []))
    (refl, record { journal = record { fit = tt; none_left = refl }; head_is = refl; four = refl; turn = record { turn = tt; next = refl }; can = (heads_writable (lines_text head.front ++ []) h is_head, λ c i call there. absurd (none_called c i call there)) })
    head.lead
    in
    let v = said.live in
    let sound = says.sound in
    let own = head_lines v.seed v.setup in
    let entries = journal_lines v said.journal in
    let seen = seen_lines v.setup.space 0 said.receipts in
    let shown = says.shown in
    let all = settled_lines v said.journal said.receipts in
    let heads : lines_text head.front ≡ lines_text own =
    sym (append-nil (lines_text head.front)) ∙ heads_read_only (lines_text head.front ++ []) h is_head ∙ ap lines_text (sym sound.before.head_is)
    in
    let lines : lines_text (head.front ++ head.body) ≡ lines_text all ++ lines_text shown =
    lines_text-append head.front head.body
    ∙ (λ i. heads i ++ lines_text (says.spelled i))
    ∙ sym (lines_text-append own (entries ++ codes "receipts" ∷ (seen ++ codes "settled" ∷ shown)))
    ∙ ap lines_text (settled_and own entries seen shown)
    ∙ lines_text-append all shown
    in
    let ends : lines_text shown ++ led.last ≡ last_text (replay v said.journal).state =
    sym (joined_before shown (led.last ∷ []) some) ∙ ap (joined 10) says.rest ∙ joined-parts 10 (last_text (replay v said.journal).state)
    in
    record {
      lawful = record { journal = sound.before.journal; idle = sound.idle; receipts = all_seen (pages_of v.setup.space) (steps v said.journal) said.receipts sound.seen says.received };
      can = sound.before.can;
      rules = record { turn = sound.before.turn.turn; workers = sound.workers };
      spelled =
          sym (joined-parts 10 text)
          ∙ ap (joined 10) (led.whole ∙ ap (λ ls. ls ++ led.last ∷ []) head.split)
          ∙ joined_before (head.front ++ head.body) (led.last ∷ []) some
          ∙ ap (λ t. t ++ led.last) lines
          ∙ append_assoc (lines_text all) (lines_text shown) led.last
          ∙ ap (λ t. lines_text all ++ t) ends;
    }

-- each text that is read is the text of a lawful journal
pub journals_read_only : ((s : State) → Reached s → IsInPhase s) → ReadsOnlyLawful
journals_read_only in_phase text said few e =
    let is = read_text text said (said_led 1 (InHead AtHeader) (parts 10 text) said (parts_some 10 text) e) in
    let opens : CanOpen said.live.setup = record { space = is.can.0.space; sound = is.can.0.setup; order = is.can.0.order } in
    let fit = read_fit in_phase text said.live said.journal said.receipts opens is.can.1 is.rules.turn is.lawful is.spelled few in
    record {
      lawful = is.lawful;
      spellable = record { setup = is.can.0; calls = is.can.1; rules = is.rules; numbers = fit.numbers; tags = fit.tags };
      spelled = is.spelled;
    }
