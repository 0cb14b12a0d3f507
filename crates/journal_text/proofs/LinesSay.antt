-- Lines that lead from the first entry of a journal are those of the journal and the receipts that were read.
use Rattle.std.proofs.Common.{◌≡◌, ℕ, zero, suc, ◌+◌, ◌-◌, ◌≤◌, ◌<◌, ◌&&◌, List, [], ◌∷◌, ◌++◌, codes, length, map, Some, None, Ok, Err, refl, sym, ap, ◌∙◌, subst, append_assoc, append-nil, arith}
use Rattle.std.proofs.lemmas.List.{map-append}
use Rattle.std.specs.Prelude.{Result, replicate, if◌then◌else◌}
use Rattle.std.specs.List.{list_all}
use Rattle.damon_types.specs.declared.space.Target.{Target}
use Rattle.damon_types.specs.Space.{page_of, pages_of}
use Rattle.damon_types.proofs.Lemmas.{page_of-below}
use Rattle.line_text.specs.Parts.{parts}
use Rattle.script_lines.specs.declared.kind.ScriptKind.{ScriptKind}
use Rattle.script_lines.specs.Refusal.{◌>>=◌}
use Rattle.script_lines.specs.Words.{arguments, same_word}
use Rattle.damon_control.specs.Live.{LiveValue}
use Rattle.run_journal.specs.declared.entry.Receipt.{Receipt}
use Rattle.run_journal.specs.Growth.{added_to}
use Rattle.journal_text.specs.EntryLine.{where_so}
use Rattle.run_journal.specs.Lawful.{all_of}
use Rattle.journal_text.specs.Place.{AtAnswer, AtLast, InBlock, InEntries, InHead, InReceipts, JournalPlace, JournalRead}
use Rattle.journal_text.specs.Reading.{after_last, line_after}
use Rattle.run_journal.specs.Replay.{JournalValue, replay}
use Rattle.journal_text.specs.SeenLine.{after_seen, after_settled, has_receipt, may_be_seen, seen_fields, seen_line, seen_of, with_receipt}
use Rattle.journal_text.specs.Spelled.{spelled_seen}
use Rattle.run_journal.specs.Steps.{steps}
use Rattle.journal_text.specs.Text.{journal_lines, last_text, seen_lines}
use Rattle.journal_text.proofs.Common.{both_are, is_line, map_some, or_cases, past, then_some}
use Rattle.journal_text.proofs.EntriesSay.{SayLast, SaysEntries, at_answer, in_block, in_entries, lines_to}
use Rattle.journal_text.proofs.Leading.{leads_to}
use Rattle.journal_text.proofs.SeenSay.{count_more, count_padded, may_decides, seen_added}

-- ---- lines of receipts

-- workers without receipts have no lines
padded_lines : (space : List Target) (k n : ℕ) (all : List (List Receipt)) → seen_lines space k (all ++ replicate n []) ≡ seen_lines space k all
padded_lines space k n (rs ∷ all) = ap (λ ls. map (spelled_seen space k) rs ++ ls) (padded_lines space (k + 1) n all)
padded_lines space k zero [] = refl
padded_lines space k (suc n) [] = padded_lines space (k + 1) n []

-- the line of one more receipt of the last worker is the last one
added_lines : (space : List Target) (k w : ℕ) (r : Receipt) (lists : List (List Receipt)) → length lists ≡ w + 1 → seen_lines space k (added_to w r lists) ≡ seen_lines space k lists ++ spelled_seen space (k + w) r ∷ []
added_lines space k w r [] count = absurd (omega (arith, count))
added_lines space k zero r (rs ∷ []) count =
    let same : k ≡ k + 0 = omega arith in
    append-nil (map (spelled_seen space k) (rs ++ r ∷ []))
    ∙ map-append (spelled_seen space k) rs (r ∷ [])
    ∙ (λ i. sym (append-nil (map (spelled_seen space k) rs)) i ++ spelled_seen space (same i) r ∷ [])
added_lines space k zero r (rs ∷ l ∷ lists) count = absurd (omega (arith, count))
added_lines space k (suc w) r (rs ∷ lists) count =
    let same : (k + 1) + w ≡ k + suc w = omega arith in
    ap (λ ls. map (spelled_seen space k) rs ++ ls) (added_lines space (k + 1) w r lists (omega (arith, count)) ∙ ap (λ n. seen_lines space (k + 1) lists ++ spelled_seen space n r ∷ []) same)
    ∙ sym (append_assoc (map (spelled_seen space k) rs) (seen_lines space (k + 1) lists) (spelled_seen space (k + suc w) r ∷ []))

-- so it is with receipts that have one more
seen_more : (space : List Target) (all : List (List Receipt)) (w : ℕ) (r : Receipt) → length all ≤ w + 1 → seen_lines space 0 (with_receipt all w r) ≡ seen_lines space 0 all ++ spelled_seen space w r ∷ []
seen_more space all w r few =
    let n = w + 1 - length all in
    let same : 0 + w ≡ w = omega arith in
    added_lines space 0 w r (all ++ replicate n []) (count_padded all w few)
    ∙ (λ i. padded_lines space 0 n all i ++ spelled_seen space (same i) r ∷ [])

-- a `seen` line that is read: it is the spelling of what it says, and its page is one of the space
record SaidSeen (space : List Target) (line : List ℕ) (x : ℕ × Receipt) : Type 0 where
  spelled : line ≡ spelled_seen space x.0 x.1
  below : x.1.page < pages_of space

-- the page that an address says is one of the space
seen_below : (space : List Target) (r : Result (ℕ × (ℕ × (ℕ × ℕ))) ScriptKind) (said : ℕ × Receipt)
    → seen_of space r ≡ Some said → said.1.page < pages_of space
seen_below space (Err kind) said is = absurd cc
seen_below space (Ok x) said is =
    let page = map_some (λ page. (x.0, record { page = page; tag = x.1.1.1 })) (page_of space x.1.0 x.1.1.0) said is in
    subst (λ (s : ℕ × Receipt). s.1.page < pages_of space) page.2 (page_of-below space x.1.0 x.1.1.0 page.0 page.1)

-- a line is compared with the spelling of what it says
said_seen : (space : List Target) (line : List ℕ) (x : ℕ × Receipt) → seen_line space line ≡ Some x → SaidSeen space line x
said_seen space line x e =
    let read = arguments (codes "seen") line >>= seen_fields in
    let y = then_some (seen_of space read) (λ (y : ℕ × Receipt). if same_word line (spelled_seen space y.0 y.1) then Some y else None) x e in
    let w = spelled_seen space y.0.0 y.0.1 in
    past (SaidSeen space line) (same_word line w) y.0 x (λ is. record { spelled = is_line line w is; below = seen_below space read y.0 y.1 }) y.2

-- a line after those of the receipts and perhaps others
one_more_line : (v : LiveValue) (j : JournalValue) (all : List (List Receipt)) (lines shown : List (List ℕ)) (line w : List ℕ) → lines ≡ lines_to v j all shown → line ≡ w
    → lines ++ line ∷ [] ≡ lines_to v j all (shown ++ w ∷ [])
one_more_line v j all lines shown line w are is =
    let seen = seen_lines v.setup.space 0 all in
    (λ i. are i ++ is i ∷ [])
    ∙ append_assoc (journal_lines v j) (codes "receipts" ∷ (seen ++ shown)) (w ∷ [])
    ∙ ap (λ ls. journal_lines v j ++ codes "receipts" ∷ ls) (append_assoc seen shown (w ∷ []))

-- a `seen` line
seen_says : (head lines : List (List ℕ)) (v : LiveValue) (j : JournalValue) (all : List (List Receipt)) (line : List ℕ) (next : JournalPlace)
    → SaysEntries head lines (InReceipts v j all) → after_seen v j all line ≡ Some next → SaysEntries head (lines ++ line ∷ []) next
seen_says head lines v j all line next says e =
    let space = v.setup.space in
    let x = then_some (seen_line space line) (λ (x : ℕ × Receipt). where_so (may_be_seen (steps v j) all x.0 x.1) (InReceipts v j (with_receipt all x.0 x.1))) next e in
    let w = x.0.0 in
    let r = x.0.1 in
    let said = said_seen space line x.0 x.1 in
    let before = says.1 in
    past (SaysEntries head (lines ++ line ∷ [])) (may_be_seen (steps v j) all w r) (InReceipts v j (with_receipt all w r)) next (λ is.
    let may = (may_decides (steps v j) all w r).0 is in (
      one_more_line v j all lines [] line (spelled_seen space w r) says.0 said.spelled
          ∙ ap (λ ls. journal_lines v j ++ codes "receipts" ∷ ls) (sym (seen_more space all w r may.0.0) ∙ sym (append-nil (seen_lines space 0 (with_receipt all w r)))),
      record {
        before = before.before;
        workers = omega (arith, may.0.1, count_more all w r may.0.0);
        idle = before.idle;
        seen = seen_added (pages_of space) (steps v j) all w r before.seen said.below may;
      },
    )) x.2

-- `settled`
settled_says : (head lines : List (List ℕ)) (v : LiveValue) (j : JournalValue) (all : List (List Receipt)) (line : List ℕ) (next : JournalPlace)
    → SaysEntries head lines (InReceipts v j all) → after_settled v j all line ≡ Some next → SaysEntries head (lines ++ line ∷ []) next
settled_says head lines v j all line next says =
    let tests = list_all (has_receipt (all_of all)) (steps v j) in
    past (SaysEntries head (lines ++ line ∷ [])) (same_word line (codes "settled") && tests) (AtLast (record { live = v; journal = j; receipts = all }) (parts 10 (last_text (replay v j).state))) next (λ is.
    let both = both_are (same_word line (codes "settled")) tests is in
    record { shown = []; spelled = one_more_line v j all lines [] line (codes "settled") says.0 (is_line line (codes "settled") both.0); sound = says.1; received = both.1; rest = refl })

-- ---- the last lines

-- one of the last lines, as it is wanted
at_last : (head lines : List (List ℕ)) (said : JournalRead) (wanted : List (List ℕ)) (line : List ℕ) (next : JournalPlace) → SayLast head lines said wanted → after_last said wanted line ≡ Some next → SaysEntries head (lines ++ line ∷ []) next
at_last head lines said [] line next before e = absurd cc
at_last head lines said (w ∷ []) line next before e = absurd cc
at_last head lines said (w ∷ wanted ∷ more) line next before e = past (SaysEntries head (lines ++ line ∷ [])) (same_word line w) (AtLast said (wanted ∷ more)) next (λ is. record {
  shown = before.shown ++ w ∷ [];
  spelled = one_more_line said.live said.journal said.receipts lines (codes "settled" ∷ before.shown) line w before.spelled (is_line line w is);
  sound = before.sound;
  received = before.received;
  rest = append_assoc before.shown (w ∷ []) (wanted ∷ more) ∙ before.rest;
}) e

-- ---- all lines

-- one line more, from any place
line_says : (head lines : List (List ℕ)) (place : JournalPlace) (line : List ℕ) (next : JournalPlace) → SaysEntries head lines place → line_after place line ≡ Some next → SaysEntries head (lines ++ line ∷ []) next
line_says head lines (InEntries v j) line next before e = in_entries head lines v j line next before e
line_says head lines (InBlock v j c commit) line next before e = in_block head lines v j c commit line next before e
line_says head lines (AtAnswer v j c call) line next before e = at_answer head lines v j c call line next before e
line_says head lines (InReceipts v j all) line next before e =
    or_cases (after_settled v j all line) (after_seen v j all line) next (settled_says head lines v j all line next before) (seen_says head lines v j all line next before) e
line_says head lines (AtLast said wanted) line next before e = at_last head lines said wanted line next before e
line_says head lines (InHead p) line next before e = absurd before

-- all lines, one after another
pub lines_say : (head front : List (List ℕ)) (place : JournalPlace) (lines : List (List ℕ)) (last : JournalPlace) → SaysEntries head front place → leads_to place lines ≡ Some last → SaysEntries head (front ++ lines) last
lines_say head front place [] last before e =
    let is : place ≡ last = cc in
    subst (λ ls. SaysEntries head ls last) (sym (append-nil front)) (subst (SaysEntries head front) is before)
lines_say head front place (line ∷ lines) last before e =
    let next = then_some (line_after place line) (λ p. leads_to p lines) last e in
    subst (λ ls. SaysEntries head ls last) (append_assoc front (line ∷ []) lines)
    (lines_say head (front ++ line ∷ []) next.0 lines last (line_says head front place line next.0 before next.1) next.2)
