-- The text of a lawful journal is read.
use Rattle.std.proofs.Common.{◌≡◌, ℕ, zero, ◌^◌, ◌<◌, ◌&&◌, Bool, List, [], ◌∷◌, ◌++◌, codes, Some, Ok, refl, sym, ap, ◌∙◌, subst, arith}
use Rattle.std.proofs.lemmas.List.{map-append}
use Rattle.std.proofs.lemmas.List.Elements.{Contains-append_left, Contains-append_right}
use Rattle.std.specs.Prelude.{option_map}
use Rattle.std.specs.Option.{option_or}
use Rattle.std.specs.List.{AllByRecursion, Contains, list_all}
use Rattle.damon_types.specs.Space.{pages_of}
use Rattle.damon_types.proofs.Lemmas.{all_parts}
use Rattle.line_text.specs.Parts.{parts}
use Rattle.line_text.proofs.Lemmas.{parts_some}
use Rattle.live_commit.specs.declared.phase.Phase.TheVariants.{Idle}
use Rattle.page_words.specs.declared.view.Touch.{Touch}
use Rattle.page_words.specs.Clears.{pass_of}
use Rattle.page_words.specs.Views.{touch}
use Rattle.script_lines.specs.Lines.{lines_text}
use Rattle.script_lines.specs.Words.{same_word}
use Rattle.script_lines.proofs.Lemmas.{lines_text-append, parts_before}
use Rattle.damon_control.specs.JournalHead.{head_lines}
use Rattle.damon_control.specs.Live.{LiveValue}
use Rattle.damon_control.specs.Script.{AtHeader}
use Rattle.run_journal.specs.declared.entry.Entry.{Entry}
use Rattle.run_journal.specs.declared.entry.Receipt.{Receipt}
use Rattle.journal_text.specs.EntryLine.{after_call, after_entry, is_idle, said_entry, where_so}
use Rattle.run_journal.specs.Growth.{longer}
use Rattle.run_journal.specs.Lawful.{AreReceipts, IsLawful, Received, all_of, touches_of}
use Rattle.journal_text.specs.Place.{AtLast, InEntries, InHead, InReceipts, JournalPlace, JournalRead}
use Rattle.journal_text.specs.Reading.{line_after, said_from}
use Rattle.run_journal.specs.Replay.{JournalValue, replay}
use Rattle.run_journal.specs.Room.{nothing_said}
use Rattle.journal_text.specs.Rules.{IsReadBack, IsSpellable}
use Rattle.run_journal.specs.Limits.{TagsFit}
use Rattle.journal_text.specs.SeenLine.{after_receipt, has_receipt}
use Rattle.run_journal.specs.Steps.{steps}
use Rattle.journal_text.specs.Text.{journal_lines, journal_text, last_text, seen_lines, settled_lines}
use Rattle.journal_text.proofs.AllRead.{journal_read, no_calls}
use Rattle.journal_text.proofs.Common.{Pieces, both_pieces, or_first, then_some}
use Rattle.journal_text.proofs.EntriesRead.{so_far}
use Rattle.journal_text.proofs.HeadRead.{head_read}
use Rattle.journal_text.proofs.Leading.{found, leads_by, leads_to, said_back}
use Rattle.journal_text.proofs.SeenRead.{IsRead, PlacesFit, workers_seen}
use Rattle.journal_text.proofs.SeenSay.{HaveReceipts, hits_decide, padded_all}

-- ---- `receipts` and `settled`

-- between two passes `receipts` leads on
receipts_begin : (v : LiveValue) (j : JournalValue) → (replay v j).state.core.phase ≡ Idle → after_entry v j (codes "receipts") ≡ Some (InReceipts v j [])
receipts_begin v j idle =
    ap (λ ph. option_or (option_map (λ (x : Entry × List Bool). InEntries v (longer j x.0 x.1)) (said_entry (replay v j) ph (codes "receipts")))
    (option_or (where_so (same_word (codes "receipts") (codes "receipts") && is_idle ph) (InReceipts v j [])) (after_call v j (codes "receipts")))) idle

-- ---- receipts that can be read

-- all touches of some receipts are among those of all
abbrev Among : List Receipt → List (List Receipt) → Type 0
Among rs all = (t : Touch) → Contains (touches_of rs) t → Contains (touches_of (all_of all)) t

-- the receipts of a worker can be read
worker_read : (v : LiveValue) (j : JournalValue) (all : List (List Receipt)) → AreReceipts (pages_of v.setup.space) (steps v j) all → (rs : List Receipt) → Among rs all
    → AllByRecursion (λ r. r.page < pages_of v.setup.space) rs → AllByRecursion (λ r. r.tag < 2 ^ 64) rs → AllByRecursion (IsRead v.setup.space v j) rs
worker_read v j all are [] among within tags = tt
worker_read v j all are (r ∷ rs) among within tags =
    let has : Received all r.page r.tag = among (touch r.page r.tag) (zero, omega arith, refl) in (
      record { page = within.0; tag = tags.0; named = are.name r.page r.tag has },
      worker_read v j all are rs (λ t some. among t (Contains-append_right (touch r.page r.tag ∷ []) (touches_of rs) t some)) within.1 tags.1,
    )

-- and so can those of all
workers_read : (v : LiveValue) (j : JournalValue) (all : List (List Receipt)) → AreReceipts (pages_of v.setup.space) (steps v j) all → (some : List (List Receipt)) → Among (all_of some) all
    → AllByRecursion (λ r. r.page < pages_of v.setup.space) (all_of some) → TagsFit some → AllByRecursion (λ rs. AllByRecursion (IsRead v.setup.space v j) rs) some
workers_read v j all are [] among within tags = tt
workers_read v j all are (rs ∷ some) among within tags =
    let apart = all_parts (λ r. r.page < pages_of v.setup.space) rs (all_of some) within in
    let split : touches_of (rs ++ all_of some) ≡ touches_of rs ++ touches_of (all_of some) = map-append (λ r. touch r.page r.tag) rs (all_of some) in (
      worker_read v j all are rs (λ t has. among t (subst (λ l. Contains l t) (sym split) (Contains-append_left (touches_of rs) (touches_of (all_of some)) t has))) apart.0 tags.0,
      workers_read v j all are some (λ t has. among t (subst (λ l. Contains l t) (sym split) (Contains-append_right (touches_of rs) (touches_of (all_of some)) t has))) apart.1 tags.1,
    )

-- ---- where all lines lead

-- the lines after the head, up to `settled`
abbrev pub body_lines : LiveValue → JournalValue → List (List Receipt) → List (List ℕ)
body_lines v j all = journal_lines v j ++ codes "receipts" ∷ (seen_lines v.setup.space 0 all ++ codes "settled" ∷ [])

-- ---- the law

-- lines that lead on, before others
leads-both : (place next : JournalPlace) (a b : List (List ℕ)) → leads_to place a ≡ Some next → leads_to place (a ++ b) ≡ leads_to next b
leads-both place next [] b lead = let is : place ≡ next = cc in ap (λ p. leads_to p b) is
leads-both place next (line ∷ a) b lead =
    let reached = then_some (line_after place line) (λ p. leads_to p a) next lead in
    leads_by place reached.0 line (a ++ b) reached.1 ∙ leads-both reached.0 next a b reached.2

-- the parts of the text are the lines of the head as it was written, the other lines and the parts of the last ones
text_parts : (v : LiveValue) (j : JournalValue) (all : List (List Receipt)) (front : List (List ℕ)) (last : List ℕ) → lines_text front ≡ lines_text (head_lines v.seed v.setup) → Pieces front → Pieces (body_lines v j all)
    → last ≡ last_text (replay v j).state → parts 10 (journal_text v j all) ≡ (front ++ body_lines v j all) ++ parts 10 last
text_parts v j all front last same first body ends =
    let lines = body_lines v j all in
    let whole : lines_text (settled_lines v j all) ≡ lines_text (front ++ lines) =
    lines_text-append (head_lines v.seed v.setup) lines
    ∙ ap (λ t. t ++ lines_text lines) (sym same)
    ∙ sym (lines_text-append front lines)
    in
    (λ i. parts 10 (whole i ++ sym ends i)) ∙ parts_before (front ++ lines) last (both_pieces front lines first body)

-- the text of a lawful journal is read as that journal
pub second_law : (v : LiveValue) (j : JournalValue) (all : List (List Receipt)) → IsLawful v j all → IsSpellable v j all → PlacesFit v.setup.space → Pieces (body_lines v j all) → IsReadBack v j all
second_law v j all lawful can places pieces =
    let head = head_read v.seed v.setup can.setup in
    let entries = journal_read v can.calls j lawful.journal can.rules.turn in
    let w = so_far v entries.later in
    let are : AreReceipts (pages_of v.setup.space) (steps w j) all = subst (λ done. AreReceipts (pages_of v.setup.space) done all) (sym entries.steps_are) lawful.receipts in
    let read = workers_read w j all are all (λ t has. has) are.within can.tags in
    let none : List (List Receipt) = [] in
    let seen = workers_seen w j places none none all 0 refl (omega (arith, can.rules.workers)) (0, refl) are.rise read in
    let idle : (replay w j).state.core.phase ≡ Idle = ap (λ s. s.core.phase) entries.state ∙ lawful.idle in
    let same : all_of seen.behind ≡ all_of all = sym (padded_all seen.pads.0 seen.behind) ∙ ap all_of seen.pads.1 in
    let hits : HaveReceipts (steps w j) seen.behind = λ page word has odd. subst (λ rs. Contains (touches_of rs) (touch page (pass_of word))) (sym same) (are.hits page word has odd) in
    let said : JournalRead = record { live = w; journal = j; receipts = seen.behind } in
    let wanted = parts 10 (last_text (replay w j).state) in
    let some = parts_some 10 (last_text (replay w j).state) in
    let lines = body_lines v j all in
    let settled = codes "settled" ∷ [] in
    let ends : after_receipt w j seen.behind (codes "settled") ≡ Some (AtLast said wanted) =
    or_first (where_so (list_all (has_receipt (all_of seen.behind)) (steps w j)) (AtLast said wanted)) _ (AtLast said wanted)
    (found (list_all (has_receipt (all_of seen.behind)) (steps w j)) (AtLast said wanted) ((hits_decide (steps w j) seen.behind).1 hits))
    in
    let lead : leads_to (InHead AtHeader) (head.lines ++ lines) ≡ Some (AtLast said wanted) =
    leads-both (InHead AtHeader) (InEntries (so_far v no_calls) nothing_said) head.lines lines head.lead
    ∙ entries.leads (codes "receipts" ∷ (seen_lines v.setup.space 0 all ++ settled))
    ∙ leads_by (InEntries w j) (InReceipts w j []) (codes "receipts") (seen_lines v.setup.space 0 all ++ settled) (receipts_begin w j idle)
    ∙ seen.leads settled
    ∙ leads_by (InReceipts w j seen.behind) (AtLast said wanted) (codes "settled") [] ends
    in
    let apart = text_parts v j all head.lines (last_text (replay w j).state) head.text head.pieces pieces (ap last_text entries.state) in
    record {
      said = said;
      read = subst (λ ps. said_from 1 (InHead AtHeader) ps ≡ Ok said) (sym apart) (said_back 1 (InHead AtHeader) (head.lines ++ lines) wanted said some lead);
      seed = refl;
      setup = refl;
      journal = refl;
      calls = entries.calls;
      receipts = seen.pads;
    }
