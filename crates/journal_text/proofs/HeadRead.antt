-- The lines of a head that is read lead to the entries.
use Rattle.std.proofs.Common.{◌≡◌, ℕ, ◌+◌, ◌<◌, List, [], ◌∷◌, ◌++◌, length, Some, Ok, Err, refl, sym, ap, ◌∙◌, subst, append-nil, arith}
use Rattle.std.specs.Prelude.{Result}
use Rattle.line_text.specs.Parts.{joined, parts}
use Rattle.line_text.proofs.Lemmas.{joined-parts, parts_clean, parts_some}
use Rattle.live_commit.specs.Setup.{SetupValue}
use Rattle.script_lines.specs.declared.kind.ScriptKind.{ScriptKind}
use Rattle.script_lines.specs.Lines.{lines_text}
use Rattle.script_lines.proofs.Lemmas.{joined_before}
use Rattle.damon_control.specs.declared.grammar.Grammar.TheVariants.{OfJournal}
use Rattle.damon_control.specs.JournalHead.{head_lines}
use Rattle.damon_control.specs.Script.{AtAttrs, AtCap, AtEnd, AtHeader, AtRanges, AtSchemes, AtSeed, AtTargets, AtUnit, HeadValue, InBody, InCommit, Place, at, at_text_end, place_after, reads}
use Rattle.damon_control.specs.WriteBack.{IsWritable}
use Rattle.damon_control.proofs.Lemmas.{heads_read_back}
use Rattle.journal_text.specs.Place.{InEntries, InHead, after_head, uncalled}
use Rattle.run_journal.specs.Room.{nothing_said}
use Rattle.journal_text.proofs.Common.{Pieces, bind-Ok, pieces_front}
use Rattle.journal_text.proofs.HeadSay.{head_line}
use Rattle.journal_text.proofs.Leading.{leads_by, leads_to}

-- the end of a head has no bytes behind it
record EndsHead (p : Place OfJournal) (bytes : List ℕ) (h : HeadValue) : Type 0 where
  bytes_are : bytes ≡ []
  place_is : after_head p ≡ InEntries (uncalled h) nothing_said

-- a head ends at its last place alone
ends_head : (n : ℕ) (p : Place OfJournal) (bytes : List ℕ) (h : HeadValue) → at_text_end OfJournal n p bytes ≡ Ok h → EndsHead p bytes h
ends_head n (AtEnd s) [] h e = let is : s ≡ h = cc in record { bytes_are = refl; place_is = ap (λ x. InEntries (uncalled x) nothing_said) is }
ends_head n (AtEnd s) (b ∷ bytes) h e = absurd cc
ends_head n AtHeader bytes h e = absurd cc
ends_head n (AtSeed version) bytes h e = absurd cc
ends_head n (AtUnit version seed) bytes h e = absurd cc
ends_head n (AtCap version seed unit) bytes h e = absurd cc
ends_head n (AtAttrs version seed unit cap) bytes h e = absurd cc
ends_head n (AtTargets f targets) bytes h e = absurd cc
ends_head n (AtRanges f targets ranges) bytes h e = absurd cc
ends_head n (AtSchemes f targets ranges slots) bytes h e = absurd cc
ends_head n (InBody b) bytes h e = absurd b
ends_head n (InCommit b commit) bytes h e = absurd b

-- a line that is no fault was accepted
accepted : {A : Type 0} (n : ℕ) (r : Result A ScriptKind) (x : A) → at n r ≡ Ok x → r ≡ Ok x
accepted n (Ok y) x e = let is : y ≡ x = cc in ap (λ z. Ok z) is
accepted n (Err kind) x e = absurd cc

-- pieces are lines that lead to the entries, and no bytes behind them
record HeadLeads (p : Place OfJournal) (pieces : List (List ℕ)) (h : HeadValue) : Type 0 where
  lines : List (List ℕ)
  whole : pieces ≡ lines ++ [] ∷ []
  lead : leads_to (after_head p) lines ≡ Some (InEntries (uncalled h) nothing_said)

-- so it is with the pieces of a head that is read
head_leads : (n : ℕ) (p : Place OfJournal) (pieces : List (List ℕ)) (h : HeadValue) → 0 < length pieces → reads OfJournal n p pieces ≡ Ok h → HeadLeads p pieces h
head_leads n p [] h some e = absurd (omega arith)
head_leads n p (bytes ∷ []) h some e =
    let end = ends_head n p bytes h e in
    record { lines = []; whole = ap (λ l. l ∷ []) end.bytes_are; lead = ap (λ x. Some x) end.place_is }
head_leads n p (line ∷ next ∷ more) h some e =
    let reached = bind-Ok (at n (place_after OfJournal p line)) (λ q. reads OfJournal (n + 1) q (next ∷ more)) h e in
    let q = reached.0 in
    let others = head_leads (n + 1) q (next ∷ more) h (omega arith) reached.2 in
    record {
      lines = line ∷ others.lines;
      whole = ap (λ ls. line ∷ ls) others.whole;
      lead = leads_by (after_head p) (after_head q) line others.lines (head_line p q line (accepted n (place_after OfJournal p line) q reached.1)) ∙ others.lead;
    }

-- lines with the text of a head, without an LF in them, that lead to the entries
pub record IsHeadRead (seed : ℕ) (setup : SetupValue) : Type 0 where
  pub lines : List (List ℕ)
  pub text : lines_text lines ≡ lines_text (head_lines seed setup)
  pub pieces : Pieces lines
  pub lead : leads_to (InHead AtHeader) lines ≡ Some (InEntries (uncalled (record { seed = seed; setup = setup })) nothing_said)

-- the text of a head is read, and so its lines lead to the entries
pub head_read : (seed : ℕ) (setup : SetupValue) → IsWritable seed setup → IsHeadRead seed setup
head_read seed setup is =
    let text = lines_text (head_lines seed setup) in
    let none : List (List ℕ) = [] ∷ [] in
    let led = head_leads 1 AtHeader (parts 10 text) (record { seed = seed; setup = setup }) (parts_some 10 text) (heads_read_back seed setup is) in
    record {
      lines = led.lines;
      text = sym (append-nil (lines_text led.lines)) ∙ sym (joined_before led.lines none (omega arith)) ∙ ap (joined 10) (sym led.whole) ∙ joined-parts 10 text;
      pieces = pieces_front led.lines none (subst Pieces led.whole (parts_clean 10 text));
      lead = led.lead;
    }
