-- The lines of receipts are taken one after another, and then `settled`.
use Rattle.std.proofs.Common.{◌≡◌, ℕ, zero, suc, ◌+◌, ◌-◌, ◌<◌, ◌==◌, ◌&&◌, not, cond, Bool, true, false, List, [], ◌∷◌, ◌++◌, codes, length, Some, None, Ok, Err, refl, sym, ap, subst, ◌∙◌, append_assoc, append-nil, zero-add, arith}
use Rattle.std.proofs.lemmas.Bool.Decides.{nat_tests}
use Rattle.std.proofs.lemmas.List.Sums.{sum_by-cons}
use Rattle.std.specs.Prelude.{OnOk, Option, Result, option_and_then, option_map, if◌then◌else◌}
use Rattle.std.specs.List.{list_all}
use Rattle.std.specs.Option.{ok_or, option_or}
use Rattle.script_lines.specs.Refusal.{◌>>=◌}
use Rattle.script_lines.specs.Words.{same_word}
use Rattle.page_words.specs.declared.view.Entry.{Entry as Step}
use Rattle.damon_control.specs.Live.{LiveValue}
use Rattle.damon_types.specs.declared.space.Target.{Target}
use Rattle.run_journal.specs.declared.entry.Receipt.{Receipt}
use Rattle.journal_check.specs.declared.journal_lines.JournalLines.{JournalLines}
use Rattle.journal_check.specs.Ahead.{AheadView, first_refused, in_front_of, receipts_of, seen_ahead}
use Rattle.journal_text.specs.EntryLine.{where_so}
use Rattle.journal_check.specs.declared.entries.fold.Fold.{Fold}
use Rattle.journal_check.specs.Folding.{AreNext, FoldStands, open_hits}
use Rattle.run_journal.specs.Lawful.{all_of}
use Rattle.journal_check.specs.LinesLeft.{lines_left, said_left, said_on}
use Rattle.journal_text.specs.Place.{InReceipts, JournalPlace}
use Rattle.run_journal.specs.Replay.{JournalValue}
use Rattle.journal_text.specs.SeenLine.{after_receipt, after_seen, after_settled, has_receipt, may_be_seen, seen_line, with_receipt}
use Rattle.journal_check.specs.SeenPart.{AreAllSeen, AreSeen, ReceiptsStand, accepted, after_all_receipts, seen_left}
use Rattle.run_journal.specs.Steps.{steps}
use Rattle.journal_text.proofs.Lemmas.{is_line, all_more}
use Rattle.journal_check.proofs.SeenAfter.{seen_few}
use Rattle.journal_check.proofs.SeenTaken.{line_says}

-- ---- one line

-- the receipts of lines, of which the first was taken
pub seen_split : (v : LiveValue) (old new : JournalLines) (line : List ℕ) → lines_left old ≡ line ∷ lines_left new → seen_left v old ≡ in_front_of (seen_left v new) (seen_line v.setup.space line)
seen_split v old new line e = ap (seen_ahead v.setup.space) e ∙ line_says v.setup.space line new.rest.now

-- `settled` says no receipt
no_receipt : (space : List Target) (line : List ℕ) → same_word line (codes "settled") ≡ true → seen_line space line ≡ None
no_receipt space line e = ap (seen_line space) (is_line line (codes "settled") e)

-- a line that says a receipt is not `settled`
not_settled : (space : List Target) (line : List ℕ) (x : ℕ × Receipt) → seen_line space line ≡ Some x → same_word line (codes "settled") ≡ false
not_settled space line x says = by (same_word line (codes "settled")) refl
  where
    by : (test : Bool) → same_word line (codes "settled") ≡ test → test ≡ false
    by true e = let clash = sym (no_receipt space line e) ∙ says in absurd cc
    by false e = refl

-- ---- a receipt that may be seen

module _ (v : LiveValue) (j : JournalValue) (all : List (List Receipt)) (line : List ℕ) where
  leads : (x : ℕ × Receipt) → seen_line v.setup.space line ≡ Some x → may_be_seen (steps v j) all x.0 x.1 ≡ true → after_receipt v j all line ≡ Some (InReceipts v j (with_receipt all x.0 x.1))
  leads x says may =
      let receipts = list_all (has_receipt (all_of all)) (steps v j) in
      ap (λ t. option_or (where_so (t && receipts) (after_all_receipts v j all)) (after_seen v j all line)) (not_settled v.setup.space line x says)
      ∙ ap (λ (o : Option (ℕ × Receipt)). option_and_then (λ x. where_so (may_be_seen (steps v j) all x.0 x.1) (InReceipts v j (with_receipt all x.0 x.1))) o) says
      ∙ ap (λ t. where_so t (InReceipts v j (with_receipt all x.0 x.1))) may

  -- one more receipt was taken
  pub one_more : (left : ℕ) (old before after : JournalLines) → 0 < left → AreSeen left v j all old before → lines_left before ≡ line ∷ lines_left after
      → said_left (InReceipts v j all) before ≡ said_on (InReceipts v j all) line after → (more : List (List Receipt)) × AreSeen (left - 1) v j more old after
  one_more left old before after some seen split read = by (seen_line v.setup.space line) refl
    where
      by : (o : Option (ℕ × Receipt)) → seen_line v.setup.space line ≡ o → (more : List (List Receipt)) × AreSeen (left - 1) v j more old after
      by None says =
          let none : seen_left v before ≡ [] = seen_split v before after line split ∙ ap (in_front_of (seen_left v after)) says in
          let few : 0 ≡ left = sym (ap (accepted (steps v j) all) none) ∙ seen.few in
          absurd (omega (arith, few))
      by (Some x) says = on (may_be_seen (steps v j) all x.0 x.1) refl (sym (ap (accepted (steps v j) all) first) ∙ seen.few)
        where
          first : seen_left v before ≡ x ∷ seen_left v after
          first = seen_split v before after line split ∙ ap (in_front_of (seen_left v after)) says

          on : (may : Bool) → may_be_seen (steps v j) all x.0 x.1 ≡ may → (if may then suc (accepted (steps v j) (with_receipt all x.0 x.1) (seen_left v after)) else zero) ≡ left
              → (more : List (List Receipt)) × AreSeen (left - 1) v j more old after
          on false may few = absurd (omega (arith, few))
          on true may few = (
            with_receipt all x.0 x.1,
            record {
              said = seen.said ∙ read ∙ ap (λ o. ok_or o after.taken >>= λ next. said_left next after) (leads x says may);
              few = omega (arith, few);
              whole =
                  ap (λ rs. rs ++ receipts_of (seen_left v after)) (all_more all x.0 x.1 (seen_few (steps v j) all x.0 x.1 may))
                  ∙ append_assoc (all_of all) (x.1 ∷ []) (receipts_of (seen_left v after))
                  ∙ ap (λ xs. all_of all ++ receipts_of xs) (sym first)
                  ∙ seen.whole;
            },
          )

  -- where none may be seen, the line says none that may
  none_seen : (xs : List (ℕ × Receipt)) → accepted (steps v j) all (in_front_of xs (seen_line v.setup.space line)) ≡ 0 → after_seen v j all line ≡ None
  none_seen xs few = by (seen_line v.setup.space line) few
    where
      by : (o : Option (ℕ × Receipt)) → accepted (steps v j) all (in_front_of xs o) ≡ 0
          → option_and_then (λ x. where_so (may_be_seen (steps v j) all x.0 x.1) (InReceipts v j (with_receipt all x.0 x.1))) o ≡ None
      by None few = refl
      by (Some x) few = on (may_be_seen (steps v j) all x.0 x.1) few
        where
          on : (may : Bool) → (if may then suc (accepted (steps v j) (with_receipt all x.0 x.1) xs) else zero) ≡ 0 → where_so may (InReceipts v j (with_receipt all x.0 x.1)) ≡ None
          on true few = absurd cc
          on false few = refl

-- ---- `settled`

one_step : (has rest : Bool) (n : ℕ) → rest ≡ (n == 0) → (has && rest) ≡ ((cond (not has) 1 0 + n) == 0)
one_step true rest n e = e ∙ ap (λ m. m == 0) (sym (zero-add n))
one_step false rest n e = grind (arith, nat_tests)

-- each hit has a receipt where none is counted that has not
all_received : (rs : List Receipt) (done : List Step) → list_all (has_receipt rs) done ≡ (open_hits rs done == 0)
all_received rs [] = refl
all_received rs (s ∷ done) =
    one_step (has_receipt rs s) (list_all (has_receipt rs) done) (open_hits rs done) (all_received rs done)
    ∙ ap (λ n. n == 0) (sym (sum_by-cons (λ step. cond (not (has_receipt rs step)) 1 0) s done))

or_none : (test : Bool) (place : JournalPlace) → option_or (where_so test place) None ≡ where_so test place
or_none true place = refl
or_none false place = refl

-- after the last receipt the line leads on where it is `settled` and no hit is without a receipt
pub settled_place : (v : LiveValue) (j : JournalValue) (all : List (List Receipt)) (line : List ℕ) (unreceived : ℕ) (old new : JournalLines) → lines_left old ≡ line ∷ lines_left new → AreAllSeen v j all unreceived old
    → after_receipt v j all line ≡ where_so (same_word line (codes "settled") && (unreceived == 0)) (after_all_receipts v j all)
settled_place v j all line unreceived old new split seen =
    ap (λ o. option_or (after_settled v j all line) o) none
    ∙ or_none (same_word line (codes "settled") && list_all (has_receipt (all_of all)) (steps v j)) (after_all_receipts v j all)
    ∙ by (same_word line (codes "settled")) refl
  where
    parts_are : seen_left v old ≡ in_front_of (seen_left v new) (seen_line v.setup.space line)
    parts_are = seen_split v old new line split

    none : after_seen v j all line ≡ None
    none = none_seen v j all line (seen_left v new) (sym (ap (accepted (steps v j) all) parts_are) ∙ seen.none)

    by : (test : Bool) → same_word line (codes "settled") ≡ test
        → where_so (test && list_all (has_receipt (all_of all)) (steps v j)) (after_all_receipts v j all) ≡ where_so (test && (unreceived == 0)) (after_all_receipts v j all)
    by false e = refl
    by true e =
        let no_more : seen_left v old ≡ [] = parts_are ∙ ap (in_front_of (seen_left v new)) (no_receipt v.setup.space line e) in
        let same : all_of all ≡ all_of all ++ receipts_of (seen_left v old) = sym (append-nil (all_of all)) ∙ ap (λ xs. all_of all ++ receipts_of xs) (sym no_more) in
        ap (λ t. where_so t (after_all_receipts v j all)) (all_received (all_of all) (steps v j) ∙ ap (λ (qs : List Receipt). open_hits qs (steps v j) == 0) same ∙ ap (λ n. n == 0) (sym seen.open_is))

-- after the entries of a text the receipts that were read ahead are those of the next lines
pub receipts_stand : {v : LiveValue} {j : JournalValue} {f : Fold} {lines : JournalLines} → FoldStands v j f → AreNext f lines → ReceiptsStand v j f.ahead f.unreceived lines
receipts_stand {v} {j} {f} {lines} stands next = record { next = next ∙ ap (λ space. seen_ahead space (lines_left lines)) stands.space; named = stands.named; open_is = stands.open_is }

-- the receipts that were taken are all that may be seen, where they are as many as may be
pub seen_all : (v : LiveValue) (j : JournalValue) (all : List (List Receipt)) (ahead : AheadView) (unreceived : ℕ) (old new : JournalLines) → ReceiptsStand v j ahead unreceived old → AreSeen 0 v j all old new → AreAllSeen v j all unreceived new
seen_all v j all ahead unreceived old new stand seen = record {
  none = seen.few;
  open_is = stand.open_is ∙ ap (λ xs. open_hits (receipts_of xs) (steps v j)) stand.next ∙ ap (λ rs. open_hits rs (steps v j)) (sym seen.whole);
}

-- ---- how many are accepted

-- the index of the first that is refused is the number of those before it; where none is refused, these are all
abbrev AreAccepted : Option ℕ → ℕ → ℕ → Type 0
AreAccepted (Some index) count all = count ≡ index
AreAccepted None count all = count ≡ all

count_accepted : (done : List Step) (all : List (List Receipt)) (xs : List (ℕ × Receipt)) → AreAccepted (first_refused done all xs) (accepted done all xs) (length xs)
count_accepted done all [] = refl
count_accepted done all (x ∷ xs) = by (may_be_seen done all x.0 x.1) (first_refused done (with_receipt all x.0 x.1) xs) (accepted done (with_receipt all x.0 x.1) xs) (count_accepted done (with_receipt all x.0 x.1) xs)
  where
    by : (may : Bool) (o : Option ℕ) (n : ℕ) → AreAccepted o n (length xs) → AreAccepted (if may then option_map suc o else Some 0) (if may then suc n else zero) (length (x ∷ xs))
    by true None n is = ap suc is
    by true (Some i) n is = ap suc is
    by false o n is = refl

pub count_before : (done : List Step) (all : List (List Receipt)) (xs : List (ℕ × Receipt)) (index : ℕ) → first_refused done all xs ≡ Some index → accepted done all xs ≡ index
count_before done all xs index is = subst (λ (o : Option ℕ). AreAccepted o (accepted done all xs) (length xs)) is (count_accepted done all xs)

pub count_all : (done : List Step) (all : List (List Receipt)) (xs : List (ℕ × Receipt)) → first_refused done all xs ≡ None → accepted done all xs ≡ length xs
count_all done all xs is = subst (λ (o : Option ℕ). AreAccepted o (accepted done all xs) (length xs)) is (count_accepted done all xs)

-- ---- what follows where a value was returned

pub on_ok : {T E P Q : Type 0} (r : Result T E) → (P → Q) → OnOk r P → OnOk r Q
on_ok (Ok x) f p = f p
on_ok (Err e) f p = p
