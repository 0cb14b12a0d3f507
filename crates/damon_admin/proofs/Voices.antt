-- The voice of each context in the output.
use Rattle.std.proofs.Common.{◌≡◌, ◌≢◌, ℕ, ◌+◌, ◌<◌, ◌==◌, ◌&&◌, Bool, true, false, cond, List, [], ◌∷◌, ◌++◌, length, drop, map, codes, Ok, Err, refl, sym, ap, ◌∙◌, subst, subst₂, arith, All, append_assoc, append-nil, length-append, ◌⊎◌, inl, inr}
use Rattle.std.specs.Prelude.{if◌then◌else◌}
use Rattle.std.specs.List.{AllByRecursion, filter}
use Rattle.std.specs.Fmt.{decimal}
use Rattle.std.proofs.lemmas.Bool.Decides.{nat_tests}
use Rattle.std.proofs.lemmas.List.{append_cancel_left, map-append}
use Rattle.std.proofs.lemmas.List.Elements.{All-cons, filter-append, recursion_from_All}
use Rattle.std.proofs.Math.Seq.{drop-append_seam}
use Rattle.line_text.specs.Parts.{IsPiece, parts}
use Rattle.damon_core.specs.Reached.{run}
use Rattle.damon_core.specs.State.{opening}
use Rattle.line_text.proofs.Lemmas.{parts_clean, parts_some}
use Rattle.script_lines.specs.Command.{CommandValue}
use Rattle.script_lines.specs.KindText.{kind_text}
use Rattle.script_lines.specs.Lines.{lines_text}
use Rattle.snapshot_print.specs.Lines.{as_text}
use Rattle.damon_control.specs.declared.fault.ScriptFault.{ScriptFault}
use Rattle.damon_control.specs.declared.grammar.Grammar.TheVariants.{OfScript}
use Rattle.damon_control.specs.Script.{AtEnd, AtHeader, Place, ScriptValue, script_of}
use Rattle.script_run.specs.Going.{onward, plain}
use Rattle.script_run.specs.Report.{events_text, last_state, report}
use Rattle.script_run.proofs.Lemmas.{events_text-append}
use Rattle.script_run.specs.Unfold.{command_events, start, unfold_script}
use Rattle.script_run.proofs.Lemmas.{commands_events-more}
use Rattle.script_run.specs.Played.{commands_text, up_to}
use Rattle.snapshot_print.specs.Printed.{printed_state}
use Rattle.damon_admin.specs.Kept.{IsNext}
use Rattle.damon_admin.specs.Laws.{ContextsAreApart, VoicesAreReports}
use Rattle.damon_admin.specs.Lines.{ContextLine, lines_of}
use Rattle.damon_admin.specs.declared.stage.Stage.{Stage}
use Rattle.damon_admin.specs.declared.stage.Stage.TheVariants as stage
use Rattle.damon_admin.specs.Stage.{completes, stage_of}
use Rattle.damon_admin.specs.Voice.{all_but_last, is_of, lines_in, spoken, spoken_line, voice}
use Rattle.damon_admin.specs.Written.{all_written, commands_at, fault_line, gained, line_text, output_of, place_from, place_of, texts_from, told, written, written_as, written_at, written_where}
use Rattle.script_lines.proofs.Lemmas.{lines_text-append}
use Rattle.damon_admin.proofs.Contexts.{lines_of-append, lines_of-own, other_more, own_more, pieces_of}
use Rattle.damon_admin.proofs.Ended.{IsEnded, first_kept, line_ended, lines_text-lines_in, none_ended}
use Rattle.damon_admin.proofs.Places.{NextPlace, end_is_last, next_place, parts_first, place_from-append, script_leads}
use Rattle.damon_admin.proofs.Playing.{IsAtEnd, end_or_amid, text_before}
use Rattle.damon_admin.proofs.Reports.{end_ended, events_ended}
use Rattle.damon_admin.proofs.Steps.{IsSaid}
use Rattle.damon_admin.proofs.Words.{bind-Ok}

-- ---- a text that a context says, in the output

-- lines without an LF before another text
lines_before : (ls : List (List ℕ)) (rest : List ℕ) → AllByRecursion (IsPiece 10) ls → lines_in (lines_text ls ++ rest) ≡ ls ++ lines_in rest
lines_before [] rest pieces = refl
lines_before (l ∷ ls) rest pieces =
    let more = lines_text ls ++ rest in
    ap lines_in (append_assoc l (10 ∷ lines_text ls) rest)
    ∙ ap all_but_last (parts_first l more pieces.0)
    ∙ first_kept l (parts 10 more) (parts_some 10 more)
    ∙ ap (λ ms. l ∷ ms) (lines_before ls rest pieces.1)

but_last : (P : List ℕ → Type 0) (ps : List (List ℕ)) → AllByRecursion P ps → AllByRecursion P (all_but_last ps)
but_last P [] all = tt
but_last P (p ∷ []) all = tt
but_last P (p ∷ q ∷ ps) all = (all.0, but_last P (q ∷ ps) all.1)

-- no line that a context says has an LF
spoken_pieces : (c : ℕ) (ls : List (List ℕ)) → AllByRecursion (IsPiece 10) ls → AllByRecursion (IsPiece 10) (map (spoken_line c) ls)
spoken_pieces c [] pieces = tt
spoken_pieces c (l ∷ ls) pieces =
    let digit : 48 + c ≢ 10 = λ e. absurd (omega (arith, e)) in
    let space : 32 ≢ 10 = λ e. absurd (omega (arith, e)) in
    (All-cons (λ b. b ≢ 10) (48 + c) (32 ∷ l) digit (All-cons (λ b. b ≢ 10) 32 l space pieces.0), spoken_pieces c ls pieces.1)

-- what is heard of a context in lines
heard : ℕ → List (List ℕ) → List ℕ
heard c ls = lines_text (map (λ line. drop 2 line) (filter (is_of c) ls))

heard-append : (c : ℕ) (xs ys : List (List ℕ)) → heard c (xs ++ ys) ≡ heard c xs ++ heard c ys
unfolding heard
heard-append c xs ys =
    let cut : List ℕ → List ℕ = λ line. drop 2 line in
    ap (λ ls. lines_text (map cut ls)) (filter-append (is_of c) xs ys)
    ∙ ap lines_text (map-append cut (filter (is_of c) xs) (filter (is_of c) ys))
    ∙ lines_text-append (map cut (filter (is_of c) xs)) (map cut (filter (is_of c) ys))

heard_by : Bool → List ℕ → List (List ℕ) → List ℕ
heard_by test line ls = lines_text (map (λ l. drop 2 l) (cond test (line ∷ ls) ls))

heard_own : (c : ℕ) (ls : List (List ℕ)) → heard c (map (spoken_line c) ls) ≡ lines_text ls
unfolding heard heard_by
heard_own c [] = refl
heard_own c (l ∷ ls) =
    let test : is_of c (spoken_line c l) ≡ true = same_digit c in
    ap (λ t. heard_by t (spoken_line c l) (filter (is_of c) (map (spoken_line c) ls))) test
    ∙ ap (λ t. l ++ 10 ∷ t) (heard_own c ls)
  where
    same_digit : (n : ℕ) → ((48 + n == 48 + n) && (32 == 32)) ≡ true
    same_digit n = grind (arith, nat_tests)

heard_other : (c d : ℕ) (ls : List (List ℕ)) → d ≢ c → heard c (map (spoken_line d) ls) ≡ []
unfolding heard heard_by
heard_other c d [] other = refl
heard_other c d (l ∷ ls) other =
    let test : is_of c (spoken_line d l) ≡ false = other_digit d other in
    ap (λ t. heard_by t (spoken_line d l) (filter (is_of c) (map (spoken_line d) ls))) test ∙ heard_other c d ls other
  where
    other_digit : (n : ℕ) → n ≢ c → ((48 + n == 48 + c) && (32 == 32)) ≡ false
    other_digit n differ = grind (arith, nat_tests, differ)

-- what a context says before other text
heard_spoken : (c d : ℕ) (text rest : List ℕ) → voice c (spoken d text ++ rest) ≡ heard c (map (spoken_line d) (lines_in text)) ++ voice c rest
unfolding heard
heard_spoken c d text rest =
    let pieces = but_last (IsPiece 10) (parts 10 text) (recursion_from_All (IsPiece 10) (parts 10 text) (parts_clean 10 text)) in
    let ls = map (spoken_line d) (lines_in text) in
    ap (heard c) (lines_before ls rest (spoken_pieces d (lines_in text) pieces)) ∙ heard-append c ls (lines_in rest)

own_voice : (c : ℕ) (text rest : List ℕ) → IsEnded text → voice c (spoken c text ++ rest) ≡ text ++ voice c rest
own_voice c text rest whole =
    heard_spoken c c text rest ∙ ap (λ t. t ++ voice c rest) (heard_own c (lines_in text) ∙ lines_text-lines_in text whole)

other_voice : (c d : ℕ) (text rest : List ℕ) → d ≢ c → voice c (spoken d text ++ rest) ≡ voice c rest
other_voice c d text rest other = heard_spoken c d text rest ∙ ap (λ t. t ++ voice c rest) (heard_other c d (lines_in text) other)

-- ---- what a line adds

-- what was written before, and whole lines more
pub record Adds (before after : List ℕ) : Type 0 where
  pub added : List ℕ
  pub is : after ≡ before ++ added
  pub whole : IsEnded added

-- one command more
command_adds : (s : ScriptValue) (cs : List CommandValue) (d : CommandValue) → Adds (commands_text as_text (up_to s cs)) (commands_text as_text (up_to s (cs ++ d ∷ [])))
command_adds s cs d =
    let first = opening s.setup in
    let es = unfold_script (up_to s cs) in
    let more = command_events plain s.setup.cap (onward plain (start s) es) d in
    record {
      added = events_text as_text (run first es) more;
      is = ap (events_text as_text first) (commands_events-more plain s.setup.cap (start s) cs d) ∙ events_text-append as_text first es more;
      whole = events_ended (run first es) more;
    }

none_added : (text : List ℕ) → Adds text text
none_added text = record { added = []; is = sym (append-nil text); whole = none_ended }

-- the last line
last_adds : (s : ScriptValue) → Adds (commands_text as_text s) (report as_text s)
last_adds s = record {
  added = as_text.end (printed_state (last_state s));
  is = refl;
  whole = end_ended (printed_state (last_state s));
}

said_adds : (s : ScriptValue) (b : Bool) (old new : List CommandValue) → IsSaid b old new → Adds (commands_text as_text (up_to s old)) (commands_text as_text (up_to s new))
said_adds s true old new said =
    subst (λ cs. Adds (commands_text as_text (up_to s old)) (commands_text as_text (up_to s cs))) (sym said.1) (command_adds s old said.0)
said_adds s false old new said =
    subst (λ cs. Adds (commands_text as_text (up_to s old)) (commands_text as_text (up_to s cs))) (sym said) (none_added (commands_text as_text (up_to s old)))

end_said : (a b : Stage) (old new : List CommandValue) → b ≡ stage.End → IsSaid (completes a b) old new → new ≡ old
end_said a b old new ends said = by a (subst (λ x. IsSaid (completes a x) old new) ends said)
  where
    by : (x : Stage) → IsSaid (completes x stage.End) old new → new ≡ old
    by stage.Setup said = said
    by stage.Body said = said
    by stage.Commit said = said
    by stage.End said = said

script_adds : (own done : List (List ℕ)) (line : List ℕ) (s : ScriptValue) → IsNext own done line → script_of (lines_text own) ≡ Ok s
    → Adds (written_as own done (Ok s)) (written_as own (done ++ line ∷ []) (Ok s))
script_adds own done line s next said =
    let led = script_leads own s next.pieces said in
    let so_far = bind-Ok (place_of done) (λ p. place_from p (line ∷ next.later)) (AtEnd s)
    (sym (place_from-append AtHeader done (line ∷ next.later)) ∙ ap place_of (sym next.all) ∙ led) in
    let place = so_far.0 in
    let step = next_place own done next.later line s place next.pieces next.all said so_far.1 in
    let before = ap (written_where s) so_far.1 ∙ text_before s place step.next line step.accepted in
    subst₂ Adds (sym before) (sym (ap (written_where s) step.to)) (by place step (end_or_amid s step.next))
  where
    by : (place : Place OfScript) (step : NextPlace s place done line)
        → IsAtEnd step.next ⊎ ((stage_of step.next ≢ stage.End) × (written_at s step.next ≡ commands_text as_text (up_to s (commands_at step.next))))
        → Adds (commands_text as_text (up_to s (commands_at place))) (written_at s step.next)
    by place step (inl it) =
        let all : it.said ≡ s = end_is_last it.said step.later s (subst (λ q. place_from q step.later ≡ Ok (AtEnd s)) it.is step.end) in
        let every : commands_at step.next ≡ s.commands = ap commands_at it.is ∙ ap (λ (t : ScriptValue). t.commands) all in
        let same : commands_at step.next ≡ commands_at place = end_said (stage_of place) (stage_of step.next) (commands_at place) (commands_at step.next) (ap stage_of it.is) step.steps.said in
        let cs : s.commands ≡ commands_at place = sym every ∙ same in
        subst (λ xs. Adds (commands_text as_text (up_to s xs)) (written_at s step.next)) cs
        (subst (λ t. Adds (commands_text as_text s) t) (sym (ap (written_at s) it.is)) (last_adds s))
    by place step (inr amid) =
        subst (λ t. Adds (commands_text as_text (up_to s (commands_at place))) t) (sym amid.1)
        (said_adds s (completes (stage_of place) (stage_of step.next)) (commands_at place) (commands_at step.next) step.steps.said)

fault_adds : (own done : List (List ℕ)) (line : List ℕ) (fault : ScriptFault) → IsNext own done line
    → Adds (written_as own done (Err fault)) (written_as own (done ++ line ∷ []) (Err fault))
fault_adds own done line fault next =
    let size : length own ≡ length done + (1 + length next.later) =
    omega (arith, ap (λ (ls : List (List ℕ)). length ls) next.all, length-append done (line ∷ next.later)) in
    let none : (length done == length own) ≡ false = not_all (length done) (length own) (omega (arith, size)) in
    subst (λ t. Adds (if t then fault_line fault else []) (written_as own (done ++ line ∷ []) (Err fault))) (sym none) (by (length (done ++ line ∷ []) == length own))
  where
    not_all : (a b : ℕ) → a < b → (a == b) ≡ false
    not_all a b less = grind (arith, nat_tests)

    by : (t : Bool) → Adds [] (if t then fault_line fault else [])
    by true = record {
      added = fault_line fault;
      is = refl;
      whole = line_ended (codes "fault line=" ∷ decimal fault.line ∷ codes " " ∷ kind_text fault.kind ∷ []);
    }
    by false = none_added []

adds : (own done : List (List ℕ)) (line : List ℕ) → IsNext own done line → Adds (written own done) (written own (done ++ line ∷ []))
adds own done line next =
    (elim (script_of (lines_text own)) as (λ r. script_of (lines_text own) ≡ r → Adds (written_as own done r) (written_as own (done ++ line ∷ []) r)) [
      | Ok s ↦ script_adds own done line s next
      | Err fault ↦ λ said. fault_adds own done line fault next
    ]) refl

-- a line adds whole lines: what its context gains
pub gains : (own done : List (List ℕ)) (line : List ℕ) → IsNext own done line
    → (written own (done ++ line ∷ []) ≡ written own done ++ gained own done line) × IsEnded (gained own done line)
gains own done line next =
    let more = adds own done line next in
    let is : gained own done line ≡ more.added = ap (drop (length (written own done))) more.is ∙ drop-append_seam (written own done) more.added in
    (more.is ∙ ap (λ t. written own done ++ t) (sym is), subst IsEnded (sym is) more.whole)

-- ---- the whole output

module _ (all : List ContextLine) (pieces : (c : ℕ) → All (IsPiece 10) (lines_of c all)) (c : ℕ) where
  -- what a context has written, and what it says from there on, is all that it writes
  telling : (done left : List ContextLine) → all ≡ done ++ left
      → written (lines_of c all) (lines_of c done) ++ voice c (texts_from all done left) ≡ written (lines_of c all) (lines_of c all)
  telling done [] is =
      append-nil (written (lines_of c all) (lines_of c done))
      ∙ ap (λ ls. written (lines_of c all) (lines_of c ls)) (sym (append-nil done) ∙ sym is)
  telling done (l ∷ left) is = by (l.context == c) refl (telling (done ++ l ∷ []) left more)
    where
      more : all ≡ (done ++ l ∷ []) ++ left
      more = is ∙ sym (append_assoc done (l ∷ []) left)

      rest : List ℕ
      rest = texts_from all (done ++ l ∷ []) left

      next : IsNext (lines_of l.context all) (lines_of l.context done) l.line
      next = record {
        later = lines_of l.context left;
        all = ap (lines_of l.context) is ∙ lines_of-append l.context done (l ∷ left) ∙ ap (λ ls. lines_of l.context done ++ ls) (lines_of-own l.context l left refl);
        pieces = pieces l.context;
      }

      by : (t : Bool) → (l.context == c) ≡ t
          → written (lines_of c all) (lines_of c (done ++ l ∷ [])) ++ voice c rest ≡ written (lines_of c all) (lines_of c all)
          → written (lines_of c all) (lines_of c done) ++ voice c (line_text all done l ++ rest) ≡ written (lines_of c all) (lines_of c all)
      by true test told =
          let same : l.context ≡ c = grind (arith, nat_tests, test) in
          let own = lines_of c all in
          let before = lines_of c done in
          let its_next = subst (λ d. IsNext (lines_of d all) (lines_of d done) l.line) same next in
          let gain = gains own before l.line its_next in
          let text : line_text all done l ≡ spoken c (gained own before l.line) = ap (λ d. spoken d (gained (lines_of d all) (lines_of d done) l.line)) same in
          ap (λ t. written own before ++ voice c (t ++ rest)) text
          ∙ ap (λ t. written own before ++ t) (own_voice c (gained own before l.line) rest gain.1)
          ∙ sym (append_assoc (written own before) (gained own before l.line) (voice c rest))
          ∙ ap (λ t. t ++ voice c rest) (sym gain.0)
          ∙ ap (λ ls. written own ls ++ voice c rest) (sym (own_more c done l same))
          ∙ told
      by false test told =
          let other : l.context ≢ c = grind (arith, nat_tests, test) in
          let own = lines_of c all in
          ap (λ t. written own (lines_of c done) ++ t)
          (other_voice c l.context (gained (lines_of l.context all) (lines_of l.context done) l.line) rest other)
          ∙ ap (λ ls. written own ls ++ voice c rest) (sym (other_more c done l other))
          ∙ told

-- a text that is not empty
told_all : (text : List ℕ) → 0 < length text → all_written text ≡ told (script_of text)
told_all [] none = absurd (omega arith)
told_all (b ∷ bs) some = refl

nothing_first : (own : List (List ℕ)) → 0 < length own → written own [] ≡ []
nothing_first own some =
    let none : (0 == length own) ≡ false = grind (arith, nat_tests) in
    elim (script_of (lines_text own)) as (λ r. written_as own [] r ≡ []) [
      | Ok s ↦ refl
      | Err fault ↦ ap (λ t. if t then fault_line fault else []) none
    ]

all_last : (own : List (List ℕ)) → All (IsPiece 10) own → written own own ≡ told (script_of (lines_text own))
all_last own pieces =
    let every : (length own == length own) ≡ true = grind (arith, nat_tests) in
    (elim (script_of (lines_text own)) as (λ r. script_of (lines_text own) ≡ r → written_as own own r ≡ told r) [
      | Ok s ↦ λ said. ap (written_where s) (script_leads own s pieces said)
      | Err fault ↦ λ said. ap (λ t. if t then fault_line fault else []) every
    ]) refl

whole_voice : (own : List (List ℕ)) (said : List ℕ) → All (IsPiece 10) own → written own [] ++ said ≡ written own own → said ≡ all_written (lines_text own)
whole_voice [] said pieces is = append_cancel_left (written [] []) said [] (is ∙ sym (append-nil (written [] [])))
whole_voice (line ∷ lines) said pieces is =
    let own : List (List ℕ) = line ∷ lines in
    let some : 0 < length (lines_text own) = omega (arith, length-append line (10 ∷ lines_text lines)) in
    ap (λ t. t ++ said) (sym (nothing_first own (omega arith))) ∙ is ∙ all_last own pieces ∙ sym (told_all (lines_text own) some)

pub voices : VoicesAreReports
voices input lines said c within =
    let pieces = pieces_of input lines said in
    record {
      whole = whole_voice (lines_of c lines) (voice c (output_of lines)) (pieces c) (telling lines pieces c [] lines refl);
      adds = λ done left line is. (gains (lines_of c lines) done line (record { later = left; all = is; pieces = pieces c })).0;
    }

pub apart : VoicesAreReports → ContextsAreApart
apart voices input other lines others said too c within same =
    (voices input lines said c within).whole ∙ ap all_written same ∙ sym (voices other others too c within).whole
