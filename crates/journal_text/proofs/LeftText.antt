-- What is left of the text of a journal after some of its lines.
use Rattle.std.proofs.Common.{◌≡◌, ◌+◌, ◌≤◌, ℕ, zero, suc, List, [], ◌∷◌, ◌++◌, length, drop, map, sym, ap, ◌∙◌, append_assoc, refl, subst}
use Rattle.std.specs.List.{AllByRecursion}
use Rattle.std.proofs.lemmas.List.{drop_all}
use Rattle.damon_types.specs.declared.space.Target.{Target}
use Rattle.damon_types.proofs.Lemmas.{all_parts}
use Rattle.script_lines.specs.Lines.{lines_text}
use Rattle.damon_control.specs.Live.{LiveValue}
use Rattle.run_journal.specs.declared.entry.Receipt.{Receipt}
use Rattle.run_journal.specs.Lawful.{all_of}
use Rattle.run_journal.specs.Replay.{JournalValue}
use Rattle.journal_text.specs.Spelled.{spelled_seen}
use Rattle.journal_text.specs.Text.{entries_lines, seen_lines}
use Rattle.journal_text.specs.TextParts.{entries_left, replay_to, without_first}
use Rattle.script_lines.proofs.Lemmas.{lines_text-append}

-- lines were appended after others, and other text is left after them
pub lines_passed : (before text : List ℕ) (a b : List (List ℕ)) (last : List ℕ) → text ≡ before ++ lines_text a → text ++ (lines_text b ++ last) ≡ before ++ (lines_text (a ++ b) ++ last)
lines_passed before text a b last is = ap (λ t. t ++ (lines_text b ++ last)) is ∙ simp (lines_text-append, append_assoc)

-- what holds of the receipts of all workers holds of those from a worker on
pub all_from : (P : Receipt → Type 0) (all : List (List Receipt)) (worker : ℕ) → AllByRecursion P (all_of all) → AllByRecursion P (all_of (drop worker all))
all_from P [] zero holds = holds
all_from P [] (suc worker) holds = holds
all_from P (own ∷ all) zero holds = holds
all_from P (own ∷ all) (suc worker) holds = all_from P all worker (all_parts P own (all_of all) holds).1

-- none of the receipts are taken yet
pub without_none : (all : List (List Receipt)) → without_first 0 all ≡ all
without_none [] = refl
without_none (own ∷ all) = refl

-- a text, lines and what is left after them
joined : (text : List ℕ) (now more : List (List ℕ)) (last : List ℕ) → text ++ (lines_text (now ++ more) ++ last) ≡ (text ++ lines_text now) ++ (lines_text more ++ last)
joined text now more last = simp (lines_text-append, append_assoc)

-- of some lines the first were written
pub front_passed : (text before : List ℕ) (now left more : List (List ℕ)) (last : List ℕ) → text ++ lines_text now ≡ before ++ lines_text left
    → text ++ (lines_text (now ++ more) ++ last) ≡ before ++ (lines_text (left ++ more) ++ last)
front_passed text before now left more last is =
    joined text now more last ∙ ap (λ t. t ++ (lines_text more ++ last)) is ∙ sym (joined before left more last)

-- the same with two lists of lines after them
front_passed_two : (text before : List ℕ) (now left rest more : List (List ℕ)) (last : List ℕ) → text ++ lines_text now ≡ before ++ lines_text left
    → text ++ (lines_text ((now ++ rest) ++ more) ++ last) ≡ before ++ (lines_text ((left ++ rest) ++ more) ++ last)
front_passed_two text before now left rest more last is = simp append_assoc (front_passed text before now left (rest ++ more) last is)

-- all entries were written
pub entries_done : (v : LiveValue) (j : JournalValue) (at next : ℕ) (text before : List ℕ) → text ++ lines_text (entries_left v j at) ≡ before ++ lines_text (entries_left v j next)
    → length j.entries ≤ at → text ++ lines_text [] ≡ before ++ lines_text (entries_left v j next)
entries_done v j at next text before written ends =
    subst (λ es. text ++ lines_text (entries_lines v (replay_to v j at) es) ≡ before ++ lines_text (entries_left v j next)) (drop_all at j.entries ends) written

-- Some receipts of a worker were written, and others are left: those of this worker, or those of the next ones.
module _ (space : List Target) (worker at next : ℕ) (all : List (List Receipt)) (own : List Receipt) (text before last : List ℕ) (more : List (List ℕ))
    (here : drop worker all ≡ own ∷ drop (worker + 1) all)
    (written : text ++ lines_text (map (spelled_seen space worker) (drop at own)) ≡ before ++ lines_text (map (spelled_seen space worker) (drop next own))) where
  pub some_passed : text ++ (lines_text (seen_lines space worker (without_first at (drop worker all)) ++ more) ++ last) ≡ before ++ (lines_text (seen_lines space worker (without_first next (drop worker all)) ++ more) ++ last)
  some_passed =
      subst (λ l. text ++ (lines_text (seen_lines space worker (without_first at l) ++ more) ++ last) ≡ before ++ (lines_text (seen_lines space worker (without_first next l) ++ more) ++ last)) (sym here)
      (front_passed_two text before (map (spelled_seen space worker) (drop at own)) (map (spelled_seen space worker) (drop next own)) (seen_lines space (worker + 1) (drop (worker + 1) all)) more last written)

  pub all_passed : length own ≤ at → text ++ (lines_text (seen_lines space (worker + 1) (without_first 0 (drop (worker + 1) all)) ++ more) ++ last) ≡ before ++ (lines_text (seen_lines space worker (without_first next (drop worker all)) ++ more) ++ last)
  all_passed ends =
      let rest = drop (worker + 1) all in
      let lines : List Receipt → List (List ℕ) = λ rs. map (spelled_seen space worker) rs in
      let whole : text ++ lines_text (lines []) ≡ before ++ lines_text (lines (drop next own)) = subst (λ rs. text ++ lines_text (lines rs) ≡ before ++ lines_text (lines (drop next own))) (drop_all at own ends) written in
      ap (λ l. text ++ (lines_text (seen_lines space (worker + 1) l ++ more) ++ last)) (without_none rest)
      ∙ subst (λ l. text ++ (lines_text (seen_lines space (worker + 1) rest ++ more) ++ last) ≡ before ++ (lines_text (seen_lines space worker (without_first next l) ++ more) ++ last)) (sym here)
      (front_passed_two text before [] (lines (drop next own)) (seen_lines space (worker + 1) rest) more last whole)
