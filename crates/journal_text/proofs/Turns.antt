-- The calls of entries that are read are numbered in turn.
use Rattle.std.proofs.Common.{◌≡◌, ℕ, zero, suc, ◌+◌, ◌<◌, List, [], ◌∷◌, ◌++◌, length, map, refl, sym, ap, ◌∙◌, subst, length-append, arith}
use Rattle.std.specs.Prelude.{slice_index_or}
use Rattle.std.specs.List.{fold}
use Rattle.damon_control.specs.Live.{CallValue, LiveValue}
use Rattle.run_journal.specs.declared.entry.CallAnswer.{CallAnswer}
use Rattle.run_journal.specs.declared.entry.Entry.{Entry}
use Rattle.run_journal.specs.declared.entry.Entry.TheVariants.{Prepare, Check, Void, Aggregate, Call}
use Rattle.run_journal.specs.Growth.{added_to, calls_so_far, with_call_of}
use Rattle.journal_text.specs.Rules.{CallsInTurn, InTurn, one_more}

-- the index of the next call of each controller after an entry
abbrev pub next_one : List ℕ → Entry → List ℕ
next_one next (Call controller index answer) = one_more controller next
next_one next _ = next

-- and after several
abbrev pub next_after : List ℕ → List Entry → List ℕ
next_after next es = fold next_one next es

-- ---- entries and more entries

InTurn-append : (next : List ℕ) (es more : List Entry) → InTurn next es → InTurn (next_after next es) more → InTurn next (es ++ more)
InTurn-append next [] more front back = back
InTurn-append next (Call c i a ∷ es) more front back = (front.0, front.1, InTurn-append (one_more c next) es more front.2 back)
InTurn-append next (Prepare pass position ∷ es) more front back = InTurn-append next es more front back
InTurn-append next (Check pass ∷ es) more front back = InTurn-append next es more front back
InTurn-append next (Void pass ∷ es) more front back = InTurn-append next es more front back
InTurn-append next (Aggregate tick position ∷ es) more front back = InTurn-append next es more front back

next_after-append : (next : List ℕ) (es : List Entry) (e : Entry) → next_after next (es ++ e ∷ []) ≡ next_one (next_after next es) e
next_after-append next [] e = refl
next_after-append next (x ∷ es) e = next_after-append (next_one next x) es e

-- ---- the calls of a script so far

-- the numbers of calls so far
abbrev pub counts : List (List CallValue) → List ℕ
counts lists = map (λ calls. length calls) lists

-- the calls of entries are numbered in turn, and they are those so far
pub record AreInTurn (v : LiveValue) (es : List Entry) : Type 0 where
  pub turn : CallsInTurn es
  pub next : next_after (0 ∷ 0 ∷ 0 ∷ 0 ∷ []) es ≡ counts v.controllers

-- one more entry that is no call
pub turn_same : (v : LiveValue) (es : List Entry) (e : Entry) → ((next : List ℕ) → InTurn next (e ∷ []) × (next_one next e ≡ next)) → AreInTurn v es → AreInTurn v (es ++ e ∷ [])
turn_same v es e alone are =
    let none : List ℕ = 0 ∷ 0 ∷ 0 ∷ 0 ∷ [] in
    let here = alone (next_after none es) in
    record { turn = InTurn-append none es (e ∷ []) are.turn here.0; next = next_after-append none es e ∙ here.1 ∙ are.next }

-- the numbers of calls, controller by controller
pub counts-length : (lists : List (List CallValue)) → length (counts lists) ≡ length lists
counts-length [] = refl
counts-length (l ∷ lists) = omega (arith, counts-length lists)

pub counts-at : (lists : List (List CallValue)) (k : ℕ) → slice_index_or (counts lists) k 0 ≡ length (slice_index_or lists k [])
counts-at [] k = refl
counts-at (l ∷ lists) zero = refl
counts-at (l ∷ lists) (suc k) = counts-at lists k

pub counts-added : (lists : List (List CallValue)) (k : ℕ) (call : CallValue) → one_more k (counts lists) ≡ counts (added_to k call lists)
counts-added [] zero call = refl
counts-added [] (suc k) call = refl
counts-added (l ∷ lists) zero call =
    let more : length l + 1 ≡ length (l ++ call ∷ []) = omega (arith, length-append l (call ∷ [])) in
    ap (λ (n : ℕ). n ∷ counts lists) more
counts-added (l ∷ lists) (suc k) call = ap (λ (ns : List ℕ). length l ∷ ns) (counts-added lists k call)

-- one more call of a controller
pub turn_called : (v : LiveValue) (es : List Entry) (c : ℕ) (call : CallValue) (answer : CallAnswer) → c < length v.controllers → AreInTurn v es
    → AreInTurn (with_call_of v c call) (es ++ Call c (length (calls_so_far v c)) answer ∷ [])
turn_called v es c call answer few are =
    let none : List ℕ = 0 ∷ 0 ∷ 0 ∷ 0 ∷ [] in
    let e = Call c (length (calls_so_far v c)) answer in
    let own : InTurn (counts v.controllers) (e ∷ []) = (omega (arith, few, counts-length v.controllers), sym (counts-at v.controllers c), tt) in
    record {
      turn = InTurn-append none es (e ∷ []) are.turn (subst (λ (ns : List ℕ). InTurn ns (e ∷ [])) (sym are.next) own);
      next = next_after-append none es e ∙ ap (one_more c) are.next ∙ counts-added v.controllers c call;
    }
