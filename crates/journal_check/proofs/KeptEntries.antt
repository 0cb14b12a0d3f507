-- What is kept of the entries of a text, after one entry more.
use Rattle.std.proofs.Common.{◌≡◌, ℕ, ◌+◌, ◌<◌, Bool, List, [], ◌∷◌, ◌++◌, length, Some, refl, sym, ap, ◌∙◌, append-nil, append_assoc, length-append, arith}
use Rattle.std.specs.Prelude.{Option}
use Rattle.live_commit.specs.SetupView.{value_of}
use Rattle.damon_control.specs.Live.{CallValue, LiveValue}
use Rattle.run_journal.specs.declared.entry.CallAnswer.{CallAnswer}
use Rattle.run_journal.specs.declared.entry.Entry.{Entry}
use Rattle.run_journal.specs.declared.entry.Entry.TheVariants.{Prepare, Check, Void, Aggregate, Call}
use Rattle.journal_check.specs.declared.entries.kept.Kept.{Kept}
use Rattle.run_journal.specs.Growth.{added_to, calls_so_far, with_call_of, longer}
use Rattle.journal_check.specs.Kept.{GainsEntry, IsKept, call_of, calls_from}
use Rattle.run_journal.specs.Replay.{EntriesFit, IsJournalOf, JournalValue, Replayed, begun, call_at, carried}
use Rattle.run_journal.proofs.Lemmas.{KeepsCalls, added-keeps, added-last, called_in, with_calls}

-- the calls of entries and then of one more
calls-snoc : (v : LiveValue) (n : ℕ) (es : List Entry) (e : Entry) → calls_from v n (es ++ e ∷ []) ≡ calls_from v n es ++ call_of v (n + length es) e
calls-snoc v n [] e =
    let same : n ≡ n + 0 = omega arith in
    append-nil (call_of v n e) ∙ ap (λ k. call_of v k e) same
calls-snoc v n (x ∷ es) e =
    let same : n + 1 + length es ≡ n + length (x ∷ es) = omega arith in
    ap (λ l. call_of v n x ++ l) (calls-snoc v (n + 1) es e)
    ∙ sym (append_assoc (call_of v n x) (calls_from v (n + 1) es) (call_of v (n + 1 + length es) e))
    ∙ ap (λ k. (call_of v n x ++ calls_from v (n + 1) es) ++ call_of v k e) same

-- entries have the same calls where the script has more
calls-kept : (v : LiveValue) (calls : List (List CallValue)) → KeepsCalls v calls → (r : Replayed) (n : ℕ) (es : List Entry) → EntriesFit v r es → calls_from (with_calls v calls) n es ≡ calls_from v n es
calls-kept v calls keeps r n [] fit = refl
calls-kept v calls keeps r n (Prepare pass pos ∷ es) fit = calls-kept v calls keeps (carried v r (Prepare pass pos)) (n + 1) es fit.1
calls-kept v calls keeps r n (Check pass ∷ es) fit = calls-kept v calls keeps (carried v r (Check pass)) (n + 1) es fit.1
calls-kept v calls keeps r n (Void pass ∷ es) fit = calls-kept v calls keeps (carried v r (Void pass)) (n + 1) es fit.1
calls-kept v calls keeps r n (Aggregate tick pos ∷ es) fit = calls-kept v calls keeps (carried v r (Aggregate tick pos)) (n + 1) es fit.1
calls-kept v calls keeps r n (Call c i answer ∷ es) fit =
    let same : called_in calls c i ≡ call_at v c i = keeps c i fit.0.1.0 fit.0.1.1 ∙ sym fit.0.1.1 in
    ap (λ (o : Option CallValue). (n, o) ∷ calls_from (with_calls v calls) (n + 1) es) same
    ∙ ap (λ l. (n, call_at v c i) ∷ l) (calls-kept v calls keeps (carried v r (Call c i answer)) (n + 1) es fit.1)

-- one entry more in the count
one_longer : (n : ℕ) (es : List Entry) (e : Entry) → n ≡ length es → n + 1 ≡ length (es ++ e ∷ [])
one_longer n es e same = omega (arith, same, length-append es (e ∷ []))

-- after an entry that is no call
pub kept_more : (v : LiveValue) (j : JournalValue) (e : Entry) (bits : List Bool) (old new : Kept) → ((n : ℕ) → call_of v n e ≡ []) → IsKept v j old → GainsEntry old new bits [] → IsKept v (longer j e bits) new
kept_more v j e bits old new none h gains = record {
  seed = h.seed ∙ sym gains.seed;
  setup = h.setup ∙ ap value_of (sym gains.setup);
  entries = gains.entries ∙ one_longer old.entries j.entries e h.entries;
  bits_are = λ all. gains.bits_are (sym gains.keeping ∙ all) ∙ ap (λ bs. bs ++ bits) (h.bits_are (sym gains.keeping ∙ all));
  calls_are = λ all.
      gains.calls_are (sym gains.keeping ∙ all)
      ∙ (ap (λ l. l ++ []) (h.calls_are (sym gains.keeping ∙ all))
      ∙ (ap (λ l. calls_from v 0 j.entries ++ l) (sym (none (0 + length j.entries))) ∙ sym (calls-snoc v 0 j.entries e)));
}

-- after a call, which becomes the next one of its controller
pub kept_after_call : (v : LiveValue) (j : JournalValue) (controller : ℕ) (call : CallValue) (answer : CallAnswer) (old new : Kept) → IsJournalOf v j → controller < length v.controllers → IsKept v j old
    → GainsEntry old new [] ((old.entries, Some call) ∷ []) → IsKept (with_call_of v controller call) (longer j (Call controller (length (calls_so_far v controller)) answer) []) new
kept_after_call v j controller call answer old new is below h gains =
    let w = with_call_of v controller call in
    let e = Call controller (length (calls_so_far v controller)) answer in
    let before = calls-kept v (added_to controller call v.controllers) (added-keeps v.controllers controller call) (begun v j.bits) 0 j.entries is.fit in
    let place : old.entries ≡ 0 + length j.entries = omega (arith, h.entries) in
    let last : call_at w controller (length (calls_so_far v controller)) ≡ Some call = added-last v.controllers controller call below in
    record {
      seed = h.seed ∙ sym gains.seed;
      setup = h.setup ∙ ap value_of (sym gains.setup);
      entries = gains.entries ∙ one_longer old.entries j.entries e h.entries;
      bits_are = λ all. gains.bits_are (sym gains.keeping ∙ all) ∙ ap (λ bs. bs ++ []) (h.bits_are (sym gains.keeping ∙ all));
      calls_are = λ all.
          gains.calls_are (sym gains.keeping ∙ all)
          ∙ (ap (λ l. l ++ (old.entries, Some call) ∷ []) (h.calls_are (sym gains.keeping ∙ all) ∙ sym before)
          ∙ (ap (λ n. calls_from w 0 j.entries ++ (n, Some call) ∷ []) place
          ∙ (ap (λ o. calls_from w 0 j.entries ++ (0 + length j.entries, o) ∷ []) (sym last) ∙ sym (calls-snoc w 0 j.entries e))));
    }
