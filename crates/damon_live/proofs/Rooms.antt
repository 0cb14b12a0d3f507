-- The room that is left after an entry.
use Rattle.std.proofs.Common.{◌≡◌, ℕ, ◌+◌, ◌-◌, ◌*◌, ◌^◌, ◌≤◌, Bool, List, [], ◌∷◌, ◌++◌, length, refl, sym, ap, ◌∙◌, subst, append-nil, length-append, arith}
use Rattle.std.proofs.lemmas.List.Sums.{sum_by_push}
use Rattle.live_commit.specs.declared.phase.Phase.{Phase}
use Rattle.live_commit.specs.declared.phase.Phase.TheVariants.{Idle, Clearing, Armed, Checking, Due, Void as VoidPhase}
use Rattle.damon_core.specs.Pass.{IsBetween}
use Rattle.damon_core.specs.Stands.{last_pass}
use Rattle.damon_core.specs.State.{row_count}
use Rattle.damon_control.specs.Live.{LiveValue}
use Rattle.run_journal.specs.Phases.{passes_open}
use Rattle.run_journal.specs.declared.entry.Entry.{Entry}
use Rattle.run_journal.specs.declared.entry.Entry.TheVariants.{Aggregate, Check, Prepare}
use Rattle.run_journal.specs.Counted.{prepares}
use Rattle.run_journal.specs.Growth.{longer, replay_with}
use Rattle.run_journal.specs.Replay.{JournalValue, check_size, replay}
use Rattle.run_journal.specs.Replaying.{ReplayingView}
use Rattle.run_journal.specs.Room.{JournalView, with_entry, with_results}
use Rattle.damon_live.specs.Machine.{HasRoom, call_in, calls_left, entries_owed, passes_made, words_owed}

-- a journal with one more entry and these results, and with the same room
pub record IsExtended (v : LiveValue) (j new : JournalView) (e : Entry) (bits : List Bool) : Type 0 where
  pub value : new.value ≡ longer j.value e bits
  pub checked : new.checked ≡ j.checked ++ check_size (replay_with v j.value bits) e
  pub room : new.room ≡ j.room
  pub bit_room : new.bit_room ≡ j.bit_room

-- an entry without results
pub by_entry : (v : LiveValue) (j new : JournalView) (e : Entry) → check_size (replay_with v j.value []) e ≡ [] → new ≡ with_entry e j → IsExtended v j new e []
by_entry v j new e none is = record {
  value = ap (λ (x : JournalView). x.value) is ∙ ap (λ l. record { entries = j.value.entries ++ e ∷ []; bits = l }) (sym (append-nil j.value.bits));
  checked = ap (λ (x : JournalView). x.checked) is ∙ (sym (append-nil j.checked) ∙ ap (λ l. j.checked ++ l) (sym none));
  room = ap (λ (x : JournalView). x.room) is;
  bit_room = ap (λ (x : JournalView). x.bit_room) is;
}

-- a check
pub by_check : (v : LiveValue) (j new : JournalView) (pass : ℕ) (bits : List Bool) → length bits ≡ row_count (replay v j.value).state.core → new ≡ with_entry (Check pass) (with_results bits j) → IsExtended v j new (Check pass) bits
by_check v j new pass bits size is = record {
  value = ap (λ (x : JournalView). x.value) is;
  checked = ap (λ (x : JournalView). x.checked) is ∙ ap (λ k. j.checked ++ k ∷ []) size;
  room = ap (λ (x : JournalView). x.room) is;
  bit_room = ap (λ (x : JournalView). x.bit_room) is;
}

-- an entry takes what was owed to it: it ends this many passes, and has results for them alone
pub record Takes (v : LiveValue) (old new : ReplayingView) (e : Entry) (bits : List Bool) : Type 0 where
  pub ended : ℕ
  pub ticks : new.monitor.core.ticks ≡ old.monitor.core.ticks + ended
  pub opens : passes_open new.monitor.core.phase + ended ≡ passes_open old.monitor.core.phase + prepares e
  pub entries : entries_owed new.monitor.core.phase + 1 ≤ entries_owed old.monitor.core.phase + 3 * prepares e + call_in e
  pub results : length bits ≤ v.setup.cap * ended
  pub words : new.drawn + words_owed new.monitor.core.phase ≤ old.drawn + words_owed old.monitor.core.phase + 2 ^ 34 * prepares e

results_left : (bits more cap k ended q room : ℕ) → bits + cap * (k + (q + ended)) ≤ room → more ≤ cap * ended → bits + more + cap * (k + q) ≤ room
results_left bits more cap k ended q room old takes = omega (arith, old, takes)

calls_after : (v : LiveValue) (es : List Entry) (e : Entry) → call_in e ≤ calls_left v es → calls_left v (es ++ e ∷ []) + call_in e ≡ calls_left v es
calls_after v es e some = omega (arith, sum_by_push call_in es e, some)

pub room_left : (v : LiveValue) (old new : ReplayingView) (j next : JournalView) (e : Entry) (bits : List Bool) (passes more places : ℕ) → HasRoom v old j passes places → IsExtended v j next e bits → Takes v old new e bits
    → more ≡ passes + prepares e → more ≤ v.passes → call_in e ≤ calls_left v j.value.entries → HasRoom v new next more places
room_left v old new j next e bits passes more places h is t more_is most called =
    let count : length next.value.entries ≡ length j.value.entries + 1 = ap (λ (x : JournalValue). length x.entries) is.value ∙ length-append j.value.entries (e ∷ []) in
    let results : length next.value.bits ≡ length j.value.bits + length bits = ap (λ (x : JournalValue). length x.bits) is.value ∙ length-append j.value.bits bits in
    let calls : calls_left v next.value.entries + call_in e ≡ calls_left v j.value.entries = ap (λ (x : JournalValue). calls_left v x.entries + call_in e) is.value ∙ calls_after v j.value.entries e called in
    let split : v.passes - passes ≡ v.passes - more + prepares e = omega (arith, more_is, most) in
    let opened : v.passes - passes + passes_open old.monitor.core.phase ≡ v.passes - more + (passes_open new.monitor.core.phase + t.ended) = omega (arith, split, t.opens) in
    let owed = subst (λ k. length j.value.bits + v.setup.cap * k ≤ j.bit_room) opened h.results in
    let left = results_left (length j.value.bits) (length bits) v.setup.cap (v.passes - more) t.ended (passes_open new.monitor.core.phase) j.bit_room owed t.results in
    record {
      made = ap passes_made is.value ∙ (sum_by_push prepares j.value.entries e ∙ omega (arith, h.made, more_is));
      passes_are = omega (arith, t.ticks, t.opens, h.passes_are, more_is);
      most = most;
      entries = omega (arith, h.entries, count, t.entries, is.room, calls, split);
      results = subst (λ k. k + v.setup.cap * (v.passes - more + passes_open new.monitor.core.phase) ≤ next.bit_room) (sym results) (subst (λ k. length j.value.bits + length bits + v.setup.cap * (v.passes - more + passes_open new.monitor.core.phase) ≤ k) (sym is.bit_room) left);
      drawn = omega (arith, h.drawn, t.words, more_is);
      hits = h.hits;
    }

-- the results of a pass that is open fit
pub room_for_results : {v : LiveValue} {r : ReplayingView} {j : JournalView} {passes places : ℕ} (more : ℕ) → HasRoom v r j passes places → passes_open r.monitor.core.phase ≡ 1 → more ≤ v.setup.cap → length j.value.bits + more ≤ j.bit_room
room_for_results {v = v} {j = j} {passes = passes} more h opened few =
    let k : ℕ = v.passes - passes in
    let spread : v.setup.cap * (k + 1) ≡ v.setup.cap * k + v.setup.cap = omega arith in
    omega (arith, few, subst (λ x. length j.value.bits + x ≤ j.bit_room) (ap (λ n. v.setup.cap * (k + n)) opened ∙ spread) h.results)

-- ---- what each entry takes

pub prepare_takes : (v : LiveValue) (old new : ReplayingView) (pass at : ℕ) → old.monitor.core.phase ≡ Idle → new.monitor.core.phase ≡ Armed → new.monitor.core.ticks ≡ old.monitor.core.ticks → new.drawn ≤ old.drawn + 2 ^ 33 → Takes v old new (Prepare pass at) []
prepare_takes v old new pass at idle armed ticks few = record {
  ended = 0;
  ticks = omega (arith, ticks);
  opens = omega (arith, ap passes_open idle, ap passes_open armed);
  entries = omega (arith, ap entries_owed idle, ap entries_owed armed);
  results = omega arith;
  words = omega (arith, few, ap words_owed idle, ap words_owed armed);
}

-- a pass has ended: an aggregation is due, or none
pub record IsEnd (ph : Phase) : Type 0 where
  pub between : IsBetween ph
  pub not_armed : ph ≡ Armed → ⊥
  pub closed : passes_open ph ≡ 0
  pub entries : entries_owed ph ≤ 1
  pub words : words_owed ph ≤ 2 ^ 33

pub is_end : (ph : Phase) (ticks : ℕ) → last_pass ph ticks ≡ ticks → IsEnd ph
is_end Idle ticks ended = record { between = tt; not_armed = λ is. cc (is); closed = refl; entries = omega arith; words = omega arith }
is_end Due ticks ended = record { between = tt; not_armed = λ is. cc (is); closed = refl; entries = omega arith; words = omega arith }
is_end Armed ticks ended = absurd (omega (arith, ended))
is_end VoidPhase ticks ended = absurd (omega (arith, ended))
is_end (Clearing k) ticks ended = absurd (omega (arith, ended))
is_end (Checking k) ticks ended = absurd (omega (arith, ended))

pub end_takes : (v : LiveValue) (old new : ReplayingView) (e : Entry) (bits : List Bool) → passes_open old.monitor.core.phase ≡ 1 → entries_owed old.monitor.core.phase ≡ 2 → words_owed old.monitor.core.phase ≡ 2 ^ 33
    → prepares e ≡ 0 → length bits ≤ v.setup.cap → IsEnd new.monitor.core.phase → new.monitor.core.ticks ≡ old.monitor.core.ticks + 1 → new.drawn ≡ old.drawn → Takes v old new e bits
end_takes v old new e bits opened owed words none few end ticks drawn = record {
  ended = 1;
  ticks = ticks;
  opens = omega (arith, opened, end.closed, none);
  entries = omega (arith, owed, end.entries);
  results = omega (arith, few);
  words = omega (arith, words, drawn, end.words);
}

pub aggregate_takes : (v : LiveValue) (old new : ReplayingView) (tick at : ℕ) → old.monitor.core.phase ≡ Due → new.monitor.core.phase ≡ Idle → new.monitor.core.ticks ≡ old.monitor.core.ticks → new.drawn ≤ old.drawn + 2 ^ 33 → Takes v old new (Aggregate tick at) []
aggregate_takes v old new tick at due idle ticks few = record {
  ended = 0;
  ticks = omega (arith, ticks);
  opens = omega (arith, ap passes_open due, ap passes_open idle);
  entries = omega (arith, ap entries_owed due, ap entries_owed idle);
  results = omega arith;
  words = omega (arith, few, ap words_owed due, ap words_owed idle);
}
