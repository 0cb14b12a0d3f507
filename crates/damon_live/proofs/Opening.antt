-- A machine before the first pass.
use Rattle.std.proofs.Common.{◌≡◌, ℕ, ◌+◌, ◌-◌, ◌*◌, ◌≤◌, [], length, refl, sym, ap, ◌∙◌, subst, arith}
use Rattle.atomic_table.specs.Seated.{TableId}
use Rattle.damon_types.specs.Space.{pages_of}
use Rattle.live_commit.specs.declared.phase.Phase.TheVariants.{Idle}
use Rattle.page_words.specs.Clears.{last_clear_pass}
use Rattle.page_words.specs.Seats.{MonitorSeatView}
use Rattle.damon_core.specs.State.{Core, opening_core}
use Rattle.damon_control.specs.declared.live.TheConstants.{MAX_CALLS}
use Rattle.damon_control.specs.Live.{LiveValue, count_all}
use Rattle.run_journal.specs.Phases.{passes_open}
use Rattle.run_journal.specs.Replaying.{IsReplayOf, ReplayingView}
use Rattle.run_journal.specs.Room.{JournalView, empty_journal, nothing_said}
use Rattle.damon_live.specs.Machine.{HasRoom, IsRun, calls_left, entries_owed, passes_made, words_owed}

pub new_run : (v : LiveValue) (table : TableId) (r : ReplayingView) (seat : MonitorSeatView) (j : JournalView) (out room bit_room : ℕ) → IsReplayOf v nothing_said r → r.monitor.core ≡ opening_core v.setup → j ≡ empty_journal room bit_room
    → seat ≡ record { table = table; entries = []; out = out } → table.words ≡ pages_of v.setup.space → IsRun v table r seat j.value j.checked
new_run v table r seat j out room bit_room replays core empty fresh words =
    let idle : r.monitor.core.phase ≡ Idle = ap (λ (c : Core). c.phase) core in
    let none : last_clear_pass seat.entries ≡ 0 = ap (λ (s : MonitorSeatView). last_clear_pass s.entries) fresh in
    subst (λ (x : JournalView). IsRun v table r seat x.value x.checked) (sym empty) (record {
      replays = replays;
      sizes = refl;
      place = ap (λ (s : MonitorSeatView). s.table) fresh;
      pages = ap (λ (c : Core). pages_of c.space) core ∙ sym words;
      steps_are = ap (λ (s : MonitorSeatView). s.entries) fresh;
      cleared = λ armed. absurd (cc (idle, armed));
      last = omega (arith, none);
    })

pub new_room : (v : LiveValue) (r : ReplayingView) (j : JournalView) (passes cap places : ℕ) → r.monitor.core ≡ opening_core v.setup → r.drawn ≡ 0 → j ≡ empty_journal (3 * passes + MAX_CALLS) (passes * cap) → passes ≡ v.passes → cap ≡ v.setup.cap → count_all v.controllers ≤ MAX_CALLS → cap ≤ places → HasRoom v r j 0 places
new_room v r j passes cap places core drawn empty same_passes same_cap calls hits =
    let ticks : r.monitor.core.ticks ≡ 0 = ap (λ (d : Core). d.ticks) core in
    let closed : passes_open r.monitor.core.phase ≡ 0 = ap (λ (d : Core). passes_open d.phase) core in
    let owed : entries_owed r.monitor.core.phase ≡ 0 = ap (λ (d : Core). entries_owed d.phase) core in
    let words : words_owed r.monitor.core.phase ≡ 0 = ap (λ (d : Core). words_owed d.phase) core in
    let none : length j.value.entries ≡ 0 = ap (λ (x : JournalView). length x.value.entries) empty in
    let no_bits : length j.value.bits ≡ 0 = ap (λ (x : JournalView). length x.value.bits) empty in
    let left : calls_left v j.value.entries ≡ count_all v.controllers = ap (λ (x : JournalView). calls_left v x.value.entries) empty ∙ omega arith in
    let entries : j.room ≡ 3 * passes + MAX_CALLS = ap (λ (x : JournalView). x.room) empty in
    let bits : j.bit_room ≡ passes * cap = ap (λ (x : JournalView). x.bit_room) empty in
    let plain : passes - 0 + 0 ≡ passes = omega arith in
    let turned : cap * passes ≡ passes * cap = omega arith in
    let product : v.setup.cap * (v.passes - 0 + passes_open r.monitor.core.phase) ≡ passes * cap =
    ap (λ k. v.setup.cap * (v.passes - 0 + k)) closed ∙ (ap (λ k. k * (v.passes - 0 + 0)) (sym same_cap) ∙ (ap (λ k. cap * (k - 0 + 0)) (sym same_passes) ∙ (ap (λ k. cap * k) plain ∙ turned))) in
    record {
      made = ap (λ (x : JournalView). passes_made x.value) empty;
      passes_are = omega (arith, ticks, closed);
      most = omega arith;
      entries = omega (arith, none, owed, left, calls, entries, same_passes);
      results = omega (arith, no_bits, product, bits);
      drawn = omega (arith, words, drawn);
      hits = omega (arith, same_cap, hits);
    }
