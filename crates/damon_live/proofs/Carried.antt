-- A machine that carries out one entry more.
use Rattle.std.proofs.Common.{◌≡◌, ℕ, ◌+◌, ◌≤◌, Bool, List, [], ◌++◌, length, take, sym, ap, ◌∙◌, subst, append-nil, arith}
use Rattle.std.specs.List.{AllByRecursion}
use Rattle.std.proofs.lemmas.List.{take_all}
use Rattle.atomic_table.specs.Seated.{TableId}
use Rattle.damon_types.specs.Space.{pages_of}
use Rattle.live_commit.specs.declared.phase.Phase.{Phase}
use Rattle.live_commit.specs.declared.phase.Phase.TheVariants.{Armed}
use Rattle.page_words.specs.Clears.{last_clear_of, last_clear_pass}
use Rattle.page_words.specs.PassSteps.{clear_steps, load_steps}
use Rattle.page_words.specs.Seats.{MonitorSeatView}
use Rattle.page_words.proofs.Lemmas.{all_cleared}
use Rattle.damon_core.specs.State.{Core, row_count}
use Rattle.damon_control.specs.declared.live.LiveScript.{LiveScript}
use Rattle.damon_control.specs.Live.{LiveValue}
use Rattle.run_journal.specs.declared.entry.Entry.{Entry}
use Rattle.run_journal.specs.declared.entry.Entry.TheVariants.{Check, Prepare}
use Rattle.run_journal.specs.Counted.{prepares}
use Rattle.run_journal.specs.Growth.{replay_with}
use Rattle.run_journal.specs.Replay.{JournalValue, Replayed, carried, check_size, replay}
use Rattle.run_journal.specs.Replaying.{IsCarried, IsReplayOf, ReplayingView}
use Rattle.run_journal.specs.Room.{JournalView}
use Rattle.run_journal.specs.Steps.{entry_steps}
use Rattle.run_journal.proofs.Lemmas.{grows_by_entry}
use Rattle.damon_live.specs.Machine.{IsMachine, call_in, calls_left}
use Rattle.damon_live.proofs.Rooms.{IsExtended, Takes, room_left}

-- the picks of a pass that is armed were cleared in it last
abbrev pub AreCleared : MonitorSeatView → ReplayingView → Type 0
AreCleared seat r = r.monitor.core.phase ≡ Armed → AllByRecursion (λ p. last_clear_of p seat.entries ≡ r.monitor.core.ticks + 1) r.monitor.core.picks

-- what an entry does beside the replay: the seat makes its steps, and it takes no more than its room
pub record GoesOn (v : LiveValue) (old new : ReplayingView) (seat after : MonitorSeatView) (j : JournalView) (e : Entry) (bits : List Bool) (passes more : ℕ) : Type 0 where
  pub space : new.monitor.core.space ≡ old.monitor.core.space
  pub seat_is : after ≡ record seat { entries = seat.entries ++ entry_steps v (replay_with v j.value bits) e }
  pub cleared : AreCleared after new
  pub last : last_clear_pass after.entries ≤ new.monitor.core.ticks + 1
  pub takes : Takes v old new e bits
  pub passes_are : more ≡ passes + prepares e
  pub most : more ≤ v.passes
  pub called : call_in e ≤ calls_left v j.value.entries

pub goes_on : {v : LiveValue} {table : TableId} {seats : ℕ} {script : LiveScript} {old new : ReplayingView} {seat after : MonitorSeatView} {j next : JournalView} {e : Entry} {bits : List Bool} {passes more places : ℕ}
    → IsMachine v table seats script old seat j passes places → IsCarried v v j.value e bits new → IsExtended v j next e bits → GoesOn v old new seat after j e bits passes more → IsMachine v table seats script new after next more places
goes_on {v = v} {table = table} {old = old} {new = new} {seat = seat} {after = after} {j = j} {next = next} {e = e} {bits = bits} {passes = passes} {more = more} {places = places} i c is goes =
    let none : (carried v (replay_with v j.value bits) e).bits ≡ [] = ap (λ (x : Replayed). x.bits) (sym c.is) ∙ c.replays.journal.none_left in
    let grown = grows_by_entry v j.value next.value e bits is.value i.run.replays.journal c.fits none in
    record {
      said = i.said;
      limits = i.limits;
      pages = i.pages;
      out = ap (λ (s : MonitorSeatView). s.out) goes.seat_is ∙ i.out;
      run = record {
        replays = subst (λ k. IsReplayOf v k new) (sym is.value) c.replays;
        sizes = is.checked ∙ (ap (λ l. l ++ check_size (replay_with v j.value bits) e) i.run.sizes ∙ sym grown.sizes_are);
        place = ap (λ (s : MonitorSeatView). s.table) goes.seat_is ∙ i.run.place;
        pages = ap pages_of goes.space ∙ i.run.pages;
        steps_are = ap (λ (s : MonitorSeatView). s.entries) goes.seat_is ∙ (ap (λ es. es ++ entry_steps v (replay_with v j.value bits) e) i.run.steps_are ∙ sym grown.steps_are);
        cleared = goes.cleared;
        last = goes.last;
      };
      room = room_left v old new j next e bits passes more places i.room is goes.takes goes.passes_are goes.most goes.called;
    }

-- the same of an entry without steps, which begins no pass
pub goes_on_unseen : {v : LiveValue} {table : TableId} {seats : ℕ} {script : LiveScript} {old new : ReplayingView} {seat : MonitorSeatView} {j next : JournalView} {e : Entry} {passes places : ℕ}
    → IsMachine v table seats script old seat j passes places → IsCarried v v j.value e [] new → IsExtended v j next e [] → Takes v old new e []
    → new.monitor.core.space ≡ old.monitor.core.space → old.monitor.core.ticks ≤ new.monitor.core.ticks → AreCleared seat new
    → entry_steps v (replay_with v j.value []) e ≡ [] → prepares e ≡ 0 → call_in e ≤ calls_left v j.value.entries → IsMachine v table seats script new seat next passes places
goes_on_unseen {seat = seat} i c is takes space ticks cleared unseen none called = goes_on i c is (record {
  space = space;
  seat_is = ap (λ es. record seat { entries = es }) (sym (append-nil seat.entries) ∙ ap (λ es. seat.entries ++ es) (sym unseen));
  cleared = cleared;
  last = omega (arith, i.run.last, ticks);
  takes = takes;
  passes_are = omega (arith, none);
  most = i.room.most;
  called = called;
})

-- where the monitor is, by what the journal says
pub phase_is : {v : LiveValue} {j now : JournalValue} {r : ReplayingView} {ph : Phase} → IsReplayOf v j r → j ≡ now → (replay v now).state.core.phase ≡ ph → r.monitor.core.phase ≡ ph
phase_is {v = v} h same is = ap (λ (c : Core). c.phase) h.stands.same ∙ (ap (λ (j : JournalValue). (replay v j).state.core.phase) same ∙ is)

-- ---- the steps of a pass

-- the seat has cleared the picks of a pass that was prepared
pub cleared_steps : {v : LiveValue} {j : JournalValue} {new : ReplayingView} {pass at : ℕ} (seat after : MonitorSeatView) → IsCarried v v j (Prepare pass at) [] new → after ≡ record seat { entries = seat.entries ++ clear_steps pass new.monitor.core.picks }
    → after ≡ record seat { entries = seat.entries ++ entry_steps v (replay_with v j []) (Prepare pass at) }
cleared_steps {pass = pass} seat after c is = is ∙ ap (λ ps. record seat { entries = seat.entries ++ clear_steps pass ps }) (ap (λ (d : Core). d.picks) c.replays.stands.same ∙ ap (λ (x : Replayed). x.state.core.picks) c.is)

pub are_cleared : (new : ReplayingView) (seat after : MonitorSeatView) (pass : ℕ) → after ≡ record seat { entries = seat.entries ++ clear_steps pass new.monitor.core.picks } → pass ≡ new.monitor.core.ticks + 1 → AreCleared after new
are_cleared new seat after pass is number armed =
    let ps = new.monitor.core.picks in
    subst (λ es. AllByRecursion (λ q. last_clear_of q es ≡ new.monitor.core.ticks + 1) ps) (sym (ap (λ (s : MonitorSeatView). s.entries) is))
    (subst (λ n. AllByRecursion (λ q. last_clear_of q (seat.entries ++ clear_steps pass ps) ≡ n) ps) number (all_cleared pass seat.entries ps))

-- it has loaded them
pub loaded_steps : {v : LiveValue} {j : JournalValue} {old : ReplayingView} (seat : MonitorSeatView) (pass : ℕ) (bits : List Bool) → IsReplayOf v j old → length bits ≡ row_count old.monitor.core
    → record seat { entries = seat.entries ++ load_steps pass old.monitor.core.picks bits } ≡ record seat { entries = seat.entries ++ entry_steps v (replay_with v j bits) (Check pass) }
loaded_steps {old = old} seat pass bits h each =
    ap (λ bs. record seat { entries = seat.entries ++ load_steps pass old.monitor.core.picks bs }) (sym (take_all (row_count old.monitor.core) bits (omega (arith, each))))
    ∙ ap (λ (d : Core). record seat { entries = seat.entries ++ load_steps pass d.picks (take (row_count d) bits) }) h.stands.same
