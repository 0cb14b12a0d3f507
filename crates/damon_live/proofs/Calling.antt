-- Where a call stands in the lists of a script, and what it does to the monitor.
use Rattle.std.proofs.Common.{◌≡◌, ℕ, zero, suc, ◌+◌, Bool, true, false, cond, List, [], ◌∷◌, map, Some, Ok, Err, Option, refl, sym, ap, ◌∙◌, subst, arith}
use Rattle.std.specs.Prelude.{Result, slice_get, slice_index_or}
use Rattle.std.specs.List.{AllByRecursion}
use Rattle.std.specs.Option.{option_map_or}
use Rattle.page_words.specs.Clears.{last_clear_of}
use Rattle.page_words.specs.Seats.{MonitorSeatView}
use Rattle.damon_types.specs.Listed.{Listed}
use Rattle.damon_control.specs.declared.live.Call.{Call}
use Rattle.damon_control.specs.Live.{CallValue, CommitCall, LiveValue, ShowCall}
use Rattle.damon_control.specs.LiveView.{call_value, calls_of}
use Rattle.live_commit.specs.declared.fault.CommitFault.{CommitFault}
use Rattle.live_commit.specs.declared.phase.Phase.{Phase}
use Rattle.live_commit.specs.declared.phase.Phase.TheVariants.{Armed, Void as VoidPhase}
use Rattle.live_commit.specs.Commit.{CommitValue}
use Rattle.damon_core.specs.Commit.{becomes_void, check_of, committed, committed_core, if_accepted}
use Rattle.damon_core.specs.Reached.{run}
use Rattle.damon_core.specs.State.{Core, State}
use Rattle.damon_core.proofs.Lemmas.{kept_if_void}
use Rattle.run_journal.specs.declared.entry.CallAnswer.{CallAnswer}
use Rattle.run_journal.specs.declared.entry.Entry.TheVariants.{Call as CallEntry}
use Rattle.run_journal.specs.Growth.{replay_with}
use Rattle.run_journal.specs.Phases.{IsFree, passes_open}
use Rattle.run_journal.specs.Replay.{JournalValue, Replayed, call_at, call_event}
use Rattle.run_journal.specs.Replaying.{IsCarried, IsReplayOf, ReplayingView}
use Rattle.damon_live.specs.Machine.{entries_owed, words_owed}
use Rattle.damon_live.proofs.Carried.{AreCleared}
use Rattle.damon_live.proofs.Rooms.{Takes}

get_value : (xs : List Call) (i : ℕ) (x : Call) → slice_get xs i ≡ Some x → slice_get (map call_value xs) i ≡ Some (call_value x)
get_value [] i x here = absurd (cc here)
get_value (y ∷ ys) zero x here = let e : y ≡ x = cc here in ap (λ z. Some (call_value z)) e
get_value (y ∷ ys) (suc i) x here = get_value ys i x here

pub call_found : (lists : List (Listed Call)) (c i : ℕ) (l : Listed Call) (x : Call) → slice_get lists c ≡ Some l → slice_get l.list i ≡ Some x → slice_get (slice_index_or (calls_of lists) c []) i ≡ Some (call_value x)
call_found [] c i l x there here = absurd (cc there)
call_found (m ∷ ms) zero i l x there here = let e : m ≡ l = cc there in get_value m.list i x (ap (λ (k : Listed Call). slice_get k.list i) e ∙ here)
call_found (m ∷ ms) (suc c) i l x there here = call_found ms c i l x there here

pub one_call : (o : Option CallValue) (a b : CallValue) → o ≡ Some a → o ≡ Some b → a ≡ b
one_call o a b first second = let e : Some a ≡ Some b = sym first ∙ second in cc (e)

-- ---- what a call does to the monitor

-- what a call leaves: a commit makes an armed pass void, or changes no phase
pub record IsCalled (c d : Core) : Type 0 where
  pub counts : (f : Phase → ℕ) → f Armed ≡ f VoidPhase → f d.phase ≡ f c.phase
  pub free : IsFree c.phase → IsFree d.phase
  pub picks : d.phase ≡ Armed → (c.phase ≡ Armed) × (d.picks ≡ c.picks)

free_if_void : (ph : Phase) (b : Bool) → IsFree ph → IsFree (cond b VoidPhase ph)
free_if_void ph true free = tt
free_if_void ph false free = free

armed_if_not_void : (ph : Phase) (b : Bool) → cond b VoidPhase ph ≡ Armed → ph ≡ Armed
armed_if_not_void ph true armed = absurd (cc (armed))
armed_if_not_void ph false armed = armed

commit_called : (parts : CommitValue) (r : Result (Unit {0}) CommitFault) (s : State) → IsCalled s.core (if_accepted r (committed parts s) s).core
commit_called parts (Err fault) s = record { counts = λ f same. refl; free = λ free. free; picks = λ armed. (armed, refl) }
commit_called parts (Ok t) s =
    let void = becomes_void s.core.phase s.core.regions.rows (committed_core parts s.core).regions.rows in
    record {
      counts = λ f same. kept_if_void f same s.core.regions.rows (committed_core parts s.core).regions.rows s.core.phase;
      free = free_if_void s.core.phase void;
      picks = λ armed. (armed_if_not_void s.core.phase void armed, refl);
    }

event_called : (call : CallValue) (s : State) → IsCalled s.core (run s (call_event call ∷ [])).core
event_called ShowCall s = record { counts = λ f same. refl; free = λ free. free; picks = λ armed. (armed, refl) }
event_called (CommitCall parts) s = commit_called parts (check_of parts s.core) s

-- a call that is carried out
pub call_carried : {v : LiveValue} {j : JournalValue} {old new : ReplayingView} {controller index : ℕ} {call : CallValue} {answer : CallAnswer} → IsReplayOf v j old → call_at v controller index ≡ Some call → IsCarried v v j (CallEntry controller index answer) [] new → IsCalled old.monitor.core new.monitor.core
call_carried {v = v} {j = j} {old = old} {new = new} {call = call} h is c =
    let r = replay_with v j [] in
    let made : (run r.state (call_event call ∷ [])).core ≡ new.monitor.core = ap (λ o. (run r.state (option_map_or (λ (x : CallValue). call_event x ∷ []) o [])).core) (sym is) ∙ (ap (λ (x : Replayed). x.state.core) (sym c.is) ∙ sym c.replays.stands.same) in
    subst (λ d. IsCalled old.monitor.core d) made (subst (λ b. IsCalled b (run r.state (call_event call ∷ [])).core) (sym h.stands.same) (event_called call r.state))

pub call_takes : (v : LiveValue) (old new : ReplayingView) (controller index : ℕ) (answer : CallAnswer) → IsCalled old.monitor.core new.monitor.core → new.monitor.core.ticks ≡ old.monitor.core.ticks → new.drawn ≡ old.drawn → Takes v old new (CallEntry controller index answer) []
call_takes v old new controller index answer c ticks drawn = record {
  ended = 0;
  ticks = omega (arith, ticks);
  opens = omega (arith, c.counts passes_open refl);
  entries = omega (arith, c.counts entries_owed refl);
  results = omega arith;
  words = omega (arith, drawn, c.counts words_owed refl);
}

-- the picks stay cleared
pub still_cleared : (old new : ReplayingView) (seat : MonitorSeatView) → IsCalled old.monitor.core new.monitor.core → new.monitor.core.ticks ≡ old.monitor.core.ticks → AreCleared seat old → AreCleared seat new
still_cleared old new seat c ticks cleared armed =
    let was = c.picks armed in
    subst (λ ps. AllByRecursion (λ p. last_clear_of p seat.entries ≡ new.monitor.core.ticks + 1) ps) (sym was.1)
    (subst (λ t. AllByRecursion (λ p. last_clear_of p seat.entries ≡ t + 1) old.monitor.core.picks) (sym ticks) (cleared was.0))
