-- The passes in all never fall, and a check makes them one more.
use Rattle.std.proofs.Common.{◌≡◌, ℕ, ◌+◌, ◌≤◌, ◌<◌, Bool, List, [], ◌∷◌, ◌++◌, length, take, Ok, Err, map, sym, refl, subst, arith}
use Rattle.std.specs.Prelude.{Result}
use Rattle.live_commit.specs.declared.fault.CommitFault.{CommitFault}
use Rattle.live_commit.specs.declared.phase.Phase.{Phase}
use Rattle.live_commit.specs.declared.phase.Phase.TheVariants.{Idle, Clearing, Armed, Checking, Void, Due}
use Rattle.live_commit.specs.Commit.{CommitValue}
use Rattle.damon_core.specs.Note.{Note}
use Rattle.damon_core.specs.Commit.{check_of, committed, if_accepted}
use Rattle.damon_core.specs.State.{Core, State, row_count}
use Rattle.damon_core.specs.After.{after, by_clear, by_load, by_observe}
use Rattle.damon_core.specs.Event.{Event, touch, prepare, clear, load, observe, aggregate, commit, show}
use Rattle.damon_core.specs.Reached.{run}
use Rattle.damon_control.specs.Live.{LiveValue}
use Rattle.run_journal.specs.declared.entry.Entry.TheVariants.{Check}
use Rattle.run_journal.specs.Replay.{EntryFits, Replayed, carried, entry_events}
use Rattle.run_journal.proofs.Fitting.{at, length-taken}

clear_ticks : (ph : Phase) (s : State) → s.core.ticks ≤ (by_clear ph s).core.ticks
clear_ticks Idle s = omega arith
clear_ticks (Clearing k) s = omega arith
clear_ticks Armed s = omega arith
clear_ticks (Checking k) s = omega arith
clear_ticks Void s = omega arith
clear_ticks Due s = omega arith

load_ticks : (ph : Phase) (hit : Bool) (s : State) → s.core.ticks ≤ (by_load ph hit s).core.ticks
load_ticks Idle hit s = omega arith
load_ticks (Clearing k) hit s = omega arith
load_ticks Armed hit s = omega arith
load_ticks (Checking k) hit s = omega arith
load_ticks Void hit s = omega arith
load_ticks Due hit s = omega arith

observe_ticks : (ph : Phase) (s : State) → s.core.ticks ≤ (by_observe ph s).core.ticks
observe_ticks Idle s = omega arith
observe_ticks (Clearing k) s = omega arith
observe_ticks Armed s = omega arith
observe_ticks (Checking k) s = omega arith
observe_ticks Void s = omega arith
observe_ticks Due s = omega arith

commit_ticks : (r : Result (Unit {0}) CommitFault) (parts : CommitValue) (s : State) → s.core.ticks ≤ (if_accepted r (committed parts s) s).core.ticks
commit_ticks (Ok t) parts s = omega arith
commit_ticks (Err fault) parts s = omega arith

after_ticks : (s : State) (e : Event) → s.core.ticks ≤ (after s e).core.ticks
after_ticks s (touch page) = omega arith
after_ticks s (prepare words) = omega arith
after_ticks s clear = clear_ticks s.core.phase s
after_ticks s (load hit) = load_ticks s.core.phase hit s
after_ticks s observe = observe_ticks s.core.phase s
after_ticks s (aggregate words) = omega arith
after_ticks s (commit parts) = commit_ticks (check_of parts s.core) parts s
after_ticks s show = omega arith

pub run_ticks : (s : State) (es : List Event) → s.core.ticks ≤ (run s es).core.ticks
run_ticks s [] = omega arith
run_ticks s (e ∷ es) = omega (arith, after_ticks s e, run_ticks (after s e) es)

loads_tick : (c : Core) (k : ℕ) (bs : List Bool) (ns : List Note) → (run (at c (Checking k) ns) (map (λ bit. load bit) bs ++ observe ∷ [])).core.ticks ≡ c.ticks + 1
loads_tick c k [] ns = refl
loads_tick c k (b ∷ bs) ns = loads_tick c (k + 1) bs (after (at c (Checking k) ns) (load b)).notes

all_loads_tick : (c : Core) (bs : List Bool) (ns : List Note) → 0 < length bs → (run (at c Armed ns) (map (λ bit. load bit) bs ++ observe ∷ [])).core.ticks ≡ c.ticks + 1
all_loads_tick c [] ns some = absurd (omega (arith, some))
all_loads_tick c (b ∷ bs) ns some = loads_tick c 1 bs (after (at c Armed ns) (load b)).notes

pub check_ticks : (v : LiveValue) (r : Replayed) (pass : ℕ) → 0 < row_count r.state.core → EntryFits v r (Check pass) → (carried v r (Check pass)).state.core.ticks ≡ r.state.core.ticks + 1
check_ticks v r pass some fits =
    let c = r.state.core in
    let bits = take (row_count c) r.bits in
    let each : length bits ≡ row_count c = length-taken (row_count c) r.bits fits.2 in
    subst (λ ph. (run (at c ph r.state.notes) (entry_events v r (Check pass))).core.ticks ≡ c.ticks + 1) (sym fits.0) (all_loads_tick c bits r.state.notes (omega (arith, each, some)))
