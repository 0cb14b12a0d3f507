-- The passes and the random words that an entry takes, by the phases before and after it.
use Rattle.std.proofs.Common.{◌≡◌, ℕ, zero, suc, ◌+◌, ◌*◌, ◌≤◌, ◌<◌, true, false, cond, List, length, take, Ok, Err, refl, sym, ap, subst, arith, [], ◌∷◌}
use Rattle.std.specs.Prelude.{◌==◌, nat_le, Result}
use Rattle.std.specs.Option.{option_map_or}
use Rattle.std.proofs.lemmas.Bool.Decides.{nat_tests}
use Rattle.sampler.specs.Pick.{picks_of}
use Rattle.sampler.specs.Draws.{drawn}
use Rattle.live_commit.specs.declared.fault.CommitFault.{CommitFault}
use Rattle.live_commit.specs.declared.phase.Phase.{Phase}
use Rattle.live_commit.specs.declared.phase.Phase.TheVariants.{Idle, Clearing, Armed, Void as VoidPhase, Due}
use Rattle.live_commit.specs.Commit.{CommitValue}
use Rattle.damon_core.specs.After.{after, phase_after_pass}
use Rattle.damon_core.specs.Commit.{check_of, committed, committed_core, if_accepted}
use Rattle.damon_core.specs.Event.{clear}
use Rattle.damon_core.specs.Note.{Note}
use Rattle.damon_core.specs.Reached.{run}
use Rattle.damon_core.specs.Several.{clears}
use Rattle.damon_core.specs.State.{Core, State, row_count}
use Rattle.damon_core.proofs.Lemmas.{kept_if_void}
use Rattle.damon_control.specs.Live.{CallValue, CommitCall, LiveValue, ShowCall}
use Rattle.run_journal.specs.declared.entry.Entry.{Entry}
use Rattle.run_journal.specs.declared.entry.Entry.TheVariants.{Prepare, Check, Void, Aggregate, Call}
use Rattle.run_journal.specs.Counted.{prepares}
use Rattle.run_journal.specs.Phases.{passes_open}
use Rattle.run_journal.specs.Replay.{EntryFits, Replayed, call_event, carried, entry_events, words_taken}
use Rattle.run_journal.specs.Words.{words_after}
use Rattle.run_journal.proofs.Fitting.{at, clearing_on, length-taken}
use Rattle.run_journal.proofs.Ticks.{check_ticks}
use Rattle.run_journal.proofs.Weaving.{all_loads_end}

-- an aggregation may follow before the next pass
abbrev pub splits_open : Phase → ℕ
splits_open Armed = 1
splits_open VoidPhase = 1
splits_open Due = 1
splits_open _ = 0

-- whether an entry ends a pass, as a number
abbrev pub ends_pass : Entry → ℕ
ends_pass (Check pass) = 1
ends_pass (Void pass) = 1
ends_pass _ = 0

-- What an entry makes of the passes that were begun, of those that have ended, and of the random words. A pass takes one for each row,
-- and two for each row that an aggregation may leave, of at most 4096.
pub record IsCounted (old new : Core) (words prepared done : ℕ) : Type 0 where
  pub begun : new.ticks + passes_open new.phase ≡ old.ticks + passes_open old.phase + prepared
  pub ended : new.ticks ≡ old.ticks + done
  pub words_few : row_count old ≤ 4096 → old.attrs.max ≤ 4096 → words + 8192 * splits_open new.phase ≤ 8192 * splits_open old.phase + 12288 * prepared

-- what this entry makes of them
abbrev pub Counts : Core → Core → Entry → Type 0
Counts old new e = IsCounted old new (words_taken old e) (prepares e) (ends_pass e)

-- ---- a preparation

abbrev IsArmedAt : ℕ → State → Type 0
IsArmedAt ticks s = (s.core.phase ≡ Armed) × (s.core.ticks ≡ ticks)

clears_arm : (c : Core) (k n : ℕ) (ns : List Note) → k + suc n ≡ row_count c → IsArmedAt c.ticks (run (at c (Clearing k) ns) (clears (suc n)))
clears_arm c k zero ns is =
    let all : (k + 1 == row_count c) ≡ true = grind (arith, nat_tests) in
    (ap (λ b. cond b Armed (Clearing (k + 1))) all, refl)
clears_arm c k (suc n) ns is =
    let next = clearing_on k (row_count c) (omega (arith, is)) in
    let then : List Note = (after (at c (Clearing k) ns) clear).notes in
    subst (λ ph. IsArmedAt c.ticks (run (at c ph then) (clears (suc n)))) (sym next) (clears_arm c (k + 1) n then (omega (arith, is)))

all_clears_arm : (c : Core) (n : ℕ) (ns : List Note) → n ≡ row_count c → 0 < n → IsArmedAt c.ticks (run (at c (Clearing 0) ns) (clears n))
all_clears_arm c zero ns is some = absurd (omega (arith, some))
all_clears_arm c (suc n) ns is some = clears_arm c 0 n ns (omega (arith, is))

-- the passes and words where the phases are known
counted_as : (old new : Core) (was is : Phase) (words prepared done : ℕ) → old.phase ≡ was → new.phase ≡ is → new.ticks ≡ old.ticks + done → done + passes_open is ≡ passes_open was + prepared
    → (row_count old ≤ 4096 → old.attrs.max ≤ 4096 → words + 8192 * splits_open is ≤ 8192 * splits_open was + 12288 * prepared) → IsCounted old new words prepared done
counted_as old new was is words prepared done before now ticks passes few =
    let opened : passes_open new.phase ≡ passes_open is = ap passes_open now in
    let opened_before : passes_open old.phase ≡ passes_open was = ap passes_open before in
    let owed : splits_open new.phase ≡ splits_open is = ap splits_open now in
    let owed_before : splits_open old.phase ≡ splits_open was = ap splits_open before in
    record { begun = omega (arith, passes, ticks, opened, opened_before); ended = ticks; words_few = λ rows max. omega (arith, few rows max, owed, owed_before) }

counts_prepare : (v : LiveValue) (r : Replayed) (pass pos : ℕ) → 0 < row_count r.state.core → EntryFits v r (Prepare pass pos) → Counts r.state.core (carried v r (Prepare pass pos)).state.core (Prepare pass pos)
counts_prepare v r pass pos some fits =
    let c = r.state.core in
    let ws = drawn (row_count c) (words_after v.seed r.drawn) in
    let armed : IsArmedAt c.ticks (carried v r (Prepare pass pos)).state = all_clears_arm (record c { picks = picks_of c.regions.rows ws }) (row_count c) r.state.notes refl some in
    counted_as c (carried v r (Prepare pass pos)).state.core Idle Armed (row_count c) 1 0 fits.0 armed.0 (omega (arith, armed.1)) (omega arith) (λ rows max. omega (arith, rows))

-- ---- the end of a pass

-- an aggregation is due after it, or none
ended_as : (old new : Core) (was : Phase) (since aggr : ℕ) → old.phase ≡ was → new.phase ≡ phase_after_pass since aggr → new.ticks ≡ old.ticks + 1 → passes_open was ≡ 1 → splits_open was ≡ 1 → IsCounted old new 0 0 1
ended_as old new was since aggr before now ticks opened owed =
    elim (nat_le aggr since) as (λ b. new.phase ≡ cond b Due Idle → IsCounted old new 0 0 1) [
      | true ↦ λ due. counted_as old new was Due 0 0 1 before due ticks (omega (arith, opened)) (λ rows max. omega (arith, owed))
      | false ↦ λ idle. counted_as old new was Idle 0 0 1 before idle ticks (omega (arith, opened)) (λ rows max. omega (arith, owed))
    ] now

counts_check : (v : LiveValue) (r : Replayed) (pass : ℕ) → 0 < row_count r.state.core → EntryFits v r (Check pass) → IsCounted r.state.core (carried v r (Check pass)).state.core 0 0 1
counts_check v r pass some fits =
    let c = r.state.core in
    let bits = take (row_count c) r.bits in
    let each : length bits ≡ row_count c = length-taken (row_count c) r.bits fits.2 in
    let ended : (carried v r (Check pass)).state.core.phase ≡ phase_after_pass (c.since + 1) c.attrs.aggr = subst (λ ph. (run (at c ph r.state.notes) (entry_events v r (Check pass))).core.phase ≡ phase_after_pass (c.since + 1) c.attrs.aggr) (sym fits.0) (all_loads_end c bits r.state.notes (omega (arith, each, some))) in
    ended_as c (carried v r (Check pass)).state.core Armed (c.since + 1) c.attrs.aggr fits.0 ended (check_ticks v r pass some fits) refl refl

counts_void : (v : LiveValue) (r : Replayed) (pass : ℕ) → EntryFits v r (Void pass) → IsCounted r.state.core (carried v r (Void pass)).state.core 0 0 1
counts_void v r pass fits =
    let c = r.state.core in
    let s : Phase → State = λ ph. run (at c ph r.state.notes) (entry_events v r (Void pass)) in
    let ended : (carried v r (Void pass)).state.core.phase ≡ phase_after_pass (c.since + 1) c.attrs.aggr = subst (λ ph. (s ph).core.phase ≡ phase_after_pass (c.since + 1) c.attrs.aggr) (sym fits.0) refl in
    let ticks : (carried v r (Void pass)).state.core.ticks ≡ c.ticks + 1 = subst (λ ph. (s ph).core.ticks ≡ c.ticks + 1) (sym fits.0) refl in
    ended_as c (carried v r (Void pass)).state.core VoidPhase (c.since + 1) c.attrs.aggr fits.0 ended ticks refl refl

-- ---- a call

commit_ticks : (checked : Result (Unit {0}) CommitFault) (parts : CommitValue) (s : State) → (if_accepted checked (committed parts s) s).core.ticks ≡ s.core.ticks
commit_ticks (Ok t) parts s = refl
commit_ticks (Err fault) parts s = refl

commit_keeps : (f : Phase → ℕ) → f Armed ≡ f VoidPhase → (checked : Result (Unit {0}) CommitFault) (parts : CommitValue) (s : State) → f (if_accepted checked (committed parts s) s).core.phase ≡ f s.core.phase
commit_keeps f same (Ok t) parts s = kept_if_void f same s.core.regions.rows (committed_core parts s.core).regions.rows s.core.phase
commit_keeps f same (Err fault) parts s = refl

counts_call : (s : State) (call : CallValue) → IsCounted s.core (run s (call_event call ∷ [])).core 0 0 0
counts_call s ShowCall = record { begun = omega arith; ended = omega arith; words_few = λ rows max. omega arith }
counts_call s (CommitCall parts) =
    let now : Core = (run s (call_event (CommitCall parts) ∷ [])).core in
    let ticks : now.ticks ≡ s.core.ticks = commit_ticks (check_of parts s.core) parts s in
    let opened : passes_open now.phase ≡ passes_open s.core.phase = commit_keeps passes_open refl (check_of parts s.core) parts s in
    let owed : splits_open now.phase ≡ splits_open s.core.phase = commit_keeps splits_open refl (check_of parts s.core) parts s in
    record { begun = omega (arith, ticks, opened); ended = omega (arith, ticks); words_few = λ rows max. omega (arith, owed) }

-- ---- each entry

-- what an entry takes
pub entry_counts : (v : LiveValue) (r : Replayed) (e : Entry) → 0 < row_count r.state.core → EntryFits v r e → Counts r.state.core (carried v r e).state.core e
entry_counts v r (Prepare pass pos) some fits = counts_prepare v r pass pos some fits
entry_counts v r (Check pass) some fits = counts_check v r pass some fits
entry_counts v r (Void pass) some fits = counts_void v r pass fits
entry_counts v r (Aggregate tick pos) some fits =
    counted_as r.state.core (carried v r (Aggregate tick pos)).state.core Due Idle (2 * r.state.core.attrs.max) 0 0 fits.0 refl (omega arith) (omega arith) (λ rows max. omega (arith, max))
entry_counts v r (Call controller index answer) some fits =
    subst (λ o. IsCounted r.state.core (run r.state (option_map_or (λ (call : CallValue). call_event call ∷ []) o [])).core 0 0 0) (sym fits.1.1) (counts_call r.state fits.1.0)
