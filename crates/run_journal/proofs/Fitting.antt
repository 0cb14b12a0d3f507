-- Where an entry of a journal fits, its events do.
use Rattle.std.proofs.Common.{◌≡◌, ℕ, zero, suc, ◌+◌, ◌*◌, ◌≤◌, ◌<◌, Bool, false, cond, List, [], ◌∷◌, ◌++◌, length, take, Option, Some, None, Ok, Err, refl, sym, ap, ◌∙◌, subst, arith}
use Rattle.std.specs.Prelude.{◌==◌, map, Result}
use Rattle.std.specs.List.{AllByRecursion}
use Rattle.std.specs.Option.{option_map_or}
use Rattle.std.proofs.lemmas.Bool.Decides.{nat_tests}
use Rattle.std.proofs.lemmas.List.{length-take}
use Rattle.rand_core.specs.Stream.{Stream, next_u32}
use Rattle.sampler.specs.Draws.{drawn}
use Rattle.sampler.specs.Pick.{picks_of}
use Rattle.live_commit.specs.declared.fault.CommitFault.{CommitFault}
use Rattle.live_commit.specs.declared.phase.Phase.{Phase}
use Rattle.live_commit.specs.declared.phase.Phase.TheVariants.{Idle, Clearing, Armed, Checking, Void as VoidPhase, Due}
use Rattle.live_commit.specs.Commit.{CommitValue}
use Rattle.damon_core.specs.Note.{Note}
use Rattle.damon_core.specs.Commit.{check_of, committed, if_accepted}
use Rattle.damon_core.specs.State.{Core, State, row_count}
use Rattle.damon_core.specs.After.{after, by_clear, by_load, by_observe, phase_cleared}
use Rattle.damon_core.specs.Event.{Event, touch, prepare, clear, load, observe, aggregate, commit, show, IsObserving}
use Rattle.damon_core.specs.Several.{clears}
use Rattle.damon_core.specs.Reached.{AllFit, Reached, run}
use Rattle.damon_core.proofs.Lemmas.{Reached-run}
use Rattle.damon_control.specs.Live.{CallValue, CommitCall, LiveValue, ShowCall}
use Rattle.run_journal.specs.declared.entry.Entry.{Entry}
use Rattle.run_journal.specs.declared.entry.Entry.TheVariants.{Prepare, Check, Void, Aggregate, Call}
use Rattle.run_journal.specs.Replay.{EntryFits, Replayed, call_at, call_event, carried, entry_events}
use Rattle.run_journal.specs.Words.{words_after}
use Rattle.run_journal.proofs.Untouched.{IsNoTouch}

-- a state by its core, its phase and its notes
abbrev pub at : Core → Phase → List Note → State
at c ph ns = record { core = record c { phase = ph }; notes = ns }

pub length-words : (n : ℕ) (s : Stream) → length (drawn n s) ≡ n
length-words zero s = refl
length-words (suc n) s = ap suc (length-words n (next_u32 s).1)

-- ---- what fits

-- a further clear comes next
pub clearing_on : (k rows : ℕ) → k + 1 < rows → phase_cleared (k + 1) rows ≡ Clearing (k + 1)
clearing_on k rows below = let e : (k + 1 == rows) ≡ false = grind (arith, nat_tests) in ap (λ b. cond b Armed (Clearing (k + 1))) e

clears_fit : (c : Core) (k n : ℕ) (ns : List Note) → k + suc n ≡ row_count c → AllFit (at c (Clearing k) ns) (clears (suc n))
clears_fit c k zero ns is = (tt, tt)
clears_fit c k (suc n) ns is =
    let next = clearing_on k (row_count c) (omega (arith, is)) in
    let then : List Note = (after (at c (Clearing k) ns) clear).notes in
    (tt, subst (λ ph. AllFit (at c ph then) (clears (suc n))) (sym next) (clears_fit c (k + 1) n then (omega (arith, is))))

all_clears_fit : (c : Core) (n : ℕ) (ns : List Note) → n ≡ row_count c → 0 < n → AllFit (at c (Clearing 0) ns) (clears n)
all_clears_fit c zero ns is some = absurd (omega (arith, some))
all_clears_fit c (suc n) ns is some = clears_fit c 0 n ns (omega (arith, is))

loads_fit : (c : Core) (k : ℕ) (bs : List Bool) (ns : List Note) → k + length bs ≡ row_count c → AllFit (at c (Checking k) ns) (map (λ bit. load bit) bs ++ observe ∷ [])
loads_fit c k [] ns is = (omega (arith, is), tt)
loads_fit c k (b ∷ bs) ns is = (omega (arith, is), loads_fit c (k + 1) bs (after (at c (Checking k) ns) (load b)).notes (omega (arith, is)))

all_loads_fit : (c : Core) (bs : List Bool) (ns : List Note) → length bs ≡ row_count c → 0 < row_count c → AllFit (at c Armed ns) (map (λ bit. load bit) bs ++ observe ∷ [])
all_loads_fit c [] ns is some = absurd (omega (arith, is, some))
all_loads_fit c (b ∷ bs) ns is some = (tt, loads_fit c 1 bs (after (at c Armed ns) (load b)).notes (omega (arith, is)))

call_fits : (s : State) (call : CallValue) → AllFit s (call_event call ∷ [])
call_fits s ShowCall = (tt, tt)
call_fits s (CommitCall parts) = (tt, tt)

-- the results of a check, one for each row
pub length-taken : (rows : ℕ) (bits : List Bool) → rows ≤ length bits → length (take rows bits) ≡ rows
length-taken rows bits enough = omega (arith, enough, length-take rows bits)

pub entry_fits : (v : LiveValue) (r : Replayed) (e : Entry) → 0 < row_count r.state.core → EntryFits v r e → AllFit r.state (entry_events v r e)
entry_fits v r (Prepare pass pos) some fits =
    let ws = drawn (row_count r.state.core) (words_after v.seed r.drawn) in
    ((fits.0, length-words (row_count r.state.core) (words_after v.seed r.drawn)), all_clears_fit (record r.state.core { picks = picks_of r.state.core.regions.rows ws }) (row_count r.state.core) r.state.notes refl some)
entry_fits v r (Check pass) some fits =
    subst (λ ph. AllFit (at r.state.core ph r.state.notes) (entry_events v r (Check pass))) (sym fits.0)
    (all_loads_fit r.state.core (take (row_count r.state.core) r.bits) r.state.notes (length-taken (row_count r.state.core) r.bits fits.2) some)
entry_fits v r (Void pass) some fits = (subst (λ ph. IsObserving ph (row_count r.state.core)) (sym fits.0) tt, tt)
entry_fits v r (Aggregate tick pos) some fits = ((fits.0, length-words (2 * r.state.core.attrs.max) (words_after v.seed r.drawn)), tt)
entry_fits v r (Call controller index answer) some fits =
    subst (λ o. AllFit r.state (option_map_or (λ call. call_event call ∷ []) o [])) (sym fits.1.1) (call_fits r.state fits.1.0)

-- after an entry that fits the state is reached
pub carried_reached : (v : LiveValue) (r : Replayed) (e : Entry) → 0 < row_count r.state.core → Reached r.state → EntryFits v r e → Reached (carried v r e).state
carried_reached v r e some reached fits = Reached-run r.state (entry_events v r e) reached (entry_fits v r e some fits)

-- ---- none of the events is a touch

own_clears : (n : ℕ) → AllByRecursion IsNoTouch (clears n)
own_clears zero = tt
own_clears (suc n) = (tt, own_clears n)

own_loads : (bs : List Bool) → AllByRecursion IsNoTouch (map (λ bit. load bit) bs ++ observe ∷ [])
own_loads [] = (tt, tt)
own_loads (b ∷ bs) = (tt, own_loads bs)

own_call : (call : CallValue) → AllByRecursion IsNoTouch (call_event call ∷ [])
own_call ShowCall = (tt, tt)
own_call (CommitCall parts) = (tt, tt)

own_calls : (o : Option CallValue) → AllByRecursion IsNoTouch (option_map_or (λ call. call_event call ∷ []) o [])
own_calls None = tt
own_calls (Some call) = own_call call

pub entry_own : (v : LiveValue) (r : Replayed) (e : Entry) → AllByRecursion IsNoTouch (entry_events v r e)
entry_own v r (Prepare pass pos) = (tt, own_clears (row_count r.state.core))
entry_own v r (Check pass) = own_loads (take (row_count r.state.core) r.bits)
entry_own v r (Void pass) = (tt, tt)
entry_own v r (Aggregate tick pos) = (tt, tt)
entry_own v r (Call controller index answer) = own_calls (call_at v controller index)

-- ---- the space stays

pass_space : (ph : Phase) (hit : Bool) (s : State) → ((by_clear ph s).core.space ≡ s.core.space) × ((by_load ph hit s).core.space ≡ s.core.space) × ((by_observe ph s).core.space ≡ s.core.space)
pass_space Idle hit s = (refl, refl, refl)
pass_space (Clearing k) hit s = (refl, refl, refl)
pass_space Armed hit s = (refl, refl, refl)
pass_space (Checking k) hit s = (refl, refl, refl)
pass_space VoidPhase hit s = (refl, refl, refl)
pass_space Due hit s = (refl, refl, refl)

commit_space : (r : Result (Unit {0}) CommitFault) (parts : CommitValue) (s : State) → (if_accepted r (committed parts s) s).core.space ≡ s.core.space
commit_space (Ok t) parts s = refl
commit_space (Err fault) parts s = refl

after_space : (s : State) (e : Event) → (after s e).core.space ≡ s.core.space
after_space s (touch page) = refl
after_space s (prepare words) = refl
after_space s clear = (pass_space s.core.phase false s).0
after_space s (load hit) = (pass_space s.core.phase hit s).1
after_space s observe = (pass_space s.core.phase false s).2
after_space s (aggregate words) = refl
after_space s (commit parts) = commit_space (check_of parts s.core) parts s
after_space s show = refl

pub run_space : (s : State) (es : List Event) → (run s es).core.space ≡ s.core.space
run_space s [] = refl
run_space s (e ∷ es) = run_space (after s e) es ∙ after_space s e
