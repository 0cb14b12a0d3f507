-- The woven events of a lawful journal: they fit, the results of their loads are right, and they lead where the replay does.
use Rattle.std.proofs.Common.{◌≡◌, ℕ, suc, ◌+◌, ◌<◌, Bool, true, false, cond, List, [], ◌∷◌, ◌++◌, length, take, Option, Some, None, Ok, Err, refl, sym, ap, ◌∙◌, subst, arith}
use Rattle.std.specs.Prelude.{filter, filter_map, map, nat_le, reverse, Result}
use Rattle.std.specs.List.{AllByRecursion}
use Rattle.std.specs.Option.{option_map_or}
use Rattle.std.proofs.lemmas.List.Elements.{Contains-append_left, Contains-append_right, filter-append}
use Rattle.std.proofs.lemmas.List.{reverse-append}
use Rattle.damon_types.specs.Space.{pages_of}
use Rattle.damon_types.specs.declared.row.Row.{Row}
use Rattle.damon_types.specs.declared.scheme.CostPart.{CostPart}
use Rattle.damon_types.specs.declared.scheme.Scheme.{Scheme}
use Rattle.damon_types.specs.declared.scheme.SlotChange.{SlotChange}
use Rattle.sampler.specs.Draws.{drawn}
use Rattle.sampler.specs.Pick.{picks_of}
use Rattle.live_commit.specs.declared.fault.CommitFault.{CommitFault}
use Rattle.live_commit.specs.declared.phase.Phase.{Phase}
use Rattle.live_commit.specs.declared.phase.Phase.TheVariants.{Idle, Clearing, Armed, Checking, Void as VoidPhase, Due}
use Rattle.live_commit.specs.Commit.{CommitValue}
use Rattle.live_commit.specs.Setup.{SetupValue}
use Rattle.page_words.specs.declared.view.Entry.TheVariants.{Load}
use Rattle.damon_core.specs.Bound.{Bound}
use Rattle.damon_core.specs.Note.{Note, set, dropped}
use Rattle.damon_core.specs.Commit.{becomes_void, check_of, committed, committed_core, if_accepted}
use Rattle.damon_core.specs.State.{Core, State, opening, row_count}
use Rattle.damon_core.specs.After.{after, phase_after_pass}
use Rattle.damon_core.specs.Event.{prepare, load, observe}
use Rattle.damon_core.specs.InPhase.{IsInPhase}
use Rattle.damon_core.proofs.Lemmas.{AllByHit-append, AllFit-append, run-append, set_note, with_cost, with_metric, with_slot}
use Rattle.damon_core.specs.Pass.{IsInPass, PagesRiseFrom}
use Rattle.damon_core.specs.Several.{clears}
use Rattle.damon_core.specs.Reached.{AllByHit, AllFit, Reached, ReachedByHit, run}
use Rattle.damon_control.specs.Live.{CallValue, CommitCall, LiveValue, ShowCall}
use Rattle.run_journal.specs.declared.entry.CallAnswer.{CallAnswer}
use Rattle.run_journal.specs.declared.entry.Entry.{Entry}
use Rattle.run_journal.specs.declared.entry.Entry.TheVariants.{Prepare, Check, Void, Aggregate, Call}
use Rattle.run_journal.specs.declared.entry.Receipt.{Receipt}
use Rattle.run_journal.specs.Replay.{EntriesFit, EntryFits, Replayed, call_at, call_event, carried, entry_events, replay_from}
use Rattle.run_journal.specs.Steps.{entry_steps, steps_from}
use Rattle.run_journal.specs.Woven.{is_no_touch, untouched}
use Rattle.run_journal.specs.Words.{words_after}
use Rattle.run_journal.proofs.Untouched.{AllFit-untouched, run-untouched}
use Rattle.run_journal.proofs.Fitting.{at, carried_reached, entry_fits, entry_own, length-taken, length-words, run_space}
use Rattle.run_journal.proofs.Quiet.{HitsReceived, IsArmedBy, Quiet, all_clears_quiet, all_loads_by_hit, all_right, tagged, told_by_pages, touched_core}
use Rattle.run_journal.proofs.WovenList.{hit_at, touches_after, touches_before, woven_from}
use Rattle.run_journal.proofs.WovenTouches.{no_loads, clears_load_nothing, calls_load_nothing, before_are, after_are, touched_by}

-- what is known of states that are reached
pub record PassLaws : Type 0 where
  pub bound : (s : State) → ReachedByHit s → Bound s
  pub in_phase : (s : State) → Reached s → IsInPhase s
  pub picks : (s : State) → Reached s → IsInPass s.core.phase → (length s.core.picks ≡ row_count s.core) × PagesRiseFrom 0 s.core.picks

abbrev pub MayLoad : Phase → Type 0
MayLoad Armed = Unit {0}
MayLoad _ = ⊥

-- where a load comes next, the picks were cleared and not touched since
abbrev pub IsReady : Core → List Note → Type 0
IsReady c ns = MayLoad c.phase → AllByRecursion (Quiet ns) c.picks

not_after_pass : (since aggr : ℕ) → MayLoad (phase_after_pass since aggr) → ⊥
not_after_pass since aggr = elim (nat_le aggr since) as (λ b. MayLoad (cond b Due Idle) → ⊥) [ true ↦ λ m. m | false ↦ λ m. m ]

-- the phase in which loads end
loads_end : (c : Core) (k : ℕ) (bs : List Bool) (ns : List Note) → (run (at c (Checking k) ns) (map (λ bit. load bit) bs ++ observe ∷ [])).core.phase ≡ phase_after_pass (c.since + 1) c.attrs.aggr
loads_end c k [] ns = refl
loads_end c k (b ∷ bs) ns = loads_end c (k + 1) bs (after (at c (Checking k) ns) (load b)).notes

pub all_loads_end : (c : Core) (bs : List Bool) (ns : List Note) → 0 < length bs → (run (at c Armed ns) (map (λ bit. load bit) bs ++ observe ∷ [])).core.phase ≡ phase_after_pass (c.since + 1) c.attrs.aggr
all_loads_end c [] ns some = absurd (omega (arith, some))
all_loads_end c (b ∷ bs) ns some = loads_end c 1 bs (after (at c Armed ns) (load b)).notes

-- ---- calls

quiet_with_slot : (o : Option SlotChange) (ns : List Note) (ps : List ℕ) → AllByRecursion (Quiet ns) ps → AllByRecursion (Quiet (with_slot o ns)) ps
quiet_with_slot None ns ps quiet = quiet
quiet_with_slot (Some change) ns ps quiet = by_scheme change.scheme ps quiet
  where
    by_scheme : (o : Option Scheme) (qs : List ℕ) → AllByRecursion (Quiet ns) qs → AllByRecursion (Quiet (option_map_or (set change.slot) o (dropped change.slot) ∷ ns)) qs
    by_scheme o [] quiet = tt
    by_scheme None (q ∷ qs) quiet = (quiet.0, by_scheme None qs quiet.1)
    by_scheme (Some scheme) (q ∷ qs) quiet = (quiet.0, by_scheme (Some scheme) qs quiet.1)

quiet_with_metric : (o : Option ℕ) (ns : List Note) (ps : List ℕ) → AllByRecursion (Quiet ns) ps → AllByRecursion (Quiet (with_metric o ns)) ps
quiet_with_metric o ns [] quiet = tt
quiet_with_metric None ns (p ∷ ps) quiet = quiet
quiet_with_metric (Some value) ns (p ∷ ps) quiet = (quiet.0, quiet_with_metric (Some value) ns ps quiet.1)

quiet_with_cost : (o : Option CostPart) (ns : List Note) (ps : List ℕ) → AllByRecursion (Quiet ns) ps → AllByRecursion (Quiet (with_cost o ns)) ps
quiet_with_cost o ns [] quiet = tt
quiet_with_cost None ns (p ∷ ps) quiet = quiet
quiet_with_cost (Some part) ns (p ∷ ps) quiet = (quiet.0, quiet_with_cost (Some part) ns ps quiet.1)

before_commit : (ph : Phase) (b : Bool) → MayLoad (cond b VoidPhase ph) → MayLoad ph
before_commit ph true may = absurd may
before_commit ph false may = may

ready_commit : (checked : Result (Unit {0}) CommitFault) (parts : CommitValue) (c : Core) (s : State) (t : State) → t.core ≡ c → IsReady c s.notes → IsReady (if_accepted checked (committed parts t) t).core (if_accepted checked (committed parts s) s).notes
ready_commit (Ok u) parts c s t is ready may =
    let shows = committed_core parts t.core in
    let was : MayLoad t.core.phase = before_commit t.core.phase (becomes_void t.core.phase t.core.regions.rows shows.regions.rows) may in
    let picks = t.core.picks in
    let quiet : AllByRecursion (Quiet s.notes) picks = subst (λ (d : Core). IsReady d s.notes) (sym is) ready was in
    let changed = with_slot parts.slot s.notes in
    quiet_with_cost parts.cost (with_metric parts.metric changed) picks (quiet_with_metric parts.metric changed picks (quiet_with_slot parts.slot s.notes picks quiet))
ready_commit (Err fault) parts c s t is ready may = subst (λ (d : Core). IsReady d s.notes) (sym is) ready may

ready_call : (call : CallValue) (s t : State) → s.core ≡ t.core → IsReady t.core s.notes → IsReady (run t (call_event call ∷ [])).core (run s (call_event call ∷ [])).notes
ready_call ShowCall s t same ready = ready
ready_call (CommitCall parts) s t same ready =
    subst (λ r. IsReady (if_accepted (check_of parts t.core) (committed parts t) t).core (if_accepted r (committed parts s) s).notes) (ap (check_of parts) (sym same)) (ready_commit (check_of parts t.core) parts t.core s t refl ready)

-- ---- one entry

-- what the events of an entry do after the touches before it: their loads are right, and the next pass is ready
pub record IsEntryDone (v : LiveValue) (r : Replayed) (e : Entry) (s : State) : Type 0 where
  pub by_hit : AllByHit s (entry_events v r e)
  pub ready : IsReady (carried v r e).state.core (run s (entry_events v r e)).notes

-- a state by what it shows and its notes
state_of : (s t : State) → untouched s ≡ t → s.core ≡ t.core
state_of s t is = ap (λ (x : State). x.core) is

length-picks : (rows : List Row) (ws : List ℕ) → length ws ≡ length rows → length (picks_of rows ws) ≡ length rows
length-picks [] ws same = refl
length-picks (x ∷ rows) [] same = absurd (omega (arith, same))
length-picks (x ∷ rows) (w ∷ ws) same = ap suc (length-picks rows ws (omega (arith, same)))

prepare_done : (v : LiveValue) (r : Replayed) (pass pos : ℕ) (s : State) → 0 < row_count r.state.core → s.core ≡ r.state.core → IsEntryDone v r (Prepare pass pos) s
prepare_done v r pass pos s some same =
    let c = r.state.core in
    let n = row_count c in
    let ws = drawn n (words_after v.seed r.drawn) in
    let picks = picks_of c.regions.rows ws in
    let count : length picks ≡ n = length-picks c.regions.rows ws (length-words n (words_after v.seed r.drawn)) in
    let armed : (ns : List Note) → IsArmedBy picks (run (at (record c { picks = picks }) (Clearing 0) ns) (clears n)) = λ ns. all_clears_quiet (record c { picks = picks }) picks n ns refl count refl some in
    let here : IsArmedBy picks (run (record s { core = s.core }) (entry_events v r (Prepare pass pos))) = subst (λ (d : Core). IsArmedBy picks (run (record { core = d; notes = s.notes }) (entry_events v r (Prepare pass pos)))) (sym same) (armed s.notes) in
    let there = armed r.state.notes in
    record {
      by_hit = (tt, no_loads (after s (prepare ws)) (clears n) (clears_load_nothing n));
      ready = λ may. subst (AllByRecursion (Quiet (run s (entry_events v r (Prepare pass pos))).notes)) (sym there.same) here.quiet;
    }

-- a pass has ended
after_check : (v : LiveValue) (r : Replayed) (pass : ℕ) → EntryFits v r (Check pass) → 0 < row_count r.state.core → MayLoad (carried v r (Check pass)).state.core.phase → ⊥
after_check v r pass fits some may =
    let c = r.state.core in
    let bits = take (row_count c) r.bits in
    let each : length bits ≡ row_count c = length-taken (row_count c) r.bits fits.2 in
    let ended : (carried v r (Check pass)).state.core.phase ≡ phase_after_pass (c.since + 1) c.attrs.aggr = subst (λ ph. (run (at c ph r.state.notes) (entry_events v r (Check pass))).core.phase ≡ phase_after_pass (c.since + 1) c.attrs.aggr) (sym fits.0) (all_loads_end c bits r.state.notes (omega (arith, each, some))) in
    not_after_pass (c.since + 1) c.attrs.aggr (subst MayLoad ended may)

after_void : (v : LiveValue) (r : Replayed) (pass : ℕ) → EntryFits v r (Void pass) → MayLoad (carried v r (Void pass)).state.core.phase → ⊥
after_void v r pass fits may =
    let c = r.state.core in
    let ended : (carried v r (Void pass)).state.core.phase ≡ phase_after_pass (c.since + 1) c.attrs.aggr = subst (λ ph. (run (at c ph r.state.notes) (observe ∷ [])).core.phase ≡ phase_after_pass (c.since + 1) c.attrs.aggr) (sym fits.0) refl in
    not_after_pass (c.since + 1) c.attrs.aggr (subst MayLoad ended may)

check_done : PassLaws → (v : LiveValue) (rs : List Receipt) (r : Replayed) (pass : ℕ) (s : State) → Reached r.state → EntryFits v r (Check pass) → 0 < row_count r.state.core → s.core ≡ r.state.core → IsReady r.state.core s.notes
    → HitsReceived (entry_steps v r (Check pass)) rs → IsEntryDone v r (Check pass) (run s (touches_before rs r (Check pass)))
check_done laws v rs r pass s reached fits some same ready received =
    let c = r.state.core in
    let bits = take (row_count c) r.bits in
    let each : length bits ≡ row_count c = length-taken (row_count c) r.bits fits.2 in
    let rise = laws.picks r.state reached (subst IsInPass (sym fits.0) tt) in
    let told = told_by_pages 0 c.picks bits rise.1 (each ∙ sym rise.0) in
    let quiet : AllByRecursion (Quiet s.notes) c.picks = ready (subst MayLoad (sym fits.0) tt) in
    let right = all_right pass rs s (hit_at c.picks bits) c.picks bits told quiet received in
    let t = run s (touches_before rs r (Check pass)) in
    let core : t.core ≡ c = touched_core (tagged pass (hit_at c.picks bits) rs) s ∙ same in
    let at_armed : (d : Core) → d.phase ≡ Armed → d.picks ≡ c.picks → AllByHit (record { core = d; notes = t.notes }) (entry_events v r (Check pass)) = λ d is picks. subst (λ ph. AllByHit (at d ph t.notes) (entry_events v r (Check pass))) (sym is) (all_loads_by_hit d c.picks bits t.notes picks right) in
    record {
      by_hit = at_armed t.core (ap (λ (d : Core). d.phase) core ∙ fits.0) (ap (λ (d : Core). d.picks) core);
      ready = λ may. absurd (after_check v r pass fits some may);
    }

void_done : (v : LiveValue) (r : Replayed) (pass : ℕ) (s : State) → EntryFits v r (Void pass) → IsEntryDone v r (Void pass) s
void_done v r pass s fits = record { by_hit = (tt, tt); ready = λ may. absurd (after_void v r pass fits may) }

call_done : (v : LiveValue) (r : Replayed) (controller index : ℕ) (answer : CallAnswer) (s : State) → EntryFits v r (Call controller index answer) → s.core ≡ r.state.core → IsReady r.state.core s.notes → IsEntryDone v r (Call controller index answer) s
call_done v r controller index answer s fits same ready = record {
  by_hit = no_loads s (entry_events v r (Call controller index answer)) (calls_load_nothing (call_at v controller index));
  ready = subst (λ o. IsReady (run r.state (option_map_or (λ call. call_event call ∷ []) o [])).core (run s (option_map_or (λ call. call_event call ∷ []) o [])).notes) (sym fits.1.1) (ready_call fits.1.0 s r.state same ready);
}

-- what is known before an entry: the state is that of the replay, but for the touches, and the picks of the pass under way
-- are ready
pub record IsBefore (v : LiveValue) (r : Replayed) (s : State) : Type 0 where
  pub reached : Reached r.state
  pub space : r.state.core.space ≡ v.setup.space
  pub same : untouched s ≡ r.state
  pub ready : IsReady r.state.core s.notes

abbrev pub EntryReceived : LiveValue → List Receipt → Replayed → Entry → Type 0
EntryReceived v rs r e = HitsReceived (entry_steps v r e) rs

-- the events of an entry, after the touches before it
entry_done : PassLaws → (v : LiveValue) (rs : List Receipt) (r : Replayed) (e : Entry) (s : State) → EntryFits v r e → IsBefore v r s → EntryReceived v rs r e → IsEntryDone v r e (run s (touches_before rs r e))
entry_done laws v rs r (Prepare pass pos) s fits h received = prepare_done v r pass pos s (laws.in_phase r.state h.reached).some (state_of s r.state h.same)
entry_done laws v rs r (Check pass) s fits h received = check_done laws v rs r pass s h.reached fits (laws.in_phase r.state h.reached).some (state_of s r.state h.same) h.ready received
entry_done laws v rs r (Void pass) s fits h received = void_done v r pass s fits
entry_done laws v rs r (Aggregate tick pos) s fits h received = record { by_hit = (tt, tt); ready = λ may. absurd may }
entry_done laws v rs r (Call controller index answer) s fits h received = call_done v r controller index answer s fits (state_of s r.state h.same) h.ready

-- after a pass that ended nothing is ready, and after other entries there are no touches
ready_after : (v : LiveValue) (rs : List Receipt) (r : Replayed) (e : Entry) (s : State) → 0 < row_count r.state.core → EntryFits v r e → IsReady (carried v r e).state.core s.notes → IsReady (carried v r e).state.core (run s (touches_after rs r e)).notes
ready_after v rs r (Prepare pass pos) s some fits ready = ready
ready_after v rs r (Check pass) s some fits ready = λ may. absurd (after_check v r pass fits some may)
ready_after v rs r (Void pass) s some fits ready = λ may. absurd (after_void v r pass fits may)
ready_after v rs r (Aggregate tick pos) s some fits ready = ready
ready_after v rs r (Call controller index answer) s some fits ready = ready

-- ---- all entries

-- the woven events of entries, from this state
pub record IsWoven (v : LiveValue) (rs : List Receipt) (r : Replayed) (s : State) (es : List Entry) : Type 0 where
  pub fit : AllFit s (woven_from v rs r es)
  pub by_hit : AllByHit s (woven_from v rs r es)
  pub same : untouched (run s (woven_from v rs r es)) ≡ (replay_from v r es).state

pub weave : PassLaws → (v : LiveValue) (rs : List Receipt) → AllByRecursion (λ x. x.page < pages_of v.setup.space) rs → (es : List Entry) (r : Replayed) (s : State) → EntriesFit v r es → IsBefore v r s → HitsReceived (steps_from v r es) rs → IsWoven v rs r s es
weave laws v rs within [] r s fits h received = record { fit = tt; by_hit = tt; same = h.same }
weave laws v rs within (e ∷ es) r s fits h received =
    let some : 0 < row_count r.state.core = (laws.in_phase r.state h.reached).some in
    let b = touches_before rs r e in
    let m = entry_events v r e in
    let a = touches_after rs r e in
    let next = carried v r e in
    let rest = woven_from v rs next es in
    let s1 = run s b in
    let s2 = run s1 m in
    let s3 = run s2 a in
    let own = entry_own v r e in
    let pages : (t u : State) → untouched t ≡ u → u.core.space ≡ v.setup.space → AllByRecursion (λ x. x.page < pages_of t.core.space) rs = λ t u is space. subst (λ sp. AllByRecursion (λ (x : Receipt). x.page < pages_of sp) rs) (sym (ap (λ (x : State). x.core.space) is ∙ space)) within in
    let before = touched_by s b (before_are (pages_of s.core.space) rs r e (pages s r.state h.same h.space)) in
    let same1 : untouched s1 ≡ r.state = before.same ∙ h.same in
    let fit_m : AllFit s1 m = AllFit-untouched s1 m own (subst (λ t. AllFit t m) (sym same1) (entry_fits v r e some fits.0)) in
    let same2 : untouched s2 ≡ next.state = run-untouched s1 m own ∙ ap (λ t. run t m) same1 in
    let space2 : next.state.core.space ≡ v.setup.space = run_space r.state m ∙ h.space in
    let done = entry_done laws v rs r e s fits.0 h (λ page word there odd. received page word (Contains-append_left (entry_steps v r e) (steps_from v next es) (Load page word) there) odd) in
    let behind = touched_by s2 a (after_are (pages_of s2.core.space) rs r e (pages s2 next.state same2 space2)) in
    let then_before : IsBefore v next s3 = record {
      reached = carried_reached v r e some h.reached fits.0;
      space = space2;
      same = behind.same ∙ same2;
      ready = ready_after v rs r e s2 some fits.0 done.ready;
    } in
    let others = weave laws v rs within es next s3 fits.1 then_before (λ page word there odd. received page word (Contains-append_right (entry_steps v r e) (steps_from v next es) (Load page word) there) odd) in
    let all : run s (b ++ (m ++ (a ++ rest))) ≡ run s3 rest = run-append s b (m ++ (a ++ rest)) ∙ (run-append s1 m (a ++ rest) ∙ run-append s2 a rest) in
    record {
      fit = AllFit-append s b (m ++ (a ++ rest)) before.fit (AllFit-append s1 m (a ++ rest) fit_m (AllFit-append s2 a rest behind.fit others.fit));
      by_hit = AllByHit-append s b (m ++ (a ++ rest)) before.by_hit (AllByHit-append s1 m (a ++ rest) done.by_hit (AllByHit-append s2 a rest behind.by_hit others.by_hit));
      same = ap untouched all ∙ others.same;
    }

-- no page is touched at an opening: its notes are of slots that are set
set_untouched : (changes : List SlotChange) → filter is_no_touch (reverse (filter_map set_note changes)) ≡ reverse (filter_map set_note changes)
set_untouched [] = refl
set_untouched (change ∷ changes) = by_scheme change.scheme (set_untouched changes)
  where
    earlier : List Note
    earlier = filter_map set_note changes

    with_one : (note : Note) → is_no_touch note ≡ true → filter is_no_touch (reverse earlier) ≡ reverse earlier → filter is_no_touch (reverse (note ∷ earlier)) ≡ reverse (note ∷ earlier)
    with_one note own same =
        let last : reverse (note ∷ earlier) ≡ reverse earlier ++ note ∷ [] = reverse-append (note ∷ []) earlier in
        let kept : filter is_no_touch (note ∷ []) ≡ note ∷ [] = ap (λ b. cond b (note ∷ []) []) own in
        ap (filter is_no_touch) last ∙ (filter-append is_no_touch (reverse earlier) (note ∷ []) ∙ (ap (λ l. l ++ filter is_no_touch (note ∷ [])) same ∙ (ap (λ l. reverse earlier ++ l) kept ∙ sym last)))

    by_scheme : (o : Option Scheme) → filter is_no_touch (reverse earlier) ≡ reverse earlier → filter is_no_touch (reverse (filter_map set_note (record { slot = change.slot; scheme = o } ∷ changes))) ≡ reverse (filter_map set_note (record { slot = change.slot; scheme = o } ∷ changes))
    by_scheme None same = same
    by_scheme (Some scheme) same = with_one (set change.slot scheme) refl same

pub opening_untouched : (v : SetupValue) → untouched (opening v) ≡ opening v
opening_untouched v = ap (λ ns. record (opening v) { notes = ns }) (set_untouched v.slots)
