-- An entry that the monitor carries out is one entry more of the journal.
use Rattle.std.proofs.Common.{◌≡◌, ℕ, ◌+◌, ◌*◌, Bool, true, false, cond, List, [], ◌∷◌, ◌++◌, length, take, refl, sym, ap, ◌∙◌, subst, arith}
use Rattle.std.specs.Prelude.{◌==◌, map, nat_le, Some}
use Rattle.std.specs.Option.{option_map_or}
use Rattle.std.proofs.lemmas.Bool.Decides.{nat_tests}
use Rattle.std.proofs.lemmas.List.{drop_all, take_all}
use Rattle.rand_core.specs.Stream.{Stream}
use Rattle.sampler.specs.Draws.{drawn, drawn_rest}
use Rattle.sampler.proofs.Lemmas.{drawn_rest-append}
use Rattle.live_commit.specs.declared.phase.Phase.TheVariants.{Idle, Clearing, Armed, Due, Void as VoidPhase}
use Rattle.live_commit.specs.Commit.{CommitValue}
use Rattle.damon_core.specs.After.{cleared_core, phase_after_pass, phase_cleared, prepared_core}
use Rattle.damon_core.specs.Commit.{check_of, core_after_commit}
use Rattle.damon_core.specs.Event.{aggregate, clear_index, load, observe, prepare}
use Rattle.damon_core.specs.Makes.{Makes}
use Rattle.damon_core.proofs.Lemmas.{Makes-append, Reached-run}
use Rattle.damon_core.specs.Reached.{CanOpen, Reached, run}
use Rattle.damon_core.specs.Several.{clears}
use Rattle.damon_core.specs.State.{Core, row_count}
use Rattle.damon_core.specs.Stands.{MonitorView, Stands, last_pass}
use Rattle.damon_core.proofs.Lemmas.{phase_kept}
use Rattle.damon_control.specs.Live.{CallValue, LiveValue}
use Rattle.run_journal.specs.declared.entry.Entry.{Entry}
use Rattle.run_journal.specs.declared.entry.CallAnswer.{CallAnswer}
use Rattle.run_journal.specs.declared.entry.Entry.TheVariants.{Prepare, Check, Void, Aggregate, Call}
use Rattle.run_journal.specs.Growth.{added_to, calls_so_far, with_call_of, longer, replay_with}
use Rattle.run_journal.specs.Replay.{EntryFits, IsJournalOf, JournalValue, Replayed, call_answer, call_at, call_event, carried, entry_events, replay, words_taken}
use Rattle.run_journal.specs.Replaying.{Carries, CarriesCall, CarriesKnown, IsCarried, IsReplayOf, ReplayingView}
use Rattle.run_journal.specs.Phases.{IsFree}
use Rattle.run_journal.specs.Steps.{entry_steps, steps}
use Rattle.sampler.specs.Seeds.{words_from}
use Rattle.run_journal.specs.Words.{words_after, words_at}
use Rattle.run_journal.proofs.Growing.{grows_by_entry}
use Rattle.run_journal.proofs.Longer.{added-keeps, added-last, lengthened}

-- what the calls of an entry did: its events were made, and its words were drawn
pub record HasMade (w : LiveValue) (r : Replayed) (e : Entry) (old new : ReplayingView) : Type 0 where
  pub events : Makes Stands old.monitor new.monitor (entry_events w r e)
  pub drawn : new.drawn ≡ old.drawn + words_taken r.state.core e
  pub rest : words_from new.words ≡ drawn_rest (words_taken r.state.core e) (words_from old.words)

-- an entry that fits, and whose events were made, is carried out in a script with the same seed and setup
pub carried_by : (v w : LiveValue) (j : JournalValue) (e : Entry) (bits : List Bool) (old new : ReplayingView) → v.seed ≡ w.seed → v.setup ≡ w.setup → IsReplayOf v j old → IsJournalOf w (longer j e bits)
    → replay w (longer j e bits) ≡ carried w (replay_with v j bits) e → steps w (longer j e bits) ≡ steps v j ++ entry_steps w (replay_with v j bits) e → EntryFits w (replay_with v j bits) e
    → HasMade w (replay_with v j bits) e old new → IsCarried v w j e bits new
carried_by v w j e bits old new seed setup h journal is steps_are fits has =
    let s = (replay v j).state in
    let r = replay_with v j bits in
    let n = words_taken s.core e in
    let made = has.events s h.reached h.stands in
    let state : run s (entry_events w r e) ≡ (replay w (longer j e bits)).state = sym (ap (λ (x : Replayed). x.state) is) in
    record {
      fits = fits;
      replays = record {
        opens = subst CanOpen setup h.opens;
        journal = journal;
        reached = subst Reached state (Reached-run s (entry_events w r e) h.reached made.0);
        stands = subst (Stands new.monitor) state made.1;
        drawn = has.drawn ∙ (ap (λ k. k + n) h.drawn ∙ sym (ap (λ (x : Replayed). x.drawn) is));
        words =
            has.rest
            ∙ (ap (drawn_rest n) h.words
            ∙ (sym (drawn_rest-append old.drawn n (words_after v.seed 0))
            ∙ (ap (words_after v.seed) (sym has.drawn) ∙ ap (λ k. words_after k new.drawn) seed)));
      };
      is = is;
      steps_are = steps_are;
    }

-- the same of an entry that is no call
pub carries : (v : LiveValue) (j : JournalValue) (e : Entry) (bits : List Bool) (old new : ReplayingView) → IsReplayOf v j old → EntryFits v (replay_with v j bits) e
    → (carried v (replay_with v j bits) e).bits ≡ [] → HasMade v (replay_with v j bits) e old new → IsCarried v v j e bits new
carries v j e bits old new h fits none has =
    let grown = grows_by_entry v j (longer j e bits) e bits refl h.journal fits none in
    carried_by v v j e bits old new refl refl h grown.journal grown.is grown.steps_are fits has

-- ---- a pass is prepared

-- what the calls of a preparation did to the monitor and to the source of random words
pub record IsPrepared (old new : ReplayingView) : Type 0 where
  pub mid : MonitorView
  pub begin : Makes Stands old.monitor mid (prepare (drawn (row_count old.monitor.core) (words_from old.words)) ∷ [])
  pub begin_core : mid.core ≡ prepared_core (drawn (row_count old.monitor.core) (words_from old.words)) old.monitor.core
  pub clear_all : Makes Stands mid new.monitor (clears (row_count old.monitor.core))
  pub clear_core : new.monitor.core ≡ cleared_core (row_count old.monitor.core) mid.core
  pub drawn_is : new.drawn ≡ old.drawn + row_count old.monitor.core
  pub rest : words_from new.words ≡ drawn_rest (row_count old.monitor.core) (words_from old.words)

-- what the monitor shows then
pub armed_core : (old new : ReplayingView) (p : IsPrepared old new) → new.monitor.core ≡ record p.mid.core { phase = Armed }
armed_core old new p =
    let n = row_count old.monitor.core in
    let ws = drawn n (words_from old.words) in
    let zero_more : 0 + n ≡ n = omega arith in
    let index : new.monitor.core ≡ record p.mid.core { phase = phase_cleared n n } =
    p.clear_core
    ∙ (ap (λ (c : Core). record p.mid.core { phase = phase_cleared (clear_index c.phase + n) (row_count c) }) p.begin_core
    ∙ ap (λ k. record p.mid.core { phase = phase_cleared k n }) zero_more)
    in
    let all : (n == n) ≡ true = grind (arith, nat_tests) in
    index ∙ ap (λ b. record p.mid.core { phase = cond b Armed (Clearing n) }) all

pub carries_prepare : (old new : ReplayingView) → IsPrepared old new → old.monitor.core.phase ≡ Idle → Carries old new (Prepare (old.monitor.core.ticks + 1) old.drawn) []
carries_prepare old new p idle v j h =
    let r = replay_with v j [] in
    let n = row_count old.monitor.core in
    let e = Prepare (old.monitor.core.ticks + 1) old.drawn in
    let same : old.monitor.core ≡ r.state.core = h.stands.same in
    let count : n ≡ row_count r.state.core = ap row_count same in
    let fits : EntryFits v r e = (sym (ap (λ (c : Core). c.phase) same) ∙ idle, ap (λ (c : Core). c.ticks + 1) same, h.drawn) in
    let events : prepare (drawn n (words_from old.words)) ∷ clears n ≡ entry_events v r e =
    ap (λ (s : Stream). prepare (drawn n s) ∷ clears n) (h.words ∙ ap (words_after v.seed) h.drawn)
    ∙ ap (λ (c : Core). prepare (words_at v.seed r.drawn (row_count c)) ∷ clears (row_count c)) same
    in
    carries v j e [] old new h fits refl (record {
      events = subst (Makes Stands old.monitor new.monitor) events (Makes-append Stands old.monitor p.mid new.monitor (prepare (drawn n (words_from old.words)) ∷ []) (clears n) p.begin p.clear_all);
      drawn = p.drawn_is ∙ ap (λ k. old.drawn + k) count;
      rest = p.rest ∙ ap (λ k. drawn_rest k (words_from old.words)) count;
    })

-- ---- a pass ends

pub carries_check : (old new : ReplayingView) (bits : List Bool) → Makes Stands old.monitor new.monitor (map (λ bit. load bit) bits ++ observe ∷ []) → new.drawn ≡ old.drawn → new.words ≡ old.words
    → old.monitor.core.phase ≡ Armed → length bits ≡ row_count old.monitor.core → Carries old new (Check (old.monitor.core.ticks + 1)) bits
carries_check old new bits made drawn words armed each v j h =
    let r = replay_with v j bits in
    let e = Check (old.monitor.core.ticks + 1) in
    let same : old.monitor.core ≡ r.state.core = h.stands.same in
    let size : length bits ≡ row_count r.state.core = each ∙ ap row_count same in
    let fits : EntryFits v r e = (sym (ap (λ (c : Core). c.phase) same) ∙ armed, ap (λ (c : Core). c.ticks + 1) same, omega (arith, size)) in
    let all : take (row_count r.state.core) bits ≡ bits = take_all (row_count r.state.core) bits (omega (arith, size)) in
    let none : (carried v r e).bits ≡ [] = drop_all (row_count r.state.core) bits (omega (arith, size)) in
    let none_more : old.drawn ≡ old.drawn + 0 = omega arith in
    carries v j e bits old new h fits none (record {
      events = subst (λ bs. Makes Stands old.monitor new.monitor (map (λ bit. load bit) bs ++ observe ∷ [])) (sym all) made;
      drawn = drawn ∙ none_more;
      rest = ap words_from words;
    })

pub carries_void : (old new : ReplayingView) → Makes Stands old.monitor new.monitor (observe ∷ []) → new.drawn ≡ old.drawn → new.words ≡ old.words → old.monitor.core.phase ≡ VoidPhase
    → Carries old new (Void (old.monitor.core.ticks + 1)) []
carries_void old new made drawn words void v j h =
    let r = replay_with v j [] in
    let e = Void (old.monitor.core.ticks + 1) in
    let same : old.monitor.core ≡ r.state.core = h.stands.same in
    let fits : EntryFits v r e = (sym (ap (λ (c : Core). c.phase) same) ∙ void, ap (λ (c : Core). c.ticks + 1) same) in
    let none_more : old.drawn ≡ old.drawn + 0 = omega arith in
    carries v j e [] old new h fits refl (record { events = made; drawn = drawn ∙ none_more; rest = ap words_from words })

-- ---- an aggregation

pub carries_aggregate : (old new : ReplayingView) → Makes Stands old.monitor new.monitor (aggregate (drawn (2 * old.monitor.core.attrs.max) (words_from old.words)) ∷ [])
    → new.drawn ≡ old.drawn + 2 * old.monitor.core.attrs.max → words_from new.words ≡ drawn_rest (2 * old.monitor.core.attrs.max) (words_from old.words) → old.monitor.core.phase ≡ Due
    → Carries old new (Aggregate old.monitor.core.ticks old.drawn) []
carries_aggregate old new made drawn_is rest due v j h =
    let r = replay_with v j [] in
    let n = 2 * old.monitor.core.attrs.max in
    let e = Aggregate old.monitor.core.ticks old.drawn in
    let same : old.monitor.core ≡ r.state.core = h.stands.same in
    let count : n ≡ 2 * r.state.core.attrs.max = ap (λ (c : Core). 2 * c.attrs.max) same in
    let fits : EntryFits v r e = (sym (ap (λ (c : Core). c.phase) same) ∙ due, ap (λ (c : Core). c.ticks) same, h.drawn) in
    let events : aggregate (drawn n (words_from old.words)) ∷ [] ≡ entry_events v r e =
    ap (λ (s : Stream). aggregate (drawn n s) ∷ []) (h.words ∙ ap (words_after v.seed) h.drawn)
    ∙ ap (λ (c : Core). aggregate (words_at v.seed r.drawn (2 * c.attrs.max)) ∷ []) same
    in
    carries v j e [] old new h fits refl (record {
      events = subst (Makes Stands old.monitor new.monitor) events made;
      drawn = drawn_is ∙ ap (λ k. old.drawn + k) count;
      rest = rest ∙ ap (λ k. drawn_rest k (words_from old.words)) count;
    })

-- ---- a call

pub carries_call : (old new : ReplayingView) (call : CallValue) (answer : CallAnswer) → Makes Stands old.monitor new.monitor (call_event call ∷ []) → new.drawn ≡ old.drawn → new.words ≡ old.words → IsFree old.monitor.core.phase
    → answer ≡ call_answer call old.monitor.core → CarriesCall old new call answer
carries_call old new call answer made drawn words free told v j controller h below =
    let index = length (calls_so_far v controller) in
    let later = added_to controller call v.controllers in
    let w = with_call_of v controller call in
    let r = replay_with v j [] in
    let e = Call controller index answer in
    let same : old.monitor.core ≡ r.state.core = h.stands.same in
    let last : call_at w controller index ≡ Some call = added-last v.controllers controller call below in
    let fits : EntryFits w r e = (subst (λ (c : Core). IsFree c.phase) same free, (call, last, told ∙ ap (call_answer call) same)) in
    let longer_is = lengthened v later j e [] (added-keeps v.controllers controller call) h.journal fits refl in
    let events : call_event call ∷ [] ≡ entry_events w r e = ap (λ o. option_map_or (λ (x : CallValue). call_event x ∷ []) o []) (sym last) in
    let none_more : old.drawn ≡ old.drawn + 0 = omega arith in
    carried_by v w j e [] old new refl refl h longer_is.journal longer_is.is longer_is.steps_are fits (record {
      events = subst (Makes Stands old.monitor new.monitor) events made;
      drawn = drawn ∙ none_more;
      rest = ap words_from words;
    })

-- the same of a call that the script has
pub carries_known : (old new : ReplayingView) (call : CallValue) (answer : CallAnswer) → Makes Stands old.monitor new.monitor (call_event call ∷ []) → new.drawn ≡ old.drawn → new.words ≡ old.words → IsFree old.monitor.core.phase
    → answer ≡ call_answer call old.monitor.core → CarriesKnown old new call answer
carries_known old new call answer made drawn words free told v j controller index h there =
    let r = replay_with v j [] in
    let e = Call controller index answer in
    let same : old.monitor.core ≡ r.state.core = h.stands.same in
    let fits : EntryFits v r e = (subst (λ (c : Core). IsFree c.phase) same free, (call, there, told ∙ ap (call_answer call) same)) in
    let events : call_event call ∷ [] ≡ entry_events v r e = ap (λ o. option_map_or (λ (x : CallValue). call_event x ∷ []) o []) (sym there) in
    let none_more : old.drawn ≡ old.drawn + 0 = omega arith in
    carries v j e [] old new h fits refl (record {
      events = subst (Makes Stands old.monitor new.monitor) events made;
      drawn = drawn ∙ none_more;
      rest = ap words_from words;
    })

-- a commit leaves the pass that was prepared last
pub pass_kept : (parts : CommitValue) (old new : Core) → new ≡ core_after_commit parts old → new.ticks ≡ old.ticks → last_pass new.phase new.ticks ≡ last_pass old.phase old.ticks
pass_kept parts old new is ticks =
    ap (last_pass new.phase) ticks
    ∙ (ap (λ (c : Core). last_pass c.phase old.ticks) is
    ∙ phase_kept (λ ph. last_pass ph old.ticks) refl parts (check_of parts old) old)

-- after a pass its number is that of the passes that have ended
pub pass_ended : (since aggr ticks : ℕ) → last_pass (phase_after_pass since aggr) ticks ≡ ticks
pass_ended since aggr ticks = elim (nat_le aggr since) as (λ b. last_pass (cond b Due Idle) ticks ≡ ticks) [ true ↦ refl | false ↦ refl ]
