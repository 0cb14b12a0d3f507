-- Steps of one kind.
use Rattle.std.proofs.Common.{◌≡◌, ℕ, zero, suc, ◌+◌, ◌≤◌, ◌<◌, Bool, false, cond, List, [], ◌∷◌, ◌++◌, drop, length, refl, sym, ap, ◌∙◌, subst, arith}
use Rattle.std.specs.Prelude.{◌==◌, slice_index, if◌then◌else◌}
use Rattle.std.proofs.lemmas.List.{get_or-drop, length-drop, map-append, take_more}
use Rattle.rand_core.specs.Stream.{Stream}
use Rattle.damon_types.specs.Space.{pages_of}
use Rattle.live_commit.specs.declared.phase.Phase.{Phase}
use Rattle.live_commit.specs.declared.phase.Phase.TheVariants.{Clearing, Armed, Checking}
use Rattle.sampler.specs.Loaded.{mark_of, next_picks}
use Rattle.damon_core.specs.Note.{cleared, hit, is_touched, last_clear, word_of}
use Rattle.damon_core.specs.State.{Core, State, row_count}
use Rattle.damon_core.specs.Event.{Event, IsLoading, clear, load, load_index, load_page, next_hit}
use Rattle.damon_core.specs.Several.{clears, loads}
use Rattle.damon_core.specs.After.{after, by_clear, by_load, cleared_core, loaded_core, phase_cleared}
use Rattle.damon_core.specs.Reached.{AllFit, Reached, run}
use Rattle.damon_core.specs.Makes.{Makes}
use Rattle.damon_core.proofs.Lemmas.{run-append}
use Rattle.damon_core.specs.Pass.{IsInPass, cleared_so_far}
use Rattle.damon_core.specs.Stands.{MonitorView, Stands}
use Rattle.damon_world.specs.Moment.{Moment, drawn_by, event_in, events_of_steps, moved, next_event, stepped, stepped_times}
use Rattle.sampler.specs.Draws.{drawn_rest}
use Rattle.damon_world.specs.Stands.{StandsAt}
use Rattle.damon_world.specs.Advance.{IsAmid}
use Rattle.damon_world.specs.Kept.{IsAdvance}
use Rattle.damon_world.specs.Pages.{ArePagesOf, AreCleared, PagesView, is_picked}
use Rattle.damon_world.proofs.Notes.{same_pages}
use Rattle.damon_world.proofs.Parts.{put_more}
use Rattle.damon_world.proofs.Following.{events_more, stepped_more}
use Rattle.damon_world.proofs.Stepping.{event_in-load, not_last, word_of-by_load}

-- the moment after one event more, if it is the next one and draws nothing
one_more : (x : Moment) (here : State) (e : Event) (n : ℕ) → stepped_times n x ≡ record { state = here; stream = x.stream } → next_event here x.stream ≡ e → drawn_by e ≡ 0 → stepped_times (suc n) x ≡ record { state = after here e; stream = x.stream }
one_more x here e n is next none =
    stepped_more n x
    ∙ ap stepped is
    ∙ ap (λ f. moved (record { state = here; stream = x.stream }) f) next
    ∙ ap (λ k. record { state = after here e; stream = drawn_rest k x.stream }) none

one_event_more : (x : Moment) (here : State) (e : Event) (n : ℕ) (es : List Event) → stepped_times n x ≡ record { state = here; stream = x.stream } → next_event here x.stream ≡ e → events_of_steps n x ≡ es → events_of_steps (suc n) x ≡ es ++ e ∷ []
one_event_more x here e n es is next before =
    events_more n x
    ∙ ap (λ m. events_of_steps n x ++ next_event m.state m.stream ∷ []) is
    ∙ ap (λ f. events_of_steps n x ++ f ∷ []) next
    ∙ ap (λ fs. fs ++ e ∷ []) before

-- the phase in which the next clear comes
clearing_amid : (k rows : ℕ) → k < rows → phase_cleared k rows ≡ Clearing k
clearing_amid k rows below = ap (λ b. cond b Armed (Clearing k)) (not_last k rows below)

clears_more : (n : ℕ) → clears (suc n) ≡ clears n ++ clear ∷ []
clears_more zero = refl
clears_more (suc n) = ap (λ es. clear ∷ es) (clears_more n)

-- the next n steps are clears
pub record ClearsTo (x : Moment) (k n : ℕ) : Type 0 where
  pub state : stepped_times n x ≡ record { state = run x.state (clears n); stream = x.stream }
  pub events : events_of_steps n x ≡ clears n
  pub core : (run x.state (clears n)).core ≡ record x.state.core { phase = phase_cleared (k + n) (row_count x.state.core) }

-- a clear in this phase
clear_notes : (ph : Phase) (s : State) (k : ℕ) → ph ≡ Clearing k → (by_clear ph s).notes ≡ cleared (s.core.ticks + 1) k (slice_index s.core.picks k) ∷ s.notes
clear_notes ph s k is = ap (λ x. (by_clear x s).notes) is

clear_core : (s : State) (k : ℕ) → s.core.phase ≡ Clearing k → (after s clear).core ≡ record s.core { phase = phase_cleared (k + 1) (row_count s.core) }
clear_core s k is = ap (λ x. (by_clear x s).core) is

-- the state after one clear more
one_clear_more : (s : State) (n : ℕ) → run s (clears (suc n)) ≡ after (run s (clears n)) clear
one_clear_more s n = ap (run s) (clears_more n) ∙ run-append s (clears n) (clear ∷ [])

pub clears_to : (x : Moment) (k n : ℕ) → x.state.core.phase ≡ Clearing k → k < row_count x.state.core → k + n ≤ row_count x.state.core → ClearsTo x k n
clears_to x k zero is some within =
    let rows = row_count x.state.core in
    let same : k + 0 ≡ k = omega arith in
    let phase : phase_cleared (k + 0) rows ≡ x.state.core.phase = ap (λ i. phase_cleared i rows) same ∙ clearing_amid k rows some ∙ sym is in
    record { state = refl; events = refl; core = ap (λ ph. record x.state.core { phase = ph }) (sym phase) }
clears_to x k (suc n) is some within =
    let rows = row_count x.state.core in
    let before = clears_to x k n is some (omega arith) in
    let here = run x.state (clears n) in
    let amid : here.core.phase ≡ Clearing (k + n) = ap (λ (c : Core). c.phase) before.core ∙ clearing_amid (k + n) rows (omega arith) in
    let next : next_event here x.stream ≡ clear = ap (λ ph. event_in ph here x.stream) amid in
    let last = one_clear_more x.state n in
    let index : k + n + 1 ≡ k + suc n = omega arith in
    record {
      state = one_more x here clear n before.state next refl ∙ ap (λ s. record { state = s; stream = x.stream }) (sym last);
      events = one_event_more x here clear n (clears n) before.state next before.events ∙ sym (clears_more n);
      core =
          ap (λ s. s.core) last
          ∙ clear_core here (k + n) amid
          ∙ ap (λ (c : Core). record c { phase = phase_cleared (k + n + 1) (row_count c) }) before.core
          ∙ ap (λ i. record x.state.core { phase = phase_cleared i rows }) index;
    }

-- the marks and tags after clears
record AreAfterClears (x : Moment) (k n : ℕ) : Type 0 where
  marks : (p : ℕ) → is_touched (run x.state (clears n)).notes p ≡ (if is_picked x.state.core.picks k n p then false else is_touched x.state.notes p)
  tags : (p : ℕ) → last_clear (run x.state (clears n)).notes p ≡ (if is_picked x.state.core.picks k n p then x.state.core.ticks + 1 else last_clear x.state.notes p)

after_clears : (x : Moment) (k n : ℕ) → x.state.core.phase ≡ Clearing k → k < row_count x.state.core → k + n ≤ row_count x.state.core → AreAfterClears x k n
after_clears x k zero is some within = record { marks = λ p. refl; tags = λ p. refl }
after_clears x k (suc n) is some within =
    let rows = row_count x.state.core in
    let to = clears_to x k n is some (omega arith) in
    let here = run x.state (clears n) in
    let picks = x.state.core.picks in
    let page = slice_index picks (k + n) in
    let pass = x.state.core.ticks + 1 in
    let before = after_clears x k n is some (omega arith) in
    let amid : here.core.phase ≡ Clearing (k + n) = ap (λ (c : Core). c.phase) to.core ∙ clearing_amid (k + n) rows (omega arith) in
    let notes : (run x.state (clears (suc n))).notes ≡ cleared pass (k + n) page ∷ here.notes =
    ap (λ s. s.notes) (one_clear_more x.state n) ∙ clear_notes here.core.phase here (k + n) amid ∙ ap (λ (c : Core). cleared (c.ticks + 1) (k + n) (slice_index c.picks (k + n)) ∷ here.notes) to.core in
    record {
      marks = λ p. ap (λ ns. is_touched ns p) notes ∙ put_more (page == p) (is_picked picks k n p) false (is_touched here.notes p) (is_touched x.state.notes p) (before.marks p);
      tags = λ p. ap (λ ns. last_clear ns p) notes ∙ put_more (page == p) (is_picked picks k n p) pass (last_clear here.notes p) (last_clear x.state.notes p) (before.tags p);
    }

-- pages that are cleared are those after the clears
pages_cleared : (x : Moment) (k n count : ℕ) (old new : PagesView) → x.state.core.phase ≡ Clearing k → k < row_count x.state.core → k + n ≤ row_count x.state.core → length old.marks ≡ count → AreCleared x.state.core.picks k n (x.state.core.ticks + 1) old new → ArePagesOf old x.state.notes count → ArePagesOf new (run x.state (clears n)).notes count
pages_cleared x k n count old new is some within len made are =
    let all = after_clears x k n is some within in
    let picked : ℕ → Bool = is_picked x.state.core.picks k n in
    record {
      marks = λ p below.
          (made.marks p (omega (arith, below, len))
          ∙ ap (λ b. if picked p then false else b) (are.marks p below)
          ∙ sym (all.marks p));
      tags = λ p below.
          (let old_tag : p < length old.tags = omega (arith, below, made.tagged) in
          made.tags p old_tag
          ∙ ap (λ t. if picked p then x.state.core.ticks + 1 else t) (are.tags p old_tag)
          ∙ sym (all.tags p));
    }

-- the phase after so many loads
abbrev pub phase_by_loads : ℕ → ℕ → Phase → Phase
phase_by_loads from zero ph = ph
phase_by_loads from (suc n) ph = Checking (from + n + 1)

pub loading_by_loads : (from n : ℕ) (ph : Phase) (rows : ℕ) → IsLoading ph rows → load_index ph ≡ from → from + n < rows → IsLoading (phase_by_loads from n ph) rows × (load_index (phase_by_loads from n ph) ≡ from + n)
loading_by_loads from zero ph rows loading index below = (loading, omega (arith, index))
loading_by_loads from (suc n) ph rows loading index below = (omega arith, omega arith)

hit-by_load : (ph : Phase) (s : State) (h : Bool) (p : ℕ) → hit (by_load ph h s).notes p ≡ hit s.notes p
hit-by_load Armed s h p = refl
hit-by_load _ s h p = refl

pub core-by_load : (ph : Phase) (s : State) (h : Bool) → IsLoading ph (row_count s.core) → (by_load ph h s).core ≡ record s.core { phase = Checking (load_index ph + 1) }
core-by_load Armed s h loading = refl
core-by_load (Checking k) s h loading = refl
core-by_load _ s h loading = absurd loading

-- one pick more
next_picks_more : (picks : List ℕ) (from n : ℕ) → from + n < length picks → next_picks picks from (suc n) ≡ next_picks picks from n ++ slice_index picks (from + n) ∷ []
next_picks_more picks from n below =
    let one : n + 1 ≡ suc n = omega arith in
    ap (next_picks picks from) (sym one)
    ∙ take_more (drop from picks) n 0 (omega (arith, below, length-drop from picks))
    ∙ ap (λ p. next_picks picks from n ++ p ∷ []) (get_or-drop from picks n 0)

loads_more : (marks : List Bool) (picks : List ℕ) (from n : ℕ) → from + n < length picks → loads marks (next_picks picks from (suc n)) ≡ loads marks (next_picks picks from n) ++ load (mark_of marks (slice_index picks (from + n))) ∷ []
loads_more marks picks from n below =
    ap (loads marks) (next_picks_more picks from n below)
    ∙ map-append (λ page. load (mark_of marks page)) (next_picks picks from n) (slice_index picks (from + n) ∷ [])

-- the loads of the next n picks of a moment
abbrev pub next_loads : List Bool → Moment → ℕ → ℕ → List Event
next_loads marks x from n = loads marks (next_picks x.state.core.picks from n)

-- the next n steps are loads; they leave the words and the hits of the pages
pub record LoadsTo (x : Moment) (marks : List Bool) (from n : ℕ) : Type 0 where
  pub state : stepped_times n x ≡ record { state = run x.state (next_loads marks x from n); stream = x.stream }
  pub events : events_of_steps n x ≡ next_loads marks x from n
  pub core : (run x.state (next_loads marks x from n)).core ≡ record x.state.core { phase = phase_by_loads from n x.state.core.phase }
  pub words : (p : ℕ) → word_of (run x.state (next_loads marks x from n)).notes p ≡ word_of x.state.notes p
  pub hits : (p : ℕ) → hit (run x.state (next_loads marks x from n)).notes p ≡ hit x.state.notes p

pub loads_to : (x : Moment) (marks : List Bool) (from n : ℕ) → IsLoading x.state.core.phase (row_count x.state.core) → load_index x.state.core.phase ≡ from → from + n ≤ row_count x.state.core → length x.state.core.picks ≡ row_count x.state.core → ((j : ℕ) → j < from + n → mark_of marks (slice_index x.state.core.picks j) ≡ hit x.state.notes (slice_index x.state.core.picks j)) → LoadsTo x marks from n
loads_to x marks from zero loading index within each true_marks = record { state = refl; events = refl; core = refl; words = λ p. refl; hits = λ p. refl }
loads_to x marks from (suc n) loading index within each true_marks =
    let rows = row_count x.state.core in
    let picks = x.state.core.picks in
    let before = loads_to x marks from n loading index (omega arith) each (λ j below. true_marks j (omega arith)) in
    let es = next_loads marks x from n in
    let here = run x.state es in
    let h = mark_of marks (slice_index picks (from + n)) in
    let amid = loading_by_loads from n x.state.core.phase rows loading index (omega arith) in
    let loads_here : IsLoading here.core.phase (row_count here.core) = subst (λ (c : Core). IsLoading c.phase (row_count c)) (sym before.core) amid.0 in
    let index_here : load_index here.core.phase ≡ from + n = ap (λ (c : Core). load_index c.phase) before.core ∙ amid.1 in
    let page : load_page here ≡ slice_index picks (from + n) = ap (λ i. slice_index here.core.picks i) index_here ∙ ap (λ (c : Core). slice_index c.picks (from + n)) before.core in
    let is_hit : next_hit here ≡ h = before.hits (load_page here) ∙ ap (hit x.state.notes) page ∙ sym (true_marks (from + n) (omega arith)) in
    let next : next_event here x.stream ≡ load h = event_in-load here.core.phase here x.stream loads_here ∙ ap (λ b. load b) is_hit in
    let more : next_loads marks x from (suc n) ≡ es ++ load h ∷ [] = loads_more marks picks from n (omega (arith, each, within)) in
    let last : run x.state (next_loads marks x from (suc n)) ≡ after here (load h) = ap (run x.state) more ∙ run-append x.state es (load h ∷ []) in
    record {
      state = one_more x here (load h) n before.state next refl ∙ ap (λ s. record { state = s; stream = x.stream }) (sym last);
      events = one_event_more x here (load h) n es before.state next before.events ∙ sym more;
      core =
          ap (λ s. s.core) last
          ∙ core-by_load here.core.phase here h loads_here
          ∙ ap (λ i. record here.core { phase = Checking (i + 1) }) index_here
          ∙ ap (λ (c : Core). record c { phase = Checking (from + n + 1) }) before.core;
      words = λ p. ap (λ s. word_of s.notes p) last ∙ word_of-by_load here.core.phase here h p ∙ before.words p;
      hits = λ p. ap (λ s. hit s.notes p) last ∙ hit-by_load here.core.phase here h p ∙ before.hits p;
    }

-- a world whose next n picks are cleared makes n steps
pub clears_advance : {R : Type 0} (stream : R → Stream) (m new : MonitorView) (pages now : PagesView) (source : R) (k n : ℕ) → m.core.phase ≡ Clearing k → k < row_count m.core → k + n ≤ row_count m.core → new.core ≡ cleared_core n m.core → Makes Stands m new (clears n) → length pages.marks ≡ pages_of m.core.space → AreCleared m.core.picks k n (m.core.ticks + 1) pages now
    → IsAdvance stream (record { monitor = m; pages = pages; source = source }) (record { monitor = new; pages = now; source = source }) n
clears_advance {R} stream m new pages now source k n clearing some within shown events len made_now = record {
  plays = λ x reached stands.
      (let same = stands.state.monitor.same in
      let rows : row_count m.core ≡ row_count x.state.core = ap row_count same in
      let clearing_x : x.state.core.phase ≡ Clearing k = ap (λ (c : Core). c.phase) (sym same) ∙ clearing in
      let some_x : k < row_count x.state.core = omega (arith, some, rows) in
      let within_x : k + n ≤ row_count x.state.core = omega (arith, within, rows) in
      let all = clears_to x k n clearing_x some_x within_x in
      let made = events x.state reached stands.state.monitor in
      let made_x : AreCleared x.state.core.picks k n (x.state.core.ticks + 1) pages now = subst (λ (c : Core). AreCleared c.picks k n (c.ticks + 1) pages now) same made_now in
      let after = pages_cleared x k n (pages_of m.core.space) pages now clearing_x some_x within_x len made_x stands.state.pages in
      let here : StandsAt stream (record { monitor = new; pages = now; source = source }) (record { state = run x.state (clears n); stream = x.stream }) = record {
        state = record { monitor = made.1; pages = subst (λ ts. ArePagesOf now (run x.state (clears n)).notes (pages_of ts)) (sym space) after };
        words = stands.words;
      } in
      (subst (AllFit x.state) (sym all.events) made.0, subst (StandsAt stream (record { monitor = new; pages = now; source = source })) (sym all.state) here));
  amid = λ x reached stands j least below.
      (let same = stands.state.monitor.same in
      let rows : row_count m.core ≡ row_count x.state.core = ap row_count same in
      let clearing_x : x.state.core.phase ≡ Clearing k = ap (λ (c : Core). c.phase) (sym same) ∙ clearing in
      let part = clears_to x k j clearing_x (omega (arith, some, rows)) (omega (arith, below, within, rows)) in
      let phase : (run x.state (clears j)).core.phase ≡ Clearing (k + j) = ap (λ (c : Core). c.phase) part.core ∙ clearing_amid (k + j) (row_count x.state.core) (omega (arith, below, within, rows)) in
      subst (λ (y : Moment). IsAmid y.state.core.phase) (sym part.state) (subst IsAmid (sym phase) tt));
  passes = omega (arith, ap (λ (c : Core). c.ticks) shown);
  space = space;
  cap = ap (λ (c : Core). c.regions.cap) shown;
  tags = made_now.tagged;
}
  where
    space : new.core.space ≡ m.core.space
    space = ap (λ (c : Core). c.space) shown

amid_by_loads : (from n : ℕ) (ph : Phase) → 1 ≤ n → IsAmid (phase_by_loads from n ph)
amid_by_loads from zero ph some = absurd (omega arith)
amid_by_loads from (suc n) ph some = tt

-- the marks of a world's picks are the hits of its state
abbrev pub MarksAre : List Bool → MonitorView → PagesView → Type 0
MarksAre marks m pages = (s : State) → Reached s → Stands m s → ArePagesOf pages s.notes (pages_of m.core.space) → (j : ℕ) → j < row_count m.core → mark_of marks (slice_index m.core.picks j) ≡ hit s.notes (slice_index m.core.picks j)

-- a world whose next n picks are loaded makes n steps
pub loads_advance : {R : Type 0} (stream : R → Stream) (m new : MonitorView) (pages : PagesView) (source : R) (marks : List Bool) (from n : ℕ) → IsLoading m.core.phase (row_count m.core) → load_index m.core.phase ≡ from → from + n ≤ row_count m.core → length m.core.picks ≡ row_count m.core → new.core ≡ loaded_core n m.core → Makes Stands m new (loads marks (next_picks m.core.picks from n)) → MarksAre marks m pages
    → IsAdvance stream (record { monitor = m; pages = pages; source = source }) (record { monitor = new; pages = pages; source = source }) n
loads_advance {R} stream m new pages source marks from n loading index within each shown events true_marks = record {
  plays = λ x reached stands.
      (let same = stands.state.monitor.same in
      let all = to x reached stands n (omega arith) in
      let here = run x.state (next_loads marks x from n) in
      let made = subst (λ (c : Core). AllFit x.state (loads marks (next_picks c.picks from n)) × Stands new (run x.state (loads marks (next_picks c.picks from n)))) same (events x.state reached stands.state.monitor) in
      let now : StandsAt stream (record { monitor = new; pages = pages; source = source }) (record { state = here; stream = x.stream }) = record {
        state = record { monitor = made.1; pages = subst (λ ts. ArePagesOf pages here.notes (pages_of ts)) (sym space) (same_pages pages x.state.notes here.notes (pages_of m.core.space) all.words stands.state.pages) };
        words = stands.words;
      } in
      (subst (AllFit x.state) (sym all.events) made.0, subst (StandsAt stream (record { monitor = new; pages = pages; source = source })) (sym all.state) now));
  amid = λ x reached stands j least below.
      (let part = to x reached stands j (omega arith) in
      subst (λ (y : Moment). IsAmid y.state.core.phase) (sym part.state) (subst (λ (c : Core). IsAmid c.phase) (sym part.core) (amid_by_loads from j x.state.core.phase least)));
  passes = omega (arith, ap (λ (c : Core). c.ticks) shown);
  space = space;
  cap = ap (λ (c : Core). c.regions.cap) shown;
  tags = refl;
}
  where
    space : new.core.space ≡ m.core.space
    space = ap (λ (c : Core). c.space) shown

    to : (x : Moment) → Reached x.state → StandsAt stream (record { monitor = m; pages = pages; source = source }) x → (j : ℕ) → j ≤ n → LoadsTo x marks from j
    to x reached stands j few =
        let same = stands.state.monitor.same in
        let rows : row_count m.core ≡ row_count x.state.core = ap row_count same in
        let loading_x = subst (λ (c : Core). IsLoading c.phase (row_count c)) same loading in
        let index_x : load_index x.state.core.phase ≡ from = ap (λ (c : Core). load_index c.phase) (sym same) ∙ index in
        let each_x : length x.state.core.picks ≡ row_count x.state.core = subst (λ (c : Core). length c.picks ≡ row_count c) same each in
        let marks_x : (i : ℕ) → i < row_count x.state.core → mark_of marks (slice_index x.state.core.picks i) ≡ hit x.state.notes (slice_index x.state.core.picks i) = subst (λ (c : Core). (i : ℕ) → i < row_count c → mark_of marks (slice_index c.picks i) ≡ hit x.state.notes (slice_index c.picks i)) same (true_marks x.state reached stands.state.monitor stands.state.pages) in
        loads_to x marks from j loading_x index_x (omega (arith, few, within, rows)) each_x (λ i below. marks_x i (omega (arith, below, few, within, rows)))

-- where a load comes next each pick is cleared
pub loading_kept : (ph : Phase) (rows : ℕ) → IsLoading ph rows → IsInPass ph × (cleared_so_far ph rows ≡ rows)
loading_kept Armed rows loading = (tt, refl)
loading_kept (Checking k) rows loading = (tt, refl)
loading_kept _ rows loading = absurd loading
