-- A journal with one entry more, and with the results of its loads.
use Rattle.std.proofs.Common.{◌≡◌, Bool, List, [], ◌∷◌, ◌++◌, drop, take, refl, sym, ap, ◌∙◌, subst, append_assoc, length-append, arith}
use Rattle.std.specs.Prelude.{map}
use Rattle.std.proofs.lemmas.List.{append-nil, drop-append-le, take-append-le}
use Rattle.damon_core.specs.Event.{load, observe}
use Rattle.damon_core.specs.Reached.{run}
use Rattle.damon_core.specs.State.{row_count}
use Rattle.damon_control.specs.Live.{LiveValue}
use Rattle.run_journal.specs.declared.entry.Entry.{Entry}
use Rattle.run_journal.specs.declared.entry.Entry.TheVariants.{Prepare, Check, Void, Aggregate, Call}
use Rattle.run_journal.specs.Growth.{longer, replay_with}
use Rattle.run_journal.specs.Replay.{EntriesFit, EntryFits, IsJournalOf, JournalValue, Replayed, begun, carried, check_size, check_sizes, check_sizes_from, replay, replay_from}
use Rattle.page_words.specs.PassSteps.{load_steps}
use Rattle.run_journal.specs.Steps.{entry_steps, steps, steps_from}

-- with more results behind those that are left
abbrev pub with_more : List Bool → Replayed → Replayed
with_more more r = record r { bits = r.bits ++ more }

-- an entry with more results behind
pub record IsSame (v : LiveValue) (more : List Bool) (r : Replayed) (e : Entry) : Type 0 where
  pub fits : EntryFits v (with_more more r) e
  pub next : carried v (with_more more r) e ≡ with_more more (carried v r e)
  pub steps_are : entry_steps v (with_more more r) e ≡ entry_steps v r e
  pub sizes_are : check_size (with_more more r) e ≡ check_size r e

pub one_with_more : (v : LiveValue) (more : List Bool) (r : Replayed) (e : Entry) → EntryFits v r e → IsSame v more r e
one_with_more v more r (Prepare pass pos) fits = record { fits = fits; next = refl; steps_are = refl; sizes_are = refl }
one_with_more v more r (Check pass) fits =
    let n = row_count r.state.core in
    let front : take n (r.bits ++ more) ≡ take n r.bits = take-append-le n r.bits more fits.2 in
    record {
      fits = (fits.0, fits.1, omega (arith, fits.2, length-append r.bits more));
      next =
          ap (λ bs. record (carried v r (Check pass)) { state = run r.state (map (λ bit. load bit) bs ++ observe ∷ []); bits = drop n (r.bits ++ more) }) front
          ∙ ap (λ bs. record (carried v r (Check pass)) { bits = bs }) (drop-append-le n r.bits more fits.2);
      steps_are = ap (load_steps pass r.state.core.picks) front;
      sizes_are = refl;
    }
one_with_more v more r (Void pass) fits = record { fits = fits; next = refl; steps_are = refl; sizes_are = refl }
one_with_more v more r (Aggregate tick pos) fits = record { fits = fits; next = refl; steps_are = refl; sizes_are = refl }
one_with_more v more r (Call controller index answer) fits = record { fits = fits; next = refl; steps_are = refl; sizes_are = refl }

pub carried-more : (v : LiveValue) (more : List Bool) (r : Replayed) (e : Entry) → EntryFits v r e → carried v (with_more more r) e ≡ with_more more (carried v r e)
carried-more v more r e fits = (one_with_more v more r e fits).next

-- entries with more results behind
pub record AreSame (v : LiveValue) (more : List Bool) (r : Replayed) (es : List Entry) : Type 0 where
  pub fit : EntriesFit v (with_more more r) es
  pub is : replay_from v (with_more more r) es ≡ with_more more (replay_from v r es)
  pub steps_are : steps_from v (with_more more r) es ≡ steps_from v r es
  pub sizes_are : check_sizes_from v (with_more more r) es ≡ check_sizes_from v r es

pub same_with_more : (v : LiveValue) (more : List Bool) (r : Replayed) (es : List Entry) → EntriesFit v r es → AreSame v more r es
same_with_more v more r [] fit = record { fit = tt; is = refl; steps_are = refl; sizes_are = refl }
same_with_more v more r (e ∷ es) fit =
    let here = one_with_more v more r e fit.0 in
    let rest = same_with_more v more (carried v r e) es fit.1 in
    record {
      fit = (here.fits, subst (λ x. EntriesFit v x es) (sym here.next) rest.fit);
      is = ap (λ x. replay_from v x es) here.next ∙ rest.is;
      steps_are = (λ i. here.steps_are i ++ steps_from v (here.next i) es) ∙ ap (λ l. entry_steps v r e ++ l) rest.steps_are;
      sizes_are = (λ i. here.sizes_are i ++ check_sizes_from v (here.next i) es) ∙ ap (λ l. check_size r e ++ l) rest.sizes_are;
    }

pub replay_from-snoc : (v : LiveValue) (r : Replayed) (es : List Entry) (e : Entry) → replay_from v r (es ++ e ∷ []) ≡ carried v (replay_from v r es) e
replay_from-snoc v r [] e = refl
replay_from-snoc v r (x ∷ es) e = replay_from-snoc v (carried v r x) es e

fit-snoc : (v : LiveValue) (r : Replayed) (es : List Entry) (e : Entry) → EntriesFit v r es → EntryFits v (replay_from v r es) e → EntriesFit v r (es ++ e ∷ [])
fit-snoc v r [] e fit last = (last, tt)
fit-snoc v r (x ∷ es) e fit last = (fit.0, fit-snoc v (carried v r x) es e fit.1 last)

steps_from-snoc : (v : LiveValue) (r : Replayed) (es : List Entry) (e : Entry) → steps_from v r (es ++ e ∷ []) ≡ steps_from v r es ++ entry_steps v (replay_from v r es) e
steps_from-snoc v r [] e = append-nil (entry_steps v r e)
steps_from-snoc v r (x ∷ es) e =
    ap (λ l. entry_steps v r x ++ l) (steps_from-snoc v (carried v r x) es e)
    ∙ sym (append_assoc (entry_steps v r x) (steps_from v (carried v r x) es) (entry_steps v (replay_from v (carried v r x) es) e))

sizes_from-snoc : (v : LiveValue) (r : Replayed) (es : List Entry) (e : Entry) → check_sizes_from v r (es ++ e ∷ []) ≡ check_sizes_from v r es ++ check_size (replay_from v r es) e
sizes_from-snoc v r [] e = append-nil (check_size r e)
sizes_from-snoc v r (x ∷ es) e =
    ap (λ l. check_size r x ++ l) (sizes_from-snoc v (carried v r x) es e)
    ∙ sym (append_assoc (check_size r x) (check_sizes_from v (carried v r x) es) (check_size (replay_from v (carried v r x) es) e))

-- The new journal is the old one with an entry that has these results: it is one of the script, and its replay, its steps and the
-- sizes of its checks are those before, and then those of the entry.
pub record IsGrown (v : LiveValue) (j new : JournalValue) (e : Entry) (bits : List Bool) : Type 0 where
  pub journal : IsJournalOf v new
  pub is : replay v new ≡ carried v (replay_with v j bits) e
  pub steps_are : steps v new ≡ steps v j ++ entry_steps v (replay_with v j bits) e
  pub sizes_are : check_sizes v new ≡ check_sizes v j ++ check_size (replay_with v j bits) e

pub grown : (v : LiveValue) (j : JournalValue) (e : Entry) (bs : List Bool) → IsJournalOf v j → EntryFits v (replay_with v j bs) e → (carried v (replay_with v j bs) e).bits ≡ [] → IsGrown v j (longer j e bs) e bs
grown v j e bs is fits none =
    let r = begun v j.bits in
    let more = same_with_more v bs r j.entries is.fit in
    let now : replay_from v (with_more bs r) j.entries ≡ replay_with v j bs = more.is ∙ ap (λ l. record (replay v j) { bits = l ++ bs }) is.none_left in
    let then : replay v (longer j e bs) ≡ carried v (replay_with v j bs) e = replay_from-snoc v (with_more bs r) j.entries e ∙ ap (λ x. carried v x e) now in
    record {
      journal = record {
        fit = fit-snoc v (with_more bs r) j.entries e more.fit (subst (λ x. EntryFits v x e) (sym now) fits);
        none_left = ap (λ (x : Replayed). x.bits) then ∙ none;
      };
      is = then;
      steps_are = steps_from-snoc v (with_more bs r) j.entries e ∙ (ap (λ l. l ++ entry_steps v (replay_from v (with_more bs r) j.entries) e) more.steps_are ∙ ap (λ x. steps v j ++ entry_steps v x e) now);
      sizes_are = sizes_from-snoc v (with_more bs r) j.entries e ∙ (ap (λ l. l ++ check_size (replay_from v (with_more bs r) j.entries) e) more.sizes_are ∙ ap (λ x. check_sizes_from v r j.entries ++ check_size x e) now);
    }

-- the same of any journal that is the longer one
pub grows_by_entry : (v : LiveValue) (j new : JournalValue) (e : Entry) (bits : List Bool) → new ≡ longer j e bits → IsJournalOf v j
    → EntryFits v (replay_with v j bits) e → (carried v (replay_with v j bits) e).bits ≡ [] → IsGrown v j new e bits
grows_by_entry v j new e bs same is fits none = subst (λ x. IsGrown v j x e bs) (sym same) (grown v j e bs is fits none)
