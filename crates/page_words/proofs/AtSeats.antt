-- At a seat of its kind each step keeps the rule, and what the seat knows afterwards.
use Rattle.std.proofs.Common.{◌≡◌, ℕ, ◌*◌, ◌<◌, ◌≤◌, [], ◌∷◌, ◌++◌, sym, ap, ◌∙◌, subst}
use Rattle.atomic_table.specs.Table.{Me, Allows}
use Rattle.page_words.specs.declared.view.Entry.TheVariants.{Clear}
use Rattle.page_words.specs.declared.view.View.{View}
use Rattle.page_words.specs.declared.view.View.TheVariants.{Monitor}
use Rattle.page_words.specs.Clears.{last_clear_pass}
use Rattle.page_words.specs.Rule.{WordRule}
use Rattle.page_words.specs.Steps.{with_entry, Finds}
use Rattle.page_words.specs.Keeping.{TouchKeeps, ClearKeeps, LoadKeeps, SplitKeeps, GatherKeeps}
use Rattle.page_words.specs.Seats.{worker_of, touches_of, entries_of, IsTouchSeat, IsMonitorSeat}
use Rattle.page_words.proofs.Passes.{last_clear_pass-push}
use Rattle.page_words.proofs.Seating.{splits, gathers}
use Rattle.page_words.proofs.Stepping.{touches, clears, loads, double_half}

module _ {S : Type 0} (n slots id p : ℕ) (me : Me S View) where
  pub touch_keeps : p < n → IsTouchSeat me → TouchKeeps n slots id me p
  touch_keeps inside is = subst (λ x. TouchKeeps n slots id x p) (sym is) (touches n slots id (worker_of me.0) p (touches_of me.0) [] inside)

  pub clear_keeps : (pass out : ℕ) → p < n → 1 ≤ pass → last_clear_pass (entries_of me.0) ≤ pass → IsMonitorSeat me out → ClearKeeps n slots id me p pass
  clear_keeps pass out inside some_pass later is =
      subst (λ k. Allows (WordRule n) slots id me p (λ word. 2 * pass) (λ found after. (after ≡ (with_entry me.0 (Clear p k), me.1)) × Finds me.0 p found)) (sym (double_half pass).0)
      (subst (λ x. Allows (WordRule n) slots id x p (λ word. 2 * pass) (λ found after. (after ≡ (with_entry x.0 (Clear p pass), x.1)) × Finds x.0 p found)) (sym is) (clears n slots id p pass out (entries_of me.0) [] inside some_pass later))

  pub load_keeps : (out : ℕ) → IsMonitorSeat me out → LoadKeeps n slots id me p
  load_keeps out is = subst (λ x. LoadKeeps n slots id x p) (sym is) (loads n slots id p out (entries_of me.0) [])

pub split_keeps : {S : Type 0} (n id worker out : ℕ) (me : Me S View) → IsMonitorSeat me out → SplitKeeps S n id me.0 worker
split_keeps {S} n id worker out me is = subst (λ x. SplitKeeps S n id x worker) (sym (ap (λ m. m.0) is)) (splits n id worker out (entries_of me.0))

pub gather_keeps : {S : Type 0} (n id other out : ℕ) (me you : Me S View) → IsMonitorSeat me out → IsTouchSeat you → GatherKeeps S n id me.0 other you.0
gather_keeps {S} n id other out me you is that = subst (λ x. GatherKeeps S n id x other you.0) (sym (ap (λ m. m.0) is))
    (subst (λ y. GatherKeeps S n id (Monitor (entries_of me.0) out) other y) (sym (ap (λ m. m.0) that))
    (gathers n id out other (worker_of you.0) (entries_of me.0) (touches_of you.0)))

-- after a clear the seat is still the monitor's, and the last pass is that of the clear
pub after_clear : {S : Type 0} (me now : Me S View) (p pass out : ℕ) → IsMonitorSeat me out → now ≡ (with_entry me.0 (Clear p pass), me.1) → IsMonitorSeat now out × (last_clear_pass (entries_of now.0) ≡ pass)
after_clear me now p pass out is step =
    let more : now ≡ (Monitor (entries_of me.0 ++ Clear p pass ∷ []) out, []) = step ∙ ap (λ x. (with_entry x.0 (Clear p pass), x.1)) is in
    let entries : entries_of now.0 ≡ entries_of me.0 ++ Clear p pass ∷ [] = ap (λ x. entries_of x.0) more in
    (more ∙ ap (λ l. (Monitor l out, [])) (sym entries), ap last_clear_pass entries ∙ last_clear_pass-push p pass (entries_of me.0))
