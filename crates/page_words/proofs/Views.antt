-- Lists of views of which one has changed.
use Rattle.std.proofs.Common.{◌≡◌, ◌≢◌, ◌⊎◌, ℕ, zero, suc, ◌+◌, ◌-◌, ◌<◌, cond, List, [], ◌∷◌, ◌++◌, length, set, sym, ap, ◌∙◌, subst, inl, inr, ⊎_elim, arith}
use Rattle.std.specs.List.{sum_by, count_by}
use Rattle.std.proofs.lemmas.List.Sums.{sum_by-append, sum_by-cons}
use mathlib.Core.Logic.{dite}
use mathlib.Core.Option.{some, some-injective, some-ne-none}
use native.Mathlib.Decide.{ℕ_discrete}
use lib.ListN.{get_elem?}
use Rattle.atomic_table.proofs.Lists.{at_set, set_here, set_else, at_longer}
use Rattle.page_words.specs.declared.view.Touch.{Touch}
use Rattle.page_words.specs.declared.view.Entry.{Entry}
use Rattle.page_words.specs.declared.view.View.{View}
use Rattle.page_words.specs.declared.view.View.TheVariants.{Toucher, Monitor, Spent}
use Rattle.page_words.specs.Views.{Holds, IsKnown, TagsRiseIn, is_monitor, is_toucher}
use Rattle.page_words.specs.Clauses.{HasOneMonitor, TagsNeverFall}
use Rattle.page_words.specs.Rule.{Agree}

pub at_inside : {A : Type 0} (l : List A) (i : ℕ) (a : A) → get_elem? l i ≡ some a → i < length l
at_inside [] i a e = absurd (some-ne-none a (sym e))
at_inside (x ∷ xs) zero a e = omega arith
at_inside (x ∷ xs) (suc i) a e = let h = at_inside xs i a e in omega arith

-- the view w stands where v stood
pub changed_here : (views : List View) (id : ℕ) (v w : View) → get_elem? views id ≡ some v → get_elem? (set views id w) id ≡ some w
changed_here views id v w at = set_here views id w (at_inside views id v at)

-- what some view holds now, the new view holds, or some view held it before
pub known_after : (views : List View) (id : ℕ) (w : View) (p c : ℕ) → IsKnown (set views id w) p c → Holds w p c ⊎ IsKnown views p c
known_after views id w p c (v, place, h) = ⊎_elim
    (λ (t : (place.0 ≡ id) × (w ≡ v)). inl (subst (λ x. Holds x p c) (sym t.1) h))
    (λ (t : (place.0 ≢ id) × (get_elem? views place.0 ≡ some v)). inr (v, (place.0, t.1), h))
    (at_set views id place.0 w v place.1)

pub known_before : (views : List View) (id : ℕ) (v w : View) → get_elem? views id ≡ some v → (p c : ℕ) → (Holds v p c → Holds w p c) → IsKnown views p c → IsKnown (set views id w) p c
known_before views id v w at p c more (u, place, h) = dite (ℕ_discrete place.0 id)
    (λ (same : place.0 ≡ id). let is : u ≡ v = some-injective u v (sym place.1 ∙ ap (get_elem? views) same ∙ at) in
    (w, (id, changed_here views id v w at), more (subst (λ x. Holds x p c) is h)))
    (λ (ne : place.0 ≢ id). (u, (place.0, set_else views id place.0 w ne ∙ place.1), h))

-- tags rise in the new view and in those that stood before
pub tags_after : (views : List View) (id : ℕ) (w : View) → TagsRiseIn w → TagsNeverFall views → TagsNeverFall (set views id w)
tags_after views id w new old v place = ⊎_elim
    (λ (t : (place.0 ≡ id) × (w ≡ v)). subst TagsRiseIn t.1 new)
    (λ (t : (place.0 ≢ id) × (get_elem? views place.0 ≡ some v)). old v (place.0, t.1))
    (at_set views id place.0 w v place.1)

-- a sum after one of the views has changed
pub sum_by-changed : (f : View → ℕ) (views : List View) (id : ℕ) (v w : View) → get_elem? views id ≡ some v → sum_by f (set views id w) + f v ≡ sum_by f views + f w
sum_by-changed f [] id v w e = absurd (some-ne-none v (sym e))
sum_by-changed f (x ∷ xs) zero v w e = let is : x ≡ v = some-injective x v e in let fx : f x ≡ f v = ap f is in omega (arith, sum_by-cons f w xs, sum_by-cons f x xs, fx)
sum_by-changed f (x ∷ xs) (suc id) v w e = let h = sum_by-changed f xs id v w e in omega (arith, sum_by-cons f x (set xs id w), sum_by-cons f x xs, h)

-- how many views are the monitor's, and how many are touch views, after one has changed
monitors_after : (views : List View) (id : ℕ) (v w : View) → get_elem? views id ≡ some v → count_by is_monitor (set views id w) + cond (is_monitor v) 1 0 ≡ count_by is_monitor views + cond (is_monitor w) 1 0
monitors_after views id v w at = sum_by-changed (λ x. cond (is_monitor x) 1 0) views id v w at

touchers_after : (views : List View) (id : ℕ) (v w : View) → get_elem? views id ≡ some v → count_by is_toucher (set views id w) + cond (is_toucher v) 1 0 ≡ count_by is_toucher views + cond (is_toucher w) 1 0
touchers_after views id v w at = sum_by-changed (λ x. cond (is_toucher x) 1 0) views id v w at

-- two views of the monitor stand at one place
only_one : (views : List View) (j k : ℕ) (es fs : List Entry) (n m : ℕ) → count_by is_monitor views ≡ 1 → get_elem? views j ≡ some (Monitor es n) → get_elem? views k ≡ some (Monitor fs m) → j ≡ k
only_one views j k es fs n m one at there = dite (ℕ_discrete j k) (λ same. same)
    (λ (ne : j ≢ k).
    let a = monitors_after views j (Monitor es n) Spent at in
    let b = monitors_after (set views j Spent) k (Monitor fs m) Spent (set_else views j k Spent (λ x. ne (sym x)) ∙ there) in
    absurd (omega (arith, a, b, one)))

module _ (views : List View) (entries : List Entry) (out : ℕ) (monitor : HasOneMonitor views entries out) (id : ℕ) where
  -- the monitor's view is the one that the rule speaks of
  pub same_monitor : (es : List Entry) (n : ℕ) → get_elem? views id ≡ some (Monitor es n) → (entries ≡ es) × (out ≡ n)
  same_monitor es n at =
      let place = only_one views monitor.view.0 id entries es out n monitor.one monitor.view.1 at in
      let both : Monitor entries out ≡ Monitor es n = some-injective (Monitor entries out) (Monitor es n) (sym monitor.view.1 ∙ ap (get_elem? views) place ∙ at) in
      (cc (both), cc (both))

  -- a touch view has changed
  pub monitor-touch : (k : ℕ) (ts us : List Touch) → get_elem? views id ≡ some (Toucher k ts) → HasOneMonitor (set views id (Toucher k us)) entries out
  monitor-touch k ts us at =
      let far : monitor.view.0 ≢ id = λ e. cc (sym monitor.view.1 ∙ ap (get_elem? views) e ∙ at) in record {
        one = let a = monitors_after views id (Toucher k ts) (Toucher k us) at in let b = monitor.one in omega (arith, a, b);
        view = (monitor.view.0, set_else views id monitor.view.0 (Toucher k us) far ∙ monitor.view.1);
        touchers = let a = touchers_after views id (Toucher k ts) (Toucher k us) at in let b = monitor.touchers in omega (arith, a, b);
      }

  module _ (es : List Entry) (n : ℕ) (at : get_elem? views id ≡ some (Monitor es n)) where
    -- the monitor's view has other entries
    pub monitor-entries : (more : List Entry) → HasOneMonitor (set views id (Monitor more n)) more n
    monitor-entries more = record {
      one = let a = monitors_after views id (Monitor es n) (Monitor more n) at in let b = monitor.one in omega (arith, a, b);
      view = (id, changed_here views id (Monitor es n) (Monitor more n) at);
      touchers = let a = touchers_after views id (Monitor es n) (Monitor more n) at in let b = monitor.touchers in let c = (same_monitor es n at).1 in omega (arith, a, b, c);
    }

    -- a touch view has come
    pub monitor-split : (k : ℕ) → HasOneMonitor (set views id (Monitor es (n + 1)) ++ Toucher k [] ∷ []) es (n + 1)
    monitor-split k =
        let vs : List View = set views id (Monitor es (n + 1)) in record {
          one =
              let a = monitors_after views id (Monitor es n) (Monitor es (n + 1)) at in
              let b = sum_by-append (λ v. cond (is_monitor v) 1 0) vs (Toucher k [] ∷ []) in
              let c = monitor.one in
              omega (arith, a, b, c);
          view = (id, at_longer vs (Toucher k [] ∷ []) id (Monitor es (n + 1)) (changed_here views id (Monitor es n) (Monitor es (n + 1)) at));
          touchers =
              let a = touchers_after views id (Monitor es n) (Monitor es (n + 1)) at in
              let b = sum_by-append (λ v. cond (is_toucher v) 1 0) vs (Toucher k [] ∷ []) in
              let c = monitor.touchers in
              let d = (same_monitor es n at).1 in
              omega (arith, a, b, c, d);
        }

    -- a touch view is spent
    pub monitor-gather : (more : List Entry) (other k : ℕ) (ts : List Touch) → other ≢ id → get_elem? (set views id (Monitor more (n - 1))) other ≡ some (Toucher k ts) → HasOneMonitor (set (set views id (Monitor more (n - 1))) other Spent) more (n - 1)
    monitor-gather more other k ts apart there =
        let vs : List View = set views id (Monitor more (n - 1)) in record {
          one =
              let a = monitors_after views id (Monitor es n) (Monitor more (n - 1)) at in
              let b = monitors_after vs other (Toucher k ts) Spent there in
              let c = monitor.one in
              omega (arith, a, b, c);
          view = (id, set_else vs other id Spent (λ x. apart (sym x)) ∙ changed_here views id (Monitor es n) (Monitor more (n - 1)) at);
          touchers =
              let a = touchers_after views id (Monitor es n) (Monitor more (n - 1)) at in
              let b = touchers_after vs other (Toucher k ts) Spent there in
              let c = monitor.touchers in
              let d = (same_monitor es n at).1 in
              omega (arith, a, b, c, d);
        }

    -- what the rule says of the entries, it says of those of this view
    pub agree_here : (words : List ℕ) → Agree words entries (IsKnown views) → Agree words es (IsKnown views)
    agree_here words agree = subst (λ l. Agree words l (IsKnown views)) (same_monitor es n at).0 agree

-- no touch view is there
pub none_out : (views : List View) (id k : ℕ) (ts : List Touch) → count_by is_toucher views ≡ 0 → get_elem? views id ≡ some (Toucher k ts) → ⊥
none_out views id k ts none at = let a = touchers_after views id (Toucher k ts) Spent at in omega (arith, a, none)
