-- A touch, a clear and a load keep the rule.
use Rattle.std.proofs.Common.{◌≡◌, ◌≢◌, ◌⊎◌, ℕ, zero, suc, ◌*◌, ◌/◌, ◌%◌, ◌<◌, ◌≤◌, List, [], ◌∷◌, ◌++◌, length, get_or, set, replicate, max, refl, sym, ap, ◌∙◌, subst, inl, inr, ⊎_elim, arith, length-set, length-append}
use Rattle.std.specs.Prelude.{bit_or}
use Rattle.std.specs.List.{Contains}
use Rattle.std.specs.Int.{bit_at}
use Rattle.std.proofs.Math.ListN.{get_or-eq_default, length-replicate}
use Rattle.std.proofs.lemmas.List.{get_or-replicate, set-get_or}
use Rattle.std.proofs.lemmas.List.Elements.{Contains-append_left, Contains-get_or, Contains-push, Contains-push_cases}
use Rattle.std.proofs.lemmas.List.Quantifiers.{all_pairs_push}
use Rattle.std.proofs.lemmas.Nat.Bits.{bit_at_or, bit_at-suc, bit_at-zero, bit_at_lowest, same_from_bits}
use mathlib.Core.Logic.{dite}
use mathlib.Core.Option.{some, some-injective, some-ne-none}
use native.Mathlib.Decide.{dec_lt}
use lib.ListN.{get_elem?}
use Rattle.atomic_table.specs.Table.{State, keeps, Allows, opening}
use Rattle.page_words.specs.declared.view.Touch.{Touch}
use Rattle.page_words.specs.declared.view.Entry.{Entry}
use Rattle.page_words.specs.declared.view.Entry.TheVariants.{Clear, Load, Gathered}
use Rattle.page_words.specs.declared.view.View.{View}
use Rattle.page_words.specs.declared.view.View.TheVariants.{Toucher, Monitor}
use Rattle.page_words.specs.Clears.{last_clear_pass}
use Rattle.page_words.specs.Views.{touch, Told, Holds, IsAmong, IsKnown, TagsRiseIn}
use Rattle.page_words.specs.Clauses.{AreBefore}
use Rattle.page_words.specs.Rule.{Agree, WordRule}
use Rattle.page_words.specs.Steps.{Finds}
use Rattle.page_words.proofs.Lists.{contains_none}
use Rattle.page_words.proofs.Agreeing.{agree_same, agree_touch, agree_clear, agree_load, tag_below}
use Rattle.page_words.proofs.Views.{changed_here, known_after, known_before, tags_after, monitor-touch, monitor-entries, agree_here}

-- the lowest bit is set, and no other changes
or_one : (n : ℕ) → (bit_or n 1 / 2 ≡ n / 2) × (bit_or n 1 % 2 ≡ 1)
or_one n = (
  same_from_bits (bit_or n 1 / 2) (n / 2) (λ i. sym (bit_at-suc (bit_or n 1) i) ∙ bit_at_or n 1 (suc i) ∙ ap (λ b. max (bit_at n (suc i)) b) (bit_at-suc 1 i ∙ bit_at-zero i) ∙ top (bit_at n (suc i)) ∙ bit_at-suc n i),
  sym (bit_at_lowest (bit_or n 1)) ∙ bit_at_or n 1 0 ∙ low,
)
  where
    top : (b : ℕ) → max b 0 ≡ b
    top b = omega arith

    low : max (bit_at n 0) (bit_at 1 0) ≡ 1
    low = let a = bit_at_lowest n in let b = bit_at_lowest 1 in let small : n % 2 < 2 = omega arith in omega arith

pub touches : {S : Type 0} (n slots id k p : ℕ) (ts : List Touch) (c : List (ℕ × S)) → p < n
    → Allows (WordRule n) slots id (Toucher k ts, c) p (λ m. bit_or m 1)
    (λ found after. (after ≡ (Toucher k (ts ++ touch p (found / 2) ∷ []), c)) × TagsRiseIn after.0)
touches n slots id k p ts c inside s rule _ at _ =
    let found : ℕ = get_or s.words p 0 in
    let tag : ℕ = get_or s.words p 0 / 2 in
    let new : ℕ = bit_or (get_or s.words p 0) 1 in
    let v : View = Toucher k ts in
    let w : View = Toucher k (ts ++ touch p tag ∷ []) in
    let within : p < length s.words = let e = rule.count in omega arith in
    let rise : TagsRiseIn w = all_pairs_push (λ t u. t.page ≡ u.page → t.tag ≤ u.tag) ts (touch p tag) (rule.tags v (id, at))
    (λ i d l same. let x : Touch = get_or ts i d in
    let below = tag_below s.words rule.entries (IsKnown s.views) x.page x.tag rule.agree (v, (id, at), Contains-get_or ts i d l) in
    subst (λ z. x.tag ≤ get_or s.words z 0 / 2) same below) in (
      w,
      keeps,
      tt,
      record {
        count = length-set s.words p new ∙ rule.count;
        entries = rule.entries;
        out = rule.out;
        monitor = monitor-touch s.views rule.entries rule.out rule.monitor id k ts (ts ++ touch p tag ∷ []) at;
        agree = agree_same (set s.words p new) rule.entries (λ q d. IsKnown s.views q d ⊎ ((q ≡ p) × (d ≡ tag))) (IsKnown (set s.views id w))
            (λ q d. ⊎_elim
            (λ (t : IsKnown s.views q d). known_before s.views id v w at q d (Contains-append_left ts (touch p tag ∷ []) (touch q d)) t)
            (λ (t : (q ≡ p) × (d ≡ tag)). (w, (id, changed_here s.views id v w at), subst (Contains (ts ++ touch p tag ∷ [])) (λ i. touch (sym t.0 i) (sym t.1 i)) (Contains-push ts (touch p tag)))))
            (λ q d h. ⊎_elim
            (λ (t : Contains (ts ++ touch p tag ∷ []) (touch q d)). ⊎_elim
            (λ (u : Contains ts (touch q d)). inl (v, (id, at), u))
            (λ (e : touch p tag ≡ touch q d). inr (ap (λ x. x.page) (sym e), ap (λ x. x.tag) (sym e)))
            (Contains-push_cases ts (touch p tag) (touch q d) t))
            inl
            (known_after s.views id w q d h))
            (agree_touch s.words rule.entries (IsKnown s.views) p new within (or_one found).0 (or_one found).1 rule.agree);
        tags = tags_after s.views id w rise rule.tags;
      },
      (refl, rise),
    )

-- the monitor's view has become one with these entries, and all else but the words is as it was
monitor_steps : {S : Type 0} (n : ℕ) (s : State S View) → WordRule n s → (id : ℕ) (es more : List Entry) (out : ℕ) → get_elem? s.views id ≡ some (Monitor es out) → (words : List ℕ) → length words ≡ n
    → ((p c : ℕ) → Told es p c → Told more p c) → ((k : ℕ) (ts : List Touch) → Contains more (Gathered k ts) → Contains es (Gathered k ts)) → Agree words more (IsKnown s.views)
    → WordRule n record { words = words; homes = s.homes; views = set s.views id (Monitor more out) }
monitor_steps n s rule id es more out at words count to lists agree =
    let v : View = Monitor es out in
    let w : View = Monitor more out in record {
      count = count;
      entries = more;
      out = out;
      monitor = monitor-entries s.views rule.entries rule.out rule.monitor id es out at more;
      agree = agree_same words more (IsKnown s.views) (IsKnown (set s.views id w))
          (λ q d. known_before s.views id v w at q d (to q d))
          (λ q d h. ⊎_elim (λ (t : Told more q d). (v, (id, at), (t.0, t.1, lists t.0 t.1 t.2, t.3))) (λ (t : IsKnown s.views q d). t) (known_after s.views id w q d h))
          agree;
      tags = tags_after s.views id w (λ k ts h. rule.tags v (id, at) k ts (lists k ts h)) rule.tags;
    }

pub told_more : (es : List Entry) (e : Entry) (p c : ℕ) → Told es p c → Told (es ++ e ∷ []) p c
told_more es e p c t = (t.0, t.1, Contains-append_left es (e ∷ []) (Gathered t.0 t.1) t.2, t.3)

gathered_before : (es : List Entry) (e : Entry) → ((k : ℕ) (ts : List Touch) → e ≢ Gathered k ts) → (k : ℕ) (ts : List Touch) → Contains (es ++ e ∷ []) (Gathered k ts) → Contains es (Gathered k ts)
gathered_before es e other k ts h = ⊎_elim (λ (t : Contains es (Gathered k ts)). t) (λ (t : e ≡ Gathered k ts). absurd (other k ts t)) (Contains-push_cases es e (Gathered k ts) h)

pub double_half : (c : ℕ) → ((2 * c) / 2 ≡ c) × ((2 * c) % 2 ≡ 0)
double_half c = (omega arith, omega arith)

pub clears : {S : Type 0} (n slots id p pass out : ℕ) (es : List Entry) (c : List (ℕ × S)) → p < n → 1 ≤ pass → last_clear_pass es ≤ pass
    → Allows (WordRule n) slots id (Monitor es out, c) p (λ _. 2 * pass) (λ found after. (after ≡ (Monitor (es ++ Clear p pass ∷ []) out, c)) × Finds (Monitor es out) p found)
clears n slots id p pass out es c inside some_pass later s rule _ at _ =
    let within : p < length s.words = let e = rule.count in omega arith in
    let e : Entry = Clear p pass in
    let agree = agree_here s.views rule.entries rule.out rule.monitor id es out at s.words rule.agree in (
      Monitor (es ++ e ∷ []) out,
      keeps,
      tt,
      monitor_steps n s rule id es (es ++ e ∷ []) out at (set s.words p (2 * pass)) (length-set s.words p (2 * pass) ∙ rule.count)
          (told_more es e) (gathered_before es e (λ k ts is. cc (is)))
          (agree_clear s.words es (IsKnown s.views) p pass (2 * pass) within some_pass later (double_half pass).0 (double_half pass).1 agree),
      (refl, (agree.clears.0 p, λ t one. agree.touched p (Monitor es out, (id, at), t) one)),
    )

pub loads : {S : Type 0} (n slots id p out : ℕ) (es : List Entry) (c : List (ℕ × S))
    → Allows (WordRule n) slots id (Monitor es out, c) p (λ m. m) (λ found after. (after ≡ (Monitor (es ++ Load p found ∷ []) out, c)) × Finds (Monitor es out) p found)
loads n slots id p out es c s rule _ at _ =
    let found : ℕ = get_or s.words p 0 in
    let e : Entry = Load p found in
    let told : (q d : ℕ) → Told es q d → IsKnown s.views q d = λ q d t. (Monitor es out, (id, at), t) in
    let agree = agree_here s.views rule.entries rule.out rule.monitor id es out at s.words rule.agree in (
      Monitor (es ++ e ∷ []) out,
      keeps,
      tt,
      subst (λ ws. WordRule n record { words = ws; homes = s.homes; views = set s.views id (Monitor (es ++ e ∷ []) out) }) (sym (set-get_or s.words p 0))
          (monitor_steps n s rule id es (es ++ e ∷ []) out at s.words rule.count (told_more es e) (gathered_before es e (λ k ts is. cc (is)))
          (agree_load s.words es (IsKnown s.views) p told agree)),
      (refl, (agree.clears.0 p, λ t one. agree.touched p (told p _ t) one)),
    )

zero_word : (n p : ℕ) → get_or {A = ℕ} (replicate n 0) p 0 ≡ 0
zero_word n p = dite (dec_lt p n) (λ l. get_or-replicate n p 0 0 l) (λ ge. get_or-eq_default (replicate n 0) 0 (long ge))
  where
    long : ¬ (p < n) → length {A = ℕ} (replicate n 0) ≤ p
    long ge = let l : length {A = ℕ} (replicate n 0) ≡ n = length-replicate n 0 in omega arith

-- all words are 0, and nothing was done
pub opens : {S : Type 0} (n : ℕ) → WordRule {S = S} n (opening (replicate n 0) [] (Monitor [] 0))
opens {S} n = record {
  count = length-replicate n 0;
  entries = [];
  out = 0;
  monitor = record { one = refl; view = (0, refl); touchers = refl };
  agree = record {
    clears = ((λ p. ap (λ k. k / 2) (zero_word n p)), (λ k d l. absurd (omega arith)), (λ i j d l m. absurd (omega arith)));
    tags = λ p c h. absurd (nobody p c h);
    odd = λ p o. let z = zero_word n p in absurd (omega arith);
    touched = λ p h. absurd (nobody p _ h);
    loads = λ before p w f. absurd (nothing before (Load p w) f);
    told = λ before p w f. absurd (nothing before (Load p w) f);
  };
  tags = first;
}
  where
    first : (v : View) → IsAmong (Monitor [] 0 ∷ []) v → TagsRiseIn v
    first v (zero, e) = subst TagsRiseIn (some-injective (Monitor [] 0) v e) (λ k ts h. absurd (contains_none (Gathered k ts) h))
    first v (suc j, e) = absurd (some-ne-none v (sym e))

    nobody : (p c : ℕ) → IsKnown (Monitor [] 0 ∷ []) p c → ⊥
    nobody p c (v, (zero, e), h) = let t : Holds (Monitor [] 0) p c = subst (λ x. Holds x p c) (sym (some-injective (Monitor [] 0) v e)) h in contains_none (Gathered t.0 t.1) t.2
    nobody p c (v, (suc j, e), h) = some-ne-none v (sym e)

    nothing : (before : List Entry) (e : Entry) → AreBefore [] before e → ⊥
    nothing before e f = let l = ap length f.1 in omega (arith, length-append before (e ∷ f.0))
