-- A split and a gathering keep the rule, and what is known when no seat is out.
use Rattle.std.proofs.Common.{◌≡◌, ◌≢◌, ℕ, ◌+◌, ◌-◌, List, [], ◌∷◌, ◌++◌, set, sym, ap, ◌∙◌, subst, ⊎_elim, arith}
use Rattle.std.specs.List.{Contains}
use Rattle.std.proofs.lemmas.List.Elements.{Contains-push, Contains-push_cases}
use mathlib.Core.Logic.{dite}
use mathlib.Core.Option.{some, some-injective}
use native.Mathlib.Decide.{ℕ_discrete}
use lib.ListN.{get_elem?}
use Rattle.atomic_table.specs.Table.{State, Splits, Joins}
use Rattle.atomic_table.proofs.Lists.{set_else, at_longer, at_snoc}
use Rattle.page_words.specs.declared.view.Touch.{Touch}
use Rattle.page_words.specs.declared.view.Entry.{Entry}
use Rattle.page_words.specs.declared.view.Entry.TheVariants.{Gathered}
use Rattle.page_words.specs.declared.view.View.{View}
use Rattle.page_words.specs.declared.view.View.TheVariants.{Toucher, Monitor, Spent}
use Rattle.page_words.specs.Views.{touch, Told, TagsRise, Holds, IsAmong, IsKnown, GatheredTagsRise, TagsRiseIn}
use Rattle.page_words.specs.Rule.{Agree, WordRule}
use Rattle.page_words.proofs.Lists.{contains_none}
use Rattle.page_words.proofs.Agreeing.{agree_same, agree_gather}
use Rattle.page_words.proofs.Views.{changed_here, known_after, known_before, tags_after, same_monitor, monitor-split, monitor-gather, none_out, agree_here}
use Rattle.page_words.proofs.Stepping.{told_more}

pub splits : {S : Type 0} (n id k out : ℕ) (es : List Entry) → Splits {S = S} (WordRule n) id (Monitor es out) (Monitor es (out + 1)) (Toucher k [])
splits {S} n id k out es s rule at =
    let v : View = Monitor es out in
    let left : View = Monitor es (out + 1) in
    let right : View = Toucher k [] in
    let vs : List View = set s.views id left in record {
      count = rule.count;
      entries = es;
      out = out + 1;
      monitor = monitor-split s.views rule.entries rule.out rule.monitor id es out at k;
      agree = agree_same s.words es (IsKnown s.views) (IsKnown (vs ++ right ∷ []))
          (λ q d h. let t = known_before s.views id v left at q d (λ x. x) h in (t.0, (t.1.0, at_longer vs (right ∷ []) t.1.0 t.0 t.1.1), t.2))
          (λ q d h. ⊎_elim
          (λ (t : get_elem? vs h.1.0 ≡ some h.0). ⊎_elim (λ (u : Told es q d). (v, (id, at), u)) (λ (u : IsKnown s.views q d). u) (known_after s.views id left q d (h.0, (h.1.0, t), h.2)))
          (λ (t : right ≡ h.0). absurd (contains_none (touch q d) (subst (λ x. Holds x q d) (sym t) h.2)))
          (at_snoc vs right h.0 h.1.0 h.1.1))
          (agree_here s.views rule.entries rule.out rule.monitor id es out at s.words rule.agree);
      tags = λ w place. ⊎_elim
          (λ (t : get_elem? vs place.0 ≡ some w). tags_after s.views id left (rule.tags v (id, at)) rule.tags w (place.0, t))
          (λ (t : right ≡ w). subst TagsRiseIn t (λ i j d l m. absurd (omega arith)))
          (at_snoc vs right w place.0 place.1);
    }

pub gathers : {S : Type 0} (n id out other k : ℕ) (es : List Entry) (ts : List Touch) → Joins {S = S} (WordRule n) id (Monitor es out) other (Toucher k ts) (Monitor (es ++ Gathered k ts ∷ []) (out - 1)) Spent
gathers {S} n id out other k es ts s rule at apart there =
    let e : Entry = Gathered k ts in
    let more : List Entry = es ++ Gathered k ts ∷ [] in
    let v : View = Monitor es out in
    let both : View = Monitor (es ++ Gathered k ts ∷ []) (out - 1) in
    let vs : List View = set s.views id both in
    let us : List View = set vs other Spent in
    let was : get_elem? s.views other ≡ some (Toucher k ts) = sym (set_else s.views id other both apart) ∙ there in
    let still : get_elem? us id ≡ some both = set_else vs other id Spent (λ x. apart (sym x)) ∙ changed_here s.views id v both at in record {
      count = rule.count;
      entries = more;
      out = out - 1;
      monitor = monitor-gather s.views rule.entries rule.out rule.monitor id es out at more other k ts apart there;
      agree = agree_same s.words more (IsKnown s.views) (IsKnown us)
          (λ q d h.
          let t = known_before s.views id v both at q d (told_more es e q d) h in
          dite (ℕ_discrete t.1.0 other)
          (λ (x : t.1.0 ≡ other).
          let is : t.0 ≡ Toucher k ts = some-injective t.0 (Toucher k ts) (sym t.1.1 ∙ ap (get_elem? vs) x ∙ there) in
          (both, (id, still), (k, ts, Contains-push es e, subst (λ w. Holds w q d) is t.2)))
          (λ (ne : t.1.0 ≢ other). (t.0, (t.1.0, set_else vs other t.1.0 Spent ne ∙ t.1.1), t.2)))
          (λ q d h. ⊎_elim absurd
          (λ (t : IsKnown vs q d). ⊎_elim
          (λ (u : Told more q d). ⊎_elim
          (λ (x : Contains es (Gathered u.0 u.1)). (v, (id, at), (u.0, u.1, x, u.3)))
          (λ (x : e ≡ Gathered u.0 u.1). let is : ts ≡ u.1 = cc (x) in (Toucher k ts, (other, was), subst (λ l. Contains l (touch q d)) (sym is) u.3))
          (Contains-push_cases es e (Gathered u.0 u.1) u.2))
          (λ (u : IsKnown s.views q d). u)
          (known_after s.views id both q d t))
          (known_after vs other Spent q d h))
          (agree_gather s.words es (IsKnown s.views) k ts (agree_here s.views rule.entries rule.out rule.monitor id es out at s.words rule.agree));
      tags = tags_after vs other Spent tt (tags_after s.views id both
          (λ k' ts' h. ⊎_elim
          (λ (y : Contains es (Gathered k' ts')). rule.tags v (id, at) k' ts' y)
          (λ (y : e ≡ Gathered k' ts'). let is : ts ≡ ts' = cc (y) in subst TagsRise is (rule.tags (Toucher k ts) (other, was)))
          (Contains-push_cases es e (Gathered k' ts') h))
          rule.tags);
    }

-- no touch seat is out: each touch was told
pub settles : {S : Type 0} (n id : ℕ) (es : List Entry) (s : State S View) → WordRule n s → get_elem? s.views id ≡ some (Monitor es 0) → Agree s.words es (Told es) × GatheredTagsRise es
settles n id es s rule at = (
  agree_same s.words es (IsKnown s.views) (Told es) (λ p c h. held p c h.0 h.1 h.2) (λ p c t. (Monitor es 0, (id, at), t)) (agree_here s.views rule.entries rule.out rule.monitor id es 0 at s.words rule.agree),
  rule.tags (Monitor es 0) (id, at),
)
  where
    held : (p c : ℕ) (v : View) → IsAmong s.views v → Holds v p c → Told es p c
    held p c (Toucher k ts) place h =
        let o = (same_monitor s.views rule.entries rule.out rule.monitor id es 0 at).1 in
        absurd (none_out s.views place.0 k ts (rule.monitor.touchers ∙ o) place.1)
    held p c (Monitor fs m) place h =
        let mine = (same_monitor s.views rule.entries rule.out rule.monitor id es 0 at).0 in
        let theirs = (same_monitor s.views rule.entries rule.out rule.monitor place.0 fs m place.1).0 in
        subst (λ l. Told l p c) (sym theirs ∙ mine) h
    held p c Spent place h = absurd h
