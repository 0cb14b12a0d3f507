-- How often a source or a sink was called in several calls.
use Rattle.std.proofs.Common.{◌≡◌, ◌≤◌, ℕ, Err, true, false, refl, ap, ◌∙◌, arith}
use Rattle.std.specs.Prelude.{IsErrOf}
use Rattle.damon_types.specs.Calls.{EndsAtFault, Rose, after_call, next_count}
use Rattle.damon_types.specs.declared.calls.Calls.{Calls}

-- the same, where the failure has another name
pub EndsAtFault-as : {P Q : Type 0} {a b : Calls} → (Q → P) → (P → Q) → EndsAtFault P a b → EndsAtFault Q a b
EndsAtFault-as here there ends = record {
  one = λ q. ends.one (here q);
  none = λ not. ends.none (λ p. not (there p));
  late = ends.late;
}

-- none failed, and what would say so does not hold
pub EndsAtFault-not : {P Q : Type 0} {a b : Calls} → (P → ⊥) → (Q → ⊥) → EndsAtFault P a b → EndsAtFault Q a b
EndsAtFault-not here there = EndsAtFault-as (λ q. absurd (there q)) (λ p. absurd (here p))

-- no call was made
pub EndsAtFault-none : {P : Type 0} (c : Calls) → (P → ⊥) → EndsAtFault P c c
EndsAtFault-none c not = record { one = λ p. absurd (not p); none = λ _. refl; late = λ _. refl }

-- calls of which none failed, and then more
pub EndsAtFault-then : {P Q : Type 0} {a b c : Calls} → (P → ⊥) → EndsAtFault P a b → EndsAtFault Q b c → EndsAtFault Q a c
EndsAtFault-then not first second =
    let same = first.none not in
    record {
      one = λ q. second.one q ∙ ap next_count same;
      none = λ other. second.none other ∙ same;
      late = λ zero. second.late (same ∙ zero) ∙ first.late zero;
    }

-- a call that did not fail
pub EndsAtFault-went : {a b : Calls} → b ≡ after_call false a → EndsAtFault ⊥ a b
EndsAtFault-went {a} {b} is = record {
  one = λ no. absurd no;
  none = λ _. ap (λ (c : Calls). c.failed) is;
  late = λ zero. ap (λ (c : Calls). c.late) is ∙ rw zero refl;
}

-- a result that is an error of a kind is one that has that error
pub EndsAtFault-error : {T E : Type 0} {x y : E} {a b : Calls} → EndsAtFault (IsErrOf {T = T} {E = E} (Err x) y) a b → EndsAtFault (x ≡ y) a b
EndsAtFault-error {T} {E} {x} {y} = EndsAtFault-as (λ e. ap (λ z. Err z) e) (λ e. cc e)

-- an error that is passed on, by a result of another type
pub EndsAtFault-passed : {T U E : Type 0} {x y : E} {a b : Calls} → EndsAtFault (IsErrOf {T = T} {E = E} (Err x) y) a b → EndsAtFault (IsErrOf {T = U} {E = E} (Err x) y) a b
EndsAtFault-passed {T} {U} {E} {x} {y} =
    EndsAtFault-as (λ e. let same : x ≡ y = cc e in ap (λ z. Err z) same) (λ e. let same : x ≡ y = cc e in ap (λ z. Err z) same)

at_least : {n m : ℕ} → m ≡ n → n ≤ m
at_least same = omega (arith, same)

-- where one failed, the count of failures rose
pub EndsAtFault-rose : {P : Type 0} {a b : Calls} → P → EndsAtFault P a b → Rose a b
EndsAtFault-rose p ends = at_least (ends.one p)
