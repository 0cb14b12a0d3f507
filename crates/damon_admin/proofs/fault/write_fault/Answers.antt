use Rattle.std.proofs.Common.{◌≡◌, ℕ, List, [], ◌∷◌, ◌++◌, OnOk, ap, codes, decimal, subst, ◌∙◌, append_assoc}
use Rattle.script_lines.specs.KindText.{kind_text}
use Rattle.damon_admin.specs.Written.{fault_line}
use Rattle.damon_admin.proofs.fault.write_fault.Goals as goal

joined : (o f n k : List ℕ) → (((o ++ (f ++ n)) ++ 32 ∷ []) ++ k) ++ 10 ∷ [] ≡ o ++ (f ++ (n ++ (32 ∷ (k ++ 10 ∷ []))))
joined o f n k = simp append_assoc

pub returns : goal.returns
returns c =
    let old = c.args.out.now.items in
    let f = codes "fault line=" in
    let n = decimal c.args.fault.line in
    let k = kind_text c.args.fault.kind in
    let kind : c.extend_from_slice-2.new.self.items ≡ ((old ++ (f ++ n)) ++ 32 ∷ []) ++ k =
    c.in_ok-extend_from_slice-2.ensures.items
    ∙ ap (λ (t : List ℕ). c.extend_from_slice.new.self.items ++ t) (c.as_bytes.ensures.value ∙ c.text.ensures)
    ∙ ap (λ (t : List ℕ). t ++ k) (c.in_ok-extend_from_slice.ensures.items ∙ ap (λ (t : List ℕ). t ++ 32 ∷ []) c.in_ok-append_field.ensures.ok) in
    let whole : c.extend_from_slice-2.new.self.items ++ 10 ∷ [] ≡ old ++ fault_line c.args.fault = ap (λ (t : List ℕ). t ++ 10 ∷ []) kind ∙ joined old f n k in
    subst (λ text. OnOk c.end_line.result (c.end_line.new.out.items ≡ text)) whole c.end_line.ensures.ok
