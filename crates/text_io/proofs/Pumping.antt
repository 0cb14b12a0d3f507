-- A text that goes to a sink a piece at a time.
use Rattle.std.proofs.Common.{◌≡◌, ℕ, List, [], ◌++◌, Option, Err, refl, sym, ap, ◌∙◌, subst, arith}
use Rattle.std.specs.Prelude.{IsErrOf}
use Rattle.std.specs.Io.KnownBytes.{Appends}
use Rattle.std.proofs.KnownBytes.{Appends-nil, Appends-trans}
use Rattle.text_io.specs.Pumped.{Ends, GoesOn}
use Rattle.text_io.specs.Taken.{WritesPart}
use Rattle.text_io.specs.declared.source.Filled.{Filled}
use Rattle.text_io.specs.declared.source.Filled.TheVariants.{Piece, End}
use Rattle.text_io.specs.declared.source.PumpFault.{PumpFault}
use Rattle.text_io.specs.declared.source.PumpFault.TheVariants.{Memory, Fault}
use Rattle.text_io.proofs.Known.{WritesPart-longer, Written, Written-part, Written-then}

-- the sink took what is no longer left, whichever text it is
abbrev pub IsLeft : (List ℕ → Type 0) → Option (List ℕ) → (List ℕ → Type 0) → Option (List ℕ) → Type 0
IsLeft first a now b = (text : List ℕ) → first text → (rest : List ℕ) × now rest × Written a text b rest

-- at first all of it is left
pub all_left : (first : List ℕ → Type 0) (a : Option (List ℕ)) → IsLeft first a first a
all_left first a = λ text here. (text, here, ([], Appends-nil a, refl))

-- a piece more
pub piece_more : (first now next : List ℕ → Type 0) (a b c : Option (List ℕ)) (out piece : List ℕ) → IsLeft first a now b → out ≡ [] → GoesOn now out next piece → Appends b c piece
    → IsLeft first a next c
piece_more first now next a b c out piece left empty on taken = λ text here.
    let (rest, there, written) = left text here in
    let (later, still, whole) = on rest there in
    let is : rest ≡ piece ++ later = sym (whole ∙ ap (λ zs. zs ++ rest) empty) in
    (later, still, Written-then a b c text rest later written (piece, taken, is))

-- the last piece
pub last_piece : (first now : List ℕ → Type 0) (a b c : Option (List ℕ)) (out piece : List ℕ) → IsLeft first a now b → out ≡ [] → Ends now out piece → Appends b c piece
    → (text : List ℕ) → first text → Appends a c text
last_piece first now a b c out piece left empty ends taken = λ text here.
    let (rest, there, (front, before, is)) = left text here in
    let whole : front ++ piece ≡ text = ap (λ zs. front ++ zs) (ends rest there ∙ ap (λ zs. zs ++ rest) empty) ∙ sym is in
    subst (Appends a c) whole (Appends-trans a b c front piece before taken)

-- a part of what is left
pub part_left : (first now : List ℕ → Type 0) (a b : Option (List ℕ)) → IsLeft first a now b → (text : List ℕ) → first text → WritesPart a b text
part_left first now a b left = λ text here.
    let (rest, there, written) = left text here in
    Written-part a b b text rest written (0, omega arith, Appends-nil b)

-- a part of a piece
pub part_more : (first now next : List ℕ → Type 0) (a b c : Option (List ℕ)) (out piece : List ℕ) (filled : Filled) → IsLeft first a now b → out ≡ []
    → (filled ≡ Piece → GoesOn now out next piece) → (filled ≡ End → Ends now out piece) → WritesPart b c piece
    → (text : List ℕ) → first text → WritesPart a c text
part_more first now next a b c out piece Piece left empty on ends part = λ text here.
    let (rest, there, written) = left text here in
    let (later, still, whole) = on refl rest there in
    let is : piece ++ later ≡ rest = whole ∙ ap (λ zs. zs ++ rest) empty in
    Written-part a b c text rest written (subst (WritesPart b c) is (WritesPart-longer b c piece later part))
part_more first now next a b c out piece End left empty on ends part = λ text here.
    let (rest, there, written) = left text here in
    let is : piece ≡ rest = ends refl rest there ∙ ap (λ zs. zs ++ rest) empty in
    Written-part a b c text rest written (subst (WritesPart b c) is part)

-- where memory ran out no write failed
pub no_fault_of_memory : {T : Type 0} → IsErrOf {T = T} {E = PumpFault} (Err Memory) Fault → ⊥
no_fault_of_memory e = cc e
