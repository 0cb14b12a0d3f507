-- The commands of generated scripts: their number, their limits and their work.
use Rattle.std.proofs.Common.{◌≡◌, ℕ, zero, suc, ◌+◌, ◌*◌, ◌/◌, ◌%◌, ◌^◌, ◌<◌, ◌≤◌, List, [], ◌∷◌, ◌++◌, length, refl, sym, ap, ◌∙◌, arith, add-one, append-nil, append_assoc, length-append}
use Rattle.std.proofs.lemmas.List.Sums.{sum_by-append, sum_by-cons}
use Rattle.script_lines.specs.Command.{Arm, CommandValue, Finish, Sweep, Touch, weight, work_of}
use Rattle.script_lines.specs.Limits.{AreCommandsWithin}
use Rattle.trace_gen.specs.declared.access.Access.{Access}
use Rattle.trace_gen.specs.declared.access.Access.TheVariants.{Sequential, Stride, HotSpot, Phases}
use Rattle.trace_gen.specs.Gen.{block, blocks, strides, touches}

-- ---- what a loop appends

module _ (access : Access) (zone : ℕ) where
  pub blocks_none : (cs : List CommandValue) → cs ≡ [] → cs ≡ blocks access zone 0
  unfolding blocks
  blocks_none cs none = none

  pub blocks_more : (t : ℕ) (cs ds : List CommandValue) → cs ≡ blocks access zone t → ds ≡ cs ++ block access zone t → ds ≡ blocks access zone (t + 1)
  unfolding blocks
  blocks_more t cs ds before more = rw add-one (more ∙ ap (λ xs. xs ++ block access zone t) before)

module _ (t : ℕ) (cs : List CommandValue) where
  pub strides_none : cs ≡ cs ++ strides t 0
  unfolding strides
  strides_none = sym (append-nil cs)

  pub strides_more : (j page : ℕ) (ds es : List CommandValue) → ds ≡ cs ++ strides t j → es ≡ ds ++ Touch page ∷ [] → page ≡ (8 * j + t) % 1024 → es ≡ cs ++ strides t (j + 1)
  unfolding strides
  strides_more j page ds es before one is =
      let touch : CommandValue = Touch ((8 * j + t) % 1024) in
      rw add-one (one
      ∙ ap (λ xs. xs ++ Touch page ∷ []) before
      ∙ ap (λ (p : ℕ). (cs ++ strides t j) ++ Touch p ∷ []) is
      ∙ append_assoc cs (strides t j) (touch ∷ []))

-- ---- their number

length-strides : (t n : ℕ) → length (strides t n) ≡ n
unfolding strides
length-strides t zero = refl
length-strides t (suc n) = omega (arith, length-append (strides t n) (Touch ((8 * n + t) % 1024) ∷ []), length-strides t n)

length-touches : (access : Access) (zone t : ℕ) → length (touches access zone t) ≤ 128
length-touches Sequential zone t = omega arith
length-touches Stride zone t = omega (arith, length-strides t 128)
length-touches HotSpot zone t = omega arith
length-touches Phases zone t = omega arith

pub length_blocks : (access : Access) (zone t : ℕ) → length (blocks access zone t) ≤ 130 * t
unfolding blocks
length_blocks access zone zero = omega arith
length_blocks access zone (suc t) =
    omega (arith, length-append (blocks access zone t) (block access zone t), length-append (touches access zone t) (Finish ∷ []), length-touches access zone t, length_blocks access zone t)

-- one command more
pub one_more : (cs ds : List CommandValue) (c : CommandValue) (before j : ℕ) → ds ≡ cs ++ c ∷ [] → length cs ≡ before + j → length ds ≡ before + (j + 1)
one_more cs ds c before j is count = omega (arith, ap length is, length-append cs (c ∷ []), count)

-- commands that say the first t blocks are few
pub few_blocks : (access : Access) (zone t : ℕ) (cs : List CommandValue) → cs ≡ blocks access zone t → t ≤ 2000 → length cs ≤ 2 ^ 31
few_blocks access zone t cs say most = omega (arith, ap length say, length_blocks access zone t, most)

-- ---- their limits

within-append : (pages : ℕ) (cs ds : List CommandValue) → AreCommandsWithin pages cs → AreCommandsWithin pages ds → AreCommandsWithin pages (cs ++ ds)
within-append pages [] ds first second = second
within-append pages (c ∷ cs) ds first second = (first.0, within-append pages cs ds first.1 second)

strides_within : (t n : ℕ) → AreCommandsWithin 1024 (strides t n)
unfolding strides
strides_within t zero = tt
strides_within t (suc n) = within-append 1024 (strides t n) (Touch ((8 * n + t) % 1024) ∷ []) (strides_within t n) (omega arith, tt)

touches_within : (access : Access) (zone t : ℕ) → zone < 16 → AreCommandsWithin 1024 (touches access zone t)
touches_within Sequential zone t small = ((omega arith, omega arith), tt)
touches_within Stride zone t small = strides_within t 128
touches_within HotSpot zone t small = ((omega arith, omega (arith, small)), tt)
touches_within Phases zone t small = ((omega arith, omega arith), tt)

pub blocks_within : (access : Access) (zone t : ℕ) → zone < 16 → AreCommandsWithin 1024 (blocks access zone t)
unfolding blocks
blocks_within access zone zero small = tt
blocks_within access zone (suc t) small =
    within-append 1024 (blocks access zone t) (block access zone t) (blocks_within access zone t small)
    (tt, within-append 1024 (touches access zone t) (Finish ∷ []) (touches_within access zone t small) (tt, tt))

-- ---- their work

work-append : (cs ds : List CommandValue) → work_of 100 (cs ++ ds) ≡ work_of 100 cs + work_of 100 ds
work-append cs ds = sum_by-append (weight 100) cs ds

work-one : (c : CommandValue) → work_of 100 (c ∷ []) ≡ weight 100 c
work-one c = omega (arith, sum_by-cons (weight 100) c [])

work-strides : (t n : ℕ) → work_of 100 (strides t n) ≡ n
unfolding strides
work-strides t zero = refl
work-strides t (suc n) =
    let touch : CommandValue = Touch ((8 * n + t) % 1024) in
    omega (arith, work-append (strides t n) (touch ∷ []), work-one touch, work-strides t n)

work-touches : (access : Access) (zone t : ℕ) → work_of 100 (touches access zone t) ≤ 128
work-touches Sequential zone t = omega (arith, work-one (Sweep (16 * t % 1024) (16 * t % 1024 + 16)))
work-touches Stride zone t = omega (arith, work-strides t 128)
work-touches HotSpot zone t = omega (arith, work-one (Sweep (64 * zone) (64 * zone + 64)))
work-touches Phases zone t = omega (arith, work-one (touched zone t))
  where
    touched : ℕ → ℕ → CommandValue
    touched zone t = Sweep (64 * ((zone + t / 500) % 16)) (64 * ((zone + t / 500) % 16) + 64)

-- the work of a block is at most that of two parts of a pass and 128 touches
pub work-blocks : (access : Access) (zone t : ℕ) → work_of 100 (blocks access zone t) ≤ 534 * t
unfolding blocks
work-blocks access zone zero = omega arith
work-blocks access zone (suc t) =
    let arm : CommandValue = Arm in
    let rest = touches access zone t ++ Finish ∷ [] in
    omega (arith, work-append (blocks access zone t) (block access zone t), sum_by-cons (weight 100) arm rest, work-append (touches access zone t) (Finish ∷ []), work-one Finish, work-touches access zone t, work-blocks access zone t)
