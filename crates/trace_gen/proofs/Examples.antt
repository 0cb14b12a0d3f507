-- The definitions on examples.
use Rattle.std.proofs.Common.{◌≡◌, [], ◌∷◌, codes, Ok, Some, refl}
use Rattle.damon_types.specs.declared.scheme.Version.TheVariants.{One}
use Rattle.script_lines.specs.Command.{Arm, Finish, Sweep, Touch}
use Rattle.script_lines.specs.Head.{scheme_line, target_line}
use Rattle.trace_gen.specs.declared.access.Access.TheVariants.{Sequential, Stride, HotSpot, Phases}
use Rattle.trace_gen.specs.Gen.{access_of, block, blocks, gen_scheme, strides, touches, zone_of}

-- the numbers 4, 5, 6 and 7, one of each kind of accesses
access-4 : access_of 4 ≡ Sequential
access-4 = refl

access-5 : access_of 5 ≡ Stride
access-5 = refl

access-6 : access_of 6 ≡ HotSpot
access-6 = refl

access-7 : access_of 7 ≡ Phases
access-7 = refl

-- the zone is taken modulo 16
zone-6 : zone_of 6 ≡ 1
zone-6 = refl

zone-71 : zone_of 71 ≡ 1
zone-71 = refl

-- block 65 of a sequence begins again at page 16
block-65 : block Sequential 0 65 ≡ Arm ∷ Sweep 16 32 ∷ Finish ∷ []
block-65 = refl

-- three touches of a stride
stride-3 : strides 3 3 ≡ Touch 3 ∷ Touch 11 ∷ Touch 19 ∷ []
unfolding strides
stride-3 = refl

-- a hot spot stays where it is
hot-9 : touches HotSpot 1 1999 ≡ Sweep 64 128 ∷ []
hot-9 = refl

-- the last phase of zone 15 is zone 2
phase-1999 : touches Phases 15 1999 ≡ Sweep 128 192 ∷ []
phase-1999 = refl

-- the first two blocks
two_blocks : blocks HotSpot 0 2 ≡ Arm ∷ Sweep 0 64 ∷ Finish ∷ Arm ∷ Sweep 0 64 ∷ Finish ∷ []
unfolding blocks
two_blocks = refl

-- the setup is that of these lines
target-0 : target_line [] (codes "target 0x0 1024") ≡ Ok (record { base = 0; pages = 1024 })
target-0 = refl

scheme-0 : scheme_line One [] (codes "scheme 0 pageout count=0,0 age=2,4294967295 quota=409600,20 prefer=cold") ≡ Ok (record { slot = 0; scheme = Some gen_scheme })
scheme-0 = refl
