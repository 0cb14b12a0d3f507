-- Internal to the proofs: how the results of checks are handed out, one check after another.
use Rattle.std.specs.Prelude.{ℕ, Bool, List, [], ◌∷◌, drop, take}
use Rattle.run_journal.specs.declared.entry.Entry.{Entry}
use Rattle.run_journal.specs.declared.entry.Entry.TheVariants.{Check}
use Rattle.run_journal.specs.declared.load_run.LoadRun.{LoadRun}

-- the results of some loads, one after another
abbrev pub loads_in : LoadRun → List Bool
loads_in run = take run.count (drop run.start run.set.now)

-- the results of an entry, given the sizes and the results of the checks from it on
abbrev pub results_of : Entry → List ℕ → List Bool → List Bool
results_of (Check pass) (size ∷ sizes) bits = take size bits
results_of _ _ bits = []

-- the sizes of the checks after it
abbrev pub sizes_left : Entry → List ℕ → List ℕ
sizes_left (Check pass) (size ∷ sizes) = sizes
sizes_left _ sizes = sizes

-- the results of the checks after it
abbrev pub bits_left : Entry → List ℕ → List Bool → List Bool
bits_left (Check pass) (size ∷ sizes) bits = drop size bits
bits_left _ _ bits = bits
