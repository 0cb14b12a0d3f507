-- When a value of a report is written and read back: its numbers have 64 bits, and it has no negative number and no float.
use Rattle.std.specs.Prelude.{◌≡◌, ◌<◌, ◌^◌, ◌==◌, ℕ, Bool, false, List, ⊤}
use Rattle.std.specs.List.{list_any}
use Rattle.serde_json.specs.Data.{Num, unsigned, negative, float, Data, null, boolean, number, string, array, object, Items, no_items, item, Members, no_members, member}

-- a whole number below 2^64 that is not negative
abbrev pub IsWord : Num → Type 0
IsWord (unsigned n) = n < 2 ^ 64
IsWord (negative z) = ⊥
IsWord (float x) = ⊥

-- each number of the value is below 2^64
abbrev mutual
  pub HasWords : Data → Type 0
  HasWords null = ⊤
  HasWords (boolean b) = ⊤
  HasWords (number n) = IsWord n
  HasWords (string s) = ⊤
  HasWords (array ds) = ItemsHaveWords ds
  HasWords (object ms) = MembersHaveWords ms

  -- the same for the items of an array
  pub ItemsHaveWords : Items → Type 0
  ItemsHaveWords no_items = ⊤
  ItemsHaveWords (item d ds) = HasWords d × ItemsHaveWords ds

  -- and for the members of an object
  pub MembersHaveWords : Members → Type 0
  MembersHaveWords no_members = ⊤
  MembersHaveWords (member k d ms) = HasWords d × MembersHaveWords ms

-- whether a byte ends a line
abbrev pub is_line_end : ℕ → Bool
is_line_end byte = byte == 10

-- a text has no line end
abbrev pub IsOneLine : List ℕ → Type 0
IsOneLine text = list_any is_line_end text ≡ false
