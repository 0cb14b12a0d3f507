-- Results that are kept as bits, one more each time.
use Rattle.std.proofs.Common.{◌≡◌, inl, inr, ℕ, zero, suc, ◌+◌, ◌-◌, ◌*◌, ◌/◌, ◌%◌, ◌^◌, ◌≤◌, ◌<◌, Bool, true, false, List, [], ◌∷◌, ◌++◌, drop, length, take, set, get_or, length-set, get_or-set_same, get_or-set_other, length-append, refl, sym, ap, subst, ◌∙◌, arith, w64}
use Rattle.std.specs.Prelude.{◌≢◌, ◌==◌, bit_and, bit_or, slice_index, slice_index_or}
use Rattle.std.specs.Int.{bit_at}
use Rattle.std.proofs.lemmas.Bool.{cases_eq}
use Rattle.std.proofs.lemmas.List.{get_or_append_left, get_or_default, get_or-append_right, get_or-drop, get_or-take, length-take}
use Rattle.std.proofs.lemmas.List.FromFn.{get_or-map-range_with_len, length-map-range_with_len, map-range_with_len_more}
use Rattle.std.proofs.lemmas.Nat.Bits.{bit_at-zero, bit_at_set_other, bit_at_set_same, shr_and_one}
use Rattle.run_journal.specs.Bits.{ArePacked, bit_in, bits_in, packed_bits, used_bits}

-- the same bits of other words
same_bits : (old new : List ℕ) (n : ℕ) → ((i : ℕ) → i < n → bit_in new i ≡ bit_in old i) → bits_in n new ≡ bits_in n old
same_bits old new zero same = refl
same_bits old new (suc n) same =
    let e : suc n ≡ n + 1 = omega arith in
    ap (λ k. bits_in k new) e
    ∙ (map-range_with_len_more (bit_in new) 0 n n (omega arith)
    ∙ (ap (λ l. l ++ bit_in new n ∷ []) (same_bits old new n (λ i below. same i (omega (arith, below))))
    ∙ (ap (λ b. bits_in n old ++ b ∷ []) (same n (omega arith))
    ∙ (sym (map-range_with_len_more (bit_in old) 0 n n (omega arith)) ∙ ap (λ k. bits_in k old) (sym e)))))

-- the words after one more bit
pub record IsPut (old new : List ℕ) (place : ℕ) (bit : Bool) : Type 0 where
  pub len : length new ≡ length old
  pub here : bit_in new place ≡ bit
  pub others : (i : ℕ) → i ≢ place → bit_in new i ≡ bit_in old i

module _ (old new : List ℕ) (free : ℕ) (bit : Bool) (packed : ArePacked old free) (room : 0 < free) (put : IsPut old new (used_bits old free) bit) where
  one_more : used_bits new (free - 1) ≡ used_bits old free + 1
  one_more = omega (arith, put.len, packed.some, room)

  pub put_packed : ArePacked new (free - 1)
  put_packed = record {
    few = omega (arith, packed.few);
    some = omega (arith, packed.some, put.len);
    zeros = λ i above. (let far : i ≢ used_bits old free = omega (arith, above, one_more) in put.others i far ∙ packed.zeros i (omega (arith, above, one_more)));
  }

  pub put_bits : packed_bits new (free - 1) ≡ packed_bits old free ++ bit ∷ []
  put_bits =
      let n = used_bits old free in
      ap (λ k. bits_in k new) one_more
      ∙ (map-range_with_len_more (bit_in new) 0 n n (omega arith)
      ∙ (ap (λ l. l ++ bit_in new n ∷ []) (same_bits old new n (λ i below. (let near : i ≢ n = omega (arith, below) in put.others i near)))
      ∙ ap (λ b. packed_bits old free ++ b ∷ []) put.here))

-- a bit that is 0 is there already
pub nothing_put : (words : List ℕ) (free : ℕ) → ArePacked words free → IsPut words words (used_bits words free) false
nothing_put words free packed = record { len = refl; here = packed.zeros (used_bits words free) (omega arith); others = λ i other. refl }

-- a bit that is set in the last word
abbrev pub one_set : List ℕ → ℕ → List ℕ
one_set words free = set words (length words - 1) (bit_or (slice_index words (length words - 1)) (1 * 2 ^ (64 - free) % 2 ^ 64))

module _ (words : List ℕ) (free : ℕ) (packed : ArePacked words free) (room : 0 < free) where
  last : ℕ
  last = length words - 1

  word : ℕ
  word = slice_index words last

  last_here : length words - 1 < length words
  last_here = omega (arith, packed.some, room)

  here_set : bit_in (one_set words free) (used_bits words free) ≡ true
  here_set =
      let k = 64 - free in
      let n = used_bits words free in
      let which : n / 64 ≡ length words - 1 = omega (arith, packed.few, packed.some, room) in
      let bit : n % 64 ≡ k = omega (arith, packed.few, packed.some, room) in
      ap (λ i. bit_at (slice_index (one_set words free) i) (n % 64) == 1) which
      ∙ (ap (λ v. bit_at v (n % 64) == 1) (get_or-set_same words (length words - 1) (bit_or (slice_index words (length words - 1)) (1 * 2 ^ k % 2 ^ 64)) 0 last_here)
      ∙ (ap (λ i. bit_at (bit_or (slice_index words (length words - 1)) (1 * 2 ^ k % 2 ^ 64)) i == 1) bit
      ∙ ap (λ b. b == 1) (bit_at_set_same w64 (slice_index words (length words - 1)) k (omega (arith, room)))))

  others_stay : (i : ℕ) → i ≢ used_bits words free → bit_in (one_set words free) i ≡ bit_in words i
  others_stay i other = elim (cases_eq (i / 64) (length words - 1)) [
    | inl is ↦
        let k = 64 - free in
        let n = used_bits words free in
        let apart : i % 64 ≢ k = omega (arith, packed.few, packed.some, room, is, other) in
        ap (λ j. bit_at (slice_index (one_set words free) j) (i % 64) == 1) is
        ∙ (ap (λ v. bit_at v (i % 64) == 1) (get_or-set_same words (length words - 1) (bit_or (slice_index words (length words - 1)) (1 * 2 ^ k % 2 ^ 64)) 0 last_here)
        ∙ (ap (λ b. b == 1) (bit_at_set_other w64 (slice_index words (length words - 1)) k (omega (arith, room)) (i % 64) apart)
        ∙ ap (λ j. bit_at (slice_index words j) (i % 64) == 1) (sym is)))
    | inr isnt ↦
        let kept : slice_index (one_set words free) (i / 64) ≡ slice_index words (i / 64) = rw get_or-set_other refl in
        ap (λ v. bit_at v (i % 64) == 1) kept
  ]

  pub one_put : IsPut words (one_set words free) (used_bits words free) true
  one_put = record {
    len = length-set words (length words - 1) (bit_or (slice_index words (length words - 1)) (1 * 2 ^ (64 - free) % 2 ^ 64));
    here = here_set;
    others = others_stay;
  }

-- a new word, of which all bits are free
module _ (words : List ℕ) (packed : ArePacked words 0) where
  old_bit : (i : ℕ) → i < 64 * length words → bit_in (words ++ 0 ∷ []) i ≡ bit_in words i
  old_bit i below = ap (λ v. bit_at v (i % 64) == 1) (get_or_append_left words (0 ∷ []) 0 (i / 64) (omega (arith, below)))

  pub word_packed : ArePacked (words ++ 0 ∷ []) 64
  word_packed =
      let len = length-append words (0 ∷ []) in
      record {
        few = omega arith;
        some = omega (arith, len);
        zeros = λ i above.
            let past : length words ≤ i / 64 = omega (arith, above, len) in
            let none : slice_index (words ++ 0 ∷ []) (i / 64) ≡ 0 = get_or-append_right words (0 ∷ []) (length words) (i / 64) 0 refl past ∙ no_word (i / 64 - length words) in
            ap (λ v. bit_at v (i % 64) == 1) none ∙ zero_bit (i % 64);
      } where
        no_word : (k : ℕ) → get_or {A = ℕ} (0 ∷ []) k 0 ≡ 0
        no_word zero = refl
        no_word (suc k) = refl

        zero_bit : (k : ℕ) → (bit_at 0 k == 1) ≡ false
        zero_bit k = ap (λ b. b == 1) (bit_at-zero k)

  pub word_bits : packed_bits (words ++ 0 ∷ []) 64 ≡ packed_bits words 0
  word_bits =
      let len : used_bits (words ++ 0 ∷ []) 64 ≡ used_bits words 0 = omega (arith, length-append words (0 ∷ [])) in
      ap (λ k. bits_in k (words ++ 0 ∷ [])) len ∙ same_bits words (words ++ 0 ∷ []) (used_bits words 0) (λ i below. old_bit i (omega (arith, below)))

-- the result at a place
pub bit_at_place : (words : List ℕ) (n i : ℕ) (none : Bool) → i < n → slice_index_or (bits_in n words) i none ≡ bit_in words i
bit_at_place words n i none below = get_or-map-range_with_len (bit_in words) 0 n i i none below (omega arith)

-- the result with an index of those from a place on
pub in_run : (bits : List Bool) (start count index : ℕ) (none : Bool) → index < length (take count (drop start bits)) → slice_index_or bits (start + index) none ≡ slice_index_or (take count (drop start bits)) index none
in_run bits start count index none below =
    let few : index < count = omega (arith, below, length-take count (drop start bits)) in
    sym (get_or-take count (drop start bits) index none few ∙ get_or-drop start bits index none)

-- some of the bits are free, and these are used
pub record HasRoom (used : List Bool) (words : List ℕ) (free : ℕ) : Type 0 where
  pub packed : ArePacked words free
  pub room : 0 < free
  pub same : packed_bits words free ≡ used

-- one bit more is packed
pub record IsLonger (used : List Bool) (bit : Bool) (words : List ℕ) (free : ℕ) : Type 0 where
  pub packed : ArePacked words free
  pub are : packed_bits words free ≡ used ++ bit ∷ []

pub room_left : (used : List Bool) (words : List ℕ) (free : ℕ) → ArePacked words free → packed_bits words free ≡ used → (free ≡ 0 → ⊥) → HasRoom used words free
room_left used words free packed same some = record { packed = packed; room = omega (arith, some); same = same }

pub room_made : (used : List Bool) (words : List ℕ) (free : ℕ) → free ≡ 0 → ArePacked words free → packed_bits words free ≡ used → HasRoom used (words ++ 0 ∷ []) 64
room_made used words free none packed same =
    let full = subst (ArePacked words) none packed in
    record { packed = word_packed words full; room = omega arith; same = word_bits words full ∙ (ap (packed_bits words) (sym none) ∙ same) }

pub longer_by : (used : List Bool) (bit : Bool) (old new : List ℕ) (free : ℕ) → HasRoom used old free → IsPut old new (used_bits old free) bit → IsLonger used bit new (free - 1)
longer_by used bit old new free h put = record {
  packed = put_packed old new free bit h.packed h.room put;
  are = put_bits old new free bit h.packed h.room put ∙ ap (λ l. l ++ bit ∷ []) h.same;
}

-- the last word is set by what was read of it
pub set_read : (words : List ℕ) (free last read : ℕ) → ArePacked words free → 0 < free → last ≡ length words → read ≡ get_or words (last - 1) read → set words (last - 1) (bit_or read (1 * 2 ^ (64 - free) % 2 ^ 64)) ≡ one_set words free
set_read words free last read packed room all is =
    let here : last - 1 < length words = omega (arith, packed.some, room, all) in
    let word : read ≡ slice_index words (last - 1) = is ∙ get_or_default words (last - 1) read 0 here in
    ap (λ r. set words (last - 1) (bit_or r (1 * 2 ^ (64 - free) % 2 ^ 64))) word ∙ ap (λ n. set words (n - 1) (bit_or (slice_index words (n - 1)) (1 * 2 ^ (64 - free) % 2 ^ 64))) all

-- how many results there are
pub length_bits : (n : ℕ) (words : List ℕ) → length (bits_in n words) ≡ n
length_bits n words = length-map-range_with_len (bit_in words) 0 n

-- the result at a word and a bit
pub read_at : (words : List ℕ) (n i word bit read : ℕ) (none : Bool) → i < n → 64 * word + bit ≡ i → bit < 64 → word < length words → read ≡ get_or words word read → (bit_and (read / 2 ^ bit) 1 == 1) ≡ slice_index_or (bits_in n words) i none
read_at words n i word bit read none below whole few here is =
    let which : i / 64 ≡ word = omega (arith, whole, few) in
    let rest : i % 64 ≡ bit = omega (arith, whole, few) in
    let value : read ≡ slice_index words word = is ∙ get_or_default words word read 0 here in
    ap (λ b. b == 1) (shr_and_one read bit)
    ∙ (ap (λ v. bit_at v bit == 1) value
    ∙ (sym (ap (λ w. bit_at (slice_index words w) (i % 64) == 1) which ∙ ap (λ b. bit_at (slice_index words word) b == 1) rest)
    ∙ sym (bit_at_place words n i none below)))
