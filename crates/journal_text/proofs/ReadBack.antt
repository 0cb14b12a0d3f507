-- The text of a lawful journal whose numbers are within their types is read.
use Rattle.std.proofs.Common.{◌≡◌, ℕ, ◌+◌, ◌*◌, ◌^◌, ◌<◌, List, nat_le, nat_lt, Some, None, refl, subst, arith}
use Rattle.std.proofs.lemmas.Bool.Decides.{nat_tests}
use Rattle.std.proofs.lemmas.Option.{get_or_from_slice_get, slice_get_within}
use Rattle.std.specs.Prelude.{Option, slice_get, ◌&&◌}
use Rattle.damon_types.specs.declared.space.TheConstants.{PAGE_SIZE}
use Rattle.damon_types.specs.declared.space.Target.{Target}
use Rattle.damon_types.specs.Space.{IsSpace, IsTarget, offset, page_in, page_of, pages_of, place_of}
use Rattle.journal_text.specs.Rules.{ReadsLawfulBack}
use Rattle.journal_text.proofs.Common.{both_are, if_some}
use Rattle.journal_text.proofs.Pieces.{body_pieces}
use Rattle.journal_text.proofs.SecondLaw.{second_law}
use Rattle.journal_text.proofs.SeenRead.{PlacesFit}

-- the page of the place of each page is that page
abbrev pub ArePagesNumbered : Type 0
ArePagesNumbered = (ts : List Target) (page : ℕ) → IsSpace ts → page < pages_of ts → page_of ts (place_of ts page).target (place_of ts page).addr ≡ Some page

-- a byte of a target can be spelled, since targets are few, and end below the largest address
byte_fits : (ts : List Target) → IsSpace ts → (target addr page : ℕ) → page_of ts target addr ≡ Some page → (target < 2 ^ 32) × (addr < 2 ^ 64)
byte_fits ts is target addr page e = by (slice_get ts target) refl e
  where
    by : (o : Option Target) → slice_get ts target ≡ o → page_in (offset ts target) addr o ≡ Some page → (target < 2 ^ 32) × (addr < 2 ^ 64)
    by None there e = absurd cc
    by (Some t) there e =
        let held = if_some (nat_le t.base addr && nat_lt addr (t.base + 4096 * t.pages)) _ page e in
        let ends = both_are (nat_le t.base addr) (nat_lt addr (t.base + PAGE_SIZE * t.pages)) held.0 in
        let below : addr < t.base + PAGE_SIZE * t.pages = grind (arith, nat_tests, ends.1) in
        let own : IsTarget t = subst IsTarget (get_or_from_slice_get ts target t t there) (is.each target t (slice_get_within ts target t there)) in
        (omega (arith, slice_get_within ts target t there, is.few), omega (arith, below, own.end))

-- so the place of each page can be spelled
places_fit : ArePagesNumbered → (ts : List Target) → IsSpace ts → PlacesFit ts
places_fit numbered ts is page below =
    let fits = byte_fits ts is (place_of ts page).target (place_of ts page).addr page (numbered ts page is below) in
    record { target = fits.0; addr = fits.1; numbered = numbered ts page is below }

-- the text of each lawful journal that a text can spell is read back
pub journals_read_back : ArePagesNumbered → ReadsLawfulBack
journals_read_back numbered v j all lawful can =
    let places = places_fit numbered v.setup.space can.setup.space in
    second_law v j all lawful can places (body_pieces v j all places can.calls can.rules.workers can.numbers lawful.receipts.within can.tags)
