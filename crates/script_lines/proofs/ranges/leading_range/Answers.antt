use Rattle.std.proofs.Common.{◌∙◌, ℕ, List, [], ◌∷◌, Option, ap, refl, sym, rules, arith}
use Rattle.std.specs.Borrow.{Bor}
use Rattle.std.specs.Option.{option_copied, option_map}
use Rattle.line_text.specs.Leading.{leading_number, view_leading}
use Rattle.line_text.specs.Line.{after_prefix}
use Rattle.line_text.proofs.Lemmas.{after_prefix-append, leading_number-Some, leading_number-read}
use Rattle.script_lines.proofs.Found.{both_are, never_none, range_words, read_is, same_range, three_are}
use Rattle.script_lines.proofs.RangeFront.{range_front}
use Rattle.script_lines.proofs.ranges.leading_range.Goals as goal

pub returns-clause-line : goal.returns-clause-line
returns-clause-line c =
    let third = leading_number-Some _ c.in_ok-class.class c.in_ok-from.words.now c.in_ok-class.words.now (omega (arith, c.from.ensures))
    (sym c.leading_number.ensures.exact ∙ ap view_leading c.in_ok-class.was) in
    range_front _ c.args.text.now c.in_ok-target.words.now c.in_ok-from.words.now c.in_ok-class.words.now c.in_ok-rest.rest.now
    c.in_ok-target.ensures.spelled c.in_ok-from.ensures.spelled third.0 (search rules)

pub returns-clause-fits : goal.returns-clause-fits
returns-clause-fits c =
    (c.in_ok-target.ensures.fits, c.in_ok-from.ensures.fits.0, c.in_ok-from.ensures.fits.1, omega (arith, c.in_ok-class.ensures.bound, c.from.ensures))

-- two addresses and borrowed bytes, as numbers and a list
abbrev view_addresses : Option (ℕ × ℕ × Bor (List ℕ)) → Option (ℕ × ℕ × List ℕ)
view_addresses result = option_map {U = ℕ × ℕ × List ℕ} (λ (x : ℕ × ℕ × Bor (List ℕ)). (x.0, x.1, x.2.now)) result

pub returns-in_err-class-clause-found : goal.returns-in_err-class-clause-found
returns-in_err-class-clause-found c range rest fits is =
    let words = range_words range c.args.text.now rest is in
    let target = both_are c.in_ok-target.target range.target c.in_ok-target.words.now _ (view_leading c.leading_target.result) (sym (ap view_leading c.in_ok-target.was)) (c.leading_target.ensures.found range.target _ fits.0 words) in
    let from = three_are c.in_ok-from.from range.from c.in_ok-from.to range.to c.in_ok-from.words.now _ _ (sym (ap view_addresses c.in_ok-from.was)) (c.leading_addresses.ensures.found range.from range.to _ fits.1 fits.2 target.1) in
    let read = leading_number-read c.from.result range.class 10 rest (omega (arith, c.from.ensures, fits.3)) (omega (arith, c.from.ensures)) refl in
    never_none _ (range.class, 10 ∷ rest) (leading_number c.from.result c.in_ok-from.words.now) (sym (ap view_leading c.in_err-class.was) ∙ c.leading_number.ensures.exact) (ap (leading_number c.from.result) from.2 ∙ read)

pub returns-in_err-rest-clause-found : goal.returns-in_err-rest-clause-found
returns-in_err-rest-clause-found c range rest fits is =
    let words = range_words range c.args.text.now rest is in
    let target = both_are c.in_ok-target.target range.target c.in_ok-target.words.now _ (view_leading c.leading_target.result) (sym (ap view_leading c.in_ok-target.was)) (c.leading_target.ensures.found range.target _ fits.0 words) in
    let from = three_are c.in_ok-from.from range.from c.in_ok-from.to range.to c.in_ok-from.words.now _ _ (sym (ap view_addresses c.in_ok-from.was)) (c.leading_addresses.ensures.found range.from range.to _ fits.1 fits.2 target.1) in
    let read = leading_number-read c.from.result range.class 10 rest (omega (arith, c.from.ensures, fits.3)) (omega (arith, c.from.ensures)) refl in
    let class = both_are c.in_ok-class.class range.class c.in_ok-class.words.now (10 ∷ rest) (view_leading c.leading_number.result) (sym (ap view_leading c.in_ok-class.was)) (c.leading_number.ensures.exact ∙ ap (leading_number c.from.result) from.2 ∙ read) in
    let left = ap (after_prefix (10 ∷ [])) class.1 ∙ after_prefix-append (10 ∷ []) rest in
    never_none _ rest (after_prefix (10 ∷ []) c.in_ok-class.words.now) (sym (ap option_copied c.in_err-rest.was) ∙ c.strip.ensures.exact) left

pub returns-clause-found : goal.returns-clause-found
returns-clause-found c range rest fits is =
    let words = range_words range c.args.text.now rest is in
    let target = both_are c.in_ok-target.target range.target c.in_ok-target.words.now _ (view_leading c.leading_target.result) (sym (ap view_leading c.in_ok-target.was)) (c.leading_target.ensures.found range.target _ fits.0 words) in
    let from = three_are c.in_ok-from.from range.from c.in_ok-from.to range.to c.in_ok-from.words.now _ _ (sym (ap view_addresses c.in_ok-from.was)) (c.leading_addresses.ensures.found range.from range.to _ fits.1 fits.2 target.1) in
    let read = leading_number-read c.from.result range.class 10 rest (omega (arith, c.from.ensures, fits.3)) (omega (arith, c.from.ensures)) refl in
    let class = both_are c.in_ok-class.class range.class c.in_ok-class.words.now (10 ∷ rest) (view_leading c.leading_number.result) (sym (ap view_leading c.in_ok-class.was)) (c.leading_number.ensures.exact ∙ ap (leading_number c.from.result) from.2 ∙ read) in
    let left = ap (after_prefix (10 ∷ [])) class.1 ∙ after_prefix-append (10 ∷ []) rest in
    let end = read_is c.in_ok-rest.rest.now rest (after_prefix (10 ∷ []) c.in_ok-class.words.now) (sym (ap option_copied c.in_ok-rest.was) ∙ c.strip.ensures.exact) left in
    same_range range c.in_ok-target.target c.in_ok-from.from c.in_ok-from.to c.in_ok-class.class c.in_ok-rest.rest.now rest target.0 from.0 from.1 class.0 end
