-- Words that are read and refused, lines that are taken apart, plain lines, and spellings.
use Rattle.std.proofs.Common.{◌≡◌, ◌-◌, ◌^◌, true, false, [], ◌∷◌, codes, Some, None, decimal, refl}
use Rattle.std.specs.Fmt.{digits}
use Rattle.line_text.specs.Line.{first_word, after_prefix}
use Rattle.line_text.specs.declared.bytes.TheConstants.{COMMA, EQUALS, SPACE}
use Rattle.line_text.specs.Number.{number}
use Rattle.line_text.specs.Address.{address, spelled_address}
use Rattle.line_text.specs.Parts.{four_of, is_plain, joined, parts, three_of, two_of}

zero_is_read : number 0 (codes "0") ≡ Some 0
zero_is_read = refl

greatest_is_read : number (2 ^ 64 - 1) (codes "18446744073709551615") ≡ Some 18446744073709551615
greatest_is_read = refl

above_is_refused : number (2 ^ 64 - 1) (codes "18446744073709551616") ≡ None
above_is_refused = refl

limit_is_read : number 255 (codes "255") ≡ Some 255
limit_is_read = refl

above_limit_is_refused : number 255 (codes "256") ≡ None
above_limit_is_refused = refl

two_zeros_are_refused : number 9 (codes "00") ≡ None
two_zeros_are_refused = refl

leading_zero_is_refused : number 9 (codes "01") ≡ None
leading_zero_is_refused = refl

nothing_is_refused : number 9 (codes "") ≡ None
nothing_is_refused = refl

space_is_refused : number 9 (codes " 1") ≡ None
space_is_refused = refl

letter_is_refused : number 99 (codes "1a") ≡ None
letter_is_refused = refl

zero_address_is_read : address (codes "0x0") ≡ Some 0
zero_address_is_read = refl

address_is_read : address (codes "0x1f") ≡ Some 31
address_is_read = refl

greatest_address_is_read : address (codes "0xffffffffffffffff") ≡ Some 18446744073709551615
greatest_address_is_read = refl

long_address_is_refused : address (codes "0x10000000000000000") ≡ None
long_address_is_refused = refl

zeros_address_is_refused : address (codes "0x00") ≡ None
zeros_address_is_refused = refl

no_digits_are_refused : address (codes "0x") ≡ None
no_digits_are_refused = refl

upper_mark_is_refused : address (codes "0X1") ≡ None
upper_mark_is_refused = refl

upper_digit_is_refused : address (codes "0x1F") ≡ None
upper_digit_is_refused = refl

word_is_first : first_word (codes "a  b") ≡ Some (codes "a", codes " b")
word_is_first = refl

front_is_taken : after_prefix (codes "key=") (codes "key=7") ≡ Some (codes "7")
front_is_taken = refl

front_is_missing : after_prefix (codes "key=") (codes "key") ≡ None
front_is_missing = refl

zero_is_spelled : decimal 0 ≡ codes "0"
unfolding digits
zero_is_spelled = refl

number_is_spelled : decimal 1048576 ≡ codes "1048576"
unfolding digits
number_is_spelled = refl

address_is_spelled : spelled_address 4096 ≡ codes "0x1000"
unfolding digits
address_is_spelled = refl

zero_address_is_spelled : spelled_address 0 ≡ codes "0x0"
unfolding digits
zero_address_is_spelled = refl

nothing_is_one_part : parts SPACE [] ≡ [] ∷ []
nothing_is_one_part = refl

middle_part_is_empty : parts SPACE (codes "a  b") ≡ codes "a" ∷ [] ∷ codes "b" ∷ []
middle_part_is_empty = refl

last_part_is_empty : parts COMMA (codes "1,2,") ≡ codes "1" ∷ codes "2" ∷ [] ∷ []
last_part_is_empty = refl

parts_are_joined : joined COMMA (codes "1" ∷ [] ∷ codes "2" ∷ []) ≡ codes "1,,2"
parts_are_joined = refl

two_parts_are_found : two_of (parts EQUALS (codes "size=4")) ≡ Some (codes "size", codes "4")
two_parts_are_found = refl

one_part_is_not_two : two_of (parts EQUALS (codes "size")) ≡ None
one_part_is_not_two = refl

three_parts_are_found : three_of (parts COMMA (codes "1,,2")) ≡ Some (codes "1", [], codes "2")
three_parts_are_found = refl

three_parts_are_not_four : four_of (parts COMMA (codes "1,,2")) ≡ None
three_parts_are_not_four = refl

words_are_plain : is_plain (codes "touch 0 ~") ≡ true
words_are_plain = refl

nothing_is_not_plain : is_plain (codes "") ≡ false
nothing_is_not_plain = refl

two_spaces_are_not_plain : is_plain (codes "a  b") ≡ false
two_spaces_are_not_plain = refl

last_space_is_not_plain : is_plain (codes "a ") ≡ false
last_space_is_not_plain = refl

delete_is_not_plain : is_plain (0x7f ∷ []) ≡ false
delete_is_not_plain = refl

unit_separator_is_not_plain : is_plain (0x1f ∷ []) ≡ false
unit_separator_is_not_plain = refl
