-- What the definitions give at single lines and answers.
use Rattle.std.proofs.Common.{◌≡◌, [], ◌∷◌, ◌++◌, Some, None, codes, refl}
use Rattle.lines.specs.declared.command.Kind.TheVariants as kind
use Rattle.lines.specs.Items.{items}
use Rattle.lines.specs.Numbers.{number_in, numbers_in}
use Rattle.lines.specs.Printed.{decimal, spaced, no_line, ok_line}
use Rattle.lines.specs.Requests.{opens, stores, alters, asked, request}

two_numbers : request (codes "byte 2 02") ≡ Some (opens kind.Byte 2 2)
unfolding request items numbers_in number_in asked
two_numbers = refl

no_words : request (codes "store") ≡ Some (stores [])
unfolding request items numbers_in number_in asked
no_words = refl

largest : request (codes "alter 3 0 65535") ≡ Some (alters 3 0 65535)
unfolding request items numbers_in number_in asked
largest = refl

too_large : request (codes "alter 3 0 65536") ≡ None
unfolding request items numbers_in number_in asked
too_large = refl

six_digits : request (codes "drop 000003") ≡ None
unfolding request items numbers_in number_in asked
six_digits = refl

two_spaces : request (codes "byte 2  2") ≡ None
unfolding request items numbers_in number_in asked
two_spaces = refl

trailing_space : request (codes "recover ") ≡ None
unfolding request items numbers_in number_in asked
trailing_space = refl

carriage_return : request (codes "recover" ++ 13 ∷ []) ≡ None
unfolding request items numbers_in number_in asked
carriage_return = refl

empty : request [] ≡ None
unfolding request items numbers_in number_in asked
empty = refl

accepted : ok_line 0 65536 (10 ∷ 0 ∷ []) ≡ codes "ok 0 65536 10 0" ++ 10 ∷ []
unfolding decimal spaced
accepted = refl

refused : no_line 13 ≡ codes "no 13" ++ 10 ∷ []
unfolding decimal spaced
refused = refl
