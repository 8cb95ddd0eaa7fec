-- The constants of a condition (C99 6.10.1p4): numbers, characters, and names, which are 0.
use Rattle.std.specs.Prelude.{ℤ, pos, nat_lt, Bool, false, ◌||◌, Option, Some, None, option_map}
use Rattle.p10_base.specs.Words.{Text}
use Rattle.p10_base.specs.declared.word.Kind.{Kind}
use Rattle.p10_base.specs.declared.word.Kind.TheVariants as kind
use Rattle.p10_lex.specs.declared.integers.Integer.{Integer}
use Rattle.p10_lex.specs.Integers.{integer_constant, is_unsigned}
use Rattle.p10_lex.specs.Literals.{character_value}
use Rattle.p10_direct.specs.Tokens.{Token}

-- a number, and whether its type is unsigned
pub record Constant : Type 0 where
  pub value : ℤ
  pub unsigned : Bool

-- a signed constant
abbrev pub signed_constant : ℤ → Constant
signed_constant value = record { value = value; unsigned = false }

-- an integer constant in a condition: unsigned where it has a `u` or is over 2 ^ 63 - 1
abbrev pub number_constant : Integer → Constant
number_constant integer =
    record { value = pos integer.value; unsigned = is_unsigned integer.suffix || nat_lt 9223372036854775807 integer.value }

-- the constant that a word of this kind and spelling is: a number, a character, or a name that is left, which is 0; no other word
-- is one
abbrev pub constant_of_kind : Kind → Text → Option Constant
constant_of_kind kind.Number text = option_map number_constant (integer_constant text)
constant_of_kind kind.Char text = option_map signed_constant (character_value text)
constant_of_kind kind.Name text = Some (signed_constant (pos 0))
constant_of_kind _ text = None

-- the constant that a word is
unfoldable pub constant_of : Token → Option Constant
constant_of token = constant_of_kind token.kind token.text
