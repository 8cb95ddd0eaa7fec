-- Which words are constants (C99 6.4.4, 6.4.5).
use Rattle.std.specs.Prelude.{◌≡◌, ℕ, ◌⊎◌, [], ◌∷◌, Some}
use Rattle.p10_base.specs.Words.{Text}
use Rattle.p10_base.specs.declared.word.Kind.{Kind}
use Rattle.p10_base.specs.declared.word.Kind.TheVariants.{Number, Char, Str}
use Rattle.p10_lex.specs.declared.integers.Integer.{Integer}
use Rattle.p10_lex.specs.Characters.{IsLiteral}
use Rattle.p10_lex.specs.Integers.{integer_constant}
use Rattle.p10_lex.specs.Lexemes.{IsHeaderName}

-- the words of each kind that are constants, or no constants by kind: integers, single characters, and strings or include names
abbrev pub IsConstant : Kind → Text → Type 0
IsConstant Number text = (constant : Integer) × (integer_constant text ≡ Some constant)
IsConstant Char text = (value : ℕ) × IsLiteral 39 text (value ∷ [])
IsConstant Str text = ((values : Text) × IsLiteral 34 text values) ⊎ IsHeaderName text
IsConstant _ text = Unit {0}
