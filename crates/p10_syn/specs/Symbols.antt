-- Words as the grammar sees them: without their places.
use Rattle.std.specs.Prelude.{List, map, Option, Some, None}
use Rattle.p10_base.specs.Words.{Text, PlainWord}
use Rattle.p10_base.specs.declared.word.Kind.{Kind}
use Rattle.p10_base.specs.declared.word.Kind.TheVariants as kind
use Rattle.p10_syn.specs.declared.sign.Sign.{Sign}
use Rattle.p10_syn.specs.Signs.{keywords, punctuators, sign_among}

-- a word of the grammar: a name that is no keyword, a constant, a string, a keyword or punctuator, or a p10 pragma;
-- what is none of these is spelled by no tree
pub data Symbol : Type 0 where
  Name : Text → Symbol
  Number : Text → Symbol
  Character : Text → Symbol
  String : Text → Symbol
  Fixed : Sign → Symbol
  Pragma : Text → Symbol
  Other : Text → Symbol

-- the keyword that is written so, or else the name (C99 6.4.1: a keyword is no identifier)
abbrev pub name_or : Text → Option Sign → Symbol
name_or text None = Name text
name_or text (Some s) = Fixed s

-- the punctuator that is written so (C99 6.4.6), or else a word that no tree spells
abbrev pub punctuator_or : Text → Option Sign → Symbol
punctuator_or text None = Other text
punctuator_or text (Some s) = Fixed s

-- what a word of this kind and spelling is
unfoldable pub symbol_in : Kind → Text → Symbol
symbol_in kind.Name text = name_or text (sign_among keywords text)
symbol_in kind.Number text = Number text
symbol_in kind.Char text = Character text
symbol_in kind.Str text = String text
symbol_in kind.Punct text = punctuator_or text (sign_among punctuators text)
symbol_in kind.Mark text = Pragma text

-- what a word is to the grammar, wherever it stands
abbrev pub symbol_of : PlainWord → Symbol
symbol_of word = symbol_in word.kind word.text

-- what each of these words is to the grammar, in the same order
abbrev pub symbols_of : List PlainWord → List Symbol
symbols_of words = map symbol_of words
