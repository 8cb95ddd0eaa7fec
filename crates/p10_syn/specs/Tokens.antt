-- Words of the code as the grammar sees them.
use Rattle.p10_syn.specs.declared.token.Token.{Token}
use Rattle.p10_syn.specs.declared.token.Token.TheVariants as token
use Rattle.p10_syn.specs.Symbols.{Symbol, Name, Number, Character, String, Fixed, Pragma, Other}

-- the word of the grammar that a word of the code stands for
abbrev pub symbol_at : Token → Symbol
symbol_at (token.Name text) = Name text.now
symbol_at (token.Number text) = Number text.now
symbol_at (token.Char text) = Character text.now
symbol_at (token.Str text) = String text.now
symbol_at (token.Fixed s) = Fixed s
symbol_at (token.Mark text) = Pragma text.now
symbol_at (token.Other text) = Other text.now
