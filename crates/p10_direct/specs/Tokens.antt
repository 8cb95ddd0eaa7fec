-- Words without their places.
use Rattle.std.specs.Prelude.{List, map}
use Rattle.p10_base.specs.declared.word.Kind.{Kind}
use Rattle.p10_base.specs.declared.word.Kind.TheVariants.{Punct}
use Rattle.p10_base.specs.Words.{Text, PlainWord}

-- a word's kind and spelling
pub record Token : Type 0 where
  pub kind : Kind
  pub text : Text

-- a word without its place
abbrev pub token_of : PlainWord → Token
token_of word = record { kind = word.kind; text = word.text }

-- words without their places
abbrev pub tokens_of : List PlainWord → List Token
tokens_of words = map token_of words

-- the punctuator with this spelling
abbrev pub sign_token : Text → Token
sign_token text = record { kind = Punct; text = text }
