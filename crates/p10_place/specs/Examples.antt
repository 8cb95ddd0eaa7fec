-- Where the parts of small trees stand, worked out by hand.
use Rattle.std.specs.Prelude.{◌≡◌, ℕ, List, [], ◌∷◌, true, false, None}
use Rattle.p10_base.specs.declared.word.Kind.TheVariants as kind
use Rattle.p10_base.specs.declared.at.At.{At}
use Rattle.p10_base.specs.Words.{Text, PlainWord, span_of}
use Rattle.p10_syn.specs.declared.sign.Sign.TheVariants as sign
use Rattle.p10_syn.specs.Trees.{Bare, Identifier, Expression, expression, Name, Binary, Absent, Present, NoSpecifiers, MoreSpecifiers, Keyword, Enumeration, MoreEnumerators, NoEnumerators, enumerator, Named, Unnamed, Pointer, Function, MoreParameters, NoParameters, parameter, Value, Braced, MoreInitializers, NoInitializers, Empty, While, Return, MoreStatements, NoStatements, Definition}
use Rattle.p10_syn.specs.Places.{Source, locate, locate_specifier, locate_declarator, locate_initializer, locate_statement, locate_definition}

-- a word of file 0 from one byte up to another; which it is doesn't count for places
abbrev pub word : ℕ → ℕ → PlainWord
word start end = record { kind = kind.Name; text = []; at = span_of 0 start end; first = false }

-- a place in file 0
abbrev pub place : ℕ → ℕ → ℕ → ℕ → At
place first past start end = record { first = first; past = past; span = span_of 0 start end }

-- the only root, or one after others
abbrev pub root : ℕ → List PlainWord → Source
root before words = record { words = words; before = before }

-- names without and with a place
abbrev pub a : Text
a = 97 ∷ []

abbrev pub b : Text
b = 98 ∷ []

abbrev pub name : Text → Identifier Bare
name x = record { place = tt; name = x }

abbrev pub name_at : At → Text → Identifier At
name_at p x = record { place = p; name = x }

abbrev pub named : Text → Expression Bare
named x = expression tt 0 (Name (name x))

abbrev pub named_at : At → Text → Expression At
named_at p x = expression p 0 (Name (name_at p x))

-- `((a + b))`, seven words: its own parentheses are its words
abbrev pub parenthesised : List PlainWord
parenthesised = word 0 1 ∷ word 1 2 ∷ word 2 3 ∷ word 4 5 ∷ word 6 7 ∷ word 7 8 ∷ word 8 9 ∷ []

abbrev pub sum : ℕ → Expression Bare
sum parens = expression tt parens (Binary sign.Plus (named a) (named b))

-- `a + b` where its last word is of another file, and where its last word ends before its first does
abbrev pub across : List PlainWord
across = word 5 6 ∷ word 7 8 ∷ record { kind = kind.Name; text = []; at = span_of 1 0 1; first = false } ∷ []

abbrev pub backwards : List PlainWord
backwards = word 20 21 ∷ word 22 23 ∷ word 3 4 ∷ []

-- `{a, b,}`
abbrev pub braced : List PlainWord
braced = word 0 1 ∷ word 1 2 ∷ word 2 3 ∷ word 4 5 ∷ word 5 6 ∷ word 6 7 ∷ []

-- `enum {a,}`
abbrev pub enumeration : List PlainWord
enumeration = word 0 4 ∷ word 5 6 ∷ word 6 7 ∷ word 7 8 ∷ word 8 9 ∷ []

-- `* a(int)`
abbrev pub declarator : List PlainWord
declarator = word 0 1 ∷ word 2 3 ∷ word 3 4 ∷ word 4 7 ∷ word 7 8 ∷ []

-- `while (a) ;`
abbrev pub loop : List PlainWord
loop = word 0 5 ∷ word 6 7 ∷ word 7 8 ∷ word 8 9 ∷ word 10 11 ∷ []

-- `int a() { return b; }`
abbrev pub function : List PlainWord
function = word 0 3 ∷ word 4 5 ∷ word 5 6 ∷ word 6 7 ∷ word 8 9 ∷ word 10 16 ∷ word 17 18 ∷ word 18 19 ∷ word 20 21 ∷ []

abbrev pub defined : Definition Bare
defined = record {
  place = tt;
  landmarks = record { whole = tt; first_word = tt; brace = tt; last_word = tt };
  specifiers = MoreSpecifiers (Keyword tt sign.Int) NoSpecifiers;
  declarator = Function tt (Named (name a)) tt NoParameters false;
  body_place = tt;
  body = MoreStatements (Return tt tt (Present (named b))) NoStatements;
}

abbrev pub defined_at : Definition At
defined_at = record {
  place = place 100 109 0 21;
  landmarks = record { whole = place 0 9 0 21; first_word = place 0 1 0 3; brace = place 4 5 8 9; last_word = place 8 9 20 21 };
  specifiers = MoreSpecifiers (Keyword (place 100 101 0 3) sign.Int) NoSpecifiers;
  declarator = Function (place 101 104 4 7) (Named (name_at (place 101 102 4 5) a)) (place 102 104 5 7) NoParameters false;
  body_place = place 104 109 8 21;
  body = MoreStatements (Return (place 105 108 10 19) (place 105 106 10 16) (Present (named_at (place 106 107 17 18) b))) NoStatements;
}

pub record ExamplesStand : Type 0 where
  pub parentheses_count : locate (root 0 parenthesised) 0 (sum 2) ≡ expression (place 0 7 0 9) 2 (Binary sign.Plus (named_at (place 2 3 2 3) a) (named_at (place 4 5 6 7) b))
  -- numbers go on from root to root
  pub roots_go_on : locate (root 10 parenthesised) 0 (sum 2) ≡ expression (place 10 17 0 9) 2 (Binary sign.Plus (named_at (place 12 13 2 3) a) (named_at (place 14 15 6 7) b))
  -- the bytes of the first word alone
  pub two_files : locate (root 0 across) 0 (sum 0) ≡ expression (place 0 3 5 6) 0 (Binary sign.Plus (named_at (place 0 1 5 6) a) (named_at (record { first = 2; past = 3; span = span_of 1 0 1 }) b))
  pub last_before_first : locate (root 0 backwards) 0 (sum 0) ≡ expression (place 0 3 20 21) 0 (Binary sign.Plus (named_at (place 0 1 20 21) a) (named_at (place 2 3 3 4) b))
  pub last_comma_of_list : locate_initializer (root 0 braced) 0 (Braced tt (MoreInitializers (Value (named a)) (MoreInitializers (Value (named b)) NoInitializers)) true) ≡
      Braced (place 0 6 0 7) (MoreInitializers (Value (named_at (place 1 2 1 2) a)) (MoreInitializers (Value (named_at (place 3 4 4 5) b)) NoInitializers)) true
  pub last_comma_of_enumeration : locate_specifier (root 0 enumeration) 0 (Enumeration tt None (MoreEnumerators (enumerator tt (name a) Absent) NoEnumerators) true) ≡
      Enumeration (place 0 5 0 9) None (MoreEnumerators (enumerator (place 2 3 6 7) (name_at (place 2 3 6 7) a) Absent) NoEnumerators) true
  -- a name that is left out stands before the next word and has no bytes
  pub no_name : locate_declarator (root 0 declarator) 0 (Pointer tt [] (Function tt (Named (name a)) tt (MoreParameters (parameter tt (MoreSpecifiers (Keyword tt sign.Int) NoSpecifiers) (Unnamed tt)) NoParameters) false)) ≡
      Pointer (place 0 5 0 8) [] (Function (place 1 5 2 8) (Named (name_at (place 1 2 2 3) a)) (place 2 5 3 8)
      (MoreParameters (parameter (place 3 4 4 7) (MoreSpecifiers (Keyword (place 3 4 4 7) sign.Int) NoSpecifiers) (Unnamed (place 4 4 0 0))) NoParameters) false)
  pub keyword_of_loop : locate_statement (root 0 loop) 0 (While tt tt (named a) (Empty tt)) ≡ While (place 0 5 0 11) (place 0 1 0 5) (named_at (place 2 3 7 8) a) (Empty (place 4 5 10 11))
  -- the marks of a function are counted in its root
  pub marks_of_function : locate_definition (root 100 function) 0 defined ≡ defined_at
