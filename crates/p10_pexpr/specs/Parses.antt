-- What is said of the words of an expression.
use Rattle.std.specs.Prelude.{◌≡◌, ◌≤◌, ◌<◌, List, [], ◌∷◌}
use Rattle.p10_base.specs.declared.report.TheConstants.Limit.{NESTING, MOST_NESTING}
use Rattle.p10_base.specs.declared.span.Span.{Span}
use Rattle.p10_base.specs.declared.at.At.{At}
use Rattle.p10_base.specs.Codes.{syntax_refusal}
use Rattle.p10_base.specs.Words.{Text, PlainWord, span_of}
use Rattle.p10_nesting.specs.Nesting.{nesting_of}
use Rattle.p10_syn.specs.Symbols.{Symbol}
use Rattle.p10_syn.specs.Scopes.{Scope}
use Rattle.p10_syn.specs.Spelling.{spell}
use Rattle.p10_syn.specs.Forms.{IsExpression}
use Rattle.p10_syn.specs.Trees.{Bare, Expression}
use Rattle.p10_syn.specs.Spells.{SpellsExpression}
use Rattle.p10_pexpr.specs.declared.fault.ParseFault.{ParseFault}
use Rattle.p10_pexpr.specs.declared.fault.ParseFault.TheVariants.{Refused, Over, Memory}

-- the bytes of the first word; where there is none, bytes 0 to 0 of file 0
abbrev pub first_span : List PlainWord → Span
first_span [] = span_of 0 0 0
first_span (word ∷ words) = word.at

-- this tree of the grammar spells these words
abbrev pub IsSpelled : Scope → List Symbol → Expression Bare → Type 0
IsSpelled names symbols t = IsExpression names t × (symbols ≡ spell t [])

-- no tree of the grammar spells these words
abbrev pub NoneSpells : Scope → List Symbol → Type 0
NoneSpells names symbols = (t : Expression Bare) → IsSpelled names symbols t → ⊥

-- the words, which aren't too nested, are spelled by this tree
abbrev pub IsTreeOf : List Text → List PlainWord → Expression At → Type 0
IsTreeOf types words t = (nesting_of words ≤ MOST_NESTING) × SpellsExpression types words t

-- why an expression of these words isn't given, where exactly these names are typedef names: its nesting is tested first
abbrev pub IsFaultOf : List Text → List PlainWord → ParseFault → Type 0
IsFaultOf types words (Refused refusal) = (nesting_of words ≤ MOST_NESTING) × ((t : Expression At) → SpellsExpression types words t → ⊥) × (refusal ≡ syntax_refusal (first_span words))
IsFaultOf types words (Over limit) = (MOST_NESTING < nesting_of words) × (limit ≡ NESTING)
IsFaultOf types words Memory = Unit {0}
