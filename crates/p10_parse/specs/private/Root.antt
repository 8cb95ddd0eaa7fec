-- How one root is read.
use Rattle.std.specs.Prelude.{◌≡◌, ◌-◌, length, slice_get, List, [], Some, None}
use Rattle.p10_base.specs.Words.{PlainWord}
use Rattle.p10_base.specs.declared.report.Refusal.{Refusal}
use Rattle.p10_base.specs.Codes.{syntax_refusal}
use Rattle.p10_syn.specs.Symbols.{Symbol, symbols_of}
use Rattle.p10_syn.specs.Scopes.{Scope}
use Rattle.p10_syn.specs.Spelling.{spell_externals}
use Rattle.p10_syn.specs.StatementForms.{AreExternals}
use Rattle.p10_syn.specs.Trees.{Bare, External}
use Rattle.p10_pexpr.specs.declared.fault.ParseFault.{ParseFault}
use Rattle.p10_pexpr.specs.declared.fault.ParseFault.TheVariants.{Refused, Over, Memory}
use Rattle.p10_parse.specs.Roots.{next_external}
use Rattle.p10_parse.specs.Units.{AreRefused}

-- these declarations and functions spell the words of a root
pub record AreRead (words : List PlainWord) (es : List (External Bare)) : Type 0 where
  pub formed : AreExternals [] es
  pub spelled : symbols_of words ≡ spell_externals es []

-- the word of a root at which no declaration or function begins
pub record IsStuckAt (words : List PlainWord) (names : Scope) (symbols : List Symbol) (r : Refusal) : Type 0 where
  pub none : next_external names symbols ≡ None
  pub word : PlainWord
  pub here : slice_get words (length words - length symbols) ≡ Some word
  pub placed : r ≡ syntax_refusal word.at

-- why no declaration or function was read from the words that are left of a root
abbrev pub IsStuck : List PlainWord → Scope → List Symbol → ParseFault → Type 0
IsStuck words names symbols (Refused r) = IsStuckAt words names symbols r
IsStuck words names symbols (Over limit) = ⊥
IsStuck words names symbols Memory = Unit {0}

-- why a root wasn't read, whatever its nesting is
abbrev pub IsUnread : List PlainWord → ParseFault → Type 0
IsUnread words (Refused r) = AreRefused words r
IsUnread words (Over limit) = ⊥
IsUnread words Memory = Unit {0}
