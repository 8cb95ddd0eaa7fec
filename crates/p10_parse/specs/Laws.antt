-- What the grammar of declarations and functions promises.
use Rattle.std.specs.Prelude.{◌≡◌, ◌≢◌, List, [], length}
use Rattle.p10_base.specs.declared.at.At.{At}
use Rattle.p10_base.specs.Words.{PlainWord}
use Rattle.p10_syn.specs.Symbols.{Symbol}
use Rattle.p10_syn.specs.Scopes.{Scope}
use Rattle.p10_syn.specs.Spelling.{spell_external, spell_externals}
use Rattle.p10_syn.specs.Spells.{Spells}
use Rattle.p10_syn.specs.StatementForms.{IsExternal, AreExternals}
use Rattle.p10_syn.specs.Trees.{Bare, External}
use Rattle.p10_pexpr.specs.declared.fault.ParseFault.{ParseFault}
use Rattle.p10_pexpr.specs.declared.fault.ParseFault.TheVariants.{Memory}
use Rattle.p10_parse.specs.Roots.{SpellLongest, externals_from}
use Rattle.p10_parse.specs.Units.{AllFit, FirstFault}

-- under the same names in scope, where the words of one declaration or function with any words after them are the words of
-- another with any words after them, the two are one, and so are the words after them: so trees are unique, and none
-- spells a proper prefix of what another spells
abbrev pub ExternalsAreApart : Type 0
ExternalsAreApart =
    (names : Scope) (t u : External Bare) (rest more : List Symbol) → IsExternal names t → IsExternal names u → spell_external t rest ≡ spell_external u more → (t ≡ u) × (rest ≡ more)

-- a root has one tree at most
abbrev pub RootsAreUnique : Type 0
RootsAreUnique =
    (names : Scope) (es fs : List (External Bare)) → AreExternals names es → AreExternals names fs → spell_externals es [] ≡ spell_externals fs [] → es ≡ fs

-- the longest prefix that is spelled, and its trees, are one
abbrev pub LongestsAreOne : Type 0
LongestsAreOne =
    (names : Scope) (symbols : List Symbol) (es fs : List (External Bare)) (rest more : List Symbol) → SpellLongest names symbols es rest → SpellLongest names symbols fs more → (es ≡ fs) × (rest ≡ more)

-- reading one declaration or function after the other finds the longest prefix that is spelled
abbrev pub ReadingIsLongest : Type 0
ReadingIsLongest = (names : Scope) (symbols : List Symbol) → let p = externals_from (length symbols) names [] symbols in SpellLongest names symbols p.0 p.1

-- ## All roots

-- the trees of all roots, each part in its place, are one
abbrev pub UnitsAreOne : Type 0
UnitsAreOne = (roots : List (List PlainWord)) (trees others : List (External At)) → Spells roots trees → Spells roots others → trees ≡ others

-- roots that are nested within the limit and that trees spell have no fault, unless memory is out
abbrev pub SpelledHaveNoFault : Type 0
SpelledHaveNoFault = (roots : List (List PlainWord)) (trees : List (External At)) (fault : ParseFault) → AllFit roots → Spells roots trees → FirstFault roots fault → fault ≡ Memory

-- roots have one fault at most, unless memory is out
abbrev pub FaultsAreOne : Type 0
FaultsAreOne = (roots : List (List PlainWord)) (f g : ParseFault) → f ≢ Memory → g ≢ Memory → FirstFault roots f → FirstFault roots g → f ≡ g
