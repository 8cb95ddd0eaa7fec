-- Which answer is right for the words of all roots: their trees, or why there are none.
use Rattle.std.specs.Prelude.{◌≡◌, ◌-◌, ◌<◌, ◌≤◌, ◌⊎◌, length, slice_get, List, [], ◌∷◌, Some}
use Rattle.p10_base.specs.declared.report.TheConstants.Limit.{NESTING, MOST_NESTING}
use Rattle.p10_base.specs.declared.report.Refusal.{Refusal}
use Rattle.p10_base.specs.Words.{PlainWord}
use Rattle.p10_base.specs.Codes.{syntax_refusal}
use Rattle.p10_nesting.specs.Nesting.{nesting_of}
use Rattle.p10_syn.specs.Symbols.{Symbol, symbols_of}
use Rattle.p10_syn.specs.Spelling.{spell_externals}
use Rattle.p10_syn.specs.StatementForms.{AreExternals}
use Rattle.p10_syn.specs.Trees.{Bare, External}
use Rattle.p10_pexpr.specs.declared.fault.ParseFault.{ParseFault}
use Rattle.p10_pexpr.specs.declared.fault.ParseFault.TheVariants.{Refused, Over, Memory}
use Rattle.p10_parse.specs.Roots.{SpellLongest}

-- the words of a root are nested within the limit M5
abbrev pub FitNesting : List PlainWord → Type 0
FitNesting words = nesting_of words ≤ MOST_NESTING

-- some declarations and functions spell all words of a root
abbrev pub AreSpelled : List PlainWord → Type 0
AreSpelled words = (es : List (External Bare)) × AreExternals [] es × (symbols_of words ≡ spell_externals es [])

-- a root is refused: no declarations and functions spell its words, and the refusal stands at the word after the longest
-- prefix that some spell, at which the next declaration or function would begin
pub record AreRefused (words : List PlainWord) (r : Refusal) : Type 0 where
  pub unspelled : AreSpelled words → ⊥
  pub trees : List (External Bare)
  pub rest : List Symbol
  pub longest : SpellLongest [] (symbols_of words) trees rest
  pub word : PlainWord
  pub here : slice_get words (length words - length rest) ≡ Some word
  pub placed : r ≡ syntax_refusal word.at

-- this fault is that of the words of a root: M5 where they are nested over the limit, and else G1; where memory is
-- out, nothing is said of them
abbrev pub HasFault : List PlainWord → ParseFault → Type 0
HasFault words (Refused r) = FitNesting words × AreRefused words r
HasFault words (Over limit) = (limit ≡ NESTING) × (MOST_NESTING < nesting_of words)
HasFault words Memory = Unit {0}

-- the first root that isn't within the limit or that no trees spell has this fault
abbrev pub FirstFault : List (List PlainWord) → ParseFault → Type 0
FirstFault [] fault = ⊥
FirstFault (words ∷ roots) fault = HasFault words fault ⊎ (FitNesting words × AreSpelled words × FirstFault roots fault)

-- the fault of roots, each read by itself, in their order
abbrev pub HaveFault : List (List PlainWord) → ParseFault → Type 0
HaveFault roots Memory = Unit {0}
HaveFault roots fault = FirstFault roots fault

-- each root is nested within the limit
abbrev pub AllFit : List (List PlainWord) → Type 0
AllFit [] = Unit {0}
AllFit (words ∷ roots) = FitNesting words × AllFit roots
