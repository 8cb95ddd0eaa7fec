-- Which trees spell which words.
use Rattle.std.specs.Prelude.{◌≡◌, ℕ, ◌+◌, length, List, [], ◌∷◌, ◌++◌}
use Rattle.p10_base.specs.Words.{Text, PlainWord}
use Rattle.p10_base.specs.declared.at.At.{At}
use Rattle.p10_syn.specs.Symbols.{symbols_of}
use Rattle.p10_syn.specs.Scopes.{typedefs}
use Rattle.p10_syn.specs.Trees.{Expression, External}
use Rattle.p10_syn.specs.Bare.{bare, bare_externals}
use Rattle.p10_syn.specs.Spelling.{spell, spell_externals}
use Rattle.p10_syn.specs.Forms.{IsExpression}
use Rattle.p10_syn.specs.StatementForms.{AreExternals}
use Rattle.p10_syn.specs.Places.{locate, locate_externals}

-- the tree of an expression spells these words, where exactly these names are typedef names: it is one of the grammar,
-- its words are these, and each part of it stands where its words stand
pub record SpellsExpression (types : List Text) (words : List PlainWord) (t : Expression At) : Type 0 where
  pub formed : IsExpression (typedefs types) (bare t)
  pub spelled : symbols_of words ≡ spell (bare t) []
  pub placed : t ≡ locate (record { words = words; before = 0 }) 0 (bare t)

-- the trees of declarations and functions spell the words of one root, before which this many words stand
pub record SpellsRoot (before : ℕ) (words : List PlainWord) (trees : List (External At)) : Type 0 where
  pub formed : AreExternals [] (bare_externals trees)
  pub spelled : symbols_of words ≡ spell_externals (bare_externals trees) []
  pub placed : trees ≡ locate_externals (record { words = words; before = before }) 0 (bare_externals trees)

-- the trees spell the roots one after the other, each root by itself
abbrev pub SpellsFrom : ℕ → List (List PlainWord) → List (External At) → Type 0
SpellsFrom before [] trees = trees ≡ []
SpellsFrom before (words ∷ roots) trees =
    (these : List (External At)) × (others : List (External At)) × (trees ≡ these ++ others) × SpellsRoot before words these × SpellsFrom (before + length words) roots others

-- the trees of declarations and functions that spell the words of all roots
abbrev pub Spells : List (List PlainWord) → List (External At) → Type 0
Spells roots trees = SpellsFrom 0 roots trees
