-- What the grammar of expressions promises.
use Rattle.std.specs.Prelude.{◌≡◌, List}
use Rattle.p10_base.specs.declared.at.At.{At}
use Rattle.p10_base.specs.Words.{Text, PlainWord}
use Rattle.p10_syn.specs.Symbols.{Symbol}
use Rattle.p10_syn.specs.Scopes.{Scope}
use Rattle.p10_syn.specs.Spelling.{spell}
use Rattle.p10_syn.specs.Forms.{IsExpression}
use Rattle.p10_syn.specs.Trees.{Bare, Expression}
use Rattle.p10_syn.specs.Spells.{SpellsExpression}
use Rattle.p10_pexpr.specs.Tables.{next_at, pull}

-- words that don't go on with an expression
abbrev pub EndsExpression : List Symbol → Type 0
EndsExpression rest = pull (next_at rest) ≡ 0

-- an expression's tree is unique: where two trees spell the same words, with any words after them that don't go on with
-- an expression, they are one, and so are the words after them
abbrev pub ExpressionsAreUnique : Type 0
ExpressionsAreUnique =
    (names : Scope) (t u : Expression Bare) (rest more : List Symbol) → IsExpression names t → IsExpression names u → EndsExpression rest → EndsExpression more →
    spell t rest ≡ spell u more → (t ≡ u) × (rest ≡ more)

-- a tree that spells words has its places by them, so it is unique with its places, where exactly these names are typedef names
abbrev pub PlacedTreesAreUnique : Type 0
PlacedTreesAreUnique = (types : List Text) (words : List PlainWord) (t u : Expression At) → SpellsExpression types words t → SpellsExpression types words u → t ≡ u
