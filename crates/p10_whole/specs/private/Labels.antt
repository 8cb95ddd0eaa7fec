-- The labels of a `switch`.
use Rattle.std.specs.Prelude.{◌≡◌, ◌<◌, ℤ, Bool, false, ◌||◌, List, [], ◌∷◌, All, Option, Some, None, IfSome, length}
use Rattle.std.specs.Ordering.{int_eq}
use Rattle.p10_int.specs.declared.types.IntType.{IntType}
use Rattle.p10_core.specs.declared.statements.Label.{Label}
use Rattle.p10_core.specs.Typed.{PlainLabels, PlainStatement, statement, block, statements_list}
use Rattle.p10_core.specs.WholePrograms.{AreCases, is_block, is_declaration, switch_items}

-- the items of a block, where a statement is one
abbrev pub block_items : PlainStatement → Option (List PlainStatement)
block_items (statement at (block ss)) = Some (statements_list ss)
block_items s = None

-- the values of labels, the last one first, before others
abbrev pub values_on : List Label → List ℤ → List ℤ
values_on [] seen = seen
values_on (l ∷ rest) seen = values_on rest (l.value ∷ seen)

-- what a `switch` on an integer of a type asks of its labels and its body
pub record AreLabels (kind : IntType) (labels : PlainLabels) (body : PlainStatement) : Type 0 where
  pub cases : AreCases kind 0 (length (switch_items body)) [] labels.cases
  pub otherwise : IfSome labels.otherwise (λ n. n < length (switch_items body))
  pub in_block : is_block body ≡ false → (labels.cases ≡ []) × (labels.otherwise ≡ None)
  pub declares_nothing : All (λ s. is_declaration s ≡ false) (switch_items body)

-- the same for labels of a block with these items
pub record AreLabelsIn (kind : IntType) (labels : PlainLabels) (items : List PlainStatement) : Type 0 where
  pub cases : AreCases kind 0 (length items) [] labels.cases
  pub otherwise : IfSome labels.otherwise (λ n. n < length items)
  pub declares_nothing : All (λ s. is_declaration s ≡ false) items

-- whether one of the labels has a value
abbrev pub has_value : ℤ → List Label → Bool
has_value z [] = false
has_value z (l ∷ rest) = int_eq l.value z || has_value z rest
