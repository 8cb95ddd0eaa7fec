-- Statements of the code as lists of items.
use Rattle.std.proofs.Common.{◌≡◌, ℕ, zero, suc, List, [], ◌∷◌, drop, option_map, refl, ap}
use Rattle.std.specs.Prelude.{slice_get}
use Rattle.p10_core.specs.declared.statements.Stmt.{Stmt}
use Rattle.p10_core.specs.Typed.{statements_list, statements_of_list, more_statements}
use Rattle.p10_core.specs.Views.{plain_statement, plain_statements}

pub item_is : (items : List Stmt) (n : ℕ) → slice_get (statements_list (plain_statements items)) n ≡ option_map plain_statement (slice_get items n)
item_is [] n = refl
item_is (s ∷ items) zero = refl
item_is (s ∷ items) (suc n) = item_is items n

pub statements_again : (items : List Stmt) → statements_of_list (statements_list (plain_statements items)) ≡ plain_statements items
statements_again [] = refl
statements_again (s ∷ items) = ap (more_statements (plain_statement s)) (statements_again items)

pub items_past : (n : ℕ) (items : List Stmt) → statements_of_list (drop n (statements_list (plain_statements items))) ≡ plain_statements (drop n items)
items_past zero items = statements_again items
items_past (suc n) [] = refl
items_past (suc n) (s ∷ items) = items_past n items
