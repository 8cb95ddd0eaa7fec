-- Pragmas among the items of functions.
use Rattle.std.specs.Prelude.{ℕ, zero, suc, Bool, false, List, [], ◌∷◌, Option, Some, None}
use Rattle.std.specs.List.{position_from}
use Rattle.p10_core.specs.declared.statements.MarkKind.{MarkKind}
use Rattle.p10_core.specs.Typed.{PlainStatement, statement, mark, statements_list, PlainFunction}
use Rattle.p10_core.specs.WholePrograms.{is_mark}

-- whether a statement is a pragma of a kind
abbrev pub is_pragma : MarkKind → PlainStatement → Bool
is_pragma kind (statement at (mark found)) = is_mark kind found
is_pragma kind s = false

-- the place of a pragma among the items of a function
abbrev pub pragma_in : MarkKind → Option ℕ → List PlainFunction → Option ℕ
pragma_in kind None functions = None
pragma_in kind (Some n) [] = None
pragma_in kind (Some zero) (f ∷ rest) = position_from (is_pragma kind) 0 (statements_list f.body)
pragma_in kind (Some (suc n)) (f ∷ rest) = pragma_in kind (Some n) rest
