-- Pragmas of one function.
use Rattle.std.specs.Prelude.{ℕ, Option, Some, None}
use Rattle.std.specs.List.{position_from}
use Rattle.p10_core.specs.declared.statements.MarkKind.{MarkKind}
use Rattle.p10_core.specs.Typed.{PlainFunction, statements_list}
use Rattle.p10_program.specs.Pragmas.{is_pragma}

-- the place of a pragma among the items of a function that may be lacking
abbrev pub pragma_of : MarkKind → Option PlainFunction → Option ℕ
pragma_of kind None = None
pragma_of kind (Some f) = position_from (is_pragma kind) 0 (statements_list f.body)
