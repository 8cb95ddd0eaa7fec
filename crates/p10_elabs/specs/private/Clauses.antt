-- Clauses of a `for`, piece by piece.
use Rattle.std.specs.Prelude.{ℕ, zero, suc, List, [], Some}
use Rattle.p10_base.specs.declared.at.At.{At}
use Rattle.p10_syn.specs.Trees.{Expression, expression, Comma}
use Rattle.p10_core.specs.Typed.{PlainStatement}
use Rattle.p10_elabx.specs.First.{Keep}
use Rattle.p10_elabs.specs.Expressions.{piece_done, pieces_done}
use Rattle.p10_elabs.specs.Locals.{Local, Done}

-- before the first piece
abbrev pub no_pieces : Local → Done (List PlainStatement)
no_pieces l = record { made = Some []; after = l }

-- an expression that is the only piece
unfoldable pub one_piece : Keep → Local → Expression At → Done (List PlainStatement)
one_piece h l e = piece_done h (no_pieces l) e

-- the pieces of a comma that isn't in parentheses, or one piece
abbrev pub by_parens : ℕ → Done (List PlainStatement) → Done (List PlainStatement) → Done (List PlainStatement)
by_parens zero pieces one = pieces
by_parens (suc n) pieces one = one

-- a clause by its form
abbrev pub clause_by : Keep → Local → Expression At → Done (List PlainStatement)
clause_by h l (expression at n (Comma all)) = by_parens n (pieces_done h (no_pieces l) all) (one_piece h l (expression at n (Comma all)))
clause_by h l e = one_piece h l e
