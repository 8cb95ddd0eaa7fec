-- The code of functions and programs.
use Rattle.std.specs.Prelude.{ℕ, ◌+◌, List, [], ◌∷◌, ◌++◌, length, Some, None}
use Rattle.p10_base.specs.declared.span.Span.{Span}
use Rattle.p10_core.specs.Typed.{PlainStatements, PlainFunction, PlainProgram}
use Rattle.p10_code.specs.Frames.{has_objects}
use Rattle.p10_code.specs.Operations.{slot, call, return, Op, Entry}
use Rattle.p10_code.specs.ValueCode.{Site, op}
use Rattle.p10_code.specs.StatementCode.{Exits, one_more, statements_need, statements_code}

-- an operation that has no tree
abbrev pub no_span : Span
no_span = record { file = 0; start = 0; end = 0 }

-- where the trees of a function stand
abbrev pub site_of : PlainProgram → PlainFunction → Site
site_of p f = record { program = p; variables = f.variables }

-- the exits of a function's body: a stray `break` or `continue` ends it
abbrev pub function_exits : PlainFunction → ℕ → Exits
function_exits f at = record { over = at; over_close = 0; again = at; again_close = 0; all_close = one_more (has_objects f.variables) 0 }

-- a function ends without a value
abbrev pub no_return : PlainFunction → Op
no_return f = op 0 no_span (return (one_more (has_objects f.variables) 0) None)

-- a function: where a stray `break` goes, statements, and what follows them
abbrev pub body_code : PlainProgram → PlainFunction → ℕ → PlainStatements → Op → List Op
body_code p f at body last = no_return f ∷ (statements_code (site_of p f) (function_exits f at) (at + 1) body ++ last ∷ [])

abbrev pub function_code : PlainProgram → PlainFunction → ℕ → List Op
function_code p f at = body_code p f at f.body (no_return f)

abbrev pub entry_of : PlainFunction → ℕ → Entry
entry_of f at = record { at = at + 1; room = statements_need f.body; tracked = has_objects f.variables }

-- the functions one after another, from a place on
abbrev pub functions_code : PlainProgram → ℕ → List PlainFunction → List Op
functions_code p at [] = []
functions_code p at (f ∷ fs) = function_code p f at ++ functions_code p (at + length (function_code p f at)) fs

abbrev pub functions_entries : PlainProgram → ℕ → List PlainFunction → List Entry
functions_entries p at [] = []
functions_entries p at (f ∷ fs) = entry_of f at ∷ functions_entries p (at + length (function_code p f at)) fs

-- the code of a program, which begins with a call of `main`, and its table
abbrev pub code_of : PlainProgram → List Op
code_of p = op 1 no_span (call 0 p.main p.main 0 0) ∷ op 0 no_span (return 0 (Some (slot 0))) ∷ functions_code p 2 p.functions

abbrev pub entries_of : PlainProgram → List Entry
entries_of p = functions_entries p 2 p.functions
