-- The rows of Holzmann's rules 6 and 7 ("The Power of Ten", 2006).
use Rattle.std.specs.Prelude.{◌≡◌, ℕ, ◌<◌, Bool, true, false, not, ◌&&◌, List, Some, None, slice_get}
use Rattle.std.specs.List.{Contains}
use Rattle.p10_base.specs.declared.span.Span.{Span}
use Rattle.p10_base.specs.declared.report.Sub.{Sub}
use Rattle.p10_int.specs.declared.types.IntType.TheVariants.{Bool as TruthType}
use Rattle.p10_core.specs.Types.{PlainType, integer}
use Rattle.p10_core.specs.Typed.{value, PlainForm, call, built_in, PlainStatement, statement, evaluate, PlainStatements, PlainVariable, PlainFunction, PlainObject, PlainProgram, statement_at}
use Rattle.p10_core.specs.Nodes.{a_statement, nodes_of_statements}
use Rattle.p10_core.specs.Rows.{is_void}
use Rattle.p10_userules.specs.declared.occurrences.Referent.{Referent}
use Rattle.p10_userules.specs.declared.occurrences.Referent.TheVariants.{Variable, Object}
use Rattle.p10_userules.specs.declared.occurrences.Occurrence.{Occurrence}
use Rattle.p10_userules.specs.Occurrences.{times, first_checked, occurrences_in_statements, occurrences_in_function, occurrences_in_program}
use Rattle.p10_userules.specs.Blocks.{declared_among, blocks_of, reached_among}

-- a row of a rule, by the number of the rule and its own in it
abbrev pub row : ℕ → ℕ → Sub
row rule sub = record { rule = rule; sub = sub }

-- something is used, and all its uses lie in one part of where it may be used: it is named as often there as in the whole
pub record IsUsedOnlyIn (x : Referent) (part whole : List Occurrence) : Type 0 where
  pub used : 0 < times x part
  pub only : times x part ≡ times x whole

-- something that a block declares is used only in one nested block, which is reached without entering a loop
pub record IsTooWide (objects : List PlainObject) (f : PlainFunction) (x : Referent) (whole : List Occurrence) : Type 0 where
  pub outer : PlainStatements
  pub is_block : Contains (blocks_of f) outer
  pub declared : Contains (declared_among outer) x
  pub inner : PlainStatements
  pub is_reached : Contains (reached_among outer) inner
  pub only : IsUsedOnlyIn x (occurrences_in_statements objects inner) whole

-- whether a type is `_Bool`
abbrev pub is_truth : PlainType → Bool
is_truth (integer c TruthType) = true
is_truth t = false

-- whether a form of value is a call
abbrev pub is_call_form : PlainForm → Bool
is_call_form (call span n arguments) = true
is_call_form (built_in span function arguments) = true
is_call_form f = false

-- whether a statement is a call with a result, which is not used (C99 6.8.3)
abbrev pub drops_result : PlainStatement → Bool
drops_result (statement at (evaluate (value at' t f))) = is_call_form f && not (is_void t)
drops_result s = false

-- A row of the rules is violated at a place of a program: an object, variable or parameter at its name, and a statement at its place.
pub data Violates (p : PlainProgram) : Sub → Span → Type 0 where
  -- 6.1: an object of file scope is used in exactly one function, and not outside all functions
  wide_object : (n : ℕ) (o : PlainObject) (f : PlainFunction) → slice_get p.objects n ≡ Some o → o.owner ≡ None → Contains p.functions f
      → IsUsedOnlyIn (Object n) (occurrences_in_function p f) (occurrences_in_program p) → Violates p (row 6 1) o.span
  -- 6.2: a variable that a block declares is used only in one nested block
  wide_variable : (f : PlainFunction) (n : ℕ) (v : PlainVariable) → Contains p.functions f → slice_get f.variables n ≡ Some v
      → IsTooWide p.objects f (Variable n) (occurrences_in_function p f) → Violates p (row 6 2) v.span
  -- 6.2: the same for an object of static lifetime
  wide_static : (f : PlainFunction) (n : ℕ) (o : PlainObject) → Contains p.functions f → slice_get p.objects n ≡ Some o
      → IsTooWide p.objects f (Object n) (occurrences_in_program p) → Violates p (row 6 2) o.span
  -- 7.1: an expression statement is a call with a result
  dropped_result : (f : PlainFunction) (s : PlainStatement) → Contains p.functions f → Contains (nodes_of_statements f.body) (a_statement s)
      → drops_result s ≡ true → Violates p (row 7 1) (statement_at s).span
  -- 7.2: the first occurrence of a parameter that is not `_Bool` lies outside every assertion and `if` condition
  unchecked_parameter : (f : PlainFunction) (n : ℕ) (v : PlainVariable) → Contains p.functions f → n < f.parameters → slice_get f.variables n ≡ Some v
      → is_truth v.type ≡ false → first_checked (Variable n) (occurrences_in_function p f) ≡ Some false → Violates p (row 7 2) v.span
