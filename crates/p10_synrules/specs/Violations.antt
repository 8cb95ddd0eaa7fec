-- The rows of Holzmann's rules 1, 4, 5 and 9 on trees ("The Power of Ten", 2006).
use Rattle.std.specs.Prelude.{ℕ, ◌≡◌, ◌*◌, nat_lt, nat_eq, min, ◌+◌, List, Bool, true, false, ◌||◌, Option, Some, None, length, count_by, codes, bytes_eq, slice_get, if◌then◌else◌}
use Rattle.std.specs.List.{Contains}
use Rattle.p10_base.specs.Words.{Text, span_of}
use Rattle.p10_base.specs.Gathered.{Gathered, text_of, is_built_in}
use Rattle.p10_base.specs.declared.at.At.{At}
use Rattle.p10_base.specs.declared.span.Span.{Span}
use Rattle.p10_base.specs.declared.report.Sub.{Sub}
use Rattle.p10_syn.specs.Declaring.{identifier_in}
use Rattle.p10_syn.specs.Trees.{Identifier, Expression, expression, Declarator, Statement, Goto, Label, Definition, External}
use Rattle.p10_synrules.specs.Parts.{Part, ExpressionPart, DeclaratorPart, StatementPart, NamePart, unit_parts}
use Rattle.p10_synrules.specs.Assertions.{calls_c_assert, states_call, states_no_test, is_constant, is_sound_assertion}
use Rattle.p10_synrules.specs.Pointers.{dereferences_twice, has_star, points_to_function, declarator_place}
use Rattle.p10_synrules.specs.Functions.{definitions_in, function_names, has_many_lines, has_many_statements, chief_name}

-- a row of a rule, by the number of the rule and its own in it: `row 9 4` is 9.4
abbrev pub row : ℕ → ℕ → Sub
row rule sub = record { rule = rule; sub = sub }

-- where an expression stands, its own parentheses included
abbrev pub expression_place : Expression At → Span
expression_place (expression p n f) = p.span

-- whether a name is `setjmp` or `longjmp` (C99 7.13)
abbrev pub jumps_far : Text → Bool
jumps_far name = bytes_eq name (codes "setjmp") || bytes_eq name (codes "longjmp")

-- whether a byte is `(` or `*`, with which a declarator without a name begins
abbrev pub opens_declarator : Option ℕ → Bool
opens_declarator None = false
opens_declarator (Some byte) = nat_eq byte 40 || nat_eq byte 42

-- the first word of what stands at a place: one byte, `(` or `*`, unless a macro gave it
abbrev pub first_word : Gathered → Span → Span
first_word g at = if opens_declarator (slice_get (text_of g at.file) at.start) then span_of at.file at.start (min (at.start + 1) at.end) else at

-- where a declarator is reported: at its name, or else at its first word
abbrev pub declarator_span : Gathered → Declarator At → Span
declarator_span g d = span_from (identifier_in d)
  where
    span_from : Option (Identifier At) → Span
    span_from None = first_word g (declarator_place d).span
    span_from (Some x) = x.place.span

-- the trees have this part
abbrev pub HasPart : List (External At) → Part → Type 0
HasPart units part = Contains (unit_parts units) part

-- a row of the rules is broken at a place by the trees of the roots
pub data Breaks (g : Gathered) (units : List (External At)) : Sub → Span → Type 0 where
  -- 1.1: a `goto`, or a label
  jump : (p : At) (x : Identifier At) → HasPart units (StatementPart (Goto p x)) → Breaks g units (row 1 1) p.span
  label : (p : At) (x : Identifier At) (s : Statement At) → HasPart units (StatementPart (Label p x s)) → Breaks g units (row 1 1) p.span
  -- 1.2: the name `setjmp` or `longjmp`
  far_jump : (x : Identifier At) → HasPart units (NamePart x) → jumps_far x.name ≡ true → Breaks g units (row 1 2) x.place.span
  -- 4.1: a function over 60 lines, both ends of which stand in one file
  many_lines : (d : Definition At) (x : Identifier At) → Contains (definitions_in units) d → identifier_in d.declarator ≡ Some x →
      has_many_lines g d.landmarks ≡ true → Breaks g units (row 4 1) x.place.span
  -- 4.2: a function over 60 declarations and statements other than blocks
  many_statements : (d : Definition At) (x : Identifier At) → Contains (definitions_in units) d → identifier_in d.declarator ≡ Some x →
      has_many_statements d ≡ true → Breaks g units (row 4 2) x.place.span
  -- 5.1: fewer assertions that aren't constant than twice the functions, at `main`, or else at the first function
  few_assertions : (x : Identifier At) → chief_name (function_names units) ≡ Some x →
      nat_lt (count_by is_sound_assertion (unit_parts units)) (2 * length (function_names units)) ≡ true → Breaks g units (row 5 1) x.place.span
  -- 5.2: an assertion that has a call in what it states
  assertion_with_call : (within : Bool) (t : Expression At) → HasPart units (ExpressionPart within t) → states_call t ≡ true → Breaks g units (row 5 2) (expression_place t)
  -- 5.3: an assertion that states no truth value by its top operator
  assertion_without_test : (within : Bool) (t : Expression At) → HasPart units (ExpressionPart within t) → states_no_test t ≡ true → Breaks g units (row 5 3) (expression_place t)
  -- 5.4: an assertion without a name in what it states
  constant_assertion : (within : Bool) (t : Expression At) → HasPart units (ExpressionPart within t) → is_constant t ≡ true → Breaks g units (row 5 4) (expression_place t)
  -- 5.5: a call of `c_assert` outside the condition of an `if`
  no_recovery : (t : Expression At) → HasPart units (ExpressionPart false t) → calls_c_assert t ≡ true → Breaks g units (row 5 5) (expression_place t)
  -- 9.1: a `*` or `->` whose pointer comes by another one
  two_dereferences : (within : Bool) (t : Expression At) → HasPart units (ExpressionPart within t) → dereferences_twice t ≡ true → Breaks g units (row 9 1) (expression_place t)
  -- 9.3: a typedef whose declarator has `*`
  pointer_typedef : (d : Declarator At) (x : Identifier At) → HasPart units (DeclaratorPart true d) → identifier_in d ≡ Some x → has_star d ≡ true → Breaks g units (row 9 3) x.place.span
  -- 9.4: a declarator that is a pointer to a function
  function_pointer : (typedef : Bool) (d : Declarator At) → HasPart units (DeclaratorPart typedef d) → points_to_function d ≡ true → Breaks g units (row 9 4) (declarator_span g d)

-- a row of the rules is violated at a place: it is broken there, and the place is in no built-in header
pub record Violates (g : Gathered) (units : List (External At)) (sub : Sub) (at : Span) : Type 0 where
  pub broken : Breaks g units sub at
  pub own_file : is_built_in g at.file ≡ false
