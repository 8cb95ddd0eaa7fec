-- The rows of Holzmann's rule 10 ("The Power of Ten", 2006: all code compiles with all warnings on, and with none).
use Rattle.std.specs.Prelude.{◌≡◌, ℕ, true, false, Some, None, slice_get}
use Rattle.std.specs.List.{Contains}
use Rattle.p10_base.specs.declared.at.At.{At}
use Rattle.p10_base.specs.declared.span.Span.{Span}
use Rattle.p10_base.specs.declared.report.Sub.{Sub}
use Rattle.p10_core.specs.Rows.{is_void}
use Rattle.p10_core.specs.Typed.{PlainValue, PlainLabels, PlainStatement, statement, switch, statement_at, PlainVariable, PlainFunction, PlainObject, PlainProgram}
use Rattle.p10_core.specs.Nodes.{PlainNode, a_statement, nodes_of_statements}
use Rattle.p10_warn.specs.AllNodes.{all_nodes}
use Rattle.p10_warn.specs.Naming.{HasNaming, named_variable, named_object, called_function}
use Rattle.p10_warn.specs.Conversions.{NarrowsAt}
use Rattle.p10_warn.specs.Comparisons.{MixesSignsAt}
use Rattle.p10_warn.specs.Scopes.{ScopedDeclaration, declarations_of_function, file_names, Hides}
use Rattle.p10_warn.specs.Jumps.{LabelledBlock, blocks_of, FollowsJump}
use Rattle.p10_warn.specs.Ends.{reach_end}

-- a row of rule 10, by its own number in it
abbrev pub rule_ten : ℕ → Sub
rule_ten n = record { rule = 10; sub = n }

-- A row of rule 10 is violated at a place by a program.
pub data Violates (p : PlainProgram) : Sub → Span → Type 0 where
  -- 10.1: an object of static lifetime that is never named, at its name
  unused_object : (n : ℕ) (o : PlainObject) → slice_get p.objects n ≡ Some o → (HasNaming named_object (all_nodes p) n → ⊥)
      → Violates p (rule_ten 1) o.span
  -- 10.1: a parameter or variable that is never named, at its name
  unused_variable : (f : PlainFunction) (n : ℕ) (v : PlainVariable) → Contains p.functions f → slice_get f.variables n ≡ Some v
      → (HasNaming named_variable (nodes_of_statements f.body) n → ⊥) → Violates p (rule_ten 1) v.span
  -- 10.2: a static function that is never called, at its name; its own call of itself is one
  unused_function : (n : ℕ) (f : PlainFunction) → slice_get p.functions n ≡ Some f → f.static ≡ true
      → (HasNaming called_function (all_nodes p) n → ⊥) → Violates p (rule_ten 2) f.span
  -- 10.3: a conversion that isn't written and may change a value
  implicit_narrowing : (node : PlainNode) (span : Span) → Contains (all_nodes p) node → NarrowsAt node span → Violates p (rule_ten 3) span
  -- 10.4: a signed and an unsigned operand are compared
  signs_mixed : (node : PlainNode) (span : Span) → Contains (all_nodes p) node → MixesSignsAt node span → Violates p (rule_ten 4) span
  -- 10.5: an object or parameter hides an outer one, at its name
  name_hidden : (n : ℕ) (f : PlainFunction) (d : ScopedDeclaration) → slice_get p.functions n ≡ Some f
      → Contains (declarations_of_function p.objects f) d → Hides (file_names p) n d → Violates p (rule_ten 5) d.declares.span
  -- 10.6: a `switch` without `default`, at its keyword
  no_default : (at : At) (span : Span) (v : PlainValue) (labels : PlainLabels) (body : PlainStatement)
      → Contains (all_nodes p) (a_statement (statement at (switch span v labels body))) → labels.otherwise ≡ None → Violates p (rule_ten 6) span
  -- 10.7: a statement or the declaration of an object directly after a jump in its block, with no label before it
  after_jump : (f : PlainFunction) (b : LabelledBlock) (s : PlainStatement) → Contains p.functions f → Contains (blocks_of f) b
      → FollowsJump b.labelled 0 b.items s → Violates p (rule_ten 7) (statement_at s).span
  -- 10.8: a function with a result, other than `main`, whose end can be reached, at its name
  end_reached : (n : ℕ) (f : PlainFunction) → slice_get p.functions n ≡ Some f → (n ≡ p.main → ⊥) → is_void f.result ≡ false
      → reach_end f.body ≡ true → Violates p (rule_ten 8) f.span
