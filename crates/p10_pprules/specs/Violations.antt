-- The rows of Holzmann's rules 8 and 9 on directives ("The Power of Ten", 2006).
use Rattle.std.specs.Prelude.{ℕ, ◌≡◌, List, true, false}
use Rattle.std.specs.List.{Contains}
use Rattle.p10_base.specs.declared.span.Span.{Span}
use Rattle.p10_base.specs.declared.report.Sub.{Sub}
use Rattle.p10_direct.specs.Directives.{Definition}
use Rattle.p10_expand.specs.Obeying.{PlainObeyed}
use Rattle.p10_pprules.specs.Lines.{name_of, operands_of, IsDefined, begins_conditional, is_barred, pastes}
use Rattle.p10_pprules.specs.Units.{IsUnit}
use Rattle.p10_pprules.specs.Recursion.{IsRecursive}
use Rattle.p10_pprules.specs.Dereferences.{Dereferences}

-- a row of a rule, by the number of the rule and its own in it: `row 8 4` is 8.4
abbrev pub row : ℕ → ℕ → Sub
row rule sub = record { rule = rule; sub = sub }

-- A row of the rules is violated at a place by the obeyed directives: a directive at its place, a definition at its name.
pub data Violates (obeyed : List PlainObeyed) : Sub → Span → Type 0 where
  -- 8.1: an `#if`, `#ifdef` or `#ifndef` that begins no include guard
  conditional_compilation : (line : PlainObeyed) → Contains obeyed line → begins_conditional (name_of line.words) ≡ true → line.guard ≡ false
      → Violates obeyed (row 8 1) line.span
  -- 8.2: a definition with `#`, `##` or `...`
  pasting : (definition : Definition) → IsDefined obeyed definition → pastes definition ≡ true → Violates obeyed (row 8 2) definition.name.at
  -- 8.3: a definition that its own list reaches
  recursive_macro : (definition : Definition) → IsDefined obeyed definition → IsRecursive obeyed definition → Violates obeyed (row 8 3) definition.name.at
  -- 8.4: a definition whose list is none of the unit forms
  incomplete_unit : (definition : Definition) → IsDefined obeyed definition → (IsUnit definition.body → ⊥) → Violates obeyed (row 8 4) definition.name.at
  -- 8.5: an `#undef`, or a pragma that isn't allowed
  barred_directive : (line : PlainObeyed) → Contains obeyed line → is_barred (name_of line.words) (operands_of line.words) ≡ true → Violates obeyed (row 8 5) line.span
  -- 9.2: a definition with a dereference
  hidden_dereference : (definition : Definition) → IsDefined obeyed definition → Dereferences definition.body → Violates obeyed (row 9 2) definition.name.at
