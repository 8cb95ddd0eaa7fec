-- The violations that are listed are those of the rows.
use Rattle.std.proofs.Common.{◌≡◌, ◌*◌, nat_lt, List, [], ◌++◌, length, Bool, true, false, not, ◌&&◌, Option, Some, None, refl, sym, ◌∙◌, ap, subst, inl, inr}
use Rattle.std.specs.Prelude.{◌↔◌, count_by}
use Rattle.std.specs.List.{Contains, flat_map, filter}
use Rattle.std.proofs.lemmas.Bool.{and_parts}
use Rattle.std.proofs.lemmas.List.Elements.{Contains-append_left, Contains-append_right, Contains-append_cases}
use Rattle.p10_base.specs.Gathered.{Gathered, is_built_in}
use Rattle.p10_base.specs.declared.at.At.{At}
use Rattle.p10_base.specs.declared.span.Span.{Span}
use Rattle.p10_base.specs.declared.report.Sub.{Sub}
use Rattle.p10_base.specs.declared.report.Violation.{Violation}
use Rattle.p10_syn.specs.Declaring.{identifier_in}
use Rattle.p10_syn.specs.Trees.{Identifier, Expression, Declarator, Statement, Goto, Label, Definition, External}
use Rattle.p10_synrules.specs.Parts.{Part, ExpressionPart, DeclaratorPart, StatementPart, NamePart, unit_parts}
use Rattle.p10_synrules.specs.Assertions.{calls_c_assert, states_call, states_no_test, is_constant, is_sound_assertion}
use Rattle.p10_synrules.specs.Pointers.{dereferences_twice, has_star, points_to_function}
use Rattle.p10_synrules.specs.Functions.{definitions_in, function_names, has_many_lines, has_many_statements, chief_name}
use Rattle.p10_synrules.specs.Violations.{row, expression_place, jumps_far, declarator_span, HasPart, Breaks, jump, label, far_jump, many_lines, many_statements, few_assertions, assertion_with_call, assertion_without_test, constant_assertion, no_recovery, two_dereferences, pointer_typedef, function_pointer, Violates}
use Rattle.p10_synrules.specs.private.Listing.{violation_if, violation_at, expression_violations, declarator_violations, statement_violations, name_violations, part_violations, function_violations, assertion_violations, all_violations, is_own}
use Rattle.p10_synrules.proofs.Elements.{none_in, here, lone, in_pieces, piece_in, passing, passes}

both : (a b : Bool) → a ≡ true → b ≡ true → (a && b) ≡ true
both a b first second = ap (λ x. x && b) first ∙ second

not_is : (b : Bool) → not b ≡ true → b ≡ false
not_is true e = absurd cc
not_is false e = refl

is_not : (b : Bool) → b ≡ false → not b ≡ true
is_not b e = ap not e

-- ## One row

abbrev at_place : Sub → Span → Violation
at_place sub span = record { sub = sub; span = span }

row_is : (sub : Sub) (holds : Bool) (span : Span) (v : Violation) → Contains (violation_if sub holds span) v → (holds ≡ true) × (at_place sub span ≡ v)
row_is sub true span v held = (refl, lone (at_place sub span) v held)
row_is sub false span v held = absurd (none_in v held)

is_row : (sub : Sub) (holds : Bool) (span : Span) → holds ≡ true → Contains (violation_if sub holds span) (at_place sub span)
is_row sub holds span e = subst (λ b. Contains (violation_if sub b span) (at_place sub span)) (sym e) (here (at_place sub span) [])

name_is : (sub : Sub) (holds : Bool) (name : Option (Identifier At)) (v : Violation) → Contains (violation_at sub holds name) v →
    (x : Identifier At) × (name ≡ Some x) × (holds ≡ true) × (at_place sub x.place.span ≡ v)
name_is sub holds None v held = absurd (none_in v held)
name_is sub holds (Some x) v held = let h = row_is sub holds x.place.span v held in (x, refl, h.0, h.1)

is_name : (sub : Sub) (holds : Bool) (name : Option (Identifier At)) (x : Identifier At) → name ≡ Some x → holds ≡ true →
    Contains (violation_at sub holds name) (at_place sub x.place.span)
is_name sub holds name x e held = subst (λ o. Contains (violation_at sub holds o) (at_place sub x.place.span)) (sym e) (is_row sub holds x.place.span held)

module _ (g : Gathered) (units : List (External At)) where
  abbrev BreaksAs : Violation → Type 0
  BreaksAs v = Breaks g units v.sub v.span

  -- ## Expressions

  abbrev on_calls : Expression At → List Violation
  on_calls t = violation_if (row 5 2) (states_call t) (expression_place t)

  abbrev on_tests : Expression At → List Violation
  on_tests t = violation_if (row 5 3) (states_no_test t) (expression_place t)

  abbrev on_constants : Expression At → List Violation
  on_constants t = violation_if (row 5 4) (is_constant t) (expression_place t)

  abbrev on_recovery : Bool → Expression At → List Violation
  on_recovery within t = violation_if (row 5 5) (calls_c_assert t && not within) (expression_place t)

  abbrev on_dereferences : Expression At → List Violation
  on_dereferences t = violation_if (row 9 1) (dereferences_twice t) (expression_place t)

  unrecovered : (within : Bool) (t : Expression At) (v : Violation) → HasPart units (ExpressionPart within t) → Contains (on_recovery within t) v → BreaksAs v
  unrecovered within t v part in' =
      let h = row_is (row 5 5) (calls_c_assert t && not within) (expression_place t) v in' in
      let parts = and_parts (calls_c_assert t) (not within) h.0 in
      subst BreaksAs h.1 (no_recovery t (subst (λ b. HasPart units (ExpressionPart b t)) (not_is within parts.1) part) parts.0)

  expression_is : (within : Bool) (t : Expression At) (v : Violation) → HasPart units (ExpressionPart within t) → Contains (expression_violations within t) v → BreaksAs v
  expression_is within t v part in' =
      elim (Contains-append_cases (((on_calls t ++ on_tests t) ++ on_constants t) ++ on_recovery within t) (on_dereferences t) v in') [
        | inl in' ↦ elim (Contains-append_cases ((on_calls t ++ on_tests t) ++ on_constants t) (on_recovery within t) v in') [
          | inl in' ↦ elim (Contains-append_cases (on_calls t ++ on_tests t) (on_constants t) v in') [
            | inl in' ↦ elim (Contains-append_cases (on_calls t) (on_tests t) v in') [
              | inl in' ↦ let h = row_is (row 5 2) (states_call t) (expression_place t) v in' in subst BreaksAs h.1 (assertion_with_call within t part h.0)
              | inr in' ↦ let h = row_is (row 5 3) (states_no_test t) (expression_place t) v in' in subst BreaksAs h.1 (assertion_without_test within t part h.0)
            ]
            | inr in' ↦ let h = row_is (row 5 4) (is_constant t) (expression_place t) v in' in subst BreaksAs h.1 (constant_assertion within t part h.0)
          ]
          | inr in' ↦ unrecovered within t v part in'
        ]
        | inr in' ↦ let h = row_is (row 9 1) (dereferences_twice t) (expression_place t) v in' in subst BreaksAs h.1 (two_dereferences within t part h.0)
      ]

  before_dereferences : (within : Bool) (t : Expression At) (v : Violation) → Contains (((on_calls t ++ on_tests t) ++ on_constants t) ++ on_recovery within t) v → Contains (expression_violations within t) v
  before_dereferences within t v h = Contains-append_left (((on_calls t ++ on_tests t) ++ on_constants t) ++ on_recovery within t) (on_dereferences t) v h

  before_recovery : (within : Bool) (t : Expression At) (v : Violation) → Contains ((on_calls t ++ on_tests t) ++ on_constants t) v → Contains (expression_violations within t) v
  before_recovery within t v h = before_dereferences within t v (Contains-append_left ((on_calls t ++ on_tests t) ++ on_constants t) (on_recovery within t) v h)

  before_constants : (within : Bool) (t : Expression At) (v : Violation) → Contains (on_calls t ++ on_tests t) v → Contains (expression_violations within t) v
  before_constants within t v h = before_recovery within t v (Contains-append_left (on_calls t ++ on_tests t) (on_constants t) v h)

  -- ## Declarators

  abbrev on_typedefs : Bool → Declarator At → List Violation
  on_typedefs typedef d = violation_at (row 9 3) (typedef && has_star d) (identifier_in d)

  abbrev on_pointers : Declarator At → List Violation
  on_pointers d = violation_if (row 9 4) (points_to_function d) (declarator_span g d)

  typedef_is : (typedef : Bool) (d : Declarator At) (v : Violation) → HasPart units (DeclaratorPart typedef d) → Contains (on_typedefs typedef d) v → BreaksAs v
  typedef_is typedef d v part in' =
      let h = name_is (row 9 3) (typedef && has_star d) (identifier_in d) v in' in
      let parts = and_parts typedef (has_star d) h.2 in
      subst BreaksAs h.3 (pointer_typedef d h.0 (subst (λ b. HasPart units (DeclaratorPart b d)) parts.0 part) h.1 parts.1)

  declarator_is : (typedef : Bool) (d : Declarator At) (v : Violation) → HasPart units (DeclaratorPart typedef d) → Contains (declarator_violations g typedef d) v → BreaksAs v
  declarator_is typedef d v part in' =
      elim (Contains-append_cases (on_typedefs typedef d) (on_pointers d) v in') [
        | inl in' ↦ typedef_is typedef d v part in'
        | inr in' ↦ let h = row_is (row 9 4) (points_to_function d) (declarator_span g d) v in' in subst BreaksAs h.1 (function_pointer typedef d part h.0)
      ]

  -- ## Statements and names

  statement_is : (s : Statement At) (v : Violation) → HasPart units (StatementPart s) → Contains (statement_violations s) v → BreaksAs v
  statement_is (Goto p x) v part in' = subst BreaksAs (lone (at_place (row 1 1) p.span) v in') (jump p x part)
  statement_is (Label p x s) v part in' = subst BreaksAs (lone (at_place (row 1 1) p.span) v in') (label p x s part)
  statement_is _ v part in' = absurd (none_in v in')

  named_is : (x : Identifier At) (v : Violation) → HasPart units (NamePart x) → Contains (name_violations x) v → BreaksAs v
  named_is x v part in' = let h = row_is (row 1 2) (jumps_far x.name) x.place.span v in' in subst BreaksAs h.1 (far_jump x part h.0)

  part_is : (part : Part) (v : Violation) → HasPart units part → Contains (part_violations g part) v → BreaksAs v
  part_is (ExpressionPart within t) v held in' = expression_is within t v held in'
  part_is (DeclaratorPart typedef d) v held in' = declarator_is typedef d v held in'
  part_is (StatementPart s) v held in' = statement_is s v held in'
  part_is (NamePart x) v held in' = named_is x v held in'

  -- ## Functions

  abbrev on_lines : Definition At → List Violation
  on_lines d = violation_at (row 4 1) (has_many_lines g d.landmarks) (identifier_in d.declarator)

  abbrev on_statements : Definition At → List Violation
  on_statements d = violation_at (row 4 2) (has_many_statements d) (identifier_in d.declarator)

  function_is : (d : Definition At) (v : Violation) → Contains (definitions_in units) d → Contains (function_violations g d) v → BreaksAs v
  function_is d v held in' =
      elim (Contains-append_cases (on_lines d) (on_statements d) v in') [
        | inl in' ↦ let h = name_is (row 4 1) (has_many_lines g d.landmarks) (identifier_in d.declarator) v in' in subst BreaksAs h.3 (many_lines d h.0 held h.1 h.2)
        | inr in' ↦ let h = name_is (row 4 2) (has_many_statements d) (identifier_in d.declarator) v in' in subst BreaksAs h.3 (many_statements d h.0 held h.1 h.2)
      ]

  abbrev are_few : Bool
  are_few = nat_lt (count_by is_sound_assertion (unit_parts units)) (2 * length (function_names units))

  assertions_are : (v : Violation) → Contains (assertion_violations units) v → BreaksAs v
  assertions_are v in' = let h = name_is (row 5 1) are_few (chief_name (function_names units)) v in' in subst BreaksAs h.3 (few_assertions h.0 h.1 h.2)

  -- ## All together

  abbrev by_parts : List Violation
  by_parts = flat_map (part_violations g) (unit_parts units)

  abbrev by_functions : List Violation
  by_functions = flat_map (function_violations g) (definitions_in units)

  listed_is : (v : Violation) → Contains (all_violations g units) v → BreaksAs v
  listed_is v in' =
      elim (Contains-append_cases (by_parts ++ by_functions) (assertion_violations units) v in') [
        | inl in' ↦ elim (Contains-append_cases by_parts by_functions v in') [
          | inl in' ↦ let found = in_pieces (part_violations g) (unit_parts units) v in' in part_is found.0 v found.1 found.2
          | inr in' ↦ let found = in_pieces (function_violations g) (definitions_in units) v in' in function_is found.0 v found.1 found.2
        ]
        | inr in' ↦ assertions_are v in'
      ]

  in_part : (part : Part) (v : Violation) → HasPart units part → Contains (part_violations g part) v → Contains (all_violations g units) v
  in_part part v held in' =
      Contains-append_left (by_parts ++ by_functions) (assertion_violations units) v (Contains-append_left by_parts by_functions v (piece_in (part_violations g) (unit_parts units) part v held in'))

  in_function : (d : Definition At) (v : Violation) → Contains (definitions_in units) d → Contains (function_violations g d) v → Contains (all_violations g units) v
  in_function d v held in' =
      Contains-append_left (by_parts ++ by_functions) (assertion_violations units) v (Contains-append_right by_parts by_functions v (piece_in (function_violations g) (definitions_in units) d v held in'))

  is_listed : (sub : Sub) (span : Span) → Breaks g units sub span → Contains (all_violations g units) (at_place sub span)
  is_listed _ _ (jump p x part) = in_part (StatementPart (Goto p x)) _ part (here (at_place (row 1 1) p.span) [])
  is_listed _ _ (label p x s part) = in_part (StatementPart (Label p x s)) _ part (here (at_place (row 1 1) p.span) [])
  is_listed _ _ (far_jump x part far) = in_part (NamePart x) _ part (is_row (row 1 2) (jumps_far x.name) x.place.span far)
  is_listed _ _ (many_lines d x held named long) =
      in_function d _ held (Contains-append_left (on_lines d) (on_statements d) _ (is_name (row 4 1) (has_many_lines g d.landmarks) (identifier_in d.declarator) x named long))
  is_listed _ _ (many_statements d x held named many) =
      in_function d _ held (Contains-append_right (on_lines d) (on_statements d) _ (is_name (row 4 2) (has_many_statements d) (identifier_in d.declarator) x named many))
  is_listed _ _ (few_assertions x chief few) =
      Contains-append_right (by_parts ++ by_functions) (assertion_violations units) _ (is_name (row 5 1) are_few (chief_name (function_names units)) x chief few)
  is_listed _ _ (assertion_with_call within t part calls) =
      in_part (ExpressionPart within t) _ part (before_constants within t _ (Contains-append_left (on_calls t) (on_tests t) _ (is_row (row 5 2) (states_call t) (expression_place t) calls)))
  is_listed _ _ (assertion_without_test within t part untested) =
      in_part (ExpressionPart within t) _ part (before_constants within t _ (Contains-append_right (on_calls t) (on_tests t) _ (is_row (row 5 3) (states_no_test t) (expression_place t) untested)))
  is_listed _ _ (constant_assertion within t part constant) =
      in_part (ExpressionPart within t) _ part (before_recovery within t _ (Contains-append_right (on_calls t ++ on_tests t) (on_constants t) _ (is_row (row 5 4) (is_constant t) (expression_place t) constant)))
  is_listed _ _ (no_recovery t part calls) =
      in_part (ExpressionPart false t) _ part (before_dereferences false t _ (Contains-append_right ((on_calls t ++ on_tests t) ++ on_constants t) (on_recovery false t) _
      (is_row (row 5 5) (calls_c_assert t && not false) (expression_place t) (both (calls_c_assert t) (not false) calls refl))))
  is_listed _ _ (two_dereferences within t part twice) =
      in_part (ExpressionPart within t) _ part (Contains-append_right (((on_calls t ++ on_tests t) ++ on_constants t) ++ on_recovery within t) (on_dereferences t) _ (is_row (row 9 1) (dereferences_twice t) (expression_place t) twice))
  is_listed _ _ (pointer_typedef d x part named starred) =
      in_part (DeclaratorPart true d) _ part (Contains-append_left (on_typedefs true d) (on_pointers d) _ (is_name (row 9 3) (true && has_star d) (identifier_in d) x named starred))
  is_listed _ _ (function_pointer typedef d part points) =
      in_part (DeclaratorPart typedef d) _ part (Contains-append_right (on_typedefs typedef d) (on_pointers d) _ (is_row (row 9 4) (points_to_function d) (declarator_span g d) points))

  pub exact : (all own : List Violation) → all ≡ all_violations g units → own ≡ filter (is_own g) all → (v : Violation) → Contains own v ↔ Violates g units v.sub v.span
  exact all own listed kept v = (
    (λ held. let h = passing (is_own g) all v (subst (λ l. Contains l v) kept held) in
        record { broken = listed_is v (subst (λ l. Contains l v) listed h.0); own_file = not_is (is_built_in g v.span.file) h.1 }),
    (λ violates. subst (λ l. Contains l v) (sym kept) (passes (is_own g) all v (subst (λ l. Contains l v) (sym listed) (is_listed v.sub v.span violates.broken)) (is_not (is_built_in g v.span.file) violates.own_file))),
  )
