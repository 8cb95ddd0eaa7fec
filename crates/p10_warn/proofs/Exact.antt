-- The violations that are listed are those of the rows.
use Rattle.std.proofs.Common.{◌≡◌, ℕ, ◌+◌, List, ◌++◌, Some, slice_get, sym, ◌∙◌, ap, subst, arith, inl, inr}
use Rattle.std.specs.Prelude.{◌↔◌}
use Rattle.std.specs.List.{Contains, filter_map, flat_map}
use Rattle.std.proofs.lemmas.List.Elements.{Contains-append_left, Contains-append_right, Contains-append_cases}
use Rattle.p10_base.specs.declared.span.Span.{Span}
use Rattle.p10_base.specs.declared.report.Sub.{Sub}
use Rattle.p10_base.specs.declared.report.Violation.{Violation}
use Rattle.p10_core.specs.Nodes.{PlainNode}
use Rattle.p10_core.specs.Typed.{PlainObject, PlainProgram}
use Rattle.p10_core.specs.WholePrograms.{is_among}
use Rattle.p10_warn.specs.AllNodes.{all_nodes}
use Rattle.p10_warn.specs.Naming.{HasNaming, named_object, called_function}
use Rattle.p10_warn.specs.Scopes.{file_names}
use Rattle.p10_warn.specs.Violations.{Violates, unused_object, unused_variable, unused_function, implicit_narrowing, signs_mixed, name_hidden, no_default, after_jump, end_reached}
use Rattle.p10_warn.specs.private.Listing.{node_violations, unused_objects, functions_violations, program_violations}
use Rattle.p10_warn.proofs.Rows.{Breaks, row_at, in_pieces, piece_in}
use Rattle.p10_warn.proofs.NodeRows.{node_is, is_narrowing, is_mixing, is_without_default}
use Rattle.p10_warn.proofs.UnusedRows.{unnamed_is, is_unnamed, unused_object_is, is_unused_object}
use Rattle.p10_warn.proofs.FunctionRows.{functions_are, is_variable, is_call, is_name, is_after_jump, is_end}

module _ (p : PlainProgram) where
  abbrev on_nodes : List Violation
  on_nodes = flat_map node_violations (all_nodes p)

  abbrev named : List ℕ
  named = filter_map named_object (all_nodes p)

  abbrev on_objects : List Violation
  on_objects = unused_objects named 0 p.objects

  abbrev on_functions : List Violation
  on_functions = functions_violations (file_names p) p.main (filter_map called_function (all_nodes p)) 0 p.functions

  object_is : (v : Violation) → Contains on_objects v → Breaks p v
  object_is v held =
      let h = unused_object_is named 0 p.objects v held in
      let same : 0 + h.0 ≡ h.0 = omega arith in
      subst (Breaks p) h.4 (unused_object h.0 h.1 h.2 (unnamed_is named_object (all_nodes p) h.0 (ap (λ k. is_among k named) (sym same) ∙ h.3)))

  listed_is : (v : Violation) → Contains (program_violations p) v → Breaks p v
  listed_is v held =
      elim (Contains-append_cases on_nodes (on_objects ++ on_functions) v held) [
        | inl held ↦ let found = in_pieces node_violations (all_nodes p) v held in node_is p found.0 v found.1 found.2
        | inr held ↦ elim (Contains-append_cases on_objects on_functions v held) [ inl held ↦ object_is v held | inr held ↦ functions_are p v held ]
      ]

  by_node : (node : PlainNode) (v : Violation) → Contains (all_nodes p) node → Contains (node_violations node) v → Contains (program_violations p) v
  by_node node v held in' = Contains-append_left on_nodes (on_objects ++ on_functions) v (piece_in node_violations (all_nodes p) node v held in')

  by_object : (n : ℕ) (o : PlainObject) → slice_get p.objects n ≡ Some o → (HasNaming named_object (all_nodes p) n → ⊥) → Contains (program_violations p) (row_at 1 o.span)
  by_object n o at unnamed =
      let same : n ≡ 0 + n = omega arith in
      Contains-append_right on_nodes (on_objects ++ on_functions) (row_at 1 o.span) (Contains-append_left on_objects on_functions (row_at 1 o.span)
      (is_unused_object named 0 p.objects n o at (ap (λ k. is_among k named) (sym same) ∙ is_unnamed named_object (all_nodes p) n unnamed)))

  by_function : (v : Violation) → Contains on_functions v → Contains (program_violations p) v
  by_function v held = Contains-append_right on_nodes (on_objects ++ on_functions) v (Contains-append_right on_objects on_functions v held)

  is_listed : (sub : Sub) (span : Span) → Violates p sub span → Contains (program_violations p) (record { sub = sub; span = span })
  is_listed _ _ (unused_object n o at unnamed) = by_object n o at unnamed
  is_listed _ _ (unused_variable f n w held at unnamed) = by_function _ (is_variable p f n w held at unnamed)
  is_listed _ _ (unused_function n f at static uncalled) = by_function _ (is_call p n f at static uncalled)
  is_listed _ _ (implicit_narrowing node span held narrows) = by_node node _ held (is_narrowing node span narrows)
  is_listed _ _ (signs_mixed node span held mixes) = by_node node _ held (is_mixing node span mixes)
  is_listed _ _ (name_hidden n f d at held hidden) = by_function _ (is_name p n f d at held hidden)
  is_listed _ _ (no_default at span w labels body held none) = by_node _ _ held (is_without_default at span w labels body none)
  is_listed _ _ (after_jump f b s held in' after) = by_function _ (is_after_jump p f b s held in' after)
  is_listed _ _ (end_reached n f at other result reached) = by_function _ (is_end p n f at other result reached)

  pub exact : (found : List Violation) → found ≡ program_violations p → (v : Violation) → Contains found v ↔ Violates p v.sub v.span
  exact found e v = (
    (λ held. listed_is v (subst (λ l. Contains l v) e held)),
    (λ violates. subst (λ l. Contains l v) (sym e) (is_listed v.sub v.span violates)),
  )
