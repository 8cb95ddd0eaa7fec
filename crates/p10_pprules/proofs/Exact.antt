-- The violations that are listed are those of the rows.
use Rattle.std.proofs.Common.{◌≡◌, ℕ, List, [], ◌∷◌, ◌++◌, map, Bool, true, false, not, ◌&&◌, refl, sym, ◌∙◌, ap, subst, inl, inr}
use Rattle.std.specs.Prelude.{◌↔◌}
use Rattle.std.specs.List.{Contains, flat_map}
use Rattle.std.proofs.lemmas.Bool.{and_parts}
use Rattle.std.proofs.lemmas.List.Elements.{Contains-append_left, Contains-append_right, Contains-append_cases}
use Rattle.p10_base.specs.declared.span.Span.{Span}
use Rattle.p10_base.specs.declared.report.Sub.{Sub}
use Rattle.p10_base.specs.declared.report.Violation.{Violation}
use Rattle.p10_base.specs.Words.{Text}
use Rattle.p10_direct.specs.Directives.{Definition}
use Rattle.p10_direct.specs.declared.form.Definition.{Definition as Borrowed}
use Rattle.p10_direct.specs.Form.{plain_definition}
use Rattle.p10_expand.specs.Obeying.{PlainObeyed}
use Rattle.p10_pprules.specs.Lines.{name_of, operands_of, begins_conditional, is_barred, pastes}
use Rattle.p10_pprules.specs.private.Scanning.{is_unit, dereferences_behind}
use Rattle.p10_pprules.specs.private.Listing.{violation_if, line_violations, returns_to, definition_violations}
use Rattle.p10_pprules.specs.Violations.{row, Violates, conditional_compilation, pasting, recursive_macro, incomplete_unit, barred_directive, hidden_dereference}
use Rattle.p10_pprules.specs.private.Gathering.{AreDefined}
use Rattle.p10_pprules.specs.private.Graphs.{HasNames, AreNumbersOf}
use Rattle.p10_pprules.proofs.Booleans.{both, not_is, is_not, not_both_ways}
use Rattle.p10_pprules.proofs.Members.{none_in, here, first_or_later, lone}
use Rattle.p10_pprules.proofs.Forms.{unit_is, is_unit_one}
use Rattle.p10_pprules.proofs.Stars.{dereference_is, is_dereference}
use Rattle.p10_pprules.proofs.Macros.{returns_is, is_returning}

-- ## Lists that are joined

pub in_pieces : {A B : Type 0} (f : A → List B) (xs : List A) (y : B) → Contains (flat_map f xs) y → (x : A) × Contains xs x × Contains (f x) y
in_pieces f [] y held = absurd (none_in y held)
in_pieces f (x ∷ xs) y held =
    elim (Contains-append_cases (f x) (flat_map f xs) y held) [
      | inl first ↦ (x, here x xs, first)
      | inr later ↦ let found = in_pieces f xs y later in (found.0, Contains-append_right (x ∷ []) xs found.0 found.1, found.2)
    ]

pub piece_in : {A B : Type 0} (f : A → List B) (xs : List A) (x : A) (y : B) → Contains xs x → Contains (f x) y → Contains (flat_map f xs) y
piece_in f [] x y held in' = absurd (none_in x held)
piece_in f (z ∷ xs) x y held in' =
    elim (first_or_later z xs x held) [
      | inl same ↦ Contains-append_left (f z) (flat_map f xs) y (subst (λ w. Contains (f w) y) (sym same) in')
      | inr later ↦ Contains-append_right (f z) (flat_map f xs) y (piece_in f xs x y later in')
    ]

-- ## One row

abbrev at_place : Sub → Span → Violation
at_place sub span = record { sub = sub; span = span }

row_is : (sub : Sub) (holds : Bool) (span : Span) (v : Violation) → Contains (violation_if sub holds span) v → (holds ≡ true) × (at_place sub span ≡ v)
row_is sub true span v held = (refl, lone (at_place sub span) v held)
row_is sub false span v held = absurd (none_in v held)

is_row : (sub : Sub) (holds : Bool) (span : Span) → holds ≡ true → Contains (violation_if sub holds span) (at_place sub span)
is_row sub holds span e = subst (λ b. Contains (violation_if sub b span) (at_place sub span)) (sym e) (here (at_place sub span) [])

-- ## Lines

abbrev Breaks : List PlainObeyed → Violation → Type 0
Breaks obeyed v = Violates obeyed v.sub v.span

abbrev on_conditionals : PlainObeyed → List Violation
on_conditionals line = violation_if (row 8 1) (begins_conditional (name_of line.words) && not line.guard) line.span

abbrev on_bars : PlainObeyed → List Violation
on_bars line = violation_if (row 8 5) (is_barred (name_of line.words) (operands_of line.words)) line.span

line_is : (obeyed : List PlainObeyed) (line : PlainObeyed) (v : Violation) → Contains obeyed line → Contains (line_violations line) v → Breaks obeyed v
line_is obeyed line v held in' =
    let name = name_of line.words in
    elim (Contains-append_cases (on_conditionals line) (on_bars line) v in') [
      | inl first ↦ let h = row_is (row 8 1) (begins_conditional name && not line.guard) line.span v first in
          let parts = and_parts (begins_conditional name) (not line.guard) h.0 in
          subst (Breaks obeyed) h.1 (conditional_compilation line held parts.0 (not_is line.guard parts.1))
      | inr second ↦ let h = row_is (row 8 5) (is_barred name (operands_of line.words)) line.span v second in
          subst (Breaks obeyed) h.1 (barred_directive line held h.0)
    ]

-- ## Definitions

module _ (obeyed : List PlainObeyed) (definitions : List Definition) (names : List Text) (numbers : List ℕ)
    (defined : AreDefined obeyed definitions) (named : HasNames definitions names) (are : AreNumbersOf names definitions numbers) where
  abbrev on_pasting : Definition → List Violation
  on_pasting definition = violation_if (row 8 2) (pastes definition) definition.name.at

  abbrev on_recursion : Definition → List Violation
  on_recursion definition = violation_if (row 8 3) (returns_to names numbers definition) definition.name.at

  abbrev on_units : Definition → List Violation
  on_units definition = violation_if (row 8 4) (not (is_unit definition.body)) definition.name.at

  abbrev on_stars : Definition → List Violation
  on_stars definition = violation_if (row 9 2) (dereferences_behind false definition.body) definition.name.at

  definition_is : (definition : Definition) (v : Violation) → Contains definitions definition → Contains (definition_violations names numbers definition) v → Breaks obeyed v
  definition_is definition v held in' =
      let at = definition.name.at in
      let is = (defined definition).0 held in
      let first = on_pasting definition in
      let second = on_recursion definition in
      let third = on_units definition in
      let fourth = on_stars definition in
      elim (Contains-append_cases ((first ++ second) ++ third) fourth v in') [
        | inl in' ↦ elim (Contains-append_cases (first ++ second) third v in') [
          | inl in' ↦ elim (Contains-append_cases first second v in') [
            | inl in' ↦ let h = row_is (row 8 2) (pastes definition) at v in' in subst (Breaks obeyed) h.1 (pasting definition is h.0)
            | inr in' ↦ let h = row_is (row 8 3) (returns_to names numbers definition) at v in' in
                subst (Breaks obeyed) h.1 (recursive_macro definition is (returns_is obeyed definitions names are.graph defined named are.is_graph numbers are.are definition held h.0))
          ]
          | inr in' ↦ let h = row_is (row 8 4) (not (is_unit definition.body)) at v in' in
              subst (Breaks obeyed) h.1 (incomplete_unit definition is (λ unit. not_both_ways (is_unit definition.body) (is_unit_one definition.body unit) (not_is (is_unit definition.body) h.0)))
        ]
        | inr in' ↦ let h = row_is (row 9 2) (dereferences_behind false definition.body) at v in' in subst (Breaks obeyed) h.1 (hidden_dereference definition is (dereference_is definition.body h.0))
      ]

  abbrev all : List Violation
  all = flat_map line_violations obeyed ++ flat_map (definition_violations names numbers) definitions

  pub listed_is : (v : Violation) → Contains all v → Breaks obeyed v
  listed_is v in' =
      elim (Contains-append_cases (flat_map line_violations obeyed) (flat_map (definition_violations names numbers) definitions) v in') [
        | inl in' ↦ let found = in_pieces line_violations obeyed v in' in line_is obeyed found.0 v found.1 found.2
        | inr in' ↦ let found = in_pieces (definition_violations names numbers) definitions v in' in definition_is found.0 v found.1 found.2
      ]

  in_line : (line : PlainObeyed) (v : Violation) → Contains obeyed line → Contains (line_violations line) v → Contains all v
  in_line line v held in' = Contains-append_left (flat_map line_violations obeyed) (flat_map (definition_violations names numbers) definitions) v (piece_in line_violations obeyed line v held in')

  in_definition : (definition : Definition) (v : Violation) → Contains definitions definition → Contains (definition_violations names numbers definition) v → Contains all v
  in_definition definition v held in' =
      Contains-append_right (flat_map line_violations obeyed) (flat_map (definition_violations names numbers) definitions) v (piece_in (definition_violations names numbers) definitions definition v held in')

  is_false : (b : Bool) → (b ≡ true → ⊥) → b ≡ false
  is_false true other = absurd (other refl)
  is_false false other = refl

  in_first : (definition : Definition) (v : Violation) → Contains (on_pasting definition) v → Contains (definition_violations names numbers definition) v
  in_first d v held = Contains-append_left ((on_pasting d ++ on_recursion d) ++ on_units d) (on_stars d) v (Contains-append_left (on_pasting d ++ on_recursion d) (on_units d) v (Contains-append_left (on_pasting d) (on_recursion d) v held))

  in_second : (definition : Definition) (v : Violation) → Contains (on_recursion definition) v → Contains (definition_violations names numbers definition) v
  in_second d v held = Contains-append_left ((on_pasting d ++ on_recursion d) ++ on_units d) (on_stars d) v (Contains-append_left (on_pasting d ++ on_recursion d) (on_units d) v (Contains-append_right (on_pasting d) (on_recursion d) v held))

  in_third : (definition : Definition) (v : Violation) → Contains (on_units definition) v → Contains (definition_violations names numbers definition) v
  in_third d v held = Contains-append_left ((on_pasting d ++ on_recursion d) ++ on_units d) (on_stars d) v (Contains-append_right (on_pasting d ++ on_recursion d) (on_units d) v held)

  in_fourth : (definition : Definition) (v : Violation) → Contains (on_stars definition) v → Contains (definition_violations names numbers definition) v
  in_fourth d v held = Contains-append_right ((on_pasting d ++ on_recursion d) ++ on_units d) (on_stars d) v held

  pub is_listed : (sub : Sub) (span : Span) → Violates obeyed sub span → Contains all (at_place sub span)
  is_listed _ _ (conditional_compilation line held begins unguarded) =
      in_line line _ held (Contains-append_left (on_conditionals line) (on_bars line) _ (is_row (row 8 1) _ line.span (both (begins_conditional (name_of line.words)) (not line.guard) begins (is_not line.guard unguarded))))
  is_listed _ _ (barred_directive line held barred) =
      in_line line _ held (Contains-append_right (on_conditionals line) (on_bars line) _ (is_row (row 8 5) _ line.span barred))
  is_listed _ _ (pasting definition is pasted) =
      in_definition definition _ ((defined definition).1 is) (in_first definition _ (is_row (row 8 2) _ definition.name.at pasted))
  is_listed _ _ (recursive_macro definition is recursive) =
      let held = (defined definition).1 is in
      in_definition definition _ held (in_second definition _ (is_row (row 8 3) (returns_to names numbers definition) definition.name.at
      (is_returning obeyed definitions names are.graph defined named are.is_graph numbers are.are definition held recursive)))
  is_listed _ _ (incomplete_unit definition is incomplete) =
      in_definition definition _ ((defined definition).1 is) (in_third definition _ (is_row (row 8 4) (not (is_unit definition.body)) definition.name.at
      (is_not (is_unit definition.body) (is_false (is_unit definition.body) (λ e. incomplete (unit_is definition.body e))))))
  is_listed _ _ (hidden_dereference definition is dereferences) =
      in_definition definition _ ((defined definition).1 is) (in_fourth definition _ (is_row (row 9 2) (dereferences_behind false definition.body) definition.name.at (is_dereference definition.body dereferences)))

  pub exact : (found : List Violation) → found ≡ all → (v : Violation) → Contains found v ↔ Violates obeyed v.sub v.span
  exact found e v = (
    (λ held. listed_is v (subst (λ l. Contains l v) e held)),
    (λ violates. subst (λ l. Contains l v) (sym e) (is_listed v.sub v.span violates)),
  )

-- ## All together

pub collected : (obeyed : List PlainObeyed) (definitions gathered : List Borrowed) (names : List Text) (numbers given : List ℕ) (first lines all : List Violation) → definitions ≡ gathered → given ≡ numbers
    → AreDefined obeyed (map plain_definition gathered) → HasNames (map plain_definition definitions) names → AreNumbersOf names (map plain_definition definitions) numbers
    → first ≡ [] → lines ≡ first ++ flat_map line_violations obeyed → all ≡ lines ++ flat_map (definition_violations names given) (map plain_definition definitions)
    → (v : Violation) → Contains all v ↔ Violates obeyed v.sub v.span
collected obeyed definitions gathered names numbers given first lines all same_definitions same_numbers defined named are none by_lines by_definitions =
    exact obeyed (map plain_definition definitions) names numbers (subst (λ l. AreDefined obeyed (map plain_definition l)) (sym same_definitions) defined) named are all
    (by_definitions
    ∙ ap (λ l. l ++ flat_map (definition_violations names given) (map plain_definition definitions)) (by_lines ∙ ap (λ l. l ++ flat_map line_violations obeyed) none)
    ∙ ap (λ l. flat_map line_violations obeyed ++ flat_map (definition_violations names l) (map plain_definition definitions)) same_numbers)
