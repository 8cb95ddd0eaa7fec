-- The violations by functions are those of the rows on functions.
use Rattle.std.proofs.Common.{◌≡◌, ℕ, zero, suc, ◌+◌, ◌==◌, ◌++◌, List, [], ◌∷◌, true, false, not, ◌&&◌, Some, slice_get, refl, sym, ◌∙◌, ap, subst, arith, inl, inr}
use Rattle.std.specs.List.{Contains, filter_map, flat_map}
use Rattle.std.proofs.lemmas.Bool.{and_parts, eqb-true, eq-eqb}
use Rattle.std.proofs.lemmas.List.Elements.{Contains-append_left, Contains-append_right, Contains-append_cases}
use Rattle.std.proofs.lemmas.Option.{none-some, same_Some}
use Rattle.p10_base.specs.declared.report.Violation.{Violation}
use Rattle.p10_core.specs.Rows.{is_void}
use Rattle.p10_core.specs.Nodes.{nodes_of_statements}
use Rattle.p10_core.specs.Typed.{PlainStatement, PlainVariable, PlainFunction, PlainProgram, statement_at}
use Rattle.p10_core.specs.WholePrograms.{is_among}
use Rattle.p10_warn.specs.AllNodes.{all_nodes}
use Rattle.p10_warn.specs.Naming.{HasNaming, named_variable, called_function}
use Rattle.p10_warn.specs.Scopes.{ScopedDeclaration, declarations_of_function, FileNames, file_names, Hides}
use Rattle.p10_warn.specs.Jumps.{LabelledBlock, blocks_of, FollowsJump}
use Rattle.p10_warn.specs.Ends.{reach_end, lacks_return}
use Rattle.p10_warn.specs.Violations.{unused_variable, unused_function, name_hidden, after_jump, end_reached}
use Rattle.p10_warn.specs.private.Listing.{listed_if, unused_variables, hides, declaration_violations, block_violations, function_violations, functions_violations}
use Rattle.p10_warn.proofs.Booleans.{both, not_is, is_not, not_both_ways}
use Rattle.p10_warn.proofs.Members.{none_in, here, there, first_or_later}
use Rattle.p10_warn.proofs.Rows.{Breaks, row_at, row_is, is_row, in_pieces, piece_in}
use Rattle.p10_warn.proofs.UnusedRows.{unnamed_is, is_unnamed, unused_variable_is, is_unused_variable}
use Rattle.p10_warn.proofs.HiddenRows.{hiding_is, is_hiding}
use Rattle.p10_warn.proofs.JumpRows.{item_is, is_item}

-- ## Functions by their numbers

numbered : (file : FileNames) (main : ℕ) (called : List ℕ) (f : PlainFunction) (m n : ℕ) (v : Violation) → m ≡ n → Contains (function_violations file main called m f) v
    → Contains (function_violations file main called n f) v
numbered file main called f m n v e held = subst (λ (k : ℕ). Contains (function_violations file main called k f) v) e held

function_at_is : (file : FileNames) (main : ℕ) (called : List ℕ) (n : ℕ) (fs : List PlainFunction) (v : Violation) → Contains (functions_violations file main called n fs) v
    → (k : ℕ) × (f : PlainFunction) × (slice_get fs k ≡ Some f) × Contains (function_violations file main called (n + k) f) v
function_at_is file main called n [] v held = absurd (none_in v held)
function_at_is file main called n (f ∷ fs) v held =
    elim (Contains-append_cases (function_violations file main called n f) (functions_violations file main called (n + 1) fs) v held) [
      | inl first ↦ (0, f, refl, numbered file main called f n (n + 0) v (omega arith) first)
      | inr later ↦ let h = function_at_is file main called (n + 1) fs v later in
          (suc h.0, h.1, h.2, numbered file main called h.1 (n + 1 + h.0) (n + suc h.0) v (omega arith) h.3)
    ]

is_function_at : (file : FileNames) (main : ℕ) (called : List ℕ) (n : ℕ) (fs : List PlainFunction) (k : ℕ) (f : PlainFunction) (v : Violation) → slice_get fs k ≡ Some f
    → Contains (function_violations file main called (n + k) f) v → Contains (functions_violations file main called n fs) v
is_function_at file main called n [] k f v at held = absurd (none-some f at)
is_function_at file main called n (g ∷ fs) zero f v at held =
    Contains-append_left (function_violations file main called n g) (functions_violations file main called (n + 1) fs) v
    (subst (λ (h : PlainFunction). Contains (function_violations file main called n h) v) (sym (same_Some g f at)) (numbered file main called f (n + 0) n v (omega arith) held))
is_function_at file main called n (g ∷ fs) (suc k) f v at held =
    Contains-append_right (function_violations file main called n g) (functions_violations file main called (n + 1) fs) v
    (is_function_at file main called (n + 1) fs k f v at (numbered file main called f (n + suc k) (n + 1 + k) v (omega arith) held))

-- an element by its place is an element
pub held_at : {A : Type 0} (xs : List A) (k : ℕ) (x : A) → slice_get xs k ≡ Some x → Contains xs x
held_at [] k x at = absurd (none-some x at)
held_at (y ∷ xs) zero x at = subst (Contains (y ∷ xs)) (same_Some y x at) (here y xs)
held_at (y ∷ xs) (suc k) x at = there y xs x (held_at xs k x at)

-- and has a place
pub place_of_held : {A : Type 0} (xs : List A) (x : A) → Contains xs x → (k : ℕ) × (slice_get xs k ≡ Some x)
place_of_held [] x held = absurd (none_in x held)
place_of_held (y ∷ xs) x held =
    elim (first_or_later y xs x held) [
      | inl same ↦ (0, ap Some same)
      | inr later ↦ let found = place_of_held xs x later in (suc found.0, found.1)
    ]

-- ## One function

other_number : (n m : ℕ) → not (n == m) ≡ true → n ≡ m → ⊥
other_number n m e same = not_both_ways (n == m) (eq-eqb n m same) (not_is (n == m) e)

is_other_number : (n m : ℕ) → (n ≡ m → ⊥) → not (n == m) ≡ true
is_other_number n m h = elim (n == m) as (λ b. (n == m) ≡ b → not b ≡ true) [ true ↦ λ e. absurd (h (eqb-true n m e)) | false ↦ λ e. refl ] refl

module _ (p : PlainProgram) where
  abbrev called : List ℕ
  called = filter_map called_function (all_nodes p)

  abbrev on_variables : PlainFunction → List Violation
  on_variables f = unused_variables (filter_map named_variable (nodes_of_statements f.body)) 0 f.variables

  abbrev on_calls : ℕ → PlainFunction → List Violation
  on_calls n f = listed_if 2 (f.static && not (is_among n called)) f.span

  abbrev on_names : ℕ → PlainFunction → List Violation
  on_names n f = flat_map (declaration_violations (file_names p) n) (declarations_of_function p.objects f)

  abbrev on_jumps : PlainFunction → List Violation
  on_jumps f = flat_map block_violations (blocks_of f)

  abbrev on_end : ℕ → PlainFunction → List Violation
  on_end n f = listed_if 8 (lacks_return p.main n f) f.span

  variable_is : (n : ℕ) (f : PlainFunction) (v : Violation) → Contains p.functions f → Contains (on_variables f) v → Breaks p v
  variable_is n f v held in' =
      let named = filter_map named_variable (nodes_of_statements f.body) in
      let h = unused_variable_is named 0 f.variables v in' in
      let same : 0 + h.0 ≡ h.0 = omega arith in
      subst (Breaks p) h.4 (unused_variable f h.0 h.1 held h.2 (unnamed_is named_variable (nodes_of_statements f.body) h.0 (ap (λ k. is_among k named) (sym same) ∙ h.3)))

  call_is : (n : ℕ) (f : PlainFunction) (v : Violation) → slice_get p.functions n ≡ Some f → Contains (on_calls n f) v → Breaks p v
  call_is n f v at in' =
      let h = row_is 2 (f.static && not (is_among n called)) f.span v in' in
      let parts = and_parts f.static (not (is_among n called)) h.0 in
      subst (Breaks p) h.1 (unused_function n f at parts.0 (unnamed_is called_function (all_nodes p) n (not_is (is_among n called) parts.1)))

  name_is : (n : ℕ) (f : PlainFunction) (v : Violation) → slice_get p.functions n ≡ Some f → Contains (on_names n f) v → Breaks p v
  name_is n f v at in' =
      let found = in_pieces (declaration_violations (file_names p) n) (declarations_of_function p.objects f) v in' in
      let h = row_is 5 (hides (file_names p) n found.0) found.0.declares.span v found.2 in
      subst (Breaks p) h.1 (name_hidden n f found.0 at found.1 (hiding_is (file_names p) n found.0 h.0))

  jump_is : (f : PlainFunction) (v : Violation) → Contains p.functions f → Contains (on_jumps f) v → Breaks p v
  jump_is f v held in' =
      let found = in_pieces block_violations (blocks_of f) v in' in
      let h = item_is found.0.labelled 0 found.0.items v found.2 in
      subst (Breaks p) h.2 (after_jump f found.0 h.0 held found.1 h.1)

  end_is : (n : ℕ) (f : PlainFunction) (v : Violation) → slice_get p.functions n ≡ Some f → Contains (on_end n f) v → Breaks p v
  end_is n f v at in' =
      let h = row_is 8 (lacks_return p.main n f) f.span v in' in
      let first = and_parts (not (n == p.main)) (not (is_void f.result) && reach_end f.body) h.0 in
      let second = and_parts (not (is_void f.result)) (reach_end f.body) first.1 in
      subst (Breaks p) h.1 (end_reached n f at (other_number n p.main first.0) (not_is (is_void f.result) second.0) second.1)

  function_is : (n : ℕ) (f : PlainFunction) (v : Violation) → slice_get p.functions n ≡ Some f → Contains (function_violations (file_names p) p.main called n f) v → Breaks p v
  function_is n f v at in' =
      elim (Contains-append_cases (on_variables f) (on_calls n f ++ (on_names n f ++ (on_jumps f ++ on_end n f))) v in') [
        | inl in' ↦ variable_is n f v (held_at p.functions n f at) in'
        | inr in' ↦ elim (Contains-append_cases (on_calls n f) (on_names n f ++ (on_jumps f ++ on_end n f)) v in') [
          | inl in' ↦ call_is n f v at in'
          | inr in' ↦ elim (Contains-append_cases (on_names n f) (on_jumps f ++ on_end n f) v in') [
            | inl in' ↦ name_is n f v at in'
            | inr in' ↦ elim (Contains-append_cases (on_jumps f) (on_end n f) v in') [
              | inl in' ↦ jump_is f v (held_at p.functions n f at) in'
              | inr in' ↦ end_is n f v at in'
            ]
          ]
        ]
      ]

  pub functions_are : (v : Violation) → Contains (functions_violations (file_names p) p.main called 0 p.functions) v → Breaks p v
  functions_are v in' =
      let h = function_at_is (file_names p) p.main called 0 p.functions v in' in
      let same : 0 + h.0 ≡ h.0 = omega arith in
      function_is h.0 h.1 v h.2 (numbered (file_names p) p.main called h.1 (0 + h.0) h.0 v same h.3)

  in_function : (n : ℕ) (f : PlainFunction) (v : Violation) → slice_get p.functions n ≡ Some f → Contains (function_violations (file_names p) p.main called n f) v
      → Contains (functions_violations (file_names p) p.main called 0 p.functions) v
  in_function n f v at held = is_function_at (file_names p) p.main called 0 p.functions n f v at (numbered (file_names p) p.main called f n (0 + n) v (omega arith) held)

  on_variables_in : (n : ℕ) (f : PlainFunction) (v : Violation) → Contains (on_variables f) v → Contains (function_violations (file_names p) p.main called n f) v
  on_variables_in n f v held = Contains-append_left (on_variables f) (on_calls n f ++ (on_names n f ++ (on_jumps f ++ on_end n f))) v held

  after_variables : (n : ℕ) (f : PlainFunction) (v : Violation) → Contains (on_calls n f ++ (on_names n f ++ (on_jumps f ++ on_end n f))) v → Contains (function_violations (file_names p) p.main called n f) v
  after_variables n f v held = Contains-append_right (on_variables f) (on_calls n f ++ (on_names n f ++ (on_jumps f ++ on_end n f))) v held

  after_calls : (n : ℕ) (f : PlainFunction) (v : Violation) → Contains (on_names n f ++ (on_jumps f ++ on_end n f)) v → Contains (function_violations (file_names p) p.main called n f) v
  after_calls n f v held = after_variables n f v (Contains-append_right (on_calls n f) (on_names n f ++ (on_jumps f ++ on_end n f)) v held)

  after_names : (n : ℕ) (f : PlainFunction) (v : Violation) → Contains (on_jumps f ++ on_end n f) v → Contains (function_violations (file_names p) p.main called n f) v
  after_names n f v held = after_calls n f v (Contains-append_right (on_names n f) (on_jumps f ++ on_end n f) v held)

  pub is_variable : (f : PlainFunction) (n : ℕ) (w : PlainVariable) → Contains p.functions f → slice_get f.variables n ≡ Some w → (HasNaming named_variable (nodes_of_statements f.body) n → ⊥)
      → Contains (functions_violations (file_names p) p.main called 0 p.functions) (row_at 1 w.span)
  is_variable f n w held at unnamed =
      let place = place_of_held p.functions f held in
      let named = filter_map named_variable (nodes_of_statements f.body) in
      let same : n ≡ 0 + n = omega arith in
      in_function place.0 f (row_at 1 w.span) place.1 (on_variables_in place.0 f (row_at 1 w.span)
      (is_unused_variable named 0 f.variables n w at (ap (λ k. is_among k named) (sym same) ∙ is_unnamed named_variable (nodes_of_statements f.body) n unnamed)))

  pub is_call : (n : ℕ) (f : PlainFunction) → slice_get p.functions n ≡ Some f → f.static ≡ true → (HasNaming called_function (all_nodes p) n → ⊥)
      → Contains (functions_violations (file_names p) p.main called 0 p.functions) (row_at 2 f.span)
  is_call n f at static uncalled =
      in_function n f (row_at 2 f.span) at (after_variables n f (row_at 2 f.span) (Contains-append_left (on_calls n f) (on_names n f ++ (on_jumps f ++ on_end n f)) (row_at 2 f.span)
      (is_row 2 (f.static && not (is_among n called)) f.span (both f.static (not (is_among n called)) static (is_not (is_among n called) (is_unnamed called_function (all_nodes p) n uncalled))))))

  pub is_name : (n : ℕ) (f : PlainFunction) (d : ScopedDeclaration) → slice_get p.functions n ≡ Some f → Contains (declarations_of_function p.objects f) d → Hides (file_names p) n d
      → Contains (functions_violations (file_names p) p.main called 0 p.functions) (row_at 5 d.declares.span)
  is_name n f d at held hidden =
      in_function n f (row_at 5 d.declares.span) at (after_calls n f (row_at 5 d.declares.span) (Contains-append_left (on_names n f) (on_jumps f ++ on_end n f) (row_at 5 d.declares.span)
      (piece_in (declaration_violations (file_names p) n) (declarations_of_function p.objects f) d (row_at 5 d.declares.span) held
      (is_row 5 (hides (file_names p) n d) d.declares.span (is_hiding (file_names p) n d hidden)))))

  pub is_after_jump : (f : PlainFunction) (b : LabelledBlock) (s : PlainStatement) → Contains p.functions f → Contains (blocks_of f) b → FollowsJump b.labelled 0 b.items s
      → Contains (functions_violations (file_names p) p.main called 0 p.functions) (row_at 7 (statement_at s).span)
  is_after_jump f b s held in' after =
      let place = place_of_held p.functions f held in
      let v = row_at 7 (statement_at s).span in
      in_function place.0 f v place.1 (after_names place.0 f v (Contains-append_left (on_jumps f) (on_end place.0 f) v
      (piece_in block_violations (blocks_of f) b v in' (is_item b.labelled false 0 b.items s after))))

  pub is_end : (n : ℕ) (f : PlainFunction) → slice_get p.functions n ≡ Some f → (n ≡ p.main → ⊥) → is_void f.result ≡ false → reach_end f.body ≡ true
      → Contains (functions_violations (file_names p) p.main called 0 p.functions) (row_at 8 f.span)
  is_end n f at other result reached =
      in_function n f (row_at 8 f.span) at (after_names n f (row_at 8 f.span) (Contains-append_right (on_jumps f) (on_end n f) (row_at 8 f.span)
      (is_row 8 (lacks_return p.main n f) f.span (both (not (n == p.main)) (not (is_void f.result) && reach_end f.body) (is_other_number n p.main other)
      (both (not (is_void f.result)) (reach_end f.body) (is_not (is_void f.result) result) reached)))))
