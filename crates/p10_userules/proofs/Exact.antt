-- The violations that are listed are those of the rows.
use Rattle.std.proofs.Common.{◌≡◌, ℕ, zero, suc, ◌+◌, ◌<◌, List, [], ◌∷◌, ◌++◌, length, map, take, Bool, true, false, not, ◌&&◌, Option, Some, None, option_map, refl, sym, ◌∙◌, ap, subst, arith, inl, inr}
use Rattle.std.specs.Prelude.{◌↔◌, slice_get}
use Rattle.std.specs.List.{Contains, flat_map}
use Rattle.std.proofs.lemmas.Bool.{and_parts}
use Rattle.std.proofs.lemmas.Option.{slice_get_within}
use Rattle.std.proofs.lemmas.List.Elements.{Contains-append_left, Contains-append_right, Contains-append_cases}
use Rattle.p10_base.specs.declared.span.Span.{Span}
use Rattle.p10_base.specs.declared.report.Sub.{Sub}
use Rattle.p10_base.specs.declared.report.Violation.{Violation}
use Rattle.p10_core.specs.Typed.{PlainStatement, PlainStatements, PlainVariable, PlainFunction, PlainObject, PlainProgram, statement_at}
use Rattle.p10_core.specs.Nodes.{PlainNode, a_statement, a_value, a_place, nodes_of_statements}
use Rattle.p10_userules.specs.declared.occurrences.Referent.{Referent}
use Rattle.p10_userules.specs.declared.occurrences.Referent.TheVariants.{Variable, Object}
use Rattle.p10_userules.specs.declared.occurrences.Occurrence.{Occurrence}
use Rattle.p10_userules.specs.declared.parts.Stretch.{Stretch}
use Rattle.p10_userules.specs.declared.parts.BlockParts.{BlockParts}
use Rattle.p10_userules.specs.declared.spreads.Spread.{Spread}
use Rattle.p10_userules.specs.declared.spreads.Kind.TheVariants.{Variables, Objects}
use Rattle.p10_userules.specs.Occurrences.{occurrences_in_statements, occurrences_in_function, occurrences_in_program, first_checked}
use Rattle.p10_userules.specs.Blocks.{blocks_of}
use Rattle.p10_userules.specs.Violations.{row, is_truth, drops_result, IsUsedOnlyIn, IsTooWide, Violates, wide_object, wide_variable, wide_static, dropped_result, unchecked_parameter}
use Rattle.p10_userules.specs.private.Spreads.{spread_of, spreads_from, lies_in_one}
use Rattle.p10_userules.specs.private.Outermost.{outermost_among}
use Rattle.p10_userules.specs.private.Laid.{AllStand, IsBlock, IsFunction, AreFunctions}
use Rattle.p10_userules.specs.private.Listing.{violation_where, violation_at, is_at_file_scope, wide_objects, flattened, spread_for, name_of, FunctionUses, wide_in, wide_in_block, dropped_by, starts_unchecked, unchecked_among, variable_spreads, listed_in_function, listed_in_functions}
use Rattle.p10_userules.proofs.Standing.{all_wider}
use Rattle.p10_userules.proofs.Spreading.{first_is}
use Rattle.p10_userules.proofs.Noting.{at_number}
use Rattle.p10_userules.proofs.Members.{none_in, here, there, first_or_later, mapped, from_mapped, in_pieces, piece_in, at_place, row_is, is_row}
use Rattle.p10_userules.proofs.Laying.{part_is}
use Rattle.p10_userules.proofs.Lying.{lies_part, part_lies, functions_stand, block_for, items_for, outermost_all_reached, in_outermost}

-- ## Tests

both : (a b : Bool) → a ≡ true → b ≡ true → (a && b) ≡ true
both true true e f = refl
both true false e f = absurd cc
both false b e f = absurd cc

not_is : (b : Bool) → not b ≡ true → b ≡ false
not_is true e = absurd cc
not_is false e = refl

is_not : (b : Bool) → b ≡ false → not b ≡ true
is_not true e = absurd cc
is_not false e = refl

absent_is : (o : Option ℕ) → is_at_file_scope o ≡ true → o ≡ None
absent_is None e = refl
absent_is (Some n) e = absurd cc

-- the first occurrence isn't checked
unchecked_is : (s : Option Spread) → starts_unchecked s ≡ true → option_map (λ (e : Spread). e.checked) s ≡ Some false
unchecked_is None e = absurd cc
unchecked_is (Some s) e = ap Some (not_is s.checked e)

is_unchecked : (s : Option Spread) → option_map (λ (e : Spread). e.checked) s ≡ Some false → starts_unchecked s ≡ true
is_unchecked None e = absurd cc
is_unchecked (Some s) e = is_not s.checked (some_same e) where
  some_same : {A : Type 0} {x y : A} → Some x ≡ Some y → x ≡ y
  some_same {x} {y} e = cc

-- ## Objects

-- what a violation of 6.1 comes from
record WideObject (all : List Occurrence) (ts : List Stretch) (from : ℕ) (os : List PlainObject) (v : Violation) : Type 0 where
  number : ℕ
  object : PlainObject
  there : slice_get os number ≡ Some object
  absent : is_at_file_scope object.owner ≡ true
  lies : lies_in_one (spread_of 0 (Object (from + number)) all) ts ≡ true
  is : at_place (row 6 1) object.span ≡ v

wide_objects_are : (all : List Occurrence) (ts : List Stretch) (from : ℕ) (os : List PlainObject) (v : Violation) → Contains (wide_objects ts os (spreads_from from Objects 0 all (length os))) v → WideObject all ts from os v
wide_objects_are all ts from [] v held = absurd (none_in v held)
wide_objects_are all ts from (o ∷ os) v held =
    let first : Bool = is_at_file_scope o.owner && lies_in_one (spread_of 0 (Object from) all) ts in
    elim (Contains-append_cases (violation_where (row 6 1) first o.span) (wide_objects ts os (spreads_from (from + 1) Objects 0 all (length os))) v held) [
      | inl this ↦ let r = row_is (row 6 1) first o.span v this in
          let parts = and_parts (is_at_file_scope o.owner) (lies_in_one (spread_of 0 (Object from) all) ts) r.0 in
          let same : from ≡ from + 0 = omega arith in
          record { number = 0; object = o; there = refl; absent = parts.0; lies = subst (λ n. lies_in_one (spread_of 0 (Object n) all) ts ≡ true) same parts.1; is = r.1 }
      | inr later ↦ let w = wide_objects_are all ts (from + 1) os v later in
          let same : (from + 1) + w.number ≡ from + suc w.number = omega arith in
          record { number = suc w.number; object = w.object; there = w.there; absent = w.absent; lies = subst (λ n. lies_in_one (spread_of 0 (Object n) all) ts ≡ true) same w.lies; is = w.is }
    ]

are_wide_objects : (all : List Occurrence) (ts : List Stretch) (from : ℕ) (os : List PlainObject) (number : ℕ) (o : PlainObject) → slice_get os number ≡ Some o → is_at_file_scope o.owner ≡ true
    → lies_in_one (spread_of 0 (Object (from + number)) all) ts ≡ true → Contains (wide_objects ts os (spreads_from from Objects 0 all (length os))) (at_place (row 6 1) o.span)
are_wide_objects all ts from [] number o is absent lies = absurd (no_some is) where
  no_some : {A : Type 0} {x : A} → None ≡ Some x → ⊥
  no_some e = cc
are_wide_objects all ts from (q ∷ os) zero o is absent lies =
    let same : from + 0 ≡ from = omega arith in
    let this : q ≡ o = some_same is in
    let lies' : lies_in_one (spread_of 0 (Object from) all) ts ≡ true = subst (λ n. lies_in_one (spread_of 0 (Object n) all) ts ≡ true) same lies in
    let absent' : is_at_file_scope q.owner ≡ true = subst (λ (x : PlainObject). is_at_file_scope x.owner ≡ true) (sym this) absent in
    subst (λ (x : PlainObject). Contains (wide_objects ts (q ∷ os) (spreads_from from Objects 0 all (length (q ∷ os)))) (at_place (row 6 1) x.span)) this
    (Contains-append_left (violation_where (row 6 1) (is_at_file_scope q.owner && lies_in_one (spread_of 0 (Object from) all) ts) q.span) (wide_objects ts os (spreads_from (from + 1) Objects 0 all (length os))) (at_place (row 6 1) q.span)
    (is_row (row 6 1) (is_at_file_scope q.owner && lies_in_one (spread_of 0 (Object from) all) ts) q.span (both (is_at_file_scope q.owner) (lies_in_one (spread_of 0 (Object from) all) ts) absent' lies'))) where
      some_same : {A : Type 0} {x y : A} → Some x ≡ Some y → x ≡ y
      some_same {x} {y} e = cc
are_wide_objects all ts from (q ∷ os) (suc number) o is absent lies =
    let same : from + suc number ≡ (from + 1) + number = omega arith in
    Contains-append_right (violation_where (row 6 1) (is_at_file_scope q.owner && lies_in_one (spread_of 0 (Object from) all) ts) q.span) (wide_objects ts os (spreads_from (from + 1) Objects 0 all (length os))) (at_place (row 6 1) o.span)
    (are_wide_objects all ts (from + 1) os number o is absent (subst (λ n. lies_in_one (spread_of 0 (Object n) all) ts ≡ true) same lies))

-- ## Parameters

record UncheckedParameter (start : ℕ) (os : List Occurrence) (from count : ℕ) (vs : List PlainVariable) (v : Violation) : Type 0 where
  number : ℕ
  variable : PlainVariable
  below : number < count
  there : slice_get vs number ≡ Some variable
  truth : is_truth variable.type ≡ false
  first : first_checked (Variable (from + number)) os ≡ Some false
  is : at_place (row 7 2) variable.span ≡ v

unchecked_are : (start : ℕ) (os : List Occurrence) (from count : ℕ) (vs : List PlainVariable) (v : Violation) → Contains (unchecked_among (take count vs) (spreads_from from Variables start os (length vs))) v → UncheckedParameter start os from count vs v
unchecked_are start os from zero vs v held = absurd (none_in v held)
unchecked_are start os from (suc count) [] v held = absurd (none_in v held)
unchecked_are start os from (suc count) (x ∷ vs) v held =
    let spread : Option Spread = spread_of start (Variable from) os in
    let holds : Bool = not (is_truth x.type) && starts_unchecked spread in
    elim (Contains-append_cases (violation_where (row 7 2) holds x.span) (unchecked_among (take count vs) (spreads_from (from + 1) Variables start os (length vs))) v held) [
      | inl this ↦ let r = row_is (row 7 2) holds x.span v this in
          let parts = and_parts (not (is_truth x.type)) (starts_unchecked spread) r.0 in
          let same : from ≡ from + 0 = omega arith in
          let first : first_checked (Variable from) os ≡ Some false = sym (first_is start (Variable from) os) ∙ unchecked_is spread parts.1 in
          record { number = 0; variable = x; below = omega arith; there = refl; truth = not_is (is_truth x.type) parts.0; first = subst (λ n. first_checked (Variable n) os ≡ Some false) same first; is = r.1 }
      | inr later ↦ let u = unchecked_are start os (from + 1) count vs v later in
          let same : (from + 1) + u.number ≡ from + suc u.number = omega arith in
          record { number = suc u.number; variable = u.variable; below = omega (arith, u.below); there = u.there; truth = u.truth; first = subst (λ n. first_checked (Variable n) os ≡ Some false) same u.first; is = u.is }
    ]

are_unchecked : (start : ℕ) (os : List Occurrence) (from count : ℕ) (vs : List PlainVariable) (number : ℕ) (x : PlainVariable) → number < count → slice_get vs number ≡ Some x → is_truth x.type ≡ false → first_checked (Variable (from + number)) os ≡ Some false
    → Contains (unchecked_among (take count vs) (spreads_from from Variables start os (length vs))) (at_place (row 7 2) x.span)
are_unchecked start os from zero vs number x below is truth first = absurd (omega (arith, below))
are_unchecked start os from (suc count) [] number x below is truth first = absurd (no_some is) where
  no_some : {A : Type 0} {x : A} → None ≡ Some x → ⊥
  no_some e = cc
are_unchecked start os from (suc count) (y ∷ vs) zero x below is truth first =
    let same : from + 0 ≡ from = omega arith in
    let this : y ≡ x = some_same is in
    let spread : Option Spread = spread_of start (Variable from) os in
    let holds : Bool = not (is_truth y.type) && starts_unchecked spread in
    let at : option_map (λ (e : Spread). e.checked) spread ≡ Some false = first_is start (Variable from) os ∙ subst (λ n. first_checked (Variable n) os ≡ Some false) same first in
    let truth' : is_truth y.type ≡ false = subst (λ (z : PlainVariable). is_truth z.type ≡ false) (sym this) truth in
    subst (λ (z : PlainVariable). Contains (unchecked_among (take (suc count) (y ∷ vs)) (spreads_from from Variables start os (length (y ∷ vs)))) (at_place (row 7 2) z.span)) this
    (Contains-append_left (violation_where (row 7 2) holds y.span) (unchecked_among (take count vs) (spreads_from (from + 1) Variables start os (length vs))) (at_place (row 7 2) y.span)
    (is_row (row 7 2) holds y.span (both (not (is_truth y.type)) (starts_unchecked spread) (is_not (is_truth y.type) truth') (is_unchecked spread at)))) where
      some_same : {A : Type 0} {x y : A} → Some x ≡ Some y → x ≡ y
      some_same {x} {y} e = cc
are_unchecked start os from (suc count) (y ∷ vs) (suc number) x below is truth first =
    let same : from + suc number ≡ (from + 1) + number = omega arith in
    Contains-append_right (violation_where (row 7 2) (not (is_truth y.type) && starts_unchecked (spread_of start (Variable from) os)) y.span) (unchecked_among (take count vs) (spreads_from (from + 1) Variables start os (length vs))) (at_place (row 7 2) x.span)
    (are_unchecked start os (from + 1) count vs number x (omega (arith, below)) is truth (subst (λ n. first_checked (Variable n) os ≡ Some false) same first))

-- ## Results

dropped_are : (node : PlainNode) (v : Violation) → Contains (dropped_by node) v → (s : PlainStatement) × (node ≡ a_statement s) × (drops_result s ≡ true) × (at_place (row 7 1) (statement_at s).span ≡ v)
dropped_are (a_statement s) v held = let r = row_is (row 7 1) (drops_result s) (statement_at s).span v held in (s, refl, r.0, r.1)
dropped_are (a_value x) v held = absurd (none_in v held)
dropped_are (a_place x) v held = absurd (none_in v held)

-- ## Blocks

module _ (p : PlainProgram) (f : PlainFunction) (in' : Contains p.functions f) (t : Stretch) (bs : List BlockParts) (is : IsFunction p.objects (occurrences_in_program p) f t bs) where
  abbrev all : List Occurrence
  all = occurrences_in_program p

  abbrev own : List Occurrence
  own = occurrences_in_function p f

  abbrev spreads : List (Option Spread)
  spreads = spreads_from 0 Objects 0 all (length p.objects)

  abbrev known : FunctionUses
  known = record { function = f; variables = variable_spreads all f t; objects = p.objects; object_spreads = spreads }

  abbrev seen : PlainStatements → List Occurrence
  seen = occurrences_in_statements p.objects

  variables_are : variable_spreads all f t ≡ spreads_from 0 Variables t.start own (length f.variables)
  variables_are = ap (λ l. spreads_from 0 Variables t.start l (length f.variables)) (part_is all t own is.stands)

  at_variable : (n : ℕ) (v : PlainVariable) → slice_get f.variables n ≡ Some v → spread_for (variable_spreads all f t) spreads (Variable n) ≡ spread_of t.start (Variable n) own
  at_variable n v there =
      let zero_more : 0 + n ≡ n = omega arith in
      ap (λ l. flattened (slice_get l n)) variables_are
      ∙ ap flattened (at_number 0 Variables t.start own (length f.variables) n (slice_get_within f.variables n v there))
      ∙ ap (λ k. spread_of t.start (Variable k) own) zero_more

  at_object : (n : ℕ) (o : PlainObject) → slice_get p.objects n ≡ Some o → spread_for (variable_spreads all f t) spreads (Object n) ≡ spread_of 0 (Object n) all
  at_object n o there =
      let zero_more : 0 + n ≡ n = omega arith in
      ap flattened (at_number 0 Objects 0 all (length p.objects) n (slice_get_within p.objects n o there))
      ∙ ap (λ k. spread_of 0 (Object k) all) zero_more

  -- the nested blocks stand in the whole program too
  everywhere : (b : BlockParts) (items : PlainStatements) → IsBlock p.objects t.start own b items → AllStand 0 all b.nested (map seen (outermost_among items))
  everywhere b items i =
      subst (λ l. AllStand 0 l b.nested (map seen (outermost_among items))) (sym is.stands.is)
      (all_wider 0 is.stands.front own is.stands.back t.start b.nested (map seen (outermost_among items)) is.stands.starts i.stand)

  too_wide : (b : BlockParts) (items : PlainStatements) (x : Referent) (start : ℕ) (os : List Occurrence) → Contains (blocks_of f) items → IsBlock p.objects t.start own b items → Contains b.declared x
      → AllStand start os b.nested (map seen (outermost_among items)) → lies_in_one (spread_of start x os) b.nested ≡ true → IsTooWide p.objects f x os
  too_wide b items x start os block i declared stand lies =
      let found = lies_part start os x b.nested (map seen (outermost_among items)) stand lies in
      let inner = from_mapped seen (outermost_among items) found.0 found.1 in
      record {
        outer = items;
        is_block = block;
        declared = subst (λ l. Contains l x) i.declared declared;
        inner = inner.0;
        is_reached = outermost_all_reached items inner.0 inner.1;
        only = subst (λ l. IsUsedOnlyIn x l os) (sym inner.2) found.2;
      }

  abbrev Breaks : Violation → Type 0
  Breaks v = Violates p v.sub v.span

  wide_variable_is : (b : BlockParts) (items : PlainStatements) (n : ℕ) (v : Violation) → Contains (blocks_of f) items → IsBlock p.objects t.start own b items → Contains b.declared (Variable n)
      → (o : Option PlainVariable) → slice_get f.variables n ≡ o → Contains (violation_at (row 6 2) (lies_in_one (spread_for (variable_spreads all f t) spreads (Variable n)) b.nested) (option_map (λ v. v.span) o)) v → Breaks v
  wide_variable_is b items n v block i declared None there held = absurd (none_in v held)
  wide_variable_is b items n v block i declared (Some x) there held =
      let r = row_is (row 6 2) (lies_in_one (spread_for (variable_spreads all f t) spreads (Variable n)) b.nested) x.span v held in
      let lies : lies_in_one (spread_of t.start (Variable n) own) b.nested ≡ true = subst (λ s. lies_in_one s b.nested ≡ true) (at_variable n x there) r.0 in
      subst Breaks r.1 (wide_variable f n x in' there (too_wide b items (Variable n) t.start own block i declared i.stand lies))

  wide_static_is : (b : BlockParts) (items : PlainStatements) (n : ℕ) (v : Violation) → Contains (blocks_of f) items → IsBlock p.objects t.start own b items → Contains b.declared (Object n)
      → (o : Option PlainObject) → slice_get p.objects n ≡ o → Contains (violation_at (row 6 2) (lies_in_one (spread_for (variable_spreads all f t) spreads (Object n)) b.nested) (option_map (λ o. o.span) o)) v → Breaks v
  wide_static_is b items n v block i declared None there held = absurd (none_in v held)
  wide_static_is b items n v block i declared (Some x) there held =
      let r = row_is (row 6 2) (lies_in_one (spread_for (variable_spreads all f t) spreads (Object n)) b.nested) x.span v held in
      let lies : lies_in_one (spread_of 0 (Object n) all) b.nested ≡ true = subst (λ s. lies_in_one s b.nested ≡ true) (at_object n x there) r.0 in
      subst Breaks r.1 (wide_static f n x in' there (too_wide b items (Object n) 0 all block i declared (everywhere b items i) lies))

  wide_is : (b : BlockParts) (items : PlainStatements) (x : Referent) (v : Violation) → Contains (blocks_of f) items → IsBlock p.objects t.start own b items → Contains b.declared x → Contains (wide_in known b.nested x) v → Breaks v
  wide_is b items (Variable n) v block i declared held = wide_variable_is b items n v block i declared (slice_get f.variables n) refl held
  wide_is b items (Object n) v block i declared held = wide_static_is b items n v block i declared (slice_get p.objects n) refl held

  blocks_are : (v : Violation) → Contains (flat_map (wide_in_block known) bs) v → Breaks v
  blocks_are v held =
      let block = in_pieces (wide_in_block known) bs v held in
      let items = items_for p.objects t.start own bs (blocks_of f) block.0 is.are block.1 in
      let thing = in_pieces (wide_in known block.0.nested) block.0.declared v block.2 in
      wide_is block.0 items.0 thing.0 v items.1 items.2 thing.1 thing.2

  results_are : (v : Violation) → Contains (flat_map dropped_by (nodes_of_statements f.body)) v → Breaks v
  results_are v held =
      let node = in_pieces dropped_by (nodes_of_statements f.body) v held in
      let d = dropped_are node.0 v node.2 in
      subst Breaks d.3 (dropped_result f d.0 in' (subst (Contains (nodes_of_statements f.body)) d.1 node.1) d.2)

  parameters_are : (v : Violation) → Contains (unchecked_among (take f.parameters f.variables) (variable_spreads all f t)) v → Breaks v
  parameters_are v held =
      let u = unchecked_are t.start own 0 f.parameters f.variables v (subst (λ l. Contains (unchecked_among (take f.parameters f.variables) l) v) variables_are held) in
      let zero_more : 0 + u.number ≡ u.number = omega arith in
      subst Breaks u.is (unchecked_parameter f u.number u.variable in' u.below u.there u.truth (subst (λ n. first_checked (Variable n) own ≡ Some false) zero_more u.first))

  pub function_is : (v : Violation) → Contains (listed_in_function p.objects spreads all f t bs) v → Breaks v
  function_is v held =
      elim (Contains-append_cases (flat_map (wide_in_block known) bs) (flat_map dropped_by (nodes_of_statements f.body) ++ unchecked_among (take f.parameters f.variables) (variable_spreads all f t)) v held) [
        | inl wide ↦ blocks_are v wide
        | inr other ↦ elim (Contains-append_cases (flat_map dropped_by (nodes_of_statements f.body)) (unchecked_among (take f.parameters f.variables) (variable_spreads all f t)) v other) [
          | inl dropped ↦ results_are v dropped
          | inr unchecked ↦ parameters_are v unchecked
        ]
      ]

  -- ## Back

  abbrev listed : List Violation
  listed = listed_in_function p.objects spreads all f t bs

  in_blocks : (v : Violation) → Contains (flat_map (wide_in_block known) bs) v → Contains listed v
  in_blocks v held = Contains-append_left (flat_map (wide_in_block known) bs) (flat_map dropped_by (nodes_of_statements f.body) ++ unchecked_among (take f.parameters f.variables) (variable_spreads all f t)) v held

  in_rest : (v : Violation) → Contains (flat_map dropped_by (nodes_of_statements f.body) ++ unchecked_among (take f.parameters f.variables) (variable_spreads all f t)) v → Contains listed v
  in_rest v held = Contains-append_right (flat_map (wide_in_block known) bs) (flat_map dropped_by (nodes_of_statements f.body) ++ unchecked_among (take f.parameters f.variables) (variable_spreads all f t)) v held

  in_block : (x : Referent) (span : Span) (b : BlockParts) → Contains bs b → Contains b.declared x → lies_in_one (spread_for (variable_spreads all f t) spreads x) b.nested ≡ true → name_of f p.objects x ≡ Some span
      → Contains listed (at_place (row 6 2) span)
  in_block x span b held declared lies named =
      in_blocks (at_place (row 6 2) span)
      (piece_in (wide_in_block known) bs b (at_place (row 6 2) span) held
      (piece_in (wide_in known b.nested) b.declared x (at_place (row 6 2) span) declared
      (subst (λ o. Contains (violation_at (row 6 2) (lies_in_one (spread_for (variable_spreads all f t) spreads x) b.nested) o) (at_place (row 6 2) span)) (sym named)
      (is_row (row 6 2) (lies_in_one (spread_for (variable_spreads all f t) spreads x) b.nested) span lies))))

  pub variable_listed : (n : ℕ) (v : PlainVariable) → slice_get f.variables n ≡ Some v → IsTooWide p.objects f (Variable n) own → Contains listed (at_place (row 6 2) v.span)
  variable_listed n v there w =
      let b = block_for p.objects t.start own bs (blocks_of f) w.outer is.are w.is_block in
      let lies : lies_in_one (spread_of t.start (Variable n) own) b.0.nested ≡ true = in_outermost p.objects t.start own (Variable n) b.0.nested w.outer w.inner b.2.stand w.is_reached w.only in
      in_block (Variable n) v.span b.0 b.1 (subst (λ l. Contains l (Variable n)) (sym b.2.declared) w.declared)
      (subst (λ s. lies_in_one s b.0.nested ≡ true) (sym (at_variable n v there)) lies) (ap (option_map (λ (v : PlainVariable). v.span)) there)

  pub static_listed : (n : ℕ) (o : PlainObject) → slice_get p.objects n ≡ Some o → IsTooWide p.objects f (Object n) all → Contains listed (at_place (row 6 2) o.span)
  static_listed n o there w =
      let b = block_for p.objects t.start own bs (blocks_of f) w.outer is.are w.is_block in
      let lies : lies_in_one (spread_of 0 (Object n) all) b.0.nested ≡ true = in_outermost p.objects 0 all (Object n) b.0.nested w.outer w.inner (everywhere b.0 w.outer b.2) w.is_reached w.only in
      in_block (Object n) o.span b.0 b.1 (subst (λ l. Contains l (Object n)) (sym b.2.declared) w.declared)
      (subst (λ s. lies_in_one s b.0.nested ≡ true) (sym (at_object n o there)) lies) (ap (option_map (λ (o : PlainObject). o.span)) there)

  pub result_listed : (s : PlainStatement) → Contains (nodes_of_statements f.body) (a_statement s) → drops_result s ≡ true → Contains listed (at_place (row 7 1) (statement_at s).span)
  result_listed s held drops =
      in_rest (at_place (row 7 1) (statement_at s).span)
      (Contains-append_left (flat_map dropped_by (nodes_of_statements f.body)) (unchecked_among (take f.parameters f.variables) (variable_spreads all f t)) (at_place (row 7 1) (statement_at s).span)
      (piece_in dropped_by (nodes_of_statements f.body) (a_statement s) (at_place (row 7 1) (statement_at s).span) held (is_row (row 7 1) (drops_result s) (statement_at s).span drops)))

  pub parameter_listed : (n : ℕ) (v : PlainVariable) → n < f.parameters → slice_get f.variables n ≡ Some v → is_truth v.type ≡ false → first_checked (Variable n) own ≡ Some false → Contains listed (at_place (row 7 2) v.span)
  parameter_listed n v below there truth first =
      let zero_more : n ≡ 0 + n = omega arith in
      in_rest (at_place (row 7 2) v.span)
      (Contains-append_right (flat_map dropped_by (nodes_of_statements f.body)) (unchecked_among (take f.parameters f.variables) (variable_spreads all f t)) (at_place (row 7 2) v.span)
      (subst (λ l. Contains (unchecked_among (take f.parameters f.variables) l) (at_place (row 7 2) v.span)) (sym variables_are)
      (are_unchecked t.start own 0 f.parameters f.variables n v below there truth (subst (λ k. first_checked (Variable k) own ≡ Some false) zero_more first))))

-- ## Functions

-- what is listed in functions violates a row
functions_in : (p : PlainProgram) (fs : List PlainFunction) (ts : List Stretch) (bs : List (List BlockParts)) → ((f : PlainFunction) → Contains fs f → Contains p.functions f) → AreFunctions p.objects (occurrences_in_program p) fs ts bs
    → (v : Violation) → Contains (listed_in_functions p.objects (spreads_from 0 Objects 0 (occurrences_in_program p) (length p.objects)) (occurrences_in_program p) fs ts bs) v → Violates p v.sub v.span
functions_in p [] ts bs in' are v held = absurd (none_in v held)
functions_in p (f ∷ fs) [] bs in' are v held = absurd are
functions_in p (f ∷ fs) (t ∷ ts) [] in' are v held = absurd are
functions_in p (f ∷ fs) (t ∷ ts) (b ∷ bs) in' (this, rest) v held =
    let spreads : List (Option Spread) = spreads_from 0 Objects 0 (occurrences_in_program p) (length p.objects) in
    elim (Contains-append_cases (listed_in_function p.objects spreads (occurrences_in_program p) f t b) (listed_in_functions p.objects spreads (occurrences_in_program p) fs ts bs) v held) [
      | inl first ↦ function_is p f (in' f (here f fs)) t b this v first
      | inr later ↦ functions_in p fs ts bs (λ g h. in' g (there f fs g h)) rest v later
    ]

-- what is listed in one of the functions is listed in all
in_functions : (p : PlainProgram) (fs : List PlainFunction) (ts : List Stretch) (bs : List (List BlockParts)) → AreFunctions p.objects (occurrences_in_program p) fs ts bs → (f : PlainFunction) → Contains fs f → (v : Violation)
    → ((t : Stretch) (b : List BlockParts) → IsFunction p.objects (occurrences_in_program p) f t b → Contains (listed_in_function p.objects (spreads_from 0 Objects 0 (occurrences_in_program p) (length p.objects)) (occurrences_in_program p) f t b) v)
    → Contains (listed_in_functions p.objects (spreads_from 0 Objects 0 (occurrences_in_program p) (length p.objects)) (occurrences_in_program p) fs ts bs) v
in_functions p [] ts bs are f held v go = absurd (none_in f held)
in_functions p (g ∷ fs) [] bs are f held v go = absurd are
in_functions p (g ∷ fs) (t ∷ ts) [] are f held v go = absurd are
in_functions p (g ∷ fs) (t ∷ ts) (b ∷ bs) (this, rest) f held v go =
    let spreads : List (Option Spread) = spreads_from 0 Objects 0 (occurrences_in_program p) (length p.objects) in
    let all : List Occurrence = occurrences_in_program p in
    elim (first_or_later g fs f held) [
      | inl same ↦ Contains-append_left (listed_in_function p.objects spreads all g t b) (listed_in_functions p.objects spreads all fs ts bs) v
          (subst (λ h. Contains (listed_in_function p.objects spreads all h t b) v) (sym same) (go t b (subst (λ h. IsFunction p.objects all h t b) same this)))
      | inr later ↦ Contains-append_right (listed_in_function p.objects spreads all g t b) (listed_in_functions p.objects spreads all fs ts bs) v (in_functions p fs ts bs rest f later v go)
    ]

-- ## All together

module _ (p : PlainProgram) (ts : List Stretch) (bs : List (List BlockParts)) (are : AreFunctions p.objects (occurrences_in_program p) p.functions ts bs) where
  abbrev uses : List Occurrence
  uses = occurrences_in_program p

  abbrev objects_lie : List (Option Spread)
  objects_lie = spreads_from 0 Objects 0 uses (length p.objects)

  abbrev every : List Violation
  every = wide_objects ts p.objects objects_lie ++ listed_in_functions p.objects objects_lie uses p.functions ts bs

  objects_are : (v : Violation) → Contains (wide_objects ts p.objects objects_lie) v → Violates p v.sub v.span
  objects_are v held =
      let w = wide_objects_are uses ts 0 p.objects v held in
      let zero_more : 0 + w.number ≡ w.number = omega arith in
      let lies : lies_in_one (spread_of 0 (Object w.number) uses) ts ≡ true = subst (λ n. lies_in_one (spread_of 0 (Object n) uses) ts ≡ true) zero_more w.lies in
      let part = lies_part 0 uses (Object w.number) ts (map (occurrences_in_function p) p.functions) (functions_stand p.objects uses p.functions ts bs are) lies in
      let f = from_mapped (occurrences_in_function p) p.functions part.0 part.1 in
      subst (λ (v : Violation). Violates p v.sub v.span) w.is
      (wide_object w.number w.object f.0 w.there (absent_is w.object.owner w.absent) f.1 (subst (λ l. IsUsedOnlyIn (Object w.number) l uses) (sym f.2) part.2))

  is_violation : (v : Violation) → Contains every v → Violates p v.sub v.span
  is_violation v held =
      elim (Contains-append_cases (wide_objects ts p.objects objects_lie) (listed_in_functions p.objects objects_lie uses p.functions ts bs) v held) [
        | inl wide ↦ objects_are v wide
        | inr other ↦ functions_in p p.functions ts bs (λ f h. h) are v other
      ]

  of_function : (f : PlainFunction) → Contains p.functions f → (v : Violation) → ((t : Stretch) (b : List BlockParts) → IsFunction p.objects uses f t b → Contains (listed_in_function p.objects objects_lie uses f t b) v) → Contains every v
  of_function f held v go = Contains-append_right (wide_objects ts p.objects objects_lie) (listed_in_functions p.objects objects_lie uses p.functions ts bs) v (in_functions p p.functions ts bs are f held v go)

  is_listed : (sub : Sub) (span : Span) → Violates p sub span → Contains every (at_place sub span)
  is_listed _ _ (wide_object n o f there absent held only) =
      let zero_more : n ≡ 0 + n = omega arith in
      let lies : lies_in_one (spread_of 0 (Object n) uses) ts ≡ true =
      part_lies 0 uses (Object n) ts (map (occurrences_in_function p) p.functions) (occurrences_in_function p f) (functions_stand p.objects uses p.functions ts bs are) (mapped (occurrences_in_function p) p.functions f held) only in
      Contains-append_left (wide_objects ts p.objects objects_lie) (listed_in_functions p.objects objects_lie uses p.functions ts bs) (at_place (row 6 1) o.span)
      (are_wide_objects uses ts 0 p.objects n o there (ap is_at_file_scope absent) (subst (λ k. lies_in_one (spread_of 0 (Object k) uses) ts ≡ true) zero_more lies))
  is_listed _ _ (wide_variable f n v held there wide) = of_function f held (at_place (row 6 2) v.span) (λ t b is. variable_listed p f held t b is n v there wide)
  is_listed _ _ (wide_static f n o held there wide) = of_function f held (at_place (row 6 2) o.span) (λ t b is. static_listed p f held t b is n o there wide)
  is_listed _ _ (dropped_result f s held node drops) = of_function f held (at_place (row 7 1) (statement_at s).span) (λ t b is. result_listed p f held t b is s node drops)
  is_listed _ _ (unchecked_parameter f n v held below there truth first) = of_function f held (at_place (row 7 2) v.span) (λ t b is. parameter_listed p f held t b is n v below there truth first)

  pub exact : (found : List Violation) → found ≡ every → (v : Violation) → Contains found v ↔ Violates p v.sub v.span
  exact found e v = (
    (λ held. is_violation v (subst (λ l. Contains l v) e held)),
    (λ violates. subst (λ l. Contains l v) (sym e) (is_listed v.sub v.span violates)),
  )
