-- An initialiser that doesn't name its variable is whole where the variable isn't in scope yet.
use Rattle.std.proofs.Common.{◌≡◌, ℕ, Bool, true, false, List, [], ◌∷◌, ◌++◌, refl, ◌∙◌, ap, sym, Option, Some, None, slice_get, drop, ◌+◌}
use Rattle.std.specs.Prelude.{◌||◌, nat_eq, if◌then◌else◌}
use Rattle.std.specs.Option.{option_map}
use Rattle.p10_core.specs.declared.typed.Library.{Library}
use Rattle.p10_core.specs.declared.typed.Library.TheVariants.{Assert, CAssert, Getchar, Putchar, Malloc, Calloc, Free}
use Rattle.p10_core.specs.Types.{PlainType}
use Rattle.p10_core.specs.Nodes.{PlainNode, nodes_of_value, nodes_of_values, nodes_of_place, nodes_of_written, nodes_of_items, nodes_of_initializer}
use Rattle.p10_core.specs.Typed.{PlainValue, value, constant, read, sense, address, decay, convert, cast, unary, binary, logic, conditional, call, built_in, PlainPlace, place, variable, global, literal, index, member, dereference, PlainValues, no_values, more_values, PlainWritten, one_scalar, scalars_of_text, PlainItem, PlainInitializer, not_initialized, single, copied, listed, PlainFunction, PlainProgram}
use Rattle.p10_core.specs.Whole.{Surroundings, SeenVariable, is_frame, is_sensor, form_of, ArgumentsFit, Allocates, CallsLibrary, IsWholeValue, IsWholePlace, AreWholeValues}
use Rattle.p10_core.specs.WholePrograms.{is_among, seen_variable, around, width_of_written, IsWholeWritten, AreWholeItems, IsWholeInitializer}
use Rattle.p10_meaning.specs.Sound.{region_at}
use Rattle.p10_execution.proofs.Numbers.{or_false}
use Rattle.p10_clean.specs.Statements.{is_variable, names_variable}

names_append : (k : ℕ) (xs ys : List PlainNode) → names_variable k (xs ++ ys) ≡ (names_variable k xs || names_variable k ys)
names_append k [] ys = refl
names_append k (x ∷ xs) ys = ap (λ b. is_variable k x || b) (names_append k xs ys) ∙ or_assoc (is_variable k x) (names_variable k xs) (names_variable k ys)
  where
    or_assoc : (a b c : Bool) → (a || (b || c)) ≡ ((a || b) || c)
    or_assoc true b c = refl
    or_assoc false b c = refl

-- what isn't named in two parts isn't in each
unnamed : (k : ℕ) (xs ys : List PlainNode) → names_variable k (xs ++ ys) ≡ false → (names_variable k xs ≡ false) × (names_variable k ys ≡ false)
unnamed k xs ys e = or_false (names_variable k xs) (names_variable k ys) (sym (names_append k xs ys) ∙ e)

module _ (p : PlainProgram) (number : ℕ) (f : PlainFunction) (scope : List ℕ) (k : ℕ) where
  -- round the values of an initialiser, and without its variable
  abbrev inner : Surroundings
  inner = around (region_at p number f (k ∷ scope) false false)

  abbrev outer : Surroundings
  outer = around (region_at p number f scope false false)

  -- ## Variables

  same_variable : (n : ℕ) → nat_eq n k ≡ false → inner.variable_at n ≡ outer.variable_at n
  same_variable n e = ap (λ b. if b || is_among n scope then option_map seen_variable (slice_get f.variables n) else None) e

  same_frame : (q : PlainPlace) → names_variable k (nodes_of_place q) ≡ false → is_frame inner (form_of q) ≡ is_frame outer (form_of q)
  same_frame (place at t (variable n)) e = ap (λ o. frame_of o) (same_variable n (or_false (nat_eq n k) false e).0)
    where
      frame_of : Option SeenVariable → Bool
      frame_of None = false
      frame_of (Some v) = v.frame
  same_frame (place at t form) e = refl

  same_sensor : (q : PlainPlace) → is_sensor inner (form_of q) ≡ is_sensor outer (form_of q)
  same_sensor (place at t (global n)) = refl
  same_sensor (place at t form) = refl

  -- ## Calls

  arguments_out : (ts : List PlainType) (vs : PlainValues) → ArgumentsFit inner ts vs → ArgumentsFit outer ts vs
  arguments_out [] no_values h = h
  arguments_out [] (more_values v vs) h = h
  arguments_out (t ∷ ts) no_values h = h
  arguments_out (t ∷ ts) (more_values v vs) h = (h.0, arguments_out ts vs h.1)

  allocates_out : (t : PlainType) (arguments : PlainValues) → Allocates inner t arguments → Allocates outer t arguments
  allocates_out t arguments h = record { element = h.element; type_is = h.type_is; complete = h.complete; counted = h.counted }

  library_out : (t : PlainType) (g : Library) (arguments : PlainValues) → CallsLibrary inner t g arguments → CallsLibrary outer t g arguments
  library_out t Malloc arguments h = allocates_out t arguments h
  library_out t Calloc arguments h = allocates_out t arguments h
  library_out t Assert arguments h = h
  library_out t Getchar no_values h = h
  library_out t Getchar (more_values v vs) h = h
  library_out t Putchar no_values h = h
  library_out t Putchar (more_values v no_values) h = h
  library_out t Putchar (more_values v (more_values u vs)) h = h
  library_out t CAssert no_values h = h
  library_out t CAssert (more_values v no_values) h = h
  library_out t CAssert (more_values v (more_values u vs)) h = h
  library_out t Free no_values h = h
  library_out t Free (more_values v no_values) h = h
  library_out t Free (more_values v (more_values u vs)) h = h

  -- ## Values and places

  mutual
    pub value_out : (v : PlainValue) → names_variable k (nodes_of_value v) ≡ false → IsWholeValue inner v → IsWholeValue outer v
    value_out (value at t (constant z)) e i = i
    value_out (value at t (read q)) e i = (place_out q e i.0, record { type_is = i.1.type_is; no_array = i.1.no_array; complete = i.1.complete; no_sensor = sym (same_sensor q) ∙ i.1.no_sensor })
    value_out (value at t (sense n)) e i = record { seen = i.seen; there = i.there; sensor_is = i.sensor_is; kind = i.kind; type_is = i.type_is; same_type = i.same_type }
    value_out (value at t (address q)) e i = (place_out q e i.0, record { type_is = i.1.type_is; no_frame = sym (same_frame q e) ∙ i.1.no_frame; no_sensor = sym (same_sensor q) ∙ i.1.no_sensor })
    value_out (value at t (decay q)) e i = (place_out q e i.0, record { mark = i.1.mark; element = i.1.element; count = i.1.count; place_is = i.1.place_is; type_is = i.1.type_is; no_frame = sym (same_frame q e) ∙ i.1.no_frame })
    value_out (value at t (convert v)) e i = (value_out v e i.0, i.1)
    value_out (value at t (cast v)) e i = (value_out v e i.0, i.1)
    value_out (value at t (unary op v)) e i = (value_out v e i.0, i.1)
    value_out (value at t (binary op a b)) e i =
        let each = unnamed k (nodes_of_value a) (nodes_of_value b) e in
        (value_out a each.0 i.0, value_out b each.1 i.1, record { left_null = i.2.left_null; right_null = i.2.right_null; left_type = i.2.left_type; right_type = i.2.right_type; entry = i.2.entry; is = i.2.is; result_is = i.2.result_is; left_is = i.2.left_is; right_is = i.2.right_is })
    value_out (value at t (logic op a b)) e i =
        let each = unnamed k (nodes_of_value a) (nodes_of_value b) e in (value_out a each.0 i.0, value_out b each.1 i.1, i.2, i.3, i.4)
    value_out (value at t (conditional v a b)) e i =
        let each = unnamed k (nodes_of_value v) (nodes_of_value a ++ nodes_of_value b) e in
        let both = unnamed k (nodes_of_value a) (nodes_of_value b) each.1 in
        (value_out v each.0 i.0, value_out a both.0 i.1, value_out b both.1 i.2, i.3, i.4)
    value_out (value at t (call name g arguments)) e i =
        (values_out arguments e i.0, record { seen = i.1.seen; there = i.1.there; fit = arguments_out i.1.seen.parameters arguments i.1.fit; result_is = i.1.result_is; unmarked = i.1.unmarked })
    value_out (value at t (built_in name g arguments)) e i = (values_out arguments e i.0, library_out t g arguments i.1)

    pub values_out : (vs : PlainValues) → names_variable k (nodes_of_values vs) ≡ false → AreWholeValues inner vs → AreWholeValues outer vs
    values_out no_values e i = i
    values_out (more_values v vs) e i = let each = unnamed k (nodes_of_value v) (nodes_of_values vs) e in (value_out v each.0 i.0, values_out vs each.1 i.1)

    pub place_out : (q : PlainPlace) → names_variable k (nodes_of_place q) ≡ false → IsWholePlace inner q → IsWholePlace outer q
    place_out (place at t (variable n)) e i = record { seen = i.seen; there = sym (same_variable n (or_false (nat_eq n k) false e).0) ∙ i.there; type_is = i.type_is }
    place_out (place at t (global n)) e i = record { seen = i.seen; there = i.there; type_is = i.type_is }
    place_out (place at t (literal n bytes)) e i = record { type_is = i.type_is; are_bytes = i.are_bytes; is_listed = i.is_listed }
    place_out (place at t (index a v)) e i =
        let each = unnamed k (nodes_of_value a) (nodes_of_value v) e in
        (value_out a each.0 i.0, value_out v each.1 i.1, record { kind = i.2.kind; pointer_is = i.2.pointer_is; integer_is = i.2.integer_is; complete = i.2.complete })
    place_out (place at t (member q n)) e i = (place_out q e i.0, record { mark = i.1.mark; number = i.1.number; whole_is = i.1.whole_is; entry = i.1.entry; there = i.1.there; type_is = i.1.type_is })
    place_out (place at t (dereference v)) e i = (value_out v e i.0, i.1)

  -- ## Initialisers

  written_out : (ts : List PlainType) (written : PlainWritten) → names_variable k (nodes_of_written written) ≡ false → IsWholeWritten inner ts written → IsWholeWritten outer ts written
  written_out ts (one_scalar v) e i = record { whole = value_out v e i.whole; type_is = i.type_is; unmarked = i.unmarked }
  written_out ts (scalars_of_text bytes) e i = i

  items_out : (ts : List PlainType) (from : ℕ) (items : List PlainItem) → names_variable k (nodes_of_items items) ≡ false → AreWholeItems inner ts from items → AreWholeItems outer ts from items
  items_out ts from [] e i = i
  items_out ts from (item ∷ items) e i =
      let each = unnamed k (nodes_of_written item.written) (nodes_of_items items) e in
      (i.0, written_out (drop item.scalar ts) item.written each.0 i.1, items_out ts (item.scalar + width_of_written item.written) items each.1 i.2)

  pub initializer_out : (t : PlainType) (initializer : PlainInitializer) → names_variable k (nodes_of_initializer initializer) ≡ false → IsWholeInitializer inner t initializer → IsWholeInitializer outer t initializer
  initializer_out t not_initialized e i = i
  initializer_out t (single v) e i = record { whole = value_out v e i.whole; scalar = i.scalar; type_is = i.type_is }
  initializer_out t (copied q) e i = record { whole = place_out q e i.whole; number = i.number; target_is = i.target_is; source_is = i.source_is; complete = i.complete }
  initializer_out t (listed at items) e i = record { aggregate = i.aggregate; whole = items_out _ 0 items e i.whole }
