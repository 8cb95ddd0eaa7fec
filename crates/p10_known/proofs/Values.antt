-- What is found of whole values is of their types, where what is known of variables is.
use Rattle.std.proofs.Common.{◌≡◌, ℕ, Bool, true, false, List, Option, Some, None, refl, sym, ap, ◌∙◌, subst, arith, pos, neg_ℤ}
use Rattle.std.specs.Prelude.{slice_get, if◌then◌else◌, is_some, IfSome}
use Rattle.std.specs.Option.{option_map, option_and_then}
use Rattle.std.proofs.lemmas.Int.{ints}
use Rattle.std.proofs.lemmas.Option.{same_Some, none-some}
use Rattle.p10_int.specs.declared.types.IntType.{IntType}
use Rattle.p10_int.specs.declared.types.IntType.TheVariants.{Int}
use Rattle.p10_int.specs.declared.operators.BinOp.{BinOp}
use Rattle.p10_int.specs.declared.operators.BinOp.TheVariants.{Ne}
use Rattle.p10_int.specs.declared.operators.UnOp.{UnOp}
use Rattle.p10_int.specs.declared.operators.UnOp.TheVariants.{Plus, Neg, Not, Com}
use Rattle.p10_range.specs.Ranges.{from_to}
use Rattle.p10_range.specs.Laws.{IsOfType}
use Rattle.p10_core.specs.declared.typed.Library.{Library}
use Rattle.p10_core.specs.declared.typed.Library.TheVariants.{Assert, CAssert, Getchar, Putchar, Malloc, Calloc, Free}
use Rattle.p10_core.specs.declared.typed.LogicOp.{LogicOp}
use Rattle.p10_core.specs.declared.typed.LogicOp.TheVariants.{And, Or}
use Rattle.p10_core.specs.Types.{PlainType, void, integer, pointer, array, structure, bare, unqualified, PlainStructure}
use Rattle.p10_core.specs.Typed.{PlainValue, value, PlainForm, constant, read, sense, address, decay, convert, cast, unary, binary, logic, conditional, call, built_in, type_of, PlainPlace, place, place_type, variable, global, literal, index, member, dereference, PlainValues, no_values, more_values, PlainVariable, PlainFunction, PlainProgram}
use Rattle.p10_core.specs.Constants.{integer_of}
use Rattle.p10_core.specs.Rows.{Row, row_where, conditional_row, same}
use Rattle.p10_core.specs.Whole.{SeenVariable, SeenFunction, Surroundings, ConditionalAgrees, CallsLibrary, IsWholeValue, IsWholeForm, IsWholePlace, AreWholeValues}
use Rattle.p10_cert.specs.Claims.{Claims}
use Rattle.p10_absx.specs.Abstract.{Abstract, whole_type}
use Rattle.p10_absx.specs.Environments.{Environment, known}
use Rattle.p10_absx.specs.Comparing.{is_comparison, contrary, allowed, turned, Side, side_met, compared}
use Rattle.p10_absx.specs.Assessing.{Assessed, a_scalar, a_test, tested_abstract, value_found, as_side, zero_side, known_where, any_of, variable_read, place_read, converted_side, converted_found, unary_assessed, comparison_found, are_integers, arithmetic_found, binary_found, logic_found, hull_found, without_offset, conditional_found, call_claimed, library_assessed, assess, assess_form, assess_only}
use Rattle.p10_known.specs.Typing.{AreOfTypes, MaybeOfTypes, ResultsOfTypes}
use Rattle.p10_known.proofs.Ranges.{all_of_type, number_of_type, truth_of_type, hull_of_type, Has, MaybeHas, IsSome, converted_of_type, unary_of_type, some_has, then_has, both_have}
use Rattle.p10_known.proofs.Environments.{reached_types, side_types}

-- ## Kinds of types

pub same_kind : (t : PlainType) → integer_of (unqualified t) ≡ integer_of t
same_kind (void c) = refl
same_kind (integer c i) = refl
same_kind (pointer c t) = refl
same_kind (array c t n) = refl
same_kind (structure c n) = refl

bare_kind : (structures : List PlainStructure) (t : PlainType) → integer_of (bare structures t) ≡ integer_of t
bare_kind structures (void c) = refl
bare_kind structures (integer c i) = refl
bare_kind structures (pointer c t) = refl
bare_kind structures (array c t n) = refl
bare_kind structures (structure c n) = refl

-- both operands of `?:` are of the result's kind
abbrev OneKind : Row → Type 0
OneKind r = (integer_of r.left ≡ integer_of r.result) × (integer_of r.right ≡ integer_of r.result)

where_kind : (b : Bool) (x y z : PlainType) (r : Row) → row_where b x y z ≡ Some r → integer_of y ≡ integer_of x → integer_of z ≡ integer_of x → OneKind r
where_kind true x y z r e h k = subst OneKind (same_Some _ _ e) (h, k)
where_kind false x y z r e h k = absurd (none-some _ e)

conditional_kind : (m n : Bool) (s t : PlainType) (r : Row) → conditional_row m n s t ≡ Some r → OneKind r
conditional_kind m n (integer c a) (integer d b) r e = subst OneKind (same_Some _ _ e) (refl, refl)
conditional_kind m n (pointer c s) (pointer d t) r e = where_kind (same s t) (pointer false s) (pointer false s) (pointer false t) r e refl refl
conditional_kind m n (pointer c s) (integer d b) r e = where_kind n (pointer false s) (pointer false s) (pointer false s) r e refl refl
conditional_kind m n (integer c a) (pointer d t) r e = where_kind m (pointer false t) (pointer false t) (pointer false t) r e refl refl
conditional_kind m n (integer c a) (void d) r e = absurd (none-some _ e)
conditional_kind m n (integer c a) (array d t k) r e = absurd (none-some _ e)
conditional_kind m n (integer c a) (structure d k) r e = absurd (none-some _ e)
conditional_kind m n (pointer c s) (void d) r e = absurd (none-some _ e)
conditional_kind m n (pointer c s) (array d t k) r e = absurd (none-some _ e)
conditional_kind m n (pointer c s) (structure d k) r e = absurd (none-some _ e)
conditional_kind m n (void c) t r e = absurd (none-some _ e)
conditional_kind m n (array c s k) t r e = absurd (none-some _ e)
conditional_kind m n (structure c k) t r e = absurd (none-some _ e)

-- ## What stands round

-- a variable of a function, by what is seen of it
pub record IsSeen (f : PlainFunction) (n : ℕ) (t : PlainType) : Type 0 where
  pub variable : PlainVariable
  pub there : slice_get f.variables n ≡ Some variable
  pub type_is : t ≡ variable.type

-- a function of a program, by what is seen of it
pub record IsCalled (p : PlainProgram) (n : ℕ) (t : PlainType) : Type 0 where
  pub callee : PlainFunction
  pub there : slice_get p.functions n ≡ Some callee
  pub type_is : t ≡ callee.result

-- what is seen of variables and functions is so of those of a function and a program
pub record Sees (p : PlainProgram) (f : PlainFunction) (c : Surroundings) : Type 0 where
  pub variables : (n : ℕ) (seen : SeenVariable) → c.variable_at n ≡ Some seen → IsSeen f n seen.type
  pub functions : (n : ℕ) (seen : SeenFunction) → c.function_at n ≡ Some seen → IsCalled p n seen.result

module _ (variables : List PlainVariable) where
  -- what is found of a value of a type
  abbrev pub FoundOf : PlainType → Assessed → Type 0
  FoundOf t (a_scalar i side) = MaybeHas (integer_of t) side.value
  FoundOf t (a_test first second) = MaybeOfTypes variables first × MaybeOfTypes variables second

  tested_has : (t : IntType) (first second : Bool) → MaybeHas t (tested_abstract first second)
  tested_has t true true = truth_of_type t true true
  tested_has t true false = truth_of_type t true false
  tested_has t false true = truth_of_type t false true
  tested_has t false false = tt

  pub value_has : (t : PlainType) (a : Assessed) → FoundOf t a → MaybeHas (integer_of t) (value_found a)
  value_has t (a_scalar i side) h = h
  value_has t (a_test first second) h = tested_has (integer_of t) (is_some first) (is_some second)

  side_has : (t : PlainType) (a : Assessed) → FoundOf t a → MaybeHas (integer_of t) (as_side a).value
  side_has t (a_scalar i side) h = h
  side_has t (a_test first second) h = tested_has (integer_of t) (is_some first) (is_some second)

  -- ## Comparisons

  pub maybe_then : (o : Option Environment) (go : Environment → Option Environment) → MaybeOfTypes variables o → ((e : Environment) → AreOfTypes variables e → MaybeOfTypes variables (go e)) → MaybeOfTypes variables (option_and_then go o)
  maybe_then None go h k = tt
  maybe_then (Some e) go h k = k e h

  for_each : {A : Type 0} (o : Option A) (go : A → Option Environment) → ((a : A) → MaybeOfTypes variables (go a)) → MaybeOfTypes variables (option_and_then go o)
  for_each None go h = tt
  for_each (Some a) go h = h a

  compared_types : (op : BinOp) (left right : Side) (env : Environment) → AreOfTypes variables env → MaybeOfTypes variables (compared op left right env)
  compared_types op left right env h = at left.value right.value
    where
      at : (a b : Option Abstract) → MaybeOfTypes variables (compared op (record left { value = a }) (record right { value = b }) env)
      at None b = tt
      at (Some a) None = tt
      at (Some a) (Some b) =
          for_each (allowed op a.range b.range) _ (λ r. for_each (allowed (turned op) b.range a.range) _ (λ s.
          maybe_then (side_met left.variable r env) (side_met right.variable s) (side_types variables left.variable r env h) (λ e k. side_types variables right.variable s e k)))

  pub where_types : (t : PlainType) (truth : Bool) (env : Environment) (a : Assessed) → AreOfTypes variables env → FoundOf t a → MaybeOfTypes variables (known_where truth env a)
  where_types t truth env (a_scalar true side) h k = truly truth
    where
      truly : (b : Bool) → MaybeOfTypes variables (compared (if b then Ne else contrary Ne) side zero_side env)
      truly true = compared_types Ne side zero_side env h
      truly false = compared_types (contrary Ne) side zero_side env h
  where_types t truth env (a_scalar false side) h k = h
  where_types t true env (a_test first second) h k = k.0
  where_types t false env (a_test first second) h k = k.1

  if_found : (t : PlainType) (b : Bool) (x y : Assessed) → FoundOf t x → FoundOf t y → FoundOf t (if b then x else y)
  if_found t true x y h k = h
  if_found t false x y h k = k

  -- ## Rows

  any_has : (t : PlainType) → FoundOf t (any_of t)
  any_has t = all_of_type (integer_of t)

  variable_has : (t : PlainType) (n : ℕ) (o : Option Abstract) → ((a : Abstract) → o ≡ Some a → Has (integer_of t) a) → FoundOf t (variable_read t n o)
  variable_has t n None h = any_has t
  variable_has t n (Some a) h = h a refl

  converted_has : (t : PlainType) (side : Side) → IfSome side.value IsSome → FoundOf t (converted_found t side)
  converted_has (integer c kind) side h = at side.value h
    where
      at : (o : Option Abstract) → IfSome o IsSome → MaybeHas kind (converted_side kind (record side { value = o })).value
      at None h = tt
      at (Some a) h = converted_of_type kind a h
  converted_has (void c) side h = at side.value
    where
      at : (o : Option Abstract) → MaybeHas Int (option_map (λ a. whole_type Int) o)
      at None = tt
      at (Some a) = all_of_type Int
  converted_has (pointer c t) side h = any_has (pointer c t)
  converted_has (array c t n) side h = any_has (array c t n)
  converted_has (structure c n) side h = any_has (structure c n)

  comparison_has : (t : PlainType) (op : BinOp) (integers : Bool) (left right : Side) (env : Environment) → AreOfTypes variables env → FoundOf t (comparison_found op integers left right env)
  comparison_has t op true left right env h = (compared_types op left right env h, compared_types (contrary op) left right env h)
  comparison_has t op false left right env h = (h, h)

  binary_has : (op : BinOp) (t s u : PlainType) (integers : Bool) (a b : Assessed) (env : Environment) → AreOfTypes variables env → FoundOf s a → FoundOf u b → FoundOf t (binary_found op t integers a b env)
  binary_has op t s u integers a b env h k l =
      if_found t (is_comparison op) _ _ (comparison_has t op integers (as_side a) (as_side b) env h)
      (if_found t integers (arithmetic_found op t (value_found a) (value_found b)) (any_of t)
      (both_have op (integer_of t) (value_found a) (value_found b) (some_has (integer_of s) (value_found a) (value_has s a k)) (some_has (integer_of u) (value_found b) (value_has u b l))) (any_has t))

  logic_has : (op : LogicOp) (t s u : PlainType) (env : Environment) (left : Assessed) (right : Environment → Assessed) → AreOfTypes variables env → FoundOf s left → ((e : Environment) → AreOfTypes variables e → FoundOf u (right e)) → FoundOf t (logic_found op env left right)
  logic_has And t s u env left right h k l =
      let after : MaybeOfTypes variables (known_where true env left) = where_types s true env left h k in (
        maybe_then (known_where true env left) _ after (λ e i. where_types u true e (right e) i (l e i)),
        reached_types variables (known_where false env left) _ (where_types s false env left h k) (maybe_then (known_where true env left) _ after (λ e i. where_types u false e (right e) i (l e i))),
      )
  logic_has Or t s u env left right h k l =
      let after : MaybeOfTypes variables (known_where false env left) = where_types s false env left h k in (
        reached_types variables (known_where true env left) _ (where_types s true env left h k) (maybe_then (known_where false env left) _ after (λ e i. where_types u true e (right e) i (l e i))),
        maybe_then (known_where false env left) _ after (λ e i. where_types u false e (right e) i (l e i)),
      )

  hull_has : (t : IntType) (a b : Option Abstract) → MaybeHas t a → MaybeHas t b → MaybeHas t (without_offset (hull_found a b))
  hull_has t None None h k = tt
  hull_has t None (Some b) h k = k
  hull_has t (Some a) None h k = h
  hull_has t (Some a) (Some b) h k = hull_of_type t a.range b.range h k

  -- what is found of an operand where a state comes to it
  operand_has : (t : IntType) (s : PlainType) (o : Option Environment) (go : Environment → Assessed) → integer_of s ≡ t → MaybeOfTypes variables o → ((e : Environment) → AreOfTypes variables e → FoundOf s (go e)) → MaybeHas t (option_and_then (λ e. value_found (go e)) o)
  operand_has t s None go same h k = tt
  operand_has t s (Some e) go same h k = subst (λ i. MaybeHas i (value_found (go e))) same (value_has s (go e) (k e h))

  conditional_has : (t s u w : PlainType) (env : Environment) (condition : Assessed) (first second : Environment → Assessed) → integer_of u ≡ integer_of t → integer_of w ≡ integer_of t → AreOfTypes variables env → FoundOf s condition
      → ((e : Environment) → AreOfTypes variables e → FoundOf u (first e)) → ((e : Environment) → AreOfTypes variables e → FoundOf w (second e)) → FoundOf t (conditional_found t env condition first second)
  conditional_has t s u w env condition first second left right h k l m =
      hull_has (integer_of t) _ _ (operand_has (integer_of t) u (known_where true env condition) first left (where_types s true env condition h k) l)
      (operand_has (integer_of t) w (known_where false env condition) second right (where_types s false env condition h k) m)

  unary_has : (op : UnOp) (t s : PlainType) (env : Environment) (a : Assessed) → AreOfTypes variables env → FoundOf s a → FoundOf t (unary_assessed op t env a)
  unary_has Not t s env a h k = (where_types s false env a h k, where_types s true env a h k)
  unary_has Plus t s env a h k = then_has (integer_of t) (value_found a) _ (some_has (integer_of s) (value_found a) (value_has s a k)) (λ x i. unary_of_type Plus (integer_of t) x i)
  unary_has Neg t s env a h k = then_has (integer_of t) (value_found a) _ (some_has (integer_of s) (value_found a) (value_has s a k)) (λ x i. unary_of_type Neg (integer_of t) x i)
  unary_has Com t s env a h k = then_has (integer_of t) (value_found a) _ (some_has (integer_of s) (value_found a) (value_has s a k)) (λ x i. unary_of_type Com (integer_of t) x i)

  -- what is found of the only one of values, of some type
  abbrev OnlyFound : Option Assessed → Type 0
  OnlyFound None = Unit {0}
  OnlyFound (Some a) = (s : PlainType) × FoundOf s a

  library_has : (around : Surroundings) (f : Library) (t : PlainType) (arguments : PlainValues) (env : Environment) (a : Option Assessed) → CallsLibrary around t f arguments → AreOfTypes variables env → OnlyFound a → FoundOf t (library_assessed f t env a)
  library_has around CAssert t arguments env (Some a) c h k = (where_types k.0 true env a h k.1, where_types k.0 false env a h k.1)
  library_has around CAssert t arguments env None c h k = any_has t
  library_has around Getchar t no_values env a c h k = subst (λ i. IsOfType i (from_to (neg_ℤ (pos 1)) (pos 255))) (sym (ap integer_of c)) (omega (arith, ints), record { from_low = omega (arith, ints); to_high = omega (arith, ints) })
  library_has around Getchar t (more_values v vs) env a c h k = absurd c
  library_has around Putchar t (more_values v no_values) env a c h k = subst (λ i. IsOfType i (from_to (pos 0) (pos 255))) (sym (ap integer_of c.0)) (omega (arith, ints), record { from_low = omega (arith, ints); to_high = omega (arith, ints) })
  library_has around Putchar t no_values env a c h k = absurd c
  library_has around Putchar t (more_values v (more_values u vs)) env a c h k = absurd c
  library_has around Assert t arguments env a c h k = any_has t
  library_has around Malloc t arguments env a c h k = any_has t
  library_has around Calloc t arguments env a c h k = any_has t
  library_has around Free t arguments env a c h k = any_has t

-- ## Values

module _ (p : PlainProgram) (f : PlainFunction) (calls : Option Claims) (results : ResultsOfTypes p calls) (c : Surroundings) (sees : Sees p f c) where
  -- a variable that is read is known with the type with which it is read
  place_has : (t : PlainType) (q : PlainPlace) (env : Environment) → IsWholePlace c q → t ≡ unqualified (place_type q) → AreOfTypes f.variables env → FoundOf f.variables t (place_read t q env)
  place_has t (place at u (variable n)) env i e h =
      let seen = sees.variables n i.seen i.there in
      let kind : integer_of seen.variable.type ≡ integer_of t = sym (ap integer_of e ∙ (same_kind u ∙ ap integer_of (i.type_is ∙ seen.type_is))) in
      variable_has f.variables t n (known env n) (λ a k. subst (λ j. Has j a) kind (h.each n seen.variable a seen.there k))
  place_has t (place at u (global n)) env i e h = any_has f.variables t
  place_has t (place at u (literal n bytes)) env i e h = any_has f.variables t
  place_has t (place at u (index a k)) env i e h = any_has f.variables t
  place_has t (place at u (member q m)) env i e h = any_has f.variables t
  place_has t (place at u (dereference v)) env i e h = any_has f.variables t

  mutual
    pub found_of_type : (v : PlainValue) → IsWholeValue c v → (env : Environment) → AreOfTypes f.variables env → FoundOf f.variables (type_of v) (assess calls v env)
    found_of_type (value at t form) i env h = form_of_type t form i env h

    form_of_type : (t : PlainType) (form : PlainForm) → IsWholeForm c t form → (env : Environment) → AreOfTypes f.variables env → FoundOf f.variables t (assess_form calls t form env)
    form_of_type t (constant z) i env h = subst (λ k. IsOfType k (from_to z z)) (sym (ap integer_of i.type_is)) (number_of_type i.kind z i.in_range)
    form_of_type t (read q) i env h = place_has t q env i.0 i.1.type_is h
    form_of_type t (sense n) i env h = any_has f.variables t
    form_of_type t (address q) i env h = any_has f.variables t
    form_of_type t (decay q) i env h = any_has f.variables t
    form_of_type t (convert v) i env h =
        converted_has f.variables t (as_side (assess calls v env)) (some_has (integer_of (type_of v)) _ (side_has f.variables (type_of v) (assess calls v env) (found_of_type v i.0 env h)))
    form_of_type t (cast v) i env h =
        converted_has f.variables t (as_side (assess calls v env)) (some_has (integer_of (type_of v)) _ (side_has f.variables (type_of v) (assess calls v env) (found_of_type v i.0 env h)))
    form_of_type t (unary op v) i env h = unary_has f.variables op t (type_of v) env (assess calls v env) h (found_of_type v i.0 env h)
    form_of_type t (binary op a b) i env h =
        binary_has f.variables op t (type_of a) (type_of b) (are_integers a b) (assess calls a env) (assess calls b env) env h (found_of_type a i.0 env h) (found_of_type b i.1 env h)
    form_of_type t (logic op a b) i env h =
        logic_has f.variables op t (type_of a) (type_of b) env (assess calls a env) (λ env. assess calls b env) h (found_of_type a i.0 env h) (λ e k. found_of_type b i.1 e k)
    form_of_type t (conditional v a b) i env h =
        let agrees : ConditionalAgrees t (type_of a) (type_of b) = i.4 in
        let kinds : OneKind agrees.entry = conditional_kind agrees.left_null agrees.right_null agrees.left_type agrees.right_type agrees.entry agrees.is in
        conditional_has f.variables t (type_of v) (type_of a) (type_of b) env (assess calls v env) (λ env. assess calls a env) (λ env. assess calls b env)
        (ap integer_of agrees.left_is ∙ (kinds.0 ∙ sym (ap integer_of agrees.result_is))) (ap integer_of agrees.right_is ∙ (kinds.1 ∙ sym (ap integer_of agrees.result_is)))
        h (found_of_type v i.0 env h) (λ e k. found_of_type a i.1 e k) (λ e k. found_of_type b i.2 e k)
    form_of_type t (call s n arguments) i env h =
        let callee = sees.functions n i.1.seen i.1.there in
        let kind : integer_of callee.callee.result ≡ integer_of t =
        sym (sym (bare_kind c.structures t) ∙ (ap integer_of i.1.result_is ∙ (bare_kind c.structures i.1.seen.result ∙ ap integer_of callee.type_is))) in
        subst (λ k. IsOfType k (call_claimed calls n k)) kind (results.each n callee.callee callee.there)
    form_of_type t (built_in s g arguments) i env h = library_has f.variables c g t arguments env (assess_only calls arguments env) i.1 h (only_of_type arguments i.0 env h)

    only_of_type : (arguments : PlainValues) → AreWholeValues c arguments → (env : Environment) → AreOfTypes f.variables env → OnlyFound f.variables (assess_only calls arguments env)
    only_of_type no_values i env h = tt
    only_of_type (more_values v no_values) i env h = (type_of v, found_of_type v i.0 env h)
    only_of_type (more_values v (more_values u vs)) i env h = tt
