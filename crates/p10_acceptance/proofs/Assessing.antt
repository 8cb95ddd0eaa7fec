-- What is found of a value in a narrower environment fits what is found in a wider one, where calls have any value of their types.
use Rattle.std.proofs.Common.{◌≡◌, ℕ, Bool, true, false, List, Option, Some, None, refl, arith, pos}
use Rattle.std.specs.Prelude.{if◌then◌else◌, is_some, IfSome}
use Rattle.std.specs.Option.{option_map, option_and_then}
use Rattle.std.proofs.lemmas.Int.{ints}
use Rattle.p10_int.specs.declared.types.IntType.{IntType}
use Rattle.p10_int.specs.declared.types.IntType.TheVariants.{Int}
use Rattle.p10_int.specs.declared.operators.BinOp.{BinOp}
use Rattle.p10_int.specs.declared.operators.BinOp.TheVariants.{Ne}
use Rattle.p10_int.specs.declared.operators.UnOp.{UnOp}
use Rattle.p10_int.specs.declared.operators.UnOp.TheVariants.{Plus, Neg, Not, Com}
use Rattle.p10_int.proofs.Conversions.{zero_in, one_in}
use Rattle.p10_range.specs.Ranges.{from_to, IsWithin, is_within}
use Rattle.p10_range.specs.Rows.{values_of}
use Rattle.p10_range.specs.Laws.{IsOfType}
use Rattle.p10_core.specs.declared.typed.LogicOp.{LogicOp}
use Rattle.p10_core.specs.declared.typed.LogicOp.TheVariants.{And, Or}
use Rattle.p10_core.specs.Types.{PlainType, void, integer, pointer, array, structure, unqualified}
use Rattle.p10_core.specs.Typed.{PlainVariable}
use Rattle.p10_core.specs.Constants.{integer_of}
use Rattle.p10_absx.specs.Abstract.{Abstract, whole_type}
use Rattle.p10_absx.specs.Environments.{Environment}
use Rattle.p10_absx.specs.Operators.{unary_abstract, binary_abstract}
use Rattle.p10_absx.specs.Comparing.{is_comparison, contrary, Side}
use Rattle.p10_absx.specs.Assessing.{Assessed, a_scalar, a_test, tested_abstract, value_found, as_side, zero_side, known_where, any_of, found_of, variable_read, converted_side, converted_found, arithmetic_found, comparison_found, binary_found, logic_found, hull_found, without_offset, conditional_found, truth_found, unary_assessed}
use Rattle.p10_acceptance.proofs.Narrowing.{within_itself, within_trans, whole_typed, hull_typed, hull_left, hull_right, hull_both, Fits, LiesIn, Narrower, MaybeNarrower, hull_narrower}
use Rattle.p10_acceptance.proofs.Operating.{within_of, is_within_of, converted_fits, unary_fits, binary_fits}
use Rattle.p10_acceptance.proofs.Comparing.{SideFits, compared_narrower}

-- ## Values

whole_fits : (kind : IntType) → Fits kind (Some (whole_type kind)) (Some (whole_type kind))
whole_fits kind = (whole_typed kind, within_itself (values_of kind))

in_whole : (kind : IntType) (a : Option Abstract) → IfSome a (λ x. IsOfType kind x.range) → Fits kind a (Some (whole_type kind))
in_whole kind None h = tt
in_whole kind (Some a) h = (h, h.1)

side_of_value : (kind : IntType) (a b : Option Abstract) → Fits kind a b → SideFits kind (record { variable = None; value = a }) (record { variable = None; value = b })
side_of_value kind a b h = record { value = h; variable = λ e. tt }

zero_typed : (kind : IntType) → IsOfType kind (from_to (pos 0) (pos 0))
zero_typed kind = let z = zero_in kind in (omega (arith, ints), record { from_low = z.low; to_high = z.high })

one_typed : (kind : IntType) → IsOfType kind (from_to (pos 1) (pos 1))
one_typed kind = let z = one_in kind in (omega (arith, ints), record { from_low = z.low; to_high = z.high })

truth_typed : (kind : IntType) → IsOfType kind (from_to (pos 0) (pos 1))
truth_typed kind = let z = zero_in kind in let o = one_in kind in (omega (arith, ints), record { from_low = z.low; to_high = o.high })

tested_fits : (kind : IntType) (p q r s : Bool) → (p ≡ true → r ≡ true) → (q ≡ true → s ≡ true) → Fits kind (tested_abstract p q) (tested_abstract r s)
tested_fits kind false false r s h k = tt
tested_fits kind true true true true h k = (truth_typed kind, within_itself (from_to (pos 0) (pos 1)))
tested_fits kind true true false s h k = let e = h refl in absurd cc
tested_fits kind true true true false h k = let e = k refl in absurd cc
tested_fits kind true false true true h k = (one_typed kind, record { from_low = omega (arith, ints); to_high = omega (arith, ints) })
tested_fits kind true false true false h k = (one_typed kind, within_itself (from_to (pos 1) (pos 1)))
tested_fits kind true false false s h k = let e = h refl in absurd cc
tested_fits kind false true true true h k = (zero_typed kind, record { from_low = omega (arith, ints); to_high = omega (arith, ints) })
tested_fits kind false true false true h k = (zero_typed kind, within_itself (from_to (pos 0) (pos 0)))
tested_fits kind false true r false h k = let e = k refl in absurd cc

zero_fits : SideFits Int zero_side zero_side
zero_fits = record { value = (zero_typed Int, within_itself (from_to (pos 0) (pos 0))); variable = λ e. tt }

-- the values of both lie in those of both
found_hull : (kind : IntType) (a b c d : Option Abstract) → Fits kind a c → Fits kind b d → Fits kind (without_offset (hull_found a b)) (without_offset (hull_found c d))
found_hull kind None None c d h k = tt
found_hull kind None (Some b) c None h k = absurd k.1
found_hull kind None (Some b) None (Some d) h k = k
found_hull kind None (Some b) (Some c) (Some d) h k = (k.0, hull_right b.range c.range d.range k.1)
found_hull kind (Some a) b None d h k = absurd h.1
found_hull kind (Some a) None (Some c) None h k = h
found_hull kind (Some a) None (Some c) (Some d) h k = (h.0, hull_left a.range c.range d.range h.1)
found_hull kind (Some a) (Some b) (Some c) None h k = absurd k.1
found_hull kind (Some a) (Some b) (Some c) (Some d) h k = (hull_typed kind a.range b.range h.0 k.0, hull_both a.range b.range c.range d.range h.1 k.1)

unary_values : (op : UnOp) (kind sub : IntType) (a b : Option Abstract) → Fits sub a b → Fits kind (option_and_then (unary_abstract op kind) a) (option_and_then (unary_abstract op kind) b)
unary_values op kind sub None b h = tt
unary_values op kind sub (Some a) None h = absurd h.1
unary_values op kind sub (Some a) (Some b) h = unary_fits op kind a b h.0.0 h.1

binary_values : (op : BinOp) (kind left right : IntType) (a b c d : Option Abstract) → Fits left a c → Fits right b d →
    Fits kind (option_and_then (λ a. option_and_then (λ b. binary_abstract op kind a b) b) a) (option_and_then (λ a. option_and_then (λ b. binary_abstract op kind a b) d) c)
binary_values op kind left right None b c d h k = tt
binary_values op kind left right (Some a) None c d h k = none_left c
  where
    none_left : (c : Option Abstract) → Fits kind None (option_and_then (λ a. option_and_then (λ b. binary_abstract op kind a b) d) c)
    none_left c = tt
binary_values op kind left right (Some a) (Some b) None d h k = absurd h.1
binary_values op kind left right (Some a) (Some b) (Some c) None h k = absurd k.1
binary_values op kind left right (Some a) (Some b) (Some c) (Some d) h k = binary_fits op kind a b c d h.0.0 k.0.0 h.1 k.1

converted_sides : (kind sub : IntType) (side wider : Side) → SideFits sub side wider → SideFits kind (converted_side kind side) (converted_side kind wider)
converted_sides kind sub side wider h = at side.value wider.value h.value h.variable
  where
    variables_fit : (a b : Abstract) → IsWithin a.range b.range → IfSome wider.variable (λ n. side.variable ≡ Some n) → (p q : Bool) → is_within a.range (values_of kind) ≡ p → is_within b.range (values_of kind) ≡ q →
        IfSome (if q then wider.variable else None) (λ n. (if p then side.variable else None) ≡ Some n)
    variables_fit a b w v true true e f = v
    variables_fit a b w v false true e f = let t : is_within a.range (values_of kind) ≡ true = is_within_of a.range (values_of kind) (within_trans a.range b.range (values_of kind) w (within_of b.range (values_of kind) f)) in absurd cc
    variables_fit a b w v p false e f = tt

    at : (a b : Option Abstract) → Fits sub a b → (is_some a ≡ true → IfSome wider.variable (λ n. side.variable ≡ Some n)) → SideFits kind (converted_side kind (record { variable = side.variable; value = a })) (converted_side kind (record { variable = wider.variable; value = b }))
    at None b f v = record { value = tt; variable = λ e. absurd cc }
    at (Some a) None f v = absurd f.1
    at (Some a) (Some b) f v = record {
      value = converted_fits kind a b f.0.0 f.1;
      variable = λ e. variables_fit a b f.1 (v refl) (is_within a.range (values_of kind)) (is_within b.range (values_of kind)) refl refl;
    }

pub same_kind : (t : PlainType) → integer_of (unqualified t) ≡ integer_of t
same_kind (void c) = refl
same_kind (integer c i) = refl
same_kind (pointer c t) = refl
same_kind (array c t n) = refl
same_kind (structure c n) = refl

-- ## What is found

module _ (variables : List PlainVariable) where
  -- what is found of a value of a type fits what is found of it in a wider environment
  abbrev pub AssessedFits : IntType → Assessed → Assessed → Type 0
  AssessedFits kind (a_scalar i side) (a_scalar j wider) = (i ≡ j) × SideFits kind side wider
  AssessedFits kind (a_test f g) (a_test h k) = MaybeNarrower variables f h × MaybeNarrower variables g k
  AssessedFits kind (a_scalar i side) (a_test h k) = ⊥
  AssessedFits kind (a_test f g) (a_scalar j wider) = ⊥

  some_wider : (f h : Option Environment) → MaybeNarrower variables f h → is_some f ≡ true → is_some h ≡ true
  some_wider None h m e = absurd cc
  some_wider (Some f) None m e = absurd m
  some_wider (Some f) (Some h) m e = refl

  pub sides_fit : (kind : IntType) (x y : Assessed) → AssessedFits kind x y → SideFits kind (as_side x) (as_side y)
  sides_fit kind (a_scalar i side) (a_scalar j wider) h = h.1
  sides_fit kind (a_test f g) (a_test a b) h = side_of_value kind _ _ (tested_fits kind (is_some f) (is_some g) (is_some a) (is_some b) (some_wider f a h.0) (some_wider g b h.1))
  sides_fit kind (a_scalar i side) (a_test a b) h = absurd h
  sides_fit kind (a_test f g) (a_scalar j wider) h = absurd h

  pub found_fits : (kind : IntType) (x y : Assessed) → AssessedFits kind x y → Fits kind (value_found x) (value_found y)
  found_fits kind (a_scalar i side) (a_scalar j wider) h = h.1.value
  found_fits kind (a_test f g) (a_test a b) h = tested_fits kind (is_some f) (is_some g) (is_some a) (is_some b) (some_wider f a h.0) (some_wider g b h.1)
  found_fits kind (a_scalar i side) (a_test a b) h = absurd h
  found_fits kind (a_test f g) (a_scalar j wider) h = absurd h

  where_integer : (kind : IntType) (truth : Bool) (env wide : Environment) (i j : Bool) (side wider : Side) → Narrower variables env wide → i ≡ j → SideFits kind side wider → MaybeNarrower variables (known_where truth env (a_scalar i side)) (known_where truth wide (a_scalar j wider))
  where_integer kind truth env wide true true side wider h e f = compared_narrower variables (if truth then Ne else contrary Ne) env wide kind Int side zero_side wider zero_side h f zero_fits
  where_integer kind truth env wide false false side wider h e f = h
  where_integer kind truth env wide true false side wider h e f = absurd cc
  where_integer kind truth env wide false true side wider h e f = absurd cc

  -- what is known where a value is true or false
  pub where_fits : (kind : IntType) (truth : Bool) (env wide : Environment) (x y : Assessed) → Narrower variables env wide → AssessedFits kind x y → MaybeNarrower variables (known_where truth env x) (known_where truth wide y)
  where_fits kind truth env wide (a_scalar i side) (a_scalar j wider) h f = where_integer kind truth env wide i j side wider h f.0 f.1
  where_fits kind true env wide (a_test p q) (a_test r s) h f = f.0
  where_fits kind false env wide (a_test p q) (a_test r s) h f = f.1
  where_fits kind truth env wide (a_scalar i side) (a_test r s) h f = absurd f
  where_fits kind truth env wide (a_test p q) (a_scalar j wider) h f = absurd f

  -- ## Rows

  pub any_fits : (t : PlainType) → AssessedFits (integer_of t) (any_of t) (any_of t)
  any_fits t = (refl, side_of_value (integer_of t) _ _ (whole_fits (integer_of t)))

  pub value_fits : (t : PlainType) (a b : Option Abstract) → Fits (integer_of t) a b → AssessedFits (integer_of t) (found_of t a) (found_of t b)
  value_fits t a b h = (refl, side_of_value (integer_of t) a b h)

  -- a read of a variable
  pub read_fits : (t : PlainType) (n : ℕ) (a b : Option Abstract) → IfSome a (λ x. IsOfType (integer_of t) x.range) → LiesIn a b → AssessedFits (integer_of t) (variable_read t n a) (variable_read t n b)
  read_fits t n None None h l = any_fits t
  read_fits t n (Some a) None h l = (refl, record { value = (h, h.1); variable = λ e. tt })
  read_fits t n (Some a) (Some b) h l = (refl, record { value = (h, l); variable = λ e. refl })
  read_fits t n None (Some b) h l = absurd l

  pub conversion_fits : (t : PlainType) (sub : IntType) (side wider : Side) → SideFits sub side wider → AssessedFits (integer_of t) (converted_found t side) (converted_found t wider)
  conversion_fits (integer c kind) sub side wider h = (refl, converted_sides kind sub side wider h)
  conversion_fits (void c) sub side wider h = (refl, side_of_value Int _ _ (at side.value wider.value h.value))
    where
      at : (a b : Option Abstract) → Fits sub a b → Fits Int (option_map (λ a. whole_type Int) a) (option_map (λ a. whole_type Int) b)
      at None b f = tt
      at (Some a) None f = absurd f.1
      at (Some a) (Some b) f = whole_fits Int
  conversion_fits (pointer c t) sub side wider h = any_fits (pointer c t)
  conversion_fits (array c t n) sub side wider h = any_fits (array c t n)
  conversion_fits (structure c n) sub side wider h = any_fits (structure c n)

  pub operation_fits : (op : UnOp) (t : PlainType) (sub : IntType) (env wide : Environment) (x y : Assessed) → Narrower variables env wide → AssessedFits sub x y → AssessedFits (integer_of t) (unary_assessed op t env x) (unary_assessed op t wide y)
  operation_fits Not t sub env wide x y h f = (where_fits sub false env wide x y h f, where_fits sub true env wide x y h f)
  operation_fits Plus t sub env wide x y h f = value_fits t _ _ (unary_values Plus (integer_of t) sub _ _ (found_fits sub x y f))
  operation_fits Neg t sub env wide x y h f = value_fits t _ _ (unary_values Neg (integer_of t) sub _ _ (found_fits sub x y f))
  operation_fits Com t sub env wide x y h f = value_fits t _ _ (unary_values Com (integer_of t) sub _ _ (found_fits sub x y f))

  if_fits : (kind : IntType) (b : Bool) (x y z w : Assessed) → AssessedFits kind x z → AssessedFits kind y w → AssessedFits kind (if b then x else y) (if b then z else w)
  if_fits kind true x y z w f g = f
  if_fits kind false x y z w f g = g

  comparison_fits : (op : BinOp) (kind left right : IntType) (integers : Bool) (env wide : Environment) (a b c d : Side) → Narrower variables env wide → SideFits left a c → SideFits right b d →
      AssessedFits kind (comparison_found op integers a b env) (comparison_found op integers c d wide)
  comparison_fits op kind left right true env wide a b c d h f g = (compared_narrower variables op env wide left right a b c d h f g, compared_narrower variables (contrary op) env wide left right a b c d h f g)
  comparison_fits op kind left right false env wide a b c d h f g = (h, h)

  pub pair_fits : (op : BinOp) (t : PlainType) (left right : IntType) (integers : Bool) (env wide : Environment) (a b c d : Assessed) → Narrower variables env wide → AssessedFits left a c → AssessedFits right b d →
      AssessedFits (integer_of t) (binary_found op t integers a b env) (binary_found op t integers c d wide)
  pair_fits op t left right integers env wide a b c d h f g =
      if_fits (integer_of t) (is_comparison op) _ _ _ _ (comparison_fits op (integer_of t) left right integers env wide (as_side a) (as_side b) (as_side c) (as_side d) h (sides_fit left a c f) (sides_fit right b d g))
      (if_fits (integer_of t) integers (arithmetic_found op t (value_found a) (value_found b)) (any_of t) (arithmetic_found op t (value_found c) (value_found d)) (any_of t)
      (value_fits t _ _ (binary_values op (integer_of t) left right (value_found a) (value_found b) (value_found c) (value_found d) (found_fits left a c f) (found_fits right b d g))) (any_fits t))

  then_narrower : (o p : Option Environment) (go wider : Environment → Option Environment) → MaybeNarrower variables o p → ((e w : Environment) → Narrower variables e w → MaybeNarrower variables (go e) (wider w)) →
      MaybeNarrower variables (option_and_then go o) (option_and_then wider p)
  then_narrower None p go wider h k = tt
  then_narrower (Some e) None go wider h k = absurd h
  then_narrower (Some e) (Some w) go wider h k = k e w h

  pub connected_fits : (op : LogicOp) (kind left right : IntType) (env wide : Environment) (a b : Assessed) (go wider : Environment → Assessed) → Narrower variables env wide → AssessedFits left a b →
      ((e w : Environment) → Narrower variables e w → AssessedFits right (go e) (wider w)) → AssessedFits kind (logic_found op env a go) (logic_found op wide b wider)
  connected_fits And kind left right env wide a b go wider h f k =
      let after = where_fits left true env wide a b h f in (
        then_narrower (known_where true env a) (known_where true wide b) _ _ after (λ e w n. where_fits right true e w (go e) (wider w) n (k e w n)),
        hull_narrower variables (known_where false env a) _ (known_where false wide b) _ (where_fits left false env wide a b h f)
            (then_narrower (known_where true env a) (known_where true wide b) _ _ after (λ e w n. where_fits right false e w (go e) (wider w) n (k e w n))),
      )
  connected_fits Or kind left right env wide a b go wider h f k =
      let after = where_fits left false env wide a b h f in (
        hull_narrower variables (known_where true env a) _ (known_where true wide b) _ (where_fits left true env wide a b h f)
            (then_narrower (known_where false env a) (known_where false wide b) _ _ after (λ e w n. where_fits right true e w (go e) (wider w) n (k e w n))),
        then_narrower (known_where false env a) (known_where false wide b) _ _ after (λ e w n. where_fits right false e w (go e) (wider w) n (k e w n)),
      )

  then_found : (kind : IntType) (o p : Option Environment) (go wider : Environment → Assessed) → MaybeNarrower variables o p → ((e w : Environment) → Narrower variables e w → AssessedFits kind (go e) (wider w)) →
      Fits kind (option_and_then (λ e. value_found (go e)) o) (option_and_then (λ e. value_found (wider e)) p)
  then_found kind None p go wider h k = tt
  then_found kind (Some e) None go wider h k = absurd h
  then_found kind (Some e) (Some w) go wider h k = found_fits kind (go e) (wider w) (k e w h)

  pub choice_fits : (t : PlainType) (test : IntType) (env wide : Environment) (a b : Assessed) (first second wfirst wsecond : Environment → Assessed) → Narrower variables env wide → AssessedFits test a b →
      ((e w : Environment) → Narrower variables e w → AssessedFits (integer_of t) (first e) (wfirst w)) → ((e w : Environment) → Narrower variables e w → AssessedFits (integer_of t) (second e) (wsecond w)) →
      AssessedFits (integer_of t) (conditional_found t env a first second) (conditional_found t wide b wfirst wsecond)
  choice_fits t test env wide a b first second wfirst wsecond h f k l =
      value_fits t _ _ (found_hull (integer_of t) _ _ _ _
      (then_found (integer_of t) (known_where true env a) (known_where true wide b) first wfirst (where_fits test true env wide a b h f) k)
      (then_found (integer_of t) (known_where false env a) (known_where false wide b) second wsecond (where_fits test false env wide a b h f) l))

  pub truths_fit : (kind sub : IntType) (env wide : Environment) (x y : Assessed) → Narrower variables env wide → AssessedFits sub x y → AssessedFits kind (truth_found env x) (truth_found wide y)
  truths_fit kind sub env wide x y h f = (where_fits sub true env wide x y h f, where_fits sub false env wide x y h f)
