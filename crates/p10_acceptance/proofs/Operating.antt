-- What operators and conversions give on narrower ranges lies in what they give on wider ones, and has values of the type.
use Rattle.std.proofs.Common.{◌≡◌, Bool as Flag, true, false, Option, Some, None, refl, ◌∙◌, ap, subst, arith, ℤ}
use Rattle.std.specs.Prelude.{◌&&◌, if◌then◌else◌, int_le, IfSome}
use Rattle.std.specs.Option.{option_map}
use Rattle.std.proofs.lemmas.Int.{ints}
use Rattle.std.proofs.lemmas.Bool.{and_parts}
use Rattle.p10_int.specs.declared.types.IntType.{IntType}
use Rattle.p10_int.specs.declared.operators.BinOp.{BinOp}
use Rattle.p10_int.specs.declared.operators.BinOp.TheVariants.{Add, Sub, Mul, Div, Rem, Shl, Shr, And, Or, Xor, Lt, Gt, Le, Ge, Eq, Ne}
use Rattle.p10_int.specs.declared.operators.UnOp.{UnOp}
use Rattle.p10_int.proofs.Conversions.{converted_keeps}
use Rattle.p10_range.specs.Ranges.{Interval, IsInhabited, IsMember, IsWithin, is_within}
use Rattle.p10_range.specs.Operands.{IsRightOperand}
use Rattle.p10_range.specs.Rows.{values_of, row_of, unary_row_of, conversion_row_of}
use Rattle.p10_range.specs.Laws.{IsOfType, IsWithinRow}
use Rattle.p10_range.proofs.Signs.{le_true, of_le}
use Rattle.p10_range.proofs.Held.{held_conversion}
use Rattle.p10_range.proofs.GrowingBits.{grown, grown_unary, grown_conversion}
use Rattle.p10_range.proofs.Typed.{typed, typed_unary, typed_conversion}
use Rattle.p10_absx.specs.Abstract.{Offset, Abstract, only_range, whole_type}
use Rattle.p10_absx.specs.Operators.{all_types, converted_range, converted_abstract, unary_offset, unary_abstract, is_right_operand, binary_offset, binary_abstract}
use Rattle.p10_acceptance.proofs.Narrowing.{within_itself, within_trans, whole_typed, Fits}

-- ## Tests

pub within_of : (r s : Interval) → is_within r s ≡ true → IsWithin r s
within_of r s e =
    let b = and_parts (int_le s.low r.low) (int_le r.high s.high) e in
    record { from_low = of_le s.low r.low b.0; to_high = of_le r.high s.high b.1 }

pub is_within_of : (r s : Interval) → IsWithin r s → is_within r s ≡ true
is_within_of r s w = ap (λ (b : Flag). b && int_le r.high s.high) (le_true s.low r.low w.from_low) ∙ le_true r.high s.high w.to_high

operand_of : (op : BinOp) (kind : IntType) (b : Interval) → is_right_operand op kind b ≡ true → IsRightOperand op kind b
operand_of Shl kind b e = tt
operand_of Shr kind b e = tt
operand_of Add kind b e = within_of b (values_of kind) e
operand_of Sub kind b e = within_of b (values_of kind) e
operand_of Mul kind b e = within_of b (values_of kind) e
operand_of Div kind b e = within_of b (values_of kind) e
operand_of Rem kind b e = within_of b (values_of kind) e
operand_of And kind b e = within_of b (values_of kind) e
operand_of Or kind b e = within_of b (values_of kind) e
operand_of Xor kind b e = within_of b (values_of kind) e
operand_of Lt kind b e = within_of b (values_of kind) e
operand_of Gt kind b e = within_of b (values_of kind) e
operand_of Le kind b e = within_of b (values_of kind) e
operand_of Ge kind b e = within_of b (values_of kind) e
operand_of Eq kind b e = within_of b (values_of kind) e
operand_of Ne kind b e = within_of b (values_of kind) e

-- a part of a right operand is one
operand_part : (op : BinOp) (kind : IntType) (b d : Interval) → IsWithin b d → is_right_operand op kind d ≡ true → is_right_operand op kind b ≡ true
operand_part Shl kind b d w e = refl
operand_part Shr kind b d w e = refl
operand_part Add kind b d w e = is_within_of b (values_of kind) (within_trans b d (values_of kind) w (within_of d (values_of kind) e))
operand_part Sub kind b d w e = is_within_of b (values_of kind) (within_trans b d (values_of kind) w (within_of d (values_of kind) e))
operand_part Mul kind b d w e = is_within_of b (values_of kind) (within_trans b d (values_of kind) w (within_of d (values_of kind) e))
operand_part Div kind b d w e = is_within_of b (values_of kind) (within_trans b d (values_of kind) w (within_of d (values_of kind) e))
operand_part Rem kind b d w e = is_within_of b (values_of kind) (within_trans b d (values_of kind) w (within_of d (values_of kind) e))
operand_part And kind b d w e = is_within_of b (values_of kind) (within_trans b d (values_of kind) w (within_of d (values_of kind) e))
operand_part Or kind b d w e = is_within_of b (values_of kind) (within_trans b d (values_of kind) w (within_of d (values_of kind) e))
operand_part Xor kind b d w e = is_within_of b (values_of kind) (within_trans b d (values_of kind) w (within_of d (values_of kind) e))
operand_part Lt kind b d w e = is_within_of b (values_of kind) (within_trans b d (values_of kind) w (within_of d (values_of kind) e))
operand_part Gt kind b d w e = is_within_of b (values_of kind) (within_trans b d (values_of kind) w (within_of d (values_of kind) e))
operand_part Le kind b d w e = is_within_of b (values_of kind) (within_trans b d (values_of kind) w (within_of d (values_of kind) e))
operand_part Ge kind b d w e = is_within_of b (values_of kind) (within_trans b d (values_of kind) w (within_of d (values_of kind) e))
operand_part Eq kind b d w e = is_within_of b (values_of kind) (within_trans b d (values_of kind) w (within_of d (values_of kind) e))
operand_part Ne kind b d w e = is_within_of b (values_of kind) (within_trans b d (values_of kind) w (within_of d (values_of kind) e))

-- ## Rows

-- a row of a type that lies in another one
row_fits : (kind : IntType) (o p : Option Interval) (f g : Interval → Option Offset) → IfSome o (IsOfType kind) → IsWithinRow o p → Fits kind (option_map (λ r. record { range = r; offset = f r }) o) (option_map (λ r. record { range = r; offset = g r }) p)
row_fits kind None p f g t w = tt
row_fits kind (Some r) None f g t w = absurd w
row_fits kind (Some r) (Some s) f g t w = (t, w)

row_in_whole : (kind : IntType) (o : Option Interval) (f : Interval → Option Offset) → IfSome o (IsOfType kind) → Fits kind (option_map (λ r. record { range = r; offset = f r }) o) (Some (whole_type kind))
row_in_whole kind None f t = tt
row_in_whole kind (Some r) f t = (t, t.1)

-- ## Conversions

all_converted : (kind : IntType) (r : Interval) → IsInhabited r → IsOfType kind (converted_range kind r)
all_converted kind r i = by_test (is_within r all_types)
  where
    by_test : (b : Flag) → IsOfType kind (if b then conversion_row_of kind r else values_of kind)
    by_test true = typed_conversion kind r i
    by_test false = whole_typed kind

range_converted : (kind : IntType) (r s : Interval) → IsInhabited r → IsWithin r s → IsWithin (converted_range kind r) (converted_range kind s)
range_converted kind r s i w = by_tests (is_within r all_types) (is_within s all_types) refl refl
  where
    by_tests : (b c : Flag) → is_within r all_types ≡ b → is_within s all_types ≡ c → IsWithin (if b then conversion_row_of kind r else values_of kind) (if c then conversion_row_of kind s else values_of kind)
    by_tests true true e f = grown_conversion kind r s i w
    by_tests true false e f = (typed_conversion kind r i).1
    by_tests false true e f = let t : is_within r all_types ≡ true = is_within_of r all_types (within_trans r s all_types w (within_of s all_types f)) in absurd cc
    by_tests false false e f = within_itself (values_of kind)

-- a range of a type that is converted to it stays as it is
kept_in : (kind : IntType) (r s : Interval) → IsInhabited r → IsWithin r s → IsWithin r (values_of kind) → IsWithin r (converted_range kind s)
kept_in kind r s i w t = by_test (is_within s all_types)
  where
    stays : (x : ℤ) → IsMember r x → IsMember (conversion_row_of kind r) x
    stays x m = subst (IsMember (conversion_row_of kind r)) (converted_keeps kind x (record { low = omega (arith, ints, m.above, t.from_low); high = omega (arith, ints, m.below, t.to_high) })) (held_conversion kind r x m)

    exact : IsWithin r (conversion_row_of kind r)
    exact =
        let l = stays r.low (record { above = omega (arith, ints); below = i }) in
        let h = stays r.high (record { above = i; below = omega (arith, ints) }) in
        record { from_low = l.above; to_high = h.below }

    by_test : (b : Flag) → IsWithin r (if b then conversion_row_of kind s else values_of kind)
    by_test true = within_trans r (conversion_row_of kind r) (conversion_row_of kind s) exact (grown_conversion kind r s i w)
    by_test false = t

pub converted_fits : (kind : IntType) (a b : Abstract) → IsInhabited a.range → IsWithin a.range b.range → IsOfType kind (converted_abstract kind a).range × IsWithin (converted_abstract kind a).range (converted_abstract kind b).range
converted_fits kind a b i w = by_tests (is_within a.range (values_of kind)) (is_within b.range (values_of kind)) refl refl
  where
    by_tests : (c d : Flag) → is_within a.range (values_of kind) ≡ c → is_within b.range (values_of kind) ≡ d →
        IsOfType kind (if c then a else only_range (converted_range kind a.range)).range × IsWithin (if c then a else only_range (converted_range kind a.range)).range (if d then b else only_range (converted_range kind b.range)).range
    by_tests true true e f = ((i, within_of a.range (values_of kind) e), w)
    by_tests true false e f = ((i, within_of a.range (values_of kind) e), kept_in kind a.range b.range i w (within_of a.range (values_of kind) e))
    by_tests false true e f = let t : is_within a.range (values_of kind) ≡ true = is_within_of a.range (values_of kind) (within_trans a.range b.range (values_of kind) w (within_of b.range (values_of kind) f)) in absurd cc
    by_tests false false e f = (all_converted kind a.range i, range_converted kind a.range b.range i w)

-- ## Operators

pub unary_fits : (op : UnOp) (kind : IntType) (a b : Abstract) → IsInhabited a.range → IsWithin a.range b.range → Fits kind (unary_abstract op kind a) (unary_abstract op kind b)
unary_fits op kind a b i w = by_tests (is_within a.range (values_of kind)) (is_within b.range (values_of kind)) refl refl
  where
    by_tests : (c d : Flag) → is_within a.range (values_of kind) ≡ c → is_within b.range (values_of kind) ≡ d →
        Fits kind (if c then option_map (λ r. record { range = r; offset = unary_offset op a.offset }) (unary_row_of op kind a.range) else Some (whole_type kind))
        (if d then option_map (λ r. record { range = r; offset = unary_offset op b.offset }) (unary_row_of op kind b.range) else Some (whole_type kind))
    by_tests true true e f = row_fits kind (unary_row_of op kind a.range) (unary_row_of op kind b.range) (λ r. unary_offset op a.offset) (λ r. unary_offset op b.offset)
        (typed_unary op kind a.range i (within_of a.range (values_of kind) e)) (grown_unary op kind a.range b.range i w (within_of b.range (values_of kind) f))
    by_tests true false e f = row_in_whole kind (unary_row_of op kind a.range) (λ r. unary_offset op a.offset) (typed_unary op kind a.range i (within_of a.range (values_of kind) e))
    by_tests false true e f = let t : is_within a.range (values_of kind) ≡ true = is_within_of a.range (values_of kind) (within_trans a.range b.range (values_of kind) w (within_of b.range (values_of kind) f)) in absurd cc
    by_tests false false e f = (whole_typed kind, within_itself (values_of kind))

pub binary_fits : (op : BinOp) (kind : IntType) (a b c d : Abstract) → IsInhabited a.range → IsInhabited b.range → IsWithin a.range c.range → IsWithin b.range d.range → Fits kind (binary_abstract op kind a b) (binary_abstract op kind c d)
binary_fits op kind a b c d i j w v = by_tests (is_within a.range (values_of kind)) (is_right_operand op kind b.range) (is_within c.range (values_of kind)) (is_right_operand op kind d.range) refl refl refl refl
  where
    by_tests : (p q r s : Flag) → is_within a.range (values_of kind) ≡ p → is_right_operand op kind b.range ≡ q → is_within c.range (values_of kind) ≡ r → is_right_operand op kind d.range ≡ s →
        Fits kind (if p && q then option_map (λ r. record { range = r; offset = binary_offset op kind a b }) (row_of op kind a.range b.range) else Some (whole_type kind))
        (if r && s then option_map (λ r. record { range = r; offset = binary_offset op kind c d }) (row_of op kind c.range d.range) else Some (whole_type kind))
    by_tests true true true true e f g h = row_fits kind (row_of op kind a.range b.range) (row_of op kind c.range d.range) (λ r. binary_offset op kind a b) (λ r. binary_offset op kind c d)
        (typed op kind a.range b.range i j (within_of a.range (values_of kind) e) (operand_of op kind b.range f))
        (grown op kind a.range b.range c.range d.range i j w v (within_of c.range (values_of kind) g) (operand_of op kind d.range h))
    by_tests true true false s e f g h = row_in_whole kind (row_of op kind a.range b.range) (λ r. binary_offset op kind a b) (typed op kind a.range b.range i j (within_of a.range (values_of kind) e) (operand_of op kind b.range f))
    by_tests true true true false e f g h = row_in_whole kind (row_of op kind a.range b.range) (λ r. binary_offset op kind a b) (typed op kind a.range b.range i j (within_of a.range (values_of kind) e) (operand_of op kind b.range f))
    by_tests false q true true e f g h = let t : is_within a.range (values_of kind) ≡ true = is_within_of a.range (values_of kind) (within_trans a.range c.range (values_of kind) w (within_of c.range (values_of kind) g)) in absurd cc
    by_tests false q false s e f g h = (whole_typed kind, within_itself (values_of kind))
    by_tests false q true false e f g h = (whole_typed kind, within_itself (values_of kind))
    by_tests true false true true e f g h = let t : is_right_operand op kind b.range ≡ true = operand_part op kind b.range d.range v h in absurd cc
    by_tests true false false s e f g h = (whole_typed kind, within_itself (values_of kind))
    by_tests true false true false e f g h = (whole_typed kind, within_itself (values_of kind))
