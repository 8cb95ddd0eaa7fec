-- Evaluations of constant expressions give what these fold to.
use Rattle.std.proofs.Common.{◌≡◌, ◌≤◌, ◌&&◌, List, Bool, true, false, refl, sym, ◌∙◌, ap, subst, arith, Option, Some, None, Result, Ok, Err, ℤ, pos}
use Rattle.std.specs.Prelude.{not, if◌then◌else◌}
use Rattle.std.proofs.lemmas.Bool.{and_parts}
use Rattle.p10_base.specs.declared.at.At.{At}
use Rattle.p10_int.specs.declared.types.IntType.{IntType}
use Rattle.p10_int.specs.declared.types.IntType.TheVariants.{Int as int}
use Rattle.p10_int.specs.declared.operators.Stop.{Stop}
use Rattle.p10_int.specs.declared.operators.BinOp.{BinOp}
use Rattle.p10_int.specs.declared.operators.UnOp.{UnOp}
use Rattle.p10_int.specs.Types.{InRange}
use Rattle.p10_int.specs.Conversion.{converted}
use Rattle.p10_int.specs.Operators.{operate, operate_unary, truth_of}
use Rattle.p10_int.proofs.Conversions.{zero_in, one_in, converted_in, converted_keeps}
use Rattle.p10_core.specs.declared.typed.LogicOp.{LogicOp}
use Rattle.p10_core.specs.declared.typed.LogicOp.TheVariants.{And, Or}
use Rattle.p10_core.specs.Types.{PlainType, void, integer, pointer, array, structure}
use Rattle.p10_core.specs.Typed.{PlainValue, value, type_of, PlainForm, constant, read, sense, address, decay, convert, cast, unary, binary, logic, conditional, call, built_in}
use Rattle.p10_core.specs.Rows.{is_integer, int_type}
use Rattle.p10_core.specs.Constants.{first_of_parts, converted_part, inconstant_part, integer_of, or_place, folded_then, is_zero, truth_number, logic_result, is_small, unary_result, right_operand, binary_result, fold, is_constant}
use Rattle.p10_core.specs.Whole.{Surroundings, Converts, integers, pointers, nulls, Casts, to_void, integers as cast_integers, nulls as cast_nulls, allocations, UnaryAgrees, BinaryAgrees, ConditionalAgrees, IsWholeValue}
use Rattle.p10_core.specs.WholePrograms.{gives_other_than_zero, is_true_test}
use Rattle.p10_meaning.specs.declared.pointers.Scalar.{Scalar}
use Rattle.p10_meaning.specs.declared.pointers.Scalar.TheVariants.{Int}
use Rattle.p10_meaning.specs.Objects.{on_ok}
use Rattle.p10_meaning.specs.States.{State, Progress, gives, step, and_then, or_undefined}
use Rattle.p10_meaning.specs.Scalars.{is_true, truth_value, integer_type}
use Rattle.p10_meaning.specs.Values.{Setting, Held, used, give, is_decided, evaluate, perform}
use Rattle.p10_sums.specs.Keeping.{HoldsOf}
use Rattle.p10_evaluation.proofs.Rules.{holds_step, holds_last, holds_map}
use Rattle.p10_clean_soundness.proofs.ConstantRows.{UnaryNumber, unary_number, BinaryNumber, binary_number, chosen_first, same_operands}

-- ## Constant forms

both_constant : (a b : Option At) → is_constant (first_of_parts a b) ≡ true → (is_constant a ≡ true) × (is_constant b ≡ true)
both_constant None b e = (refl, e)
both_constant (Some at) b e = absurd cc

-- what a fold goes on with
record GoesOn (r : Result ℤ At) (go : ℤ → Result ℤ At) (z : ℤ) : Type 0 where
  number : ℤ
  is : r ≡ Ok number
  then_is : go number ≡ Ok z

goes_on : (r : Result ℤ At) (go : ℤ → Result ℤ At) (z : ℤ) → folded_then r go ≡ Ok z → GoesOn r go z
goes_on (Ok x) go z e = record { number = x; is = refl; then_is = e }
goes_on (Err at) go z e = absurd cc

ok_same : (x z : ℤ) → ◌≡◌ {A = Result ℤ At} (Ok x) (Ok z) → x ≡ z
ok_same x z e = cc

at_place : (at : At) (r : Result ℤ Stop) (z : ℤ) → or_place at r ≡ Ok z → r ≡ Ok z
at_place at (Ok x) z e = ap Ok (ok_same x z e)
at_place at (Err stop) z e = absurd cc

small_is : (at : At) (b : Bool) (x z : ℤ) → ◌≡◌ {A = Result ℤ At} (if b then Ok x else Err at) (Ok z) → x ≡ z
small_is at true x z e = ok_same x z e
small_is at false x z e = absurd cc

truth_in : (b : Bool) → InRange int (truth_of b)
truth_in true = one_in int
truth_in false = zero_in int

module _ (c : Surroundings) (s : Setting) (held : List Held) where
  -- what an evaluation gives is a number
  abbrev Gives : PlainValue → ℤ → Type 0
  Gives v z = (w : State) → HoldsOf (λ x w. x ≡ Int z) (evaluate s held v w)

  -- so it is, and the number is one of the value's type
  pub record IsNumber (v : PlainValue) (z : ℤ) : Type 0 where
    pub kind : IntType
    pub type_is : type_of v ≡ integer false kind
    pub in_range : InRange kind z
    pub gives_it : Gives v z

  abbrev Performs : At → PlainType → PlainForm → ℤ → State → Type 0
  Performs at t form z w = HoldsOf (λ x w. x ≡ Some (Int z)) (perform s held at t form w)

  performed : (at : At) (t : PlainType) (form : PlainForm) (z : ℤ) → ((w : State) → Performs at t form z w) → Gives (value at t form) z
  performed at t form z h w =
      holds_last (λ x w. x ≡ Some (Int z)) (λ x w. x ≡ Int z) (perform s held at t form w) _ (h w)
      (λ x u e. subst (λ x. HoldsOf (λ x w. x ≡ Int z) (or_undefined (used x) at.span u (λ x. gives x u))) (sym e) refl)

  least : (w : State) → w.left ≤ w.left
  least w = omega arith

  in_step : (z : ℤ) (w : State) (go : State → Progress (Option Scalar)) → ((w : State) → HoldsOf (λ x w. x ≡ Some (Int z)) (go w)) → HoldsOf (λ x w. x ≡ Some (Int z)) (step w go)
  in_step z w go h = holds_step (λ x w. x ≡ Some (Int z)) w.left w go (least w) (λ l less. h (record w { left = l }))

  -- a number is given, and something is done with it
  with_number : (z y : ℤ) (v : PlainValue) (w : State) (go : Scalar → State → Progress (Option Scalar)) → Gives v z → ((u : State) → HoldsOf (λ x w. x ≡ Some (Int y)) (go (Int z) u)) → HoldsOf (λ x w. x ≡ Some (Int y)) (and_then (evaluate s held v w) go)
  with_number z y v w go g h =
      holds_last (λ x w. x ≡ Int z) (λ x w. x ≡ Some (Int y)) (evaluate s held v w) go (g w) (λ x u e. subst (λ x. HoldsOf (λ x w. x ≡ Some (Int y)) (go x u)) (sym e) (h u))

  given_result : (z : ℤ) (r : Result ℤ Stop) (at : At) (w : State) → r ≡ Ok z → HoldsOf (λ x w. x ≡ Some (Int z)) (or_undefined (on_ok r (λ z. Ok (Int z))) at.span w (λ z. give z w))
  given_result z r at w e = subst (λ r. HoldsOf (λ x w. x ≡ Some (Int z)) (or_undefined (on_ok r (λ z. Ok (Int z))) at.span w (λ z. give z w))) (sym e) refl

  -- ## Conversions

  convert_number : (at : At) (t : PlainType) (v : PlainValue) → Converts t v → is_constant (converted_part at t (inconstant_part v)) ≡ true → (x z : ℤ) → IsNumber v x → converted (integer_of t) x ≡ z → IsNumber (value at t (convert v)) z
  convert_number at t v (integers i j u e) k x z n f = record {
    kind = i;
    type_is = refl;
    in_range = subst (InRange i) f (converted_in i x);
    gives_it = performed at (integer false i) (convert v) z (λ w. with_number x z v w _ n.gives_it (λ u. ap (λ z. Some (Int z)) f));
  }
  convert_number at t v (pointers r q u e a) k x z n f = absurd cc
  convert_number at t v (nulls j q u e a) k x z n f = absurd cc

  cast_number : (at : At) (t : PlainType) (v : PlainValue) → Casts t v → is_constant (converted_part at t (inconstant_part v)) ≡ true → (x z : ℤ) → IsNumber v x → converted (integer_of t) x ≡ z → IsNumber (value at t (cast v)) z
  cast_number at t v (cast_integers i j u e) k x z n f = record {
    kind = i;
    type_is = refl;
    in_range = subst (InRange i) f (converted_in i x);
    gives_it = performed at (integer false i) (cast v) z (λ w. in_step z w _ (λ w. with_number x z v w _ n.gives_it (λ u. ap (λ z. Some (Int z)) f)));
  }
  cast_number at t v (to_void u) k x z n f = absurd cc
  cast_number at t v (cast_nulls j q u e a) k x z n f = absurd cc
  cast_number at t v (allocations q u e a) k x z n f = absurd cc

  part_constant : (at : At) (t : PlainType) (part : Option At) → is_constant (converted_part at t part) ≡ true → is_constant part ≡ true
  part_constant at (integer d i) part e = e
  part_constant at (void d) part e = absurd cc
  part_constant at (pointer d t) part e = absurd cc
  part_constant at (array d t n) part e = absurd cc
  part_constant at (structure d n) part e = absurd cc

  -- ## Operators

  unary_constant : (at : At) (t : PlainType) (op : UnOp) (v : PlainValue) → UnaryAgrees op t (type_of v) → (x z : ℤ) → IsNumber v x →
      operate_unary op (integer_of (type_of v)) (converted (integer_of (type_of v)) x) ≡ Ok z → IsNumber (value at t (unary op v)) z
  unary_constant at t op v a x z n e = record {
    kind = u.kind;
    type_is = type_is;
    in_range = u.lands x z n.in_range folded;
    gives_it = performed at t (unary op v) z (λ w. in_step z w _ (λ w. with_number x z v w _ n.gives_it (λ u. given_result z (operate_unary op (integer_type t) x) at u operated_is)));
  }
    where
      u : UnaryNumber op n.kind a.entry.result
      u = unary_number op a.of_type a.entry n.kind a.is (sym a.operand_is ∙ n.type_is)

      type_is : t ≡ integer false u.kind
      type_is = a.result_is ∙ u.type_is

      folded : operate_unary op n.kind x ≡ Ok z
      folded = sym (ap (λ k. operate_unary op k (converted k x)) (ap integer_of n.type_is) ∙ ap (λ x. operate_unary op n.kind x) (converted_keeps n.kind x n.in_range)) ∙ e

      operated_is : operate_unary op (integer_type t) x ≡ Ok z
      operated_is = ap (λ k. operate_unary op k x) (ap integer_type type_is) ∙ (u.same x ∙ folded)

  binary_constant : (at : At) (t : PlainType) (op : BinOp) (a b : PlainValue) → BinaryAgrees c op t (type_of a) (type_of b) → (x y z : ℤ) → IsNumber a x → IsNumber b y →
      operate op (integer_of (type_of a)) (converted (integer_of (type_of a)) x) (right_operand op (integer_of (type_of a)) y) ≡ Ok z → IsNumber (value at t (binary op a b)) z
  binary_constant at t op a b g x y z n m e = record {
    kind = u.kind;
    type_is = type_is;
    in_range = u.lands x y z n.in_range folded;
    gives_it = performed at t (binary op a b) z (λ w. in_step z w _ (λ w. with_number x z a w _ n.gives_it (λ w. with_number y z b w _ m.gives_it (λ u. given_result z (operate op (integer_type t) x y) at u operated_is))));
  }
    where
      u : BinaryNumber op n.kind m.kind g.entry.result
      u = binary_number c.structures op g.left_null g.right_null g.left_type g.right_type g.entry n.kind m.kind g.is (sym g.left_is ∙ n.type_is) (sym g.right_is ∙ m.type_is)

      type_is : t ≡ integer false u.kind
      type_is = g.result_is ∙ u.type_is

      folded : operate op n.kind x y ≡ Ok z
      folded = sym (ap (λ k. operate op k (converted k x) (right_operand op k y)) (ap integer_of n.type_is) ∙ (ap (λ x. operate op n.kind x (right_operand op n.kind y)) (converted_keeps n.kind x n.in_range)
          ∙ ap (λ y. operate op n.kind x y) (u.right y m.in_range))) ∙ e

      operated_is : operate op (integer_type t) x y ≡ Ok z
      operated_is = ap (λ k. operate op k x y) (ap integer_type type_is) ∙ (u.same x y ∙ folded)

  -- ## Choices

  abbrev Numbers : PlainValue → Type 0
  Numbers v = (z : ℤ) → fold v ≡ Ok z → IsNumber v z

  -- a truth value is given for a number
  truth_given : (y z : ℤ) (u : State) → truth_number y ≡ Ok z → HoldsOf (λ x w. x ≡ Some (Int z)) (give (truth_value (is_true (Int y))) u)
  truth_given y z u e = ap (λ z. Some (Int z)) (ok_same (truth_of (not (is_zero y))) z e)

  -- what follows the left operand, by whether that is 0
  abbrev AfterLeft : LogicOp → PlainValue → Bool → ℤ → Type 0
  AfterLeft op b zero_is z = InRange int z × ((u : State) → HoldsOf (λ x w. x ≡ Some (Int z)) (if is_decided op (not zero_is) then give (truth_value (not zero_is)) u else and_then (evaluate s held b u) (λ y w. give (truth_value (is_true y)) w)))

  by_right : (b : PlainValue) → Numbers b → (z : ℤ) → folded_then (fold b) truth_number ≡ Ok z → InRange int z × ((u : State) → HoldsOf (λ x w. x ≡ Some (Int z)) (and_then (evaluate s held b u) (λ y w. give (truth_value (is_true y)) w)))
  by_right b n z e =
      let g : GoesOn (fold b) truth_number z = goes_on (fold b) truth_number z e in (
        subst (InRange int) (ok_same (truth_of (not (is_zero g.number))) z g.then_is) (truth_in (not (is_zero g.number))),
        λ u. with_number g.number z b u _ (n g.number g.is).gives_it (λ u. truth_given g.number z u g.then_is),
      )

  after_left : (op : LogicOp) (b : PlainValue) → Numbers b → (zero_is : Bool) (x z : ℤ) → is_zero x ≡ zero_is → logic_result op (Ok x) (fold b) ≡ Ok z → AfterLeft op b zero_is z
  after_left And b n true x z q e = let same : pos 0 ≡ z = ok_same (pos 0) z (sym (ap (λ q. if q then Ok (pos 0) else folded_then (fold b) truth_number) q) ∙ e) in (subst (InRange int) same (zero_in int), λ u. ap (λ z. Some (Int z)) same)
  after_left And b n false x z q e = by_right b n z (sym (ap (λ q. if q then Ok (pos 0) else folded_then (fold b) truth_number) q) ∙ e)
  after_left Or b n true x z q e = by_right b n z (sym (ap (λ q. if q then folded_then (fold b) truth_number else Ok (pos 1)) q) ∙ e)
  after_left Or b n false x z q e = let same : pos 1 ≡ z = ok_same (pos 1) z (sym (ap (λ q. if q then folded_then (fold b) truth_number else Ok (pos 1)) q) ∙ e) in (subst (InRange int) same (one_in int), λ u. ap (λ z. Some (Int z)) same)

  left_of : (op : LogicOp) (a b : PlainValue) (z : ℤ) → logic_result op (fold a) (fold b) ≡ Ok z → (x : ℤ) × (fold a ≡ Ok x) × (logic_result op (Ok x) (fold b) ≡ Ok z)
  left_of op a b z e = by_left op (fold a) refl e
    where
      by_left : (op : LogicOp) (r : Result ℤ At) → fold a ≡ r → logic_result op r (fold b) ≡ Ok z → (x : ℤ) × (fold a ≡ Ok x) × (logic_result op (Ok x) (fold b) ≡ Ok z)
      by_left op (Ok x) h e = (x, h, e)
      by_left And (Err at) h e = absurd cc
      by_left Or (Err at) h e = absurd cc

  logic_constant : (at : At) (t : PlainType) (op : LogicOp) (a b : PlainValue) → t ≡ int_type → Numbers a → Numbers b → (z : ℤ) → logic_result op (fold a) (fold b) ≡ Ok z → IsNumber (value at t (logic op a b)) z
  logic_constant at t op a b t_is n m z e =
      let l : (x : ℤ) × (fold a ≡ Ok x) × (logic_result op (Ok x) (fold b) ≡ Ok z) = left_of op a b z e in
      let r : AfterLeft op b (is_zero l.0) z = after_left op b m (is_zero l.0) l.0 z refl l.2 in
      record {
        kind = int;
        type_is = t_is;
        in_range = r.0;
        gives_it = performed at t (logic op a b) z (λ w. in_step z w _ (λ w. with_number l.0 z a w _ (n l.0 l.1).gives_it r.1));
      }

  -- the chosen operand of `?:`, by whether the condition is 0
  record Chosen (a b : PlainValue) (t : PlainType) (zero_is : Bool) (z : ℤ) : Type 0 where
    kind : IntType
    type_is : t ≡ integer false kind
    in_range : InRange kind z
    gives_it : (u : State) → HoldsOf (λ x w. x ≡ Int z) (if not zero_is then evaluate s held a u else evaluate s held b u)

  chosen : (a b : PlainValue) (t : PlainType) → ConditionalAgrees t (type_of a) (type_of b) → Numbers a → Numbers b → (zero_is : Bool) (x z : ℤ) → is_zero x ≡ zero_is → (if is_zero x then fold b else fold a) ≡ Ok z → Chosen a b t zero_is z
  chosen a b t g n m true x z q e =
      let k : IsNumber b z = m z (sym (ap (λ q. if q then fold b else fold a) q) ∙ e) in
      record {
        kind = k.kind;
        type_is = g.result_is ∙ chosen_first g.left_null g.right_null g.left_type g.right_type g.entry k.kind g.is
            (same_operands g.left_null g.right_null g.left_type g.right_type g.entry k.kind g.is (sym g.right_is ∙ k.type_is));
        in_range = k.in_range;
        gives_it = k.gives_it;
      }
  chosen a b t g n m false x z q e =
      let k : IsNumber a z = n z (sym (ap (λ q. if q then fold b else fold a) q) ∙ e) in
      record {
        kind = k.kind;
        type_is = g.result_is ∙ chosen_first g.left_null g.right_null g.left_type g.right_type g.entry k.kind g.is (sym g.left_is ∙ k.type_is);
        in_range = k.in_range;
        gives_it = k.gives_it;
      }

  conditional_constant : (at : At) (t : PlainType) (v a b : PlainValue) → ConditionalAgrees t (type_of a) (type_of b) → Numbers v → Numbers a → Numbers b → (z : ℤ) → folded_then (fold v) (λ x. if is_zero x then fold b else fold a) ≡ Ok z →
      IsNumber (value at t (conditional v a b)) z
  conditional_constant at t v a b g k n m z e =
      let l : GoesOn (fold v) (λ x. if is_zero x then fold b else fold a) z = goes_on (fold v) (λ x. if is_zero x then fold b else fold a) z e in
      let r : Chosen a b t (is_zero l.number) z = chosen a b t g n m (is_zero l.number) l.number z refl l.then_is in
      record {
        kind = r.kind;
        type_is = r.type_is;
        in_range = r.in_range;
        gives_it = performed at t (conditional v a b) z (λ w. in_step z w _ (λ w. with_number l.number z v w _ (k l.number l.is).gives_it (λ u.
            holds_last (λ x w. x ≡ Int z) (λ x w. x ≡ Some (Int z)) (if not (is_zero l.number) then evaluate s held a u else evaluate s held b u) give (r.gives_it u) (λ x u e. ap (λ x. Some x) e))));
      }

  -- ## All values

  pub numbers : (v : PlainValue) → IsWholeValue c v → is_constant (inconstant_part v) ≡ true → Numbers v
  numbers (value at t (constant x)) i k z e = let same : x ≡ z = small_is at (is_small x) x z e in record {
    kind = i.kind;
    type_is = i.type_is;
    in_range = subst (InRange i.kind) same i.in_range;
    gives_it = performed at t (constant x) z (λ w. in_step z w _ (λ u. ap (λ z. Some (Int z)) same));
  }
  numbers (value at t (convert v)) i k z e =
      let g : GoesOn (fold v) (λ x. Ok (converted (integer_of t) x)) z = goes_on (fold v) (λ x. Ok (converted (integer_of t) x)) z e in
      convert_number at t v i.1 k g.number z (numbers v i.0 (part_constant at t (inconstant_part v) k) g.number g.is) (ok_same (converted (integer_of t) g.number) z g.then_is)
  numbers (value at t (cast v)) i k z e =
      let g : GoesOn (fold v) (λ x. Ok (converted (integer_of t) x)) z = goes_on (fold v) (λ x. Ok (converted (integer_of t) x)) z e in
      cast_number at t v i.1 k g.number z (numbers v i.0 (part_constant at t (inconstant_part v) k) g.number g.is) (ok_same (converted (integer_of t) g.number) z g.then_is)
  numbers (value at t (unary op v)) i k z e =
      let g : GoesOn (fold v) (λ x. or_place at (unary_result op (integer_of (type_of v)) x)) z = goes_on (fold v) (λ x. or_place at (unary_result op (integer_of (type_of v)) x)) z e in
      unary_constant at t op v i.1 g.number z (numbers v i.0 k g.number g.is) (at_place at (unary_result op (integer_of (type_of v)) g.number) z g.then_is)
  numbers (value at t (binary op a b)) i k z e =
      let both = both_constant (inconstant_part a) (inconstant_part b) k in
      let g : GoesOn (fold a) (λ x. folded_then (fold b) (λ y. or_place at (binary_result op (integer_of (type_of a)) x y))) z = goes_on (fold a) _ z e in
      let h : GoesOn (fold b) (λ y. or_place at (binary_result op (integer_of (type_of a)) g.number y)) z = goes_on (fold b) _ z g.then_is in
      binary_constant at t op a b i.2 g.number h.number z (numbers a i.0 both.0 g.number g.is) (numbers b i.1 both.1 h.number h.is) (at_place at (binary_result op (integer_of (type_of a)) g.number h.number) z h.then_is)
  numbers (value at t (logic op a b)) i k z e =
      let both = both_constant (inconstant_part a) (inconstant_part b) k in
      logic_constant at t op a b i.2 (numbers a i.0 both.0) (numbers b i.1 both.1) z e
  numbers (value at t (conditional v a b)) i k z e =
      let first = both_constant (inconstant_part v) (first_of_parts (inconstant_part a) (inconstant_part b)) k in
      let both = both_constant (inconstant_part a) (inconstant_part b) first.1 in
      conditional_constant at t v a b i.4 (numbers v i.0 first.0) (numbers a i.1 both.0) (numbers b i.2 both.1) z e
  numbers (value at t (read q)) i k z e = absurd cc
  numbers (value at t (sense n)) i k z e = absurd cc
  numbers (value at t (address q)) i k z e = absurd cc
  numbers (value at t (decay q)) i k z e = absurd cc
  numbers (value at t (call name n arguments)) i k z e = absurd cc
  numbers (value at t (built_in name f arguments)) i k z e = absurd cc

  -- a constant test other than 0 is true
  pub true_test : (v : PlainValue) → IsWholeValue c v → is_true_test v ≡ true → (w : State) → HoldsOf (λ x w. is_true x ≡ true) (evaluate s held v w)
  true_test v i e w =
      let parts = and_parts (is_constant (inconstant_part v)) (gives_other_than_zero (fold v)) (and_parts (is_integer (type_of v)) (is_constant (inconstant_part v) && gives_other_than_zero (fold v)) e).1 in
      by_fold (fold v) refl parts.0 parts.1
    where
      by_fold : (r : Result ℤ At) → fold v ≡ r → is_constant (inconstant_part v) ≡ true → gives_other_than_zero r ≡ true → HoldsOf (λ x w. is_true x ≡ true) (evaluate s held v w)
      by_fold (Ok z) f k o = holds_map (λ x w. x ≡ Int z) (λ x w. is_true x ≡ true) (evaluate s held v w) (λ x u is. ap is_true is ∙ o) ((numbers v i k z f).gives_it w)
      by_fold (Err at) f k o = absurd cc
