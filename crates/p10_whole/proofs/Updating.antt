-- Types that agree as the row of an operator asks.
use Rattle.std.proofs.Common.{◌≡◌, Bool, true, false, not, ◌&&◌, ◌||◌, List, refl, ap, sym, ◌∙◌, subst}
use Rattle.std.specs.Bool.{beq}
use Rattle.p10_int.specs.declared.types.IntType.{IntType}
use Rattle.p10_int.specs.declared.operators.BinOp.{BinOp}
use Rattle.p10_int.specs.Types.{usual_of, promoted}
use Rattle.p10_core.specs.declared.c_type.TypeForm.{TypeForm}
use Rattle.p10_core.specs.declared.c_type.TypeForm.TheVariants.{Int}
use Rattle.p10_core.specs.declared.statements.UpdateKind.{UpdateKind}
use Rattle.p10_core.specs.Types.{PlainType, PlainStructure, integer, pointer, plain_form_of_type}
use Rattle.p10_core.specs.Typed.{PlainPlace, PlainValue, place_type, type_of}
use Rattle.p10_core.specs.Whole.{Surroundings, IsWholePlace, IsWholeValue}
use Rattle.p10_core.specs.WholePrograms.{IsStep, Updates}
use Rattle.p10_core.specs.Rows.{row_where, binary_row, usual_row, shift_row, is_complete, is_scalar, is_modifiable, same_form, mark_of, adds_const}
use Rattle.p10_whole.specs.private.Shows.{Shows}
use Rattle.p10_whole.specs.private.Updates.{UpdateAgrees, AreUsual}
use Rattle.p10_whole.proofs.Showing.{both_true}
use Rattle.p10_whole.proofs.SameTypes.{same_itself}

marked_or_not : (a : Bool) → (not a || a) ≡ true
marked_or_not true = refl
marked_or_not false = refl

-- a pointer may become one of its own type
adds_itself : (t : PlainType) → adds_const t t ≡ true
adds_itself t =
    let same = both_true (beq (mark_of t) (mark_of t)) (same_form t t) (same_itself t) in
    ap (λ x. x && (not (mark_of t) || mark_of t)) same.1 ∙ marked_or_not (mark_of t)

-- integers at their common type
pub usual_agrees : (ss : List PlainStructure) (op : BinOp) (mark : Bool) (left : IntType) (t : PlainType) (right : IntType) (r : Bool) → binary_row ss op false false (integer false left) (integer false right) ≡ usual_row left right → Shows r (AreUsual left t right) → Shows r (UpdateAgrees ss op (integer mark left) t (integer false right))
usual_agrees ss op mark left t right r e h = record {
  shows = λ k.
      let u : PlainType = integer false (usual_of left right) in
      record {
        right_type = integer false right;
        entry = record { result = u; left = u; right = u };
        is = e;
        type_is = (h.shows k).type_is;
        operand_is = ap (integer false) (h.shows k).right_is;
        result_fits = refl;
      };
}

-- integers that are shifted
pub shift_agrees : (ss : List PlainStructure) (op : BinOp) (mark : Bool) (left : IntType) (t : PlainType) (right : IntType) (a b : Bool) → binary_row ss op false false (integer false left) (integer false right) ≡ shift_row (integer false left) (integer false right) → Shows a (t ≡ integer false (promoted left)) → Shows b (right ≡ promoted right) → Shows (a && b) (UpdateAgrees ss op (integer mark left) t (integer false right))
shift_agrees ss op mark left t right a b e g h = record {
  shows = λ k.
      let both = both_true a b k in
      let u : PlainType = integer false (promoted left) in
      record {
        right_type = integer false right;
        entry = record { result = u; left = u; right = integer false (promoted right) };
        is = e;
        type_is = g.shows both.0;
        operand_is = ap (integer false) (h.shows both.1);
        result_fits = refl;
      };
}

-- a pointer that is moved
pub move_agrees : (ss : List PlainStructure) (op : BinOp) (mark : Bool) (target t : PlainType) (by : IntType) (a b : Bool) → is_complete ss target ≡ true → binary_row ss op false false (pointer false target) (integer false by) ≡ row_where (is_complete ss target) (pointer false target) (pointer false target) (integer false (promoted by)) → Shows a (t ≡ pointer false target) → Shows b (by ≡ promoted by) → Shows (a && b) (UpdateAgrees ss op (pointer mark target) t (integer false by))
move_agrees ss op mark target t by a b whole e g h = record {
  shows = λ k.
      let both = both_true a b k in
      record {
        right_type = integer false by;
        entry = record { result = pointer false target; left = pointer false target; right = integer false (promoted by) };
        is = e ∙ ap (λ x. row_where x (pointer false target) (pointer false target) (integer false (promoted by))) whole;
        type_is = g.shows both.0;
        operand_is = ap (integer false) (h.shows both.1);
        result_fits = adds_itself target;
      };
}

-- ## Types of the code

pub by_integers : (ss : List PlainStructure) (op : BinOp) (mark other : Bool) (f g : TypeForm) (left right : IntType) (t : PlainType) (r : Bool) → f ≡ Int left → g ≡ Int right → ((structures : List PlainStructure) (m : Bool) → Shows r (UpdateAgrees structures op (integer m left) t (integer false right))) → Shows (not other && r) (UpdateAgrees ss op (plain_form_of_type mark f) t (plain_form_of_type other g))
by_integers ss op mark true f g left right t r e h s = record { shows = λ k. absurd cc }
by_integers ss op mark false f g left right t r e h s =
    subst (λ y. Shows r (UpdateAgrees ss op (plain_form_of_type mark f) t (plain_form_of_type false y))) (sym h)
    (subst (λ x. Shows r (UpdateAgrees ss op (plain_form_of_type mark x) t (integer false right))) (sym e) (s ss mark))

pub by_pointer : (ss : List PlainStructure) (op : BinOp) (mark other : Bool) (target : PlainType) (f g : TypeForm) (by : IntType) (t : PlainType) (whole r : Bool) → plain_form_of_type mark f ≡ pointer mark target → g ≡ Int by → whole ≡ is_complete ss target → ((structures : List PlainStructure) (m : Bool) → is_complete structures target ≡ true → Shows r (UpdateAgrees structures op (pointer m target) t (integer false by))) → Shows (not other && (whole && r)) (UpdateAgrees ss op (plain_form_of_type mark f) t (plain_form_of_type other g))
by_pointer ss op mark true target f g by t whole r e h c s = record { shows = λ k. absurd cc }
by_pointer ss op mark false target f g by t whole r e h c s = record {
  shows = λ k.
      let both = both_true whole r k in
      subst (λ y. UpdateAgrees ss op (plain_form_of_type mark f) t (plain_form_of_type false y)) (sym h)
      (subst (λ x. UpdateAgrees ss op x t (integer false by)) (sym e) ((s ss mark (sym c ∙ both.0)).shows both.1));
}

-- ## Updates

pub update_is : (c : Surroundings) (kind : UpdateKind) (op : BinOp) (t : PlainType) (p : PlainPlace) (v : PlainValue) (a b d e f g : Bool) → Shows a (IsWholePlace c p) → Shows b (IsWholeValue c v) → d ≡ is_scalar (place_type p) → e ≡ is_modifiable c.structures (place_type p) → Shows f (IsStep kind op v) → Shows g (UpdateAgrees c.structures op (place_type p) t (type_of v)) → Shows ((a && b) && ((d && e) && (f && g))) (Updates c kind op t p v)
update_is c kind op t p v a b d e f g place value scalar modifiable step row = record {
  shows = λ k.
      let outer = both_true (a && b) ((d && e) && (f && g)) k in
      let trees = both_true a b outer.0 in
      let rest = both_true (d && e) (f && g) outer.1 in
      let assigned = both_true d e rest.0 in
      let agrees = both_true f g rest.1 in
      let types = row.shows agrees.1 in
      record {
        place = place.shows trees.0;
        value = value.shows trees.1;
        scalar = sym scalar ∙ assigned.0;
        modifiable = sym modifiable ∙ assigned.1;
        step = step.shows agrees.0;
        right_type = types.right_type;
        entry = types.entry;
        is = types.is;
        type_is = types.type_is;
        value_is = types.operand_is;
        result_fits = types.result_fits;
      };
}
