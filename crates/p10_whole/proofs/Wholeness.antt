-- Values and places are whole, by the tests of their parts.
use Rattle.std.specs.Prelude.{◌≡◌, ℕ, suc, ◌+◌, ◌<◌, ◌≤◌, Bool, true, ◌&&◌, List, ◌∷◌, length}
use Rattle.std.proofs.Common.{ap, sym, ◌∙◌, get_or, drop, drop-cons, add-one, subst}
use Rattle.std.proofs.lemmas.List.{drop_all}
use Rattle.p10_core.specs.declared.typed.Value.{Value}
use Rattle.p10_core.specs.Types.{PlainType}
use Rattle.p10_core.specs.Typed.{PlainValue, PlainForm, logic, conditional, PlainPlaceForm, type_of}
use Rattle.p10_core.specs.declared.typed.LogicOp.{LogicOp}
use Rattle.p10_core.specs.Views.{plain_value, plain_values}
use Rattle.p10_core.specs.Rows.{is_scalar, int_type}
use Rattle.p10_core.specs.Whole.{Surroundings, ConditionalAgrees, IsWholeValue, IsWholeForm, IsWholePlaceForm, AreWholeValues}
use Rattle.p10_whole.specs.private.Shows.{Shows}
use Rattle.p10_whole.proofs.Showing.{both_true}

-- ## A form that is known

pub value_by : (c : Surroundings) (t : PlainType) (f g : PlainForm) (b : Bool) → f ≡ g → Shows b (IsWholeForm c t g) → Shows b (IsWholeForm c t f)
value_by c t f g b e h = let P : PlainForm → Type 0 = λ x. Shows b (IsWholeForm c t x) in subst P (sym e) h

pub place_by : (c : Surroundings) (t : PlainType) (f g : PlainPlaceForm) (b : Bool) → f ≡ g → Shows b (IsWholePlaceForm c t g) → Shows b (IsWholePlaceForm c t f)
place_by c t f g b e h = let P : PlainPlaceForm → Type 0 = λ x. Shows b (IsWholePlaceForm c t x) in subst P (sym e) h

-- ## Three and more tests

pub shows_two_one : {P Q R : Type 0} {a b c : Bool} → Shows a P → Shows b Q → Shows c R → Shows ((a && b) && c) (P × Q × R)
shows_two_one {a = a} {b = b} {c = c} h k l = record {
  shows = λ e. let t = both_true (a && b) c e in let u = both_true a b t.0 in (h.shows u.0, k.shows u.1, l.shows t.1);
}

pub logic_shown : (c : Surroundings) (t : PlainType) (op : LogicOp) (v w : PlainValue) (a b d : Bool) → Shows a (IsWholeValue c v) → Shows b (IsWholeValue c w) →
    Shows d ((t ≡ int_type) × (is_scalar (type_of v) ≡ true) × (is_scalar (type_of w) ≡ true)) → Shows ((a && b) && d) (IsWholeForm c t (logic op v w))
logic_shown c t op v w a b d h k l = record {
  shows = λ e.
      let x = both_true (a && b) d e in
      let y = both_true a b x.0 in
      let z = l.shows x.1 in
      (h.shows y.0, k.shows y.1, z.0, z.1, z.2);
}

pub conditional_shown : (c : Surroundings) (t : PlainType) (u v w : PlainValue) (a s b d g : Bool) → Shows a (IsWholeValue c u) → s ≡ is_scalar (type_of u) → Shows b (IsWholeValue c v) → Shows d (IsWholeValue c w) →
    Shows g (ConditionalAgrees t (type_of v) (type_of w)) → Shows (((a && s) && (b && d)) && g) (IsWholeForm c t (conditional u v w))
conditional_shown c t u v w a s b d g h e k l m = record {
  shows = λ p.
      let x = both_true ((a && s) && (b && d)) g p in
      let y = both_true (a && s) (b && d) x.0 in
      let z = both_true a s y.0 in
      let q = both_true b d y.1 in
      (h.shows z.0, k.shows q.0, l.shows q.1, sym e ∙ z.1, m.shows x.1);
}

-- ## Values, one after the other

pub no_values_left : (c : Surroundings) (vs : List Value) (i : ℕ) → length vs ≤ i → AreWholeValues c (plain_values (drop i vs))
no_values_left c vs i h = let P : List Value → Type 0 = λ us. AreWholeValues c (plain_values us) in subst P (sym (drop_all i vs h)) tt

pub one_value : (c : Surroundings) (vs : List Value) (i : ℕ) (v : Value) → i < length vs → v ≡ get_or vs i v → IsWholeValue c (plain_value v) →
    AreWholeValues c (plain_values (drop (i + 1) vs)) → AreWholeValues c (plain_values (drop i vs))
one_value c vs i v below is whole rest =
    let P : List Value → Type 0 = λ us. AreWholeValues c (plain_values us) in
    let cut : drop i vs ≡ v ∷ drop (i + 1) vs = drop-cons vs i v below ∙ ap (λ x. x ∷ drop (suc i) vs) (sym is) ∙ ap (λ n. v ∷ drop n vs) (sym (add-one i)) in
    subst P (sym cut) (whole, rest)
