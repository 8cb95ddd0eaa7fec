-- What is whole stays whole where more is known.
use Rattle.std.proofs.Common.{◌≡◌, ◌∙◌, sym, refl, ap, ℕ, Bool, true, false, ◌&&◌, List, [], ◌∷◌, ◌++◌, Option, Some, None, slice_get}
use Rattle.p10_int.specs.declared.types.IntType.TheVariants.{Long}
use Rattle.p10_int.specs.declared.operators.BinOp.{BinOp}
use Rattle.p10_int.specs.declared.operators.BinOp.TheVariants.{Add, Sub, Mul, Div, Rem, Shl, Shr, And, Or, Xor, Lt, Gt, Le, Ge, Eq, Ne}
use Rattle.p10_int.specs.Types.{promoted}
use Rattle.p10_core.specs.declared.typed.Library.{Library}
use Rattle.p10_core.specs.declared.typed.Library.TheVariants.{CAssert, Getchar, Putchar, Malloc, Calloc, Free}
use Rattle.p10_core.specs.Types.{PlainType, integer, pointer, bare, PlainMember, PlainBody, PlainStructure, body_of, members_in}
use Rattle.p10_core.specs.Typed.{PlainValue, value, PlainForm, constant, read, sense, address, decay, convert, cast, unary, binary, logic, conditional, call, built_in, PlainPlace, place, variable, global, literal, index, member, dereference, PlainValues, no_values, more_values, type_of, place_type, PlainLiteral}
use Rattle.p10_core.specs.Nodes.{PlainNode, a_place, nodes_of_value, nodes_in_form, nodes_of_place, nodes_of_values}
use Rattle.p10_core.specs.Rows.{Row, row_where, moved_row, sum_row, difference_row, binary_row, same, is_complete}
use Rattle.p10_core.specs.Whole.{Surroundings, IsSensor, IsObject, IsMember, IsElement, is_frame, is_sensor, form_of, Reads, IsAddress, Decays, BinaryAgrees, ArgumentsFit, Calls, Allocates, CallsLibrary, IsWholeValue, IsWholeForm, IsWholePlace, AreWholeValues}
use Rattle.p10_core.proofs.Growing.{bare_same}
use Rattle.p10_elabx.proofs.WholeParts.{frame_of, sensor_of}
use Rattle.p10_wholeness.specs.Growth.{AreMore}
use Rattle.p10_wholeness.specs.Knowing.{AreAlike, HasObject, HasFunction, KnowMore, AreListed, MoreStructuresAreKnown, WholeTreesStay}
use Rattle.p10_wholeness.proofs.Growth.{complete_kept}

-- ## Rows

-- where more has a size, each row stands that stood
abbrev HaveSizes : List PlainStructure → List PlainStructure → Type 0
HaveSizes ss ts = (t : PlainType) → is_complete ss t ≡ true → is_complete ts t ≡ true

where_stays : (b c : Bool) (r s t : PlainType) (e : Row) → (b ≡ true → c ≡ true) → row_where b r s t ≡ Some e → row_where c r s t ≡ Some e
where_stays true c r s t e go is = ap (λ x. row_where x r s t) (go refl) ∙ is
where_stays false c r s t e go is = absurd cc

moved_stays : (ss ts : List PlainStructure) → HaveSizes ss ts → (t left right : PlainType) (e : Row) → moved_row ss t left right ≡ Some e → moved_row ts t left right ≡ Some e
moved_stays ss ts go t left right e is = where_stays (is_complete ss t) (is_complete ts t) (pointer false t) left right e (go t) is

sum_stays : (ss ts : List PlainStructure) → HaveSizes ss ts → (s t : PlainType) (e : Row) → sum_row ss s t ≡ Some e → sum_row ts s t ≡ Some e
sum_stays ss ts go (integer c a) (integer d b) e is = is
sum_stays ss ts go (pointer c t) (integer d b) e is = moved_stays ss ts go t (pointer false t) (integer false (promoted b)) e is
sum_stays ss ts go (integer c a) (pointer d t) e is = moved_stays ss ts go t (integer false (promoted a)) (pointer false t) e is
sum_stays ss ts go s t e is = absurd cc

both_hold : (a b c : Bool) → (b ≡ true → c ≡ true) → (a && b) ≡ true → (a && c) ≡ true
both_hold true b c go h = go h
both_hold false b c go h = h

difference_stays : (ss ts : List PlainStructure) → HaveSizes ss ts → (s t : PlainType) (e : Row) → difference_row ss s t ≡ Some e → difference_row ts s t ≡ Some e
difference_stays ss ts go (integer c a) (integer d b) e is = is
difference_stays ss ts go (pointer c t) (integer d b) e is = moved_stays ss ts go t (pointer false t) (integer false (promoted b)) e is
difference_stays ss ts go (pointer c s) (pointer d t) e is =
    where_stays (same s t && is_complete ss t) (same s t && is_complete ts t) (integer false Long) (pointer false s) (pointer false t) e (both_hold (same s t) (is_complete ss t) (is_complete ts t) (go t)) is
difference_stays ss ts go s t e is = absurd cc

pub row_stays : (ss ts : List PlainStructure) → HaveSizes ss ts → (op : BinOp) (left_null right_null : Bool) (s t : PlainType) (e : Row) → binary_row ss op left_null right_null s t ≡ Some e → binary_row ts op left_null right_null s t ≡ Some e
row_stays ss ts go Add a b s t e is = sum_stays ss ts go s t e is
row_stays ss ts go Sub a b s t e is = difference_stays ss ts go s t e is
row_stays ss ts go Mul a b s t e is = is
row_stays ss ts go Div a b s t e is = is
row_stays ss ts go Rem a b s t e is = is
row_stays ss ts go Shl a b s t e is = is
row_stays ss ts go Shr a b s t e is = is
row_stays ss ts go And a b s t e is = is
row_stays ss ts go Or a b s t e is = is
row_stays ss ts go Xor a b s t e is = is
row_stays ss ts go Lt a b s t e is = is
row_stays ss ts go Gt a b s t e is = is
row_stays ss ts go Le a b s t e is = is
row_stays ss ts go Ge a b s t e is = is
row_stays ss ts go Eq a b s t e is = is
row_stays ss ts go Ne a b s t e is = is

-- ## Literals

-- nodes of two parts
pub listed_parts : (ls : Option (List PlainLiteral)) (xs ys : List PlainNode) → AreListed ls (xs ++ ys) → AreListed ls xs × AreListed ls ys
listed_parts ls [] ys h = (tt, h)
listed_parts ls (a_place (place at t (literal n bytes)) ∷ rest) ys h = let both = listed_parts ls rest ys h.1 in ((h.0, both.0), both.1)
listed_parts ls (node ∷ rest) ys h = listed_parts ls rest ys h

-- ## Places

frame_kept : (c d : Surroundings) → KnowMore c d → (p : PlainPlace) → IsWholePlace c p → is_frame d (form_of p) ≡ is_frame c (form_of p)
frame_kept c d k (place at t (variable n)) w = frame_of d n w.seen (k.variables n w.seen w.there) ∙ sym (frame_of c n w.seen w.there)
frame_kept c d k (place at t f) w = refl

sensor_kept : (c d : Surroundings) → KnowMore c d → (p : PlainPlace) → IsWholePlace c p → is_sensor d (form_of p) ≡ is_sensor c (form_of p)
sensor_kept c d k (place at t (global n)) w =
    let o : HasObject d n w.seen = k.objects n w.seen w.there in
    sensor_of d n o.seen o.there ∙ o.sensor_is ∙ sym (sensor_of c n w.seen w.there)
sensor_kept c d k (place at t f) w = refl

reads_stays : (c d : Surroundings) → KnowMore c d → (t : PlainType) (p : PlainPlace) → IsWholePlace c p → Reads c t p → Reads d t p
reads_stays c d k t p w r = record {
  type_is = r.type_is;
  no_array = r.no_array;
  complete = k.complete (place_type p) r.complete;
  no_sensor = sensor_kept c d k p w ∙ r.no_sensor;
}

address_stays : (c d : Surroundings) → KnowMore c d → (t : PlainType) (p : PlainPlace) → IsWholePlace c p → IsAddress c t p → IsAddress d t p
address_stays c d k t p w r = record {
  type_is = r.type_is;
  no_frame = frame_kept c d k p w ∙ r.no_frame;
  no_sensor = sensor_kept c d k p w ∙ r.no_sensor;
}

decay_stays : (c d : Surroundings) → KnowMore c d → (t : PlainType) (p : PlainPlace) → IsWholePlace c p → Decays c t p → Decays d t p
decay_stays c d k t p w r = record {
  mark = r.mark;
  element = r.element;
  count = r.count;
  place_is = r.place_is;
  type_is = r.type_is;
  no_frame = frame_kept c d k p w ∙ r.no_frame;
}

object_stays : (c d : Surroundings) → KnowMore c d → (n : ℕ) (t : PlainType) → IsObject c n t → IsObject d n t
object_stays c d k n t r =
    let o : HasObject d n r.seen = k.objects n r.seen r.there in
    record { seen = o.seen; there = o.there; type_is = k.one_type t r.seen.type r.type_is ∙ sym o.type_is }

sensed_stays : (c d : Surroundings) → KnowMore c d → (n : ℕ) (t : PlainType) → IsSensor c n t → IsSensor d n t
sensed_stays c d k n t r =
    let o : HasObject d n r.seen = k.objects n r.seen r.there in
    record {
      seen = o.seen;
      there = o.there;
      sensor_is = o.sensor_is ∙ r.sensor_is;
      kind = r.kind;
      type_is = r.type_is;
      same_type = o.type_is ∙ k.one_type r.seen.type t (r.same_type ∙ r.type_is ∙ sym (ap (bare c.structures) r.type_is)) ∙ ap (bare d.structures) r.type_is ∙ sym r.type_is;
    }

member_stays : (c d : Surroundings) → KnowMore c d → (whole_type t : PlainType) (m : ℕ) → IsMember c whole_type t m → IsMember d whole_type t m
member_stays c d k whole_type t m r = record {
  mark = r.mark;
  number = r.number;
  whole_is = r.whole_is;
  entry = r.entry;
  there = k.members r.number m r.entry r.there;
  type_is = r.type_is;
}

element_stays : (c d : Surroundings) → KnowMore c d → (s i t : PlainType) → IsElement c s i t → IsElement d s i t
element_stays c d k s i t r = record { kind = r.kind; pointer_is = r.pointer_is; integer_is = r.integer_is; complete = k.complete t r.complete }

-- ## Values

binary_stays : (c d : Surroundings) → KnowMore c d → (op : BinOp) (t left right : PlainType) → BinaryAgrees c op t left right → BinaryAgrees d op t left right
binary_stays c d k op t left right r = record {
  left_null = r.left_null;
  right_null = r.right_null;
  left_type = r.left_type;
  right_type = r.right_type;
  entry = r.entry;
  is = row_stays c.structures d.structures k.complete op r.left_null r.right_null r.left_type r.right_type r.entry r.is;
  result_is = r.result_is;
  left_is = r.left_is;
  right_is = r.right_is;
}

fit_stays : (c d : Surroundings) → KnowMore c d → (ps qs : List PlainType) (vs : PlainValues) → AreAlike d.structures ps qs → ArgumentsFit c ps vs → ArgumentsFit d qs vs
fit_stays c d k [] [] no_values a f = tt
fit_stays c d k (p ∷ ps) (q ∷ qs) (more_values v vs) a f = (k.one_type (type_of v) p f.0 ∙ a.0, fit_stays c d k ps qs vs a.1 f.1)
fit_stays c d k [] [] (more_values v vs) a f = absurd f
fit_stays c d k (p ∷ ps) (q ∷ qs) no_values a f = absurd f
fit_stays c d k [] (q ∷ qs) vs a f = absurd a
fit_stays c d k (p ∷ ps) [] vs a f = absurd a

calls_stays : (c d : Surroundings) → KnowMore c d → (t : PlainType) (n : ℕ) (vs : PlainValues) → Calls c t n vs → Calls d t n vs
calls_stays c d k t n vs r =
    let f : HasFunction d n r.seen = k.functions n r.seen r.there in
    record {
      seen = f.seen;
      there = f.there;
      fit = fit_stays c d k r.seen.parameters f.seen.parameters vs f.parameters r.fit;
      result_is = k.one_type t r.seen.result r.result_is ∙ f.result;
      unmarked = r.unmarked;
    }

allocates_stays : (c d : Surroundings) → KnowMore c d → (t : PlainType) (vs : PlainValues) → Allocates c t vs → Allocates d t vs
allocates_stays c d k t vs r = record { element = r.element; type_is = r.type_is; complete = k.complete r.element r.complete; counted = r.counted }

library_stays : (c d : Surroundings) → KnowMore c d → (t : PlainType) (f : Library) (vs : PlainValues) → CallsLibrary c t f vs → CallsLibrary d t f vs
library_stays c d k t Malloc vs r = allocates_stays c d k t vs r
library_stays c d k t Calloc vs r = allocates_stays c d k t vs r
library_stays c d k t Getchar no_values r = r
library_stays c d k t Putchar (more_values v no_values) r = r
library_stays c d k t CAssert (more_values v no_values) r = r
library_stays c d k t Free (more_values v no_values) r = r
library_stays c d k t f vs r = absurd r

mutual
  pub value_stays : (c d : Surroundings) → KnowMore c d → (v : PlainValue) → IsWholeValue c v → AreListed d.literals (nodes_of_value v) → IsWholeValue d v
  value_stays c d k (value at t f) w l = form_stays c d k t f w l

  form_stays : (c d : Surroundings) → KnowMore c d → (t : PlainType) (f : PlainForm) → IsWholeForm c t f → AreListed d.literals (nodes_in_form f) → IsWholeForm d t f
  form_stays c d k t (constant z) w l = w
  form_stays c d k t (read p) w l = (place_stays c d k p w.0 l, reads_stays c d k t p w.0 w.1)
  form_stays c d k t (sense n) w l = sensed_stays c d k n t w
  form_stays c d k t (address p) w l = (place_stays c d k p w.0 l, address_stays c d k t p w.0 w.1)
  form_stays c d k t (decay p) w l = (place_stays c d k p w.0 l, decay_stays c d k t p w.0 w.1)
  form_stays c d k t (convert v) w l = (value_stays c d k v w.0 l, w.1)
  form_stays c d k t (cast v) w l = (value_stays c d k v w.0 l, w.1)
  form_stays c d k t (unary op v) w l = (value_stays c d k v w.0 l, w.1)
  form_stays c d k t (binary op a b) w l =
      let both = listed_parts d.literals (nodes_of_value a) (nodes_of_value b) l in
      (value_stays c d k a w.0 both.0, value_stays c d k b w.1 both.1, binary_stays c d k op t (type_of a) (type_of b) w.2)
  form_stays c d k t (logic op a b) w l =
      let both = listed_parts d.literals (nodes_of_value a) (nodes_of_value b) l in
      (value_stays c d k a w.0 both.0, value_stays c d k b w.1 both.1, w.2, w.3, w.4)
  form_stays c d k t (conditional v a b) w l =
      let first = listed_parts d.literals (nodes_of_value v) (nodes_of_value a ++ nodes_of_value b) l in
      let both = listed_parts d.literals (nodes_of_value a) (nodes_of_value b) first.1 in
      (value_stays c d k v w.0 first.0, value_stays c d k a w.1 both.0, value_stays c d k b w.2 both.1, w.3, w.4)
  form_stays c d k t (call s n vs) w l = (values_stay c d k vs w.0 l, calls_stays c d k t n vs w.1)
  form_stays c d k t (built_in s f vs) w l = (values_stay c d k vs w.0 l, library_stays c d k t f vs w.1)

  pub place_stays : (c d : Surroundings) → KnowMore c d → (p : PlainPlace) → IsWholePlace c p → AreListed d.literals (nodes_of_place p) → IsWholePlace d p
  place_stays c d k (place at t (variable n)) w l = record { seen = w.seen; there = k.variables n w.seen w.there; type_is = w.type_is }
  place_stays c d k (place at t (global n)) w l = object_stays c d k n t w
  place_stays c d k (place at t (literal n bytes)) w l = record { type_is = w.type_is; are_bytes = w.are_bytes; is_listed = l.0 }
  place_stays c d k (place at t (index a i)) w l =
      let both = listed_parts d.literals (nodes_of_value a) (nodes_of_value i) l in
      (value_stays c d k a w.0 both.0, value_stays c d k i w.1 both.1, element_stays c d k (type_of a) (type_of i) t w.2)
  place_stays c d k (place at t (member p m)) w l = (place_stays c d k p w.0 l, member_stays c d k (place_type p) t m w.1)
  place_stays c d k (place at t (dereference v)) w l = (value_stays c d k v w.0 l, w.1)

  values_stay : (c d : Surroundings) → KnowMore c d → (vs : PlainValues) → AreWholeValues c vs → AreListed d.literals (nodes_of_values vs) → AreWholeValues d vs
  values_stay c d k no_values w l = tt
  values_stay c d k (more_values v vs) w l =
      let both = listed_parts d.literals (nodes_of_value v) (nodes_of_values vs) l in
      (value_stays c d k v w.0 both.0, values_stay c d k vs w.1 both.1)

-- ## More structures

members_stay : (ss ts : List PlainStructure) → AreMore ss ts → (n m : ℕ) (entry : PlainMember) (o : Option PlainBody) → body_of ss n ≡ o → slice_get (members_in o) m ≡ Some entry → slice_get (members_in (body_of ts n)) m ≡ Some entry
members_stay ss ts g n m entry None e is = absurd cc
members_stay ss ts g n m entry (Some b) e is = ap (λ o. slice_get (members_in o) m) (g.bodies n b e) ∙ is

pub alike_itself : (ss : List PlainStructure) (ts : List PlainType) → AreAlike ss ts ts
alike_itself ss [] = tt
alike_itself ss (t ∷ ts) = (refl, alike_itself ss ts)

pub more_structures_are_known : MoreStructuresAreKnown
more_structures_are_known c ts g =
    let ss : List PlainStructure = c.structures in
    let same : (t : PlainType) → bare ts t ≡ bare ss t = bare_same ts ss g.representatives in
    record {
      complete = complete_kept ss ts g;
      members = λ n m entry is. members_stay ss ts g n m entry (body_of ss n) refl is;
      one_type = λ t u e. same t ∙ e ∙ sym (same u);
      variables = λ n v is. is;
      objects = λ n o is. record { seen = o; there = is; type_is = refl; sensor_is = refl };
      functions = λ n f is. record { seen = f; there = is; parameters = alike_itself ts f.parameters; result = refl };
    }

pub whole_trees_stay : WholeTreesStay
whole_trees_stay = record { values = value_stays; places = place_stays }
