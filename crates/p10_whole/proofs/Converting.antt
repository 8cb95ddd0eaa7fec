-- Conversions and casts, by tests.
use Rattle.std.specs.Prelude.{◌≡◌, Bool, true, false, ◌&&◌, ◌||◌, Option, Some, None, refl}
use Rattle.std.proofs.Common.{sym, ◌∙◌, subst}
use Rattle.p10_int.specs.declared.types.IntType.{IntType}
use Rattle.p10_core.specs.declared.typed.Library.{Library}
use Rattle.p10_core.specs.declared.typed.Library.TheVariants.{Assert, CAssert, Getchar, Putchar, Malloc, Calloc, Free}
use Rattle.p10_core.specs.Types.{PlainType, void, integer, pointer}
use Rattle.p10_core.specs.Typed.{PlainValue, value, PlainForm, constant, read, sense, address, decay, convert, cast, unary, binary, logic, conditional, call, built_in, type_of}
use Rattle.p10_core.specs.Rows.{adds_const}
use Rattle.p10_core.specs.Constants.{is_null}
use Rattle.p10_core.specs.Whole.{Converts, integers, pointers, nulls, Casts, to_void, integers as cast_integers, nulls as cast_nulls, allocations, is_allocation}
use Rattle.p10_whole.specs.private.Agreeing.{target_type, adds_at_target, is_null_at}
use Rattle.p10_whole.specs.private.Places.{library_in, gives_memory}
use Rattle.p10_whole.specs.private.Shows.{Shows}
use Rattle.p10_whole.proofs.Showing.{both_true, either_true}
use Rattle.p10_whole.proofs.TypeShapes.{target_is}

-- the form of a value
abbrev pub value_form : PlainValue → PlainForm
value_form (value at t f) = f

abbrev IsInteger : PlainType → Type 0
IsInteger t = (kind : IntType) × (t ≡ integer false kind)

abbrev IsPointer : PlainType → Type 0
IsPointer t = (target : PlainType) × (t ≡ pointer false target)

added : (s t : PlainType) (p q : Option PlainType) → target_type s ≡ p → target_type t ≡ q → adds_at_target p q ≡ true → (x : PlainType) × (y : PlainType) × (s ≡ pointer false x) × (t ≡ pointer false y) × (adds_const x y ≡ true)
added s t None q e f h = absurd cc
added s t (Some x) None e f h = absurd cc
added s t (Some x) (Some y) e f h = (x, y, target_is s x e, target_is t y f, h)

null_there : (t : PlainType) (q : Option PlainType) (b : Bool) → target_type t ≡ q → is_null_at q b ≡ true → (y : PlainType) × (t ≡ pointer false y) × (b ≡ true)
null_there t None b e h = absurd cc
null_there t (Some y) b e h = (y, target_is t y e, h)

by_integers : (t : PlainType) (v : PlainValue) → IsInteger t → IsInteger (type_of v) → Converts t v
by_integers t v p q = let P : PlainType → Type 0 = λ x. Converts x v in subst P (sym p.1) (integers p.0 q.0 v q.1)

by_pointers : (t : PlainType) (v : PlainValue) → adds_at_target (target_type (type_of v)) (target_type t) ≡ true → Converts t v
by_pointers t v h =
    let k = added (type_of v) t (target_type (type_of v)) (target_type t) refl refl h in
    let P : PlainType → Type 0 = λ x. Converts x v in
    subst P (sym k.3) (pointers k.0 k.1 v k.2 k.4)

by_null : (t : PlainType) (v : PlainValue) → IsInteger (type_of v) → is_null_at (target_type t) (is_null v) ≡ true → Converts t v
by_null t v q h =
    let k = null_there t (target_type t) (is_null v) refl h in
    let P : PlainType → Type 0 = λ x. Converts x v in
    subst P (sym k.1) (nulls q.0 k.0 v q.1 k.2)

pub converts_shown : (t : PlainType) (v : PlainValue) (a b d e : Bool) → Shows a ((kind : IntType) × (t ≡ integer false kind)) → Shows b ((kind : IntType) × (type_of v ≡ integer false kind)) →
    d ≡ adds_at_target (target_type (type_of v)) (target_type t) → e ≡ is_null_at (target_type t) (is_null v) → Shows ((a && b) || (d || (b && e))) (Converts t v)
converts_shown t v a b d e p q x y = record {
  shows = λ h.
      either_true (a && b) (d || (b && e)) h (λ k. let m = both_true a b k in by_integers t v (p.shows m.0) (q.shows m.1))
      (λ k. either_true d (b && e) k (λ l. by_pointers t v (sym x ∙ l)) (λ l. let m = both_true b e l in by_null t v (q.shows m.0) (sym y ∙ m.1)));
}

-- ## Casts

allocates : (v : PlainValue) (o : Option Library) → library_in (value_form v) ≡ o → gives_memory o ≡ true → is_allocation v ≡ true
allocates (value at t (built_in s Malloc arguments)) o e h = refl
allocates (value at t (built_in s Calloc arguments)) o e h = refl
allocates (value at t (built_in s Assert arguments)) o e h = absurd cc
allocates (value at t (built_in s CAssert arguments)) o e h = absurd cc
allocates (value at t (built_in s Getchar arguments)) o e h = absurd cc
allocates (value at t (built_in s Putchar arguments)) o e h = absurd cc
allocates (value at t (built_in s Free arguments)) o e h = absurd cc
allocates (value at t (constant z)) o e h = absurd cc
allocates (value at t (read p)) o e h = absurd cc
allocates (value at t (sense n)) o e h = absurd cc
allocates (value at t (address p)) o e h = absurd cc
allocates (value at t (decay p)) o e h = absurd cc
allocates (value at t (convert v)) o e h = absurd cc
allocates (value at t (cast v)) o e h = absurd cc
allocates (value at t (unary op v)) o e h = absurd cc
allocates (value at t (binary op a b)) o e h = absurd cc
allocates (value at t (logic op a b)) o e h = absurd cc
allocates (value at t (conditional v a b)) o e h = absurd cc
allocates (value at t (call s n arguments)) o e h = absurd cc

cast_to_void : (t : PlainType) (v : PlainValue) → t ≡ void false → Casts t v
cast_to_void t v e = let P : PlainType → Type 0 = λ x. Casts x v in subst P (sym e) (to_void v)

cast_by_integers : (t : PlainType) (v : PlainValue) → IsInteger t → IsInteger (type_of v) → Casts t v
cast_by_integers t v p q = let P : PlainType → Type 0 = λ x. Casts x v in subst P (sym p.1) (cast_integers p.0 q.0 v q.1)

cast_by_null : (t : PlainType) (v : PlainValue) → IsInteger (type_of v) → is_null_at (target_type t) (is_null v) ≡ true → Casts t v
cast_by_null t v q h =
    let k = null_there t (target_type t) (is_null v) refl h in
    let P : PlainType → Type 0 = λ x. Casts x v in
    subst P (sym k.1) (cast_nulls q.0 k.0 v q.1 k.2)

cast_by_allocation : (t : PlainType) (v : PlainValue) → IsPointer t → type_of v ≡ t → is_allocation v ≡ true → Casts t v
cast_by_allocation t v p e h = let P : PlainType → Type 0 = λ x. Casts x v in subst P (sym p.1) (allocations p.0 v (e ∙ p.1) h)

pub casts_shown : (t : PlainType) (v : PlainValue) (z a b e p s g : Bool) → Shows z (t ≡ void false) → Shows a ((kind : IntType) × (t ≡ integer false kind)) → Shows b ((kind : IntType) × (type_of v ≡ integer false kind)) →
    e ≡ is_null_at (target_type t) (is_null v) → Shows p ((target : PlainType) × (t ≡ pointer false target)) → Shows s (type_of v ≡ t) → g ≡ gives_memory (library_in (value_form v)) →
    Shows (z || ((a && b) || ((b && e) || (p && (s && g))))) (Casts t v)
casts_shown t v z a b e p s g hz ha hb he hp hs hg = record {
  shows = λ h.
      either_true z ((a && b) || ((b && e) || (p && (s && g)))) h (λ k. cast_to_void t v (hz.shows k))
      (λ k. either_true (a && b) ((b && e) || (p && (s && g))) k (λ l. let m = both_true a b l in cast_by_integers t v (ha.shows m.0) (hb.shows m.1))
      (λ l. either_true (b && e) (p && (s && g)) l (λ m. let n = both_true b e m in cast_by_null t v (hb.shows n.0) (sym he ∙ n.1))
      (λ m. let n = both_true p (s && g) m in let o = both_true s g n.1 in
      cast_by_allocation t v (hp.shows n.0) (hs.shows o.0) (allocates v (library_in (value_form v)) refl (sym hg ∙ o.1)))));
}
