-- Pointers can't be freed exactly where `free` stops.
use Rattle.std.proofs.Common.{◌≡◌, ℕ, ◌&&◌, eqb, cond, Bool, true, false, List, refl, sym, ◌∙◌, ap, subst, Option, Some, None, Ok, Err}
use Rattle.std.proofs.lemmas.Bool.{eqb-true, eq-eqb}
use Rattle.std.proofs.lemmas.Option.{same_Some, none-some}
use Rattle.p10_int.specs.declared.operators.Stop.{Stop}
use Rattle.p10_int.specs.declared.operators.Stop.TheVariants.{U11}
use Rattle.p10_meaning.specs.declared.pointers.Window.{Window}
use Rattle.p10_meaning.specs.declared.pointers.Ptr.{Ptr}
use Rattle.p10_meaning.specs.declared.pointers.Ptr.TheVariants.{Null, To}
use Rattle.p10_meaning.specs.Objects.{Origin, declared, allocated, literal, Object, find, closed, is_allocated, freed, release}
use Rattle.p10_stop_laws.specs.Moves.{IsAllocation, CannotFree, cannot_free, FreesStopThen}

allocated_is : (origin : Origin) → is_allocated origin ≡ true → origin ≡ allocated
allocated_is allocated e = refl
allocated_is declared e = absurd cc
allocated_is literal e = absurd cc

three : (a b c : Bool) → (a && b && c) ≡ true → (a ≡ true) × (b ≡ true) × (c ≡ true)
three true true true e = (refl, refl, refl)
three true true false e = absurd cc
three true false c e = absurd cc
three false b c e = absurd cc

three_true : (a b c : Bool) → a ≡ true → b ≡ true → c ≡ true → (a && b && c) ≡ true
three_true true true true e f g = refl
three_true true true false e f g = absurd cc
three_true true false c e f g = absurd cc
three_true false b c e f g = absurd cc

-- whether the first place of an allocation is freed
abbrev is_first : Object → Window → ℕ → Bool
is_first object window n = is_allocated object.origin && window.whole && eqb n 0

first_is : (objects : List Object) (o : ℕ) (window : Window) (n : ℕ) (object : Object) → find o objects ≡ Some object → is_first object window n ≡ true → IsAllocation objects o window n
first_is objects o window n object e t =
    let p = three (is_allocated object.origin) window.whole (eqb n 0) t in
    record { object = object; live = e; origin_is = allocated_is object.origin p.0; all_of_it = p.1; first = eqb-true n 0 p.2 }

is_first_of : (objects : List Object) (o : ℕ) (window : Window) (n : ℕ) (object : Object) → find o objects ≡ Some object → IsAllocation objects o window n → is_first object window n ≡ true
is_first_of objects o window n object e a =
    let same : a.object ≡ object = same_Some _ _ (sym a.live ∙ e) in
    let origin : object.origin ≡ allocated = subst (λ (x : Object). x.origin ≡ allocated) same a.origin_is in
    three_true (is_allocated object.origin) window.whole (eqb n 0) (ap is_allocated origin) a.all_of_it (eq-eqb n 0 a.first)

frees_stop : (objects : List Object) (q : Ptr) (stop : Stop) → release objects q ≡ Err stop → CannotFree objects q stop
frees_stop objects Null stop e = absurd cc
frees_stop objects (To o window n) stop e = by_object (find o objects) refl e
  where
    stopped : U11 ≡ stop → ¬ IsAllocation objects o window n → CannotFree objects (To o window n) stop
    stopped same h = subst (CannotFree objects (To o window n)) same (cannot_free o window n h)

    by_first : (object : Object) → find o objects ≡ Some object → (b : Bool) → is_first object window n ≡ b → cond b (Ok (closed o objects)) (Err U11) ≡ Err stop → CannotFree objects (To o window n) stop
    by_first object is true t f = absurd cc
    by_first object is false t f = stopped (cc) (λ a. let u = is_first_of objects o window n object is a in cc)

    by_object : (x : Option Object) → find o objects ≡ x → freed objects o window n x ≡ Err stop → CannotFree objects (To o window n) stop
    by_object None is f = stopped (cc) (λ a. none-some _ (sym is ∙ a.live))
    by_object (Some object) is f = by_first object is (is_first object window n) refl f

stop_frees : (objects : List Object) (q : Ptr) (stop : Stop) → CannotFree objects q stop → release objects q ≡ Err stop
stop_frees objects q stop (cannot_free o window n h) = by_object (find o objects) refl
  where
    by_first : (object : Object) → find o objects ≡ Some object → (b : Bool) → is_first object window n ≡ b → cond b (Ok (closed o objects)) (Err U11) ≡ Err U11
    by_first object is true t = absurd (h (first_is objects o window n object is t))
    by_first object is false t = refl

    by_object : (x : Option Object) → find o objects ≡ x → freed objects o window n x ≡ Err U11
    by_object None is = refl
    by_object (Some object) is = by_first object is (is_first object window n) refl

pub frees_stop_then : FreesStopThen
frees_stop_then objects q stop = (frees_stop objects q stop, stop_frees objects q stop)
