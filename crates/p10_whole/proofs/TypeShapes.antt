-- Integer types and pointers without marks.
use Rattle.std.specs.Prelude.{◌≡◌, Bool, true, false, not, ◌&&◌, Option, Some, None, is_some, refl}
use Rattle.std.proofs.Common.{ap, sym, ◌∙◌}
use Rattle.p10_int.specs.declared.types.IntType.{IntType}
use Rattle.p10_core.specs.Types.{PlainType, void, integer, pointer, array, structure}
use Rattle.p10_core.specs.Rows.{is_void, mark_of}
use Rattle.p10_whole.specs.private.Agreeing.{integer_kind, target_type, is_kind, is_target}
use Rattle.p10_whole.specs.private.Shows.{Shows}
use Rattle.p10_whole.proofs.Showing.{both_true}
use Rattle.p10_whole.proofs.SameTypes.{integer_is, same_is}

some_kind : (i j : IntType) → Some i ≡ Some j → i ≡ j
some_kind i j e = cc

some_type : (s t : PlainType) → Some s ≡ Some t → s ≡ t
some_type s t e = cc

-- a type with a kind is the integer type of that kind
pub kind_is : (t : PlainType) (i : IntType) → integer_kind t ≡ Some i → t ≡ integer false i
kind_is (void c) i e = absurd cc
kind_is (integer true j) i e = absurd cc
kind_is (integer false j) i e = ap (integer false) (some_kind j i e)
kind_is (pointer c t) i e = absurd cc
kind_is (array c t n) i e = absurd cc
kind_is (structure c n) i e = absurd cc

-- a type with a target is the pointer to it
pub target_is : (s t : PlainType) → target_type s ≡ Some t → s ≡ pointer false t
target_is (void c) t e = absurd cc
target_is (integer c j) t e = absurd cc
target_is (pointer true s) t e = absurd cc
target_is (pointer false s) t e = ap (pointer false) (some_type s t e)
target_is (array c s n) t e = absurd cc
target_is (structure c n) t e = absurd cc

some_there : {A : Type 0} (o : Option A) → is_some o ≡ true → (x : A) × (o ≡ Some x)
some_there None e = absurd cc
some_there (Some x) e = (x, refl)

pub integer_there : (t : PlainType) → is_some (integer_kind t) ≡ true → (kind : IntType) × (t ≡ integer false kind)
integer_there t e = let h = some_there (integer_kind t) e in (h.0, kind_is t h.0 h.1)

pub pointer_there : (t : PlainType) → is_some (target_type t) ≡ true → (target : PlainType) × (t ≡ pointer false target)
pointer_there t e = let h = some_there (target_type t) e in (h.0, target_is t h.0 h.1)

kind_there : (o : Option IntType) (i : IntType) → is_kind i o ≡ true → o ≡ Some i
kind_there None i e = absurd cc
kind_there (Some j) i e = ap Some (integer_is j i e)

target_there : (o : Option PlainType) (t : PlainType) → is_target o t ≡ true → o ≡ Some t
target_there None t e = absurd cc
target_there (Some s) t e = ap Some (same_is s t e)

pub integer_shown : (b : Bool) (t : PlainType) → b ≡ is_some (integer_kind t) → Shows b ((kind : IntType) × (t ≡ integer false kind))
integer_shown b t e = record { shows = λ h. integer_there t (sym e ∙ h) }

pub pointer_shown : (b : Bool) (t : PlainType) → b ≡ is_some (target_type t) → Shows b ((target : PlainType) × (t ≡ pointer false target))
pointer_shown b t e = record { shows = λ h. pointer_there t (sym e ∙ h) }

pub kind_shown : (b : Bool) (i : IntType) (t : PlainType) → b ≡ is_kind i (integer_kind t) → Shows b (t ≡ integer false i)
kind_shown b i t e = record { shows = λ h. kind_is t i (kind_there (integer_kind t) i (sym e ∙ h)) }

pub target_shown : (b : Bool) (s t : PlainType) → b ≡ is_target (target_type s) t → Shows b (s ≡ pointer false t)
target_shown b s t e = record { shows = λ h. target_is s t (target_there (target_type s) t (sym e ∙ h)) }

void_is : (t : PlainType) → is_void t ≡ true → mark_of t ≡ false → t ≡ void false
void_is (void c) e m = ap void m
void_is (integer c i) e m = absurd cc
void_is (pointer c t) e m = absurd cc
void_is (array c t n) e m = absurd cc
void_is (structure c n) e m = absurd cc

not_true : (b : Bool) → not b ≡ true → b ≡ false
not_true true e = absurd cc
not_true false e = refl

pub void_shown : (t : PlainType) (x c : Bool) → x ≡ is_void t → mark_of t ≡ c → Shows (x && not c) (t ≡ void false)
void_shown t x c e m = record { shows = λ h. let b = both_true x (not c) h in void_is t (sym e ∙ b.0) (m ∙ not_true c b.1) }

pub void_by_tests : (t : PlainType) → (is_void t && not (mark_of t)) ≡ true → t ≡ void false
void_by_tests t h = let b = both_true (is_void t) (not (mark_of t)) h in void_is t b.0 (not_true (mark_of t) b.1)

pub kind_of_test : (t : PlainType) (i : IntType) → is_kind i (integer_kind t) ≡ true → t ≡ integer false i
kind_of_test t i h = kind_is t i (kind_there (integer_kind t) i h)
