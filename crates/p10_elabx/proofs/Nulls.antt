-- Whether a value is a null constant counts only beside a pointer.
use Rattle.std.specs.Prelude.{◌≡◌, Bool, false, ◌&&◌, List, refl}
use Rattle.p10_int.specs.declared.operators.BinOp.{BinOp}
use Rattle.p10_int.specs.declared.operators.BinOp.TheVariants.{Eq, Ne}
use Rattle.p10_core.specs.Types.{PlainType, integer, pointer, PlainStructure}
use Rattle.p10_core.specs.Rows.{is_pointer, equality_row, binary_row, conditional_row, fits, may_cast}

equal_nulls : (a b : Bool) (s t : PlainType) → equality_row (is_pointer t && a) (is_pointer s && b) s t ≡ equality_row a b s t
equal_nulls a b (integer c i) (pointer d t) = refl
equal_nulls a b (pointer c s) (integer d j) = refl
equal_nulls a b (pointer c s) (pointer d t) = refl
equal_nulls a b (integer c i) (integer d j) = refl
equal_nulls a b s t = refl

right_null : (b : Bool) (s t : PlainType) → equality_row false (is_pointer s && b) s t ≡ equality_row false b s t
right_null b (integer c i) (pointer d t) = refl
right_null b (pointer c s) (integer d j) = refl
right_null b (pointer c s) (pointer d t) = refl
right_null b (integer c i) (integer d j) = refl
right_null b s t = refl

pub binary_nulls : (ss : List PlainStructure) (op : BinOp) (a b : Bool) (s t : PlainType) → binary_row ss op (is_pointer t && a) (is_pointer s && b) s t ≡ binary_row ss op a b s t
binary_nulls ss Eq a b s t = equal_nulls a b s t
binary_nulls ss Ne a b s t = equal_nulls a b s t
binary_nulls ss op a b s t = refl

pub conditional_nulls : (a b : Bool) (s t : PlainType) → conditional_row (is_pointer t && a) (is_pointer s && b) s t ≡ conditional_row a b s t
conditional_nulls a b (integer c i) (pointer d t) = refl
conditional_nulls a b (pointer c s) (integer d j) = refl
conditional_nulls a b (pointer c s) (pointer d t) = refl
conditional_nulls a b (integer c i) (integer d j) = refl
conditional_nulls a b s t = refl

pub fits_null : (n : Bool) (s t : PlainType) → fits (is_pointer t && n) s t ≡ fits n s t
fits_null n (integer c i) (pointer d t) = refl
fits_null n s t = refl

pub casts_null : (n : Bool) (s t : PlainType) → may_cast (is_pointer t && n) s t ≡ may_cast n s t
casts_null n (integer c i) (pointer d t) = refl
casts_null n s t = refl

-- of an update, whose target is no constant
pub update_null : (ss : List PlainStructure) (op : BinOp) (b : Bool) (s t : PlainType) → binary_row ss op false (is_pointer s && b) s t ≡ binary_row ss op false b s t
update_null ss Eq b s t = right_null b s t
update_null ss Ne b s t = right_null b s t
update_null ss op b s t = refl
