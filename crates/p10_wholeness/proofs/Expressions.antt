-- What expressions become as statements and as tests is whole.
use Rattle.std.proofs.Common.{◌≡◌, ◌∙◌, sym, refl, ap, subst, ℕ, pos, Bool, true, false, not, Option, Some, None, is_some, Ok, Err, List}
use Rattle.std.specs.Prelude.{if◌then◌else◌}
use Rattle.p10_base.specs.declared.at.At.{At}
use Rattle.p10_base.specs.declared.codes.SubsetCode.TheVariants as subset
use Rattle.p10_int.specs.declared.types.IntType.{IntType}
use Rattle.p10_int.specs.declared.types.IntType.TheVariants.{Bool as Truth, Char, SChar, UChar, Short, UShort, Int, UInt, Long, ULong, LLong, ULLong}
use Rattle.p10_int.specs.declared.operators.BinOp.{BinOp}
use Rattle.p10_int.specs.declared.operators.BinOp.TheVariants.{Add, Sub, Mul, Div, Rem, Shl, Shr, And, Or, Xor, Lt, Gt, Le, Ge, Eq, Ne}
use Rattle.p10_int.specs.Types.{promoted}
use Rattle.p10_int.proofs.InRange.{holds_in}
use Rattle.p10_syn.specs.declared.sign.Sign.{Sign}
use Rattle.p10_syn.specs.declared.sign.Sign.TheVariants as sign
use Rattle.p10_syn.specs.Trees.{Expression, expression, Step, Assign, Call, Expressions}
use Rattle.p10_core.specs.declared.typed.Library.TheVariants.{Assert}
use Rattle.p10_core.specs.declared.statements.UpdateKind.{UpdateKind}
use Rattle.p10_core.specs.declared.statements.UpdateKind.TheVariants as kind
use Rattle.p10_core.specs.Types.{PlainType, void, integer, pointer, array, structure, unqualified, bare, PlainStructure, body_of}
use Rattle.p10_core.specs.Typed.{PlainValue, value, read, convert, built_in, no_values, more_values, PlainPlace, place, variable, global, literal, index, member, dereference, at_of, type_of, place_at, place_type, PlainStatementForm, set, update, copy, evaluate}
use Rattle.p10_core.specs.Rows.{Row, binary_row, fits, same, is_void, is_scalar, is_integer, is_complete, is_modifiable}
use Rattle.p10_core.specs.Constants.{is_null, integer_of}
use Rattle.p10_core.specs.Whole.{Surroundings, IsWholeValue, IsWholePlace}
use Rattle.p10_core.specs.WholePrograms.{IsStep, IsTest, Returns, is_one}
use Rattle.p10_elabx.specs.declared.operand.PlaceKind.{PlaceKind}
use Rattle.p10_elabx.specs.declared.operand.PlaceKind.TheVariants.{Object, Frame, Sensor}
use Rattle.p10_elabx.specs.declared.problem.Problem.{Problem}
use Rattle.p10_elabx.specs.First.{every, Found, Ruled, ruled, refused, lift, Judged, pair, on}
use Rattle.p10_elabx.specs.Scopes.{PlainScope}
use Rattle.p10_elabx.specs.Operands.{PlainOperand, a_value, a_place, a_function, read_form, operand_value, not_void, any_value, as_value, converted}
use Rattle.p10_elabx.specs.Operators.{binary_by, fitted, target_found, copied_from, assigned, updated_by, updated}
use Rattle.p10_elabx.specs.Judging.{judge, place_of, may_be_place, assignment_of, step_of, target_judged, assignment_judged, with_read, update_judged, one_at, step_judged, by_sign, called_name}
use Rattle.p10_elabx.specs.Wholeness.{Stands, AreAllowed}
use Rattle.p10_elabx.proofs.WholeParts.{IfFound, IfRuled, if_lift, if_on, if_pair, if_where, if_so, bare_off, mark_off, same_is, WholeValue, WholeOf, converted_whole, fitted_whole, binary_whole}
use Rattle.p10_elabx.proofs.WholeTrees.{values_whole_in}
use Rattle.p10_elabs.specs.Expressions.{assertion, assert_called, call_found, evaluated, form_found, tested, switched}
use Rattle.p10_elabs.specs.Statements.{returned}
use Rattle.p10_wholeness.proofs.Scopes.{test_either}
use Rattle.p10_wholeness.proofs.MakingDeclarators.{left_holds}
use Rattle.p10_wholeness.proofs.Unmarked.{whole_unmarked}
use Rattle.p10_wholeness.specs.Expressions.{IsWholeExpression, ExpressionsAreWhole, IsSwitched, TestsAreWhole}

-- ## What is found

-- what is found has a property, if it has one whenever it is something
found_if : {A : Type 0} (P : A → Type 0) (f : Found A) → ((x : A) → f ≡ Ok x → P x) → IfFound P f
found_if P (Ok x) go = go x refl
found_if P (Err rs) go = tt

if_found : {A : Type 0} (P : A → Type 0) (f : Found A) (x : A) → IfFound P f → f ≡ Ok x → P x
if_found P (Ok y) x h e = let same : y ≡ x = cc in subst P same h
if_found P (Err rs) x h e = absurd cc

if_ruled : {A B : Type 0} (P : A → Type 0) (Q : B → Type 0) (r : Ruled A) (go : A → Ruled B) → IfRuled P r → ((x : A) → P x → IfRuled Q (go x)) → IfRuled Q (ruled r go)
if_ruled P Q (Ok x) go h k = k x h
if_ruled P Q (Err r) go h k = tt

-- ## Targets

-- the value that is read from a place
abbrev read_of : PlaceKind → PlainPlace → PlainValue
read_of k p = value (place_at p) (unqualified (place_type p)) (read_form k p)

-- a value that isn't void stays where a value is needed
solid_is : (b : Bool) (r : Option Problem) (v : PlainValue) → b ≡ false → lift (if b then Err r else Ok v) ≡ Ok v
solid_is true r v e = absurd cc
solid_is false r v e = refl

read_is : (b : Bool) (r : Option Problem) (v : PlainValue) → is_void (type_of v) ≡ false → b ≡ true → on (lift (if b then Ok v else Err r)) not_void ≡ Ok v
read_is true r v solid e = solid_is (is_void (type_of v)) _ v solid
read_is false r v solid e = absurd cc

-- a place that may be assigned has a value
place_read : (ss : List PlainStructure) (k : PlaceKind) (p : PlainPlace) → is_modifiable ss (place_type p) ≡ true → on (on (Ok (a_place k p)) (operand_value ss)) not_void ≡ Ok (read_of k p)
place_read ss k (place at (void c) f) m = absurd cc
place_read ss k (place at (integer c i) f) m = refl
place_read ss k (place at (pointer c t) f) m = refl
place_read ss k (place at (array c t n) f) m = absurd cc
place_read ss k (place at (structure c n) f) m = read_is (is_some (body_of ss n)) _ (read_of k (place at (structure c n) f)) refl (left_holds (is_some (body_of ss n)) _ m)

target_read : (ss : List PlainStructure) (k : PlaceKind) (p : PlainPlace) → is_modifiable ss (place_type p) ≡ true → (j : Judged PlainOperand) → j.found ≡ Ok (a_place k p) →
    (as_value ss j).found ≡ Ok (read_of k p)
unfolding as_value any_value
target_read ss k p m j e = ap (λ f. on (on f (operand_value ss)) not_void) e ∙ place_read ss k p m

-- a place whose value is whole is
read_whole : (c : Surroundings) (k : PlaceKind) (p : PlainPlace) → IsWholeValue c (read_of k p) → IsWholePlace c p
read_whole c Object p w = w.0
read_whole c Frame p w = w.0
read_whole c Sensor (place at t (global n)) w = record {
  seen = w.seen;
  there = w.there;
  type_is = sym (bare_off c.structures t) ∙ ap (bare c.structures) w.type_is ∙ sym w.type_is ∙ sym w.same_type;
}
read_whole c Sensor (place at t (variable n)) w = w.0
read_whole c Sensor (place at t (literal n bytes)) w = w.0
read_whole c Sensor (place at t (index a i)) w = w.0
read_whole c Sensor (place at t (member p m)) w = w.0
read_whole c Sensor (place at t (dereference v)) w = w.0

-- the target of an assignment
record IsTarget (c : Surroundings) (x : PlaceKind × PlainPlace) : Type 0 where
  whole : IsWholePlace c x.1
  modifiable : is_modifiable c.structures (place_type x.1) ≡ true
  value_is : IsWholeValue c (read_of x.0 x.1)

unmarked_read : (k : PlaceKind) (p : PlainPlace) → type_of (read_of k p) ≡ unqualified (type_of (read_of k p))
unmarked_read k p = mark_off (place_type p)

-- what is known of a value of the scope is known of its target
abbrev Valued : Surroundings → PlainScope → Expression At → Type 0
Valued c s e = (v : PlainValue) → (as_value s.structures (judge every s e)).found ≡ Ok v → WholeValue c v

operand_target : (c : Surroundings) (s : PlainScope) (e : Expression At) → c.structures ≡ s.structures → Valued c s e → (at : At) (f : Found PlainOperand) → (judge every s e).found ≡ f → IfFound (IsTarget c) (on f (target_found s.structures at))
operand_target c s e same go at (Err rs) is = tt
operand_target c s e same go at (Ok (a_value v)) is = tt
operand_target c s e same go at (Ok (a_function b)) is = tt
operand_target c s e same go at (Ok (a_place k p)) is =
    if_lift (IsTarget c) (target_found s.structures at (a_place k p)) (if_so (IsTarget c) (is_modifiable s.structures (place_type p)) (k, p) _ (λ m.
    let w : WholeValue c (read_of k p) = go (read_of k p) (target_read s.structures k p m (judge every s e) is) in
    record { whole = read_whole c k p w.0; modifiable = ap (λ ss. is_modifiable ss (place_type p)) same ∙ m; value_is = w.0 }))

target_whole : (c : Surroundings) (s : PlainScope) (e : Expression At) → c.structures ≡ s.structures → Valued c s e → (at : At) (may : Bool) → IfFound (IsTarget c) (target_judged every s.structures at may (judge every s e)).found
unfolding target_judged
target_whole c s e same go at may =
    if_where (IsTarget c) every (not may) subset.FixedTarget at _ (λ _. operand_target c s e same go at (judge every s e).found refl)

-- ## Assignments

copy_whole : (c : Surroundings) (at b : At) (m : Bool) (n : ℕ) (k : PlaceKind) (p : PlainPlace) → place_type p ≡ structure m n → IsTarget c (k, p) → (v : PlainValue) → IsWholeValue c v → IfRuled (IsWholeExpression c) (copied_from at p v)
copy_whole c at b m n k p is target (value d t (read q)) w =
    if_so (IsWholeExpression c) (same (unqualified (place_type p)) t) (copy p q) _ (λ e.
    let source : unqualified (place_type q) ≡ structure false n = sym w.1.type_is ∙ sym (same_is (unqualified (place_type p)) t e) ∙ ap unqualified is in
    let full : is_complete c.structures (structure m n) ≡ true = left_holds (is_complete c.structures (structure m n)) _ (ap (is_modifiable c.structures) (sym is) ∙ target.modifiable) in
    record {
      target = target.whole;
      modifiable = target.modifiable;
      source = record { whole = w.0; number = n; target_is = ap unqualified is; source_is = source; complete = full };
    })
copy_whole c at b m n k p is target v w = tt

set_whole : (c : Surroundings) (at : At) (k : PlaceKind) (p : PlainPlace) (v : PlainValue) → is_scalar (place_type p) ≡ true → IsTarget c (k, p) → WholeValue c v → IfRuled (IsWholeExpression c) (ruled (fitted at v (place_type p)) (λ w. Ok (set p w)))
set_whole c at k p v scalar target w =
    if_ruled (WholeOf c (unqualified (place_type p))) (IsWholeExpression c) (fitted at v (place_type p)) (λ x. Ok (set p x)) (fitted_whole c at v (place_type p) w)
    (λ x y. record { place = target.whole; value = y.0; scalar = scalar; modifiable = target.modifiable; type_is = y.1 })

no_target : false ≡ true → ⊥
no_target e = cc

assigned_whole : (c : Surroundings) (at : At) (k : PlaceKind) (p : PlainPlace) (v : PlainValue) → IsTarget c (k, p) → WholeValue c v → IfRuled (IsWholeExpression c) (assigned at p v)
assigned_whole c at k (place b (void m) f) v target w = absurd (no_target target.modifiable)
assigned_whole c at k (place b (integer m i) f) v target w = set_whole c at k (place b (integer m i) f) v refl target w
assigned_whole c at k (place b (pointer m t) f) v target w = set_whole c at k (place b (pointer m t) f) v refl target w
assigned_whole c at k (place b (array m t n) f) v target w = absurd (no_target target.modifiable)
assigned_whole c at k (place b (structure m n) f) v target w = copy_whole c at b m n k (place b (structure m n) f) refl target v w.0

-- operators of assignments, whose rows don't ask for null constants
abbrev IsUpdating : BinOp → Type 0
IsUpdating Eq = ⊥
IsUpdating Ne = ⊥
IsUpdating op = Unit {0}

no_flags : (ss : List PlainStructure) (op : BinOp) → IsUpdating op → (a b x y : Bool) (s t : PlainType) → binary_row ss op a b s t ≡ binary_row ss op x y s t
no_flags ss Add i a b x y s t = refl
no_flags ss Sub i a b x y s t = refl
no_flags ss Mul i a b x y s t = refl
no_flags ss Div i a b x y s t = refl
no_flags ss Rem i a b x y s t = refl
no_flags ss Shl i a b x y s t = refl
no_flags ss Shr i a b x y s t = refl
no_flags ss And i a b x y s t = refl
no_flags ss Or i a b x y s t = refl
no_flags ss Xor i a b x y s t = refl
no_flags ss Lt i a b x y s t = refl
no_flags ss Gt i a b x y s t = refl
no_flags ss Le i a b x y s t = refl
no_flags ss Ge i a b x y s t = refl
no_flags ss Eq i a b x y s t = absurd i
no_flags ss Ne i a b x y s t = absurd i

converted_as : (v : PlainValue) (t : PlainType) (b : Bool) → same (type_of v) t ≡ b → type_of (if b then v else value (at_of v) t (convert v)) ≡ t
converted_as v t true e = same_is (type_of v) t e
converted_as v t false e = refl

converted_type : (v : PlainValue) (t : PlainType) → type_of (converted v t) ≡ t
converted_type v t = converted_as v t (same (type_of v) t) refl

fits_scalar : (null : Bool) (s t : PlainType) → fits null s t ≡ true → is_scalar t ≡ true
fits_scalar null (integer a i) (integer b j) f = refl
fits_scalar null (integer a i) (pointer b t) f = refl
fits_scalar null (pointer a s) (pointer b t) f = refl
fits_scalar null s t f = absurd cc

fits_off : (null : Bool) (s t : PlainType) → fits null s t ≡ true → fits null s (unqualified t) ≡ true
fits_off null (integer a i) (integer b j) f = refl
fits_off null (integer a i) (pointer b t) f = f
fits_off null (pointer a s) (pointer b t) f = f
fits_off null s t f = absurd cc

-- the operator applied to the value of the place is whole, and so its right operand
right_whole : (c : Surroundings) (at : At) (op : BinOp) (a v : PlainValue) (r : Row) → binary_row c.structures op (is_null a) (is_null v) (type_of a) (type_of v) ≡ Some r → WholeValue c a → WholeValue c v → IsWholeValue c (converted v r.right)
right_whole c at op a v r is u w =
    let all : IfRuled (WholeValue c) (binary_by at op a v (Some r)) = subst (λ o. IfRuled (WholeValue c) (binary_by at op a v o)) is (binary_whole c at op a v u w) in
    all.0.1

updated_row_whole : (c : Surroundings) (at : At) (x : UpdateKind) (op : BinOp) (k : PlaceKind) (p : PlainPlace) (v : PlainValue) (o : Option Row) → IsUpdating op → binary_row c.structures op false (is_null v) (unqualified (place_type p)) (type_of v) ≡ o →
    IsTarget c (k, p) → WholeValue c v → ((t : PlainType) → IsStep x op (converted v t)) → IfRuled (IsWholeExpression c) (updated_by at x op p v o)
updated_row_whole c at x op k p v None i is target w step = tt
updated_row_whole c at x op k p v (Some r) i is target w step =
    if_so (IsWholeExpression c) (fits false r.result (place_type p)) (update x op r.left p (converted v r.right)) _ (λ f. record {
      place = target.whole;
      value = right_whole c at op (read_of k p) v r (no_flags c.structures op i (is_null (read_of k p)) (is_null v) false (is_null v) (unqualified (place_type p)) (type_of v) ∙ is) (target.value_is, unmarked_read k p) w;
      scalar = fits_scalar false r.result (place_type p) f;
      modifiable = target.modifiable;
      step = step r.right;
      right_type = type_of v;
      entry = r;
      is = no_flags c.structures op i false false false (is_null v) (unqualified (place_type p)) (type_of v) ∙ is;
      type_is = refl;
      value_is = converted_type v r.right;
      result_fits = fits_off false r.result (place_type p) f;
    })

updated_whole : (c : Surroundings) (at : At) (x : UpdateKind) (op : BinOp) (k : PlaceKind) (p : PlainPlace) (v : PlainValue) → IsUpdating op → IsTarget c (k, p) → WholeValue c v → ((t : PlainType) → IsStep x op (converted v t)) →
    IfRuled (IsWholeExpression c) (updated c.structures at x op p v)
updated_whole c at x op k p v i target w step =
    updated_row_whole c at x op k p v (binary_row c.structures op false (is_null v) (unqualified (place_type p)) (type_of v)) i refl target w step

-- ## By their signs

by_structures : (c : Surroundings) (ss : List PlainStructure) → c.structures ≡ ss → (at : At) (x : UpdateKind) (op : BinOp) (p : PlainPlace) (v : PlainValue) → IfRuled (IsWholeExpression c) (updated c.structures at x op p v) → IfRuled (IsWholeExpression c) (updated ss at x op p v)
by_structures c ss same at x op p v h = subst (λ ts. IfRuled (IsWholeExpression c) (updated ts at x op p v)) same h

abbrev MayUpdate : Option BinOp → Type 0
MayUpdate None = Unit {0}
MayUpdate (Some op) = IsUpdating op

may_update : (word : Sign) → MayUpdate (assignment_of word)
may_update sign.StarAssign = tt
may_update sign.SlashAssign = tt
may_update sign.PercentAssign = tt
may_update sign.PlusAssign = tt
may_update sign.MinusAssign = tt
may_update sign.ShiftLeftAssign = tt
may_update sign.ShiftRightAssign = tt
may_update sign.AndAssign = tt
may_update sign.CaretAssign = tt
may_update sign.BarAssign = tt
may_update word = tt

updating : (word : Sign) (op : BinOp) → assignment_of word ≡ Some op → IsUpdating op
updating word op e = subst MayUpdate e (may_update word)

assignment_whole : (c : Surroundings) (ss : List PlainStructure) → c.structures ≡ ss → (at : At) (o : Option BinOp) → ((op : BinOp) → o ≡ Some op → IsUpdating op) → (j : Judged (PlaceKind × PlainPlace)) (k : Judged PlainValue) →
    IfFound (IsTarget c) j.found → IfFound (WholeValue c) k.found → IfFound (IsWholeExpression c) (by_sign every ss at o j k).found
unfolding assignment_judged update_judged with_read
assignment_whole c ss same at None i j k t w =
    if_where (IsWholeExpression c) every _ subset.UnspecifiedOrder at _ (λ _.
    if_on (λ x. IsTarget c x.0 × WholeValue c x.1) (IsWholeExpression c) (pair every j.found k.found) _ (λ ((place_kind, p), v) x. assigned_whole c at place_kind p v x.0 x.1) (if_pair (IsTarget c) (WholeValue c) every j.found k.found t w))
assignment_whole c ss same at (Some op) i j k t w =
    if_where (IsWholeExpression c) every _ subset.UnspecifiedOrder at _ (λ _.
    if_on (λ x. IsTarget c x.0 × WholeValue c x.1) (IsWholeExpression c) (pair every j.found k.found) _
    (λ ((place_kind, p), v) x. by_structures c ss same at kind.Compound op p v (updated_whole c at kind.Compound op place_kind p v (i op refl) x.0 x.1 (λ t. tt))) (if_pair (IsTarget c) (WholeValue c) every j.found k.found t w))

-- ## Steps

one_whole : (c : Surroundings) (at : At) → WholeValue c (one_at at)
one_whole c at = (record { kind = Int; type_is = refl; in_range = holds_in Int (pos 1) refl }, refl)

one_as : (at : At) (t : PlainType) (b : Bool) → is_one (if b then one_at at else value (at_of (one_at at)) t (convert (one_at at))) ≡ true
one_as at t true = refl
one_as at t false = refl

one_stays : (at : At) (t : PlainType) → is_one (converted (one_at at) t) ≡ true
one_stays at t = one_as at t (same (type_of (one_at at)) t)

step_by : (word : Sign) (v : PlainValue) → is_one v ≡ true → IsStep kind.Step (step_of word) v
step_by sign.Decrement v e = e
step_by word v e = e

step_updating : (word : Sign) → IsUpdating (step_of word)
step_updating sign.Decrement = tt
step_updating word = tt

step_whole : (c : Surroundings) (ss : List PlainStructure) → c.structures ≡ ss → (at : At) (word : Sign) (j : Judged (PlaceKind × PlainPlace)) → IfFound (IsTarget c) j.found → IfFound (IsWholeExpression c) (step_judged ss at (step_of word) j).found
unfolding step_judged with_read
step_whole c ss same at word j t =
    if_on (IsTarget c) (IsWholeExpression c) j.found _
    (λ (k, p) x. by_structures c ss same at kind.Step (step_of word) p (one_at at) (updated_whole c at kind.Step (step_of word) k p (one_at at) (step_updating word) x (one_whole c at) (λ u. step_by word (converted (one_at at) u) (one_stays at u)))) t

-- ## Statements

-- a value that isn't void is found where a value is needed
needed : (ss : List PlainStructure) (j : Judged PlainOperand) (v : PlainValue) → (any_value ss j).found ≡ Ok v → is_void (type_of v) ≡ false → (as_value ss j).found ≡ Ok v
unfolding as_value
needed ss j v e solid = ap (λ f. on f not_void) e ∙ solid_is (is_void (type_of v)) _ v solid

abbrev IfSolid : Surroundings → PlainValue → Type 0
IfSolid c v = is_void (type_of v) ≡ false → IsWholeValue c v

evaluated_whole : (c : Surroundings) (s : PlainScope) (e : Expression At) → Valued c s e → IfFound (IsWholeExpression c) (evaluated every s (judge every s e))
evaluated_whole c s e go =
    if_on (IfSolid c) (IsWholeExpression c) (any_value s.structures (judge every s e)).found (λ v. Ok (evaluate v)) (λ v h. h)
    (found_if (IfSolid c) (any_value s.structures (judge every s e)).found (λ v is solid. (go v (needed s.structures (judge every s e) v is solid)).0))

abbrev Anything : PlainOperand → Type 0
Anything o = Unit {0}

anything : (f : Found PlainOperand) → IfFound Anything f
anything (Ok o) = tt
anything (Err rs) = tt

assertion_whole : (c : Surroundings) (o : PlainOperand) → IfRuled (IsWholeExpression c) (assertion o)
assertion_whole c (a_value (value at t (built_in s Assert (more_values v no_values)))) = tt
assertion_whole c o = tt

call_whole : (c : Surroundings) (s : PlainScope) (at : At) (all : Expressions At) (other : Found PlainStatementForm) (o : Option At) → IfFound (IsWholeExpression c) other → IfFound (IsWholeExpression c) (call_found every s at all other o)
call_whole c s at all other None h = h
call_whole c s at all other (Some name_at) h = if_on Anything (IsWholeExpression c) _ assertion (λ o _. assertion_whole c o) (anything _)

forms_whole : (c : Surroundings) (s : PlainScope) → c.structures ≡ s.structures → ((e : Expression At) → AreAllowed s e → Valued c s e) → (e : Expression At) → AreAllowed s e → IfFound (IsWholeExpression c) (form_found every s e)
forms_whole c s same go (expression at n (Assign word a b)) allowed =
    assignment_whole c s.structures same at (assignment_of word) (updating word) (target_judged every s.structures (place_of a) (may_be_place a) (judge every s a)) (as_value s.structures (judge every s b))
    (target_whole c s a same (go a allowed.1.0) (place_of a) (may_be_place a)) (found_if (WholeValue c) (as_value s.structures (judge every s b)).found (go b allowed.1.1))
forms_whole c s same go (expression at n (Step side word e)) allowed =
    step_whole c s.structures same at word (target_judged every s.structures (place_of e) (may_be_place e) (judge every s e)) (target_whole c s e same (go e allowed.1) (place_of e) (may_be_place e))
forms_whole c s same go (expression at n (Call f all)) allowed =
    call_whole c s at all (evaluated every s (judge every s (expression at n (Call f all)))) (assert_called s (called_name f)) (evaluated_whole c s (expression at n (Call f all)) (go (expression at n (Call f all)) allowed))
forms_whole c s same go e allowed = evaluated_whole c s e (go e allowed)

valued : (c : Surroundings) (s : PlainScope) → Stands c s → (e : Expression At) → AreAllowed s e → Valued c s e
valued c s stands e allowed v is = let w : IsWholeValue c v = values_whole_in c s e v stands allowed is in (w, whole_unmarked c v w)

pub expressions_are_whole : ExpressionsAreWhole
expressions_are_whole c s e f stands allowed is =
    if_found (IsWholeExpression c) (form_found every s e) f (forms_whole c s stands.structures_are (valued c s stands) e allowed) is

-- ## Tests

tested_whole : (c : Surroundings) (v : PlainValue) → WholeValue c v → IfRuled (IsTest c) (tested v)
tested_whole c v w = if_so (IsTest c) (is_scalar (type_of v)) v _ (λ e. record { whole = w.0; scalar = e })

promoted_twice : (i : IntType) → promoted (promoted i) ≡ promoted i
promoted_twice Truth = refl
promoted_twice Char = refl
promoted_twice SChar = refl
promoted_twice UChar = refl
promoted_twice Short = refl
promoted_twice UShort = refl
promoted_twice Int = refl
promoted_twice UInt = refl
promoted_twice Long = refl
promoted_twice ULong = refl
promoted_twice LLong = refl
promoted_twice ULLong = refl

integers_fit : (null : Bool) (t : PlainType) (i : IntType) → is_integer t ≡ true → fits null t (integer false i) ≡ true
integers_fit null (integer c j) i e = refl
integers_fit null (void c) i e = absurd cc
integers_fit null (pointer c t) i e = absurd cc
integers_fit null (array c t n) i e = absurd cc
integers_fit null (structure c n) i e = absurd cc

switched_whole : (c : Surroundings) (v : PlainValue) → WholeValue c v → IfRuled (IsSwitched c) (switched v)
switched_whole c v w =
    let i : IntType = promoted (integer_of (type_of v)) in
    if_so (IsSwitched c) (is_integer (type_of v)) (converted v (integer false i)) _ (λ e.
    let k : WholeOf c (integer false i) (converted v (integer false i)) = converted_whole c v (integer false i) w (integers_fit (is_null v) (type_of v) i e) refl in
    record { whole = k.0; kind = i; type_is = k.1; promoted_is = promoted_twice (integer_of (type_of v)) })

abbrev Returned : Surroundings → PlainType → PlainValue → Type 0
Returned c t v = Returns c t (Some v)

fitted_so : (c : Surroundings) (t : PlainType) (r : Ruled PlainValue) → is_void t ≡ false → IfRuled (WholeOf c (unqualified t)) r → IfRuled (Returned c t) r
fitted_so c t (Ok x) e h = (h.0, e, h.1)
fitted_so c t (Err r) e h = tt

returned_whole : (c : Surroundings) (at : At) (t : PlainType) (v : PlainValue) → WholeValue c v → IfRuled (Returned c t) (returned at t v)
returned_whole c at t v w =
    test_either (λ (r : Ruled PlainValue). IfRuled (Returned c t) r) (is_void t) (refused subset.TypesDiffer at) (fitted at v t) (λ e. tt) (λ e. fitted_so c t (fitted at v t) e (fitted_whole c at v t w))

-- what a row gives of a value that is found
on_value : {A : Type 0} (P : A → Type 0) (c : Surroundings) (s : PlainScope) (e : Expression At) (go : PlainValue → Ruled A) (x : A) → Stands c s → AreAllowed s e → ((v : PlainValue) → WholeValue c v → IfRuled P (go v)) →
    on (as_value s.structures (judge every s e)).found go ≡ Ok x → P x
on_value P c s e go x stands allowed by is =
    if_found P (on (as_value s.structures (judge every s e)).found go) x
    (if_on (WholeValue c) P (as_value s.structures (judge every s e)).found go by (found_if (WholeValue c) (as_value s.structures (judge every s e)).found (valued c s stands e allowed))) is

pub tests_are_whole : TestsAreWhole
tests_are_whole = record {
  tests = λ c s e v stands allowed is. on_value (IsTest c) c s e tested v stands allowed (tested_whole c) is;
  switches = λ c s e v stands allowed is. on_value (IsSwitched c) c s e switched v stands allowed (switched_whole c) is;
  results = λ c s e v at t stands allowed is. on_value (Returned c t) c s e (returned at t) v stands allowed (returned_whole c at t) is;
}
