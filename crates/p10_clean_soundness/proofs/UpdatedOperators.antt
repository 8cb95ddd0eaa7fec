-- The operator of an update has a result, where it has no flaws.
use Rattle.std.proofs.Common.{◌≡◌, Bool, false, List, [], refl, sym, ◌∙◌, ap, subst, Option, Some, None, ℤ}
use Rattle.p10_base.specs.declared.span.Span.{Span}
use Rattle.p10_int.specs.declared.types.IntType.{IntType}
use Rattle.p10_int.specs.declared.operators.BinOp.{BinOp}
use Rattle.p10_int.specs.Conversion.{converted}
use Rattle.p10_int.specs.Operators.{operate}
use Rattle.p10_int.proofs.Conversions.{converted_in}
use Rattle.std.specs.Result.{IsOk}
use Rattle.p10_core.specs.declared.statements.UpdateKind.{UpdateKind}
use Rattle.p10_core.specs.Types.{PlainType, void, integer, pointer, array, structure}
use Rattle.p10_core.specs.Constants.{integer_of}
use Rattle.p10_core.specs.Typed.{PlainValue, type_of, PlainPlace, place, place_type, PlainVariable, PlainProgram}
use Rattle.p10_core.specs.Whole.{Surroundings}
use Rattle.p10_core.specs.WholePrograms.{Updates}
use Rattle.p10_cert.specs.Claims.{Claims}
use Rattle.p10_meaning.specs.declared.pointers.Scalar.{Scalar}
use Rattle.p10_meaning.specs.declared.pointers.Scalar.TheVariants.{Int, Pointer}
use Rattle.p10_meaning.specs.Objects.{Object}
use Rattle.p10_meaning.specs.Scalars.{converted_to, operated}
use Rattle.p10_meaning.specs.Values.{Held, Target}
use Rattle.p10_meaning.specs.Sound.{Kind, Fits}
use Rattle.p10_meaning.proofs.SoundUpdates.{IsRow, binary_row_is}
use Rattle.p10_absx.specs.Abstract.{Abstract}
use Rattle.p10_absx.specs.Environments.{Environment}
use Rattle.p10_absx.specs.Assessing.{abstract_value}
use Rattle.p10_absx.specs.Describing.{HoldsNumber, MaybeHolds, Describes}
use Rattle.p10_absx.specs.Operators.{converted_abstract}
use Rattle.p10_pass.specs.Passing.{before_update}
use Rattle.p10_evaluation.specs.Laws.{IsHeldBy}
use Rattle.p10_evaluation.proofs.Operating.{converted_holds}
use Rattle.p10_execution.proofs.Storing.{Points}
use Rattle.p10_execution.proofs.Updating.{IsRead, before_holds, right_integer}
use Rattle.p10_clean.specs.Values.{operands_flaws}
use Rattle.p10_clean.specs.Statements.{update_flaws}
use Rattle.p10_clean_soundness.proofs.Operators.{none_stops}
use Rattle.p10_clean_soundness.proofs.Flawless.{clean_operation, IsCleanOperation}
use Rattle.p10_clean_soundness.proofs.Operated.{HasResult, ok_number, IsNumberOf, number_of_type}

-- a scalar of an integer type, which may have a mark
marked_number : (p : PlainProgram) (ks : List Kind) (c : Bool) (i : IntType) (x : Scalar) → Fits p ks (integer c i) x → IsNumberOf i x
marked_number p ks c i (Int z) f = record { number = z; is = refl; in_range = f }
marked_number p ks c i (Pointer q) f = absurd f

-- an operator without flaws at the type to which its left operand is converted
converted_ok : (head : List Held) (at : Span) (op : BinOp) (k : IntType) (a : Abstract) (b : Option Abstract) → operands_flaws at op k (Some (converted_abstract k a)) b ≡ [] → (x y : ℤ) → HoldsNumber head a x → MaybeHolds head b y → IsOk (operate op k (converted k x) y)
converted_ok head at op k a None e x y h g = absurd g
converted_ok head at op k a (Some b) e x y h g =
    let clean : IsCleanOperation op k (converted_abstract k a).range b.range = clean_operation at op k (converted_abstract k a).range b.range e in
    none_stops op k (converted_abstract k a).range b.range clean.fits clean.divides clean.shifts (converted k x) y (converted_holds head k a x h).member g.member (converted_in k x)

-- `P op= e;`, once P was read and `e` was evaluated
pub update_ok : (p : PlainProgram) (ks js : List Kind) (c : Surroundings) (calls : Option Claims) (kind : UpdateKind) (at : Span) (op : BinOp) (t : PlainType) (q : PlainPlace) (v : PlainValue) → Updates c kind op t q v →
    (variables : List PlainVariable) (env : Environment) (head held : List Held) → update_flaws at op t q (abstract_value calls env v) env ≡ [] → (target : Target) → Points held q target → (x y : Scalar) → IsRead held target x → Describes variables env head held →
    Fits p ks (place_type q) x → Fits p js (type_of v) y → IsHeldBy head (abstract_value calls env v) y → (objects : List Object) → HasResult (operated op t objects (converted_to t x) y)
update_ok p ks js c calls kind at op t (place there (integer d i) form) v u variables env head held e target points x y read describes fx fy held_by objects =
    subst (λ t. HasResult (operated op t objects (converted_to t x) y)) (sym type_is)
    (subst (λ x. HasResult (operated op (integer false k) objects (converted_to (integer false k) x) y)) (sym a.is)
    (subst (λ y. HasResult (operated op (integer false k) objects (Int (converted k a.number)) y)) (sym b.is)
    (ok_number (operate op k (converted k a.number) b.number)
    (converted_ok head at op k (before_update q env) (abstract_value calls env v) flaws a.number b.number before (subst (IsHeldBy head (abstract_value calls env v)) b.is held_by)))))
  where
    q : PlainPlace
    q = place there (integer d i) form

    row : IsRow op (integer false i) u.entry
    row = binary_row_is c.structures op (integer false i) u.right_type u.entry u.is

    k : IntType
    k = row.left.0

    type_is : t ≡ integer false k
    type_is = u.type_is ∙ row.left.1

    right : (j : IntType) × (u.entry.right ≡ integer false j)
    right = right_integer c.structures op i i u.right_type u.entry u.is u.result_fits

    a : IsNumberOf i x
    a = marked_number p ks d i x fx

    b : IsNumberOf right.0 y
    b = number_of_type p js (type_of v) right.0 y (u.value_is ∙ right.1) fy

    flaws : operands_flaws at op k (Some (converted_abstract k (before_update q env))) (abstract_value calls env v) ≡ []
    flaws = subst (λ k. operands_flaws at op k (Some (converted_abstract k (before_update q env))) (abstract_value calls env v) ≡ []) (ap integer_of type_is) e

    before : HoldsNumber head (before_update q env) a.number
    before = before_holds variables env head held q target a.number points (subst (IsRead held target) a.is read) a.in_range describes
update_ok p ks js c calls kind at op t (place there (void d) form) v u variables env head held e target points x y read describes fx fy held_by objects = absurd cc
update_ok p ks js c calls kind at op t (place there (pointer d r) form) v u variables env head held e target points x y read describes fx fy held_by objects = absurd cc
update_ok p ks js c calls kind at op t (place there (array d r n) form) v u variables env head held e target points x y read describes fx fy held_by objects = absurd cc
update_ok p ks js c calls kind at op t (place there (structure d n) form) v u variables env head held e target points x y read describes fx fy held_by objects = absurd cc
