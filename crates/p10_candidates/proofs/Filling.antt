-- Lists that are filled up to four.
use Rattle.std.proofs.Common.{◌≡◌, ℕ, zero, suc, ◌+◌, ◌-◌, List, [], ◌∷◌, ◌++◌, length, min, take, flat_map, refl, sym, ◌∙◌, ap, append_assoc, append-nil, length-append, length-take, arith}
use Rattle.std.specs.Prelude.{Result, OnOk}
use Rattle.std.proofs.lemmas.Grind.{flat_map-append}
use Rattle.std.proofs.lemmas.Result.{on_ok_weaker}
use Rattle.p10_base.specs.declared.at.At.{At}
use Rattle.p10_int.specs.declared.operators.BinOp.{BinOp}
use Rattle.p10_int.specs.declared.operators.BinOp.TheVariants.{Ne}
use Rattle.p10_core.specs.declared.typed.LogicOp.TheVariants.{And}
use Rattle.p10_core.specs.Types.{PlainType}
use Rattle.p10_core.specs.Typed.{PlainValue, PlainForm, logic}
use Rattle.p10_absx.specs.Comparing.{turned}
use Rattle.p10_candidates.specs.declared.course.Course.{Course}
use Rattle.p10_candidates.specs.declared.course.Course.TheVariants.{Below, Above}
use Rattle.p10_candidates.specs.Candidates.{conjuncts, conjuncts_of_form, courses_of}
use Rattle.p10_candidates.specs.private.Trying.{filled}

-- the first of two lists, one after the other
take_both : {A : Type 0} (n : ℕ) (a b : List A) → take n (a ++ b) ≡ take n a ++ take (n - length a) b
take_both zero [] b = refl
take_both zero (x ∷ a) b = let none : 0 ≡ 0 - length (x ∷ a) = omega arith in ap (λ k. take k b) none
take_both (suc n) [] b = let all : suc n ≡ suc n - 0 = omega arith in ap (λ k. take k b) all
take_both (suc n) (x ∷ a) b =
    let left : n - length a ≡ suc n - length (x ∷ a) = omega arith in
    ap (λ l. x ∷ l) (take_both n a b) ∙ ap (λ k. x ∷ (take n a ++ take k b)) left

-- how much room is left
room_left : {A : Type 0} (old a : List A) → 4 - length (old ++ take (4 - length old) a) ≡ (4 - length old) - length a
room_left old a =
    let whole : length (old ++ take (4 - length old) a) ≡ length old + min (4 - length old) (length a) = length-append old (take (4 - length old) a) ∙ ap (λ k. length old + k) (length-take (4 - length old) a) in
    omega (arith, whole)

-- what is put after what was put
pub filled_twice : {A : Type 0} (old a b : List A) → filled (filled old a) b ≡ filled old (a ++ b)
filled_twice old a b =
    ap (λ k. (old ++ take (4 - length old) a) ++ take k b) (room_left old a) ∙
    (append_assoc old (take (4 - length old) a) (take ((4 - length old) - length a) b) ∙ ap (λ l. old ++ l) (sym (take_both (4 - length old) a b)))

-- the same for two steps, of which the second may fail
pub filled_then : {T E A : Type 0} (r : Result T E) (old mid new a b : List A) → mid ≡ filled old a → OnOk r (new ≡ filled mid b) → OnOk r (new ≡ filled old (a ++ b))
filled_then r old mid new a b first second = on_ok_weaker r (λ is. is ∙ (ap (λ m. filled m b) first ∙ filled_twice old a b)) second

-- ## Steps of the code

-- both courses of `!=`
pub filled_courses : {T E A : Type 0} (r : Result T E) (f : Course → List A) (op : BinOp) (old mid new : List A) → op ≡ Ne → mid ≡ filled old (f Below) → OnOk r (new ≡ filled mid (f Above)) →
    OnOk r (new ≡ filled old (flat_map f (courses_of op)))
filled_courses r f op old mid new is first second =
    let all : f Below ++ f Above ≡ flat_map f (courses_of op) = ap (λ l. f Below ++ l) (sym (append-nil (f Above))) ∙ ap (λ o. flat_map f (courses_of o)) (sym is) in
    on_ok_weaker r (λ e. e ∙ ap (filled old) all) (filled_then r old mid new (f Below) (f Above) first second)

-- both sides of a comparison, the right one by the comparison turned round
pub filled_turned : {T E A : Type 0} (r : Result T E) (g : BinOp → List A) (op other : BinOp) (old mid new a : List A) → other ≡ turned op → mid ≡ filled old a → OnOk r (new ≡ filled mid (g other)) →
    OnOk r (new ≡ filled old (a ++ g (turned op)))
filled_turned r g op other old mid new a is first second =
    on_ok_weaker r (λ e. e ∙ ap (λ o. filled old (a ++ g o)) is) (filled_then r old mid new a (g other) first second)

-- both operands of `&&`
pub filled_conjuncts : {T E A : Type 0} (r : Result T E) (f : PlainValue → List A) (at : At) (t : PlainType) (form : PlainForm) (a b : PlainValue) (old mid new : List A) → form ≡ logic And a b →
    mid ≡ filled old (flat_map f (conjuncts a)) → OnOk r (new ≡ filled mid (flat_map f (conjuncts b))) → OnOk r (new ≡ filled old (flat_map f (conjuncts_of_form at t form)))
filled_conjuncts r f at t form a b old mid new is first second =
    let all : flat_map f (conjuncts a) ++ flat_map f (conjuncts b) ≡ flat_map f (conjuncts_of_form at t form) =
    sym (flat_map-append f (conjuncts a) (conjuncts b)) ∙ ap (λ g. flat_map f (conjuncts_of_form at t g)) (sym is) in
    on_ok_weaker r (λ e. e ∙ ap (filled old) all) (filled_then r old mid new (flat_map f (conjuncts a)) (flat_map f (conjuncts b)) first second)
