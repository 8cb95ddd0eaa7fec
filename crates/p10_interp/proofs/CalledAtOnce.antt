-- Calls that are made at once come to what the meaning says.
use Rattle.std.proofs.Common.{◌≡◌, ℕ, zero, suc, ◌<◌, ◌≤◌, true, if◌then◌else◌, List, [], ◌∷◌, ◌++◌, map, take, drop, length, get_or, ◌-◌, refl, sym, ◌∙◌, ap, subst, append-nil, append_assoc, arith, ℤ, Some, slice_get}
use Rattle.p10_base.specs.declared.at.At.{At}
use Rattle.p10_base.specs.declared.span.Span.{Span}
use Rattle.p10_core.specs.Types.{PlainType}
use Rattle.p10_core.specs.Typed.{PlainValue, value, call, PlainValues, no_values, more_values, PlainStatements, statement, more_statements, return, PlainVariable, PlainFunction, PlainProgram}
use Rattle.p10_core.specs.declared.program.Variable.{Variable}
use Rattle.p10_core.specs.declared.typed.Value.{Value}
use Rattle.p10_core.specs.Views.{plain_variable, plain_value, plain_values}
use Rattle.p10_meaning.specs.declared.pointers.Scalar.{Scalar}
use Rattle.p10_meaning.specs.declared.pointers.Scalar.TheVariants.{Int}
use Rattle.p10_meaning.specs.Pointers.{holding}
use Rattle.p10_meaning.specs.Objects.{Object, declared}
use Rattle.p10_meaning.specs.States.{State, gives, step_at, and_then, or_undefined}
use Rattle.p10_meaning.specs.Values.{Setting, Held, holds, stands, absent, open_object, used, evaluate, evaluate_all}
use Rattle.p10_meaning.specs.Statements.{flows, returned, go_on, execute_from}
use Rattle.p10_meaning.specs.Calling.{Depth, deeper, raised, Entered, entered, with_variable, setting_of, leave_call, enter_call, call_at}
use Rattle.p10_interp.specs.declared.held.Held.{Held as Standing}
use Rattle.p10_interp.specs.private.Tasks.{Open}
use Rattle.p10_interp.specs.private.Standing.{held_of}
use Rattle.p10_interp.specs.private.OpenCalls.{innermost_held}
use Rattle.p10_interp.specs.private.Resuming.{setting_in, depth_of}
use Rattle.p10_interp.specs.private.AtOnce.{Finds}
use Rattle.p10_interp.specs.private.CallingAtOnce.{frame_of, starts_with, Fills, AreAbsent, Returns, IsCalled, IsValueOfCall}

-- ## The frame

pushed : (items : List Standing) (h : Standing) → map held_of (items ++ h ∷ []) ≡ map held_of items ++ held_of h ∷ []
pushed [] h = refl
pushed (x ∷ items) h = ap (λ xs. held_of x ∷ xs) (pushed items h)

-- what was held after one more
pub held_more : (items mid : List Standing) (h : Standing) (held : Held) → mid ≡ items ++ h ∷ [] → held_of h ≡ held → map held_of mid ≡ map held_of items ++ held ∷ []
held_more items mid h held e d = ap (λ xs. map held_of xs) e ∙ (pushed items h ∙ ap (λ held. map held_of items ++ held ∷ []) d)

joined : (old mid new more : List Held) (held : Held) → mid ≡ old ++ held ∷ [] → new ≡ mid ++ more → new ≡ old ++ held ∷ more
joined old mid new more held e d = d ∙ (ap (λ xs. xs ++ more) e ∙ append_assoc old (held ∷ []) more)

pub absent_none : (old : List Held) → AreAbsent [] old old
absent_none old = record { more = []; now = sym (append-nil old); enters = λ w. refl }

pub absent_more : (v : PlainVariable) (vs : List PlainVariable) (old mid new : List Held) → mid ≡ old ++ absent ∷ [] → AreAbsent vs mid new → AreAbsent (v ∷ vs) old new
absent_more v vs old mid new e h = record {
  more = absent ∷ h.more;
  now = joined old mid new h.more absent e h.now;
  enters = λ w. ap (λ (rest : Entered). with_variable absent rest.frame.opened rest) (h.enters w);
}

-- no arguments
pub filled_absent : (p : PlainProgram) (standing : List Held) (objects : List Object) (vs : List PlainVariable) (before : ℕ) (old new : List Held) (after : ℕ) → (0 < after → (after ≡ before) × AreAbsent vs old new) → Fills p standing objects vs no_values before old new after
filled_absent p standing objects vs before old new after h = λ some. let k = h some in record {
  xs = [];
  more = k.1.more;
  now = k.1.now;
  given = λ s same more w is. ap (λ n. gives [] (record w { left = n })) (sym k.0);
  enters = k.1.enters;
}

-- one argument before others
pub filled_more : (p : PlainProgram) (standing : List Held) (objects : List Object) (v : PlainVariable) (vs : List PlainVariable) (a : PlainValue) (more : PlainValues) (before mid after : ℕ) (x : ℤ) (old now new : List Held) → v.frame ≡ true → 0 < mid → ((s : Setting) → s.program ≡ p → Finds (evaluate s standing a) objects before (Int x) mid) → now ≡ old ++ holds (holding (Int x)) ∷ [] →
    Fills p standing objects vs more mid now new after → Fills p standing objects (v ∷ vs) (more_values a more) before old new after
filled_more p standing objects v vs a more before mid after x old now new frame some_mid h e rest = λ some. let k = rest some in record {
  xs = Int x ∷ k.xs;
  more = holds (holding (Int x)) ∷ k.more;
  now = joined old now new k.more (holds (holding (Int x))) e k.now;
  given = λ s same left w is.
      ap (λ o. and_then o (λ x w. and_then (evaluate_all s standing more w) (λ xs w. gives (x ∷ xs) w))) (h s same some_mid w is) ∙
      ap (λ o. and_then o (λ xs w. gives (Int x ∷ xs) w)) (k.given s same left w is);
  enters = λ w. frame_entered vs k.xs (Int x) w frame ∙ ap (λ (rest : Entered). with_variable (holds (holding (Int x))) rest.frame.opened rest) (k.enters w);
}
  where
    frame_entered : (vs : List PlainVariable) (xs : List Scalar) (x : Scalar) (w : State) → v.frame ≡ true → entered (v ∷ vs) (x ∷ xs) w ≡ (let rest : Entered = entered vs xs w in with_variable (holds (holding x)) rest.frame.opened rest)
    frame_entered vs xs x w e =
        ap (λ b. if b then (let rest : Entered = entered vs xs w in with_variable (holds (holding x)) rest.frame.opened rest) else (let rest : Entered = entered vs xs (open_object declared (holding x ∷ []) w) in with_variable (stands w.opened) (w.opened ∷ rest.frame.opened) rest)) e

-- ## Lists of the code

take_whole : {A : Type 0} (n : ℕ) (xs : List A) → n ≡ length xs → take n xs ≡ xs
take_whole zero [] e = refl
take_whole zero (x ∷ xs) e = absurd (omega (arith, e))
take_whole (suc n) [] e = refl
take_whole (suc n) (x ∷ xs) e = ap (λ ys. x ∷ ys) (take_whole n xs (omega (arith, e)))

-- what comes after the first
rest_is : {A : Type 0} (x : A) (xs : List A) → take (length (x ∷ xs) - 1) (drop 1 (x ∷ xs)) ≡ xs
rest_is x xs = take_whole (length (x ∷ xs) - 1) xs (omega arith)

-- nothing stands for the first of variables, or there is none
pub absent_next : (variables : List Variable) (items mid : List Standing) (new : List Held) (h : Standing) → 1 ≤ length variables → mid ≡ items ++ h ∷ [] → held_of h ≡ absent → AreAbsent (map plain_variable (take (length variables - 1) (drop 1 variables))) (map held_of mid) new → AreAbsent (map plain_variable variables) (map held_of items) new
absent_next [] items mid new h l e d rest = absurd (omega (arith, l))
absent_next (v ∷ vs) items mid new h l e d rest =
    absent_more (plain_variable v) (map plain_variable vs) (map held_of items) (map held_of mid) new (held_more items mid h absent e d) (subst (λ vs. AreAbsent (map plain_variable vs) (map held_of mid) new) (rest_is v vs) rest)

pub absent_all : (variables : List Variable) (old : List Held) → length variables < 1 → AreAbsent (map plain_variable variables) old old
absent_all [] old l = absent_none old
absent_all (v ∷ vs) old l = absurd (omega (arith, l))

-- there are no arguments
pub filled_without : (p : PlainProgram) (standing : List Held) (objects : List Object) (vs : List PlainVariable) (arguments : List Value) (before : ℕ) (old new : List Held) (after : ℕ) → length arguments < 1 → (0 < after → (after ≡ before) × AreAbsent vs old new) → Fills p standing objects vs (plain_values arguments) before old new after
filled_without p standing objects vs [] before old new after l h = filled_absent p standing objects vs before old new after h
filled_without p standing objects vs (a ∷ more) before old new after l h = absurd (omega (arith, l))

-- the first argument stands for the first variable
pub filled_next : (p : PlainProgram) (standing : List Held) (objects : List Object) (variables : List Variable) (arguments : List Value) (variable : Variable) (argument : Value) (before mid after : ℕ) (x : ℤ) (items now : List Standing) (new : List Held) (h : Standing) → 1 ≤ length variables → variable ≡ get_or variables 0 variable → 1 ≤ length arguments → argument ≡ get_or arguments 0 argument → variable.frame ≡ true → 0 < mid →
    ((s : Setting) → s.program ≡ p → Finds (evaluate s standing (plain_value argument)) objects before (Int x) mid) → now ≡ items ++ h ∷ [] → held_of h ≡ holds (holding (Int x)) →
    Fills p standing objects (map plain_variable (take (length variables - 1) (drop 1 variables))) (plain_values (take (length arguments - 1) (drop 1 arguments))) mid (map held_of now) new after → Fills p standing objects (map plain_variable variables) (plain_values arguments) before (map held_of items) new after
filled_next p standing objects [] arguments variable argument before mid after x items now new h l e m d frame some found put is rest = absurd (omega (arith, l))
filled_next p standing objects (v ∷ vs) [] variable argument before mid after x items now new h l e m d frame some found put is rest = absurd (omega (arith, m))
filled_next p standing objects (v ∷ vs) (a ∷ more) variable argument before mid after x items now new h l e m d frame some found put is rest =
    filled_more p standing objects (plain_variable v) (map plain_variable vs) (plain_value a) (plain_values more) before mid after x (map held_of items) (map held_of now) new (subst (λ (v : Variable). v.frame ≡ true) e frame) some (subst (λ a. (s : Setting) → s.program ≡ p → Finds (evaluate s standing (plain_value a)) objects before (Int x) mid) d found) (held_more items now h (holds (holding (Int x))) put is)
    (subst (λ vs. Fills p standing objects (map plain_variable vs) (plain_values more) mid (map held_of now) new after) (rest_is v vs) (subst (λ more. Fills p standing objects (map plain_variable (take (length (v ∷ vs) - 1) (drop 1 (v ∷ vs)))) (plain_values more) mid (map held_of now) new after) (rest_is a more) rest))

-- ## The body

-- the same for another number that is equal
pub returns_same : (p : PlainProgram) (held : List Held) (objects : List Object) (body : PlainStatements) (before after : ℕ) (z y : ℤ) → y ≡ z → Returns p held objects body before z after → Returns p held objects body before y after
returns_same p held objects body before after z y e h = subst (λ z. Returns p held objects body before z after) (sym e) h

-- a body that begins with `return` of a number
pub returned_first : (p : PlainProgram) (held : List Held) (objects : List Object) (at : At) (keyword : Span) (v : PlainValue) (rest : PlainStatements) (before paid after : ℕ) (z : ℤ) → before ≡ suc paid → ((s : Setting) → s.program ≡ p → Finds (evaluate s held v) objects paid (Int z) after) →
    Returns p held objects (more_statements (statement at (return keyword (Some v))) rest) before z after
returned_first p held objects at keyword v rest before paid after z e h = λ s same some w is.
    ap (λ b. and_then (step_at b (record w { left = before }) (λ w. and_then (evaluate s held v w) (λ x w. flows (returned (Some x)) (frame_of held) w))) (λ done w. go_on done.flow done.frame w (λ frame w. execute_from s 0 rest frame w))) e ∙
    ap (λ o. and_then (and_then o (λ x w. flows (returned (Some x)) (frame_of held) w)) (λ done w. go_on done.flow done.frame w (λ frame w. execute_from s 0 rest frame w))) (h s same some w is)

-- ## The call

-- a call on scalars
call_made : (p : PlainProgram) (m : ℕ) (depth : Depth) (g : ℕ) (h : PlainFunction) (xs : List Scalar) (held : List Held) (objects : List Object) (w : State) (mid paid after : ℕ) (z : ℤ) → slice_get p.functions g ≡ Some h → mid ≡ suc paid → ((w : State) → entered h.variables xs w ≡ starts_with held w) → Returns p held objects h.body paid z after → 0 < after → w.objects ≡ objects →
    call_at (suc m) p depth g xs (record w { left = mid }) ≡ gives (Some (Int z)) (record (raised (deeper h depth) w) { left = after })
call_made p m depth g h xs held objects w mid paid after z is e enters returns some same =
    let there : Depth = deeper h depth in
    let s : Setting = setting_of p m (call_at m p) there h in
    ap (λ l. step_at l (record w { left = mid }) (λ w. enter_call p m (call_at m p) depth (slice_get p.functions g) xs w)) e ∙
    (ap (λ o. enter_call p m (call_at m p) depth o xs (record w { left = paid })) is ∙
    (ap (λ (start : Entered). and_then (execute_from s 0 h.body start.frame start.state) leave_call) (enters (raised there (record w { left = paid }))) ∙
    ap (λ o. and_then o leave_call) (returns s refl some (raised there w) same)))

-- a call, where the bound isn't zero
call_bounded : (p : PlainProgram) (n : ℕ) (depth : Depth) (g : ℕ) (h : PlainFunction) (xs : List Scalar) (held : List Held) (objects : List Object) (w : State) (mid paid after : ℕ) (z : ℤ) → 0 < n → slice_get p.functions g ≡ Some h → mid ≡ suc paid → ((w : State) → entered h.variables xs w ≡ starts_with held w) → Returns p held objects h.body paid z after → 0 < after → w.objects ≡ objects →
    call_at n p depth g xs (record w { left = mid }) ≡ gives (Some (Int z)) (record (raised (deeper h depth) w) { left = after })
call_bounded p zero depth g h xs held objects w mid paid after z l is e enters returns some same = absurd (omega (arith, l))
call_bounded p (suc m) depth g h xs held objects w mid paid after z l is e enters returns some same = call_made p m depth g h xs held objects w mid paid after z is e enters returns some same

-- a call with its arguments
pub called_by : (p : PlainProgram) (standing : List Held) (objects : List Object) (g : ℕ) (h : PlainFunction) (arguments : PlainValues) (cs : List Open) (before mid paid after : ℕ) (there depth : Depth) (z : ℤ) (none held : List Held) → slice_get p.functions g ≡ Some h → standing ≡ innermost_held cs → there ≡ deeper h depth → depth ≡ depth_of cs → none ≡ [] →
    Fills p standing objects h.variables arguments before none held mid → mid ≡ suc paid → Returns p held objects h.body paid z after → IsCalled p g arguments cs objects before there z after
called_by p standing objects g h arguments cs before mid paid after there depth z none held is same_held deep here empty fills e returns = λ s n f calls same calling l opens some w there_are.
    let some_mid : 0 < mid = omega (arith, e) in
    let k = fills some_mid in
    let more : held ≡ k.more = k.now ∙ ap (λ xs. xs ++ k.more) empty in
    ap (λ held. and_then (evaluate_all s held arguments (record w { left = before })) (λ xs w. s.call g xs w)) (sym (same_held ∙ ap innermost_held opens)) ∙
    (ap (λ o. and_then o (λ xs w. s.call g xs w)) (k.given s same some_mid w there_are) ∙
    (ap (λ call. call g k.xs (record w { left = mid })) calling ∙
    (call_bounded p n f.depth g h k.xs k.more objects w mid paid after z l is e k.enters (subst (λ held. Returns p held objects h.body paid z after) more returns) some there_are ∙
    ap (λ d. gives (Some (Int z)) (record (raised d w) { left = after })) (sym (deep ∙ ap (deeper h) (here ∙ ap depth_of opens))))))

-- the value of a call
pub call_value : (s : Setting) (held : List Held) (at : At) (t : PlainType) (name : Span) (g : ℕ) (arguments : PlainValues) (w v : State) (before : ℕ) (z : ℤ) → w.left ≡ suc before → and_then (evaluate_all s held arguments (record w { left = before })) (λ xs w. s.call g xs w) ≡ gives (Some (Int z)) v →
    evaluate s held (value at t (call name g arguments)) w ≡ gives (Int z) v
call_value s held at t name g arguments w v before z e h =
    ap (λ l. and_then (step_at l w (λ w. and_then (evaluate_all s held arguments w) (λ xs w. s.call g xs w))) (λ x w. or_undefined (used x) at.span w (λ x. gives x w))) e ∙
    ap (λ o. and_then o (λ x w. or_undefined (used x) at.span w (λ x. gives x w))) h

-- the value of a call in the innermost call
pub value_called : (p : PlainProgram) (g : ℕ) (arguments : PlainValues) (cs : List Open) (objects : List Object) (before paid after : ℕ) (depth : Depth) (z : ℤ) → before ≡ suc paid → IsCalled p g arguments cs objects paid depth z after → IsValueOfCall p g arguments cs objects before depth z after
value_called p g arguments cs objects before paid after depth z e h = λ at t name n f calls w few most opens some same.
    call_value (setting_in p n f) f.frame.held at t name g arguments (record w { left = before }) (record (raised depth w) { left = after }) paid z e (h (setting_in p n f) n f calls refl refl (omega (arith, e, few, most)) opens some w same)

-- the same for another number that is equal
pub called_same : (p : PlainProgram) (g : ℕ) (arguments : PlainValues) (cs : List Open) (objects : List Object) (before after : ℕ) (depth : Depth) (z y : ℤ) → y ≡ z → IsCalled p g arguments cs objects before depth z after → IsCalled p g arguments cs objects before depth y after
called_same p g arguments cs objects before after depth z y e h = subst (λ z. IsCalled p g arguments cs objects before depth z after) (sym e) h

pub value_same : (p : PlainProgram) (g : ℕ) (arguments : PlainValues) (cs : List Open) (objects : List Object) (before after : ℕ) (depth : Depth) (z y : ℤ) → y ≡ z → IsValueOfCall p g arguments cs objects before depth z after → IsValueOfCall p g arguments cs objects before depth y after
value_same p g arguments cs objects before after depth z y e h = subst (λ z. IsValueOfCall p g arguments cs objects before depth z after) (sym e) h
