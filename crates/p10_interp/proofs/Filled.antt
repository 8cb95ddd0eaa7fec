-- Objects that are filled by a list.
use Rattle.std.proofs.Common.{◌≡◌, ◌≢◌, pos, ◌<◌, ℕ, zero, suc, ◌+◌, ◌-◌, ◌≤◌, eqb, cond, Bool, true, false, List, [], ◌∷◌, ◌++◌, length, drop, map, refl, sym, ◌∙◌, ap, subst, arith, Result, Ok, Err, IfOk, take, Option, Some, None, slice_get, get_or, option_map}
use Rattle.std.proofs.lemmas.Bool.{eq-eqb}
use Rattle.std.proofs.lemmas.Option.{none-some, same_Some}
use Rattle.std.proofs.lemmas.List.{take_all}
use Rattle.p10_meaning.specs.declared.pointers.Cell.{Cell}
use Rattle.p10_meaning.specs.Opening.{listed_cells}
use Rattle.p10_base.specs.declared.span.Span.{Span}
use Rattle.p10_int.specs.declared.operators.Stop.{Stop}
use Rattle.p10_core.specs.Types.{PlainType}
use Rattle.p10_core.specs.Typed.{one_scalar, scalars_of_text, PlainItem, PlainProgram, PlainValue}
use Rattle.p10_meaning.specs.declared.pointers.Ptr.{Ptr}
use Rattle.p10_meaning.specs.declared.pointers.Scalar.{Scalar}
use Rattle.p10_meaning.specs.declared.pointers.Scalar.TheVariants.{Int}
use Rattle.p10_meaning.specs.Pointers.{holding}
use Rattle.p10_meaning.specs.Objects.{Object}
use Rattle.p10_meaning.specs.States.{State, Undefined as IsUndefined, StepsSpent, Progress, ends, step_at, or_undefined}
use Rattle.p10_meaning.specs.Scalars.{converted_to, zero_of}
use Rattle.p10_meaning.specs.Values.{Target, scalars, pointer_to}
use Rattle.p10_meaning.specs.Statements.{Frame, Done, normal, goes, write_part, text_scalars, listed_scalar, fill}
use Rattle.p10_store.specs.Stores.{Held}
use Rattle.p10_interp.specs.declared.work.Halt.{Halt}
use Rattle.p10_interp.specs.declared.work.Halt.TheVariants.{Failed, Undefined, Spent, Memory}
use Rattle.p10_interp.specs.private.Tasks.{fill_from, Operand, Open, Left}
use Rattle.p10_interp.specs.private.Operations.{first_target, below, on_some, taken_before, on_taken, leaves_done, count_written, count_of_items, scalars_written, scalars_of_items, done_by}
use Rattle.p10_interp.specs.private.Views.{Answers, left_with}
use Rattle.p10_interp.specs.private.Writing.{Changes, Continues}
use Rattle.p10_interp.proofs.Assigned.{done_left}
use Rattle.p10_interp.proofs.Begun.{step_paid}
use Rattle.p10_interp.specs.declared.kinds.Kind.{Kind}
use Rattle.p10_interp.specs.private.Kinds.{HasKind, HasKindAt}
use Rattle.p10_interp.specs.private.Listing.{first_listed, byte_for, taken_by, LooksAt}
use Rattle.p10_interp.specs.private.Entering.{Takes}
use Rattle.p10_core.specs.declared.statements.Item.{Item}
use Rattle.p10_core.specs.declared.typed.Value.{Value}
use Rattle.p10_core.specs.declared.statements.Written.{Written}
use Rattle.p10_core.specs.declared.statements.Written.TheVariants.{Scalar as ScalarWritten}
use Rattle.p10_core.specs.Views.{plain_item, plain_written, plain_value}
use Rattle.p10_interp.proofs.Items.{left_at, none_left, not_equal}

-- ## What a list gives

-- the scalar of a list that is found, or nothing
pub listed_found : (i : ℕ) (t : PlainType) (xs : List (ℕ × Scalar)) (x : Scalar) → first_listed i xs ≡ Some x → converted_to t x ≡ listed_scalar i t xs
listed_found i t [] x e = absurd (none-some _ e)
listed_found i t (y ∷ ys) x e = case (eqb y.0 i) e (listed_found i t ys x)
  where
    case : (b : Bool) → cond b (Some y.1) (first_listed i ys) ≡ Some x → (first_listed i ys ≡ Some x → converted_to t x ≡ listed_scalar i t ys) → converted_to t x ≡ cond b (converted_to t y.1) (listed_scalar i t ys)
    case true e h = ap (λ x. converted_to t x) (sym (same_Some _ _ e))
    case false e h = h e

pub listed_missing : (i : ℕ) (t : PlainType) (xs : List (ℕ × Scalar)) → first_listed i xs ≡ None → zero_of t ≡ listed_scalar i t xs
listed_missing i t [] e = refl
listed_missing i t (y ∷ ys) e = case (eqb y.0 i) e (listed_missing i t ys)
  where
    case : (b : Bool) → cond b (Some y.1) (first_listed i ys) ≡ None → (first_listed i ys ≡ None → zero_of t ≡ listed_scalar i t ys) → zero_of t ≡ cond b (converted_to t y.1) (listed_scalar i t ys)
    case true e h = absurd (none-some _ (sym e))
    case false e h = h e

-- a byte of a text
pub text_found : (bytes : List ℕ) (s i b : ℕ) (ys : List (ℕ × Scalar)) → byte_for bytes s i ≡ Some b → first_listed i (text_scalars s bytes ++ ys) ≡ Some (Int (pos b))
text_found [] s i b ys e = absurd (none-some _ e)
text_found (c ∷ bytes) s i b ys e = case (eqb s i) e (text_found bytes (suc s) i b ys)
  where
    case : (d : Bool) → cond d (Some c) (byte_for bytes (suc s) i) ≡ Some b → (byte_for bytes (suc s) i ≡ Some b → first_listed i (text_scalars (suc s) bytes ++ ys) ≡ Some (Int (pos b))) →
        cond d (Some (Int (pos c))) (first_listed i (text_scalars (suc s) bytes ++ ys)) ≡ Some (Int (pos b))
    case true e h = ap (λ n. Some (Int (pos n))) (same_Some _ _ e)
    case false e h = h e

pub text_passed : (bytes : List ℕ) (s i : ℕ) (ys : List (ℕ × Scalar)) → byte_for bytes s i ≡ None → first_listed i (text_scalars s bytes ++ ys) ≡ first_listed i ys
text_passed [] s i ys e = refl
text_passed (c ∷ bytes) s i ys e = case (eqb s i) e (text_passed bytes (suc s) i ys)
  where
    case : (d : Bool) → cond d (Some c) (byte_for bytes (suc s) i) ≡ None → (byte_for bytes (suc s) i ≡ None → first_listed i (text_scalars (suc s) bytes ++ ys) ≡ first_listed i ys) →
        cond d (Some (Int (pos c))) (first_listed i (text_scalars (suc s) bytes ++ ys)) ≡ first_listed i ys
    case true e h = absurd (none-some _ (sym e))
    case false e h = h e

-- the byte for a scalar stands at its place
pub byte_before : (bytes : List ℕ) (s i : ℕ) → i < s → None ≡ byte_for bytes s i
byte_before [] s i l = refl
byte_before (c ∷ bytes) s i l =
    let d : eqb s i ≡ false = not_equal s i (eqb s i) refl (λ (e : s ≡ i). absurd (omega (arith, e, l))) in
    byte_before bytes (suc s) i (omega (arith, l)) ∙ ap (λ b. cond b (Some c) (byte_for bytes (suc s) i)) (sym d)

pub byte_at : (bytes : List ℕ) (s i k : ℕ) → s + k ≡ i → slice_get bytes k ≡ byte_for bytes s i
byte_at [] s i k e = refl
byte_at (c ∷ bytes) s i zero e = ap (λ b. cond b (Some c) (byte_for bytes (suc s) i)) (sym (eq-eqb s i (omega (arith, e))))
byte_at (c ∷ bytes) s i (suc k) e =
    let d : eqb s i ≡ false = not_equal s i (eqb s i) refl (λ (x : s ≡ i). absurd (omega (arith, x, e))) in
    byte_at bytes (suc s) i k (omega (arith, e)) ∙ ap (λ b. cond b (Some c) (byte_for bytes (suc s) i)) (sym d)

-- ## Values of items

-- the first items give what they give, where a value is left
pub value_next : (i s : ℕ) (v : PlainValue) (xs : List Scalar) (used : ℕ) (x : Scalar) (more : List Scalar → List (ℕ × Scalar)) → slice_get xs used ≡ Some x →
    first_listed i (scalars_written s (one_scalar v) (drop used xs) more) ≡ cond (eqb s i) (Some x) (first_listed i (more (drop (suc used) xs)))
value_next i s v [] used x more e = absurd (none-some _ e)
value_next i s v (y ∷ xs) zero x more e = ap (λ x. cond (eqb s i) (Some x) (first_listed i (more xs))) (same_Some _ _ e)
value_next i s v (y ∷ xs) (suc used) x more e = value_next i s v xs used x more e

pub value_none : (s : ℕ) (v : PlainValue) (xs : List Scalar) (used : ℕ) (more : List Scalar → List (ℕ × Scalar)) → slice_get xs used ≡ None →
    scalars_written s (one_scalar v) (drop used xs) more ≡ more (drop used xs)
value_none s v [] zero more e = refl
value_none s v [] (suc used) more e = refl
value_none s v (y ∷ xs) zero more e = absurd (none-some _ (sym e))
value_none s v (y ∷ xs) (suc used) more e = value_none s v xs used more e

-- ## Scalars that are written

-- the scalars from one on begin with its type
pub record Begins (types : List PlainType) (i : ℕ) (k : Kind) : Type 0 where
  pub type : PlainType
  pub is : drop i types ≡ type ∷ drop (suc i) types
  pub kind : HasKind type k

begins_of : (types : List PlainType) (i : ℕ) (k : Kind) → HasKindAt types i k → Begins types i k
begins_of [] i k h = absurd h
begins_of (t ∷ types) zero k h = record { type = t; is = refl; kind = h }
begins_of (t ∷ types) (suc i) k h = let b : Begins types i k = begins_of types i k h in record { type = b.type; is = b.is; kind = b.kind }

written_continues : {A B : Type 0} (written : Result (List Object) Stop) (span : Span) (w : State) (go : State → Progress A) (old new : Held) (r : Result B Halt) → w.objects ≡ old.objects → w.opened ≡ old.opened → Changes old new written span r →
    Continues (or_undefined written span w (λ objects. go (record w { objects = objects }))) (go (record w { objects = new.objects; opened = new.opened })) r (record w { objects = new.objects; opened = new.opened })
written_continues written span w go old new (Ok done) same number h =
    ap (λ x. or_undefined x span w (λ objects. go (record w { objects = objects }))) h.0 ∙ ap (λ k. go (record w { objects = new.objects; opened = k })) (number ∙ sym h.1)
written_continues written span w go old new (Err (Failed at)) same number h = absurd h
written_continues written span w go old new (Err (Undefined stop at)) same number h =
    ap (λ x. or_undefined x span w (λ objects. go (record w { objects = objects }))) h.0 ∙
    (ap (λ s. ends (IsUndefined stop s) w) (sym h.1) ∙
    (ap (λ objects. ends (IsUndefined stop at) (record w { objects = objects })) (same ∙ ap (λ (v : Held). v.objects) (sym h.2)) ∙
    ap (λ k. ends (IsUndefined stop at) (record w { objects = new.objects; opened = k })) (number ∙ ap (λ (v : Held). v.opened) (sym h.2))))
written_continues written span w go old new (Err Spent) same number h = absurd h
written_continues written span w go old new (Err Memory) same number h = tt

pub scalar_filled : {B : Type 0} (span : Span) (xs : List (ℕ × Scalar)) (types : List PlainType) (i : ℕ) (q : Ptr) (frame : Frame) (w : State) (k : Kind) (x : Scalar) (old new : Held) (r : Result B Halt) → HasKindAt types i k → w.left ≢ 0 →
    ((t : PlainType) → HasKind t k → x ≡ listed_scalar i t xs) → w.objects ≡ old.objects → w.opened ≡ old.opened → Changes old new (write_part old.objects q i (holding x)) span r →
    Continues (fill span xs (drop i types) i q frame w) (fill span xs (drop (suc i) types) (suc i) q frame (record w { left = w.left - 1; objects = new.objects; opened = new.opened })) r (record w { left = w.left - 1; objects = new.objects; opened = new.opened })
scalar_filled span xs types i q frame w k x old new r h l is same number change =
    let b : Begins types i k = begins_of types i k h in
    let u : State = record w { left = w.left - 1 } in
    let next : State → Progress Done = λ (w : State). fill span xs (drop (suc i) types) (suc i) q frame w in
    let value : write_part u.objects q i (holding x) ≡ write_part u.objects q i (holding (listed_scalar i b.type xs)) = ap (λ x. write_part u.objects q i (holding x)) (is b.type b.kind) in
    subst (λ ts. Continues (fill span xs ts i q frame w) (next (record u { objects = new.objects; opened = new.opened })) r (record u { objects = new.objects; opened = new.opened })) (sym b.is)
    (subst (λ o. Continues o (next (record u { objects = new.objects; opened = new.opened })) r (record u { objects = new.objects; opened = new.opened })) (sym (step_paid w _ l))
    (subst (λ x. Continues (or_undefined x span u (λ objects. next (record u { objects = objects }))) (next (record u { objects = new.objects; opened = new.opened })) r (record u { objects = new.objects; opened = new.opened })) value
    (written_continues (write_part u.objects q i (holding x)) span u next old new r same number
    (subst (λ objects. Changes old new (write_part objects q i (holding x)) span r) (sym same) change))))

no_step_at : {A : Type 0} (n : ℕ) (w : State) (go : State → Progress A) → n ≡ 0 → step_at n w go ≡ ends StepsSpent w
no_step_at zero w go e = refl
no_step_at (suc n) w go e = absurd (omega (arith, e))

pub none_filled : (span : Span) (xs : List (ℕ × Scalar)) (types : List PlainType) (i : ℕ) (q : Ptr) (frame : Frame) (w : State) (k : Kind) → HasKindAt types i k → w.left ≡ 0 → fill span xs (drop i types) i q frame w ≡ ends StepsSpent w
none_filled span xs types i q frame w k h l =
    let b : Begins types i k = begins_of types i k h in
    ap (λ ts. fill span xs ts i q frame w) b.is ∙ no_step_at w.left w _ l

-- ## All scalars

pub fill_next : (span : Span) (xs : List (ℕ × Scalar)) (types : List PlainType) (i j : ℕ) (q : Ptr) (frame : Frame) (o : Progress Done) (w u : State) → j ≡ i + 1 → o ≡ fill span xs (drop i types) i q frame w →
    fill span xs (drop i types) i q frame w ≡ fill span xs (drop (suc i) types) (suc i) q frame u → o ≡ fill span xs (drop j types) j q frame u
fill_next span xs types i j q frame o w u e h next =
    h ∙ (next ∙ ap (λ j. fill span xs (drop j types) j q frame u) (let f : suc i ≡ j = omega (arith, e) in f))

pub fill_done : (span : Span) (xs : List (ℕ × Scalar)) (types : List PlainType) (i : ℕ) (q : Ptr) (frame : Frame) (o : Progress Done) (w : State) → length types ≤ i → o ≡ fill span xs (drop i types) i q frame w → o ≡ goes frame w
fill_done span xs types i q frame o w e h = h ∙ ap (λ ts. fill span xs ts i q frame w) (none_left types i e)

continues_stop : (B : Type 0) (halt : Halt) (o other next : Progress Done) (x : Done) (w : State) → o ≡ other → Continues {A = Done} {B = B} other next (Err halt) w → Answers {A = Done} {B = B} o (Err halt) x w
continues_stop B (Failed span) o other next x w e h = e ∙ h
continues_stop B (Undefined stop span) o other next x w e h = e ∙ h
continues_stop B Spent o other next x w e h = e ∙ h
continues_stop B Memory o other next x w e h = tt

pub fill_stops : {B : Type 0} (o other next : Progress Done) (r : Result B Halt) (halt : Halt) (x : Done) (w : State) → r ≡ Err halt → o ≡ other → Continues {A = Done} {B = B} other next (Err halt) w → Answers o r x w
fill_stops {B = B} o other next r halt x w is e h = subst (λ r. Answers o r x w) (sym is) (continues_stop B halt o other next x w e h)

pub fill_stopped : {B : Type 0} (span : Span) (xs ys : List (ℕ × Scalar)) (types : List PlainType) (i : ℕ) (q : Ptr) (frame : Frame) (o : Progress Done) (w u : State) (r : Result B Halt) (halt : Halt) → ys ≡ xs → r ≡ Err halt → o ≡ fill span xs (drop i types) i q frame w →
    Continues {A = Done} {B = B} (fill span ys (drop i types) i q frame w) (fill span ys (drop (suc i) types) (suc i) q frame u) (Err halt) u → Answers o r (record { flow = normal; frame = frame }) u
fill_stopped {B = B} span xs ys types i q frame o w u r halt e is h c =
    fill_stops o (fill span xs (drop i types) i q frame w) (fill span xs (drop (suc i) types) (suc i) q frame u) r halt (record { flow = normal; frame = frame }) u is h
    (subst (λ xs. Continues {A = Done} {B = B} (fill span xs (drop i types) i q frame w) (fill span xs (drop (suc i) types) (suc i) q frame u) (Err halt) u) e c)

-- ## The operation

pub filled : {B : Type 0} (p : PlainProgram) (span : Span) (t : PlainType) (items : List PlainItem) (operands mid rest : List Operand) (f : Open) (calls cs : List Open) (w v : State) (n : ℕ) (xs : List Scalar) (target : Target) (to : Ptr) (r : Result B Halt) →
    n ≡ count_of_items items → taken_before n [] operands ≡ Some (xs, mid) → first_target mid ≡ Some target → rest ≡ below mid → cs ≡ f ∷ calls → to ≡ pointer_to target →
    Answers (fill span (scalars_of_items items xs) (scalars p t) 0 to f.frame w) r (record { flow = normal; frame = f.frame }) v → Answers (done_by p (fill_from span t items) operands (f ∷ calls) w) r (left_with rest cs) v
filled p span t items operands mid rest f calls cs w v n xs target to r count taken found left same is h =
    subst (λ cs. Answers (done_by p (fill_from span t items) operands (f ∷ calls) w) r (left_with rest cs) v) (sym same)
    (subst (λ rest. Answers (done_by p (fill_from span t items) operands (f ∷ calls) w) r (left_with rest (f ∷ calls)) v) (sym left)
    (subst (λ o. Answers (on_taken o w (λ xs operands. on_some (first_target operands) w (λ target. leaves_done (below operands) f calls (fill span (scalars_of_items items xs) (scalars p t) 0 (pointer_to target) f.frame w)))) r (left_with (below mid) (f ∷ calls)) v)
    (sym (ap (λ n. taken_before n [] operands) (sym count) ∙ taken))
    (subst (λ o. Answers (on_some o w (λ target. leaves_done (below mid) f calls (fill span (scalars_of_items items xs) (scalars p t) 0 (pointer_to target) f.frame w))) r (left_with (below mid) (f ∷ calls)) v) (sym found)
    (done_left _ _ _ _ _ _ (subst (λ to. Answers (fill span (scalars_of_items items xs) (scalars p t) 0 to f.frame w) r (record { flow = normal; frame = f.frame }) v) is h)))))

-- the place isn't there
pub fill_missing : (p : PlainProgram) (span : Span) (t : PlainType) (items : List PlainItem) (operands mid : List Operand) (f : Open) (calls : List Open) (w : State) (n : ℕ) (xs : List Scalar) →
    n ≡ count_of_items items → taken_before n [] operands ≡ Some (xs, mid) → first_target mid ≡ None → done_by p (fill_from span t items) operands (f ∷ calls) w ≡ ends StepsSpent w
fill_missing p span t items operands mid f calls w n xs count taken none =
    ap (λ o. on_taken o w (λ xs operands. on_some (first_target operands) w (λ target. leaves_done (below operands) f calls (fill span (scalars_of_items items xs) (scalars p t) 0 (pointer_to target) f.frame w)))) (ap (λ n. taken_before n [] operands) (sym count) ∙ taken) ∙
    ap (λ o. on_some o w (λ target. leaves_done (below mid) f calls (fill span (scalars_of_items items xs) (scalars p t) 0 (pointer_to target) f.frame w))) none

-- the values aren't there
pub fill_untaken : {B : Type 0} (D : Type 0) (p : PlainProgram) (span : Span) (t : PlainType) (items : List PlainItem) (operands mid : List Operand) (f : Open) (calls : List Open) (w : State) (n : ℕ) (xs : List Scalar) (r : Result B Halt) (halt : Halt) (x : Left) →
    n ≡ count_of_items items → r ≡ Err halt → Takes {B = D} (taken_before n [] operands) (Err halt) xs mid → Answers (done_by p (fill_from span t items) operands (f ∷ calls) w) r x w
fill_untaken D p span t items operands mid f calls w n xs r (Failed at) x count e h = absurd h
fill_untaken D p span t items operands mid f calls w n xs r (Undefined stop at) x count e h = absurd h
fill_untaken D p span t items operands mid f calls w n xs r Spent x count e h =
    subst (λ r. Answers (done_by p (fill_from span t items) operands (f ∷ calls) w) r x w) (sym e)
    (ap (λ o. on_taken o w (λ xs operands. on_some (first_target operands) w (λ target. leaves_done (below operands) f calls (fill span (scalars_of_items items xs) (scalars p t) 0 (pointer_to target) f.frame w)))) (ap (λ n. taken_before n [] operands) (sym count) ∙ h))
fill_untaken D p span t items operands mid f calls w n xs r Memory x count e h = subst (λ r. Answers (done_by p (fill_from span t items) operands (f ∷ calls) w) r x w) (sym e) tt

-- ## Items in turn

-- the values of the next item were counted
pub items_counted : (items : List Item) (i count r all : ℕ) (item : Item) → i < length items → item ≡ get_or items i item → all ≡ count + count_of_items (map plain_item (drop i items)) → ((n : ℕ) → count_written (plain_written item.written) n ≡ r + n) →
    all ≡ (count + r) + count_of_items (map plain_item (drop (i + 1) items))
items_counted items i count r all item l at e is =
    let h : count_of_items (map plain_item (drop i items)) ≡ count_written (plain_written item.written) (count_of_items (map plain_item (drop (i + 1) items))) = ap (λ xs. count_of_items (map plain_item xs)) (left_at items i item l at) in
    let k : count_written (plain_written item.written) (count_of_items (map plain_item (drop (i + 1) items))) ≡ r + count_of_items (map plain_item (drop (i + 1) items)) = is (count_of_items (map plain_item (drop (i + 1) items))) in
    omega (arith, e, h, k)

pub all_counted : (items : List Item) (i count : ℕ) (all : ℕ) → length items ≤ i → all ≡ count + count_of_items (map plain_item (drop i items)) → count ≡ all
all_counted items i count all l e =
    let h : count_of_items (map plain_item (drop i items)) ≡ 0 = ap (λ xs. count_of_items (map plain_item xs)) (none_left items i l) in omega (arith, e, h)

-- the next item was looked at
pub item_looked : (items : List Item) (values : List Scalar) (i used more number : ℕ) (item : Item) (o : Option Scalar) → i < length items → item ≡ get_or items i item →
    o ≡ first_listed number (scalars_of_items (map plain_item (drop i items)) (drop used values)) →
    first_listed number (scalars_written item.scalar (plain_written item.written) (drop used values) (λ xs. scalars_of_items (map plain_item (drop (i + 1) items)) xs)) ≡ first_listed number (scalars_of_items (map plain_item (drop (i + 1) items)) (drop more values)) →
    o ≡ first_listed number (scalars_of_items (map plain_item (drop (i + 1) items)) (drop more values))
item_looked items values i used more number item o l at e h =
    e ∙ (ap (λ xs. first_listed number (scalars_of_items (map plain_item xs) (drop used values))) (left_at items i item l at) ∙ h)

pub item_found : (items : List Item) (values : List Scalar) (i used number : ℕ) (item : Item) (x : Scalar) (o : Option Scalar) → i < length items → item ≡ get_or items i item →
    o ≡ first_listed number (scalars_of_items (map plain_item (drop i items)) (drop used values)) →
    first_listed number (scalars_written item.scalar (plain_written item.written) (drop used values) (λ xs. scalars_of_items (map plain_item (drop (i + 1) items)) xs)) ≡ Some x → Some x ≡ o
item_found items values i used number item x o l at e h =
    sym (e ∙ (ap (λ xs. first_listed number (scalars_of_items (map plain_item xs) (drop used values))) (left_at items i item l at) ∙ h))

pub none_listed : (items : List Item) (values : List Scalar) (i used number : ℕ) (o : Option Scalar) → length items ≤ i → o ≡ first_listed number (scalars_of_items (map plain_item (drop i items)) (drop used values)) → None ≡ o
none_listed items values i used number o l e =
    sym (e ∙ ap (λ xs. first_listed number (scalars_of_items (map plain_item xs) (drop used values))) (none_left items i l))

-- a value of an item
pub value_given_here : (number s : ℕ) (v : PlainValue) (xs : List Scalar) (used : ℕ) (x : Scalar) (more : List Scalar → List (ℕ × Scalar)) → slice_get xs used ≡ Some x → s ≡ number → first_listed number (scalars_written s (one_scalar v) (drop used xs) more) ≡ Some x
value_given_here number s v xs used x more got e =
    value_next number s v xs used x more got ∙ ap (λ b. cond b (Some x) (first_listed number (more (drop (suc used) xs)))) (eq-eqb s number e)

pub value_passed : (number s : ℕ) (v : PlainValue) (xs : List Scalar) (used next : ℕ) (x : Scalar) (more : List Scalar → List (ℕ × Scalar)) → slice_get xs used ≡ Some x → (s ≡ number → ⊥) → next ≡ used + 1 →
    first_listed number (scalars_written s (one_scalar v) (drop used xs) more) ≡ first_listed number (more (drop next xs))
value_passed number s v xs used next x more got ne e =
    value_next number s v xs used x more got ∙
    (ap (λ b. cond b (Some x) (first_listed number (more (drop (suc used) xs)))) (not_equal s number (eqb s number) refl ne) ∙ ap (λ n. first_listed number (more (drop n xs))) (let d : suc used ≡ next = omega (arith, e) in d))

-- ## What an item gives for a number

pub looks_given : (number s : ℕ) (v : PlainValue) (values : List Scalar) (used : ℕ) (x : Scalar) (more : List Scalar → List (ℕ × Scalar)) → slice_get values used ≡ Some x → s ≡ number → LooksAt number s (one_scalar v) values used more (Some x)
looks_given number s v values used x more got e = value_given_here number s v values used x more got e

pub looks_passed : (number s : ℕ) (v : PlainValue) (values : List Scalar) (used : ℕ) (x : Scalar) (more : List Scalar → List (ℕ × Scalar)) → slice_get values used ≡ Some x → (s ≡ number → ⊥) → LooksAt number s (one_scalar v) values used more None
looks_passed number s v values used x more got ne = value_passed number s v values used (used + taken_by (one_scalar v) (slice_get values used)) x more got ne (ap (λ o. used + taken_by (one_scalar v) o) got)

pub looks_none : (number s : ℕ) (v : PlainValue) (values : List Scalar) (used : ℕ) (more : List Scalar → List (ℕ × Scalar)) → slice_get values used ≡ None → LooksAt number s (one_scalar v) values used more None
looks_none number s v values used more got =
    ap (λ xs. first_listed number xs) (value_none s v values used more got) ∙
    ap (λ n. first_listed number (more (drop n values))) (let d : used + taken_by (one_scalar v) (slice_get values used) ≡ used + 0 = ap (λ o. used + taken_by (one_scalar v) o) got in omega (arith, d))

pub looks_text : (number s : ℕ) (bytes : List ℕ) (values : List Scalar) (used : ℕ) (more : List Scalar → List (ℕ × Scalar)) (o : Option ℕ) (r : Option Scalar) → o ≡ byte_for bytes s number → r ≡ option_map (λ b. Int (pos b)) o → LooksAt number s (scalars_of_text bytes) values used more r
looks_text number s bytes values used more (Some b) r e is =
    subst (λ r. LooksAt number s (scalars_of_text bytes) values used more r) (sym is) (text_found bytes s number b (more (drop used values)) (sym e))
looks_text number s bytes values used more None r e is =
    subst (λ r. LooksAt number s (scalars_of_text bytes) values used more r) (sym is)
    (text_passed bytes s number (more (drop used values)) (sym e) ∙ ap (λ n. first_listed number (more (drop n values))) (let d : used ≡ used + 0 = omega arith in d))

pub if_ok_moved : {A B : Type 0} (r : Result A B) (a b : A) → a ≡ b → IfOk r (λ y. y ≡ a) → IfOk r (λ y. y ≡ b)
if_ok_moved (Ok x) a b e h = h ∙ e
if_ok_moved (Err x) a b e h = tt

-- the cell that a list gives to a scalar
pub listed_at : (types : List PlainType) (from i number : ℕ) (kind : Kind) (x : Scalar) (xs : List (ℕ × Scalar)) → number ≡ from + i → HasKindAt types i kind → ((t : PlainType) → HasKind t kind → x ≡ listed_scalar number t xs) → slice_get (listed_cells from types xs) i ≡ Some (holding x)
listed_at [] from i number kind x xs e h is = absurd h
listed_at (t ∷ types) from zero number kind x xs e h is = ap (λ x. Some (holding x)) (ap (λ n. listed_scalar n t xs) (let d : from ≡ number = omega (arith, e) in d) ∙ sym (is t h))
listed_at (t ∷ types) from (suc i) number kind x xs e h is = listed_at types (suc from) i number kind x xs (omega (arith, e)) h is

pub length_listed : (types : List PlainType) (from : ℕ) (xs : List (ℕ × Scalar)) → length (listed_cells from types xs) ≡ length types
length_listed [] from xs = refl
length_listed (t ∷ types) from xs = ap (λ n. suc n) (length_listed types (suc from) xs)

pub listed_all : (types : List PlainType) (xs : List (ℕ × Scalar)) (i : ℕ) (cells : List Cell) → length types ≤ i → cells ≡ take i (listed_cells 0 types xs) → cells ≡ listed_cells 0 types xs
listed_all types xs i cells l e = e ∙ take_all i (listed_cells 0 types xs) (let d = length_listed types 0 xs in omega (arith, d, l))

pub given_in : (number s : ℕ) (w : Written) (v : Value) (values : List Scalar) (used : ℕ) (x : Scalar) (more : List Scalar → List (ℕ × Scalar)) → w ≡ ScalarWritten v → slice_get values used ≡ Some x → s ≡ number → LooksAt number s (plain_written w) values used more (Some x)
given_in number s w v values used x more is got e = subst (λ w. LooksAt number s (plain_written w) values used more (Some x)) (sym is) (looks_given number s (plain_value v) values used x more got e)

pub passed_in : (number s : ℕ) (w : Written) (v : Value) (values : List Scalar) (used : ℕ) (x : Scalar) (more : List Scalar → List (ℕ × Scalar)) → w ≡ ScalarWritten v → slice_get values used ≡ Some x → (s ≡ number → ⊥) → LooksAt number s (plain_written w) values used more None
passed_in number s w v values used x more is got ne = subst (λ w. LooksAt number s (plain_written w) values used more None) (sym is) (looks_passed number s (plain_value v) values used x more got ne)

pub none_in : (number s : ℕ) (w : Written) (v : Value) (values : List Scalar) (used : ℕ) (more : List Scalar → List (ℕ × Scalar)) → w ≡ ScalarWritten v → slice_get values used ≡ None → LooksAt number s (plain_written w) values used more None
none_in number s w v values used more is got = subst (λ w. LooksAt number s (plain_written w) values used more None) (sym is) (looks_none number s (plain_value v) values used more got)
