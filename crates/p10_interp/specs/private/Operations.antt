-- What each operation does: to the operands on top, the innermost open call and the state, by the meaning of what it stands for.
-- Where an operand or an open call that it needs isn't there, it ends as if steps had run out, in the code too; that never comes.
use Rattle.std.specs.Prelude.{ℕ, zero, suc, List, [], ◌∷◌, ◌++◌, Option, Some, None}
use Rattle.p10_core.specs.Types.{bare}
use Rattle.p10_core.specs.Typed.{PlainValues, no_values, more_values, PlainWritten, one_scalar, scalars_of_text, PlainItem, PlainProgram}
use Rattle.p10_meaning.specs.declared.pointers.Scalar.{Scalar}
use Rattle.p10_meaning.specs.declared.pointers.Scalar.TheVariants.{Pointer}
use Rattle.p10_meaning.specs.Pointers.{holding}
use Rattle.p10_meaning.specs.Objects.{shift, inner, reach, all_closed}
use Rattle.p10_meaning.specs.States.{State, StepsSpent, Progress, gives, ends, step, and_then, or_undefined}
use Rattle.p10_meaning.specs.Scalars.{number_of, pointer_of, is_true, truth_value, converted_to, operated, operated_unary}
use Rattle.p10_meaning.specs.Values.{Target, Element, scalars, width, pointer_to, read_target, asserted, library, used, element_type, element_count, scalars_before}
use Rattle.p10_meaning.specs.Statements.{Frame, normal, returned, Done, write_target, copy_scalars, text_scalars, fill}
use Rattle.p10_interp.specs.private.Tasks.{Operation, use_value, drop_value, give_none, convert_to, apply_unary, apply_binary, take_truth, call_library, read_at, read_none, take_address, decay_at, index_at, member_at, dereference_at, write_at, read_old, write_new, copy_between, fill_from, assert_at, give_back, Operand, evaluated, located, Open, Left}

-- ## Operands on top

-- what the tree on top gave, if one is on top
abbrev pub first_result : List Operand → Option (Option Scalar)
first_result [] = None
first_result (evaluated x ∷ operands) = Some x
first_result (located target ∷ operands) = None

-- the value on top, if one is on top
abbrev pub first_value : List Operand → Option Scalar
first_value [] = None
first_value (evaluated x ∷ operands) = x
first_value (located target ∷ operands) = None

-- the place on top, if one is on top
abbrev pub first_target : List Operand → Option Target
first_target [] = None
first_target (evaluated x ∷ operands) = None
first_target (located target ∷ operands) = Some target

-- the operands below the one on top
abbrev pub below : List Operand → List Operand
below [] = []
below (operand ∷ operands) = operands

-- on with something, or the end as if steps had run out
abbrev pub on_some : {A B : Type 0} → Option A → State → (A → Progress B) → Progress B
on_some None w go = ends StepsSpent w
on_some (Some x) w go = go x

-- on with what the tree on top gave
abbrev pub on_result : {A : Type 0} → List Operand → State → (Option Scalar → List Operand → Progress A) → Progress A
on_result operands w go = on_some (first_result operands) w (λ x. go x (below operands))

-- on with the value on top
abbrev pub on_value : {A : Type 0} → List Operand → State → (Scalar → List Operand → Progress A) → Progress A
on_value operands w go = on_some (first_value operands) w (λ x. go x (below operands))

-- on with the place on top
abbrev pub on_target : {A : Type 0} → List Operand → State → (Target → List Operand → Progress A) → Progress A
on_target operands w go = on_some (first_target operands) w (λ target. go target (below operands))

-- the n values on top before others, the last on top, and the operands below them
abbrev pub taken_before : ℕ → List Scalar → List Operand → Option (List Scalar × List Operand)
taken_before zero xs operands = Some (xs, operands)
taken_before (suc n) xs (evaluated (Some x) ∷ operands) = taken_before n (x ∷ xs) operands
taken_before (suc n) xs operands = None

abbrev pub on_taken : {A : Type 0} → Option (List Scalar × List Operand) → State → (List Scalar → List Operand → Progress A) → Progress A
on_taken (Some (xs, operands)) w go = go xs operands
on_taken None w go = ends StepsSpent w

-- on with the n values on top
abbrev pub on_values : {A : Type 0} → ℕ → List Operand → State → (List Scalar → List Operand → Progress A) → Progress A
on_values n operands w go = on_taken (taken_before n [] operands) w go

-- values on top of operands, the last on top
abbrev pub put_values : List Scalar → List Operand → List Operand
put_values [] operands = operands
put_values (x ∷ xs) operands = put_values xs (evaluated (Some x) ∷ operands)

-- how many arguments there are
abbrev pub count_of : PlainValues → ℕ
count_of no_values = 0
count_of (more_values v vs) = suc (count_of vs)

-- how many values are written, and in more items
abbrev pub count_written : PlainWritten → ℕ → ℕ
count_written (one_scalar v) n = suc n
count_written (scalars_of_text bytes) n = n

-- how many values are written in items
abbrev pub count_of_items : List PlainItem → ℕ
count_of_items [] = 0
count_of_items (item ∷ items) = count_written item.written (count_of_items items)

-- the scalars that an item gives whose value is the first of these, from scalar i of the object on, and those of more items
abbrev pub scalars_written : ℕ → PlainWritten → List Scalar → (List Scalar → List (ℕ × Scalar)) → List (ℕ × Scalar)
scalars_written i (scalars_of_text bytes) xs more = text_scalars i bytes ++ more xs
scalars_written i (one_scalar v) (x ∷ xs) more = (i, x) ∷ more xs
scalars_written i (one_scalar v) [] more = more []

-- the scalars that items give whose values are these, each with its place in the object
abbrev pub scalars_of_items : List PlainItem → List Scalar → List (ℕ × Scalar)
scalars_of_items [] xs = []
scalars_of_items (item ∷ items) xs = scalars_written item.scalar item.written xs (λ xs. scalars_of_items items xs)

-- ## Open calls

-- on with the innermost open call
abbrev pub on_call : {A : Type 0} → List Open → State → (Open → List Open → Progress A) → Progress A
on_call [] w go = ends StepsSpent w
on_call (f ∷ calls) w go = go f calls

-- the call with another frame
abbrev pub with_frame : Open → Frame → Open
with_frame f frame = record f { frame = frame }

-- a block is entered: it has opened nothing yet
abbrev pub in_new_block : Open → Open
in_new_block f = record f { frame = record f.frame { opened = [] }; outer = f.frame.opened ∷ f.outer }

-- the objects of the innermost of these blocks
abbrev pub innermost : List (List ℕ) → List ℕ
innermost [] = []
innermost (opened ∷ outer) = opened

-- the blocks round it
abbrev pub round_it : List (List ℕ) → List (List ℕ)
round_it [] = []
round_it (opened ∷ outer) = outer

-- a block is left
abbrev pub after_block : Open → Open
after_block f = record f { frame = record f.frame { opened = innermost f.outer }; outer = round_it f.outer }

-- the objects of the innermost open block die (C99 6.2.4p5)
abbrev pub block_closed : Open → State → State
block_closed f w = record w { objects = all_closed f.frame.opened w.objects }

-- ## Operations

-- execution goes on with these operands and open calls
abbrev pub leaves : List Operand → List Open → State → Progress Left
leaves operands calls w = gives (record { flow = normal; operands = operands; calls = calls }) w

-- a value is put on top
abbrev pub leaves_value : Scalar → List Operand → List Open → State → Progress Left
leaves_value x operands calls w = leaves (evaluated (Some x) ∷ operands) calls w

-- what a piece of a statement left, in the innermost open call
abbrev pub leaves_done : List Operand → Open → List Open → Progress Done → Progress Left
leaves_done operands f calls done =
    and_then done (λ done w. gives (record { flow = done.flow; operands = operands; calls = with_frame f done.frame ∷ calls }) w)

-- what an operation comes to
abbrev pub done_by : PlainProgram → Operation → List Operand → List Open → State → Progress Left
done_by p (use_value span) operands calls w =
    on_result operands w (λ x operands. or_undefined (used x) span w (λ x. leaves_value x operands calls w))
done_by p drop_value operands calls w = on_result operands w (λ x operands. leaves operands calls w)
done_by p give_none operands calls w = leaves (evaluated None ∷ operands) calls w
done_by p (convert_to t) operands calls w = on_value operands w (λ x operands. leaves_value (converted_to t x) operands calls w)
done_by p (apply_unary op t span) operands calls w =
    on_value operands w (λ x operands. or_undefined (operated_unary op t x) span w (λ z. leaves_value z operands calls w))
done_by p (apply_binary op t span) operands calls w =
    on_value operands w (λ y operands. on_value operands w (λ x operands.
    or_undefined (operated op t w.objects x y) span w (λ z. leaves_value z operands calls w)))
done_by p take_truth operands calls w = on_value operands w (λ x operands. leaves_value (truth_value (is_true x)) operands calls w)
done_by p (call_library function span t n) operands calls w =
    on_values n operands w (λ xs operands. and_then (library p function span t xs w) (λ x w. leaves (evaluated x ∷ operands) calls w))
done_by p (read_at span t) operands calls w =
    on_target operands w (λ target operands. on_call calls w (λ f calls.
    and_then (read_target span t f.frame.held target w) (λ x w. leaves_value x operands (f ∷ calls) w)))
done_by p read_none operands calls w = on_target operands w (λ target operands. leaves (evaluated None ∷ operands) calls w)
done_by p take_address operands calls w = on_target operands w (λ target operands. leaves_value (Pointer (pointer_to target)) operands calls w)
done_by p (decay_at span t) operands calls w =
    on_target operands w (λ target operands.
    or_undefined (inner w.objects (pointer_to target) 0 (width p (element_type t)) (element_count t)) span w (λ q. leaves_value (Pointer q) operands calls w))
done_by p (index_at span) operands calls w =
    on_value operands w (λ y operands. on_value operands w (λ x operands.
    or_undefined (shift w.objects (pointer_of x) (number_of y)) span w (λ q. leaves (located (Element q) ∷ operands) calls w)))
done_by p (member_at span whole m t) operands calls w =
    on_target operands w (λ target operands.
    or_undefined (inner w.objects (pointer_to target) (scalars_before p (bare p.structures whole) m) (width p t) 1) span w
    (λ q. leaves (located (Element q) ∷ operands) calls w))
done_by p (dereference_at span) operands calls w =
    on_value operands w (λ x operands.
    or_undefined (reach w.objects (pointer_of x)) span w (λ object. leaves (located (Element (pointer_of x)) ∷ operands) calls w))
done_by p (write_at span) operands calls w =
    on_value operands w (λ x operands. on_target operands w (λ target operands. on_call calls w (λ f calls.
    leaves_done operands f calls (write_target span target (holding x) f.frame w))))
done_by p (read_old span t for) operands calls w =
    step w (λ w. on_target operands w (λ target operands. on_call calls w (λ f calls.
    and_then (read_target span t f.frame.held target w) (λ x w.
    leaves (evaluated (Some (converted_to for x)) ∷ (located target ∷ operands)) (f ∷ calls) w))))
done_by p (write_new op at for span t) operands calls w =
    step w (λ w. on_value operands w (λ y operands. on_value operands w (λ x operands. on_target operands w (λ target operands. on_call calls w (λ f calls.
    or_undefined (operated op for w.objects x y) at w (λ z.
    leaves_done operands f calls (write_target span target (holding (converted_to t z)) f.frame w)))))))
done_by p (copy_between to_span from_span t) operands calls w =
    on_target operands w (λ source operands. on_target operands w (λ target operands. on_call calls w (λ f calls.
    leaves_done operands f calls (copy_scalars (width p t) 0 to_span (pointer_to target) from_span (pointer_to source) f.frame w))))
done_by p (fill_from span t items) operands calls w =
    on_values (count_of_items items) operands w (λ xs operands. on_target operands w (λ target operands. on_call calls w (λ f calls.
    leaves_done operands f calls (fill span (scalars_of_items items xs) (scalars p t) 0 (pointer_to target) f.frame w))))
done_by p (assert_at span) operands calls w =
    on_value operands w (λ x operands. and_then (asserted span x w) (λ none w. leaves operands calls w))
done_by p give_back operands calls w =
    on_value operands w (λ x operands. gives (record { flow = returned (Some x); operands = operands; calls = calls }) w)
