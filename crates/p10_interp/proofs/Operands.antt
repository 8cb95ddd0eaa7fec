-- Values on top of operands.
use Rattle.std.proofs.Common.{◌≡◌, ℕ, suc, ◌+◌, List, [], ◌∷◌, ◌++◌, length, refl, sym, ◌∙◌, ap, arith, append-nil, Some}
use Rattle.p10_core.specs.Typed.{PlainValues, no_values, more_values, PlainValue, PlainWritten, one_scalar, scalars_of_text, PlainItem}
use Rattle.p10_meaning.specs.declared.pointers.Scalar.{Scalar}
use Rattle.p10_meaning.specs.States.{State, Progress, gives, ends, and_then}
use Rattle.p10_meaning.specs.Values.{Setting, Held, evaluate, evaluate_all}
use Rattle.p10_meaning.specs.Statements.{text_scalars, written_scalars, listed_scalars}
use Rattle.p10_interp.specs.private.Tasks.{Operand, evaluated}
use Rattle.p10_interp.specs.private.Operations.{taken_before, on_taken, on_values, put_values, count_of, count_written, count_of_items, scalars_written, scalars_of_items}
use Rattle.p10_interp.specs.private.Resuming.{value_written, values_of_items}

taken_more : (n m : ℕ) (xs : List Scalar) (operands : List Operand) → n ≡ m → taken_before n xs operands ≡ taken_before m xs operands
taken_more n m xs operands e = ap (λ n. taken_before n xs operands) e

pub taken_put : (ys xs : List Scalar) (m : ℕ) (operands : List Operand) → taken_before (length ys + m) xs (put_values ys operands) ≡ taken_before m (ys ++ xs) operands
taken_put [] xs m operands = taken_more (0 + m) m xs operands (omega arith)
taken_put (y ∷ ys) xs m operands =
    taken_more (length (y ∷ ys) + m) (length ys + suc m) xs (put_values ys (evaluated (Some y) ∷ operands)) (omega arith) ∙ taken_put ys xs (suc m) (evaluated (Some y) ∷ operands)

-- values that were put on top are taken
pub values_put : {A : Type 0} (n : ℕ) (xs : List Scalar) (operands : List Operand) (w : State) (go : List Scalar → List Operand → Progress A) → length xs ≡ n →
    on_values n (put_values xs operands) w go ≡ go xs operands
values_put n xs operands w go e =
    ap (λ taken. on_taken taken w go)
    (taken_more n (length xs + 0) [] (put_values xs operands) (let d : length xs ≡ n = e in omega (arith, d)) ∙ (taken_put xs [] 0 operands ∙ ap (λ ys. taken_before 0 ys operands) (append-nil xs)))

-- ## As many values as trees

abbrev pub AreMany : ℕ → Progress (List Scalar) → Type 0
AreMany n (gives xs w) = length xs ≡ n
AreMany n (ends end w) = Unit {0}

many_then : {A : Type 0} (n : ℕ) (o : Progress A) (go : A → State → Progress (List Scalar)) → ((a : A) (w : State) → AreMany n (go a w)) → AreMany n (and_then o go)
many_then n (gives a w) go h = h a w
many_then n (ends end w) go h = tt

many_more : (n : ℕ) (x : Scalar) (o : Progress (List Scalar)) → AreMany n o → AreMany (suc n) (and_then o (λ xs w. gives (x ∷ xs) w))
many_more n x (gives xs w) h = ap suc h
many_more n x (ends end w) h = tt

pub all_are_many : (s : Setting) (held : List Held) (vs : PlainValues) (w : State) → AreMany (count_of vs) (evaluate_all s held vs w)
all_are_many s held no_values w = refl
all_are_many s held (more_values v vs) w = many_then (suc (count_of vs)) (evaluate s held v w) _ (λ x w. many_more (count_of vs) x (evaluate_all s held vs w) (all_are_many s held vs w))

written_are_many : (s : Setting) (held : List Held) (n : ℕ) (written : PlainWritten) (more : State → Progress (List Scalar)) (w : State) → ((w : State) → AreMany n (more w)) →
    AreMany (count_written written n) (value_written s held written more w)
written_are_many s held n (one_scalar v) more w h = many_then (suc n) (evaluate s held v w) _ (λ x w. many_more n x (more w) (h w))
written_are_many s held n (scalars_of_text bytes) more w h = h w

pub items_are_many : (s : Setting) (held : List Held) (items : List PlainItem) (w : State) → AreMany (count_of_items items) (values_of_items s held items w)
items_are_many s held [] w = refl
items_are_many s held (item ∷ items) w = written_are_many s held (count_of_items items) item.written _ w (λ w. items_are_many s held items w)

-- a rest that takes as many values as there are
pub many_same : {A : Type 0} (n : ℕ) (o : Progress (List Scalar)) (g h : List Scalar → State → Progress A) → AreMany n o →
    ((xs : List Scalar) (w : State) → length xs ≡ n → g xs w ≡ h xs w) → and_then o g ≡ and_then o h
many_same n (gives xs w) g h m e = e xs w m
many_same n (ends end w) g h m e = refl

-- ## The values of a list

then_then : {A B C : Type 0} (o : Progress A) (go : A → State → Progress B) (g : B → State → Progress C) → and_then (and_then o go) g ≡ and_then o (λ a w. and_then (go a w) g)
then_then (gives a w) go g = refl
then_then (ends end w) go g = refl

-- the scalars of items are their values with their places, whatever comes next
abbrev IsListed : {A : Type 0} → Setting → List Held → List PlainItem → (List (ℕ × Scalar) → State → Progress A) → State → Type 0
IsListed s held items g w = and_then (listed_scalars s held items w) g ≡ and_then (values_of_items s held items w) (λ xs w. g (scalars_of_items items xs) w)

one_listed : {A : Type 0} (s : Setting) (held : List Held) (i : ℕ) (v : PlainValue) (items : List PlainItem) (g : List (ℕ × Scalar) → State → Progress A) →
    ((w : State) (g : List (ℕ × Scalar) → State → Progress A) → IsListed s held items g w) → (o : Progress Scalar) →
    and_then (and_then (and_then o (λ x w. gives ((i, x) ∷ []) w)) (λ xs w. and_then (listed_scalars s held items w) (λ ys w. gives (xs ++ ys) w))) g ≡
    and_then (and_then o (λ x w. and_then (values_of_items s held items w) (λ xs w. gives (x ∷ xs) w))) (λ xs w. g (scalars_written i (one_scalar v) xs (λ xs. scalars_of_items items xs)) w)
one_listed s held i v items g more (ends end w) = refl
one_listed s held i v items g more (gives x w) =
    then_then (listed_scalars s held items w) _ _ ∙ (more w (λ ys w. g ((i, x) ∷ ys) w) ∙ sym (then_then (values_of_items s held items w) _ _))

written_right : {A : Type 0} (s : Setting) (held : List Held) (i : ℕ) (written : PlainWritten) (items : List PlainItem) (w : State) (g : List (ℕ × Scalar) → State → Progress A) →
    ((w : State) (g : List (ℕ × Scalar) → State → Progress A) → IsListed s held items g w) →
    and_then (and_then (written_scalars s held i written w) (λ xs w. and_then (listed_scalars s held items w) (λ ys w. gives (xs ++ ys) w))) g ≡
    and_then (value_written s held written (λ w. values_of_items s held items w) w) (λ xs w. g (scalars_written i written xs (λ xs. scalars_of_items items xs)) w)
written_right s held i (scalars_of_text bytes) items w g more = then_then (listed_scalars s held items w) _ _ ∙ more w (λ ys w. g (text_scalars i bytes ++ ys) w)
written_right s held i (one_scalar v) items w g more = one_listed s held i v items g more (evaluate s held v w)

pub items_right : {A : Type 0} (s : Setting) (held : List Held) (items : List PlainItem) (w : State) (g : List (ℕ × Scalar) → State → Progress A) → IsListed s held items g w
items_right s held [] w g = refl
items_right s held (item ∷ items) w g = written_right s held item.scalar item.written items w g (λ w g. items_right s held items w g)
