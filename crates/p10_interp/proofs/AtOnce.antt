-- What is found at once is what the meaning gives.
use Rattle.std.proofs.Common.{◌≡◌, ℕ, suc, ◌<◌, Bool, true, false, List, sym, ◌∙◌, subst, ap, refl, Option, Some, None, if◌then◌else◌}
use Rattle.p10_base.specs.declared.at.At.{At}
use Rattle.p10_core.specs.Types.{PlainType}
use Rattle.p10_core.specs.Typed.{value, PlainForm, read, PlainPlace, place, place_at, PlainPlaceForm}
use Rattle.p10_meaning.specs.declared.pointers.Scalar.{Scalar}
use Rattle.p10_meaning.specs.declared.pointers.Cell.{Cell}
use Rattle.p10_meaning.specs.declared.pointers.Ptr.{Ptr}
use Rattle.p10_meaning.specs.Objects.{Object}
use Rattle.p10_meaning.specs.States.{State, Progress, gives, ends, step_at, and_then, or_undefined}
use Rattle.p10_meaning.specs.Values.{Setting, Held, Element, is_structure, read_target, used, give, evaluate, perform, locate, find_place}
use Rattle.p10_interp.specs.private.AtOnce.{Finds, Pays, IsTaken, IsHolding, read_at_place}

-- a form of a value, whatever the code calls it
pub by_form : (s : Setting) (held : List Held) (at : At) (t : PlainType) (form other : PlainForm) (objects : List Object) (before after : ℕ) (x y : Scalar) → form ≡ other → y ≡ x →
    Finds (perform s held at t other) objects before (Some x) after → Finds (evaluate s held (value at t form)) objects before y after
by_form s held at t form other objects before after x y e d h = λ some w same.
    ap (λ form. and_then (perform s held at t form (record w { left = before })) (λ x w. or_undefined (used x) at.span w (λ x. gives x w))) e ∙
    ap (λ o. and_then o (λ x w. or_undefined (used x) at.span w (λ x. gives x w))) (h some w same) ∙ ap (λ x. gives x (record w { left = after })) (sym d)

-- a form of a place
pub by_place : (s : Setting) (held : List Held) (at : At) (t : PlainType) (form other : PlainPlaceForm) (objects : List Object) (before after : ℕ) (q : Ptr) → form ≡ other →
    Finds (find_place s held at t other) objects before (Element q) after → Finds (find_place s held at t form) objects before (Element q) after
by_place s held at t form other objects before after q e h = subst (λ form. Finds (find_place s held at t form) objects before (Element q) after) (sym e) h

-- a step that was paid
pub paid : (b : Bool) (before after : ℕ) → Pays b before after → b ≡ true → before ≡ suc after
paid b before after h e = subst (λ b. Pays b before after) e h

assoc : {A B C : Type 0} (o : Progress A) (f : A → State → Progress B) (g : B → State → Progress C) → and_then o (λ x w. and_then (f x w) g) ≡ and_then (and_then o f) g
assoc (gives a w) f g = refl
assoc (ends end w) f g = refl

-- a scalar that is read from a cell
pub read_by : (s : Setting) (held : List Held) (at : At) (t : PlainType) (q : PlainPlace) (objects : List Object) (before n m after : ℕ) (x z : Scalar) (cell : Option Cell) → z ≡ x → is_structure t ≡ false → before ≡ suc n →
    ((y : Scalar) → IsHolding cell y → Finds (read_at_place q t s held) objects n y m) → IsTaken cell m x after → Finds (perform s held at t (read q)) objects before (Some z) after
read_by s held at t q objects before n m after x z cell d plain e h taken = λ some w same.
    let k = taken some in
    let more : 0 < m = subst (λ n. 0 < n) k.0 some in
    subst (λ b. step_at b (record w { left = b }) (λ w. and_then (locate s held q w) (λ target w. if is_structure t then gives None w else and_then (read_target (place_at q).span t held target w) give)) ≡ gives (Some z) (record w { left = after })) (sym e)
    (ap (λ b. and_then (locate s held q (record w { left = n })) (λ target w. if b then gives None w else and_then (read_target (place_at q).span t held target w) give)) plain ∙
    assoc (locate s held q (record w { left = n })) (λ target w. read_target (place_at q).span t held target w) give ∙
    ap (λ o. and_then o give) (h x k.1 more w same) ∙ ap (λ n. gives (Some x) (record w { left = n })) (sym k.0) ∙ ap (λ x. gives (Some x) (record w { left = after })) (sym d))

-- a scalar that is read, whatever the place
pub read_settled : (s : Setting) (held : List Held) (at : At) (t : PlainType) (q : PlainPlace) (objects : List Object) (before n after : ℕ) (x z : Scalar) → z ≡ x → is_structure t ≡ false → before ≡ suc n →
    Finds (read_at_place q t s held) objects n x after → Finds (perform s held at t (read q)) objects before (Some z) after
read_settled s held at t q objects before n after x z d plain e h = λ some w same.
    subst (λ b. step_at b (record w { left = b }) (λ w. and_then (locate s held q w) (λ target w. if is_structure t then gives None w else and_then (read_target (place_at q).span t held target w) give)) ≡ gives (Some z) (record w { left = after })) (sym e)
    (ap (λ b. and_then (locate s held q (record w { left = n })) (λ target w. if b then gives None w else and_then (read_target (place_at q).span t held target w) give)) plain ∙
    assoc (locate s held q (record w { left = n })) (λ target w. read_target (place_at q).span t held target w) give ∙
    ap (λ o. and_then o give) (h some w same) ∙ ap (λ x. gives (Some x) (record w { left = after })) (sym d))

-- a place of another form that is read
pub read_by_place : (s : Setting) (held : List Held) (at : At) (own t : PlainType) (form other : PlainPlaceForm) (objects : List Object) (before after : ℕ) (x y : Scalar) → form ≡ other → y ≡ x →
    Finds (read_at_place (place at own other) t s held) objects before x after → Finds (read_at_place (place at own form) t s held) objects before y after
read_by_place s held at own t form other objects before after x y e d h =
    subst (λ form. Finds (read_at_place (place at own form) t s held) objects before y after) (sym e) (subst (λ x. Finds (read_at_place (place at own other) t s held) objects before x after) (sym d) h)

-- a scalar that is taken from the cell that was found
pub taken_settled : (run : State → Progress Scalar) (objects : List Object) (before m after : ℕ) (x z : Scalar) (cell : Option Cell) → z ≡ x → ((y : Scalar) → IsHolding cell y → Finds run objects before y m) → IsTaken cell m x after → Finds run objects before z after
taken_settled run objects before m after x z cell d h taken = λ some w same.
    let k = taken some in
    let more : 0 < m = subst (λ n. 0 < n) k.0 some in
    h x k.1 more w same ∙ (ap (λ n. gives x (record w { left = n })) (sym k.0) ∙ ap (λ x. gives x (record w { left = after })) (sym d))
