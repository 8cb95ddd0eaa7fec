-- The moves on objects and pointers keep sound states.
use Rattle.std.proofs.Common.{◌≡◌, ℕ, ◌+◌, ◌*◌, ◌<◌, ◌≤◌, min, ltb, leb, eqb, ◌&&◌, cond, Bool, true, false, List, [], ◌∷◌, ◌++◌, length, refl, sym, ◌∙◌, ap, subst, arith, Option, Some, None, Result, Ok, Err, slice_get, ℤ, pos, negsuc}
use Rattle.std.specs.Prelude.{◌+ℤ◌}
use Rattle.std.proofs.lemmas.Option.{same_Some}
use Rattle.std.proofs.lemmas.Bool.{leb-true, le-leb}
use Rattle.p10_int.specs.declared.operators.Stop.{Stop}
use Rattle.p10_int.specs.declared.operators.Stop.TheVariants.{U6, U7, U11}
use Rattle.p10_core.specs.Types.{PlainType, void, integer, pointer, array, structure, bare, PlainMember, members_of}
use Rattle.p10_core.specs.Sizes.{scalars_of}
use Rattle.p10_core.specs.Rows.{is_scalar}
use Rattle.p10_core.specs.Typed.{PlainProgram}
use Rattle.p10_meaning.specs.declared.pointers.Window.{Window}
use Rattle.p10_meaning.specs.declared.pointers.Ptr.{Ptr}
use Rattle.p10_meaning.specs.declared.pointers.Ptr.TheVariants.{Null, To}
use Rattle.p10_meaning.specs.declared.pointers.Cell.{Cell}
use Rattle.p10_meaning.specs.Pointers.{last_number, window_in}
use Rattle.p10_meaning.specs.Objects.{Object, on_ok, or_stop, find, alive, scalar_at, cell_at, may_write, target_at, write_at, placed, shift, inner, closed, is_allocated, freed, release}
use Rattle.p10_meaning.specs.States.{State}
use Rattle.p10_meaning.specs.Values.{scalars, width, scalars_before}
use Rattle.p10_meaning.specs.Statements.{part_of, write_part}
use Rattle.p10_meaning.specs.Sound.{most_elements, Kind, View, own, Step, into, to_member, view_of_row, view_of_entry, view_of_member, stepped, Leads, IsAt, FitsPointer, MaybeFits, kind_scalars, AllObjects, Sound}
use Rattle.p10_meaning.proofs.Geometry.{part_get, and_true, IsLaidOut, scalars_integer, scalars_pointer, IsLaid, element, walk_laid, walk_more, own_laid}
use Rattle.p10_meaning.proofs.Fitting.{get_below, HasCell, all_get, IsFound, FoundIs, find_is, put_fits, closed_fits, maybe_same}

-- ## What holds of a result, if it is no stop

abbrev pub OnOk : {A : Type 0} → (A → Type 0) → Result A Stop → Type 0
OnOk P (Ok x) = P x
OnOk P (Err e) = Unit {0}

pub on_then : {A B : Type 0} (P : A → Type 0) (Q : B → Type 0) (r : Result A Stop) (f : A → Result B Stop) → OnOk P r → ((x : A) → P x → OnOk Q (f x)) → OnOk Q (on_ok r f)
on_then P Q (Ok x) f h g = g x h
on_then P Q (Err e) f h g = tt

pub on_cond : {A : Type 0} (P : A → Type 0) (b : Bool) (x : A) (e : Stop) → (b ≡ true → P x) → OnOk P (cond b (Ok x) (Err e))
on_cond P true x e h = h refl
on_cond P false x e h = tt

pub any_ok : {A : Type 0} (r : Result A Stop) → OnOk (λ x. Unit {0}) r
any_ok (Ok x) = tt
any_ok (Err e) = tt

-- the object that is reached is the one of that number
alive_is : (p : PlainProgram) (ks : List Kind) (o : ℕ) (x : Option Object) → FoundIs p ks o x → OnOk (IsFound p ks o) (or_stop x U7)
alive_is p ks o None f = tt
alive_is p ks o (Some x) f = f

-- ## Where scalars stand

-- the scalars of an object have numbers
numbered : {m : ℕ} → m ≤ most_elements → m ≤ last_number
numbered l = omega (arith, l)

-- scalar i of an element has the type that the element's scalar i has
typed_part : (p : PlainProgram) → IsLaidOut p → (k : Kind) (a : Window) (n i : ℕ) (t s : PlainType) → length (kind_scalars p k) ≤ last_number → Leads p k (record { window = a; elem = bare p.structures t }) → (a.inside && ltb n a.count) ≡ true →
    slice_get (scalars p t) i ≡ Some s → slice_get (kind_scalars p k) (a.start + n * a.stride + i) ≡ Some s
typed_part p out k a n i t s few leads e there =
    let v : View = record { window = a; elem = bare p.structures t } in
    let laid : IsLaid p (kind_scalars p k) v = walk_laid p out (kind_scalars p k) few leads.path (own p k) v leads.leads (own_laid p k) in
    part_get (kind_scalars p k) (scalars p t) (a.start + n * a.stride) i s (element p (kind_scalars p k) v n laid e) there

-- the type of a scalar is a list of itself
pub scalars_are : (p : PlainProgram) → IsLaidOut p → (t : PlainType) → is_scalar t ≡ true → scalars p t ≡ bare p.structures t ∷ []
scalars_are p out (integer c i) e = scalars_integer p false i
scalars_are p out (pointer c t) e = scalars_pointer p false (bare p.structures t) ∙ ap (λ t. pointer false t ∷ []) (out.bare_again t)
scalars_are p out (void c) e = absurd cc
scalars_are p out (array c t n) e = absurd cc
scalars_are p out (structure c n) e = absurd cc

stride_one : (p : PlainProgram) → IsLaidOut p → (k : Kind) (a : Window) (t : PlainType) → length (kind_scalars p k) ≤ last_number → Leads p k (record { window = a; elem = bare p.structures t }) → is_scalar t ≡ true → a.stride ≡ 1
stride_one p out k a t few leads e =
    let v : View = record { window = a; elem = bare p.structures t } in
    let laid : IsLaid p (kind_scalars p k) v = walk_laid p out (kind_scalars p k) few leads.path (own p k) v leads.leads (own_laid p k) in
    laid.stride ∙ ap length (scalars_are p out t e)

typed_scalar : (p : PlainProgram) → IsLaidOut p → (k : Kind) (a : Window) (n : ℕ) (t : PlainType) → length (kind_scalars p k) ≤ last_number → Leads p k (record { window = a; elem = bare p.structures t }) → is_scalar t ≡ true → (a.inside && ltb n a.count) ≡ true →
    slice_get (kind_scalars p k) (a.start + n) ≡ Some (bare p.structures t)
typed_scalar p out k a n t few leads scalar e =
    subst (λ m. slice_get (kind_scalars p k) m ≡ Some (bare p.structures t)) (place a.start n a.stride (stride_one p out k a t few leads scalar))
    (typed_part p out k a n 0 t (bare p.structures t) few leads e (ap (λ ts. slice_get ts 0) (scalars_are p out t scalar)))
  where
    place : (s n m : ℕ) → m ≡ 1 → s + n * m + 0 ≡ s + n
    place s n m e = ap (λ m. s + n * m + 0) e ∙ omega arith

-- ## Cells

-- at a place whose scalar has a type, there is a cell of that type
cell_typed : (p : PlainProgram) (ks : List Kind) (objects : List Object) (o : ℕ) (a : Window) (n : ℕ) (k : Kind) (s : PlainType) → AllObjects p ks objects → slice_get ks o ≡ Some k →
    OnOk (λ j. slice_get (kind_scalars p k) j ≡ Some s) (scalar_at a n) → OnOk (λ (c : Cell). MaybeFits p ks s c.value) (cell_at objects (To o a n))
cell_typed p ks objects o a n k s all opened there =
    on_then (IsFound p ks o) (λ (c : Cell). MaybeFits p ks s c.value) (alive objects o) _ (alive_is p ks o (find o objects) (find_is p ks o objects all)) (λ x e.
    on_then (λ j. slice_get (kind_scalars p k) j ≡ Some s) (λ (c : Cell). MaybeFits p ks s c.value) (scalar_at a n) _ there (λ j g.
    let same : k ≡ e.fits.kind = same_Some _ _ (sym opened ∙ (sym (ap (slice_get ks) e.number) ∙ e.fits.opened)) in
    let h : HasCell p ks s x.cells j = all_get p ks (kind_scalars p e.fits.kind) x.cells j s e.fits.cells (subst (λ k. slice_get (kind_scalars p k) j ≡ Some s) same g) in
    subst (λ (c : Option Cell). OnOk (λ (c : Cell). MaybeFits p ks s c.value) (or_stop c U6)) (sym h.there) h.fits))

write_typed : (p : PlainProgram) (ks : List Kind) (objects : List Object) (o : ℕ) (a : Window) (n : ℕ) (k : Kind) (s : PlainType) (c : Cell) → AllObjects p ks objects → slice_get ks o ≡ Some k →
    OnOk (λ j. (j ≡ a.start + n) × (slice_get (kind_scalars p k) j ≡ Some s)) (scalar_at a n) → MaybeFits p ks s c.value → OnOk (AllObjects p ks) (write_at objects (To o a n) c)
write_typed p ks objects o a n k s c all opened there f =
    on_then (λ _. slice_get (kind_scalars p k) (a.start + n) ≡ Some s) (AllObjects p ks) (target_at objects (To o a n)) _
    (on_then (λ _. Unit {0}) (λ _. slice_get (kind_scalars p k) (a.start + n) ≡ Some s) (alive objects o) _ (any_ok (alive objects o)) (λ x _.
    on_then (λ j. (j ≡ a.start + n) × (slice_get (kind_scalars p k) j ≡ Some s)) (λ _. slice_get (kind_scalars p k) (a.start + n) ≡ Some s) (scalar_at a n) _ there (λ j g.
    on_then (λ _. Unit {0}) (λ _. slice_get (kind_scalars p k) (a.start + n) ≡ Some s) (or_stop (slice_get x.cells j) U6) _ (any_ok _) (λ cell _.
    on_then (λ _. Unit {0}) (λ _. slice_get (kind_scalars p k) (a.start + n) ≡ Some s) (may_write x.origin) _ (any_ok (may_write x.origin)) (λ w _. subst (λ j. slice_get (kind_scalars p k) j ≡ Some s) g.0 g.1)))))
    (λ cell g. put_fits p ks o (a.start + n) k s c objects all opened g f)

scalar_place : (p : PlainProgram) → IsLaidOut p → (k : Kind) (a : Window) (n : ℕ) (t : PlainType) → length (kind_scalars p k) ≤ last_number → Leads p k (record { window = a; elem = bare p.structures t }) → is_scalar t ≡ true →
    OnOk (λ j. (j ≡ a.start + n) × (slice_get (kind_scalars p k) j ≡ Some (bare p.structures t))) (scalar_at a n)
scalar_place p out k a n t few leads scalar = on_cond (λ j. (j ≡ a.start + n) × (slice_get (kind_scalars p k) j ≡ Some (bare p.structures t))) (a.inside && ltb n a.count) (a.start + n) U6
    (λ b. (refl, typed_scalar p out k a n t few leads scalar b))

-- weaker facts of a result
on_weaker : {A : Type 0} (P Q : A → Type 0) (r : Result A Stop) → ((x : A) → P x → Q x) → OnOk P r → OnOk Q r
on_weaker P Q (Ok x) f h = f x h
on_weaker P Q (Err e) f h = tt

-- a cell at a pointer to scalars of a type
pub cell_fits : (p : PlainProgram) → IsLaidOut p → (ks : List Kind) (w : State) (t : PlainType) (q : Ptr) → Sound p ks w → FitsPointer p ks t q → is_scalar t ≡ true → OnOk (λ (c : Cell). MaybeFits p ks t c.value) (cell_at w.objects q)
cell_fits p out ks w t Null s f scalar = tt
cell_fits p out ks w t (To o a n) s f scalar =
    on_weaker (λ (c : Cell). MaybeFits p ks (bare p.structures t) c.value) (λ (c : Cell). MaybeFits p ks t c.value) (cell_at w.objects (To o a n)) (λ c h. maybe_same p ks (bare p.structures t) t c.value (out.bare_again t) h)
    (cell_typed p ks w.objects o a n f.kind (bare p.structures t) s.all f.opened
    (on_weaker _ _ (scalar_at a n) (λ j h. h.1) (scalar_place p out f.kind a n t (numbered (s.sizes o f.kind f.opened).scalars) f.leads scalar)))

pub write_fits : (p : PlainProgram) → IsLaidOut p → (ks : List Kind) (w : State) (t : PlainType) (q : Ptr) (c : Cell) → Sound p ks w → FitsPointer p ks t q → is_scalar t ≡ true → MaybeFits p ks t c.value → OnOk (AllObjects p ks) (write_at w.objects q c)
write_fits p out ks w t Null c s f scalar g = tt
write_fits p out ks w t (To o a n) c s f scalar g =
    write_typed p ks w.objects o a n f.kind (bare p.structures t) c s.all f.opened (scalar_place p out f.kind a n t (numbered (s.sizes o f.kind f.opened).scalars) f.leads scalar)
    (maybe_same p ks t (bare p.structures t) c.value (sym (out.bare_again t)) g)

-- scalar i of an element, by a window of its own
part_place : (p : PlainProgram) → IsLaidOut p → (k : Kind) (a : Window) (n i : ℕ) (t s : PlainType) → length (kind_scalars p k) ≤ last_number → Leads p k (record { window = a; elem = bare p.structures t }) → slice_get (scalars p t) i ≡ Some s →
    OnOk (λ j. (j ≡ (window_in a n i 1 1).start + 0) × (slice_get (kind_scalars p k) j ≡ Some s)) (scalar_at (window_in a n i 1 1) 0)
part_place p out k a n i t s few leads there =
    on_cond (λ j. (j ≡ (window_in a n i 1 1).start + 0) × (slice_get (kind_scalars p k) j ≡ Some s)) ((a.inside && ltb n a.count) && ltb 0 1) (min (a.start + n * a.stride + i) last_number + 0) U6 (λ b.
    let h : slice_get (kind_scalars p k) (a.start + n * a.stride + i) ≡ Some s = typed_part p out k a n i t s few leads (and_true (a.inside && ltb n a.count) (ltb 0 1) b).0 there in
    let below : a.start + n * a.stride + i < length (kind_scalars p k) = get_below (kind_scalars p k) (a.start + n * a.stride + i) s h in
    (refl, subst (λ j. slice_get (kind_scalars p k) j ≡ Some s) (at_most (a.start + n * a.stride + i) (length (kind_scalars p k)) below few) h))
  where
    at_most : (j m : ℕ) → j < m → m ≤ last_number → j ≡ min j last_number + 0
    at_most j m b f = omega (arith, b, f)

pub part_fits : (p : PlainProgram) → IsLaidOut p → (ks : List Kind) (w : State) (t : PlainType) (q : Ptr) (i : ℕ) (s : PlainType) → Sound p ks w → FitsPointer p ks t q → slice_get (scalars p t) i ≡ Some s → OnOk (λ (c : Cell). MaybeFits p ks s c.value) (part_of w.objects q i)
part_fits p out ks w t Null i s so f there = tt
part_fits p out ks w t (To o a n) i s so f there =
    on_then (λ (q : Ptr). OnOk (λ (c : Cell). MaybeFits p ks s c.value) (cell_at w.objects q)) (λ (c : Cell). MaybeFits p ks s c.value) (inner w.objects (To o a n) i 1 1) _
    (on_then (λ _. Unit {0}) (λ (q : Ptr). OnOk (λ (c : Cell). MaybeFits p ks s c.value) (cell_at w.objects q)) (alive w.objects o) _ (any_ok (alive w.objects o)) (λ _ _.
    cell_typed p ks w.objects o (window_in a n i 1 1) 0 f.kind s so.all f.opened (on_weaker _ _ (scalar_at (window_in a n i 1 1) 0) (λ j h. h.1) (part_place p out f.kind a n i t s (numbered (so.sizes o f.kind f.opened).scalars) f.leads there))))
    (λ q h. h)

pub write_part_fits : (p : PlainProgram) → IsLaidOut p → (ks : List Kind) (w : State) (t : PlainType) (q : Ptr) (i : ℕ) (s : PlainType) (c : Cell) → Sound p ks w → FitsPointer p ks t q → slice_get (scalars p t) i ≡ Some s → MaybeFits p ks s c.value →
    OnOk (AllObjects p ks) (write_part w.objects q i c)
write_part_fits p out ks w t Null i s c so f there g = tt
write_part_fits p out ks w t (To o a n) i s c so f there g =
    on_then (λ (q : Ptr). OnOk (AllObjects p ks) (write_at w.objects q c)) (AllObjects p ks) (inner w.objects (To o a n) i 1 1) _
    (on_then (λ _. Unit {0}) (λ (q : Ptr). OnOk (AllObjects p ks) (write_at w.objects q c)) (alive w.objects o) _ (any_ok (alive w.objects o)) (λ _ _.
    write_typed p ks w.objects o (window_in a n i 1 1) 0 f.kind s c so.all f.opened (part_place p out f.kind a n i t s (numbered (so.sizes o f.kind f.opened).scalars) f.leads there) g))
    (λ q h. h)

-- ## Pointers

placed_fits : (p : PlainProgram) (ks : List Kind) (t : PlainType) (o : ℕ) (a : Window) (n : ℕ) (z : ℤ) → IsAt p ks t o a n → OnOk (FitsPointer p ks t) (placed o a z)
placed_fits p ks t o a n (negsuc m) f = tt
placed_fits p ks t o a n (pos m) f = on_cond (FitsPointer p ks t) (leb m a.count) (To o a m) U6 (λ b. record { kind = f.kind; opened = f.opened; leads = f.leads; position = leb-true m a.count b })

pub shift_fits : (p : PlainProgram) (ks : List Kind) (objects : List Object) (t : PlainType) (q : Ptr) (z : ℤ) → FitsPointer p ks t q → OnOk (FitsPointer p ks t) (shift objects q z)
shift_fits p ks objects t Null z f = tt
shift_fits p ks objects t (To o a n) z f = on_then (λ x. Unit {0}) (FitsPointer p ks t) (alive objects o) _ (any_ok (alive objects o)) (λ x _. placed_fits p ks t o a n (pos n +ℤ z) f)

leads_on : (p : PlainProgram) (k : Kind) (a b : View) (s : Step) → Leads p k a → stepped p a s ≡ Some b → Leads p k b
leads_on p k a b s l e = record { path = l.path ++ s ∷ []; leads = walk_more p l.path s (own p k) a b l.leads e }

when_true : {A : Type 0} (b : Bool) (o : Option A) → b ≡ true → cond b o None ≡ o
when_true true o e = refl
when_true false o e = absurd cc

row_step : (p : PlainProgram) (v : View) (n : ℕ) (c : Bool) (t : PlainType) (len : ℕ) → n ≤ v.window.count → v.elem ≡ array c t len → stepped p v (into n) ≡ Some (record { window = window_in v.window n 0 (length (scalars_of p.structures t)) len; elem = t })
row_step p v n c t len l e = when_true (leb n v.window.count) (view_of_row p v.window n v.elem) (le-leb n v.window.count l) ∙ ap (view_of_row p v.window n) e

member_step : (p : PlainProgram) (v : View) (n : ℕ) (c : Bool) (k m : ℕ) (x : PlainMember) → n ≤ v.window.count → v.elem ≡ structure c k → slice_get (members_of p.structures k) m ≡ Some x →
    stepped p v (to_member n m) ≡ Some (record { window = window_in v.window n (scalars_before p (structure c k) m) (width p x.type) 1; elem = bare p.structures x.type })
member_step p v n c k m x l e there =
    when_true (leb n v.window.count) (view_of_member p v.window n m v.elem) (le-leb n v.window.count l) ∙
    (ap (view_of_member p v.window n m) e ∙ ap (view_of_entry p v.window n (scalars_before p (structure c k) m)) there)

-- the row that an element is, and a member of an element
pub inner_row_fits : (p : PlainProgram) (ks : List Kind) (objects : List Object) (c : Bool) (t : PlainType) (len : ℕ) (q : Ptr) → FitsPointer p ks (array c t len) q → OnOk (FitsPointer p ks t) (inner objects q 0 (width p t) len)
inner_row_fits p ks objects c t len Null f = tt
inner_row_fits p ks objects c t len (To o a n) f = on_then (λ x. Unit {0}) (FitsPointer p ks t) (alive objects o) _ (any_ok (alive objects o)) (λ x _.
    record {
      kind = f.kind;
      opened = f.opened;
      leads = leads_on p f.kind (record { window = a; elem = array false (bare p.structures t) len }) _ (into n) f.leads (row_step p (record { window = a; elem = array false (bare p.structures t) len }) n false (bare p.structures t) len f.position refl);
      position = omega arith;
    })

pub inner_member_fits : (p : PlainProgram) (ks : List Kind) (objects : List Object) (u t : PlainType) (c : Bool) (k m : ℕ) (x : PlainMember) (q : Ptr) → bare p.structures u ≡ structure c k → slice_get (members_of p.structures k) m ≡ Some x →
    bare p.structures x.type ≡ bare p.structures t → FitsPointer p ks u q → OnOk (FitsPointer p ks t) (inner objects q (scalars_before p (bare p.structures u) m) (width p t) 1)
inner_member_fits p ks objects u t c k m x Null same there type_is f = tt
inner_member_fits p ks objects u t c k m x (To o a n) same there type_is f = on_then (λ x. Unit {0}) (FitsPointer p ks t) (alive objects o) _ (any_ok (alive objects o)) (λ _ _.
    record {
      kind = f.kind;
      opened = f.opened;
      leads = leads_on p f.kind (record { window = a; elem = bare p.structures u }) _ (to_member n m) f.leads
          (member_step p (record { window = a; elem = bare p.structures u }) n c k m x f.position same there ∙
          (ap (λ (y : PlainType). Some (record { window = window_in a n (scalars_before p (structure c k) m) (length (scalars_of p.structures y)) 1; elem = y })) type_is ∙
          ap (λ (y : PlainType). Some (record { window = window_in a n (scalars_before p y m) (width p t) 1; elem = bare p.structures t })) (sym same)));
      position = omega arith;
    })

-- ## `free`

pub release_fits : (p : PlainProgram) (ks : List Kind) (objects : List Object) (q : Ptr) → AllObjects p ks objects → OnOk (AllObjects p ks) (release objects q)
release_fits p ks objects Null s = s
release_fits p ks objects (To o a n) s = case (find o objects)
  where
    case : (x : Option Object) → OnOk (AllObjects p ks) (freed objects o a n x)
    case None = tt
    case (Some x) = on_cond (AllObjects p ks) (is_allocated x.origin && a.whole && eqb n 0) (closed o objects) U11 (λ b. closed_fits p ks o objects s)
