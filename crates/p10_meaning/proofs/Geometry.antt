-- Where the scalars of an array in an object stand among those of the object.
use Rattle.std.proofs.Common.{◌≡◌, ℕ, zero, suc, ◌+◌, ◌*◌, ◌<◌, ◌≤◌, min, ltb, leb, ◌&&◌, cond, Bool, true, false, List, [], ◌∷◌, ◌++◌, length, take, refl, sym, ◌∙◌, ap, subst, arith, append_assoc, Option, Some, None, slice_get, length-append, append-nil}
use Rattle.std.specs.Prelude.{flat_map}
use Rattle.std.proofs.lemmas.Bool.{ltb-true}
use Rattle.std.proofs.lemmas.Option.{same_Some, none-some}
use Rattle.p10_int.specs.declared.types.IntType.{IntType}
use Rattle.p10_core.specs.Types.{PlainType, void, integer, pointer, array, structure, bare, PlainMember, members_of}
use Rattle.p10_core.specs.Sizes.{layout_of, scalars_of, repeated}
use Rattle.p10_core.specs.Typed.{PlainProgram}
use Rattle.p10_meaning.specs.Pointers.{last_number, window_in}
use Rattle.p10_meaning.specs.Values.{scalars, width, scalars_before}
use Rattle.p10_meaning.specs.Sound.{Kind, View, own, Step, into, to_member, view_of_row, view_of_entry, view_of_member, stepped, on_some, walk, kind_scalars}

-- ## Parts of lists

pub record IsPart (types : List PlainType) (start : ℕ) (part : List PlainType) : Type 0 where
  pub front : List PlainType
  pub back : List PlainType
  pub is : types ≡ front ++ (part ++ back)
  pub at : length front ≡ start

four_parts : (f g v b c : List PlainType) → f ++ ((g ++ (v ++ b)) ++ c) ≡ (f ++ g) ++ (v ++ (b ++ c))
four_parts f g v b c = simp append_assoc refl

pub part_trans : (ts us vs : List PlainType) (s r : ℕ) → IsPart ts s us → IsPart us r vs → IsPart ts (s + r) vs
part_trans ts us vs s r x y = record {
  front = x.front ++ y.front;
  back = y.back ++ x.back;
  is = x.is ∙ (ap (λ us. x.front ++ (us ++ x.back)) y.is ∙ four_parts x.front y.front vs y.back x.back);
  at = length-append x.front y.front ∙ (ap (λ n. n + length y.front) x.at ∙ ap (λ n. s + n) y.at);
}

pub part_repeat : (n i : ℕ) (us : List PlainType) → i < n → IsPart (repeated n us) (i * length us) us
part_repeat zero i us l = absurd (omega (arith, l))
part_repeat (suc n) zero us l = record { front = []; back = repeated n us; is = refl; at = omega arith }
part_repeat (suc n) (suc i) us l =
    let h : IsPart (repeated n us) (i * length us) us = part_repeat n i us (omega (arith, l)) in
    record { front = us ++ h.front; back = h.back; is = ap (λ xs. us ++ xs) h.is ∙ sym (append_assoc us h.front (us ++ h.back)); at = length-append us h.front ∙ (ap (λ n. length us + n) h.at ∙ omega arith) }

pub part_member : (f : PlainMember → List PlainType) (ms : List PlainMember) (m : ℕ) (x : PlainMember) → slice_get ms m ≡ Some x → IsPart (flat_map f ms) (length (flat_map f (take m ms))) (f x)
part_member f [] m x e = absurd (none-some _ e)
part_member f (y ∷ ms) zero x e = record { front = []; back = flat_map f ms; is = ap (λ x. f x ++ flat_map f ms) (same_Some _ _ e); at = refl }
part_member f (y ∷ ms) (suc m) x e =
    let h : IsPart (flat_map f ms) (length (flat_map f (take m ms))) (f x) = part_member f ms m x e in
    record { front = f y ++ h.front; back = h.back; is = ap (λ xs. f y ++ xs) h.is ∙ sym (append_assoc (f y) h.front (f x ++ h.back)); at = length-append (f y) h.front ∙ (ap (λ n. length (f y) + n) h.at ∙ sym (length-append (f y) (flat_map f (take m ms)))) }

get_after : (front back : List PlainType) (i : ℕ) (part : List PlainType) (t : PlainType) → slice_get part i ≡ Some t → slice_get (front ++ (part ++ back)) (length front + i) ≡ Some t
get_after [] back i part t e = subst (λ n. slice_get (part ++ back) n ≡ Some t) (zero_plus i) (in_front part back i e)
  where
    zero_plus : (i : ℕ) → i ≡ 0 + i
    zero_plus i = omega arith

    in_front : (part back : List PlainType) (i : ℕ) → slice_get part i ≡ Some t → slice_get (part ++ back) i ≡ Some t
    in_front [] back i e = absurd (none-some _ e)
    in_front (x ∷ part) back zero e = e
    in_front (x ∷ part) back (suc i) e = in_front part back i e
get_after (x ∷ front) back i part t e = subst (λ n. slice_get (x ∷ (front ++ (part ++ back))) n ≡ Some t) (one_more (length front) i) (get_after front back i part t e)
  where
    one_more : (n i : ℕ) → suc (n + i) ≡ suc n + i
    one_more n i = omega arith

-- scalar i of a part
pub part_get : (types part : List PlainType) (start i : ℕ) (t : PlainType) → IsPart types start part → slice_get part i ≡ Some t → slice_get types (start + i) ≡ Some t
part_get types part start i t h e =
    subst (λ k. slice_get types (k + i) ≡ Some t) h.at (subst (λ ts. slice_get ts (length h.front + i) ≡ Some t) (sym h.is) (get_after h.front h.back i part t e))

pub when_some : {A : Type 0} (b : Bool) (o : Option A) (x : A) → cond b o None ≡ Some x → (b ≡ true) × (o ≡ Some x)
when_some true o x e = (refl, e)
when_some false o x e = absurd (none-some _ e)

pub then_some : {A B P : Type 0} (o : Option A) (f : A → Option B) (y : B) → on_some o f ≡ Some y → ((x : A) → o ≡ Some x → f x ≡ Some y → P) → P
then_some None f y e go = absurd (none-some _ e)
then_some (Some x) f y e go = go x refl e

pub and_true : (a b : Bool) → (a && b) ≡ true → (a ≡ true) × (b ≡ true)
and_true true b e = (refl, e)
and_true false b e = absurd cc

-- ## What is asked of a program's structures

-- the scalars of a structure are those of its members, in order; marks and compatible structures are left aside once and for
-- all; and a structure has the members, up to these, of the one that stands for it
pub record IsLaidOut (p : PlainProgram) : Type 0 where
  pub members : (c : Bool) (k : ℕ) → scalars_of p.structures (structure c k) ≡ flat_map (λ (x : PlainMember). scalars p x.type) (members_of p.structures k)
  pub bare_again : (t : PlainType) → bare p.structures (bare p.structures t) ≡ bare p.structures t

pub scalars_array : (p : PlainProgram) (c : Bool) (t : PlainType) (n : ℕ) → scalars_of p.structures (array c t n) ≡ repeated n (scalars_of p.structures t)
unfolding layout_of
scalars_array p c t n = refl

pub scalars_integer : (p : PlainProgram) (c : Bool) (i : IntType) → scalars_of p.structures (integer c i) ≡ integer false i ∷ []
unfolding layout_of
scalars_integer p c i = refl

pub scalars_pointer : (p : PlainProgram) (c : Bool) (t : PlainType) → scalars_of p.structures (pointer c t) ≡ pointer false (bare p.structures t) ∷ []
unfolding layout_of
scalars_pointer p c t = refl

-- ## Views

-- the scalars of an array that lies in the object, among those of the object
pub record IsLaid (p : PlainProgram) (types : List PlainType) (v : View) : Type 0 where
  pub stride : v.window.stride ≡ length (scalars_of p.structures v.elem)
  pub part : v.window.inside ≡ true → IsPart types v.window.start (repeated v.window.count (scalars_of p.structures v.elem))

-- the element at a position of an array that lies in the object
pub element : (p : PlainProgram) (types : List PlainType) (v : View) (n : ℕ) → IsLaid p types v → (v.window.inside && ltb n v.window.count) ≡ true →
    IsPart types (v.window.start + n * v.window.stride) (scalars_of p.structures v.elem)
element p types v n laid e =
    let b : (v.window.inside ≡ true) × (ltb n v.window.count ≡ true) = and_true v.window.inside (ltb n v.window.count) e in
    subst (λ m. IsPart types (v.window.start + n * m) (scalars_of p.structures v.elem)) (sym laid.stride)
    (part_trans types (repeated v.window.count (scalars_of p.structures v.elem)) (scalars_of p.structures v.elem) v.window.start (n * length (scalars_of p.structures v.elem)) (laid.part b.0)
    (part_repeat v.window.count n (scalars_of p.structures v.elem) (ltb-true n v.window.count b.1)))

-- no scalar of an object has a number over the last
pub capped : (types part : List PlainType) (n : ℕ) → length types ≤ last_number → IsPart types n part → IsPart types (min n last_number) part
capped types part n few h =
    let l : length types ≡ length h.front + length (part ++ h.back) = ap length h.is ∙ length-append h.front (part ++ h.back) in
    let a : length h.front ≡ n = h.at in
    let m : n ≤ last_number = omega (arith, l, a, few) in
    subst (λ k. IsPart types k part) (omega (arith, m)) h

at_zero : (types part : List PlainType) (n : ℕ) → IsPart types n part → IsPart types (n + 0) part
at_zero types part n h = subst (λ k. IsPart types k part) (omega arith) h

row_laid : (p : PlainProgram) (types : List PlainType) (v : View) (n : ℕ) (c : Bool) (t : PlainType) (len : ℕ) → length types ≤ last_number → v.elem ≡ array c t len → IsLaid p types v →
    IsLaid p types (record { window = window_in v.window n 0 (length (scalars_of p.structures t)) len; elem = t })
row_laid p types v n c t len few e laid = record {
  stride = refl;
  part = λ inside.
      capped types (repeated len (scalars_of p.structures t)) (v.window.start + n * v.window.stride + 0) few
      (at_zero types (repeated len (scalars_of p.structures t)) (v.window.start + n * v.window.stride)
      (subst (λ ts. IsPart types (v.window.start + n * v.window.stride) ts) (scalars_array p c t len)
      (subst (λ u. IsPart types (v.window.start + n * v.window.stride) (scalars_of p.structures u)) e (element p types v n laid inside))));
}

member_laid : (p : PlainProgram) → IsLaidOut p → (types : List PlainType) (v : View) (n : ℕ) (c : Bool) (k m : ℕ) (x : PlainMember) → length types ≤ last_number → v.elem ≡ structure c k → slice_get (members_of p.structures k) m ≡ Some x →
    IsLaid p types v → IsLaid p types (record { window = window_in v.window n (scalars_before p (structure c k) m) (width p x.type) 1; elem = bare p.structures x.type })
member_laid p out types v n c k m x few e there laid = record {
  stride = refl;
  part = λ inside.
      let at : ℕ = v.window.start + n * v.window.stride in
      let h : IsPart types at (scalars_of p.structures (structure c k)) = subst (λ u. IsPart types at (scalars_of p.structures u)) e (element p types v n laid inside) in
      let g : IsPart types at (flat_map (λ (x : PlainMember). scalars p x.type) (members_of p.structures k)) = subst (λ ts. IsPart types at ts) (out.members c k) h in
      capped types (scalars p x.type ++ []) (at + scalars_before p (structure c k) m) few
      (subst (λ ts. IsPart types (at + scalars_before p (structure c k) m) ts) (sym (append-nil (scalars p x.type)))
      (part_trans types _ (scalars p x.type) at (scalars_before p (structure c k) m) g (part_member (λ (x : PlainMember). scalars p x.type) (members_of p.structures k) m x there)));
}

-- ## Paths

into_row_laid : (p : PlainProgram) (types : List PlainType) → length types ≤ last_number → (v u : View) (n : ℕ) (t : PlainType) → v.elem ≡ t → view_of_row p v.window n t ≡ Some u → IsLaid p types v → IsLaid p types u
into_row_laid p types few v u n (array c t len) same e laid = subst (λ u. IsLaid p types u) (same_Some _ _ e) (row_laid p types v n c t len few same laid)
into_row_laid p types few v u n (void c) same e laid = absurd (none-some _ e)
into_row_laid p types few v u n (integer c i) same e laid = absurd (none-some _ e)
into_row_laid p types few v u n (pointer c t) same e laid = absurd (none-some _ e)
into_row_laid p types few v u n (structure c k) same e laid = absurd (none-some _ e)

into_entry_laid : (p : PlainProgram) → IsLaidOut p → (types : List PlainType) → length types ≤ last_number → (v u : View) (n : ℕ) (c : Bool) (k m : ℕ) (o : Option PlainMember) → v.elem ≡ structure c k → slice_get (members_of p.structures k) m ≡ o →
    view_of_entry p v.window n (scalars_before p (structure c k) m) o ≡ Some u → IsLaid p types v → IsLaid p types u
into_entry_laid p out types few v u n c k m None same there e laid = absurd (none-some _ e)
into_entry_laid p out types few v u n c k m (Some x) same there e laid = subst (λ u. IsLaid p types u) (same_Some _ _ e) (member_laid p out types v n c k m x few same there laid)

into_member_laid : (p : PlainProgram) → IsLaidOut p → (types : List PlainType) → length types ≤ last_number → (v u : View) (n m : ℕ) (t : PlainType) → v.elem ≡ t → view_of_member p v.window n m t ≡ Some u → IsLaid p types v → IsLaid p types u
into_member_laid p out types few v u n m (structure c k) same e laid = into_entry_laid p out types few v u n c k m (slice_get (members_of p.structures k) m) same refl e laid
into_member_laid p out types few v u n m (void c) same e laid = absurd (none-some _ e)
into_member_laid p out types few v u n m (integer c i) same e laid = absurd (none-some _ e)
into_member_laid p out types few v u n m (pointer c t) same e laid = absurd (none-some _ e)
into_member_laid p out types few v u n m (array c t len) same e laid = absurd (none-some _ e)

step_laid : (p : PlainProgram) → IsLaidOut p → (types : List PlainType) → length types ≤ last_number → (v u : View) (s : Step) → stepped p v s ≡ Some u → IsLaid p types v → IsLaid p types u
step_laid p out types few v u (into n) e laid = into_row_laid p types few v u n v.elem refl (when_some (leb n v.window.count) (view_of_row p v.window n v.elem) u e).1 laid
step_laid p out types few v u (to_member n m) e laid = into_member_laid p out types few v u n m v.elem refl (when_some (leb n v.window.count) (view_of_member p v.window n m v.elem) u e).1 laid

pub walk_laid : (p : PlainProgram) → IsLaidOut p → (types : List PlainType) → length types ≤ last_number → (path : List Step) (v u : View) → walk p v path ≡ Some u → IsLaid p types v → IsLaid p types u
walk_laid p out types few [] v u e laid = subst (λ u. IsLaid p types u) (same_Some _ _ e) laid
walk_laid p out types few (s ∷ path) v u e laid =
    then_some (stepped p v s) (λ x. walk p x path) u e (λ x e1 e2. walk_laid p out types few path x u e2 (step_laid p out types few v x s e1 laid))

-- a path that goes on by one more step
pub walk_more : (p : PlainProgram) (path : List Step) (s : Step) (a b c : View) → walk p a path ≡ Some b → stepped p b s ≡ Some c → walk p a (path ++ s ∷ []) ≡ Some c
walk_more p [] s a b c e f = rw (same_Some _ _ e, f) refl
walk_more p (r ∷ path) s a b c e f = then_some (stepped p a r) (λ d. walk p d path) b e (λ d e1 e2. rw e1 (walk_more p path s d b c e2 f))

-- the whole object as an array lies as its scalars do
pub own_laid : (p : PlainProgram) (k : Kind) → IsLaid p (kind_scalars p k) (own p k)
own_laid p k = record { stride = refl; part = λ e. record { front = []; back = []; is = sym (append-nil (kind_scalars p k)); at = refl } }
