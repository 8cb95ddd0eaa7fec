-- Open calls as ranges of two lists: a call is opened and left, a block is left, and an object is taken from its block.
use Rattle.std.proofs.Common.{sym, ◌≡◌, ◌≤◌, ◌<◌, ℕ, zero, suc, List, [], ◌∷◌, ◌++◌, reverse, refl, ◌∙◌, ap, subst, Bool, true, false, ltb, length, Some, None, take, drop, ◌-◌, ◌+◌, arith, Option, Result, Ok, Err, OnOk}
use Rattle.std.proofs.lemmas.List.{reverse-append, drop-append-le, take-append-le, length-append, map-append}
use Rattle.std.proofs.lemmas.Bool.Decides.{nat_tests}
use Rattle.p10_interp.specs.declared.held.Held.{Held as Standing}
use Rattle.p10_interp.specs.declared.base.Base.{Base}
use Rattle.p10_interp.specs.declared.calls.Calls.{Calls}
use Rattle.p10_interp.specs.private.Standing.{held_of}
use Rattle.p10_interp.specs.private.Tasks.{Open}
use Rattle.p10_interp.specs.private.Operations.{after_block, with_frame}
use Rattle.p10_interp.specs.private.OpenCalls.{own, open_of, calls_of, calls_in, first_own, last_own_of, has_mark_of, TakesOwn, holding_next, IsHeld, IsHeldBy}

-- ## Lists

pub drop_past : {A : Type 0} (n : ℕ) (xs : List A) → length xs ≤ n → drop n xs ≡ []
drop_past zero [] l = refl
drop_past zero (x ∷ xs) l = absurd (omega (arith, l))
drop_past (suc n) [] l = refl
drop_past (suc n) (x ∷ xs) l = drop_past n xs (omega (arith, l))

-- a list is what stands before its last item, and that item
record HasLast {A : Type 0} (xs : List A) : Type 0 where
  pub before : List A
  pub last : A
  pub is : xs ≡ before ++ last ∷ []

has_last : {A : Type 0} (x : A) (xs : List A) → HasLast (x ∷ xs)
has_last x [] = record { before = []; last = x; is = refl }
has_last x (y ∷ xs) = let h : HasLast (y ∷ xs) = has_last y xs in record { before = x ∷ h.before; last = h.last; is = ap (λ zs. x ∷ zs) h.is }

without_last : {A : Type 0} (xs : List A) (x : A) (n : ℕ) → n ≡ length xs → take n (xs ++ x ∷ []) ≡ xs
without_last [] x zero e = refl
without_last [] x (suc n) e = absurd (omega (arith, e))
without_last (y ∷ xs) x zero e = absurd (omega (arith, e))
without_last (y ∷ xs) x (suc n) e = ap (λ ys. y ∷ ys) (without_last xs x n (omega (arith, e)))

one_less : {A : Type 0} (xs : List A) (x : A) → length (xs ++ x ∷ []) - 1 ≡ length xs
one_less xs x = let e : length (xs ++ x ∷ []) ≡ length xs + length (x ∷ []) = length-append xs (x ∷ []) in omega (arith, e)

-- the marks from a place on, the last first, without the last
record IsCut (n : ℕ) (marks fewer : List (Option ℕ)) : Type 0 where
  pub last : Option ℕ
  pub inside : reverse (drop n marks) ≡ last ∷ reverse (drop n fewer)
  pub outside : take n marks ≡ take n fewer

cut_snoc : (n : ℕ) (before : List (Option ℕ)) (last : Option ℕ) → n ≤ length before → IsCut n (before ++ last ∷ []) (take (length (before ++ last ∷ []) - 1) (before ++ last ∷ []))
cut_snoc n before last l =
    let e : take (length (before ++ last ∷ []) - 1) (before ++ last ∷ []) ≡ before = without_last before last _ (one_less before last) in
    subst (λ fewer. IsCut n (before ++ last ∷ []) fewer) (sym e)
    (record { last = last; inside = ap reverse (drop-append-le n before (last ∷ []) l) ∙ reverse-append (drop n before) (last ∷ []); outside = take-append-le n before (last ∷ []) l })

cut_last : (n : ℕ) (marks : List (Option ℕ)) → n < length marks → IsCut n marks (take (length marks - 1) marks)
cut_last n [] l = absurd (omega (arith, l))
cut_last n (m ∷ ms) l =
    let h : HasLast (m ∷ ms) = has_last m ms in
    let e : length (h.before ++ h.last ∷ []) ≡ length h.before + length (h.last ∷ []) = length-append h.before (h.last ∷ []) in
    let k : n < length (h.before ++ h.last ∷ []) = subst (λ xs. n < length xs) h.is l in
    subst (λ marks. IsCut n marks (take (length marks - 1) marks)) (sym h.is) (cut_snoc n h.before h.last (omega (arith, e, k)))

-- ## An object is taken from its block

abbrev Takes : List Open → Option ℕ → List Open → Type 0
Takes [] o now = Unit {0}
Takes (f ∷ calls) o now = TakesOwn f calls o now

taken : (b : Base) (held : List Standing) (less more : List (Option ℕ)) (calls others : List Open) (last : Option ℕ) (o : ℕ) → more ≡ last ∷ less → first_own more ≡ Some o → others ≡ calls →
    TakesOwn (open_of b held more) others (Some o) (open_of b held less ∷ calls)
taken b held less more calls others None o e is d = absurd (let k : first_own more ≡ None = ap first_own e in cc)
taken b held less more calls others (Some m) o e is d =
    let k : Some m ≡ Some o = sym (ap first_own e) ∙ is in
    subst (λ others. TakesOwn (open_of b held more) others (Some o) (open_of b held less ∷ calls)) (sym d)
    (subst (λ more. TakesOwn (open_of b held more) calls (Some o) (open_of b held less ∷ calls)) (sym (e ∙ ap (λ last. last ∷ less) k)) (own less, (refl, refl)))

within : (n : ℕ) (marks : List (Option ℕ)) (o : ℕ) → first_own (reverse (drop n marks)) ≡ Some o → (b : Bool) → ltb n (length marks) ≡ b → n < length marks
within n marks o e true is = grind (arith, nat_tests, is)
within n marks o e false is = absurd (let d : drop n marks ≡ [] = drop_past n marks (grind (arith, nat_tests, is)) in let k : first_own (reverse (drop n marks)) ≡ None = ap (λ ms. first_own (reverse ms)) d in cc)

some_taken : (r : List Base) (held : List Standing) (marks : List (Option ℕ)) (o : ℕ) → last_own_of r marks ≡ Some o → Takes (calls_of r held marks) (Some o) (calls_of r held (take (length marks - 1) marks))
some_taken [] held marks o e = tt
some_taken (b ∷ bases) held marks o e =
    let c : IsCut b.marks marks (take (length marks - 1) marks) = cut_last b.marks marks (within b.marks marks o e (ltb b.marks (length marks)) refl) in
    taken b (drop b.held held) _ _ _ _ c.last o c.inside e (ap (λ ms. calls_of bases (take b.held held) ms) c.outside)

pub takes_some : (old new : Calls) (o : ℕ) → new.bases.items ≡ old.bases.items → new.held.items ≡ old.held.items → new.marks.items ≡ take (length old.marks.items - 1) old.marks.items → Some o ≡ last_own_of (reverse old.bases.items) old.marks.items →
    (f : Open) (calls : List Open) → calls_in old ≡ f ∷ calls → TakesOwn f calls (Some o) (calls_in new)
takes_some old new o b h m e = λ f calls is.
    subst (λ all. Takes all (Some o) (calls_in new)) is
    (subst (λ now. Takes (calls_in old) (Some o) now)
    (sym (ap (λ bases. calls_of (reverse bases) new.held.items new.marks.items) b ∙ (ap (λ held. calls_of (reverse old.bases.items) held new.marks.items) h ∙ ap (λ marks. calls_of (reverse old.bases.items) old.held.items marks) m)))
    (some_taken (reverse old.bases.items) old.held.items old.marks.items o (sym e)))

-- ## A block is left

abbrev Leaves : List Open → List Open → Type 0
Leaves [] now = Unit {0}
Leaves (f ∷ calls) now = f.frame.opened ≡ [] → now ≡ after_block f ∷ calls

left : (b : Base) (held : List Standing) (less more : List (Option ℕ)) (calls others : List Open) (last : Option ℕ) → more ≡ last ∷ less → others ≡ calls → own more ≡ [] → open_of b held less ∷ calls ≡ after_block (open_of b held more) ∷ others
left b held less more calls others (Some m) e d none = absurd (let k : own more ≡ m ∷ own less = ap own e in cc)
left b held less more calls others None e d none =
    subst (λ others. open_of b held less ∷ calls ≡ after_block (open_of b held more) ∷ others) (sym d)
    (subst (λ more. open_of b held less ∷ calls ≡ after_block (open_of b held more) ∷ calls) (sym e) refl)

mark_left : (r : List Base) (held : List Standing) (marks : List (Option ℕ)) → has_mark_of r (length marks) ≡ true → Leaves (calls_of r held marks) (calls_of r held (take (length marks - 1) marks))
mark_left [] held marks e = tt
mark_left (b ∷ bases) held marks e = λ none.
    let c : IsCut b.marks marks (take (length marks - 1) marks) = cut_last b.marks marks (grind (arith, nat_tests, e)) in
    left b (drop b.held held) _ _ _ _ c.last c.inside (ap (λ ms. calls_of bases (take b.held held) ms) c.outside) none

pub leaves_marked : (old new : Calls) → new.bases.items ≡ old.bases.items → new.held.items ≡ old.held.items → new.marks.items ≡ take (length old.marks.items - 1) old.marks.items → has_mark_of (reverse old.bases.items) (length old.marks.items) ≡ true →
    (f : Open) (calls : List Open) → calls_in old ≡ f ∷ calls → f.frame.opened ≡ [] → calls_in new ≡ after_block f ∷ calls
leaves_marked old new b h m e = λ f calls is.
    subst (λ all. Leaves all (calls_in new)) is
    (subst (λ now. Leaves (calls_in old) now)
    (sym (ap (λ bases. calls_of (reverse bases) new.held.items new.marks.items) b ∙ (ap (λ held. calls_of (reverse old.bases.items) held new.marks.items) h ∙ ap (λ marks. calls_of (reverse old.bases.items) old.held.items marks) m)))
    (mark_left (reverse old.bases.items) old.held.items old.marks.items e))

-- ## A variable is held

abbrev held_next : List Open → Standing → List Open
held_next [] h = []
held_next (f ∷ calls) h = with_frame f (holding_next f.frame (held_of h)) ∷ calls

next_held : (r : List Base) (held : List Standing) (marks : List (Option ℕ)) (h : Standing) → IsHeldBy r (length held) → calls_of r (held ++ h ∷ []) marks ≡ held_next (calls_of r held marks) h
next_held [] held marks h l = absurd l
next_held (b ∷ bases) held marks h l =
    ap (λ hs. open_of b hs (reverse (drop b.marks marks)) ∷ calls_of bases (take b.held (held ++ h ∷ [])) (take b.marks marks)) (drop-append-le b.held held (h ∷ []) l) ∙
    (ap (λ hs. open_of b (drop b.held held ++ h ∷ []) (reverse (drop b.marks marks)) ∷ calls_of bases hs (take b.marks marks)) (take-append-le b.held held (h ∷ []) l) ∙
    ap (λ hs. with_frame (open_of b (drop b.held held) (reverse (drop b.marks marks))) (record (open_of b (drop b.held held) (reverse (drop b.marks marks))).frame { held = hs }) ∷ calls_of bases (take b.held held) (take b.marks marks)) (map-append held_of (drop b.held held) (h ∷ [])))

pub variable_held : {A B : Type 0} (r : Result A B) (old new : Calls) (h : Standing) → new.bases.items ≡ old.bases.items → new.marks.items ≡ old.marks.items → OnOk r (new.held.items ≡ old.held.items ++ h ∷ []) → IsHeld old →
    OnOk r ((f : Open) (calls : List Open) → calls_in old ≡ f ∷ calls → calls_in new ≡ with_frame f (holding_next f.frame (held_of h)) ∷ calls)
variable_held (Err e) old new h b m k l = tt
variable_held (Ok a) old new h b m k l = λ f calls e.
    ap (λ bases. calls_of (reverse bases) new.held.items new.marks.items) b ∙
    (ap (λ held. calls_of (reverse old.bases.items) held new.marks.items) k ∙
    (ap (λ marks. calls_of (reverse old.bases.items) (old.held.items ++ h ∷ []) marks) m ∙
    (next_held (reverse old.bases.items) old.held.items old.marks.items h l ∙ ap (λ calls. held_next calls h) e)))
