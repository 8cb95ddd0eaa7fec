-- Open calls as ranges of two lists.
use Rattle.std.proofs.Common.{set, map, sym, ◌≤◌, ◌≡◌, ℕ, zero, suc, List, [], ◌∷◌, ◌++◌, reverse, refl, ◌∙◌, ap, true, false, length, get_or, slice_get, Some, None, take, drop, ◌-◌, ◌+◌, ◌<◌, arith, Option, option_map, Result, Ok, Err, OnOk}
use Rattle.std.proofs.lemmas.List.{reverse-append, get_or-reverse, drop-append-le, take-append-le, drop-set-add, take-set-le, map-set, length-map, length-drop}
use Rattle.std.proofs.lemmas.Option.{slice_get_within, get_or_from_slice_get, slice_get-map}
use Rattle.p10_interp.specs.declared.held.Held.{Held as Standing}
use Rattle.p10_interp.specs.declared.base.Base.{Base}
use Rattle.p10_interp.specs.declared.calls.Calls.{Calls}
use Rattle.p10_interp.specs.private.Standing.{held_of}
use Rattle.p10_interp.specs.private.Tasks.{Open}
use Rattle.p10_core.specs.Views.{plain_function, plain_variable}
use Rattle.p10_meaning.specs.Values.{Held, stands}
use Rattle.p10_meaning.specs.Statements.{holding_at}
use Rattle.p10_interp.specs.private.Operations.{in_new_block, with_frame}
use Rattle.p10_interp.specs.private.Nothing.{is_nil}
use Rattle.p10_interp.specs.private.OpenCalls.{own, around, open_of, calls_of, innermost_held, innermost_variables, owning, standing_at, HasVariable, IsMarkedBy, calls_in, IsMarked}

pub nil_calls : (bases : List Base) (held : List Standing) (marks : List (Option ℕ)) → is_nil (calls_of bases held marks) ≡ is_nil bases
nil_calls [] held marks = refl
nil_calls (b ∷ bases) held marks = refl

nil_push : {A : Type 0} (xs : List A) (x : A) → is_nil (xs ++ x ∷ []) ≡ false
nil_push [] x = refl
nil_push (y ∷ xs) x = refl

pub nil_reverse : {A : Type 0} (xs : List A) → is_nil (reverse xs) ≡ is_nil xs
nil_reverse [] = refl
nil_reverse (x ∷ xs) = ap is_nil (reverse-append (x ∷ []) xs) ∙ nil_push (reverse xs) x

not_nil : {A : Type 0} (xs : List A) → length xs - 1 < length xs → is_nil xs ≡ false
not_nil [] l = absurd (omega (arith, l))
not_nil (x ∷ xs) l = refl

split_case : {A : Type 0} (r : List A) (b : A) → is_nil r ≡ false → get_or r 0 b ≡ b → (rest : List A) × (r ≡ b ∷ rest)
split_case [] b n e = absurd cc
split_case (x ∷ rest) b n e = (rest, ap (λ x. x ∷ rest) e)

-- the last of a list is the first of it backwards
pub last_first : {A : Type 0} (xs : List A) (b : A) → slice_get xs (length xs - 1) ≡ Some b → (rest : List A) × (reverse xs ≡ b ∷ rest)
last_first xs b e =
    let l : length xs - 1 < length xs = slice_get_within xs (length xs - 1) b e in
    let z : length xs - 1 - 0 ≡ length xs - 1 = omega arith in
    split_case (reverse xs) b (nil_reverse xs ∙ not_nil xs l)
    (get_or-reverse xs 0 b (omega (arith, l)) ∙ (ap (λ k. get_or xs k b) z ∙ get_or_from_slice_get xs (length xs - 1) b b e))

pub get_drop : {A : Type 0} (s n : ℕ) (xs : List A) → slice_get (drop s xs) n ≡ slice_get xs (s + n)
get_drop zero n xs = let e : n ≡ 0 + n = omega arith in ap (λ k. slice_get xs k) e
get_drop (suc s) n [] = refl
get_drop (suc s) n (x ∷ xs) = let e : suc (s + n) ≡ suc s + n = omega arith in get_drop s n xs ∙ ap (λ k. slice_get (x ∷ xs) k) e

-- what stands for a variable of the innermost call
pub held_at : (r : List Base) (b : Base) (rest : List Base) (held : List Standing) (marks : List (Option ℕ)) (n : ℕ) → r ≡ b ∷ rest →
    slice_get (innermost_held (calls_of r held marks)) n ≡ option_map held_of (slice_get held (b.held + n))
held_at r b rest held marks n e =
    ap (λ r. slice_get (innermost_held (calls_of r held marks)) n) e ∙
    (slice_get-map held_of (drop b.held held) n ∙ ap (λ o. option_map held_of o) (get_drop b.held n held))

pub no_held : (bases : List Base) (held : List Standing) (marks : List (Option ℕ)) (n : ℕ) → is_nil bases ≡ true → slice_get (innermost_held (calls_of (reverse bases) held marks)) n ≡ None
no_held [] held marks n e = refl
no_held (b ∷ bases) held marks n e = absurd cc

-- ## A block is entered

abbrev entered : List Open → List Open
entered [] = []
entered (f ∷ calls) = in_new_block f ∷ calls

pub block_entered : (r : List Base) (held : List Standing) (marks : List (Option ℕ)) → IsMarkedBy r (length marks) → (f : Open) (calls : List Open) → calls_of r held marks ≡ f ∷ calls →
    calls_of r held (marks ++ None ∷ []) ≡ in_new_block f ∷ calls
block_entered [] held marks l f calls e = absurd l
block_entered (b ∷ bases) held marks l f calls e =
    ap (λ m. open_of b (drop b.held held) m ∷ calls_of bases (take b.held held) (take b.marks (marks ++ None ∷ [])))
    (ap reverse (drop-append-le b.marks marks (None ∷ []) l) ∙ reverse-append (drop b.marks marks) (None ∷ [])) ∙
    (ap (λ m. open_of b (drop b.held held) (None ∷ reverse (drop b.marks marks)) ∷ calls_of bases (take b.held held) m) (take-append-le b.marks marks (None ∷ []) l) ∙ ap entered e)

-- a mark after all others enters a block
pub marked_entered : {A B : Type 0} (r : Result A B) (old new : Calls) → new.bases.items ≡ old.bases.items → new.held.items ≡ old.held.items → OnOk r (new.marks.items ≡ old.marks.items ++ None ∷ []) → IsMarked old →
    OnOk r ((f : Open) (calls : List Open) → calls_in old ≡ f ∷ calls → calls_in new ≡ in_new_block f ∷ calls)
marked_entered (Err e) old new b h m l = tt
marked_entered (Ok a) old new b h m l = λ f calls e.
    ap (λ bases. calls_of (reverse bases) new.held.items new.marks.items) b ∙
    (ap (λ held. calls_of (reverse old.bases.items) held new.marks.items) h ∙
    (ap (λ marks. calls_of (reverse old.bases.items) old.held.items marks) m ∙ block_entered (reverse old.bases.items) old.held.items old.marks.items l f calls e))

-- ## Variables of the innermost call

set_past : {A : Type 0} (xs : List A) (n : ℕ) (x : A) → length xs ≤ n → set xs n x ≡ xs
set_past [] n x l = refl
set_past (y ∷ ys) zero x l = absurd (omega (arith, l))
set_past (y ∷ ys) (suc n) x l = ap (λ zs. y ∷ zs) (set_past ys n x (omega (arith, l)))

-- an open call with this that stands for its variables
abbrev open_with : Base → List Held → List (Option ℕ) → Open
open_with b held marks = record {
  function = plain_function b.function.now;
  depth = record { calls = b.calls; bytes = b.bytes };
  frame = record { held = held; opened = own marks };
  outer = around marks;
}

abbrev held_by : List Open → ℕ → Held → List Open
held_by [] n x = []
held_by (f ∷ calls) n x = with_frame f (holding_at f.frame n x) ∷ calls

-- something else stands for a variable
pub held_set : (r : List Base) (held : List Standing) (marks : List (Option ℕ)) (n place : ℕ) (h : Standing) → ((b : Base) (bases : List Base) → r ≡ b ∷ bases → HasVariable b (length held) n (Some place)) →
    (f : Open) (calls : List Open) → calls_of r held marks ≡ f ∷ calls → calls_of r (set held place h) marks ≡ with_frame f (holding_at f.frame n (held_of h)) ∷ calls
held_set [] held marks n place h at f calls e = absurd cc
held_set (b ∷ bases) held marks n place h at f calls e =
    let p : place ≡ b.held + n = (at b bases refl).0 in
    let m : List (Option ℕ) = reverse (drop b.marks marks) in
    ap (λ place. calls_of (b ∷ bases) (set held place h) marks) p ∙
    (ap (λ hs. open_with b hs m ∷ calls_of bases (take b.held (set held (b.held + n) h)) (take b.marks marks)) (ap (λ hs. map held_of hs) (drop-set-add b.held held n h) ∙ map-set held_of (drop b.held held) n h) ∙
    (ap (λ hs. open_with b (set (map held_of (drop b.held held)) n (held_of h)) m ∷ calls_of bases hs (take b.marks marks)) (take-set-le b.held held (b.held + n) h (omega arith)) ∙
    ap (λ calls. held_by calls n (held_of h)) e))

-- there is no such variable
pub held_kept : (r : List Base) (held : List Standing) (marks : List (Option ℕ)) (n : ℕ) (x : Held) → ((b : Base) (bases : List Base) → r ≡ b ∷ bases → HasVariable b (length held) n None) →
    (f : Open) (calls : List Open) → calls_of r held marks ≡ f ∷ calls → calls_of r held marks ≡ with_frame f (holding_at f.frame n x) ∷ calls
held_kept [] held marks n x at f calls e = absurd cc
held_kept (b ∷ bases) held marks n x at f calls e =
    let l : length held ≤ b.held + n = at b bases refl in
    let few : length (map held_of (drop b.held held)) ≤ n = rw (length-map (drop b.held held) held_of, length-drop b.held held) (omega (arith, l)) in
    sym (ap (λ hs. open_with b hs (reverse (drop b.marks marks)) ∷ calls_of bases (take b.held held) (take b.marks marks)) (set_past (map held_of (drop b.held held)) n x few)) ∙
    ap (λ calls. held_by calls n x) e

pub variable_at : (r : List Base) (b : Base) (rest : List Base) (held : List Standing) (marks : List (Option ℕ)) (n : ℕ) → r ≡ b ∷ rest →
    slice_get (innermost_variables (calls_of r held marks)) n ≡ slice_get (map plain_variable b.function.now.vars) n
variable_at r b rest held marks n e =
    ap (λ r. slice_get (innermost_variables (calls_of r held marks)) n) e

-- ## An object of the innermost block

abbrev owned_by : List Open → ℕ → List Open
owned_by [] o = []
owned_by (f ∷ calls) o = with_frame f (owning f.frame o) ∷ calls

pub object_owned : (r : List Base) (held : List Standing) (marks : List (Option ℕ)) (o : ℕ) → IsMarkedBy r (length marks) → (f : Open) (calls : List Open) → calls_of r held marks ≡ f ∷ calls →
    calls_of r held (marks ++ Some o ∷ []) ≡ with_frame f (owning f.frame o) ∷ calls
object_owned [] held marks o l f calls e = absurd l
object_owned (b ∷ bases) held marks o l f calls e =
    ap (λ m. open_of b (drop b.held held) m ∷ calls_of bases (take b.held held) (take b.marks (marks ++ Some o ∷ [])))
    (ap reverse (drop-append-le b.marks marks (Some o ∷ []) l) ∙ reverse-append (drop b.marks marks) (Some o ∷ [])) ∙
    (ap (λ m. open_of b (drop b.held held) (Some o ∷ reverse (drop b.marks marks)) ∷ calls_of bases (take b.held held) m) (take-append-le b.marks marks (Some o ∷ []) l) ∙ ap (λ calls. owned_by calls o) e)

-- a number after all other marks is an object of the innermost block
pub marked_owned : {A B : Type 0} (r : Result A B) (old new : Calls) (o : ℕ) → new.bases.items ≡ old.bases.items → new.held.items ≡ old.held.items → OnOk r (new.marks.items ≡ old.marks.items ++ Some o ∷ []) → IsMarked old →
    OnOk r ((f : Open) (calls : List Open) → calls_in old ≡ f ∷ calls → calls_in new ≡ with_frame f (owning f.frame o) ∷ calls)
marked_owned (Err e) old new o b h m l = tt
marked_owned (Ok a) old new o b h m l = λ f calls e.
    ap (λ bases. calls_of (reverse bases) new.held.items new.marks.items) b ∙
    (ap (λ held. calls_of (reverse old.bases.items) held new.marks.items) h ∙
    (ap (λ marks. calls_of (reverse old.bases.items) old.held.items marks) m ∙ object_owned (reverse old.bases.items) old.held.items old.marks.items o l f calls e))

-- a variable stands for an object that its block has opened
pub stands_owned : {A B : Type 0} (r : Result A B) (old between new : List Open) (n o : ℕ) → ((f : Open) (calls : List Open) → old ≡ f ∷ calls → between ≡ with_frame f (holding_at f.frame n (stands o)) ∷ calls) →
    OnOk r ((f : Open) (calls : List Open) → between ≡ f ∷ calls → new ≡ with_frame f (owning f.frame o) ∷ calls) →
    OnOk r ((f : Open) (calls : List Open) → old ≡ f ∷ calls → new ≡ with_frame f (standing_at f.frame n o) ∷ calls)
stands_owned (Err e) old between new n o h k = tt
stands_owned (Ok a) old between new n o h k = λ f calls e. k (with_frame f (holding_at f.frame n (stands o))) calls (h f calls e)
