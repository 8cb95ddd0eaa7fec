-- What library functions give, and that they take no steps back.
use Rattle.std.proofs.Common.{◌≡◌, ℕ, suc, ◌*◌, ◌≤◌, Bool, true, false, List, [], ◌∷◌, Option, Some, None, refl, subst, arith}
use Rattle.std.specs.Prelude.{ltb, leb, ◌&&◌, if◌then◌else◌, Result, Ok, Err}
use Rattle.p10_base.specs.declared.span.Span.{Span}
use Rattle.p10_int.specs.declared.operators.Stop.{Stop}
use Rattle.p10_core.specs.declared.typed.Library.{Library}
use Rattle.p10_core.specs.declared.typed.Library.TheVariants.{Assert, CAssert, Getchar, Putchar, Malloc, Calloc, Free}
use Rattle.p10_core.specs.Types.{PlainType}
use Rattle.p10_core.specs.Typed.{PlainProgram}
use Rattle.p10_meaning.specs.declared.pointers.Scalar.{Scalar}
use Rattle.p10_meaning.specs.declared.pointers.Scalar.TheVariants.{Pointer}
use Rattle.p10_meaning.specs.declared.pointers.Ptr.TheVariants.{Null}
use Rattle.p10_meaning.specs.declared.pointers.Cell.{Cell}
use Rattle.p10_meaning.specs.Pointers.{first_of}
use Rattle.p10_meaning.specs.Objects.{Object, allocated, release}
use Rattle.p10_meaning.specs.States.{State, AssertionFailed, Progress, gives, ends, or_undefined, counted}
use Rattle.p10_meaning.specs.Scalars.{is_true, pointer_of, unset_cells, zero_cells}
use Rattle.p10_meaning.specs.Values.{width, size, scalars, open_object, first_argument, next_byte, elements, pointee, is_denied, granted, library}
use Rattle.p10_core.specs.Sizes.{repeated}
use Rattle.p10_code.specs.ValueCode.{library_gives}
use Rattle.p10_code.proofs.ValueParts.{Sure}

-- what is given is there where it is sure, and no step comes back
abbrev IsFine : Bool → State → Progress (Option Scalar) → Type 0
IsFine sure w (gives x to) = (to.left ≤ w.left) × Sure sure x
IsFine sure w (ends end to) = Unit {0}

le_same : (n : ℕ) → n ≤ n
le_same n = omega arith

asserted_fine : (b : Bool) (span : Span) (w : State) → IsFine false w (if b then gives None w else ends (AssertionFailed span) w)
asserted_fine true span w = (le_same w.left, tt)
asserted_fine false span w = tt

byte_fine : (input : List ℕ) (w : State) → IsFine true w (next_byte input w)
byte_fine [] w = (le_same w.left, (_, refl))
byte_fine (byte ∷ input) w = (le_same w.left, (_, refl))

granted_fine : (b : Bool) (stride n : ℕ) (cells : List Cell) (w : State) → IsFine true w (if b then gives (Some (Pointer Null)) w else gives (Some (Pointer (first_of w.opened stride n))) (open_object allocated cells w))
granted_fine true stride n cells w = (le_same w.left, (_, refl))
granted_fine false stride n cells w = (le_same w.left, (_, refl))

requested_fine : (b : Bool) (stride n : ℕ) (cells : List Cell) (w : State) → IsFine true w (if b then granted stride n cells (record w { requests = suc w.requests }) else gives (Some (Pointer Null)) w)
requested_fine true stride n cells w = granted_fine (is_denied w.denied (suc w.requests)) stride n cells (record w { requests = suc w.requests })
requested_fine false stride n cells w = (le_same w.left, (_, refl))

released_fine : (r : Result (List Object) Stop) (span : Span) (w : State) → IsFine false w (or_undefined r span w (λ objects. gives None (record w { objects = objects })))
released_fine (Ok objects) span w = (le_same w.left, tt)
released_fine (Err stop) span w = tt

library_fine : (p : PlainProgram) (f : Library) (span : Span) (t : PlainType) (xs : List Scalar) (w : State) → IsFine (library_gives f) w (library p f span t xs w)
library_fine p Assert span t xs w = asserted_fine (is_true (first_argument xs)) span w
library_fine p CAssert span t xs w = (le_same w.left, (_, refl))
library_fine p Getchar span t xs w = byte_fine w.input w
library_fine p Putchar span t xs w = (le_same w.left, (_, refl))
library_fine p Malloc span t xs w =
    requested_fine (ltb 0 (elements xs * size p (pointee t)) && leb (elements xs * size p (pointee t)) 1048576) (width p (pointee t)) (elements xs) (unset_cells (repeated (elements xs) (scalars p (pointee t)))) (counted w)
library_fine p Calloc span t xs w =
    requested_fine (ltb 0 (elements xs * size p (pointee t)) && leb (elements xs * size p (pointee t)) 1048576) (width p (pointee t)) (elements xs) (zero_cells (repeated (elements xs) (scalars p (pointee t)))) (counted w)
library_fine p Free span t xs w = released_fine (release (counted w).objects (pointer_of (first_argument xs))) span (counted w)

pub library_left : (p : PlainProgram) (f : Library) (span : Span) (t : PlainType) (xs : List Scalar) (w w' : State) (x : Option Scalar) → library p f span t xs w ≡ gives x w' → w'.left ≤ w.left
library_left p f span t xs w w' x e = (subst (λ o. IsFine (library_gives f) w o) e (library_fine p f span t xs w)).0

pub library_sure : (p : PlainProgram) (f : Library) (span : Span) (t : PlainType) (xs : List Scalar) (w w' : State) (x : Option Scalar) → library p f span t xs w ≡ gives x w' → Sure (library_gives f) x
library_sure p f span t xs w w' x e = (subst (λ o. IsFine (library_gives f) w o) e (library_fine p f span t xs w)).1
