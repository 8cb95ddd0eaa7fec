-- A function's body begins in a frame that stands soundly, with an environment that knows parameters alone.
use Rattle.std.proofs.Common.{◌≡◌, ℕ, zero, suc, ◌+◌, ◌-◌, ◌<◌, ◌≤◌, cond, Bool, true, false, List, [], ◌∷◌, length, refl, sym, ◌∙◌, ap, subst, arith, Option, Some, None, slice_get}
use Rattle.std.specs.Prelude.{◌||◌, is_some}
use Rattle.std.specs.Bool.{nat_eq}
use Rattle.std.proofs.lemmas.Option.{same_Some, none-some}
use Rattle.std.proofs.lemmas.Bool.Decides.{nat_tests}
use Rattle.p10_core.specs.Typed.{PlainVariable, PlainFunction, PlainProgram}
use Rattle.p10_core.specs.WholePrograms.{is_among, numbers_from, declared_of, IsWholeFunction, IsWholeProgram}
use Rattle.p10_cert.specs.Claims.{Value, Claims}
use Rattle.p10_meaning.specs.declared.pointers.Scalar.{Scalar}
use Rattle.p10_meaning.specs.Pointers.{holding}
use Rattle.p10_meaning.specs.Objects.{declared}
use Rattle.p10_meaning.specs.States.{State}
use Rattle.p10_meaning.specs.Values.{holds, stands, open_object}
use Rattle.p10_meaning.specs.Calling.{with_variable, entered}
use Rattle.p10_absx.specs.Abstract.{Abstract}
use Rattle.p10_absx.specs.Environments.{known}
use Rattle.p10_absx.specs.Entering.{claims_on, entries_from, entry_of, entry_at}
use Rattle.p10_execution.specs.Scoping.{AreOnce, IsNumber, IsBefore}
use Rattle.p10_execution.specs.Standing.{AreInFrame}
use Rattle.p10_soundness.proofs.Arguments.{IsEntryOf, entry_is, from_none, IsParameter, parameter_is}

-- ## Numbers in a row

among_from : (m n count : ℕ) → is_among m (numbers_from n count) ≡ true → n ≤ m
among_from m n zero e = absurd cc
among_from m n (suc count) e = case (nat_eq m n) refl e (λ h. among_from m (n + 1) count h)
  where
    case : (b : Bool) → nat_eq m n ≡ b → (b || is_among m (numbers_from (n + 1) count)) ≡ true → (is_among m (numbers_from (n + 1) count) ≡ true → n + 1 ≤ m) → n ≤ m
    case true h e go = grind (arith, nat_tests, h)
    case false h e go = let k : n + 1 ≤ m = go e in omega (arith, k)

not_among : (n count : ℕ) → is_among n (numbers_from (n + 1) count) ≡ false
not_among n count = case (is_among n (numbers_from (n + 1) count)) refl
  where
    case : (b : Bool) → is_among n (numbers_from (n + 1) count) ≡ b → b ≡ false
    case false h = refl
    case true h = let k : n + 1 ≤ n = among_from n (n + 1) count h in absurd (omega (arith, k))

once_from : (n count : ℕ) → AreOnce (numbers_from n count)
once_from n zero = tt
once_from n (suc count) = (not_among n count, once_from (n + 1) count)

-- ## The environment at the entry

-- what is known there is known of a parameter
known_parameter : (m : ℕ) (claims : List Value) (vs : List PlainVariable) (n : ℕ) (o : Option Abstract) → known (entries_from 0 m claims vs) n ≡ o → is_some o ≡ true → (IsNumber vs n) × (n < m)
known_parameter m claims vs n None e s = absurd cc
known_parameter m claims vs n (Some a) e s =
    let i : IsEntryOf m claims vs n n a = subst (λ k. IsEntryOf m claims vs k n a) (from_none n) (entry_is 0 m claims vs n a e) in
    let q : IsParameter n m claims i.variable a = parameter_is n m claims i.variable a i.entry in
    (record { variable = i.variable; there = i.there; frame_is = q.frame; integer_is = q.integer }, q.among)

entries_before : (m count : ℕ) (claims : List Value) (vs : List PlainVariable) → IsBefore vs (numbers_from m count) (entries_from 0 m claims vs)
entries_before m count claims vs = record {
  knows = record { each = λ n s. (known_parameter m claims vs n (known (entries_from 0 m claims vs) n) refl s).0 };
  once = once_from m count;
  fresh = λ n e. case n e (is_some (known (entries_from 0 m claims vs) n)) refl;
}
  where
    case : (n : ℕ) → is_among n (numbers_from m count) ≡ true → (b : Bool) → is_some (known (entries_from 0 m claims vs) n) ≡ b → b ≡ false
    case n e false h = refl
    case n e true h =
        let low : m ≤ n = among_from n m count e in
        let below : n < m = (known_parameter m claims vs n (known (entries_from 0 m claims vs) n) refl h).1 in absurd (omega (arith, low, below))

-- none of the variables that a body declares is known yet
pub body_before : (p : PlainProgram) → IsWholeProgram p → (c : Claims) (k : ℕ) (f : PlainFunction) → slice_get p.functions k ≡ Some f → IsBefore f.variables (declared_of f.body) (entry_at p c k)
body_before p whole c k f there =
    let i : IsWholeFunction p k f = whole.functions k f there in
    subst (λ o. IsBefore f.variables (declared_of f.body) (entry_of (slice_get c.funcs k) o)) (sym there)
    (subst (λ ns. IsBefore f.variables ns (entries_from 0 f.parameters (claims_on (slice_get c.funcs k)) f.variables)) (sym i.declared_in_order)
    (entries_before f.parameters (length f.variables - f.parameters) (claims_on (slice_get c.funcs k)) f.variables))

-- ## The frame

-- no object stands for a frame variable of a new frame
held_there : (vs : List PlainVariable) (xs : List Scalar) (w : State) (n : ℕ) (v : PlainVariable) (o : ℕ) → slice_get vs n ≡ Some v → v.frame ≡ true → slice_get (entered vs xs w).frame.held n ≡ Some (stands o) → ⊥
held_there [] xs w n v o e f h = none-some _ e
held_there (u ∷ vs) [] w zero v o e f h = absurd cc
held_there (u ∷ vs) [] w (suc n) v o e f h = held_there vs [] w n v o e f h
held_there (u ∷ vs) (x ∷ xs) w zero v o e f h = at u.frame (ap (λ (v : PlainVariable). v.frame) (same_Some _ _ e) ∙ f) h
  where
    at : (b : Bool) → b ≡ true → slice_get (cond b (with_variable (holds (holding x)) (entered vs xs w).frame.opened (entered vs xs w))
        (with_variable (stands w.opened) (w.opened ∷ (entered vs xs (open_object declared (holding x ∷ []) w)).frame.opened) (entered vs xs (open_object declared (holding x ∷ []) w)))).frame.held 0 ≡ Some (stands o) → ⊥
    at true b h = absurd cc
    at false b h = absurd cc
held_there (u ∷ vs) (x ∷ xs) w (suc n) v o e f h = at (λ h. held_there vs xs w n v o e f h) (λ h. held_there vs xs (open_object declared (holding x ∷ []) w) n v o e f h) u.frame h
  where
    at : (slice_get (entered vs xs w).frame.held n ≡ Some (stands o) → ⊥) → (slice_get (entered vs xs (open_object declared (holding x ∷ []) w)).frame.held n ≡ Some (stands o) → ⊥) → (b : Bool) →
        slice_get (cond b (with_variable (holds (holding x)) (entered vs xs w).frame.opened (entered vs xs w))
        (with_variable (stands w.opened) (w.opened ∷ (entered vs xs (open_object declared (holding x ∷ []) w)).frame.opened) (entered vs xs (open_object declared (holding x ∷ []) w)))).frame.held (suc n) ≡ Some (stands o) → ⊥
    at a b true h = a h
    at a b false h = b h

pub entered_in_frame : (vs : List PlainVariable) (xs : List Scalar) (w : State) → AreInFrame vs (entered vs xs w).frame.held
entered_in_frame vs xs w = record { no_object = λ n v o e f h. held_there vs xs w n v o e f h }
