-- The frame of a call is described by the environment at its function's entry.
use Rattle.std.proofs.Common.{◌≡◌, ◌≢◌, ℕ, zero, suc, ◌+◌, ◌<◌, ltb, ◌&&◌, if◌then◌else◌, cond, Bool, true, false, List, [], ◌∷◌, map, take, refl, sym, ◌∙◌, ap, subst, arith, Option, Some, None, slice_get, ℤ}
use Rattle.std.proofs.lemmas.Option.{same_Some, none-some}
use Rattle.std.proofs.lemmas.Bool.Decides.{nat_tests}
use Rattle.p10_int.specs.declared.types.IntType.{IntType}
use Rattle.p10_int.specs.Types.{InRange}
use Rattle.p10_range.specs.Ranges.{Interval, IsMember}
use Rattle.p10_range.specs.Rows.{values_of}
use Rattle.p10_core.specs.Types.{PlainType, void, integer, pointer, array, structure}
use Rattle.p10_core.specs.Rows.{is_integer}
use Rattle.p10_core.specs.Constants.{integer_of}
use Rattle.p10_core.specs.Typed.{PlainVariable, PlainProgram}
use Rattle.p10_cert.specs.Claims.{Value, Number, Address, Nothing}
use Rattle.p10_meaning.specs.declared.pointers.Scalar.{Scalar}
use Rattle.p10_meaning.specs.declared.pointers.Scalar.TheVariants.{Int, Pointer}
use Rattle.p10_meaning.specs.Pointers.{holding}
use Rattle.p10_meaning.specs.Objects.{declared}
use Rattle.p10_meaning.specs.States.{State}
use Rattle.p10_meaning.specs.Values.{Held, holds, stands, open_object}
use Rattle.p10_meaning.specs.Calling.{with_variable, entered}
use Rattle.p10_meaning.specs.Sound.{Kind, Fits, ScalarsFit}
use Rattle.p10_absx.specs.Abstract.{Abstract, only_range}
use Rattle.p10_absx.specs.Environments.{known}
use Rattle.p10_absx.specs.Entering.{parameter_claimed, entry_for, entries_from}
use Rattle.p10_absx.specs.Describing.{held_number, DescribesOne, DescribesVariable, Describes}
use Rattle.p10_evaluation.specs.Claimed.{ScalarLies, ArgumentsLie}

-- ## What an entry of the environment is

-- an entry is made for an integer frame variable among the first ones
pub record IsEntryOf (m : ℕ) (claims : List Value) (vs : List PlainVariable) (n k : ℕ) (a : Abstract) : Type 0 where
  pub variable : PlainVariable
  pub there : slice_get vs k ≡ Some variable
  pub entry : entry_for n m claims variable ≡ Some a

add_suc : (n k : ℕ) → suc n + k ≡ n + suc k
add_suc n k = omega arith

pub entry_is : (n m : ℕ) (claims : List Value) (vs : List PlainVariable) (k : ℕ) (a : Abstract) → known (entries_from n m claims vs) k ≡ Some a → IsEntryOf m claims vs (n + k) k a
entry_is n m claims [] k a e = absurd (none-some _ e)
entry_is n m claims (v ∷ vs) zero a e = record { variable = v; there = refl; entry = subst (λ i. entry_for i m claims v ≡ Some a) (plain n) e }
  where
    plain : (n : ℕ) → n ≡ n + 0
    plain n = omega arith
entry_is n m claims (v ∷ vs) (suc k) a e =
    let h : IsEntryOf m claims vs (suc n + k) k a = entry_is (suc n) m claims vs k a e in
    record { variable = h.variable; there = h.there; entry = subst (λ i. entry_for i m claims h.variable ≡ Some a) (add_suc n k) h.entry }

-- what that says of the variable
pub record IsParameter (n m : ℕ) (claims : List Value) (v : PlainVariable) (a : Abstract) : Type 0 where
  pub among : n < m
  pub frame : v.frame ≡ true
  pub integer : is_integer v.type ≡ true
  pub is : only_range (parameter_claimed (integer_of v.type) (slice_get claims n)) ≡ a

pub parameter_is : (n m : ℕ) (claims : List Value) (v : PlainVariable) (a : Abstract) → entry_for n m claims v ≡ Some a → IsParameter n m claims v a
parameter_is n m claims v a e = at (ltb n m) v.frame (is_integer v.type) refl refl refl e
  where
    at : (b c d : Bool) → ltb n m ≡ b → v.frame ≡ c → is_integer v.type ≡ d →
        (if b && c && d then Some (only_range (parameter_claimed (integer_of v.type) (slice_get claims n))) else None) ≡ Some a → IsParameter n m claims v a
    at true true true below frame kind e = record { among = grind (arith, nat_tests, below); frame = frame; integer = kind; is = same_Some _ _ e }
    at true true false below frame kind e = absurd (none-some _ e)
    at true false d below frame kind e = absurd (none-some _ e)
    at false c d below frame kind e = absurd (none-some _ e)

-- ## What stands for a parameter

-- the argument for a variable among the first ones fits its type
pub record HasArgument (p : PlainProgram) (ks : List Kind) (xs : List Scalar) (v : PlainVariable) (n : ℕ) : Type 0 where
  pub scalar : Scalar
  pub there : slice_get xs n ≡ Some scalar
  pub fits : Fits p ks v.type scalar

argument_there : (p : PlainProgram) (ks : List Kind) (m : ℕ) (vs : List PlainVariable) (xs : List Scalar) (n : ℕ) (v : PlainVariable) → ScalarsFit p ks (map (λ (v : PlainVariable). v.type) (take m vs)) xs → n < m → slice_get vs n ≡ Some v →
    HasArgument p ks xs v n
argument_there p ks zero vs xs n v f below e = absurd (omega (arith, below))
argument_there p ks (suc m) [] xs n v f below e = absurd (none-some _ e)
argument_there p ks (suc m) (u ∷ vs) [] n v f below e = absurd f
argument_there p ks (suc m) (u ∷ vs) (x ∷ xs) zero v f below e = record { scalar = x; there = refl; fits = subst (λ (v : PlainVariable). Fits p ks v.type x) (same_Some _ _ e) f.0 }
argument_there p ks (suc m) (u ∷ vs) (x ∷ xs) (suc n) v f below e =
    let h : HasArgument p ks xs v n = argument_there p ks m vs xs n v f.1 (omega (arith, below)) e in record { scalar = h.scalar; there = h.there; fits = h.fits }

argument_held : (vs : List PlainVariable) (xs : List Scalar) (w : State) (n : ℕ) (v : PlainVariable) (x : Scalar) → slice_get vs n ≡ Some v → slice_get xs n ≡ Some x → v.frame ≡ true →
    slice_get (entered vs xs w).frame.held n ≡ Some (holds (holding x))
argument_held [] xs w n v x e d frame = absurd (none-some _ e)
argument_held (u ∷ vs) [] w n v x e d frame = absurd (none-some _ d)
argument_held (u ∷ vs) (y ∷ xs) w zero v x e d frame = at u.frame (ap (λ (v : PlainVariable). v.frame) (same_Some _ _ e) ∙ frame)
  where
    at : (b : Bool) → b ≡ true → slice_get (cond b (with_variable (holds (holding y)) (entered vs xs w).frame.opened (entered vs xs w))
        (with_variable (stands w.opened) (w.opened ∷ (entered vs xs (open_object declared (holding y ∷ []) w)).frame.opened) (entered vs xs (open_object declared (holding y ∷ []) w)))).frame.held 0 ≡ Some (holds (holding x))
    at true h = ap (λ x. Some (holds (holding x))) (same_Some _ _ d)
    at false h = absurd cc
argument_held (u ∷ vs) (y ∷ xs) w (suc n) v x e d frame = at (argument_held vs xs w n v x e d frame) (argument_held vs xs (open_object declared (holding y ∷ []) w) n v x e d frame) u.frame
  where
    at : slice_get (entered vs xs w).frame.held n ≡ Some (holds (holding x)) → slice_get (entered vs xs (open_object declared (holding y ∷ []) w)).frame.held n ≡ Some (holds (holding x)) → (b : Bool) → slice_get (cond b (with_variable (holds (holding y)) (entered vs xs w).frame.opened (entered vs xs w))
        (with_variable (stands w.opened) (w.opened ∷ (entered vs xs (open_object declared (holding y ∷ []) w)).frame.opened) (entered vs xs (open_object declared (holding y ∷ []) w)))).frame.held (suc n) ≡ Some (holds (holding x))
    at a b true = a
    at a b false = b

-- an argument is as claimed
abbrev IsAsClaimed : Scalar → Value → Type 0
IsAsClaimed x (Number r) = ScalarLies r x
IsAsClaimed x claim = Unit {0}

-- what is claimed of an argument holds of it
argument_lies : (claims : List Value) (xs : List Scalar) (n : ℕ) (x : Scalar) → ArgumentsLie claims xs → slice_get xs n ≡ Some x → (r : Interval) → slice_get claims n ≡ Some (Number r) → ScalarLies r x
argument_lies [] xs n x lie e r d = absurd (none-some _ d)
argument_lies (c ∷ claims) [] n x lie e r d = absurd (none-some _ e)
argument_lies (Number s ∷ claims) (y ∷ xs) zero x lie e r d = subst (λ c. IsAsClaimed x c) (same_Some _ _ d) (subst (λ x. ScalarLies s x) (same_Some _ _ e) lie.0)
argument_lies (Address ∷ claims) (y ∷ xs) zero x lie e r d = absurd cc
argument_lies (Nothing ∷ claims) (y ∷ xs) zero x lie e r d = absurd cc
argument_lies (Number s ∷ claims) (y ∷ xs) (suc n) x lie e r d = argument_lies claims xs n x lie.1 e r d
argument_lies (Address ∷ claims) (y ∷ xs) (suc n) x lie e r d = argument_lies claims xs n x lie e r d
argument_lies (Nothing ∷ claims) (y ∷ xs) (suc n) x lie e r d = argument_lies claims xs n x lie e r d

-- ## The environment describes the frame

-- a number that fits an integer type and lies in what is claimed lies in the entry's range
number_lies : (kind : IntType) (claim : Option Value) (z : ℤ) → InRange kind z → ((r : Interval) → claim ≡ Some (Number r) → IsMember r z) → IsMember (parameter_claimed kind claim) z
number_lies kind None z i h = record { above = i.low; below = i.high }
number_lies kind (Some (Number r)) z i h = h r refl
number_lies kind (Some Address) z i h = record { above = i.low; below = i.high }
number_lies kind (Some Nothing) z i h = record { above = i.low; below = i.high }

-- a variable that holds a number of the entry's range is described
described : (variables : List PlainVariable) (head held : List Held) (n : ℕ) (v : PlainVariable) (r : Interval) (z : ℤ) → slice_get variables n ≡ Some v → v.frame ≡ true → slice_get held n ≡ Some (holds (holding (Int z))) → IsMember r z →
    DescribesVariable variables head held n (only_range r)
described variables head held n v r z there frame stand m = record {
  variable = v;
  there = there;
  frame = frame;
  no_object = λ o e. apart o (sym stand ∙ e);
  describes = subst (λ (o : Option Held). DescribesOne head (values_of (integer_of v.type)) n (only_range r) (held_number o)) (sym stand) (record { member = m; offset = tt });
}
  where
    apart : (o : ℕ) → Some (holds (holding (Int z))) ≢ Some (stands o)
    apart o e = absurd cc

scalar_described : (p : PlainProgram) (ks : List Kind) (variables : List PlainVariable) (head held : List Held) (n m : ℕ) (claims : List Value) (v : PlainVariable) (a : Abstract) (t : PlainType) (x : Scalar) → v.type ≡ t → slice_get variables n ≡ Some v → IsParameter n m claims v a →
    Fits p ks t x → slice_get held n ≡ Some (holds (holding x)) → ((r : Interval) → slice_get claims n ≡ Some (Number r) → ScalarLies r x) → DescribesVariable variables head held n a
scalar_described p ks variables head held n m claims v a (integer c kind) (Int z) e there i f stand lies =
    subst (λ a. DescribesVariable variables head held n a) i.is
    (described variables head held n v (parameter_claimed (integer_of v.type) (slice_get claims n)) z there i.frame stand
    (subst (λ t. IsMember (parameter_claimed (integer_of t) (slice_get claims n)) z) (sym e) (number_lies kind (slice_get claims n) z f lies)))
scalar_described p ks variables head held n m claims v a (integer c kind) (Pointer q) e there i f stand lies = absurd f
scalar_described p ks variables head held n m claims v a (pointer c t) x e there i f stand lies = absurd (wrong (sym i.integer ∙ ap is_integer e))
  where
    wrong : true ≢ is_integer (pointer c t)
    wrong e = absurd cc
scalar_described p ks variables head held n m claims v a (void c) x e there i f stand lies = absurd (wrong (sym i.integer ∙ ap is_integer e))
  where
    wrong : true ≢ is_integer (void c)
    wrong e = absurd cc
scalar_described p ks variables head held n m claims v a (array c t s) x e there i f stand lies = absurd (wrong (sym i.integer ∙ ap is_integer e))
  where
    wrong : true ≢ is_integer (array c t s)
    wrong e = absurd cc
scalar_described p ks variables head held n m claims v a (structure c s) x e there i f stand lies = absurd (wrong (sym i.integer ∙ ap is_integer e))
  where
    wrong : true ≢ is_integer (structure c s)
    wrong e = absurd cc

pub from_none : (n : ℕ) → 0 + n ≡ n
from_none n = omega arith

pub entry_describes : (p : PlainProgram) (ks : List Kind) (m : ℕ) (claims : List Value) (vs : List PlainVariable) (xs : List Scalar) (w : State) (head : List Held) → ScalarsFit p ks (map (λ (v : PlainVariable). v.type) (take m vs)) xs → ArgumentsLie claims xs →
    Describes vs (entries_from 0 m claims vs) head (entered vs xs w).frame.held
entry_describes p ks m claims vs xs w head f lie = record {
  each = λ n a e.
      let i : IsEntryOf m claims vs n n a = subst (λ k. IsEntryOf m claims vs k n a) (from_none n) (entry_is 0 m claims vs n a e) in
      let q : IsParameter n m claims i.variable a = parameter_is n m claims i.variable a i.entry in
      let x : HasArgument p ks xs i.variable n = argument_there p ks m vs xs n i.variable f q.among i.there in
      scalar_described p ks vs head (entered vs xs w).frame.held n m claims i.variable a i.variable.type x.scalar refl i.there q x.fits
      (argument_held vs xs w n i.variable x.scalar i.there x.there q.frame) (λ r d. argument_lies claims xs n x.scalar lie x.there r d);
}
