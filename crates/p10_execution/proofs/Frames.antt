-- What describes a frame goes on to do so where one of its variables changes.
use Rattle.std.proofs.Common.{◌≡◌, ℕ, zero, suc, Bool, true, false, List, [], ◌∷◌, refl, ◌∙◌, ap, sym, subst, Option, Some, None, inl, inr, ℤ, arith}
use Rattle.std.specs.Prelude.{slice_get, slice_set, is_some, nat_eq, ◌⊎◌}
use Rattle.std.proofs.lemmas.Option.{same_Some, none-some}
use Rattle.std.proofs.lemmas.Int.{ints}
use Rattle.std.proofs.lemmas.Bool.{eqb-true, eqb-false}
use Rattle.p10_int.specs.declared.types.IntType.{IntType}
use Rattle.p10_int.specs.Types.{InRange}
use Rattle.p10_range.specs.Ranges.{IsMember}
use Rattle.p10_range.specs.Rows.{values_of}
use Rattle.p10_core.specs.Types.{PlainType, void, integer, pointer, array, structure}
use Rattle.p10_core.specs.Rows.{is_integer}
use Rattle.p10_core.specs.Constants.{integer_of}
use Rattle.p10_core.specs.Typed.{PlainVariable, PlainProgram}
use Rattle.p10_meaning.specs.declared.pointers.Scalar.{Scalar}
use Rattle.p10_meaning.specs.declared.pointers.Scalar.TheVariants.{Int, Pointer}
use Rattle.p10_meaning.specs.Values.{Held, holds, stands, absent}
use Rattle.p10_meaning.specs.Sound.{Kind, Fits, MaybeFits, VariableFits, FrameFits}
use Rattle.p10_meaning.proofs.Fitting.{frame_get}
use Rattle.p10_absx.specs.Abstract.{Abstract, whole_type}
use Rattle.p10_absx.specs.Environments.{Environment, known, learned}
use Rattle.p10_absx.specs.Describing.{number_in, held_number, set_to, HoldsUnset, DescribesOne, DescribesVariable, Describes}
use Rattle.p10_absx.proofs.Entries.{get_other}
use Rattle.p10_execution.specs.Scoping.{IsNumber}
use Rattle.p10_execution.specs.Standing.{AreInFrame}
use Rattle.p10_execution.proofs.Entries.{known_learned, known_some}

-- ## Variables of a frame

-- something stands for each variable of a frame that fits
pub held_there : (p : PlainProgram) (ks : List Kind) (variables : List PlainVariable) (held : List Held) (n : ℕ) (v : PlainVariable) → FrameFits p ks variables held → slice_get variables n ≡ Some v → is_some (slice_get held n) ≡ true
held_there p ks [] held n v fits e = absurd (none-some _ e)
held_there p ks (u ∷ variables) [] n v fits e = absurd fits
held_there p ks (u ∷ variables) (h ∷ held) zero v fits e = refl
held_there p ks (u ∷ variables) (h ∷ held) (suc n) v fits e = held_there p ks variables held n v fits.1 e

pub set_here : (held : List Held) (n : ℕ) (h : Held) → is_some (slice_get held n) ≡ true → slice_get (slice_set held n h) n ≡ Some h
set_here [] n h e = absurd cc
set_here (x ∷ held) zero h e = refl
set_here (x ∷ held) (suc n) h e = set_here held n h e

-- a number that an integer variable holds is one of its type
pub number_fits : (p : PlainProgram) (ks : List Kind) (t : PlainType) (x : Scalar) → is_integer t ≡ true → Fits p ks t x → (z : ℤ) × (x ≡ Int z) × InRange (integer_of t) z
number_fits p ks (integer c i) (Int z) e f = (z, refl, f)
number_fits p ks (integer c i) (Pointer q) e f = absurd f
number_fits p ks (void c) x e f = absurd cc
number_fits p ks (pointer c t) x e f = absurd cc
number_fits p ks (array c t n) x e f = absurd cc
number_fits p ks (structure c n) x e f = absurd cc

pub member_of_type : (i : IntType) (z : ℤ) → InRange i z → IsMember (values_of i) z
member_of_type i z r = record { above = r.low; below = r.high }

held_in_range : (p : PlainProgram) (ks : List Kind) (v : PlainVariable) (h : Held) (z : ℤ) → is_integer v.type ≡ true → VariableFits p ks v h → held_number (Some h) ≡ Some z → IsMember (values_of (integer_of v.type)) z
held_in_range p ks v (stands o) z e fits q = absurd (none-some _ q)
held_in_range p ks v absent z e fits q = absurd (none-some _ q)
held_in_range p ks v (holds cell) z e fits q = of cell.value fits q
  where
    of : (o : Option Scalar) → MaybeFits p ks v.type o → number_in o ≡ Some z → IsMember (values_of (integer_of v.type)) z
    of None f q = absurd (none-some _ q)
    of (Some x) f q =
        let n = number_fits p ks v.type x e f in
        let same : n.0 ≡ z = same_Some _ _ (sym (ap (λ y. number_in (Some y)) n.1) ∙ q) in
        subst (λ y. IsMember (values_of (integer_of v.type)) y) same (member_of_type (integer_of v.type) n.0 n.2)

pub number_in_range : (p : PlainProgram) (ks : List Kind) (variables : List PlainVariable) (held : List Held) (n : ℕ) (v : PlainVariable) (z : ℤ) → FrameFits p ks variables held → slice_get variables n ≡ Some v → is_integer v.type ≡ true → set_to held n ≡ Some z →
    IsMember (values_of (integer_of v.type)) z
number_in_range p ks variables held n v z fits there e q = by_case (slice_get held n) refl q
  where
    by_case : (o : Option Held) → slice_get held n ≡ o → held_number o ≡ Some z → IsMember (values_of (integer_of v.type)) z
    by_case None s q = absurd (none-some _ q)
    by_case (Some h) s q = held_in_range p ks v h z e (frame_get p ks variables held n v h fits there s) q

-- ## Descriptions of one variable

-- what stands for the variable stays
pub same_held : (variables : List PlainVariable) (head held after : List Held) (n : ℕ) (a : Abstract) → slice_get after n ≡ slice_get held n → DescribesVariable variables head held n a → DescribesVariable variables head after n a
same_held variables head held after n a e v = record {
  variable = v.variable;
  there = v.there;
  frame = v.frame;
  no_object = λ o q. v.no_object o (sym e ∙ q);
  describes = subst (λ o. DescribesOne head (values_of (integer_of v.variable.type)) n a (held_number o)) (sym e) v.describes;
}

-- a frame variable that is described by what it holds
pub described_by : (variables : List PlainVariable) (head held : List Held) (n : ℕ) (a : Abstract) (number : IsNumber variables n) → AreInFrame variables held → DescribesOne head (values_of (integer_of number.variable.type)) n a (set_to held n) →
    DescribesVariable variables head held n a
described_by variables head held n a number in_frame d = record {
  variable = number.variable;
  there = number.there;
  frame = number.frame_is;
  no_object = λ o q. in_frame.no_object n number.variable o number.there number.frame_is q;
  describes = d;
}

-- ## Changes

-- a variable changes of which nothing is known
pub unknown_set : (variables : List PlainVariable) (env : Environment) (head held : List Held) (n : ℕ) (h : Held) → is_some (known env n) ≡ false → Describes variables env head held → Describes variables env head (slice_set held n h)
unknown_set variables env head held n h none d = record { each = λ m a e. by_case m a e (nat_eq m n) refl }
  where
    by_case : (m : ℕ) (a : Abstract) → known env m ≡ Some a → (b : Bool) → nat_eq m n ≡ b → DescribesVariable variables head (slice_set held n h) m a
    by_case m a e true q = let yes : is_some (known env n) ≡ true = ap (λ k. is_some (known env k)) (sym (eqb-true m n q)) ∙ known_some (known env m) a e in absurd cc
    by_case m a e false q = same_held variables head held (slice_set held n h) m a (get_other held n m h (eqb-false m n q)) (d.each m a e)

-- a variable changes, and what is learned of it describes what it holds then
pub learned_set : (variables : List PlainVariable) (env : Environment) (head held : List Held) (n : ℕ) (h : Held) (a : Abstract) (number : IsNumber variables n) → AreInFrame variables (slice_set held n h) → is_some (slice_get held n) ≡ true →
    DescribesOne head (values_of (integer_of number.variable.type)) n a (held_number (Some h)) → Describes variables env head held → Describes variables (learned env n a) head (slice_set held n h)
learned_set variables env head held n h a number in_frame there one d = record { each = λ m x e. by_case m x (known_learned env n m a x e) }
  where
    here : DescribesVariable variables head (slice_set held n h) n a
    here = described_by variables head (slice_set held n h) n a number in_frame
        (subst (λ o. DescribesOne head (values_of (integer_of number.variable.type)) n a (held_number o)) (sym (set_here held n h there)) one)

    by_case : (m : ℕ) (x : Abstract) → ((m ≡ n) × (x ≡ a)) ⊎ ((m ≡ n → ⊥) × (known env m ≡ Some x)) → DescribesVariable variables head (slice_set held n h) m x
    by_case m x (inl p) = subst (λ (k : ℕ). DescribesVariable variables head (slice_set held n h) k x) (sym p.0) (subst (λ y. DescribesVariable variables head (slice_set held n h) n y) (sym p.1) here)
    by_case m x (inr p) = same_held variables head held (slice_set held n h) m x (get_other held n m h p.0) (d.each m x p.1)

-- any value of its type describes a variable that is unset
pub whole_unset : (kind : IntType) (n : ℕ) → HoldsUnset (values_of kind) n (whole_type kind)
whole_unset kind n = record { range = record { from_low = omega (arith, ints); to_high = omega (arith, ints) }; offset = tt }
