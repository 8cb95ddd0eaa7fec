-- Flags of numbers.
use Rattle.std.proofs.Common.{◌≡◌, ℕ, zero, suc, ◌<◌, ◌≤◌, nat_eq, Bool, true, false, ◌&&◌, ◌||◌, if◌then◌else◌, List, [], ◌∷◌, ◌++◌, length, slice_index_or, slice_set, refl, sym, ◌∙◌, ap, arith, inl, inr}
use Rattle.std.proofs.lemmas.Bool.Decides.{eqb_tells}
use Rattle.std.proofs.lemmas.List.{get_or-set_same, get_or-set_other}
use Rattle.p10_elab.specs.declared.outer_object.Sighting.{Sighting}
use Rattle.p10_elab.specs.Knowledge.{is_sighted}

-- a flag that isn't there is down
pub flag_past : (flags : List Bool) (n : ℕ) → length flags ≤ n → slice_index_or flags n false ≡ false
flag_past [] n h = refl
flag_past (b ∷ flags) zero h = absurd (omega (arith, h))
flag_past (b ∷ flags) (suc n) h = flag_past flags n (omega (arith, h))

-- one more flag that is down says nothing
pub flag_pushed : (flags : List Bool) (n : ℕ) → slice_index_or (flags ++ false ∷ []) n false ≡ slice_index_or flags n false
flag_pushed [] zero = refl
flag_pushed [] (suc n) = refl
flag_pushed (b ∷ flags) zero = refl
flag_pushed (b ∷ flags) (suc n) = flag_pushed flags n

or_true : (b : Bool) → true ≡ (b || true)
or_true true = refl
or_true false = refl

pub or_false : (b : Bool) → b ≡ (b || false)
or_false true = refl
or_false false = refl

-- a flag is put up
pub flag_set : (flags : List Bool) (k n : ℕ) → k < length flags → slice_index_or (slice_set flags k true) n false ≡ (slice_index_or flags n false || nat_eq k n)
flag_set flags k n h = elim (eqb_tells k n) as (λ _. slice_index_or (slice_set flags k true) n false ≡ (slice_index_or flags n false || nat_eq k n)) [
  | inl (e, same) ↦ ap (λ m. slice_index_or (slice_set flags k true) m false) (sym same)
      ∙ get_or-set_same flags k true false h
      ∙ or_true (slice_index_or flags n false)
      ∙ ap (λ b. slice_index_or flags n false || b) (sym e)
  | inr (e, differ) ↦ get_or-set_other flags k n true false (λ same. differ (sym same))
      ∙ or_false (slice_index_or flags n false)
      ∙ ap (λ b. slice_index_or flags n false || b) (sym e)
]

-- which objects are sighted after one more
pub sighted_more : (n : ℕ) (all : List Sighting) (s : Sighting) → is_sighted n (all ++ s ∷ []) ≡ (is_sighted n all || nat_eq s.number n)
sighted_more n [] s = refl_or (nat_eq s.number n)
  where
    refl_or : (b : Bool) → (b || false) ≡ (false || b)
    refl_or true = refl
    refl_or false = refl
sighted_more n (t ∷ all) s = ap (λ b. nat_eq t.number n || b) (sighted_more n all s) ∙ regrouped (nat_eq t.number n) (is_sighted n all) (nat_eq s.number n)
  where
    regrouped : (a b c : Bool) → (a || (b || c)) ≡ ((a || b) || c)
    regrouped true b c = refl
    regrouped false b c = refl

-- the flags say which objects are sighted, after one more or where memory runs out
pub flags_kept : (ok : Bool) (n : ℕ) (all new : List Sighting) (s : Sighting) (old flag : Bool) → new ≡ (if ok then all ++ s ∷ [] else all) → flag ≡ (old || (ok && nat_eq s.number n)) → old ≡ is_sighted n all → flag ≡ is_sighted n new
flags_kept true n all new s old flag e f h = f ∙ ap (λ b. b || nat_eq s.number n) h ∙ sym (sighted_more n all s) ∙ ap (is_sighted n) (sym e)
flags_kept false n all new s old flag e f h = f ∙ sym (or_false old) ∙ h ∙ ap (is_sighted n) (sym e)
