-- Environments at the head of a loop and after a loop describe the frames there.
use Rattle.std.proofs.Common.{◌≡◌, ℕ, zero, suc, ◌+◌, Bool, true, false, List, [], ◌∷◌, refl, ◌∙◌, sym, subst, Option, Some, None, ℤ, pos, ◌-ℤ◌, arith}
use Rattle.std.specs.Prelude.{slice_get, is_some, if◌then◌else◌}
use Rattle.std.specs.Option.{option_map}
use Rattle.std.proofs.lemmas.Option.{same_Some, none-some}
use Rattle.std.proofs.lemmas.Int.{ints}
use Rattle.p10_range.specs.Ranges.{Interval, IsMember, IsWithin, is_within}
use Rattle.p10_range.specs.Rows.{values_of, only_zero}
use Rattle.p10_core.specs.Constants.{integer_of}
use Rattle.p10_core.specs.Typed.{PlainVariable, PlainProgram}
use Rattle.p10_cert.specs.Claims.{Loop}
use Rattle.p10_meaning.specs.Values.{Held}
use Rattle.p10_meaning.specs.Sound.{Kind, FrameFits}
use Rattle.p10_absx.specs.Abstract.{Abstract, whole_type}
use Rattle.p10_absx.specs.Environments.{Environment, known}
use Rattle.p10_absx.specs.Describing.{held_number, set_to, DescribesOne, DescribesVariable, Describes}
use Rattle.p10_pass.specs.Scopes.{changed_each, assigned_forgotten, offset_in, offsets_restored}
use Rattle.p10_pass.specs.Claiming.{range_claimed, own_offset, head_of, ranges_hold}
use Rattle.p10_evaluation.proofs.Operating.{both_true, within_of, in_within}
use Rattle.p10_execution.specs.Scoping.{IsNumber, KnowsNumbers}
use Rattle.p10_execution.specs.Standing.{AreInFrame}
use Rattle.p10_execution.proofs.Entries.{changed_at, changed_knows, known_some}
use Rattle.p10_execution.proofs.Frames.{number_in_range, same_held, described_by, whole_unset}

-- ## Entries that are changed by number and type

-- an entry of an environment whose entries are changed
pub record IsChanged (f : ℕ → PlainVariable → Abstract → Abstract) (env : Environment) (n : ℕ) (v : PlainVariable) (x : Abstract) : Type 0 where
  pub before : Abstract
  pub there : known env n ≡ Some before
  pub is : f n v before ≡ x

pub changed_is : (f : ℕ → PlainVariable → Abstract → Abstract) (variables : List PlainVariable) (env : Environment) (n : ℕ) (v : PlainVariable) (x : Abstract) → slice_get variables n ≡ Some v → known (changed_each f 0 variables env) n ≡ Some x → IsChanged f env n v x
changed_is f variables env n v x there e = by_case (known env n) refl (sym (changed_at f 0 variables env n n v there (none_first n)) ∙ e)
  where
    none_first : (n : ℕ) → 0 + n ≡ n
    none_first n = omega arith

    by_case : (o : Option Abstract) → known env n ≡ o → option_map (f n v) o ≡ Some x → IsChanged f env n v x
    by_case None s q = absurd (none-some _ q)
    by_case (Some a) s q = record { before = a; there = s; is = same_Some _ _ q }

-- it was known before
pub changed_from : (f : ℕ → PlainVariable → Abstract → Abstract) (variables : List PlainVariable) (env : Environment) (n : ℕ) (x : Abstract) → known (changed_each f 0 variables env) n ≡ Some x → is_some (known env n) ≡ true
changed_from f variables env n x e = sym (changed_knows f 0 variables env n) ∙ known_some (known (changed_each f 0 variables env) n) x e

some_is : (o : Option Abstract) → is_some o ≡ true → (a : Abstract) × (o ≡ Some a)
some_is None e = absurd cc
some_is (Some a) e = (a, refl)

-- ## The head of a loop

claimed_at : (claim : Loop) (i : ℕ) (variables : List PlainVariable) (env : Environment) (n j : ℕ) (v : PlainVariable) (a : Abstract) → ranges_hold claim i variables env ≡ true → slice_get variables n ≡ Some v → known env n ≡ Some a → i + n ≡ j →
    is_within a.range (range_claimed claim.vars j (integer_of v.type)) ≡ true
claimed_at claim i [] env n j v a h there e s = absurd (none-some _ there)
claimed_at claim i (u ∷ variables) [] n j v a h there e s = absurd (none-some _ e)
claimed_at claim i (u ∷ variables) (None ∷ env) zero j v a h there e s = absurd (none-some _ e)
claimed_at claim i (u ∷ variables) (Some b ∷ env) zero j v a h there e s =
    let both = both_true (is_within b.range (range_claimed claim.vars i (integer_of u.type))) (ranges_hold claim (suc i) variables env) h in
    let p : u ≡ v = same_Some _ _ there in
    let q : b ≡ a = same_Some _ _ e in
    let r : i ≡ j = omega (arith, s) in
    subst (λ (k : ℕ). is_within a.range (range_claimed claim.vars k (integer_of v.type)) ≡ true) r
    (subst (λ (u : PlainVariable). is_within a.range (range_claimed claim.vars i (integer_of u.type)) ≡ true) p
    (subst (λ (b : Abstract). is_within b.range (range_claimed claim.vars i (integer_of u.type)) ≡ true) q both.0))
claimed_at claim i (u ∷ variables) (None ∷ env) (suc n) j v a h there e s = claimed_at claim (suc i) variables env n j v a h there e (omega (arith, s))
claimed_at claim i (u ∷ variables) (Some b ∷ env) (suc n) j v a h there e s =
    let both = both_true (is_within b.range (range_claimed claim.vars i (integer_of u.type))) (ranges_hold claim (suc i) variables env) h in
    claimed_at claim (suc i) variables env n j v a both.1 there e (omega (arith, s))

-- a number differs from itself by 0
own_member : (z : ℤ) → IsMember only_zero (z -ℤ z)
own_member z = record { above = omega (arith, ints); below = omega (arith, ints) }

zero_member : IsMember only_zero (pos 0)
zero_member = record { above = omega (arith, ints); below = omega (arith, ints) }

within_trans : (a b c : Interval) → IsWithin a b → IsWithin b c → IsWithin a c
within_trans a b c h k = record { from_low = omega (arith, ints, h.from_low, k.from_low); to_high = omega (arith, ints, h.to_high, k.to_high) }

-- at the head each variable differs from itself by 0
at_head : (head held : List Held) (all r : Interval) (n : ℕ) (a : Abstract) (o : Option ℤ) → set_to held n ≡ o → IsWithin a.range r → DescribesOne head all n a o → DescribesOne held all n (record { range = r; offset = Some (own_offset n) }) o
at_head head held all r n a (Some z) e w d = record { member = in_within a.range r z w d.member; offset = record { then = z; was = e; difference = own_member z } }
at_head head held all r n a None e w d = record { range = within_trans all a.range r d.range w; offset = record { about = refl; zero = zero_member } }

-- where the claimed ranges hold, the environment at the head describes the frame, which is then that of the head
pub head_describes : (claim : Loop) (variables : List PlainVariable) (entry env : Environment) (head held : List Held) → ((n : ℕ) → is_some (known entry n) ≡ true → is_some (known env n) ≡ true) → ranges_hold claim 0 variables env ≡ true → Describes variables env head held →
    Describes variables (head_of claim variables entry) held held
head_describes claim variables entry env head held same h d = record { each = each }
  where
    none_first : (n : ℕ) → 0 + n ≡ n
    none_first n = omega arith

    each : (n : ℕ) (x : Abstract) → known (head_of claim variables entry) n ≡ Some x → DescribesVariable variables held held n x
    each n x e =
        let a = some_is (known env n) (same n (changed_from _ variables entry n x e)) in
        let v : DescribesVariable variables head held n a.0 = d.each n a.0 a.1 in
        let c = changed_is _ variables entry n v.variable x v.there e in
        let w : is_within a.0.range (range_claimed claim.vars n (integer_of v.variable.type)) ≡ true = claimed_at claim 0 variables env n n v.variable a.0 h v.there a.1 (none_first n) in
        subst (λ y. DescribesVariable variables held held n y) c.is (record {
          variable = v.variable;
          there = v.there;
          frame = v.frame;
          no_object = v.no_object;
          describes = at_head head held (values_of (integer_of v.variable.type)) (range_claimed claim.vars n (integer_of v.variable.type)) n a.0 (set_to held n) refl (within_of _ _ w) v.describes;
        })

-- ## After a loop

ranges_alone : (head other : List Held) (all : Interval) (n : ℕ) (a : Abstract) (o : Option ℤ) → DescribesOne other all n a o → DescribesOne head all n (record { range = a.range; offset = None }) o
ranges_alone head other all n a (Some z) d = record { member = d.member; offset = tt }
ranges_alone head other all n a None d = record { range = d.range; offset = tt }

-- the range that is known after the loop, and the offset from before it
with_offset_before : (head other : List Held) (all : Interval) (n : ℕ) (a b : Abstract) (o : Option ℤ) → DescribesOne other all n a o → DescribesOne head all n b o → DescribesOne head all n (record { range = a.range; offset = b.offset }) o
with_offset_before head other all n a b (Some z) d c = record { member = d.member; offset = c.offset }
with_offset_before head other all n a b None d c = record { range = d.range; offset = c.offset }

-- offsets are about the head of the outer loop again: those that the entry has, of variables that stayed
pub restored_describes : (assigned : ℕ → Bool) (variables : List PlainVariable) (entry env : Environment) (head other before held : List Held) → Describes variables entry head before → Describes variables env other held →
    ((n : ℕ) → is_some (known entry n) ≡ true → assigned n ≡ false → slice_get held n ≡ slice_get before n) → Describes variables (offsets_restored assigned entry variables env) head held
restored_describes assigned variables entry env head other before held d c stays = record { each = each }
  where
    offset_of : (n : ℕ) (v : PlainVariable) (a : Abstract) (all : Interval) → (b : Bool) → assigned n ≡ b → (o : Option Abstract) → known entry n ≡ o → ((x : Abstract) → o ≡ Some x → slice_get held n ≡ slice_get before n → DescribesOne head all n x (set_to held n)) →
        DescribesOne other all n a (set_to held n) → DescribesOne head all n (record { range = a.range; offset = if b then None else offset_in o }) (set_to held n)
    offset_of n v a all true q o s k one = ranges_alone head other all n a (set_to held n) one
    offset_of n v a all false q None s k one = ranges_alone head other all n a (set_to held n) one
    offset_of n v a all false q (Some x) s k one = with_offset_before head other all n a x (set_to held n) one (k x refl (stays n (known_some (known entry n) x s) q))

    old : (n : ℕ) (v : PlainVariable) → slice_get variables n ≡ Some v → (b : Abstract) → known entry n ≡ Some b → slice_get held n ≡ slice_get before n → DescribesOne head (values_of (integer_of v.type)) n b (set_to held n)
    old n v there b q stayed =
        let u : DescribesVariable variables head before n b = d.each n b q in
        let same : u.variable ≡ v = same_Some _ _ (sym u.there ∙ there) in
        subst (λ o. DescribesOne head (values_of (integer_of v.type)) n b (held_number o)) (sym stayed)
        (subst (λ (y : PlainVariable). DescribesOne head (values_of (integer_of y.type)) n b (set_to before n)) same u.describes)

    each : (n : ℕ) (x : Abstract) → known (offsets_restored assigned entry variables env) n ≡ Some x → DescribesVariable variables head held n x
    each n x e =
        let a = some_is (known env n) (changed_from _ variables env n x e) in
        let v : DescribesVariable variables other held n a.0 = c.each n a.0 a.1 in
        let ch = changed_is _ variables env n v.variable x v.there e in
        let same : ch.before ≡ a.0 = same_Some _ _ (sym ch.there ∙ a.1) in
        let all : Interval = values_of (integer_of v.variable.type) in
        let one : DescribesOne other all n ch.before (set_to held n) = subst (λ y. DescribesOne other all n y (set_to held n)) (sym same) v.describes in
        subst (λ y. DescribesVariable variables head held n y) ch.is (record {
          variable = v.variable;
          there = v.there;
          frame = v.frame;
          no_object = v.no_object;
          describes = offset_of n v.variable ch.before all (assigned n) refl (known entry n) refl (λ b q stayed. old n v.variable v.there b q stayed) one;
        })

-- an inner loop in a trial pass: the variables that it assigns have any value of their types, and the others stay
pub forgotten_describes : (p : PlainProgram) (ks : List Kind) (assigned : ℕ → Bool) (variables : List PlainVariable) (env : Environment) (head before held : List Held) → KnowsNumbers variables env → FrameFits p ks variables held → AreInFrame variables held →
    Describes variables env head before → ((n : ℕ) → is_some (known env n) ≡ true → assigned n ≡ false → slice_get held n ≡ slice_get before n) → Describes variables (assigned_forgotten assigned variables env) head held
forgotten_describes p ks assigned variables env head before held knows fits in_frame d stays = record { each = each }
  where
    any_value : (n : ℕ) (number : IsNumber variables n) (o : Option ℤ) → set_to held n ≡ o → DescribesOne head (values_of (integer_of number.variable.type)) n (whole_type (integer_of number.variable.type)) o
    any_value n number (Some z) q = record { member = number_in_range p ks variables held n number.variable z fits number.there number.integer_is q; offset = tt }
    any_value n number None q = whole_unset (integer_of number.variable.type) n

    of : (n : ℕ) (number : IsNumber variables n) (a : Abstract) → known env n ≡ Some a → (b : Bool) → assigned n ≡ b → DescribesVariable variables head held n (if b then whole_type (integer_of number.variable.type) else a)
    of n number a e true q = described_by variables head held n (whole_type (integer_of number.variable.type)) number in_frame (any_value n number (set_to held n) refl)
    of n number a e false q = same_held variables head before held n a (stays n (known_some (known env n) a e) q) (d.each n a e)

    each : (n : ℕ) (x : Abstract) → known (assigned_forgotten assigned variables env) n ≡ Some x → DescribesVariable variables head held n x
    each n x e =
        let number : IsNumber variables n = knows.each n (changed_from _ variables env n x e) in
        let c = changed_is _ variables env n number.variable x number.there e in
        subst (λ y. DescribesVariable variables head held n y) c.is (of n number c.before c.there (assigned n) refl)
