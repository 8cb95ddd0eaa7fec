-- `&&`, `||` and `?:`: what is found of them holds, where one operand is evaluated under what the other one leaves.
use Rattle.std.proofs.Common.{◌≡◌, Bool, true, false, List, Option, Some, None, refl, ap, sym, ◌∙◌, subst, ℤ}
use Rattle.std.specs.Prelude.{if◌then◌else◌, is_some}
use Rattle.std.specs.Option.{option_and_then}
use Rattle.p10_core.specs.declared.typed.LogicOp.{LogicOp}
use Rattle.p10_core.specs.declared.typed.LogicOp.TheVariants.{And, Or}
use Rattle.p10_core.specs.Typed.{PlainVariable}
use Rattle.p10_meaning.specs.declared.pointers.Scalar.{Scalar}
use Rattle.p10_meaning.specs.declared.pointers.Scalar.TheVariants.{Int, Pointer}
use Rattle.p10_meaning.specs.Scalars.{is_true, truth_value}
use Rattle.p10_meaning.specs.Values.{Held, is_decided}
use Rattle.p10_absx.specs.Abstract.{Abstract}
use Rattle.p10_absx.specs.Environments.{Environment, hull_reached}
use Rattle.p10_absx.specs.Assessing.{Assessed, a_test, value_found, known_where, logic_found, hull_found, without_offset}
use Rattle.p10_absx.specs.Describing.{Describes, MaybeDescribes, MaybeHolds}
use Rattle.p10_pass.specs.Arguments.{goes_on_where}
use Rattle.p10_evaluation.proofs.Hulls.{left_found, right_found, left_some, right_some, reached_left, reached_right}
use Rattle.p10_evaluation.proofs.Finding.{FoundHolds, found_value, found_some, found_known, test_found, IsHeldSo}

-- an environment that describes the frame is there
pub record IsThere (variables : List PlainVariable) (head held : List Held) (o : Option Environment) : Type 0 where
  pub env : Environment
  pub is : o ≡ Some env
  pub describes : Describes variables env head held

module _ (variables : List PlainVariable) (head held : List Held) where
  pub there_of : (o : Option Environment) → MaybeDescribes variables o head held → IsThere variables head held o
  there_of None d = absurd d
  there_of (Some env) d = record { env = env; is = refl; describes = d }

  -- what is known where the left operand has a truth
  pub known_there : (a : Assessed) (x : Scalar) (env : Environment) (b : Bool) → is_true x ≡ b → FoundHolds variables head held a x → Describes variables env head held → IsThere variables head held (known_where b env a)
  known_there a x env b e h d = there_of (known_where b env a) (subst (λ b. MaybeDescribes variables (known_where b env a) head held) e (found_known variables head held a x env h d))

  -- ## `&&` and `||`

  -- the left operand decides
  pub decided_found : (op : LogicOp) (env : Environment) (a : Assessed) (right : Environment → Assessed) (b : Bool) → is_decided op b ≡ true → MaybeDescribes variables (known_where b env a) head held →
      FoundHolds variables head held (logic_found op env a right) (truth_value b)
  decided_found And env a right true e d = absurd cc
  decided_found And env a right false e d = test_found variables head held (option_and_then (λ e. known_where true e (right e)) (known_where true env a))
      (hull_reached (known_where false env a) (option_and_then (λ e. known_where false e (right e)) (known_where true env a))) false (reached_left variables (known_where false env a) (option_and_then (λ e. known_where false e (right e)) (known_where true env a)) head held d)
  decided_found Or env a right true e d = test_found variables head held (hull_reached (known_where true env a) (option_and_then (λ e. known_where true e (right e)) (known_where false env a)))
      (option_and_then (λ e. known_where false e (right e)) (known_where false env a)) true (reached_left variables (known_where true env a) (option_and_then (λ e. known_where true e (right e)) (known_where false env a)) head held d)
  decided_found Or env a right false e d = absurd cc

  -- the truth with which evaluation goes on
  pub goes_on : (op : LogicOp) (b : Bool) → is_decided op b ≡ false → b ≡ goes_on_where op
  goes_on And true e = refl
  goes_on And false e = absurd cc
  goes_on Or true e = absurd cc
  goes_on Or false e = refl

  -- the right operand decides
  pub right_found_so : (op : LogicOp) (env : Environment) (a : Assessed) (right : Environment → Assessed) (e : Environment) (b : Bool) → known_where (goes_on_where op) env a ≡ Some e →
      MaybeDescribes variables (known_where b e (right e)) head held → FoundHolds variables head held (logic_found op env a right) (truth_value b)
  right_found_so And env a right e b s d =
      subst (λ o. FoundHolds variables head held (a_test (option_and_then (λ e. known_where true e (right e)) o) (hull_reached (known_where false env a) (option_and_then (λ e. known_where false e (right e)) o))) (truth_value b)) (sym s)
      (test_found variables head held (known_where true e (right e)) (hull_reached (known_where false env a) (known_where false e (right e))) b (at b d))
    where
      at : (b : Bool) → MaybeDescribes variables (known_where b e (right e)) head held →
          MaybeDescribes variables (if b then known_where true e (right e) else hull_reached (known_where false env a) (known_where false e (right e))) head held
      at true d = d
      at false d = reached_right variables (known_where false env a) (known_where false e (right e)) head held d
  right_found_so Or env a right e b s d =
      subst (λ o. FoundHolds variables head held (a_test (hull_reached (known_where true env a) (option_and_then (λ e. known_where true e (right e)) o)) (option_and_then (λ e. known_where false e (right e)) o)) (truth_value b)) (sym s)
      (test_found variables head held (hull_reached (known_where true env a) (known_where true e (right e))) (known_where false e (right e)) b (at b d))
    where
      at : (b : Bool) → MaybeDescribes variables (known_where b e (right e)) head held →
          MaybeDescribes variables (if b then hull_reached (known_where true env a) (known_where true e (right e)) else known_where false e (right e)) head held
      at true d = reached_right variables (known_where true env a) (known_where true e (right e)) head held d
      at false d = d

  -- ## `?:`

  held_without : (o : Option Abstract) (z : ℤ) → MaybeHolds head o z → MaybeHolds head (without_offset o) z
  held_without None z h = absurd h
  held_without (Some a) z h = record { member = h.member; offset = tt }

  some_without : (o : Option Abstract) → is_some o ≡ true → is_some (without_offset o) ≡ true
  some_without None e = absurd cc
  some_without (Some a) e = refl

  -- the hull of what each operand is under what the condition leaves
  abbrev pub chosen : Environment → Assessed → (Environment → Assessed) → (Environment → Assessed) → Option Abstract
  chosen env condition first second =
      without_offset (hull_found (option_and_then (λ e. value_found (first e)) (known_where true env condition)) (option_and_then (λ e. value_found (second e)) (known_where false env condition)))

  first_value : (a b : Option Abstract) (r : Assessed) (y : Scalar) → a ≡ value_found r → FoundHolds variables head held r y → IsHeldSo variables head held (without_offset (hull_found a b)) (Some y)
  first_value a b r (Int z) e h = held_without (hull_found a b) z (left_found head a b z (subst (λ o. MaybeHolds head o z) (sym e) (found_value variables head held r z h)))
  first_value a b r (Pointer q) e h = some_without (hull_found a b) (left_some a b (ap is_some e ∙ found_some variables head held r (Pointer q) h))

  second_value : (a b : Option Abstract) (r : Assessed) (y : Scalar) → b ≡ value_found r → FoundHolds variables head held r y → IsHeldSo variables head held (without_offset (hull_found a b)) (Some y)
  second_value a b r (Int z) e h = held_without (hull_found a b) z (right_found head a b z (subst (λ o. MaybeHolds head o z) (sym e) (found_value variables head held r z h)))
  second_value a b r (Pointer q) e h = some_without (hull_found a b) (right_some a b (ap is_some e ∙ found_some variables head held r (Pointer q) h))

  pub first_chosen : (env : Environment) (condition : Assessed) (first second : Environment → Assessed) (e : Environment) (y : Scalar) → known_where true env condition ≡ Some e → FoundHolds variables head held (first e) y →
      IsHeldSo variables head held (chosen env condition first second) (Some y)
  first_chosen env condition first second e y s h = first_value _ _ (first e) y (ap (option_and_then (λ e. value_found (first e))) s) h

  pub second_chosen : (env : Environment) (condition : Assessed) (first second : Environment → Assessed) (e : Environment) (y : Scalar) → known_where false env condition ≡ Some e → FoundHolds variables head held (second e) y →
      IsHeldSo variables head held (chosen env condition first second) (Some y)
  second_chosen env condition first second e y s h = second_value _ _ (second e) y (ap (option_and_then (λ e. value_found (second e))) s) h
