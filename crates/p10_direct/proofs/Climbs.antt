-- Steps of reading a condition: one operator more on the left, or the end.
use Rattle.std.proofs.Common.{◌≡◌, ℕ, ◌+◌, ◌-◌, ◌<◌, ◌≤◌, zero, suc, List, drop, true, false, cond, nat_le, refl, sym, ◌∙◌, ap, arith, Option, Some, None, option_and_then}
use Rattle.std.proofs.lemmas.Bool.{le-leb, lt-leb, leb-true}
use Rattle.std.proofs.lemmas.Option.{none-some}
use Rattle.p10_direct.specs.declared.operator.Binary.{Binary}
use Rattle.p10_direct.specs.Tokens.{Token}
use Rattle.p10_direct.specs.Operators.{level_of_binary}
use Rattle.p10_direct.specs.private.Climbing.{Algebra, Found, Reader, operator_at, operand, both_sides, kept, chained, ends_here, chain, ended, behind_left, climb}

-- continuation form: what follows speaks of plain variables
pub then_some : {A B P : Type 0} (f : A → Option B) (o : Option A) (y : B) → option_and_then f o ≡ Some y → ((x : A) → o ≡ Some x → f x ≡ Some y → P) → P
then_some f None y e go = absurd (none-some y e)
then_some f (Some x) y e go = go x refl e

module _ {A : Type 0} (algebra : Algebra A) where
  pub kept_deep : (budget : ℕ) (more : Found A → Option (Found A)) (f : Found A) → budget < f.depth → kept algebra budget more f ≡ None
  kept_deep budget more f deep = ap (λ b. cond b (more f) None) (lt-leb _ _ deep)

  pub kept_shallow : (budget : ℕ) (more : Found A → Option (Found A)) (f : Found A) → f.depth ≤ budget → kept algebra budget more f ≡ more f
  kept_shallow budget more f shallow = ap (λ b. cond b (more f) None) (le-leb _ _ shallow)

  pub kept_some : (budget : ℕ) (more : Found A → Option (Found A)) (f found : Found A) → kept algebra budget more f ≡ Some found → (f.depth ≤ budget) × (more f ≡ Some found)
  kept_some budget more f found e =
      elim (nat_le f.depth budget) as (λ b. nat_le f.depth budget ≡ b → cond b (more f) None ≡ Some found → (f.depth ≤ budget) × (more f ≡ Some found))
      [ true ↦ λ shallow e. (leb-true _ _ shallow, e) | false ↦ λ deep e. absurd (none-some found e) ] refl e

  left_deeper : (op : Binary) (left right : Found A) → left.depth < (both_sides algebra op left right).depth
  left_deeper op left right = omega arith

  -- the fuel doesn't matter where it reaches the budget
  pub fuel : (n m budget level : ℕ) (inner : Reader A) (left : Found A) → budget ≤ left.depth + n → budget ≤ left.depth + m → chain algebra n budget level inner left ≡ chain algebra m budget level inner left
  fuel zero zero budget level inner left enough plenty = refl
  fuel zero (suc m) budget level inner left enough plenty =
      elim (operator_at level left.rest) as (λ o. ends_here algebra left o ≡ chained algebra budget (λ f. chain algebra m budget level inner f) inner left o) [
        | None ↦ refl
        | Some op ↦ elim (inner (suc (level_of_binary op)) (drop 1 left.rest)) as (λ o. None ≡ option_and_then (λ right. kept algebra budget (λ f. chain algebra m budget level inner f) (both_sides algebra op left right)) o)
            [ None ↦ refl | Some right ↦ let d = left_deeper op left right in sym (kept_deep budget (λ f. chain algebra m budget level inner f) (both_sides algebra op left right) (omega (arith, d, enough))) ]
      ]
  fuel (suc n) zero budget level inner left enough plenty =
      elim (operator_at level left.rest) as (λ o. chained algebra budget (λ f. chain algebra n budget level inner f) inner left o ≡ ends_here algebra left o) [
        | None ↦ refl
        | Some op ↦ elim (inner (suc (level_of_binary op)) (drop 1 left.rest)) as (λ o. option_and_then (λ right. kept algebra budget (λ f. chain algebra n budget level inner f) (both_sides algebra op left right)) o ≡ None)
            [ None ↦ refl | Some right ↦ let d = left_deeper op left right in kept_deep budget (λ f. chain algebra n budget level inner f) (both_sides algebra op left right) (omega (arith, d, plenty)) ]
      ]
  fuel (suc n) (suc m) budget level inner left enough plenty =
      elim (operator_at level left.rest) as (λ o. chained algebra budget (λ f. chain algebra n budget level inner f) inner left o ≡ chained algebra budget (λ f. chain algebra m budget level inner f) inner left o) [
        | None ↦ refl
        | Some op ↦ elim (inner (suc (level_of_binary op)) (drop 1 left.rest)) as (λ o. option_and_then (λ right. kept algebra budget (λ f. chain algebra n budget level inner f) (both_sides algebra op left right)) o ≡ option_and_then (λ right. kept algebra budget (λ f. chain algebra m budget level inner f) (both_sides algebra op left right)) o) [
          | None ↦ refl
          | Some right ↦
              let d = left_deeper op left right in
              ap (λ c. cond (nat_le (both_sides algebra op left right).depth budget) c None) (fuel n m budget level inner (both_sides algebra op left right) (omega (arith, d, enough)) (omega (arith, d, plenty)))
        ]
      ]

  chain_end : (n budget level : ℕ) (inner : Reader A) (left : Found A) → operator_at level left.rest ≡ None → chain algebra n budget level inner left ≡ Some left
  chain_end zero budget level inner left e = ap (ends_here algebra left) e
  chain_end (suc n) budget level inner left e = ap (chained algebra budget (λ f. chain algebra n budget level inner f) inner left) e

  pub left_end : (budget level : ℕ) (inner : Reader A) (left : Found A) → operator_at level left.rest ≡ None → behind_left algebra budget level inner left ≡ ended algebra budget level inner left
  left_end budget level inner left e = ap (option_and_then (ended algebra budget level inner)) (chain_end (budget - left.depth) budget level inner left e)

  chain_none : (n budget level : ℕ) (inner : Reader A) (left : Found A) (op : Binary) → operator_at level left.rest ≡ Some op → inner (suc (level_of_binary op)) (drop 1 left.rest) ≡ None → chain algebra n budget level inner left ≡ None
  chain_none zero budget level inner left op e none = ap (ends_here algebra left) e
  chain_none (suc n) budget level inner left op e none =
      ap (chained algebra budget (λ f. chain algebra n budget level inner f) inner left) e
      ∙ ap (option_and_then (λ right. kept algebra budget (λ f. chain algebra n budget level inner f) (both_sides algebra op left right))) none

  pub left_none : (budget level : ℕ) (inner : Reader A) (left : Found A) (op : Binary) → operator_at level left.rest ≡ Some op → inner (suc (level_of_binary op)) (drop 1 left.rest) ≡ None → behind_left algebra budget level inner left ≡ None
  left_none budget level inner left op e none = ap (option_and_then (ended algebra budget level inner)) (chain_none (budget - left.depth) budget level inner left op e none)

  chain_deep : (n budget level : ℕ) (inner : Reader A) (left right : Found A) (op : Binary) → operator_at level left.rest ≡ Some op → inner (suc (level_of_binary op)) (drop 1 left.rest) ≡ Some right → budget < (both_sides algebra op left right).depth → chain algebra n budget level inner left ≡ None
  chain_deep zero budget level inner left right op e some deep = ap (ends_here algebra left) e
  chain_deep (suc n) budget level inner left right op e some deep =
      ap (chained algebra budget (λ f. chain algebra n budget level inner f) inner left) e
      ∙ ap (option_and_then (λ right. kept algebra budget (λ f. chain algebra n budget level inner f) (both_sides algebra op left right))) some
      ∙ kept_deep budget (λ f. chain algebra n budget level inner f) (both_sides algebra op left right) deep

  pub left_deep : (budget level : ℕ) (inner : Reader A) (left right : Found A) (op : Binary) → operator_at level left.rest ≡ Some op → inner (suc (level_of_binary op)) (drop 1 left.rest) ≡ Some right → budget < (both_sides algebra op left right).depth → behind_left algebra budget level inner left ≡ None
  left_deep budget level inner left right op e some deep = ap (option_and_then (ended algebra budget level inner)) (chain_deep (budget - left.depth) budget level inner left right op e some deep)

  chain_step : (n budget level : ℕ) (inner : Reader A) (left right : Found A) (op : Binary) → operator_at level left.rest ≡ Some op → inner (suc (level_of_binary op)) (drop 1 left.rest) ≡ Some right → (both_sides algebra op left right).depth ≤ budget
      → chain algebra (suc n) budget level inner left ≡ chain algebra n budget level inner (both_sides algebra op left right)
  chain_step n budget level inner left right op e some shallow =
      ap (chained algebra budget (λ f. chain algebra n budget level inner f) inner left) e
      ∙ ap (option_and_then (λ right. kept algebra budget (λ f. chain algebra n budget level inner f) (both_sides algebra op left right))) some
      ∙ kept_shallow budget (λ f. chain algebra n budget level inner f) (both_sides algebra op left right) shallow

  pub left_step : (budget level : ℕ) (inner : Reader A) (left right : Found A) (op : Binary) → operator_at level left.rest ≡ Some op → inner (suc (level_of_binary op)) (drop 1 left.rest) ≡ Some right → (both_sides algebra op left right).depth ≤ budget
      → behind_left algebra budget level inner left ≡ behind_left algebra budget level inner (both_sides algebra op left right)
  left_step budget level inner left right op e some shallow =
      let d = left_deeper op left right in
      let n = budget - left.depth - 1 in
      let more : budget - left.depth ≡ suc n = omega (arith, d, shallow) in
      ap (option_and_then (ended algebra budget level inner))
      (ap (λ k. chain algebra k budget level inner left) more ∙ chain_step n budget level inner left right op e some shallow
      ∙ fuel n (budget - (both_sides algebra op left right).depth) budget level inner (both_sides algebra op left right) (omega (arith, d, shallow)) (omega (arith, d, shallow)))

  pub climb_step : (budget level : ℕ) (tokens : List Token) → 0 < budget → climb algebra budget level tokens ≡ option_and_then (behind_left algebra budget level (climb algebra (budget - 1))) (operand algebra (climb algebra (budget - 1)) tokens)
  unfolding climb
  climb_step zero level tokens some = absurd (omega (arith, some))
  climb_step (suc budget) level tokens some =
      let less : budget ≡ suc budget - 1 = omega arith in
      ap (λ b. option_and_then (behind_left algebra (suc budget) level (climb algebra b)) (operand algebra (climb algebra b) tokens)) less

  pub climb_zero : (level : ℕ) (tokens : List Token) → climb algebra 0 level tokens ≡ None
  unfolding climb
  climb_zero level tokens = refl

  pub climb_suc : (budget level : ℕ) (tokens : List Token) → climb algebra (suc budget) level tokens ≡ option_and_then (behind_left algebra (suc budget) level (climb algebra budget)) (operand algebra (climb algebra budget) tokens)
  unfolding climb
  climb_suc budget level tokens = refl
