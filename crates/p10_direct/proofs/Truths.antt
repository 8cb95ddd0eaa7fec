-- The truth of the words of a condition, and that they are one condition at most.
use Rattle.std.proofs.Common.{◌≡◌, ℕ, ℤ, ◌+◌, ◌-◌, ◌<◌, ◌≤◌, zero, suc, max, List, [], ◌∷◌, map, drop, Bool, true, false, not, cond, refl, sym, ◌∙◌, ap, subst, arith, Option, Some, None, option_map, option_and_then, IfSome, IfNone}
use Rattle.std.proofs.lemmas.Option.{none-some, same_Some}
use Rattle.p10_base.specs.declared.word.Word.{Word}
use Rattle.p10_base.specs.Words.{PlainWord, plain_word}
use Rattle.p10_direct.specs.declared.operator.Binary.{Binary}
use Rattle.p10_direct.specs.declared.part.Part.{Part}
use Rattle.p10_direct.specs.Tokens.{Token, tokens_of}
use Rattle.p10_direct.specs.Operators.{level_of_binary}
use Rattle.p10_direct.specs.Values.{Value, applied, joined, chosen, is_zero}
use Rattle.p10_direct.specs.Conditions.{Condition, Single, Grouped, Applied, Joined, Chosen, spell, depth_of, value_of, SpellsCondition, HasTruth}
use Rattle.p10_direct.specs.private.Climbing.{Algebra, values, Found, operator_at, operand, both_sides, choice, ended, behind_left, climb, number_of, is_nil}
use Rattle.p10_direct.specs.private.Parts.{from, found_of}
use Rattle.p10_direct.proofs.Climbs.{left_end, left_step, climb_step, climb_zero}
use Rattle.p10_direct.proofs.Trees.{fold, result, climb_again, Took, climb_takes}

-- ## One condition at most

trees : Algebra Condition
trees = record { single = Single; grouped = Grouped; apply = Applied; join = Joined; choose = Chosen }

tree_is : (t : Condition) → fold trees t ≡ t
unfolding trees
tree_is (Single token constant) = refl
tree_is (Grouped inner) = ap Grouped (tree_is inner)
tree_is (Applied op inner) = ap (Applied op) (tree_is inner)
tree_is (Joined op left right) = ap (λ l. Joined op l (fold trees right)) (tree_is left) ∙ ap (Joined op left) (tree_is right)
tree_is (Chosen test first second) =
    ap (λ t. Chosen t (fold trees first) (fold trees second)) (tree_is test) ∙ ap (λ f. Chosen test f (fold trees second)) (tree_is first) ∙ ap (Chosen test first) (tree_is second)

pub one_condition : (words : List PlainWord) (this that : Condition) → SpellsCondition words this → SpellsCondition words that → this ≡ that
one_condition words this that a b =
    let budget = max (depth_of this) (depth_of that) in
    let first = climb_again trees this budget a.formed (omega arith) in
    let second = climb_again trees that budget b.formed (omega arith) in
    let same : spell this [] ≡ spell that [] = sym a.spelled ∙ b.spelled in
    let found : result trees this [] ≡ result trees that [] = same_Some (result trees this []) (result trees that []) (sym first ∙ ap (climb trees budget 0) same ∙ second) in
    sym (tree_is this) ∙ ap (λ (f : Found Condition). f.what) found ∙ tree_is that

-- ## The truth

some_budget : (budget : ℕ) → (budget ≡ 0 → ⊥) → 0 < budget
some_budget zero some = absurd (some refl)
some_budget (suc budget) some = omega arith

value_is : (t : Condition) → fold values t ≡ value_of t
value_is (Single token constant) = refl
value_is (Grouped inner) = value_is inner
value_is (Applied op inner) = ap (applied op) (value_is inner)
value_is (Joined op left right) = ap (λ l. joined op l (fold values right)) (value_is left) ∙ ap (joined op (value_of left)) (value_is right)
value_is (Chosen test first second) =
    ap (λ t. chosen t (fold values first) (fold values second)) (value_is test) ∙ ap (λ f. chosen (value_of test) f (fold values second)) (value_is first) ∙ ap (chosen (value_of test) (value_of first)) (value_is second)

nil_is : (tokens : List Token) → is_nil tokens ≡ true → tokens ≡ []
nil_is [] e = refl
nil_is (token ∷ tokens) e = absurd cc

-- a number that was read is that of the condition
record Numbered (f : Found Value) (number : ℤ) : Type 0 where
  whole : f.rest ≡ []
  value : f.what.value ≡ Some number

numbered : (f : Found Value) (number : ℤ) → number_of (Some f) ≡ Some number → Numbered f number
numbered f number e =
    elim (is_nil f.rest) as (λ b. is_nil f.rest ≡ b → cond b f.what.value None ≡ Some number → Numbered f number)
    [ true ↦ λ nil e. record { whole = nil_is f.rest nil; value = e } | false ↦ λ more e. absurd (none-some number e) ] refl e

all_words : (words : List Word) → from 0 words ≡ tokens_of (map plain_word words)
unfolding from
all_words words = refl

found_holds : (words : List Word) (o : Option (Found Value)) (number : ℤ) → climb values 512 0 (from 0 words) ≡ o → IfSome o (λ f. f.depth ≤ 512) → number_of o ≡ Some number → HasTruth (map plain_word words) (not (is_zero number))
found_holds words None number e shallow n = absurd (none-some number n)
found_holds words (Some f) number e shallow n =
    let took : Took values 0 (from 0 words) f = climb_takes values 512 0 (from 0 words) f (omega arith) e in
    let known = numbered f number n in
    record {
      tree = took.tree;
      spells = record { formed = took.formed; spelled = sym (all_words words) ∙ took.spelled ∙ ap (spell took.tree) known.whole };
      shallow = omega (arith, took.depth_is, shallow);
      number = number;
      value = ap (λ (v : Value). v.value) (sym (took.what_is ∙ value_is took.tree)) ∙ known.value;
      truth_is = refl;
    }

pub truth_holds : (words : List Word) (number : Option ℤ) (answer : Option Bool) → answer ≡ option_map (λ n. not (is_zero n)) number → number ≡ number_of (climb values 512 0 (from 0 words)) → IfSome (climb values 512 0 (from 0 words)) (λ f. f.depth ≤ 512) → IfSome answer (HasTruth (map plain_word words))
truth_holds words None answer is n shallow = subst (λ a. IfSome a (HasTruth (map plain_word words))) (sym is) tt
truth_holds words (Some number) answer is n shallow = subst (λ a. IfSome a (HasTruth (map plain_word words))) (sym is) (found_holds words (climb values 512 0 (from 0 words)) number refl shallow (sym n))

pub shallow_read : (words : List Word) (o : Option (Found Value)) (answer : Option Part) → option_map (found_of words) answer ≡ o → IfSome answer (λ part. part.depth ≤ 512) → IfSome o (λ f. f.depth ≤ 512)
shallow_read words o None e shallow = subst (λ x. IfSome x (λ f. f.depth ≤ 512)) e tt
shallow_read words o (Some part) e shallow = subst (λ x. IfSome x (λ f. f.depth ≤ 512)) e shallow

pub shallow_first : (budget depth : ℕ) → (budget ≡ 0 → ⊥) → depth ≤ budget - 1 + 1 → depth ≤ budget
shallow_first budget depth some shallow = let p = some_budget budget some in omega (arith, shallow, p)

none_holds : (words : List Word) → None ≡ number_of (climb values 512 0 (from 0 words)) → (truth : Bool) → HasTruth (map plain_word words) truth → ⊥
none_holds words none truth h =
    let again : climb values 512 0 (from 0 words) ≡ Some (result values h.tree []) =
    ap (climb values 512 0) (all_words words ∙ h.spells.spelled) ∙ climb_again values h.tree 512 h.spells.formed h.shallow in
    none-some h.number (none ∙ ap number_of again ∙ ap (λ (v : Value). v.value) (value_is h.tree) ∙ h.value)

pub truth_fails : (words : List Word) (number : Option ℤ) (answer : Option Bool) → answer ≡ option_map (λ n. not (is_zero n)) number → number ≡ number_of (climb values 512 0 (from 0 words)) → IfNone answer ((truth : Bool) → HasTruth (map plain_word words) truth → ⊥)
truth_fails words None answer is n = subst (λ a. IfNone a ((truth : Bool) → HasTruth (map plain_word words) truth → ⊥)) (sym is) (none_holds words n)
truth_fails words (Some number) answer is n = subst (λ a. IfNone a ((truth : Bool) → HasTruth (map plain_word words) truth → ⊥)) (sym is) tt

-- ## Reading after a left operand

pub no_budget : (budget level : ℕ) (tokens : List Token) → budget ≡ 0 → None ≡ climb values budget level tokens
no_budget budget level tokens none = sym (ap (λ b. climb values b level tokens) none ∙ climb_zero values level tokens)

pub no_operand : (words : List Word) (answer : Option Part) (budget level : ℕ) (tokens : List Token) → answer ≡ None → (budget ≡ 0 → ⊥) → None ≡ operand values (climb values (budget - 1)) tokens → option_map (found_of words) answer ≡ climb values budget level tokens
no_operand words answer budget level tokens is some none =
    ap (option_map (found_of words)) is
    ∙ sym (climb_step values budget level tokens (some_budget budget some) ∙ ap (option_and_then (behind_left values budget level (climb values (budget - 1)))) (sym none))

pub first_operand : (words : List Word) (left : Part) (budget level : ℕ) (tokens : List Token) → (budget ≡ 0 → ⊥) → Some (found_of words left) ≡ operand values (climb values (budget - 1)) tokens
    → climb values budget level tokens ≡ behind_left values budget level (climb values (budget - 1)) (found_of words left)
first_operand words left budget level tokens some is =
    climb_step values budget level tokens (some_budget budget some) ∙ ap (option_and_then (behind_left values budget level (climb values (budget - 1)))) (sym is)

pub next_operand : (words : List Word) (budget level binding place : ℕ) (left right both : Part) (op : Binary) (whole : Option (Found Value))
    → whole ≡ behind_left values budget level (climb values (budget - 1)) (found_of words left)
    → Some op ≡ operator_at level (from left.place words) → binding ≡ level_of_binary op → from place words ≡ drop 1 (from left.place words)
    → Some (found_of words right) ≡ climb values (budget - 1) (binding + 1) (from place words)
    → found_of words both ≡ both_sides values op (found_of words left) (found_of words right) → both.depth ≤ budget
    → whole ≡ behind_left values budget level (climb values (budget - 1)) (found_of words both)
next_operand words budget level binding place left right both op whole so_far there binds behind is joined shallow =
    let higher : binding + 1 ≡ suc (level_of_binary op) = omega (arith, binds) in
    let read : climb values (budget - 1) (suc (level_of_binary op)) (drop 1 (from left.place words)) ≡ Some (found_of words right) =
    sym (is ∙ ap (λ l. climb values (budget - 1) l (from place words)) higher ∙ ap (climb values (budget - 1) (suc (level_of_binary op))) behind) in
    let depth_is : both.depth ≡ (both_sides values op (found_of words left) (found_of words right)).depth = ap (λ (f : Found Value). f.depth) joined in
    so_far ∙ left_step values budget level (climb values (budget - 1)) (found_of words left) (found_of words right) op (sym there) read (omega (arith, depth_is, shallow))
    ∙ ap (behind_left values budget level (climb values (budget - 1))) (sym joined)

pub last_choice : (words : List Word) (budget level : ℕ) (left : Part) (whole answer : Option (Found Value)) → whole ≡ behind_left values budget level (climb values (budget - 1)) (found_of words left)
    → None ≡ operator_at level (from left.place words) → (budget ≡ 0 → ⊥) → level ≡ 0
    → answer ≡ choice values (budget - 1 + 1) (climb values (budget - 1)) (found_of words left) → answer ≡ whole
last_choice words budget level left whole answer so_far none some lowest is =
    let p = some_budget budget some in
    let same : budget - 1 + 1 ≡ budget = omega (arith, p) in
    is ∙ ap (λ b. choice values b (climb values (budget - 1)) (found_of words left)) same
    ∙ ap (λ l. ended values budget l (climb values (budget - 1)) (found_of words left)) (sym lowest)
    ∙ sym (so_far ∙ left_end values budget level (climb values (budget - 1)) (found_of words left) (sym none))
