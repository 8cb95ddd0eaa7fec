-- The changes that a comparison makes are what it says of an environment.
use Rattle.std.proofs.Common.{◌≡◌, ℕ, ◌<◌, eqb, Bool, true, false, List, [], ◌∷◌, ◌++◌, length, Option, Some, None, refl, ap, sym, ◌∙◌, subst, arith}
use Rattle.std.specs.Prelude.{slice_get, slice_set, if◌then◌else◌, IfSome, Vec}
use Rattle.std.specs.Option.{option_map, option_and_then}
use Rattle.std.proofs.lemmas.Bool.Decides.{nat_tests}
use Rattle.std.proofs.lemmas.Bool.{eqb-true}
use Rattle.p10_range.specs.Ranges.{Interval, meet_of}
use Rattle.p10_absx.specs.Abstract.{Abstract}
use Rattle.p10_absx.specs.Environments.{Environment, known_in, known, learned}
use Rattle.p10_absx.specs.Comparing.{met_with, side_met}
use Rattle.p10_absx.specs.private.Found.{both_met, state_of}
use Rattle.p10_absx.specs.declared.changes.Change.{Change}
use Rattle.std.specs.declared.alloc.Global.{Global}
use Rattle.p10_absx.specs.private.Changes.{Replaced, replaced_in, applied, change_met, known_side, known_after}
use Rattle.p10_absx.proofs.Entries.{get_below, get_set, get_other}

pub applied_more : (xs ys : List Replaced) (env : Environment) → applied (xs ++ ys) env ≡ applied ys (applied xs env)
applied_more [] ys env = refl
applied_more (x ∷ xs) ys env = applied_more xs ys (slice_set env x.variable x.known)

known_below : (entry : Option (Option Abstract)) (a : Abstract) → known_in entry ≡ Some a → entry ≡ Some (Some a)
known_below None a e = absurd cc
known_below (Some x) a e = ap Some e

-- what is known of a variable after something was learned of another one, and of itself
known_same : (env : Environment) (n : ℕ) (a b : Abstract) → known env n ≡ Some a → known (learned env n b) n ≡ Some b
known_same env n a b e =
    let h : n < length env = get_below env n (Some a) (known_below (slice_get env n) a e) in ap known_in (get_set env n (Some b) h)

known_other : (env : Environment) (m n : ℕ) (b : Abstract) → (n ≡ m → ⊥) → known (learned env m b) n ≡ known env n
known_other env m n b d = ap known_in (get_other env m n (Some b) d)

-- one side
met_is : (variable : Option ℕ) (r : Interval) (env : Environment) →
    option_map (λ (cs : List Replaced). applied cs env) (change_met variable r (known_side variable env)) ≡ side_met variable r env
met_is None r env = refl
met_is (Some n) r env = of (known env n)
  where
    meets : (a : Abstract) (m : Option Interval) →
        option_map (λ (cs : List Replaced). applied cs env) (option_map (λ s. record { variable = n; known = Some (record { range = s; offset = a.offset }) } ∷ []) m)
        ≡ option_map (λ s. learned env n (record { range = s; offset = a.offset })) m
    meets a None = refl
    meets a (Some s) = refl

    of : (k : Option Abstract) → option_map (λ (cs : List Replaced). applied cs env) (change_met (Some n) r k) ≡ met_with env n r k
    of None = refl
    of (Some a) = meets a (meet_of a.range r)

-- what is known of the right side's variable after the left side's change
after_at : (m : ℕ) (right : Option ℕ) (env : Environment) (a b : Abstract) → known env m ≡ Some a →
    known_after (Some m) right (record { variable = m; known = Some b } ∷ []) env ≡ known_side right (learned env m b)
after_at m None env a b e = refl
after_at m (Some n) env a b e = at (eqb m n) refl
  where
    at : (t : Bool) → eqb m n ≡ t → (if t then Some b else known env n) ≡ known (learned env m b) n
    at true h = let p : m ≡ n = eqb-true m n h in sym (subst (λ k. known (learned env m b) k ≡ Some b) p (known_same env m a b e))
    at false h = sym (known_other env m n b (λ p. absurd (grind (arith, nat_tests, p, h))))

after_met : (m : ℕ) (right : Option ℕ) (r : Interval) (env : Environment) (xs : List Replaced) (k : Option Abstract) → known env m ≡ k → change_met (Some m) r k ≡ Some xs →
    known_after (Some m) right xs env ≡ known_side right (applied xs env)
after_met m right r env xs None h e = let p : [] ≡ xs = cc in subst (λ ys. known_after (Some m) right ys env ≡ known_side right (applied ys env)) p refl
after_met m right r env xs (Some a) h e = at (meet_of a.range r) e
  where
    at : (q : Option Interval) → option_map (λ s. record { variable = m; known = Some (record { range = s; offset = a.offset }) } ∷ []) q ≡ Some xs →
        known_after (Some m) right xs env ≡ known_side right (applied xs env)
    at None e = absurd cc
    at (Some s) e =
        let b : Abstract = record { range = s; offset = a.offset } in
        let c : Replaced = record { variable = m; known = Some b } in
        let p : c ∷ [] ≡ xs = cc in
        subst (λ ys. known_after (Some m) right ys env ≡ known_side right (applied ys env)) p (after_at m right env a b h)

after_is : (left right : Option ℕ) (r : Interval) (env : Environment) (xs : List Replaced) → change_met left r (known_side left env) ≡ Some xs →
    known_after left right xs env ≡ known_side right (applied xs env)
after_is None right r env xs e = let p : [] ≡ xs = cc in subst (λ ys. known_after None right ys env ≡ known_side right (applied ys env)) p refl
after_is (Some m) right r env xs e = after_met m right r env xs (known env m) refl e

appended : (xs : List Replaced) (env : Environment) (o : Option (List Replaced)) →
    option_map (λ (cs : List Replaced). applied cs env) (option_map (λ (ys : List Replaced). xs ++ ys) o) ≡ option_map (λ (cs : List Replaced). applied cs (applied xs env)) o
appended xs env None = refl
appended xs env (Some ys) = ap Some (applied_more xs ys env)

listed_is : (env : Environment) (q : Option (Vec Change Global)) → state_of env q ≡ option_map (λ (cs : List Replaced). applied cs env) (option_map (λ (v : Vec Change Global). replaced_in v.items) q)
listed_is env None = refl
listed_is env (Some v) = refl

-- both sides, by the changes that the code lists
pub both_listed : (env : Environment) (left right : Option ℕ) (r s : Interval) (first second : Option (List Replaced)) (a b : Option Abstract) (q : Option (Vec Change Global)) →
    a ≡ known_side left env → first ≡ change_met left r a → IfSome first (λ changes. b ≡ known_after left right changes env) → second ≡ change_met right s b →
    option_map (λ (v : Vec Change Global). replaced_in v.items) q ≡ both_met first second → state_of env q ≡ option_and_then (side_met right s) (side_met left r env)
both_listed env left right r s first second a b q known-a is-first known-b is-second is =
    listed_is env q ∙ (ap (option_map (λ (cs : List Replaced). applied cs env)) is ∙
    (at first (sym (is-first ∙ ap (change_met left r) known-a)) known-b ∙ ap (option_and_then (side_met right s)) (met_is left r env)))
  where
    at : (first : Option (List Replaced)) → change_met left r (known_side left env) ≡ first → IfSome first (λ changes. b ≡ known_after left right changes env) →
        option_map (λ (cs : List Replaced). applied cs env) (both_met first second) ≡ option_and_then (side_met right s) (option_map (λ (cs : List Replaced). applied cs env) (change_met left r (known_side left env)))
    at None e h = sym (ap (λ o. option_and_then (side_met right s) (option_map (λ (cs : List Replaced). applied cs env) o)) e)
    at (Some xs) e h =
        ap (λ o. option_map (λ (cs : List Replaced). applied cs env) (option_map (λ (ys : List Replaced). xs ++ ys) o)) (is-second ∙ ap (change_met right s) (h ∙ after_is left right r env xs e)) ∙
        (appended xs env (change_met right s (known_side right (applied xs env))) ∙ (met_is right s (applied xs env) ∙
        sym (ap (λ o. option_and_then (side_met right s) (option_map (λ (cs : List Replaced). applied cs env) o)) e)))
