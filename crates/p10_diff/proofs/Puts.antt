-- The bounds that an assignment puts, as a function of names.
use Rattle.std.proofs.Common.{◌≡◌, ℕ, zero, suc, ◌+◌, ◌<◌, ◌≤◌, eq-eqb, Bool, true, false, List, [], ◌∷◌, ◌++◌, length, map, refl, ap, sym, ◌∙◌, Option, Some, None, ℤ, arith, add-one}
use Rattle.std.specs.Prelude.{◌&&◌, ◌||◌, if◌then◌else◌, nat_eq, nat_lt, slice_get}
use Rattle.std.proofs.lemmas.List.{length-map}
use Rattle.std.proofs.lemmas.Bool.{eqb-true}
use Rattle.std.proofs.lemmas.Bool.Decides.{nat_tests}
use Rattle.p10_core.specs.Typed.{PlainVariable}
use Rattle.p10_core.specs.Views.{plain_variable}
use Rattle.p10_diff.specs.declared.listed.Name.{Name as CodeName}
use Rattle.p10_diff.specs.declared.listed.Name.TheVariants.{Now, Was}
use Rattle.p10_diff.specs.declared.listed.Bounded.{Bounded}
use Rattle.p10_diff.specs.declared.known.Pair.{Pair as CodePair}
use Rattle.p10_diff.specs.declared.known.Diff.{Diff}
use Rattle.p10_diff.specs.declared.assigning.Assignment.{Assignment as CodeAssignment}
use Rattle.p10_diff.specs.Bounds.{or_else}
use Rattle.p10_diff.specs.Differences.{Name, now, was, same_name, is_marked, Pair, Differences, has_name, has_name_in, is_either, is_name, of_name, unmarked_bounds}
use Rattle.p10_diff.specs.Domain.{only, assigned_bounds}
use Rattle.p10_diff.specs.Listed.{name_of, bounds_listed, with_one}
use Rattle.p10_diff.specs.Knowing.{pair_by, differences_of}
use Rattle.p10_diff.specs.private.Assigning.{source_up, source_low, above_put, below_put, with_pair, with_names, with_all}
use Rattle.p10_diff.proofs.Lists.{same_names}

or_nothing : (x : Option ℤ) → or_else x None ≡ x
or_nothing None = refl
or_nothing (Some c) = refl

and_false : (q : Bool) → (q && false) ≡ false
and_false true = refl
and_false false = refl

and_true : (q : Bool) → (q && true) ≡ q
and_true true = refl
and_true false = refl

or_false : (q : Bool) → (q || false) ≡ q
or_false true = refl
or_false false = refl

-- ## Names

eq_turned : (n m : ℕ) → nat_eq n m ≡ nat_eq m n
eq_turned n m = by (nat_eq n m) (nat_eq m n) refl refl
  where
    by : (a b : Bool) → nat_eq n m ≡ a → nat_eq m n ≡ b → a ≡ b
    by true true e f = refl
    by true false e f = let q : true ≡ false = sym (eq-eqb m n (sym (eqb-true n m e))) ∙ f in absurd cc
    by false true e f = let q : true ≡ false = sym (eq-eqb n m (sym (eqb-true m n f))) ∙ e in absurd cc
    by false false e f = refl

same_turned : (u w : Name) → same_name u w ≡ same_name w u
same_turned (now n) (now m) = eq_turned n m
same_turned (was n) (was m) = eq_turned n m
same_turned (now n) (was m) = refl
same_turned (was n) (now m) = refl

-- whether a name is what the variable holds now
own : (n : ℕ) (u : Name) → same_name (now n) u ≡ is_marked (only n) u
own n (now m) = eq_turned n m
own n (was m) = refl

-- ## One name more

-- what is found after both bounds of the variable and a name, by whether they are one, and of which of the two the difference is
abbrev found_of : (s i j : Bool) (x y last : Option ℤ) → Option ℤ
found_of true i j x y last = last
found_of false i j x y last = if j then or_else y (if i then or_else x last else last) else (if i then or_else x last else last)

put_found : (s : Bool) (v w : CodeName) (x y : Option ℤ) (bounds : Name → Name → Option ℤ) (a b : Name) →
    (if s then bounds else with_one w v y (with_one v w x bounds)) a b ≡
    found_of s (same_name (name_of v) a && same_name (name_of w) b) (same_name (name_of w) a && same_name (name_of v) b) x y (bounds a b)
put_found true v w x y bounds a b = refl
put_found false v w x y bounds a b = refl

twice : (x : Option ℤ) (q r : Bool) (last : Option ℤ) → (if r then or_else x (if q then or_else x last else last) else (if q then or_else x last else last)) ≡ (if q || r then or_else x last else last)
twice None true true last = refl
twice None true false last = refl
twice None false true last = refl
twice None false false last = refl
twice (Some c) true true last = refl
twice (Some c) true false last = refl
twice (Some c) false true last = refl
twice (Some c) false false last = refl

of_first : (s i j q : Bool) (x y z last : Option ℤ) → (s ≡ true → q ≡ false) → i ≡ q → j ≡ false → (q ≡ true → x ≡ z) → found_of s i j x y last ≡ (if q then or_else z last else last)
of_first true i j true x y z last h e f g = let c : true ≡ false = h refl in absurd cc
of_first true i j false x y z last h e f g = refl
of_first false true true q x y z last h e f g = absurd cc
of_first false false true q x y z last h e f g = absurd cc
of_first false true false true x y z last h e f g = ap (λ x. or_else x last) (g refl)
of_first false true false false x y z last h e f g = absurd cc
of_first false false false true x y z last h e f g = absurd cc
of_first false false false false x y z last h e f g = refl

of_second : (s i j q : Bool) (x y z last : Option ℤ) → (s ≡ true → q ≡ false) → j ≡ q → i ≡ false → (q ≡ true → y ≡ z) → found_of s i j x y last ≡ (if q then or_else z last else last)
of_second true i j true x y z last h e f g = let c : true ≡ false = h refl in absurd cc
of_second true i j false x y z last h e f g = refl
of_second false true j q x y z last h e f g = absurd cc
of_second false false true true x y z last h e f g = ap (λ y. or_else y last) (g refl)
of_second false false true false x y z last h e f g = absurd cc
of_second false false false true x y z last h e f g = absurd cc
of_second false false false false x y z last h e f g = refl

of_neither : (s i j : Bool) (x y last : Option ℤ) → (s ≡ false → i ≡ false) → (s ≡ false → j ≡ false) → found_of s i j x y last ≡ last
of_neither true i j x y last h k = refl
of_neither false true j x y last h k = let c : true ≡ false = h refl in absurd cc
of_neither false false true x y last h k = let c : true ≡ false = k refl in absurd cc
of_neither false false false x y last h k = refl

-- ## All names

-- the names of a variable, if it has any, and those of the first variables
abbrev names_at : Pair → ℕ → List CodeName
names_at p n = if has_name p n then Now n ∷ (if is_either p n then Was n ∷ [] else []) else []

abbrev names_below : Pair → ℕ → List CodeName
names_below p zero = []
names_below p (suc n) = names_below p n ++ names_at p n

-- whether a name is in a list
abbrev is_listed : List CodeName → Name → Bool
is_listed [] u = false
is_listed (w ∷ names) u = same_name (name_of w) u || is_listed names u

module _ (p : Pair) (c : CodeAssignment) (e : Differences) where
  abbrev v : Name
  v = now c.to

  -- bounds of all names in a list put after others, the first name first
  abbrev with_listed : List CodeName → (Name → Name → Option ℤ) → Name → Name → Option ℤ
  with_listed [] bounds = bounds
  with_listed (w ∷ names) bounds = with_listed names (with_pair p c e w bounds)

  listed_after : (xs ys : List CodeName) (bounds : Name → Name → Option ℤ) → with_listed ys (with_listed xs bounds) ≡ with_listed (xs ++ ys) bounds
  listed_after [] ys bounds = refl
  listed_after (x ∷ xs) ys bounds = listed_after xs ys (with_pair p c e x bounds)

  at_variable : (n : ℕ) (bounds : Name → Name → Option ℤ) → with_names p c e n bounds ≡ with_listed (names_at p n) bounds
  at_variable n bounds = by (has_name p n) (is_either p n)
    where
      by : (h r : Bool) → (if h then (if r then with_pair p c e (Was n) (with_pair p c e (Now n) bounds) else with_pair p c e (Now n) bounds) else bounds) ≡ with_listed (if h then Now n ∷ (if r then Was n ∷ [] else []) else []) bounds
      by true true = refl
      by true false = refl
      by false r = refl

  pub all_listed : (k : ℕ) (bounds : Name → Name → Option ℤ) → with_all p c e k bounds ≡ with_listed (names_below p k) bounds
  all_listed zero bounds = refl
  all_listed (suc k) bounds = ap (with_names p c e k) (all_listed k bounds) ∙ (at_variable k (with_listed (names_below p k) bounds) ∙ listed_after (names_below p k) (names_at p k) bounds)

  module _ (a b : Name) where
    abbrev first : CodeName → Bool
    first w = same_name v a && same_name (name_of w) b

    abbrev second : CodeName → Bool
    second w = same_name (name_of w) a && same_name v b

    abbrev next : CodeName → Option ℤ → Option ℤ
    next w last = found_of (same_name v (name_of w)) (first w) (second w) (above_put p c e (name_of w)) (below_put p c e (name_of w)) last

    abbrev found_in_all : List CodeName → Option ℤ → Option ℤ
    found_in_all [] last = last
    found_in_all (w ∷ names) last = found_in_all names (next w last)

    pub found_after_all : (names : List CodeName) (bounds : Name → Name → Option ℤ) → with_listed names bounds a b ≡ found_in_all names (bounds a b)
    found_after_all [] bounds = refl
    found_after_all (w ∷ names) bounds =
        found_after_all names (with_pair p c e w bounds) ∙ ap (found_in_all names) (put_found (same_name v (name_of w)) (Now c.to) w (above_put p c e (name_of w)) (below_put p c e (name_of w)) bounds a b)

    -- of the variable less another name
    pub of_variable : same_name v a ≡ true → same_name v b ≡ false → (names : List CodeName) (last : Option ℤ) → found_in_all names last ≡ (if is_listed names b then or_else (above_put p c e b) last else last)
    of_variable q r [] last = refl
    of_variable q r (w ∷ names) last =
        of_variable q r names (next w last) ∙
        (ap (λ x. if is_listed names b then or_else (above_put p c e b) x else x)
        (of_first (same_name v (name_of w)) (first w) (second w) (same_name (name_of w) b) (above_put p c e (name_of w)) (below_put p c e (name_of w)) (above_put p c e b) last
        (λ s. ap (λ u. same_name u b) (sym (same_names v (name_of w) s)) ∙ r) (ap (λ t. t && same_name (name_of w) b) q) (ap (λ t. same_name (name_of w) a && t) r ∙ and_false (same_name (name_of w) a))
        (λ s. ap (above_put p c e) (same_names (name_of w) b s))) ∙
        twice (above_put p c e b) (same_name (name_of w) b) (is_listed names b) last)

    -- of another name less the variable
    pub to_variable : same_name v a ≡ false → same_name v b ≡ true → (names : List CodeName) (last : Option ℤ) → found_in_all names last ≡ (if is_listed names a then or_else (below_put p c e a) last else last)
    to_variable q r [] last = refl
    to_variable q r (w ∷ names) last =
        to_variable q r names (next w last) ∙
        (ap (λ x. if is_listed names a then or_else (below_put p c e a) x else x)
        (of_second (same_name v (name_of w)) (first w) (second w) (same_name (name_of w) a) (above_put p c e (name_of w)) (below_put p c e (name_of w)) (below_put p c e a) last
        (λ s. ap (λ u. same_name u a) (sym (same_names v (name_of w) s)) ∙ q) (ap (λ t. same_name (name_of w) a && t) r ∙ and_true (same_name (name_of w) a)) (ap (λ t. t && same_name (name_of w) b) q)
        (λ s. ap (below_put p c e) (same_names (name_of w) a s))) ∙
        twice (below_put p c e a) (same_name (name_of w) a) (is_listed names a) last)

    -- of others, and of the variable less itself, nothing is put
    pub of_others : same_name v a ≡ false → same_name v b ≡ false → (names : List CodeName) (last : Option ℤ) → found_in_all names last ≡ last
    of_others q r [] last = refl
    of_others q r (w ∷ names) last =
        of_others q r names (next w last) ∙
        of_neither (same_name v (name_of w)) (first w) (second w) (above_put p c e (name_of w)) (below_put p c e (name_of w)) last
        (λ s. ap (λ t. t && same_name (name_of w) b) q) (λ s. ap (λ t. same_name (name_of w) a && t) r ∙ and_false (same_name (name_of w) a))

    apart : (u : Name) → same_name v u ≡ true → (w : CodeName) → same_name v (name_of w) ≡ false → same_name (name_of w) u ≡ false
    apart u q w s = ap (same_name (name_of w)) (sym (same_names v u q)) ∙ (same_turned (name_of w) v ∙ s)

    pub of_itself : same_name v a ≡ true → same_name v b ≡ true → (names : List CodeName) (last : Option ℤ) → found_in_all names last ≡ last
    of_itself q r [] last = refl
    of_itself q r (w ∷ names) last =
        of_itself q r names (next w last) ∙
        of_neither (same_name v (name_of w)) (first w) (second w) (above_put p c e (name_of w)) (below_put p c e (name_of w)) last
        (λ s. ap (λ t. same_name v a && t) (apart b r w s) ∙ and_false (same_name v a)) (λ s. ap (λ t. t && same_name v b) (apart a q w s))

-- ## An assignment

listed_or_none : (q r : Bool) (x : Option ℤ) → q ≡ r → (if q then or_else x None else None) ≡ (if r then x else None)
listed_or_none true true x e = or_nothing x
listed_or_none true false x e = absurd cc
listed_or_none false true x e = absurd cc
listed_or_none false false x e = refl

module _ (p : Pair) (c : CodeAssignment) (e : Differences) (names : List CodeName) (all : (w : Name) → is_listed names w ≡ is_name p w) where
  at : (a b : Name) (other : Option ℤ) (s t : Bool) → same_name (now c.to) a ≡ s → same_name (now c.to) b ≡ t →
      found_in_all p c e a b names (if s || t then None else other) ≡ (if s then (if t then None else of_name p b (above_put p c e b)) else (if t then of_name p a (below_put p c e a) else other))
  at a b other true true q r = of_itself p c e a b q r names None
  at a b other true false q r = of_variable p c e a b q r names None ∙ listed_or_none (is_listed names b) (is_name p b) (above_put p c e b) (all b)
  at a b other false true q r = to_variable p c e a b q r names None ∙ listed_or_none (is_listed names a) (is_name p a) (below_put p c e a) (all a)
  at a b other false false q r = of_others p c e a b q r names other

  pub assigned_listed : (bounds others : Name → Name → Option ℤ) → others ≡ unmarked_bounds (only c.to) bounds →
      (a b : Name) → with_listed p c e names others a b ≡ assigned_bounds p c.after.now.values c.to (source_up p c.source e) (source_low p c.source e) bounds a b
  assigned_listed bounds others was_so a b =
      found_after_all p c e a b names others ∙ (ap (found_in_all p c e a b names) (λ i. was_so i a b) ∙ at a b (bounds a b) (is_marked (only c.to) a) (is_marked (only c.to) b) (own c.to a) (own c.to b))

-- ## All names of a function

-- the names of a variable
named_now : (h r : Bool) (k n : ℕ) → is_listed (if h then Now k ∷ (if r then Was k ∷ [] else []) else []) (now n) ≡ (h && nat_eq k n)
named_now true true k n = or_false (nat_eq k n)
named_now true false k n = or_false (nat_eq k n)
named_now false r k n = refl

named_before : (h r : Bool) (k n : ℕ) → is_listed (if h then Now k ∷ (if r then Was k ∷ [] else []) else []) (was n) ≡ ((h && r) && nat_eq k n)
named_before true true k n = or_false (nat_eq k n)
named_before true false k n = refl
named_before false r k n = refl

-- whether a name is that of one of the first variables
abbrev is_below : Pair → ℕ → Name → Bool
is_below p k (now n) = nat_lt n k && is_name p (now n)
is_below p k (was n) = nat_lt n k && is_name p (was n)

-- the names of a variable that has some
pub names_put : (p : Pair) (c : CodeAssignment) (e later : Diff) (n : ℕ) (start one all : Name → Name → Option ℤ) → true ≡ has_name p n → later ≡ e → one ≡ with_pair p c (differences_of e) (Now n) start →
    all ≡ (if is_either p n then with_pair p c (differences_of later) (Was n) one else one) → all ≡ with_names p c (differences_of e) n start
names_put p c e later n start one all has same put again =
    again ∙ (λ i. if has i then (if is_either p n then with_pair p c (differences_of (same i)) (Was n) (put i) else put i) else start)

-- one more variable
joined : (l m e h g : Bool) → (e ≡ true → (l ≡ false) × (m ≡ true) × (h ≡ g)) → (e ≡ false → m ≡ l) → ((l && g) || (h && e)) ≡ (m && g)
joined l m true h g f k = by l m h g (f refl)
  where
    by : (l m h g : Bool) → (l ≡ false) × (m ≡ true) × (h ≡ g) → ((l && g) || (h && true)) ≡ (m && g)
    by true m h g x = let q : true ≡ false = x.0 in absurd cc
    by false false h g x = let q : false ≡ true = x.1 in absurd cc
    by false true true true x = refl
    by false true true false x = let q : true ≡ false = x.2 in absurd cc
    by false true false true x = let q : false ≡ true = x.2 in absurd cc
    by false true false false x = refl
joined l m false h g f k = by l g h ∙ ap (λ t. t && g) (sym (k refl))
  where
    by : (l g h : Bool) → ((l && g) || (h && false)) ≡ (l && g)
    by true true h = refl
    by true false true = refl
    by true false false = refl
    by false g true = refl
    by false g false = refl

not_below : (n k : ℕ) → k ≡ n → nat_lt n k ≡ false
not_below n k e = grind (arith, nat_tests)

is_next : (n k : ℕ) → k ≡ n → nat_lt n (suc k) ≡ true
is_next n k e = grind (arith, nat_tests)

still_below : (n k : ℕ) → nat_eq k n ≡ false → nat_lt n (suc k) ≡ nat_lt n k
still_below n k e = by (nat_lt n (suc k)) (nat_lt n k) refl refl
  where
    by : (a b : Bool) → nat_lt n (suc k) ≡ a → nat_lt n k ≡ b → a ≡ b
    by true true p q = refl
    by true false p q = absurd (grind (arith, nat_tests))
    by false true p q = absurd (grind (arith, nat_tests))
    by false false p q = refl

one_more : (f : ℕ → Bool) (k n : ℕ) → ((nat_lt n k && f n) || (f k && nat_eq k n)) ≡ (nat_lt n (suc k) && f n)
one_more f k n = joined (nat_lt n k) (nat_lt n (suc k)) (nat_eq k n) (f k) (f n) (λ e. let q : k ≡ n = eqb-true k n e in (not_below n k q, is_next n k q, ap f q)) (still_below n k)

below_next : (p : Pair) (k : ℕ) (w : Name) → (is_below p k w || is_listed (names_at p k) w) ≡ is_below p (suc k) w
below_next p k (now n) = ap (λ t. (nat_lt n k && has_name p n) || t) (named_now (has_name p k) (is_either p k) k n) ∙ one_more (has_name p) k n
below_next p k (was n) = ap (λ t. (nat_lt n k && (has_name p n && is_either p n)) || t) (named_before (has_name p k) (is_either p k) k n) ∙ one_more (λ m. has_name p m && is_either p m) k n

listed_both : (xs ys : List CodeName) (w : Name) → is_listed (xs ++ ys) w ≡ (is_listed xs w || is_listed ys w)
listed_both [] ys w = refl
listed_both (x ∷ xs) ys w = ap (λ t. same_name (name_of x) w || t) (listed_both xs ys w) ∙ or_again (same_name (name_of x) w) (is_listed xs w) (is_listed ys w)
  where
    or_again : (a b c : Bool) → (a || (b || c)) ≡ ((a || b) || c)
    or_again true b c = refl
    or_again false b c = refl

none_below : (n : ℕ) (q : Bool) → false ≡ (nat_lt n zero && q)
none_below n q = ap (λ t. t && q) (let e : false ≡ nat_lt n zero = grind (arith, nat_tests) in e)

listed_below : (p : Pair) (k : ℕ) (w : Name) → is_listed (names_below p k) w ≡ is_below p k w
listed_below p zero (now n) = none_below n (has_name p n)
listed_below p zero (was n) = none_below n (has_name p n && is_either p n)
listed_below p (suc k) w = listed_both (names_below p k) (names_at p k) w ∙ (ap (λ t. t || is_listed (names_at p k) w) (listed_below p k w) ∙ below_next p k w)

named_below : (vs : List PlainVariable) (n : ℕ) → has_name_in (slice_get vs n) ≡ true → n < length vs
named_below [] n e = absurd cc
named_below (v ∷ vs) zero e = omega arith
named_below (v ∷ vs) (suc n) e = let l : n < length vs = named_below vs n e in omega (arith, l)

all_below : (b : Bool) (n k : ℕ) → (b ≡ true → n < k) → (nat_lt n k && b) ≡ b
all_below true n k h = let l : n < k = h refl in and_true (nat_lt n k) ∙ grind (arith, nat_tests)
all_below false n k h = and_false (nat_lt n k)

names_all : (p : Pair) (k : ℕ) → length p.variables ≤ k → (w : Name) → is_below p k w ≡ is_name p w
names_all p k l (now n) = all_below (has_name p n) n k (λ e. let b : n < length p.variables = named_below p.variables n e in omega (arith, b, l))
names_all p k l (was n) = all_below (has_name p n && is_either p n) n k (λ e. let b : n < length p.variables = named_below p.variables n (one_holds (has_name p n) (is_either p n) e) in omega (arith, b, l))
  where
    one_holds : (x y : Bool) → (x && y) ≡ true → x ≡ true
    one_holds true y e = refl
    one_holds false y e = absurd cc

-- ## The code

-- one more variable
pub all_next : (p : Pair) (c : CodeAssignment) (entry e : Diff) (n : ℕ) (start before after : Name → Name → Option ℤ) → e ≡ entry → before ≡ with_all p c (differences_of entry) n start → after ≡ with_names p c (differences_of e) n before →
    after ≡ with_all p c (differences_of entry) (n + 1) start
all_next p c entry e n start before after same so-far step =
    step ∙ ((λ i. with_names p c (differences_of (same i)) n (so-far i)) ∙ ap (λ m. with_all p c (differences_of entry) m start) (sym (add-one n)))

-- the bounds that are put are those after the assignment
pub assigned_told : (p : CodePair) (c : CodeAssignment) (e : Diff) (slice others all : List (List Bounded)) → slice ≡ e.bounds.items → bounds_listed others ≡ unmarked_bounds (only c.to) (bounds_listed slice) →
    bounds_listed all ≡ with_all (pair_by p) c (differences_of e) (length p.variables.now) (bounds_listed others) →
    bounds_listed all ≡ assigned_bounds (pair_by p) c.after.now.values c.to (source_up (pair_by p) c.source (differences_of e)) (source_low (pair_by p) c.source (differences_of e)) (differences_of e).bounds
assigned_told p c e slice others all same was_so is =
    is ∙ (all_listed q c d k (bounds_listed others) ∙ (λ i a b. assigned_listed q c d (names_below q k) (λ w. listed_below q k w ∙ names_all q k few w) (differences_of e).bounds (bounds_listed others)
    (was_so ∙ ap (λ xs. unmarked_bounds (only c.to) (bounds_listed xs)) same) a b i))
  where
    q : Pair
    q = pair_by p

    d : Differences
    d = differences_of e

    k : ℕ
    k = length p.variables.now

    few : length (map plain_variable p.variables.now) ≤ length p.variables.now
    few = let e : length (map plain_variable p.variables.now) ≡ length p.variables.now = length-map p.variables.now plain_variable in omega (arith, e)
