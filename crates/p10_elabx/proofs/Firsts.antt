-- The first row is the least of all that hold.
use Rattle.std.specs.Prelude.{◌≡◌, ℕ, Bool, true, false, ◌||◌, ◌&&◌, Ok, Err, Some, None, List, [], ◌∷◌, ◌++◌, if◌then◌else◌, nat_lt, nat_le, refl}
use Rattle.std.proofs.Common.{ap, sym, ◌∙◌, subst, arith, inl, inr}
use Rattle.std.proofs.lemmas.Bool.Decides.{nat_tests}
use Rattle.p10_base.specs.declared.at.At.{At}
use Rattle.p10_base.specs.declared.codes.SubsetCode.{SubsetCode}
use Rattle.p10_base.specs.Codes.{subset_number}
use Rattle.p10_elabx.specs.declared.problem.Problem.{Problem}
use Rattle.p10_elabx.specs.First.{is_before, least, Among, IsFirst, Found, Ruled, lift, on, pair, joined, every, only_first, refused_where, Judged, plainly, on_part, on_parts, also, unordered}
use Rattle.p10_elabx.specs.Laws.{IsKept, Tied}

-- ## The order

abbrev lex : ℕ → ℕ → ℕ → ℕ → ℕ → ℕ → Bool
lex a b c x y z =
    if nat_lt a x then true else (if nat_lt x a then false
    else (if nat_lt b y then true else (if nat_lt y b then false else nat_le c z)))

lex_total : (a b c x y z : ℕ) → lex a b c x y z ≡ false → lex x y z a b c ≡ true
lex_total a b c x y z h = grind (arith, nat_tests)

lex_trans : (a b c x y z u v w : ℕ) → lex a b c x y z ≡ true → lex x y z u v w ≡ true → lex a b c u v w ≡ true
lex_trans a b c x y z u v w h k = grind (arith, nat_tests)

lex_refl : (a b c : ℕ) → lex a b c a b c ≡ true
lex_refl a b c = grind (arith, nat_tests)

before_total : (r q : Problem) → is_before r q ≡ false → is_before q r ≡ true
before_total r q h = lex_total r.at.first (subset_number r.code) r.at.past q.at.first (subset_number q.code) q.at.past h

before_trans : (r q p : Problem) → is_before r q ≡ true → is_before q p ≡ true → is_before r p ≡ true
before_trans r q p h k = lex_trans r.at.first (subset_number r.code) r.at.past q.at.first (subset_number q.code) q.at.past p.at.first (subset_number p.code) p.at.past h k

before_refl : (r : Problem) → is_before r r ≡ true
before_refl r = lex_refl r.at.first (subset_number r.code) r.at.past

-- ## Lists

among_left : (q : Problem) (rs qs : List Problem) → Among q rs → Among q (rs ++ qs)
among_left q [] qs h = absurd h
among_left q (r ∷ rs) qs (inl e) = inl e
among_left q (r ∷ rs) qs (inr h) = inr (among_left q rs qs h)

among_right : (q : Problem) (rs qs : List Problem) → Among q qs → Among q (rs ++ qs)
among_right q [] qs h = h
among_right q (r ∷ rs) qs h = inr (among_right q rs qs h)

-- what holds of each of both lists holds of each of the whole
all_joined : (P : Problem → Type 0) (rs qs : List Problem) → ((p : Problem) → Among p rs → P p) → ((p : Problem) → Among p qs → P p) →
    (p : Problem) → Among p (rs ++ qs) → P p
all_joined P [] qs f g p h = g p h
all_joined P (r ∷ rs) qs f g p (inl e) = f p (inl e)
all_joined P (r ∷ rs) qs f g p (inr h) = all_joined P rs qs (λ z k. f z (inr k)) g p h

first_join_by : (b : Bool) (r q : Problem) (rs qs : List Problem) → is_before r q ≡ b → IsFirst r rs → IsFirst q qs →
    IsFirst (if b then r else q) (rs ++ qs)
first_join_by true r q rs qs e f g = record {
  holds = among_left r rs qs f.holds;
  first = all_joined (λ p. is_before r p ≡ true) rs qs f.first (λ p h. before_trans r q p e (g.first p h));
}
first_join_by false r q rs qs e f g = record {
  holds = among_right q rs qs g.holds;
  first = all_joined (λ p. is_before q p ≡ true) rs qs (λ p h. before_trans q r p (before_total r q e) (f.first p h)) g.first;
}

first_join : (r q : Problem) (rs qs : List Problem) → IsFirst r rs → IsFirst q qs → IsFirst (least r q) (rs ++ qs)
first_join r q rs qs f g = first_join_by (is_before r q) r q rs qs refl f g

alone : (r q : Problem) → Among q (r ∷ []) → is_before r q ≡ true
alone r q (inl e) = subst (λ z. is_before r z ≡ true) (sym e) (before_refl r)
alone r q (inr h) = absurd h

first_one : (r : Problem) → IsFirst r (r ∷ [])
first_one r = record { holds = inl refl; first = alone r }

append_nothing : (rs : List Problem) → rs ++ [] ≡ rs
append_nothing [] = refl
append_nothing (r ∷ rs) = ap (λ xs. r ∷ xs) (append_nothing rs)

-- ## What is found

pub kept_lift : {A : Type 0} (x : Ruled A) → IsKept (lift x) (lift x)
kept_lift (Ok a) = refl
kept_lift (Err None) = refl
kept_lift (Err (Some r)) = first_one r

pub kept_on : {A B : Type 0} (a b : Found A) (go : A → Ruled B) → IsKept a b → IsKept (on a go) (on b go)
kept_on (Ok a) (Ok b) go e = subst (λ z. IsKept (lift (go a)) (lift (go z))) e (kept_lift (go a))
kept_on (Ok a) (Err rs) go e = absurd e
kept_on (Err rs) (Ok b) go e = absurd e
kept_on (Err rs) (Err []) go e = e
kept_on (Err rs) (Err (r ∷ [])) go e = e
kept_on (Err rs) (Err (r ∷ q ∷ s)) go e = absurd e

-- the rows of both parts together
kept_joined : (A B C : Type 0) (rs rs' qs qs' : List Problem) → IsKept {A = A} (Err rs) (Err rs') → IsKept {A = B} (Err qs) (Err qs') → IsKept {A = C} (Err (rs ++ qs)) (Err (joined only_first rs' qs'))
kept_joined A B C rs [] qs [] e f = ap (λ xs. xs ++ qs) e ∙ f
kept_joined A B C rs [] qs (q ∷ []) e f = subst (λ xs. IsFirst q (xs ++ qs)) (sym e) f
kept_joined A B C rs [] qs (q ∷ p ∷ s) e f = absurd f
kept_joined A B C rs (r ∷ []) qs [] e f = subst (IsFirst r) (sym (ap (λ xs. rs ++ xs) f ∙ append_nothing rs)) e
kept_joined A B C rs (r ∷ []) qs (q ∷ []) e f = first_join r q rs qs e f
kept_joined A B C rs (r ∷ []) qs (q ∷ p ∷ s) e f = absurd f
kept_joined A B C rs (r ∷ p ∷ s) qs qs' e f = absurd e

pub kept_pair : {A B : Type 0} (a a' : Found A) (b b' : Found B) → IsKept a a' → IsKept b b' → IsKept (pair every a b) (pair only_first a' b')
kept_pair (Ok a) (Err rs) b b' e f = absurd e
kept_pair (Err rs) (Ok a) b b' e f = absurd e
kept_pair a a' (Ok b) (Err rs) e f = absurd f
kept_pair a a' (Err rs) (Ok b) e f = absurd f
kept_pair (Ok a) (Ok a') (Ok b) (Ok b') e f = ap (λ z. (z, b)) e ∙ ap (λ z. (a', z)) f
kept_pair (Ok a) (Ok a') (Err qs) (Err []) e f = f
kept_pair (Ok a) (Ok a') (Err qs) (Err (q ∷ [])) e f = f
kept_pair (Ok a) (Ok a') (Err qs) (Err (q ∷ p ∷ s)) e f = absurd f
kept_pair (Err rs) (Err []) (Ok b) (Ok b') e f = e
kept_pair (Err rs) (Err (r ∷ [])) (Ok b) (Ok b') e f = e
kept_pair (Err rs) (Err (r ∷ p ∷ s)) (Ok b) (Ok b') e f = absurd e
kept_pair {A = A} {B = B} (Err rs) (Err rs') (Err qs) (Err qs') e f = kept_joined A B (A × B) rs rs' qs qs' e f

pub kept_where : {A : Type 0} (b : Bool) (code : SubsetCode) (at : At) (a a' : Found A) → IsKept a a' → IsKept (refused_where every b code at a) (refused_where only_first b code at a')
kept_where false code at a a' e = e
kept_where true code at (Ok a) (Ok a') e = first_one _
kept_where true code at (Ok a) (Err rs) e = absurd e
kept_where true code at (Err rs) (Ok a) e = absurd e
kept_where {A = A} true code at (Err rs) (Err rs') e = kept_joined A A A rs rs' _ _ e (first_one _)

-- ## With what counts for the order of evaluation

pub or_same : (a b x y : Bool) → a ≡ x → b ≡ y → (a || b) ≡ (x || y)
or_same a b x y e f = λ i. e i || f i

pub tied_plainly : {A : Type 0} (x : Ruled A) → Tied A (plainly x) (plainly x)
tied_plainly x = record { found = kept_lift x; acts = refl; reads = refl }

pub tied_on_part : {A B : Type 0} (j k : Judged A) (go : A → Ruled B) → Tied A j k → Tied B (on_part j go) (on_part k go)
tied_on_part j k go t = record { found = kept_on j.found k.found go t.found; acts = t.acts; reads = t.reads }

pub tied_on_parts : {A B C : Type 0} (j j' : Judged A) (k k' : Judged B) (go : A → B → Ruled C) → Tied A j j' → Tied B k k' →
    Tied C (on_parts every j k go) (on_parts only_first j' k' go)
tied_on_parts j j' k k' go s t = record {
  found = kept_on (pair every j.found k.found) (pair only_first j'.found k'.found) (λ (x, y). go x y) (kept_pair j.found j'.found k.found k'.found s.found t.found);
  acts = or_same j.acts k.acts j'.acts k'.acts s.acts t.acts;
  reads = or_same j.reads k.reads j'.reads k'.reads s.reads t.reads;
}

pub tied_also : {A : Type 0} (b c : Bool) (code : SubsetCode) (at : At) (j k : Judged A) → b ≡ c → Tied A j k →
    Tied A (also every b code at j) (also only_first c code at k)
tied_also b c code at j k e t =
    subst (λ z. Tied _ (also every b code at j) (also only_first z code at k)) e
    (record { found = kept_where b code at j.found k.found t.found; acts = t.acts; reads = t.reads })

pub unordered_same : {A B : Type 0} (j j' : Judged A) (k k' : Judged B) → Tied A j j' → Tied B k k' → unordered j k ≡ unordered j' k'
unordered_same j j' k k' s t = λ i. (s.acts i && (t.acts i || t.reads i)) || ((s.acts i || s.reads i) && t.acts i)
