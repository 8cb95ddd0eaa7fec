-- What is found on both sides, part by part.
use Rattle.std.proofs.Common.{◌≡◌, Bool, true, false, List, [], ◌∷◌, Some, None, Ok, Err}
use Rattle.std.specs.Prelude.{if◌then◌else◌}
use Rattle.p10_base.specs.declared.at.At.{At}
use Rattle.p10_base.specs.declared.codes.SubsetCode.{SubsetCode}
use Rattle.p10_elabx.specs.declared.problem.Problem.{Problem}
use Rattle.p10_elabx.specs.First.{Keep, every, only_first, joined, Found, Ruled, refused, lift, ruled, pair, on, refused_where, Judged, on_part, on_parts, also}
use Rattle.p10_expression_renaming.specs.Knowing.{Together, Ruling}

-- ## Where a row holds

-- there is a problem
abbrev pub IsTold : List Problem → Type 0
IsTold [] = ⊥
IsTold (r ∷ rs) = Unit {0}

pub told_left : {A : Type 0} (P : A → A → Type 0) (rs : List Problem) (g : Found A) → IsTold rs → Together P (Err rs) g
told_left P [] g t = absurd t
told_left P (r ∷ rs) g t = tt

pub told_right : {A : Type 0} (P : A → A → Type 0) (f : Found A) (rs : List Problem) → IsTold rs → Together P f (Err rs)
told_right P f [] t = absurd t
told_right P (Ok a) (r ∷ rs) t = tt
told_right P (Err []) (r ∷ rs) t = tt
told_right P (Err (q ∷ qs)) (r ∷ rs) t = tt

-- nothing is found on either side
both_refused : {A : Type 0} (P : A → A → Type 0) (rs qs : List Problem) → Together P (Err rs) (Err qs)
both_refused P [] qs = tt
both_refused P (r ∷ rs) qs = tt

-- where one side alone is refused, it is told why
pub refused_right : {A : Type 0} (P : A → A → Type 0) (a : A) (rs : List Problem) → Together P (Ok a) (Err rs) → IsTold rs
refused_right P a [] t = t
refused_right P a (r ∷ rs) t = tt

pub refused_left : {A : Type 0} (P : A → A → Type 0) (rs : List Problem) (a : A) → Together P (Err rs) (Ok a) → IsTold rs
refused_left P [] a t = t
refused_left P (r ∷ rs) a t = tt

joined_left : (h : Keep) (rs qs : List Problem) → IsTold rs → IsTold (joined h rs qs)
joined_left h [] qs t = absurd t
joined_left every (r ∷ rs) qs t = tt
joined_left only_first (r ∷ rs) [] t = tt
joined_left only_first (r ∷ rs) (q ∷ qs) t = tt

pub joined_right : (h : Keep) (rs qs : List Problem) → IsTold qs → IsTold (joined h rs qs)
joined_right h rs [] t = absurd t
joined_right every [] (q ∷ qs) t = tt
joined_right only_first [] (q ∷ qs) t = tt
joined_right h (r ∷ rs) (q ∷ qs) t = joined_left h (r ∷ rs) (q ∷ qs) tt

pub none_right : {A : Type 0} (P : A → A → Type 0) (f : Ruled A) (r : Problem) → Ruling P f (Err (Some r))
none_right P f r = told_right P (lift f) (r ∷ []) tt

-- ## One row

-- one of two, where the tests are one
pub by_same : {A B : Type 0} (P : A → B → Type 0) (p q : Bool) → p ≡ q → (a b : A) (c d : B) → P a c → P b d → P (if p then a else b) (if q then c else d)
by_same P true true e a b c d h k = h
by_same P true false e a b c d h k = absurd cc
by_same P false true e a b c d h k = absurd cc
by_same P false false e a b c d h k = k

-- where tests let both through
pub when_both : {A : Type 0} (P : A → A → Type 0) (b c : Bool) (f g : Ruled A) (r q : Problem) → Ruling P f g → Ruling P (if b then f else Err (Some r)) (if c then g else Err (Some q))
when_both P true true f g r q h = h
when_both P true false f g r q h = none_right P f q
when_both P false c f g r q h = tt

-- the same where something is given, or a row holds
pub when_ok : {A : Type 0} (P : A → A → Type 0) (b c : Bool) (x y : A) (code : SubsetCode) (at to : At) → P x y → Ruling P (if b then Ok x else refused code at) (if c then Ok y else refused code to)
when_ok P true true x y code at to h = h
when_ok P true false x y code at to h = tt
when_ok P false c x y code at to h = tt

pub unless_ok : {A : Type 0} (P : A → A → Type 0) (b c : Bool) (x y : A) (code : SubsetCode) (at to : At) → P x y → Ruling P (if b then refused code at else Ok x) (if c then refused code to else Ok y)
unless_ok P false false x y code at to h = h
unless_ok P false true x y code at to h = tt
unless_ok P true c x y code at to h = tt

pub ruled_both : {A B : Type 0} (P : A → A → Type 0) (Q : B → B → Type 0) (f g : Ruled A) (go went : A → Ruled B) → Ruling P f g → ((a b : A) → P a b → Ruling Q (go a) (went b)) → Ruling Q (ruled f go) (ruled g went)
ruled_both P Q (Ok a) (Ok b) go went h each = each a b h
ruled_both P Q (Ok a) (Err None) go went h each = absurd h
ruled_both P Q (Ok a) (Err (Some r)) go went h each = none_right Q (go a) r
ruled_both P Q (Err None) (Ok b) go went h each = absurd h
ruled_both P Q (Err None) (Err r) go went h each = tt
ruled_both P Q (Err (Some r)) g go went h each = tt

-- ## Parts

pub on_both : {A B : Type 0} (P : A → A → Type 0) (Q : B → B → Type 0) (f g : Found A) (go went : A → Ruled B) → Together P f g → ((a b : A) → P a b → Ruling Q (go a) (went b)) → Together Q (on f go) (on g went)
on_both P Q (Ok a) (Ok b) go went h each = each a b h
on_both P Q (Ok a) (Err rs) go went h each = told_right Q (lift (go a)) rs (refused_right P a rs h)
on_both P Q (Err rs) (Ok b) go went h each = told_left Q rs (lift (went b)) (refused_left P rs b h)
on_both P Q (Err rs) (Err qs) go went h each = both_refused Q rs qs

-- pairs of what is the same
abbrev pub Pairs : {A B : Type 0} → (A → A → Type 0) → (B → B → Type 0) → A × B → A × B → Type 0
Pairs P Q x y = P x.0 y.0 × Q x.1 y.1

pub pair_both : {A B : Type 0} (P : A → A → Type 0) (Q : B → B → Type 0) (h k : Keep) (f g : Found A) (x y : Found B) → Together P f g → Together Q x y → Together (Pairs P Q) (pair h f x) (pair k g y)
pair_both P Q h k (Ok u) (Ok v) (Ok x) (Ok y) a b = (a, b)
pair_both P Q h k (Ok u) (Ok v) (Ok x) (Err qs) a b = told_right (Pairs P Q) (Ok (u, x)) qs (refused_right Q x qs b)
pair_both P Q h k (Ok u) (Ok v) (Err rs) (Ok y) a b = told_left (Pairs P Q) rs (Ok (v, y)) (refused_left Q rs y b)
pair_both P Q h k (Ok u) (Ok v) (Err rs) (Err qs) a b = both_refused (Pairs P Q) rs qs
pair_both P Q h k (Ok u) (Err ps) (Ok x) (Ok y) a b = told_right (Pairs P Q) (Ok (u, x)) ps (refused_right P u ps a)
pair_both P Q h k (Ok u) (Err ps) (Ok x) (Err qs) a b = told_right (Pairs P Q) (Ok (u, x)) (joined k ps qs) (joined_left k ps qs (refused_right P u ps a))
pair_both P Q h k (Ok u) (Err ps) (Err rs) (Ok y) a b = both_refused (Pairs P Q) rs ps
pair_both P Q h k (Ok u) (Err ps) (Err rs) (Err qs) a b = both_refused (Pairs P Q) rs (joined k ps qs)
pair_both P Q h k (Err ps) (Ok v) (Ok x) (Ok y) a b = told_left (Pairs P Q) ps (Ok (v, y)) (refused_left P ps v a)
pair_both P Q h k (Err ps) (Ok v) (Ok x) (Err qs) a b = both_refused (Pairs P Q) ps qs
pair_both P Q h k (Err ps) (Ok v) (Err rs) (Ok y) a b = told_left (Pairs P Q) (joined h ps rs) (Ok (v, y)) (joined_left h ps rs (refused_left P ps v a))
pair_both P Q h k (Err ps) (Ok v) (Err rs) (Err qs) a b = both_refused (Pairs P Q) (joined h ps rs) qs
pair_both P Q h k (Err ps) (Err os) (Ok x) (Ok y) a b = both_refused (Pairs P Q) ps os
pair_both P Q h k (Err ps) (Err os) (Ok x) (Err qs) a b = both_refused (Pairs P Q) ps (joined k os qs)
pair_both P Q h k (Err ps) (Err os) (Err rs) (Ok y) a b = both_refused (Pairs P Q) (joined h ps rs) os
pair_both P Q h k (Err ps) (Err os) (Err rs) (Err qs) a b = both_refused (Pairs P Q) (joined h ps rs) (joined k os qs)

-- nothing is found where a row always holds
pub refused_always : {A : Type 0} (P : A → A → Type 0) (h : Keep) (code : SubsetCode) (at : At) (f g : Found A) → Together P (refused_where h true code at f) g
refused_always P h code at (Ok a) g = tt
refused_always P h code at (Err rs) g = told_left P (joined h rs (record { code = code; at = at } ∷ [])) g (joined_right h rs (record { code = code; at = at } ∷ []) tt)

refused_other : {A : Type 0} (P : A → A → Type 0) (h : Keep) (code : SubsetCode) (at : At) (f g : Found A) → Together P f (refused_where h true code at g)
refused_other P h code at f (Ok b) = told_right P f (record { code = code; at = at } ∷ []) tt
refused_other P h code at f (Err rs) = told_right P f (joined h rs (record { code = code; at = at } ∷ [])) (joined_right h rs (record { code = code; at = at } ∷ []) tt)

pub refused_both : {A : Type 0} (P : A → A → Type 0) (h k : Keep) (b c : Bool) (code other : SubsetCode) (at to : At) (f g : Found A) → Together P f g → Together P (refused_where h b code at f) (refused_where k c other to g)
refused_both P h k true c code other at to f g t = refused_always P h code at f (refused_where k c other to g)
refused_both P h k false false code other at to f g t = t
refused_both P h k false true code other at to f g t = refused_other P k other to f g

-- ---- with what counts for the order of evaluation

abbrev pub Alike : {A : Type 0} → (A → A → Type 0) → Judged A → Judged A → Type 0
Alike P j k = Together P j.found k.found

pub part_both : {A B : Type 0} (P : A → A → Type 0) (Q : B → B → Type 0) (j k : Judged A) (go went : A → Ruled B) → Alike P j k → ((a b : A) → P a b → Ruling Q (go a) (went b)) → Alike Q (on_part j go) (on_part k went)
part_both P Q j k go went h each = on_both P Q j.found k.found go went h each

pub parts_both : {A B C : Type 0} (P : A → A → Type 0) (Q : B → B → Type 0) (S : C → C → Type 0) (h k : Keep) (j l : Judged A) (x y : Judged B) (go went : A → B → Ruled C) → Alike P j l → Alike Q x y
    → ((a b : A) → P a b → (c d : B) → Q c d → Ruling S (go a c) (went b d)) → Alike S (on_parts h j x go) (on_parts k l y went)
parts_both P Q S h k j l x y go went a b each =
    on_both (Pairs P Q) S (pair h j.found x.found) (pair k l.found y.found) (λ (p, q). go p q) (λ (p, q). went p q) (pair_both P Q h k j.found l.found x.found y.found a b) (λ p q both. each p.0 q.0 both.0 p.1 q.1 both.1)

pub also_both : {A : Type 0} (P : A → A → Type 0) (h k : Keep) (b c : Bool) (code other : SubsetCode) (at to : At) (j l : Judged A) → Alike P j l → Alike P (also h b code at j) (also k c other to l)
also_both P h k b c code other at to j l a = refused_both P h k b c code other at to j.found l.found a
