-- Laws of steps that may fail, of fixed texts, and of runs of bytes.
use Rattle.std.proofs.Common.{◌≡◌, ℕ, ◌-◌, Bool, true, false, not, cond, ◌&&◌, ◌==◌, List, [], ◌∷◌, ◌++◌, length, take, drop, Option, Some, None, bytes_eq, refl, ap, ◌∙◌, arith, length-append, take-append-drop}
use Rattle.std.proofs.Math.Seq.{take-append_seam, drop-append_seam}
use Rattle.std.proofs.lemmas.Slice.Eq.{bytes_eq-Decides}
use Rattle.std.specs.Char.{is_ascii_digit}
use Rattle.std.specs.List.{list_all}
use Rattle.p10_cert.specs.private.Reading.{◌>>=◌, or_else, after_front, begin_apart, after_run, front_of}

-- ---- steps

-- what a step that went well has gone through
pub then_some : {A B P : Type 0} (o : Option A) (f : A → Option B) (y : B) → (o >>= f) ≡ Some y → ((x : A) → o ≡ Some x → f x ≡ Some y → P) → P
then_some None f y e go = absurd cc
then_some (Some x) f y e go = go x refl e

-- a step whose first part is known
pub bind_is : {A B : Type 0} (o : Option A) (x : A) (f : A → Option B) (y : Option B) → o ≡ Some x → f x ≡ y → (o >>= f) ≡ y
bind_is o x f y e h = rw e h

-- what a choice that went well has gone through
pub choice_some : {A B P : Type 0} (o : Option A) (f : A → Option B) (other : Option B) (y : B) → or_else o f other ≡ Some y → ((x : A) → o ≡ Some x → f x ≡ Some y → P) → (other ≡ Some y → P) → P
choice_some None f other y e here later = later e
choice_some (Some x) f other y e here later = here x refl e

-- a choice whose first part is known
pub choice_is : {A B : Type 0} (o : Option A) (x : A) (f : A → Option B) (other : Option B) (y : Option B) → o ≡ Some x → f x ≡ y → or_else o f other ≡ y
choice_is o x f other y e h = rw e h

-- a choice whose first part is missing
pub choice_not : {A B : Type 0} (o : Option A) (f : A → Option B) (other : Option B) (y : Option B) → o ≡ None → other ≡ y → or_else o f other ≡ y
choice_not o f other y e h = rw e h

-- what a test that went well has found
pub if_some : {A : Type 0} (b : Bool) (o : Option A) (y : A) → cond b o None ≡ Some y → (b ≡ true) × (o ≡ Some y)
if_some true o y e = (refl, e)
if_some false o y e = absurd cc

-- the same where the test has to fail
pub else_some : {A : Type 0} (b : Bool) (o : Option A) (y : A) → cond b None o ≡ Some y → (b ≡ false) × (o ≡ Some y)
else_some true o y e = absurd cc
else_some false o y e = (refl, e)

-- both sides of a conjunction that holds
pub both_true : (a b : Bool) → (a && b) ≡ true → (a ≡ true) × (b ≡ true)
both_true true b e = (refl, e)
both_true false b e = absurd cc

-- ---- fixed texts

pub after_front_takes : (front text rest : List ℕ) → after_front front text ≡ Some rest → text ≡ front ++ rest
unfolding after_front
after_front_takes front text rest e =
    let found = if_some (bytes_eq (take (length front) text) front) (Some (drop (length front) text)) rest e in
    let same : take (length front) text ≡ front = (bytes_eq-Decides (take (length front) text) front).0 found.0 in
    cc (take-append-drop (length front) text)

pub after_front_again : (front rest : List ℕ) → after_front front (front ++ rest) ≡ Some rest
unfolding after_front
after_front_again front rest =
    rw (take-append_seam front rest, drop-append_seam front rest, (bytes_eq-Decides front front).1 refl) refl

-- a text that begins with another byte
pub apart : (text front : List ℕ) → begin_apart text front ≡ true → after_front front text ≡ None
unfolding after_front
apart [] [] differ = absurd cc
apart [] (y ∷ front) differ = absurd cc
apart (x ∷ text) [] differ = absurd cc
apart (x ∷ text) (y ∷ front) differ = by_first (x == y) refl differ
  where
    by_first : (same : Bool) → (x == y) ≡ same → not same ≡ true → after_front (y ∷ front) (x ∷ text) ≡ None
    by_first true same differs = absurd cc
    by_first false same differs = rw same refl

-- ---- runs

-- a text is a run of bytes that pass, and what is left after them
pub run_parts : (test : ℕ → Bool) (text : List ℕ) → (front : List ℕ) × (text ≡ front ++ after_run test text) × (list_all test front ≡ true)
run_parts test [] = ([], refl, refl)
run_parts test (x ∷ xs) = run_more test x xs (test x) refl (run_parts test xs)
  where
    run_more : (test : ℕ → Bool) (x : ℕ) (xs : List ℕ) (b : Bool) → test x ≡ b → ((front : List ℕ) × (xs ≡ front ++ after_run test xs) × (list_all test front ≡ true)) → (front : List ℕ) × (x ∷ xs ≡ front ++ after_run test (x ∷ xs)) × (list_all test front ≡ true)
    run_more test x xs true e (front, parts, all) = (x ∷ front, rw e (ap (λ ys. x ∷ ys) parts), rw e all)
    run_more test x xs false e (front, parts, all) = ([], rw e refl, refl)

pub front_of-append : (front rest : List ℕ) → front_of (front ++ rest) rest ≡ front
front_of-append front rest =
    let size : length (front ++ rest) - length rest ≡ length front = omega (arith, length-append front rest) in
    rw size (take-append_seam front rest)

-- the bytes of a run, and that they pass the test
pub run_front : (test : ℕ → Bool) (text : List ℕ) → (text ≡ front_of text (after_run test text) ++ after_run test text) × (list_all test (front_of text (after_run test text)) ≡ true)
run_front test text = run_front_is (run_parts test text)
  where
    run_front_is : ((front : List ℕ) × (text ≡ front ++ after_run test text) × (list_all test front ≡ true)) → (text ≡ front_of text (after_run test text) ++ after_run test text) × (list_all test (front_of text (after_run test text)) ≡ true)
    run_front_is (front, parts, all) =
        let is : front_of text (after_run test text) ≡ front = ap (λ t. front_of t (after_run test text)) parts ∙ front_of-append front (after_run test text) in
        (rw is parts, rw is all)

-- a run ends where bytes that pass end
pub after_run-append : (test : ℕ → Bool) (front rest : List ℕ) → list_all test front ≡ true → after_run test rest ≡ rest → after_run test (front ++ rest) ≡ rest
after_run-append test [] rest all stop = stop
after_run-append test (x ∷ xs) rest all stop =
    let passed = both_true (test x) (list_all test xs) all in
    rw passed.0 (after_run-append test xs rest passed.1 stop)

-- the front of a run of digits
pub digits_front : (text : List ℕ) → list_all is_ascii_digit (front_of text (after_run is_ascii_digit text)) ≡ true
digits_front text = (run_front is_ascii_digit text).1
