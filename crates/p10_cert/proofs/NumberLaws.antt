-- Laws of the readers of numbers and names: what is read has the one text of its value, and that text is read.
use Rattle.std.proofs.Common.{◌≡◌, ℕ, zero, suc, ◌<◌, ◌≤◌, Bool, true, false, cond, ◌||◌, ◌==◌, nat_le, List, [], ◌∷◌, ◌++◌, length, ℤ, pos, negsuc, neg_ℤ, decimal, Some, None, refl, sym, ap, subst, ◌∙◌, arith, le-leb}
use Rattle.std.proofs.lemmas.Bool.Decides.{nat_tests}
use Rattle.std.proofs.lemmas.Option.{cond_some, same_Some}
use Rattle.std.proofs.lemmas.Int.{ints}
use Rattle.std.proofs.lemmas.Fmt.{decimal_is_IsNumeral_wide}
use Rattle.std.specs.Char.{is_ascii_digit}
use Rattle.std.specs.Int.{is_in_range}
use Rattle.std.specs.Fmt.{signed_decimal}
use Rattle.std.specs.List.{list_all}
use Rattle.p10_cert.specs.Lines.{is_nondigit, is_name_byte, is_name, IsEnd, greatest_size}
use Rattle.p10_cert.specs.private.Reading.{after_run, front_of, number_at, labelled_at, negative_at, positive_at, signed_at, name_at}
use Rattle.p10_cert.proofs.Numerals.{numeral_of_takes, numeral_of_again}
use Rattle.p10_cert.proofs.Steps.{then_some, bind_is, else_some, both_true, after_front_takes, after_front_again, run_front, front_of-append, after_run-append}

-- ---- numbers

-- the text is a run of digits and what is left, which is what was read
number_is : (text digits left : List ℕ) (value most : ℕ) (r : ℕ × List ℕ) → text ≡ digits ++ left → digits ≡ decimal value → cond (nat_le value most) (Some (value, left)) None ≡ Some r → (text ≡ decimal r.0 ++ r.1) × (r.0 ≤ most)
number_is text digits left value most r parts is e =
    let found = cond_some (nat_le value most) (value, left) r e in
    let small : value ≤ most = grind (arith, nat_tests) in
    let P : ℕ × List ℕ → Type 0 = λ r. (text ≡ decimal r.0 ++ r.1) × (r.0 ≤ most) in
    subst P found.1 (parts ∙ ap (λ ds. ds ++ left) is, small)

pub number_takes : (most : ℕ) (text : List ℕ) (r : ℕ × List ℕ) → number_at most text ≡ Some r → (text ≡ decimal r.0 ++ r.1) × (r.0 ≤ most)
unfolding number_at
number_takes most text r e = then_some _ _ _ e (λ value read rest.
    number_is text (front_of text (after_run is_ascii_digit text)) (after_run is_ascii_digit text) value most r (run_front is_ascii_digit text).0 (numeral_of_takes _ value read) rest)

pub number_again : (most n : ℕ) (rest : List ℕ) → n ≤ most → most ≤ greatest_size → after_run is_ascii_digit rest ≡ rest → number_at most (decimal n ++ rest) ≡ Some (n, rest)
unfolding number_at
number_again most n rest small fits stop =
    let again = numeral_of_again n (omega arith) in
    let run : after_run is_ascii_digit (decimal n ++ rest) ≡ rest = after_run-append is_ascii_digit (decimal n) rest again.1 stop in
    rw (run, front_of-append (decimal n) rest, again.0, le-leb _ _ small) refl

-- ---- numbers after labels

pub labelled_takes : (label : List ℕ) (most : ℕ) (text : List ℕ) (r : ℕ × List ℕ) → labelled_at label most text ≡ Some r → (text ≡ label ++ (decimal r.0 ++ r.1)) × (r.0 ≤ most)
unfolding labelled_at
labelled_takes label most text r e = then_some _ _ _ e (λ rest front read.
    let number = number_takes most rest r read in
    (after_front_takes label text rest front ∙ ap (λ t. label ++ t) number.0, number.1))

pub labelled_again : (label : List ℕ) (most n : ℕ) (rest : List ℕ) → n ≤ most → most ≤ greatest_size → after_run is_ascii_digit rest ≡ rest → labelled_at label most (label ++ (decimal n ++ rest)) ≡ Some (n, rest)
unfolding labelled_at
labelled_again label most n rest small fits stop =
    bind_is _ (decimal n ++ rest) _ _ (after_front_again label (decimal n ++ rest)) (number_again most n rest small fits stop)

-- ---- numbers with signs

negative_is : (text left : List ℕ) (size : ℕ) (r : ℤ × List ℕ) → text ≡ decimal size ++ left → size ≤ greatest_size → cond (size == 0) None (Some (neg_ℤ (pos size), left)) ≡ Some r → (45 ∷ text ≡ signed_decimal r.0 ++ r.1) × IsEnd r.0
negative_is text left zero r parts small e = absurd cc
negative_is text left (suc n) r parts small e =
    let found = else_some (suc n == 0) (Some (negsuc n, left)) r e in
    let is : (negsuc n, left) ≡ r = same_Some _ _ found.1 in
    let P : ℤ × List ℕ → Type 0 = λ r. (45 ∷ text ≡ signed_decimal r.0 ++ r.1) × IsEnd r.0 in
    subst P is (ap (λ t. 45 ∷ t) parts, record { least = omega (arith, ints); greatest = omega (arith, ints) })

negative_takes : (text : List ℕ) (r : ℤ × List ℕ) → negative_at text ≡ Some r → (45 ∷ text ≡ signed_decimal r.0 ++ r.1) × IsEnd r.0
unfolding negative_at
negative_takes text r e = then_some _ _ _ e (λ s read rest.
    let number = number_takes greatest_size text s read in
    negative_is text s.1 s.0 r number.0 number.1 rest)

positive_takes : (text : List ℕ) (r : ℤ × List ℕ) → positive_at text ≡ Some r → (text ≡ signed_decimal r.0 ++ r.1) × IsEnd r.0
unfolding positive_at
positive_takes text r e = then_some _ _ _ e (λ s read rest.
    let number = number_takes greatest_size text s read in
    let small : s.0 ≤ greatest_size = number.1 in
    let is : (pos s.0, s.1) ≡ r = same_Some _ _ rest in
    let P : ℤ × List ℕ → Type 0 = λ r. (text ≡ signed_decimal r.0 ++ r.1) × IsEnd r.0 in
    subst P is (number.0, record { least = omega (arith, ints); greatest = omega (arith, ints) }))

signed_is : (x : ℕ) (xs : List ℕ) (r : ℤ × List ℕ) (minus : Bool) → (x == 45) ≡ minus → cond minus (negative_at xs) (positive_at (x ∷ xs)) ≡ Some r → (x ∷ xs ≡ signed_decimal r.0 ++ r.1) × IsEnd r.0
signed_is x xs r true t e = let is : x ≡ 45 = grind (arith, nat_tests) in rw is (negative_takes xs r e)
signed_is x xs r false t e = positive_takes (x ∷ xs) r e

pub signed_takes : (text : List ℕ) (r : ℤ × List ℕ) → signed_at text ≡ Some r → (text ≡ signed_decimal r.0 ++ r.1) × IsEnd r.0
unfolding signed_at
signed_takes [] r e = positive_takes [] r e
signed_takes (x ∷ xs) r e = signed_is x xs r (x == 45) refl e

-- digits don't begin with a minus
positive_again : (n : ℕ) (digits rest : List ℕ) → n ≤ greatest_size → decimal n ≡ digits → 0 < length digits → list_all is_ascii_digit digits ≡ true → after_run is_ascii_digit rest ≡ rest → signed_at (digits ++ rest) ≡ Some (pos n, rest)
unfolding signed_at positive_at
positive_again n [] rest small is some all stop = absurd (omega arith)
positive_again n (x ∷ xs) rest small is some all stop =
    let digit = (both_true (is_ascii_digit x) (list_all is_ascii_digit xs) all).0 in
    let plain : (x == 45) ≡ false = not_minus x digit in
    let read : number_at greatest_size ((x ∷ xs) ++ rest) ≡ Some (n, rest) = ap (λ ds. number_at greatest_size (ds ++ rest)) (sym is) ∙ number_again greatest_size n rest small (omega arith) stop in
    rw plain (bind_is _ (n, rest) _ _ read refl)
  where
    not_minus : (x : ℕ) → is_ascii_digit x ≡ true → (x == 45) ≡ false
    not_minus x digit = let range = both_true (nat_le 48 x) (nat_le x 57) digit in grind (arith, nat_tests)

pub signed_again : (z : ℤ) (rest : List ℕ) → IsEnd z → after_run is_ascii_digit rest ≡ rest → signed_at (signed_decimal z ++ rest) ≡ Some (z, rest)
unfolding signed_at negative_at
signed_again (pos n) rest fits stop =
    let small : n ≤ greatest_size = omega (arith, ints) in
    positive_again n (decimal n) rest small refl (decimal_is_IsNumeral_wide n (omega arith)).0.0 (numeral_of_again n small).1 stop
signed_again (negsuc n) rest fits stop =
    let small : suc n ≤ greatest_size = omega (arith, ints) in
    let some : (suc n == 0) ≡ false = grind (arith, nat_tests) in
    bind_is _ (suc n, rest) _ _ (number_again greatest_size (suc n) rest small (omega arith) stop) (rw some refl)

-- ---- names

pub name_takes : (text : List ℕ) (r : List ℕ × List ℕ) → name_at text ≡ Some r → (text ≡ r.0 ++ r.1) × (is_name r.0 ≡ true)
unfolding name_at
name_takes text r e =
    let front = front_of text (after_run is_name_byte text) in
    let found = cond_some (is_name front) (front, after_run is_name_byte text) r e in
    let run = run_front is_name_byte text in
    let P : List ℕ × List ℕ → Type 0 = λ r. (text ≡ r.0 ++ r.1) × (is_name r.0 ≡ true) in
    subst P found.1 (run.0, found.0)

-- a nondigit is a letter, a digit or an underscore
nondigit_in_name : (x : ℕ) → is_nondigit x ≡ true → is_name_byte x ≡ true
unfolding is_nondigit is_name_byte
nondigit_in_name x start = one_more (is_in_range 48 57 x) (is_in_range 65 90 x) (is_in_range 97 122 x) (x == 95) start
  where
    one_more : (d a b u : Bool) → ((a || b) || u) ≡ true → (((d || a) || b) || u) ≡ true
    one_more true a b u e = refl
    one_more false a b u e = e

-- the bytes of a name are letters, digits and underscores
pub name_in_bytes : (name : List ℕ) → is_name name ≡ true → list_all is_name_byte name ≡ true
name_in_bytes [] named = absurd cc
name_in_bytes (x ∷ xs) named =
    let parts = both_true (is_nondigit x) (list_all is_name_byte xs) named in
    rw (nondigit_in_name x parts.0) parts.1

pub name_again : (name rest : List ℕ) → is_name name ≡ true → after_run is_name_byte rest ≡ rest → name_at (name ++ rest) ≡ Some (name, rest)
unfolding name_at
name_again name rest named stop =
    let run : after_run is_name_byte (name ++ rest) ≡ rest = after_run-append is_name_byte name rest (name_in_bytes name named) stop in
    rw (run, front_of-append name rest, named) refl
