-- What is packed is read again, whatever stands after it.
use Rattle.std.proofs.Common.{◌≡◌, ℕ, zero, suc, ◌+◌, ◌-◌, ◌*◌, ◌/◌, ◌%◌, ◌^◌, ◌<◌, ◌≤◌, Bool, true, false, cond, ◌==◌, nat_lt, List, [], ◌∷◌, ◌++◌, ℤ, pos, negsuc, neg_ℤ, ◌+ℤ◌, ◌-ℤ◌, ◌≤ℤ◌, refl, sym, ap, subst, ◌∙◌, arith, append_assoc, append-nil, zero-add, pow-suc}
use Rattle.std.specs.Prelude.{int_le, unsigned_abs, FitsSigned}
use Rattle.std.specs.Int.{w128, saturate_signed}
use Rattle.std.proofs.lemmas.Bool.Decides.{nat_tests}
use Rattle.std.proofs.lemmas.Int.{ints}
use Rattle.p10_cert.specs.Vars.{Var}
use Rattle.p10_cert.specs.private.Packing.{with_bits, number_from, high_bytes, number_bytes, folded, unfolded, end_above, step_to, step_by, unpacked_at, IsPacked, vars_from, ArePacked}

-- ## numbers

pub high_none : (most number : ℕ) → most ≡ 0 → high_bytes most number ≡ []
unfolding high_bytes
high_none zero number e = refl
high_none (suc most) number e = absurd (omega (arith, e))

pub high_zero : (most number : ℕ) → number ≡ 0 → high_bytes most number ≡ []
unfolding high_bytes
high_zero zero number e = refl
high_zero (suc most) number e = let none : (number == 0) ≡ true = grind (arith, nat_tests) in rw none refl

pub high_more : (most number : ℕ) → 0 < most → 0 < number → high_bytes most number ≡ high_bytes (most - 1) (number / 128) ++ (128 + number % 128) ∷ []
unfolding high_bytes
high_more zero number some more = absurd (omega (arith, some))
high_more (suc most) number some more =
    let there : (number == 0) ≡ false = grind (arith, nat_tests) in
    let less : suc most - 1 ≡ most = omega arith in
    rw (there, less) refl

-- a byte that isn't the last one
from_high : (number byte : ℕ) (rest : List ℕ) → 128 ≤ byte → number_from number (byte ∷ rest) ≡ number_from (with_bits number byte) rest
from_high number byte rest high = let more : nat_lt byte 128 ≡ false = grind (arith, nat_tests) in rw more refl

-- the last byte
from_last : (number byte : ℕ) (rest : List ℕ) → byte < 128 → number_from number (byte ∷ rest) ≡ (with_bits number byte, rest)
from_last number byte rest low = let last : nat_lt byte 128 ≡ true = grind (arith, nat_tests) in rw last refl

high_read : (most number : ℕ) (rest : List ℕ) → number < 128 ^ most → number < 2 ^ 128 → number_from 0 (high_bytes most number ++ rest) ≡ number_from number rest
unfolding high_bytes
high_read zero number rest few fits = let none : 0 ≡ number = omega (arith, few) in ap (λ n. number_from n rest) none
high_read (suc most) number rest few fits = by (number == 0) refl (high_read most (number / 128) ((128 + number % 128) ∷ rest))
  where
    by : (b : Bool) → (number == 0) ≡ b
        → (number / 128 < 128 ^ most → number / 128 < 2 ^ 128 → number_from 0 (high_bytes most (number / 128) ++ ((128 + number % 128) ∷ rest)) ≡ number_from (number / 128) ((128 + number % 128) ∷ rest))
        → number_from 0 (cond b [] (high_bytes most (number / 128) ++ (128 + number % 128) ∷ []) ++ rest) ≡ number_from number rest
    by true e before = let none : 0 ≡ number = grind (arith, nat_tests) in ap (λ n. number_from n rest) none
    by false e before =
        let fewer : number / 128 < 128 ^ most = omega (arith, few, pow-suc 128 most) in
        let same : with_bits (number / 128) (128 + number % 128) ≡ number = omega (arith, fits) in
        ap (number_from 0) (append_assoc (high_bytes most (number / 128)) ((128 + number % 128) ∷ []) rest)
        ∙ before fewer (omega (arith, fits))
        ∙ from_high (number / 128) (128 + number % 128) rest (omega arith)
        ∙ ap (λ n. number_from n rest) same

pub number_read : (number : ℕ) (rest : List ℕ) → number < 2 ^ 128 → number_from 0 (number_bytes number ++ rest) ≡ (number, rest)
unfolding number_bytes
number_read number rest fits =
    let same : with_bits (number / 128) (number % 128) ≡ number = omega (arith, fits) in
    ap (number_from 0) (append_assoc (high_bytes 18 (number / 128)) ((number % 128) ∷ []) rest)
    ∙ high_read 18 (number / 128) ((number % 128) ∷ rest) (omega (arith, fits)) (omega (arith, fits))
    ∙ from_last (number / 128) (number % 128) rest (omega arith)
    ∙ ap (λ n. (n, rest)) same

-- ## ends and numbers of variables

-- a choice by a test of which the answer is known
chosen : {A : Type 0} (b : Bool) (x y : A) → b ≡ true → cond b x y ≡ x
chosen b x y e = ap (λ b. cond b x y) e

other : {A : Type 0} (b : Bool) (x y : A) → b ≡ false → cond b x y ≡ y
other b x y e = ap (λ b. cond b x y) e

folded_pos : (n : ℕ) → folded (pos n) ≡ 2 * n
folded_pos n = chosen (int_le (pos 0) (pos n)) (2 * n) (2 * (n - 1) + 1) (grind (arith, ints))

folded_neg : (n : ℕ) → folded (negsuc n) ≡ 2 * n + 1
folded_neg n = other (int_le (pos 0) (negsuc n)) (2 * suc n) (2 * (suc n - 1) + 1) (grind (arith, ints)) ∙ omega arith

unfolded_even : (n : ℕ) → unfolded (2 * n) ≡ pos n
unfolded_even n =
    let even : (((2 * n) % 2) == 0) ≡ true = grind (arith, nat_tests) in
    let half : (2 * n) / 2 ≡ n = omega arith in
    chosen (((2 * n) % 2) == 0) (pos ((2 * n) / 2)) (neg_ℤ (pos ((2 * n) / 2)) -ℤ pos 1) even ∙ ap pos half

unfolded_odd : (n : ℕ) → unfolded (2 * n + 1) ≡ negsuc n
unfolded_odd n =
    let odd : (((2 * n + 1) % 2) == 0) ≡ false = grind (arith, nat_tests) in
    let half : (2 * n + 1) / 2 ≡ n = omega arith in
    let less : neg_ℤ (pos n) -ℤ pos 1 ≡ negsuc n = omega (arith, ints) in
    other (((2 * n + 1) % 2) == 0) (pos ((2 * n + 1) / 2)) (neg_ℤ (pos ((2 * n + 1) / 2)) -ℤ pos 1) odd ∙ ap (λ m. neg_ℤ (pos m) -ℤ pos 1) half ∙ less

pub unfolded_again : (z : ℤ) → unfolded (folded z) ≡ z
unfolded_again (pos n) = ap unfolded (folded_pos n) ∙ unfolded_even n
unfolded_again (negsuc n) = ap unfolded (folded_neg n) ∙ unfolded_odd n

pub end_again : (low high : ℤ) → FitsSigned w128 low → FitsSigned w128 high → low ≤ℤ high → end_above low (unsigned_abs (high -ℤ low)) ≡ high
end_again low high small great ordered =
    let same : low +ℤ pos (unsigned_abs (high -ℤ low)) ≡ high = omega (arith, ints) in
    ap (saturate_signed w128) same ∙ grind (arith, ints)

pub step_again : (last var : ℕ) → last < 2 ^ 32 → var < 2 ^ 32 → step_by last (step_to last var) ≡ var
step_again last var below within = omega (arith, below, within)

-- ## a variable

pub parts_read : (last step low width : ℕ) (v : Var) (bytes : List ℕ) → step < 2 ^ 128 → low < 2 ^ 128 → width < 2 ^ 128
    → bytes ≡ (number_bytes step ++ number_bytes low) ++ number_bytes width
    → step_by last step ≡ v.var → unfolded low ≡ v.ends.low → end_above (unfolded low) width ≡ v.ends.high → IsPacked last v bytes
unfolding unpacked_at
parts_read last step low width v bytes small little narrow parts at least most = record { read = λ rest. read rest }
  where
    read : (rest : List ℕ) → unpacked_at last (bytes ++ rest) ≡ (v, rest)
    read rest =
        let text : bytes ++ rest ≡ number_bytes step ++ (number_bytes low ++ (number_bytes width ++ rest)) =
        ap (λ b. b ++ rest) parts ∙ append_assoc (number_bytes step ++ number_bytes low) (number_bytes width) rest ∙ append_assoc (number_bytes step) (number_bytes low) (number_bytes width ++ rest) in
        let first : number_from 0 (bytes ++ rest) ≡ (step, number_bytes low ++ (number_bytes width ++ rest)) = ap (number_from 0) text ∙ number_read step (number_bytes low ++ (number_bytes width ++ rest)) small in
        let second : number_from 0 (number_bytes low ++ (number_bytes width ++ rest)) ≡ (low, number_bytes width ++ rest) = number_read low (number_bytes width ++ rest) little in
        let third : number_from 0 (number_bytes width ++ rest) ≡ (width, rest) = number_read width rest narrow in
        rw (first, second, third, at, most, least) refl

-- ## variables one after the other

pub none_packed : (bytes : List ℕ) → bytes ≡ [] → ArePacked 0 0 bytes
none_packed bytes none = record { seam = λ more rest. ap (λ n. vars_from n 0 (bytes ++ rest)) (zero-add more) ∙ ap (λ b. vars_from more 0 (b ++ rest)) none }

-- the first of several, and the others
one_first : (last more : ℕ) (bytes rest : List ℕ) (v : Var) → unpacked_at last bytes ≡ (v, rest) → vars_from (suc more) last bytes ≡ v ∷ vars_from more v.var rest
one_first last more bytes rest v e = ap (λ (r : Var × List ℕ). r.0 ∷ vars_from more r.0.var r.1) e

-- one variable more
pub vars_pushed : (count last : ℕ) (bytes more : List ℕ) (v : Var) → ArePacked count last bytes → IsPacked last v more → vars_from (count + 1) 0 (bytes ++ more) ≡ vars_from count 0 bytes ++ v ∷ []
vars_pushed count last bytes more v old one =
    let alone : unpacked_at last more ≡ (v, []) = ap (unpacked_at last) (sym (append-nil more)) ∙ one.read [] in
    old.seam 1 more ∙ ap (λ vs. vars_from count 0 bytes ++ vs) (one_first last 0 more [] v alone)

pub packed_more : (count last : ℕ) (bytes more : List ℕ) (v : Var) → ArePacked count last bytes → IsPacked last v more → ArePacked (count + 1) v.var (bytes ++ more)
packed_more count last bytes more v old one = record { seam = seam }
  where
    seam : (n : ℕ) (rest : List ℕ) → vars_from (count + 1 + n) 0 ((bytes ++ more) ++ rest) ≡ vars_from (count + 1) 0 (bytes ++ more) ++ vars_from n v.var rest
    seam n rest =
        let many : count + 1 + n ≡ count + suc n = omega arith in
        ap (λ k. vars_from k 0 ((bytes ++ more) ++ rest)) many
        ∙ ap (vars_from (count + suc n) 0) (append_assoc bytes more rest)
        ∙ old.seam (suc n) (more ++ rest)
        ∙ ap (λ vs. vars_from count 0 bytes ++ vs) (one_first last n (more ++ rest) rest v (one.read rest))
        ∙ sym (append_assoc (vars_from count 0 bytes) (v ∷ []) (vars_from n v.var rest))
        ∙ ap (λ vs. vs ++ vars_from n v.var rest) (sym (vars_pushed count last bytes more v old one))

-- the first of those that are left
pub next_read : (left last : ℕ) (bytes rest : List ℕ) (v : Var) → 0 < left → v ≡ (unpacked_at last bytes).0 → rest ≡ (unpacked_at last bytes).1 → vars_from left last bytes ≡ v ∷ vars_from (left - 1) v.var rest
next_read zero last bytes rest v some first after = absurd (omega (arith, some))
next_read (suc left) last bytes rest v some first after =
    let less : left ≡ suc left - 1 = omega arith in
    ap (λ (u : Var). u ∷ vars_from left u.var (unpacked_at last bytes).1) (sym first)
    ∙ ap (λ b. v ∷ vars_from left v.var b) (sym after)
    ∙ ap (λ n. v ∷ vars_from n v.var rest) less

pub none_left : (left last : ℕ) (bytes : List ℕ) → left ≡ 0 → vars_from left last bytes ≡ []
none_left zero last bytes e = refl
none_left (suc left) last bytes e = absurd (omega (arith, e))

-- ## what the code has

-- bytes that are equal hold the same
pub same_packed : (count last : ℕ) (bytes others : List ℕ) → others ≡ bytes → ArePacked count last bytes → ArePacked count last others
same_packed count last bytes others same packed = subst (ArePacked count last) (sym same) packed

-- one variable more, where the code has its count and all bytes
pub pushed : (count now last : ℕ) (bytes more all : List ℕ) (v : Var) → now ≡ count + 1 → all ≡ bytes ++ more → ArePacked count last bytes → IsPacked last v more → ArePacked now v.var all
pushed count now last bytes more all v one parts old new = subst (λ n. ArePacked n v.var all) (sym one) (subst (ArePacked (count + 1) v.var) (sym parts) (packed_more count last bytes more v old new))

pub pushed_view : (count now last : ℕ) (bytes more all : List ℕ) (v : Var) (before : List Var) → now ≡ count + 1 → all ≡ bytes ++ more → ArePacked count last bytes → IsPacked last v more → vars_from count 0 bytes ≡ before → vars_from now 0 all ≡ before ++ v ∷ []
pushed_view count now last bytes more all v before one parts old new is =
    ap (λ n. vars_from n 0 all) one ∙ ap (vars_from (count + 1) 0) parts ∙ vars_pushed count last bytes more v old new ∙ ap (λ vs. vs ++ v ∷ []) is

-- the next of those that are left, where the code has them
pub next_view : (left last : ℕ) (bytes rest : List ℕ) (v : Var) (before : List Var) → 0 < left → v ≡ (unpacked_at last bytes).0 → rest ≡ (unpacked_at last bytes).1 → vars_from left last bytes ≡ before → before ≡ v ∷ vars_from (left - 1) v.var rest
next_view left last bytes rest v before some first after is = sym is ∙ next_read left last bytes rest v some first after

-- what the code puts at the end of bytes
pub put_none : (most number : ℕ) (bytes : List ℕ) → most ≡ 0 → bytes ≡ bytes ++ high_bytes most number
put_none most number bytes e = sym (append-nil bytes) ∙ ap (λ more. bytes ++ more) (sym (high_none most number e))

pub put_zero : (most number : ℕ) (bytes : List ℕ) → number ≡ 0 → bytes ≡ bytes ++ high_bytes most number
put_zero most number bytes e = sym (append-nil bytes) ∙ ap (λ more. bytes ++ more) (sym (high_zero most number e))

pub put_more : (most number : ℕ) (before middle after : List ℕ) → 0 < most → 0 < number → middle ≡ before ++ high_bytes (most - 1) (number / 128) → after ≡ middle ++ (128 + number % 128) ∷ [] → after ≡ before ++ high_bytes most number
put_more most number before middle after some more first then =
    then ∙ ap (λ b. b ++ (128 + number % 128) ∷ []) first ∙ append_assoc before (high_bytes (most - 1) (number / 128)) ((128 + number % 128) ∷ []) ∙ ap (λ b. before ++ b) (sym (high_more most number some more))

pub put_last : (number : ℕ) (before middle after : List ℕ) → middle ≡ before ++ high_bytes 18 (number / 128) → after ≡ middle ++ (number % 128) ∷ [] → after ≡ before ++ number_bytes number
unfolding number_bytes
put_last number before middle after first then = then ∙ ap (λ b. b ++ (number % 128) ∷ []) first ∙ append_assoc before (high_bytes 18 (number / 128)) ((number % 128) ∷ [])
