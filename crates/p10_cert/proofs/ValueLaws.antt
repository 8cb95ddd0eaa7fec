-- Laws of the readers of ranges, values and ranks: what is read has the one text of what it says, and that text is read.
use Rattle.std.proofs.Common.{◌≡◌, ℕ, suc, ◌<◌, ◌≤◌, true, false, ◌==◌, nat_le, List, [], ◌∷◌, ◌++◌, length, ℤ, pos, negsuc, ◌≤ℤ◌, int_le, codes, decimal, Some, None, refl, sym, ap, subst, ◌∙◌, arith}
use Rattle.std.proofs.lemmas.Bool.Decides.{nat_tests}
use Rattle.std.proofs.lemmas.Int.{ints}
use Rattle.std.proofs.lemmas.Option.{cond_some, same_Some}
use Rattle.std.proofs.lemmas.Fmt.{decimal_is_IsNumeral_wide}
use Rattle.std.specs.Char.{is_ascii_digit}
use Rattle.std.specs.Fmt.{signed_decimal}
use Rattle.std.specs.List.{list_all}
use Rattle.p10_cert.specs.declared.claims.Rank.{Rank}
use Rattle.p10_cert.specs.declared.claims.Rank.TheVariants.{Up, Down, One, Task}
use Rattle.p10_range.specs.Ranges.{Interval}
use Rattle.p10_cert.specs.Claims.{Value, Number, Address, Nothing}
use Rattle.p10_cert.specs.Lines.{◌then◌, ends_then, value_then, IsEnd, AreEnds, IsResult, IsBound}
use Rattle.p10_cert.specs.private.Reading.{after_front, after_run, ends_at, value_at, bound_at, rank_at, greatest_index}
use Rattle.p10_cert.proofs.Steps.{then_some, bind_is, choice_some, choice_is, choice_not, both_true, after_front_takes, after_front_again}
use Rattle.p10_cert.proofs.Numerals.{numeral_of_again}
use Rattle.p10_cert.proofs.NumberLaws.{number_takes, number_again, signed_takes, signed_again}

-- ---- ends

ordered_from : (low high : ℤ) → int_le low high ≡ true → low ≤ℤ high
ordered_from low high e = grind (arith, ints)

ordered_test : (low high : ℤ) → low ≤ℤ high → int_le low high ≡ true
ordered_test low high h = grind (arith, ints)

pub ends_takes : (text : List ℕ) (r : Interval × List ℕ) → ends_at text ≡ Some r → (text ≡ ends_then r.0 r.1) × AreEnds r.0
unfolding ends_at
ends_takes text r e =
    then_some _ _ _ e (λ low e0 f0. then_some _ _ _ f0 (λ middle e1 f1. then_some _ _ _ f1 (λ high e2 f2.
    let p0 = signed_takes text low e0 in
    let p1 = after_front_takes (codes " ") low.1 middle e1 in
    let p2 = signed_takes middle high e2 in
    let found = cond_some (int_le low.0 high.0) (record { low = low.0; high = high.0 }, high.1) r f2 in
    let P : Interval × List ℕ → Type 0 = λ r. (text ≡ ends_then r.0 r.1) × AreEnds r.0 in
    subst P found.1 (
      rw (p0.0, p1, p2.0) refl,
      record { low = p0.1; high = p2.1; ordered = ordered_from low.0 high.0 found.0 },
    ))))

pub ends_again : (ends : Interval) (rest : List ℕ) → AreEnds ends → after_run is_ascii_digit rest ≡ rest → ends_at (ends_then ends rest) ≡ Some (ends, rest)
unfolding ends_at
ends_again ends rest fits stop =
    let t0 : List ℕ = codes " " ++ (signed_decimal ends.high ++ rest) in
    bind_is _ (ends.low, t0) _ _ (signed_again ends.low t0 fits.low refl)
    (bind_is _ (signed_decimal ends.high ++ rest) _ _ (after_front_again (codes " ") (signed_decimal ends.high ++ rest))
    (bind_is _ (ends.high, rest) _ _ (signed_again ends.high rest fits.high stop)
    (rw (ordered_test ends.low ends.high fits.ordered) refl)))

-- ---- values

-- a text that begins with another byte than a fixed text
no_front : (c x : ℕ) (front text : List ℕ) → (x == c) ≡ false → after_front (c ∷ front) (x ∷ text) ≡ None
unfolding after_front
no_front c x front text e = rw e refl

-- what begins with neither a star nor the first letter of `void`
record IsPlainStart (text : List ℕ) : Type 0 where
  first : ℕ
  others : List ℕ
  parts : text ≡ first ∷ others
  star : (first == 42) ≡ false
  letter : (first == 118) ≡ false

digits_start : (digits : List ℕ) → 0 < length digits → list_all is_ascii_digit digits ≡ true → IsPlainStart digits
digits_start [] some all = absurd (omega (arith, some))
digits_start (x ∷ xs) some all =
    let digit = (both_true (is_ascii_digit x) (list_all is_ascii_digit xs) all).0 in
    record { first = x; others = xs; parts = refl; star = not_star x digit; letter = not_letter x digit }
  where
    not_star : (x : ℕ) → is_ascii_digit x ≡ true → (x == 42) ≡ false
    not_star x digit = let range = both_true (nat_le 48 x) (nat_le x 57) digit in grind (arith, nat_tests)

    not_letter : (x : ℕ) → is_ascii_digit x ≡ true → (x == 118) ≡ false
    not_letter x digit = let range = both_true (nat_le 48 x) (nat_le x 57) digit in grind (arith, nat_tests)

signed_start : (z : ℤ) → IsEnd z → IsPlainStart (signed_decimal z)
signed_start (pos n) fits = digits_start (decimal n) (decimal_is_IsNumeral_wide n (omega (arith, ints))).0.0 (numeral_of_again n (omega (arith, ints))).1
signed_start (negsuc n) fits = record { first = 45; others = decimal (suc n); parts = refl; star = refl; letter = refl }

-- a number is no fixed text of a value
number_is_plain : (text rest : List ℕ) → IsPlainStart text → (after_front (codes "*") (text ++ rest) ≡ None) × (after_front (codes "void") (text ++ rest) ≡ None)
number_is_plain text rest start =
    let P : List ℕ → Type 0 = λ text. (after_front (codes "*") (text ++ rest) ≡ None) × (after_front (codes "void") (text ++ rest) ≡ None) in
    subst P (sym start.parts) (
      no_front 42 start.first [] (start.others ++ rest) start.star,
      no_front 118 start.first (codes "oid") (start.others ++ rest) start.letter,
    )

pub value_takes : (text : List ℕ) (r : Value × List ℕ) → value_at text ≡ Some r → (text ≡ value_then r.0 r.1) × IsResult r.0
unfolding value_at
value_takes text r e =
    let P : Value × List ℕ → Type 0 = λ r. (text ≡ value_then r.0 r.1) × IsResult r.0 in
    choice_some _ _ _ _ e (λ rest e0 f0. subst P (same_Some _ _ f0) (after_front_takes (codes "*") text rest e0, tt)) (λ f.
    choice_some _ _ _ _ f (λ rest e0 f0. subst P (same_Some _ _ f0) (after_front_takes (codes "void") text rest e0, tt)) (λ g.
    then_some _ _ _ g (λ ends e0 f0. subst P (same_Some _ _ f0) (ends_takes text ends e0))))

pub value_again : (v : Value) (rest : List ℕ) → IsResult v → after_run is_ascii_digit rest ≡ rest → value_at (value_then v rest) ≡ Some (v, rest)
unfolding value_at
value_again (Number ends) rest fits stop =
    let apart = number_is_plain (signed_decimal ends.low) (codes " " ++ (signed_decimal ends.high ++ rest)) (signed_start ends.low fits.low) in
    choice_not _ _ _ _ apart.0 (choice_not _ _ _ _ apart.1 (bind_is _ (ends, rest) _ _ (ends_again ends rest fits stop) refl))
value_again Address rest fits stop = choice_is _ rest _ _ _ (after_front_again (codes "*") rest) refl
value_again Nothing rest fits stop = choice_not _ _ _ _ (nothing_is_plain rest) (choice_is _ rest _ _ _ (after_front_again (codes "void") rest) refl)
  where
    nothing_is_plain : (rest : List ℕ) → after_front (codes "*") (codes "void" ++ rest) ≡ None
    nothing_is_plain rest = no_front 42 118 [] (codes "oid" ++ rest) refl

-- ---- ranks

-- a variable and a bound, and what stands after them
abbrev bound_then : ℕ → ℤ → List ℕ → List ℕ
bound_then var bound rest = decimal var then codes " " then signed_decimal bound then rest

bound_takes : (text : List ℕ) (r : ℕ × ℤ × List ℕ) → bound_at text ≡ Some r → (text ≡ bound_then r.0 r.1 r.2) × IsBound r.0 r.1
unfolding bound_at
bound_takes text r e =
    then_some _ _ _ e (λ var e0 f0. then_some _ _ _ f0 (λ middle e1 f1. then_some _ _ _ f1 (λ bound e2 f2.
    let p0 = number_takes greatest_index text var e0 in
    let p1 = after_front_takes (codes " ") var.1 middle e1 in
    let p2 = signed_takes middle bound e2 in
    let P : ℕ × ℤ × List ℕ → Type 0 = λ r. (text ≡ bound_then r.0 r.1 r.2) × IsBound r.0 r.1 in
    subst P (same_Some _ _ f2) (
      rw (p0.0, p1, p2.0) refl,
      record { known = record { small = omega (arith, p0.1) }; small = p2.1 },
    ))))

bound_again : (var : ℕ) (bound : ℤ) (rest : List ℕ) → IsBound var bound → after_run is_ascii_digit rest ≡ rest → bound_at (bound_then var bound rest) ≡ Some (var, bound, rest)
unfolding bound_at
bound_again var bound rest fits stop =
    let small : var ≤ greatest_index = omega (arith, fits.known.small) in
    let t0 : List ℕ = codes " " ++ (signed_decimal bound ++ rest) in
    bind_is _ (var, t0) _ _ (number_again greatest_index var t0 small (omega arith) refl)
    (bind_is _ (signed_decimal bound ++ rest) _ _ (after_front_again (codes " ") (signed_decimal bound ++ rest))
    (bind_is _ (bound, rest) _ _ (signed_again bound rest fits.small stop) refl))

-- a rank after the depth of its loop, and what stands after it
abbrev pub rank_then : Rank → List ℕ → List ℕ
rank_then (Up var bound) rest = codes " up " then bound_then var bound rest
rank_then (Down var bound) rest = codes " down " then bound_then var bound rest
rank_then One rest = codes " one" then rest
rank_then Task rest = rest

-- a rank of a loop that has an end
abbrev pub IsEnding : Rank → Type 0
IsEnding (Up var bound) = IsBound var bound
IsEnding (Down var bound) = IsBound var bound
IsEnding One = Unit {0}
IsEnding Task = ⊥

pub rank_takes : (text : List ℕ) (r : Rank × List ℕ) → rank_at text ≡ Some r → (text ≡ rank_then r.0 r.1) × IsEnding r.0
unfolding rank_at
rank_takes text r e =
    let P : Rank × List ℕ → Type 0 = λ r. (text ≡ rank_then r.0 r.1) × IsEnding r.0 in
    choice_some _ _ _ _ e (λ rest e0 f0. then_some _ _ _ f0 (λ bound e1 f1.
    let p = bound_takes rest bound e1 in
    subst P (same_Some _ _ f1) (after_front_takes (codes " up ") text rest e0 ∙ ap (λ t. codes " up " ++ t) p.0, p.1))) (λ f.
    choice_some _ _ _ _ f (λ rest e0 f0. then_some _ _ _ f0 (λ bound e1 f1.
    let p = bound_takes rest bound e1 in
    subst P (same_Some _ _ f1) (after_front_takes (codes " down ") text rest e0 ∙ ap (λ t. codes " down " ++ t) p.0, p.1))) (λ g.
    then_some _ _ _ g (λ rest e0 f0. subst P (same_Some _ _ f0) (after_front_takes (codes " one") text rest e0, tt))))

-- the words of one rank are not those of another
down_is_not_up : (rest : List ℕ) → after_front (codes " up ") (codes " down " ++ rest) ≡ None
unfolding after_front
down_is_not_up rest = refl

one_is_not_up : (rest : List ℕ) → after_front (codes " up ") (codes " one" ++ rest) ≡ None
unfolding after_front
one_is_not_up rest = refl

one_is_not_down : (rest : List ℕ) → after_front (codes " down ") (codes " one" ++ rest) ≡ None
unfolding after_front
one_is_not_down rest = refl

pub rank_again : (rank : Rank) (rest : List ℕ) → IsEnding rank → after_run is_ascii_digit rest ≡ rest → rank_at (rank_then rank rest) ≡ Some (rank, rest)
unfolding rank_at
rank_again (Up var bound) rest fits stop =
    choice_is _ (bound_then var bound rest) _ _ _ (after_front_again (codes " up ") (bound_then var bound rest))
    (bind_is _ (var, bound, rest) _ _ (bound_again var bound rest fits stop) refl)
rank_again (Down var bound) rest fits stop =
    choice_not _ _ _ _ (down_is_not_up (bound_then var bound rest))
    (choice_is _ (bound_then var bound rest) _ _ _ (after_front_again (codes " down ") (bound_then var bound rest))
    (bind_is _ (var, bound, rest) _ _ (bound_again var bound rest fits stop) refl))
rank_again One rest fits stop =
    choice_not _ _ _ _ (one_is_not_up rest) (choice_not _ _ _ _ (one_is_not_down rest) (bind_is _ rest _ _ (after_front_again (codes " one") rest) refl))
rank_again Task rest fits stop = absurd fits
