-- Laws of the reader of digests: what is read has the one text of its bytes, and that text is read.
use Rattle.std.proofs.Common.{◌≡◌, ℕ, zero, suc, ◌+◌, ◌*◌, ◌/◌, ◌%◌, ◌-◌, ◌<◌, ◌≤◌, Bool, true, false, cond, ◌&&◌, ◌||◌, ◌==◌, nat_le, nat_lt, List, [], ◌∷◌, ◌++◌, length, take, drop, codes, bytes_eq, Option, Some, None, refl, sym, ap, subst, ◌∙◌, arith, take-append-drop, length-append}
use Rattle.std.proofs.Math.Seq.{take-append_seam, drop-append_seam}
use Rattle.std.proofs.lemmas.Bool.{true≢false}
use Rattle.std.proofs.lemmas.Bool.Decides.{nat_tests}
use Rattle.std.proofs.lemmas.Option.{cond_some, same_Some}
use Rattle.std.proofs.lemmas.Slice.Eq.{bytes_eq-Decides}
use Rattle.std.specs.Char.{is_ascii_digit}
use Rattle.std.specs.Fmt.{digit_glyph}
use Rattle.std.specs.List.{AllByRecursion, list_all}
use Rattle.p10_base.specs.Hex.{hex_text}
use Rattle.p10_cert.specs.Lines.{IsByte, IsDigest}
use Rattle.p10_cert.specs.private.Reading.{after_front, is_hex_digit, nibble, spelled, digest_of, digest_at}
use Rattle.p10_cert.proofs.Steps.{then_some, bind_is, if_some, else_some, both_true, after_front_takes, after_front_again}

-- ---- what digits spell

spelled_size : (digits : List ℕ) (n : ℕ) → length digits ≡ n + n → length (spelled digits) ≡ n
spelled_size [] zero e = refl
spelled_size [] (suc n) e = absurd (omega (arith, e))
spelled_size (x ∷ []) n e = absurd (omega (arith, e))
spelled_size (x ∷ y ∷ digits) zero e = absurd (omega (arith, e))
spelled_size (x ∷ y ∷ digits) (suc n) e = ap suc (spelled_size digits n (omega (arith, e)))

spelled_bytes : (digits : List ℕ) → AllByRecursion IsByte (spelled digits)
spelled_bytes [] = tt
spelled_bytes (x ∷ []) = tt
spelled_bytes (x ∷ y ∷ digits) = (record { small = omega arith }, spelled_bytes digits)

-- ---- a byte as two digits

nibble_glyph : (n : ℕ) → n < 16 → nibble (digit_glyph false n) ≡ n
nibble_glyph n small = by_size n (nat_lt n 10) refl small
  where
    by_size : (n : ℕ) (b : Bool) → nat_lt n 10 ≡ b → n < 16 → nibble (cond b (48 + n) (87 + n)) ≡ n
    by_size n true e small = let high : nat_le 97 (48 + n) ≡ false = grind (arith, nat_tests) in rw high (omega arith)
    by_size n false e small = let high : nat_le 97 (87 + n) ≡ true = grind (arith, nat_tests) in rw high (omega arith)

hex_size : (bytes : List ℕ) → length (hex_text bytes) ≡ length bytes + length bytes
hex_size [] = omega arith
hex_size (x ∷ bytes) = omega (arith, hex_size bytes)

spelled_hex : (bytes : List ℕ) → AllByRecursion IsByte bytes → spelled (hex_text bytes) ≡ bytes
spelled_hex [] all = refl
spelled_hex (x ∷ bytes) all =
    let high : nibble (digit_glyph false (x / 16)) ≡ x / 16 = nibble_glyph (x / 16) (omega (arith, all.0.small)) in
    let low : nibble (digit_glyph false (x % 16)) ≡ x % 16 = nibble_glyph (x % 16) (omega arith) in
    let byte : 16 * (x / 16) + x % 16 ≡ x = omega arith in
    rw (high, low, byte, spelled_hex bytes all.1) refl

-- ---- digests

digest_of_takes : (digits digest : List ℕ) → digest_of digits ≡ Some digest → (digits ≡ hex_text digest) × IsDigest digest
unfolding digest_of
digest_of_takes digits digest e =
    let long = if_some (length digits == 64) (cond (bytes_eq (hex_text (spelled digits)) digits) (Some (spelled digits)) None) digest e in
    let same = cond_some (bytes_eq (hex_text (spelled digits)) digits) (spelled digits) digest long.1 in
    let size : (length digits == 64) ≡ true = long.0 in
    let many : length digits ≡ 32 + 32 = grind (arith, nat_tests) in
    let text : hex_text (spelled digits) ≡ digits = (bytes_eq-Decides (hex_text (spelled digits)) digits).0 same.0 in
    let P : List ℕ → Type 0 = λ d. (digits ≡ hex_text d) × IsDigest d in
    subst P same.1 (sym text, record { size = spelled_size digits 32 many; bytes = spelled_bytes digits })

pub hex_long : (digest : List ℕ) → IsDigest digest → length (hex_text digest) ≡ 64
hex_long digest fits = omega (arith, hex_size digest, fits.size)

digest_of_again : (digest : List ℕ) → IsDigest digest → digest_of (hex_text digest) ≡ Some digest
unfolding digest_of
digest_of_again digest fits =
    let long : (length (hex_text digest) == 64) ≡ true = let many = hex_long digest fits in grind (arith, nat_tests) in
    rw (long, spelled_hex digest fits.bytes, (bytes_eq-Decides (hex_text digest) (hex_text digest)).1 refl) refl

pub digest_takes : (text : List ℕ) (r : List ℕ × List ℕ) → digest_at text ≡ Some r → (text ≡ hex_text r.0 ++ (codes "\n" ++ r.1)) × IsDigest r.0
unfolding digest_at
digest_takes text r e =
    then_some _ _ _ (else_some (nat_lt (length text) 64) _ r e).1 (λ digest e0 f0. then_some _ _ _ f0 (λ rest e1 f1.
    let p0 = digest_of_takes (take 64 text) digest e0 in
    let p1 = after_front_takes (codes "\n") (drop 64 text) rest e1 in
    let parts : text ≡ hex_text digest ++ (codes "\n" ++ rest) = sym (take-append-drop 64 text) ∙ ap (λ t. t ++ drop 64 text) p0.0 ∙ ap (λ t. hex_text digest ++ t) p1 in
    let P : List ℕ × List ℕ → Type 0 = λ r. (text ≡ hex_text r.0 ++ (codes "\n" ++ r.1)) × IsDigest r.0 in
    subst P (same_Some _ _ f1) (parts, p0.1)))

-- a choice that isn't the first
not_first : {A : Type 0} (b : Bool) (o y : Option A) → b ≡ false → o ≡ y → cond b None o ≡ y
not_first b o y e h = rw e h

pub digest_again : (digest rest : List ℕ) → IsDigest digest → digest_at (hex_text digest ++ (codes "\n" ++ rest)) ≡ Some (digest, rest)
unfolding digest_at
digest_again digest rest fits =
    let size : 64 ≡ length (hex_text digest) = sym (hex_long digest fits) in
    let text : List ℕ = hex_text digest ++ (codes "\n" ++ rest) in
    let many : 64 ≤ length text = omega (arith, hex_long digest fits, length-append (hex_text digest) (codes "\n" ++ rest)) in
    let long : nat_lt (length text) 64 ≡ false = grind (arith, nat_tests) in
    let front : take 64 text ≡ hex_text digest = ap (λ n. take n text) size ∙ take-append_seam (hex_text digest) (codes "\n" ++ rest) in
    let back : drop 64 text ≡ codes "\n" ++ rest = ap (λ n. drop n text) size ∙ drop-append_seam (hex_text digest) (codes "\n" ++ rest) in
    not_first (nat_lt (length text) 64) _ _ long (
    bind_is _ digest _ _ (ap digest_of front ∙ digest_of_again digest fits)
    (bind_is _ rest _ _ (ap (λ t. after_front (codes "\n") t) back ∙ after_front_again (codes "\n") rest) refl))

-- ---- digits that spell a digest

-- the digit that is written for what a byte spells is this byte exactly where it is a digit
glyph_same : (x : ℕ) → is_hex_digit x ≡ true → digit_glyph false (nibble x) ≡ x
unfolding is_hex_digit
glyph_same x is = by_kind (is_ascii_digit x) refl is
  where
    letter : nat_le 97 x ≡ true → nat_le x 102 ≡ true → digit_glyph false (nibble x) ≡ x
    letter low high =
        let least : 97 ≤ x = grind (arith, nat_tests) in
        let most : x ≤ 102 = grind (arith, nat_tests) in
        let value : (x - 87) % 16 ≡ x - 87 = omega (arith, least, most) in
        let big : nat_lt (x - 87) 10 ≡ false = grind (arith, nat_tests) in
        rw (low, value, big) (omega (arith, least))

    digit : nat_le 48 x ≡ true → nat_le x 57 ≡ true → digit_glyph false (nibble x) ≡ x
    digit low high =
        let least : 48 ≤ x = grind (arith, nat_tests) in
        let most : x ≤ 57 = grind (arith, nat_tests) in
        let below : nat_le 97 x ≡ false = grind (arith, nat_tests) in
        let value : (x - 48) % 16 ≡ x - 48 = omega (arith, least, most) in
        let small : nat_lt (x - 48) 10 ≡ true = grind (arith, nat_tests) in
        rw (below, value, small) (omega (arith, least))

    by_kind : (b : Bool) → is_ascii_digit x ≡ b → (b || (nat_le 97 x && nat_le x 102)) ≡ true → digit_glyph false (nibble x) ≡ x
    by_kind true kind e = let ends = both_true (nat_le 48 x) (nat_le x 57) kind in digit ends.0 ends.1
    by_kind false kind e = let ends = both_true (nat_le 97 x) (nat_le x 102) e in letter ends.0 ends.1

glyph_digit : (n : ℕ) → n < 16 → is_hex_digit (digit_glyph false n) ≡ true
unfolding is_hex_digit
glyph_digit n small = by_size (nat_lt n 10) refl
  where
    either : (b : Bool) → ((b && false) || true) ≡ true
    either true = refl
    either false = refl

    by_size : (b : Bool) → nat_lt n 10 ≡ b → is_hex_digit (cond b (48 + n) (87 + n)) ≡ true
    by_size true e =
        let low : nat_le 48 (48 + n) ≡ true = grind (arith, nat_tests) in
        let high : nat_le (48 + n) 57 ≡ true = grind (arith, nat_tests) in
        rw (low, high) refl
    by_size false e =
        let digit : nat_le (87 + n) 57 ≡ false = grind (arith, nat_tests) in
        let low : nat_le 97 (87 + n) ≡ true = grind (arith, nat_tests) in
        let high : nat_le (87 + n) 102 ≡ true = grind (arith, nat_tests) in
        rw (digit, low, high) (either (nat_le 48 (87 + n)))

glyph_test : (x : ℕ) → (digit_glyph false (nibble x) == x) ≡ is_hex_digit x
glyph_test x = by_digit (is_hex_digit x) refl (digit_glyph false (nibble x) == x) refl
  where
    by_digit : (b : Bool) → is_hex_digit x ≡ b → (c : Bool) → (digit_glyph false (nibble x) == x) ≡ c → c ≡ b
    by_digit true d true c = refl
    by_digit true d false c = let same : digit_glyph false (nibble x) ≡ x = glyph_same x d in absurd (grind (arith, nat_tests))
    by_digit false d true c =
        let same : digit_glyph false (nibble x) ≡ x = grind (arith, nat_tests) in
        absurd (true≢false (sym (glyph_digit (nibble x) (omega arith)) ∙ ap is_hex_digit same ∙ d))
    by_digit false d false c = refl

hex_test : (digits : List ℕ) (n : ℕ) → length digits ≡ n + n → bytes_eq (hex_text (spelled digits)) digits ≡ list_all is_hex_digit digits
hex_test [] n e = refl
hex_test (x ∷ []) n e = absurd (omega (arith, e))
hex_test (x ∷ y ∷ digits) zero e = absurd (omega (arith, e))
hex_test (x ∷ y ∷ digits) (suc n) e =
    let high : (16 * nibble x + nibble y) / 16 ≡ nibble x = omega arith in
    let low : (16 * nibble x + nibble y) % 16 ≡ nibble y = omega arith in
    rw (high, low, glyph_test x, glyph_test y, hex_test digits n (omega (arith, e))) refl

pub digest_of_digits : (digits : List ℕ) → digest_of digits ≡ cond (length digits == 64) (cond (list_all is_hex_digit digits) (Some (spelled digits)) None) None
unfolding digest_of
digest_of_digits digits = by_length (length digits == 64) refl
  where
    by_length : (b : Bool) → (length digits == 64) ≡ b → cond b (cond (bytes_eq (hex_text (spelled digits)) digits) (Some (spelled digits)) None) None ≡ cond b (cond (list_all is_hex_digit digits) (Some (spelled digits)) None) None
    by_length true e = let many : length digits ≡ 32 + 32 = grind (arith, nat_tests) in rw (hex_test digits 32 many) refl
    by_length false e = refl
