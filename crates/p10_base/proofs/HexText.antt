-- Digits of bytes are written one byte after the other.
use Rattle.std.proofs.Common.{◌≡◌, ℕ, ◌+◌, ◌*◌, ◌/◌, ◌%◌, ◌<◌, false, List, [], ◌∷◌, ◌++◌, length, take, slice_index, set, refl, sym, ap, ◌∙◌, arith, append_assoc}
use Rattle.std.proofs.lemmas.List.{length-set, take_more, take_more_set}
use Rattle.std.specs.Fmt.{digit_glyph}
use Rattle.p10_base.specs.Hex.{hex_text}

hex_append : (xs ys : List ℕ) → hex_text (xs ++ ys) ≡ hex_text xs ++ hex_text ys
hex_append [] ys = refl
hex_append (x ∷ xs) ys = ap (λ t. digit_glyph false (x / 16) ∷ digit_glyph false (x % 16) ∷ t) (hex_append xs ys)

-- two digits more
pub hex_more : (text bytes : List ℕ) (i high low : ℕ) → i < length bytes → 2 * i + 1 < length text → take (2 * i) text ≡ hex_text (take i bytes)
    → high ≡ digit_glyph false (slice_index bytes i / 16) → low ≡ digit_glyph false (slice_index bytes i % 16)
    → take (2 * (i + 1)) (set (set text (2 * i) high) (2 * i + 1) low) ≡ hex_text (take (i + 1) bytes)
hex_more text bytes i high low within fits done high_is low_is =
    let next : 2 * (i + 1) ≡ (2 * i + 1) + 1 = omega arith in
    let one : List ℕ = set text (2 * i) high in
    let byte : ℕ = slice_index bytes i in
    ap (λ n. take n (set one (2 * i + 1) low)) next
    ∙ take_more_set one (2 * i + 1) low (omega (arith, fits, length-set text (2 * i) high))
    ∙ ap (λ l. l ++ low ∷ []) (take_more_set text (2 * i) high (omega (arith, fits)))
    ∙ append_assoc (take (2 * i) text) (high ∷ []) (low ∷ [])
    ∙ ap (λ l. l ++ (high ∷ low ∷ [])) done
    ∙ ap (λ h. hex_text (take i bytes) ++ (h ∷ low ∷ [])) high_is
    ∙ ap (λ l. hex_text (take i bytes) ++ (digit_glyph false (byte / 16) ∷ l ∷ [])) low_is
    ∙ sym (hex_append (take i bytes) (byte ∷ []))
    ∙ ap hex_text (sym (take_more bytes i 0 within))
