-- Digits are read one byte after the other.
use Rattle.std.proofs.Common.{◌≡◌, ℕ, ◌+◌, ◌*◌, ◌<◌, ◌≤◌, List, [], ◌∷◌, ◌++◌, length, take, set, refl, sym, ap, ◌∙◌, arith, append_assoc, append-nil}
use Rattle.std.proofs.lemmas.List.{take_all, take_more_set}
use Rattle.p10_cert.specs.private.Reading.{nibble, spelled}

-- one byte more
pub spelled_more : (bytes digits rest others : List ℕ) (count high low byte : ℕ) → count < length bytes → take count bytes ++ spelled rest ≡ spelled digits → rest ≡ high ∷ low ∷ others → byte ≡ 16 * nibble high + nibble low
    → take (count + 1) (set bytes count byte) ++ spelled others ≡ spelled digits
spelled_more bytes digits rest others count high low byte within parts is byte_is =
    ap (λ l. l ++ spelled others) (take_more_set bytes count byte within)
    ∙ append_assoc (take count bytes) (byte ∷ []) (spelled others)
    ∙ ap (λ b. take count bytes ++ (b ∷ spelled others)) byte_is
    ∙ ap (λ r. take count bytes ++ spelled r) (sym is)
    ∙ parts

-- all bytes
pub spelled_all : (bytes digits rest : List ℕ) (count : ℕ) → length bytes ≤ count → take count bytes ++ spelled rest ≡ spelled digits → spelled rest ≡ [] → bytes ≡ spelled digits
spelled_all bytes digits rest count all parts none =
    sym (take_all count bytes all) ∙ sym (append-nil (take count bytes)) ∙ ap (λ r. take count bytes ++ r) (sym none) ∙ parts

-- fewer than two digits spell nothing
pub few_digits : (rest : List ℕ) → length rest < 2 → spelled rest ≡ []
few_digits [] few = refl
few_digits (x ∷ []) few = refl
few_digits (x ∷ y ∷ rest) few = absurd (omega (arith, few))
