-- What stands before the rest of a text.
use Rattle.std.proofs.Common.{◌≡◌, ℕ, ◌-◌, List, ◌++◌, length, take, refl, ◌∙◌, ap, arith, length-append}
use Rattle.std.proofs.lemmas.List.{take_at}
use Rattle.p10_lex.specs.private.Runs.{front_of}

-- what stands before the rest is the text without the rest
pub front_is : (text rest whole : List ℕ) → whole ≡ text ++ rest → front_of whole rest ≡ text
front_is text rest whole parts =
    let lengths : length whole - length rest ≡ length text = omega (arith, ap length parts, length-append text rest) in
    ap (λ (n : ℕ). take n whole) lengths ∙ (ap (λ (x : List ℕ). take (length text) x) parts ∙ take_at text rest (length text) refl)
