-- Functions, one after the other.
use Rattle.std.proofs.Common.{◌≡◌, ℕ, ◌+◌, suc, ◌<◌, List, ◌++◌, drop, map, length, get_or, ap, sym, ◌∙◌, append_assoc, add-one}
use Rattle.p10_core.specs.declared.program.Func.{Func}
use Rattle.p10_core.specs.Typed.{PlainProgram}
use Rattle.p10_core.specs.Views.{plain_function}
use Rattle.p10_cert.specs.Claims.{Claims}
use Rattle.p10_pass.proofs.Lists.{cut_at}
use Rattle.p10_clean.specs.declared.flaw.Flaw.{Flaw}
use Rattle.p10_clean.specs.Clean.{flaws_in_function, flaws_in_functions}

pub functions_next : (p : PlainProgram) (c : Claims) (whole put put2 : List Flaw) (xs : List Func) (n : ℕ) (x : Func) → n < length xs → x ≡ get_or xs n x → put2 ≡ put ++ flaws_in_function p c n (plain_function x) →
    put ++ flaws_in_functions p c n (map plain_function (drop n xs)) ≡ whole → put2 ++ flaws_in_functions p c (n + 1) (map plain_function (drop (n + 1) xs)) ≡ whole
functions_next p c whole put put2 xs n x below there is so-far =
    (λ i. is i ++ flaws_in_functions p c (add-one n i) (map plain_function (drop (n + 1) xs))) ∙
    (append_assoc put (flaws_in_function p c n (plain_function x)) (flaws_in_functions p c (suc n) (map plain_function (drop (n + 1) xs))) ∙
    (ap (λ ys. put ++ flaws_in_functions p c n (map plain_function ys)) (sym (cut_at xs n x below there)) ∙ so-far))
