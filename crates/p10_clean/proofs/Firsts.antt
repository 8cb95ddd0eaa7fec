-- The first flaw, looked for from the first on.
use Rattle.std.proofs.Common.{◌≡◌, ◌<◌, Bool, true, false, List, [], ◌∷◌, length, Option, Some, None, refl, ap, sym, ◌∙◌, arith}
use Rattle.std.specs.Prelude.{nat_lt, if◌then◌else◌}
use Rattle.std.proofs.lemmas.Bool.Decides.{nat_tests}
use Rattle.p10_clean.specs.declared.flaw.Flaw.{Flaw}
use Rattle.p10_clean.specs.Clean.{first_of, first_flaw}
use Rattle.p10_clean.specs.private.Telling.{first_after}

by_tests : (f g k : Flaw) (a b : Bool) → nat_lt g.c f.c ≡ a → nat_lt k.c g.c ≡ b →
    (if nat_lt k.c (if a then g else f).c then k else (if a then g else f)) ≡ (if nat_lt (if b then k else g).c f.c then (if b then k else g) else f)
by_tests f g k true true p q =
    let below : nat_lt k.c f.c ≡ true = grind (arith, nat_tests, p, q) in
    ap (λ t. if t then k else g) q ∙ sym (ap (λ t. if t then k else f) below)
by_tests f g k true false p q = ap (λ t. if t then k else g) q ∙ sym (ap (λ t. if t then g else f) p)
by_tests f g k false true p q = refl
by_tests f g k false false p q =
    let not_below : nat_lt k.c f.c ≡ false = grind (arith, nat_tests, p, q) in
    ap (λ t. if t then k else f) not_below ∙ sym (ap (λ t. if t then g else f) p)

-- the first of three, taken from the first on or from the last on
first_of_three : (f g : Flaw) (o : Option Flaw) → first_of (if nat_lt g.c f.c then g else f) o ≡ first_of f (Some (first_of g o))
first_of_three f g None = refl
first_of_three f g (Some k) = by_tests f g k (nat_lt g.c f.c) (nat_lt k.c g.c) refl refl

pub after_one : (f : Flaw) (flaws : List Flaw) → first_after (Some f) flaws ≡ Some (first_of f (first_flaw flaws))
after_one f [] = refl
after_one f (g ∷ flaws) = after_one (if nat_lt g.c f.c then g else f) flaws ∙ ap Some (first_of_three f g (first_flaw flaws))

first_whole : (flaws : List Flaw) → first_after None flaws ≡ first_flaw flaws
first_whole [] = refl
first_whole (f ∷ flaws) = after_one f flaws

pub first_end : (flaws rest : List Flaw) (first : Option Flaw) → length rest < 1 → first_after first rest ≡ first_after None flaws → first ≡ first_flaw flaws
first_end flaws [] first below so-far = so-far ∙ first_whole flaws
first_end flaws (f ∷ rest) first below so-far = absurd (omega (arith, below))
