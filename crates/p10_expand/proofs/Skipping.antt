-- Where a line stands agrees with the conditionals that are open.
use Rattle.std.proofs.Common.{◌≡◌, ℕ, zero, suc, List, [], ◌∷◌, Bool, true, false, ◌&&◌, not, refl, sym, ◌∙◌, ap}
use Rattle.std.specs.List.{list_any}
use Rattle.p10_direct.specs.declared.mark.Mark.{Mark}
use Rattle.p10_direct.specs.declared.mark.Mark.TheVariants.{Opens, Elif, Else, Closes, Plain}
use Rattle.p10_expand.specs.declared.expansion.stand.Stand.{Stand}
use Rattle.p10_expand.specs.declared.expansion.stand.Stand.TheVariants.{Obeyed, Skipped}
use Rattle.p10_expand.specs.private.Skipping.{is_obeyed, stand_after}
use Rattle.p10_expand.specs.Groups.{Groups, outer_of, open_after_line, none_holds, is_chosen, are_chosen, is_obeyed_in}

-- a group of the conditional was chosen
abbrev some_holds : Groups → Bool
some_holds groups = list_any (λ h. h) groups

-- `inner` of the innermost conditionals have begun in a group that isn't chosen, in which nothing else around isn't; `chosen` says
-- whether another group of that conditional is
abbrev pub Lacks : ℕ → Bool → List Groups → Type 0
Lacks inner chosen [] = ⊥
Lacks zero chosen (groups ∷ outer) = (is_chosen groups ≡ false) × (some_holds groups ≡ chosen) × (are_chosen outer ≡ true)
Lacks (suc inner) chosen (groups ∷ outer) = Lacks inner chosen outer

-- where a line stands is what the open conditionals say
abbrev pub Agrees : List Groups → Stand → Type 0
Agrees open' Obeyed = are_chosen open' ≡ true
Agrees open' (Skipped chosen inner) = Lacks inner chosen open'

-- ## Tests

and_left : (a b : Bool) → a && b ≡ true → a ≡ true
and_left true b e = refl
and_left false b e = absurd cc

and_right : (a b : Bool) → a && b ≡ true → b ≡ true
and_right true b e = e
and_right false b e = absurd cc

and_false : (a : Bool) → a && false ≡ false
and_false true = refl
and_false false = refl

chosen_holds : (groups : Groups) → is_chosen groups ≡ true → some_holds groups ≡ true
chosen_holds [] e = absurd cc
chosen_holds (true ∷ earlier) e = refl
chosen_holds (false ∷ earlier) e = absurd cc

lacks_not_all : (inner : ℕ) (chosen : Bool) (open' : List Groups) → Lacks inner chosen open' → are_chosen open' ≡ false
lacks_not_all inner chosen [] p = absurd p
lacks_not_all zero chosen (groups ∷ outer) p = ap (λ b. b && are_chosen outer) p.0
lacks_not_all (suc inner) chosen (groups ∷ outer) p = ap (λ b. is_chosen groups && b) (lacks_not_all inner chosen outer p) ∙ and_false (is_chosen groups)

-- ## Which lines are obeyed

opens_skipped : (chosen : Bool) (inner : ℕ) → is_obeyed (Skipped chosen inner) Opens ≡ false
opens_skipped true zero = refl
opens_skipped true (suc inner) = refl
opens_skipped false zero = refl
opens_skipped false (suc inner) = refl

plain_skipped : (chosen : Bool) (inner : ℕ) → is_obeyed (Skipped chosen inner) Plain ≡ false
plain_skipped true zero = refl
plain_skipped true (suc inner) = refl
plain_skipped false zero = refl
plain_skipped false (suc inner) = refl

inner_skipped : (chosen : Bool) (inner : ℕ) (mark : Mark) → is_obeyed (Skipped chosen (suc inner)) mark ≡ false
inner_skipped chosen inner Opens = opens_skipped chosen (suc inner)
inner_skipped true inner Elif = refl
inner_skipped false inner Elif = refl
inner_skipped true inner Else = refl
inner_skipped false inner Else = refl
inner_skipped true inner Closes = refl
inner_skipped false inner Closes = refl
inner_skipped chosen inner Plain = plain_skipped chosen (suc inner)

else_skipped : (chosen : Bool) → is_obeyed (Skipped chosen 0) Else ≡ true
else_skipped true = refl
else_skipped false = refl

closes_skipped : (chosen : Bool) → is_obeyed (Skipped chosen 0) Closes ≡ true
closes_skipped true = refl
closes_skipped false = refl

elif_in_all : (open' : List Groups) → are_chosen open' ≡ true → false ≡ is_obeyed_in Elif open'
elif_in_all [] e = refl
elif_in_all (groups ∷ outer) e = ap (λ b. not b && are_chosen outer) (sym (chosen_holds groups (and_left (is_chosen groups) (are_chosen outer) e)))

outer_in_all : (open' : List Groups) → are_chosen open' ≡ true → true ≡ are_chosen (outer_of open')
outer_in_all [] e = refl
outer_in_all (groups ∷ outer) e = sym (and_right (is_chosen groups) (are_chosen outer) e)

in_all : (open' : List Groups) (mark : Mark) → are_chosen open' ≡ true → is_obeyed Obeyed mark ≡ is_obeyed_in mark open'
in_all open' Opens e = sym e
in_all open' Elif e = elif_in_all open' e
in_all open' Else e = outer_in_all open' e
in_all open' Closes e = outer_in_all open' e
in_all open' Plain e = sym e

elif_there : (chosen : Bool) (groups : Groups) (outer : List Groups) → some_holds groups ≡ chosen → are_chosen outer ≡ true → not chosen ≡ none_holds groups && are_chosen outer
elif_there true groups outer p q = ap (λ b. not b && are_chosen outer) (sym p)
elif_there false groups outer p q = sym q ∙ ap (λ b. not b && are_chosen outer) (sym p)

in_skipped : (chosen : Bool) (groups : Groups) (outer : List Groups) (mark : Mark) → Lacks 0 chosen (groups ∷ outer) → is_obeyed (Skipped chosen 0) mark ≡ is_obeyed_in mark (groups ∷ outer)
in_skipped chosen groups outer Opens p = opens_skipped chosen 0 ∙ sym (lacks_not_all 0 chosen (groups ∷ outer) p)
in_skipped true groups outer Elif p = elif_there true groups outer p.1 p.2
in_skipped false groups outer Elif p = elif_there false groups outer p.1 p.2
in_skipped chosen groups outer Else p = else_skipped chosen ∙ sym p.2
in_skipped chosen groups outer Closes p = closes_skipped chosen ∙ sym p.2
in_skipped chosen groups outer Plain p = plain_skipped chosen 0 ∙ sym (lacks_not_all 0 chosen (groups ∷ outer) p)

in_inner : (chosen : Bool) (inner : ℕ) (groups : Groups) (outer : List Groups) (mark : Mark) → Lacks (suc inner) chosen (groups ∷ outer) → is_obeyed (Skipped chosen (suc inner)) mark ≡ is_obeyed_in mark (groups ∷ outer)
in_inner chosen inner groups outer Opens p = inner_skipped chosen inner Opens ∙ sym (lacks_not_all (suc inner) chosen (groups ∷ outer) p)
in_inner chosen inner groups outer Elif p = inner_skipped chosen inner Elif ∙ sym (ap (λ b. none_holds groups && b) (lacks_not_all inner chosen outer p) ∙ and_false (none_holds groups))
in_inner chosen inner groups outer Else p = inner_skipped chosen inner Else ∙ sym (lacks_not_all inner chosen outer p)
in_inner chosen inner groups outer Closes p = inner_skipped chosen inner Closes ∙ sym (lacks_not_all inner chosen outer p)
in_inner chosen inner groups outer Plain p = inner_skipped chosen inner Plain ∙ sym (lacks_not_all (suc inner) chosen (groups ∷ outer) p)

-- the same lines are obeyed
pub obeyed_alike : (open' : List Groups) (stand : Stand) (mark : Mark) → Agrees open' stand → is_obeyed stand mark ≡ is_obeyed_in mark open'
obeyed_alike open' Obeyed mark p = in_all open' mark p
obeyed_alike [] (Skipped chosen inner) mark p = absurd p
obeyed_alike (groups ∷ outer) (Skipped chosen zero) mark p = in_skipped chosen groups outer mark p
obeyed_alike (groups ∷ outer) (Skipped chosen (suc inner)) mark p = in_inner chosen inner groups outer mark p

-- ## The line after

-- the line is no `#elif` or `#else` where no conditional is open
abbrev pub Belongs : Mark → List Groups → Type 0
Belongs Elif [] = ⊥
Belongs Else [] = ⊥
Belongs mark open' = Unit {0}

group_apart : (h : Bool) (groups : Groups) → some_holds groups ≡ true → is_chosen (h ∷ groups) ≡ false
group_apart true groups e = ap not e
group_apart false groups e = refl

some_more : (h : Bool) (groups : Groups) → some_holds groups ≡ true → some_holds (h ∷ groups) ≡ true
some_more true groups e = refl
some_more false groups e = e

-- the line after one that breaks nothing stands where the open conditionals say
pub next_agrees : (open' : List Groups) (stand : Stand) (mark : Mark) (h : Bool) → Agrees open' stand → Belongs mark open' → Agrees (open_after_line mark h open') (stand_after stand mark h)
next_agrees open' Obeyed Opens true p fits = p
next_agrees open' Obeyed Opens false p fits = (refl, refl, p)
next_agrees [] Obeyed Elif h p fits = absurd fits
next_agrees (groups ∷ outer) Obeyed Elif h p fits =
    let some = chosen_holds groups (and_left (is_chosen groups) (are_chosen outer) p) in
    (group_apart h groups some, some_more h groups some, and_right (is_chosen groups) (are_chosen outer) p)
next_agrees [] Obeyed Else h p fits = absurd fits
next_agrees (groups ∷ outer) Obeyed Else h p fits =
    let some = chosen_holds groups (and_left (is_chosen groups) (are_chosen outer) p) in
    (ap not some, refl, and_right (is_chosen groups) (are_chosen outer) p)
next_agrees open' Obeyed Closes h p fits = sym (outer_in_all open' p)
next_agrees open' Obeyed Plain h p fits = p
next_agrees [] (Skipped chosen inner) mark h p fits = absurd p
next_agrees (groups ∷ outer) (Skipped chosen zero) Opens h p fits = p
next_agrees (groups ∷ outer) (Skipped true zero) Elif h p fits = (group_apart h groups p.1, some_more h groups p.1, p.2)
next_agrees (groups ∷ outer) (Skipped false zero) Elif true p fits = ap (λ b. not b && are_chosen outer) p.1 ∙ p.2
next_agrees (groups ∷ outer) (Skipped false zero) Elif false p fits = (refl, p.1, p.2)
next_agrees (groups ∷ outer) (Skipped true zero) Else h p fits = (ap not p.1, refl, p.2)
next_agrees (groups ∷ outer) (Skipped false zero) Else h p fits = ap (λ b. not b && are_chosen outer) p.1 ∙ p.2
next_agrees (groups ∷ outer) (Skipped true zero) Closes h p fits = p.2
next_agrees (groups ∷ outer) (Skipped false zero) Closes h p fits = p.2
next_agrees (groups ∷ outer) (Skipped true zero) Plain h p fits = p
next_agrees (groups ∷ outer) (Skipped false zero) Plain h p fits = p
next_agrees (groups ∷ outer) (Skipped chosen (suc inner)) Opens h p fits = p
next_agrees (groups ∷ outer) (Skipped true (suc inner)) Elif h p fits = p
next_agrees (groups ∷ outer) (Skipped false (suc inner)) Elif h p fits = p
next_agrees (groups ∷ outer) (Skipped true (suc inner)) Else h p fits = p
next_agrees (groups ∷ outer) (Skipped false (suc inner)) Else h p fits = p
next_agrees (groups ∷ outer) (Skipped true (suc inner)) Closes h p fits = p
next_agrees (groups ∷ outer) (Skipped false (suc inner)) Closes h p fits = p
next_agrees (groups ∷ outer) (Skipped true (suc inner)) Plain h p fits = p
next_agrees (groups ∷ outer) (Skipped false (suc inner)) Plain h p fits = p
