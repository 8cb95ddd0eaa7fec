-- Loops of statements one after the other, with their claims and what is in scope.
use Rattle.std.proofs.Common.{◌≡◌, ◌∙◌, ℕ, zero, suc, ◌+◌, ◌<◌, ◌≤◌, nat_le, Bool, true, false, ◌&&◌, List, [], ◌∷◌, length, map, drop, get_or, drop-cons, add-one, Option, Some, None, option_map, if◌then◌else◌, sym, ap, refl, arith}
use Rattle.std.proofs.Math.Seq.{drop-nil}
use Rattle.std.proofs.lemmas.Bool.Decides.{nat_tests}
use Rattle.p10_core.specs.declared.statements.Stmt.{Stmt}
use Rattle.p10_core.specs.Typed.{PlainStatements, more_statements, PlainFunction}
use Rattle.p10_core.specs.Views.{plain_statement, plain_statements}
use Rattle.p10_cert.specs.declared.claims.LoopClaim.{LoopClaim}
use Rattle.p10_cert.specs.Claims.{Loop, loop_of}
use Rattle.p10_core.specs.WholePrograms.{numbers_from}
use Rattle.p10_fit.specs.Sites.{LoopSite, loop_sites_in, loop_sites_of, in_scope_after, in_scope_after_all, loop_sites}
use Rattle.p10_fit.specs.Fits.{fits_loop, fits_loops}
use Rattle.p10_fit.specs.private.Following.{claims_after, next_fits}
use Rattle.p10_fit.proofs.Consuming.{then_after, after_both}

-- what is left of a list at a place is the element there and what is left after it
pub cut : {X : Type 0} (all : List X) (i : ℕ) (x : X) → i < length all → x ≡ get_or all i x → drop i all ≡ x ∷ drop (i + 1) all
cut all i x lt is = drop-cons all i x lt ∙ ap (λ y. y ∷ drop (suc i) all) (sym is) ∙ ap (λ n. x ∷ drop n all) (sym (add-one i))

-- nothing is left of a list after its end
pub drop_all : {X : Type 0} (all : List X) (i : ℕ) → length all ≤ i → drop i all ≡ []
drop_all [] i past = drop-nil i
drop_all (x ∷ xs) zero past = let no : ⊥ = omega arith in absurd no
drop_all (x ∷ xs) (suc i) past = drop_all xs i (omega (arith, past))

pub cut_statements : (all : List Stmt) (i : ℕ) (s : Stmt) → i < length all → s ≡ get_or all i s
    → plain_statements (drop i all) ≡ more_statements (plain_statement s) (plain_statements (drop (i + 1) all))
cut_statements all i s lt is = ap plain_statements (cut all i s lt is)

-- what is in scope after one statement more
pub next_scope : (whole scope after : List ℕ) (all : List Stmt) (i : ℕ) (s : Stmt) → i < length all → s ≡ get_or all i s
    → whole ≡ in_scope_after_all scope (plain_statements (drop i all)) → after ≡ in_scope_after scope (plain_statement s)
    → whole ≡ in_scope_after_all after (plain_statements (drop (i + 1) all))
next_scope whole scope after all i s lt is before now =
    before ∙ ap (in_scope_after_all scope) (cut_statements all i s lt is) ∙ ap (λ x. in_scope_after_all x (plain_statements (drop (i + 1) all))) (sym now)

-- the claims that are left after one statement more
pub next_claims : (f : PlainFunction) (task : Option ℕ) (depth : ℕ) (whole : Option (List Loop)) (scope after : List ℕ) (all : List Stmt) (i : ℕ) (s : Stmt) (claims left : List Loop)
    → i < length all → s ≡ get_or all i s
    → whole ≡ claims_after f task (loop_sites_of depth scope (plain_statements (drop i all))) claims
    → Some left ≡ claims_after f task (loop_sites_in depth scope (plain_statement s)) claims
    → after ≡ in_scope_after scope (plain_statement s)
    → whole ≡ claims_after f task (loop_sites_of depth after (plain_statements (drop (i + 1) all))) left
next_claims f task depth whole scope after all i s claims left lt is before now next =
    before
    ∙ ap (λ ss. claims_after f task (loop_sites_of depth scope ss) claims) (cut_statements all i s lt is)
    ∙ after_both f task (loop_sites_in depth scope (plain_statement s)) (loop_sites_of depth (in_scope_after scope (plain_statement s)) (plain_statements (drop (i + 1) all))) claims
    ∙ ap (then_after f task (loop_sites_of depth (in_scope_after scope (plain_statement s)) (plain_statements (drop (i + 1) all)))) (sym now)
    ∙ ap (λ x. claims_after f task (loop_sites_of depth x (plain_statements (drop (i + 1) all))) left) (sym next)

-- no claims are left after more where none are after one statement
pub no_claims : (f : PlainFunction) (task : Option ℕ) (depth : ℕ) (whole : Option (List Loop)) (scope : List ℕ) (all : List Stmt) (i : ℕ) (s : Stmt) (claims : List Loop)
    → i < length all → s ≡ get_or all i s
    → whole ≡ claims_after f task (loop_sites_of depth scope (plain_statements (drop i all))) claims
    → None ≡ claims_after f task (loop_sites_in depth scope (plain_statement s)) claims
    → None ≡ whole
no_claims f task depth whole scope all i s claims lt is before now = sym (
    before
    ∙ ap (λ ss. claims_after f task (loop_sites_of depth scope ss) claims) (cut_statements all i s lt is)
    ∙ after_both f task (loop_sites_in depth scope (plain_statement s)) (loop_sites_of depth (in_scope_after scope (plain_statement s)) (plain_statements (drop (i + 1) all))) claims
    ∙ ap (then_after f task (loop_sites_of depth (in_scope_after scope (plain_statement s)) (plain_statements (drop (i + 1) all)))) (sym now))

-- the claim on a loop and those on the loops in it
loop_step : (f : PlainFunction) (task : Option ℕ) (site : LoopSite) (sites : List LoopSite) (claims : List Loop) (more : List Loop) (claim : Loop) (left : Option (List Loop))
    → claims ≡ claim ∷ more → next_fits f task site claims ≡ true → left ≡ claims_after f task sites more → left ≡ claims_after f task (site ∷ sites) claims
loop_step f task site sites claims more claim left is fits inside =
    let now : fits_loop f task site claim ≡ true = ap (next_fits f task site) (sym is) ∙ fits in
    inside ∙ ap (λ b. if b then claims_after f task sites more else None) (sym now) ∙ ap (claims_after f task (site ∷ sites)) (sym is)

pub loop_claims : (f : PlainFunction) (task : Option ℕ) (site : LoopSite) (sites : List LoopSite) (claims : List LoopClaim) (place : ℕ) (left : Option (List Loop))
    → place < length claims → next_fits f task site (map loop_of (drop place claims)) ≡ true
    → left ≡ claims_after f task sites (map loop_of (drop (place + 1) claims))
    → left ≡ claims_after f task (site ∷ sites) (map loop_of (drop place claims))
loop_claims f task site sites [] place left lt fits inside = let no : ⊥ = omega arith in absurd no
loop_claims f task site sites (claim ∷ claims) place left lt fits inside =
    let here : LoopClaim = get_or (claim ∷ claims) place claim in
    loop_step f task site sites (map loop_of (drop place (claim ∷ claims))) (map loop_of (drop (place + 1) (claim ∷ claims))) (loop_of here) left
    (ap (map loop_of) (drop-cons (claim ∷ claims) place claim lt ∙ ap (λ n. here ∷ drop n (claim ∷ claims)) (sym (add-one place)))) fits inside

-- a loop whose claim doesn't fit, or is lacking
pub unfit_loop : (f : PlainFunction) (task : Option ℕ) (site : LoopSite) (sites : List LoopSite) (claims : List Loop)
    → next_fits f task site claims ≡ false → None ≡ claims_after f task (site ∷ sites) claims
unfit_loop f task site sites [] fits = refl
unfit_loop f task site sites (claim ∷ claims) fits = ap (λ b. if b then claims_after f task sites claims else None) (sym fits)

-- whether the next claim fits is decided at its place
pub next_there : (f : PlainFunction) (task : Option ℕ) (site : LoopSite) (claims : List LoopClaim) (place : ℕ) (claim : LoopClaim) (b : Bool)
    → place < length claims → claim ≡ get_or claims place claim → b ≡ fits_loop f task site (loop_of claim) → b ≡ next_fits f task site (map loop_of (drop place claims))
next_there f task site claims place claim b lt is fits = fits ∙ sym (ap (λ cs. next_fits f task site (map loop_of cs)) (cut claims place claim lt is))

-- there is no next claim
pub next_lacking : (f : PlainFunction) (task : Option ℕ) (site : LoopSite) (claims : List LoopClaim) (place : ℕ) → length claims ≤ place → false ≡ next_fits f task site (map loop_of (drop place claims))
next_lacking f task site claims place past = ap (λ cs. next_fits f task site (map loop_of cs)) (sym (drop_all claims place past))

-- whether there are claims, and none is left
abbrev pub is_end : Option (List Loop) → Bool
is_end None = false
is_end (Some []) = true
is_end (Some (claim ∷ claims)) = false

end_step : (f : PlainFunction) (task : Option ℕ) (b : Bool) (sites : List LoopSite) (claims : List Loop)
    → fits_loops f task sites claims ≡ is_end (claims_after f task sites claims)
    → (b && fits_loops f task sites claims) ≡ is_end (if b then claims_after f task sites claims else None)
end_step f task true sites claims h = h
end_step f task false sites claims h = refl

-- claims are those on the loops where none is left after them
pub told_by_end : (f : PlainFunction) (task : Option ℕ) (sites : List LoopSite) (claims : List Loop) → fits_loops f task sites claims ≡ is_end (claims_after f task sites claims)
told_by_end f task [] [] = refl
told_by_end f task [] (claim ∷ claims) = refl
told_by_end f task (site ∷ sites) [] = refl
told_by_end f task (site ∷ sites) (claim ∷ claims) = end_step f task (fits_loop f task site claim) sites claims (told_by_end f task sites claims)

least_of : (n : ℕ) → nat_le 0 n ≡ true
least_of n = grind (arith, nat_tests)

none_least : (n : ℕ) → nat_le (suc n) 0 ≡ false
none_least n = grind (arith, nat_tests)

one_less : (n m : ℕ) → nat_le (suc n) (suc m) ≡ nat_le n m
one_less n m = grind (arith, nat_tests)

-- whether none is left is known by the place
pub end_by_place : (claims : List LoopClaim) (place : ℕ) → nat_le (length claims) place ≡ is_end (Some (map loop_of (drop place claims)))
end_by_place [] place = least_of place ∙ sym (ap (λ cs. is_end (Some (map loop_of cs))) (drop-nil place))
end_by_place (claim ∷ claims) zero = none_least (length claims)
end_by_place (claim ∷ claims) (suc place) = one_less (length claims) place ∙ end_by_place claims place

-- whether all claims are those on the loops of a function is known by the place after its body
pub told_by_place : (f : PlainFunction) (task : Option ℕ) (scope : List ℕ) (body : PlainStatements) (claims : List LoopClaim) (o : Option ℕ) (place : ℕ) → scope ≡ numbers_from 0 f.parameters → body ≡ f.body → o ≡ Some place
    → option_map (λ n. map loop_of (drop n claims)) o ≡ claims_after f task (loop_sites_of 0 scope body) (map loop_of (drop 0 claims))
    → nat_le (length claims) place ≡ fits_loops f task (loop_sites f) (map loop_of claims)
told_by_place f task scope body claims o place same whole is e =
    end_by_place claims place ∙ ap is_end (sym (ap (option_map (λ n. map loop_of (drop n claims))) is) ∙ e)
    ∙ ap (λ s. is_end (claims_after f task (loop_sites_of 0 s body) (map loop_of claims))) same
    ∙ ap (λ b. is_end (claims_after f task (loop_sites_of 0 (numbers_from 0 f.parameters) b) (map loop_of claims))) whole
    ∙ sym (told_by_end f task (loop_sites f) (map loop_of claims))

-- they aren't where there is no such place
pub told_nowhere : (f : PlainFunction) (task : Option ℕ) (scope : List ℕ) (body : PlainStatements) (claims : List LoopClaim) (o : Option ℕ) → scope ≡ numbers_from 0 f.parameters → body ≡ f.body → o ≡ None
    → option_map (λ n. map loop_of (drop n claims)) o ≡ claims_after f task (loop_sites_of 0 scope body) (map loop_of (drop 0 claims))
    → false ≡ fits_loops f task (loop_sites f) (map loop_of claims)
told_nowhere f task scope body claims o same whole is e =
    ap is_end (sym (ap (option_map (λ n. map loop_of (drop n claims))) is) ∙ e)
    ∙ ap (λ s. is_end (claims_after f task (loop_sites_of 0 s body) (map loop_of claims))) same
    ∙ ap (λ b. is_end (claims_after f task (loop_sites_of 0 (numbers_from 0 f.parameters) b) (map loop_of claims))) whole
    ∙ sym (told_by_end f task (loop_sites f) (map loop_of claims))
