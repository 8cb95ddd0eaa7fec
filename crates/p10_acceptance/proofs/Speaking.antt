-- A certificate that is derived speaks of its program (K1).
use Rattle.std.proofs.Common.{◌≡◌, ℕ, zero, suc, ◌+◌, ◌<◌, ◌≤◌, length, Bool, true, false, List, [], ◌∷◌, map, All, Option, Some, None, refl, ap, sym, ◌∙◌, subst, ◌⊎◌, inl, inr, arith}
use Rattle.std.specs.Prelude.{slice_get, if◌then◌else◌, ◌||◌, ◌&&◌, nat_eq, bytes_eq}
use Rattle.std.proofs.lemmas.Bool.Decides.{nat_tests}
use Rattle.std.proofs.lemmas.Slice.Eq.{bytes_eq-Decides}
use Rattle.std.proofs.lemmas.List.{length-map}
use Rattle.std.proofs.lemmas.List.Elements.{All-head, All-tail}
use Rattle.p10_base.specs.declared.report.TheConstants.Limit.{MOST_SUM}
use Rattle.p10_range.specs.Ranges.{Interval, is_within}
use Rattle.p10_range.specs.Rows.{values_of}
use Rattle.p10_range.specs.Laws.{IsOfType}
use Rattle.p10_core.specs.Types.{PlainType, void, integer, pointer, array, structure}
use Rattle.p10_core.specs.Constants.{integer_of}
use Rattle.p10_core.specs.Rows.{is_scalar, is_void}
use Rattle.p10_core.specs.Typed.{PlainFunction, PlainProgram}
use Rattle.p10_core.specs.WholePrograms.{is_among, numbers_from, region_of, parameter_types, loops_of as heads_of, IsWholeFunction, IsWholeProgram}
use Rattle.p10_cert.specs.declared.claims.Rank.{Rank}
use Rattle.p10_cert.specs.declared.claims.Rank.TheVariants.{Up, Down, One, Task}
use Rattle.p10_cert.specs.Claims.{Number, Loop, Func, Claims}
use Rattle.p10_absx.specs.Environments.{known}
use Rattle.p10_fit.specs.Sites.{LoopSite, loop_sites, task_loop_number}
use Rattle.p10_fit.specs.Fits.{fits_type, fits_types, fits_loop, fits_loops, fits_heading, fits_function, unfit_from, unfit}
use Rattle.p10_turns.specs.LoopParts.{loops_among}
use Rattle.p10_turns.specs.Ranked.{is_ranked}
use Rattle.p10_turns.proofs.Numbering.{loops_numbered}
use Rattle.p10_candidates.specs.Trials.{counted}
use Rattle.p10_finder.specs.Loops.{no_loops}
use Rattle.p10_finder.specs.Functions.{any_value, known_at_start, loops_of, search_in, range_returned_by, result_by, result_of, with_turn_steps}
use Rattle.p10_finder.specs.Answers.{AreClaims}
use Rattle.p10_sums.specs.Sums.{sum_at}
use Rattle.p10_acceptance.proofs.Narrowing.{within_itself}
use Rattle.p10_acceptance.proofs.Operating.{is_within_of}
use Rattle.p10_acceptance.proofs.Trials.{NoneAsked}
use Rattle.p10_acceptance.proofs.Walk.{all_extend, loops_even}
use Rattle.p10_acceptance.proofs.Beginning.{parameter_known, some_is, start_fair, start_before}
use Rattle.p10_acceptance.proofs.Bodies.{numbered_from, each_by_place}
use Rattle.p10_acceptance.proofs.Results.{same_length, params_are, results_typed, all_typed, all_taken}
use Rattle.p10_acceptance.proofs.Sites.{SitesFit, all_sited, all_sites}
use Rattle.p10_approach.specs.Offers.{Offers, AreOffers}

-- ## Values

itself : (r : Interval) → is_within r r ≡ true
itself r = is_within_of r r (within_itself r)

-- of a scalar, or of nothing, any value may be claimed
any_fits : (t : PlainType) → (is_scalar t ≡ true) ⊎ (is_void t ≡ true) → fits_type t (any_value t) ≡ true
any_fits (integer c kind) h = itself (values_of kind)
any_fits (pointer c t) h = refl
any_fits (void c) h = refl
any_fits (array c t n) (inl e) = absurd cc
any_fits (array c t n) (inr e) = absurd cc
any_fits (structure c n) (inl e) = absurd cc
any_fits (structure c n) (inr e) = absurd cc

all_fit : (ts : List PlainType) → All (λ t. is_scalar t ≡ true) ts → fits_types ts (map any_value ts) ≡ true
all_fit [] h = refl
all_fit (t ∷ ts) h = ap (λ b. b && fits_types ts (map any_value ts)) (any_fits t (inl (All-head (λ t. is_scalar t ≡ true) t ts h))) ∙ all_fit ts (All-tail (λ t. is_scalar t ≡ true) t ts h)

result_fits : (t : PlainType) (o : Option Interval) → (is_scalar t ≡ true) ⊎ (is_void t ≡ true) → ((r : Interval) → result_by t o ≡ Number r → IsOfType (integer_of t) r) → fits_type t (result_by t o) ≡ true
result_fits (integer c kind) None h k = itself (values_of kind)
result_fits (integer c kind) (Some r) h k = is_within_of r (values_of kind) (k r refl).1
result_fits (pointer c t) o h k = refl
result_fits (void c) o h k = refl
result_fits (array c t n) o h k = any_fits (array c t n) h
result_fits (structure c n) o h k = any_fits (structure c n) h

same_bytes : (xs : List ℕ) → bytes_eq xs xs ≡ true
same_bytes xs = (bytes_eq-Decides xs xs).1 refl

-- ## Loops

turned_fits : (k : ℕ) (f : PlainFunction) (task : Option ℕ) (site : LoopSite) (l : Loop) → fits_loop f task site (with_turn_steps k l) ≡ fits_loop f task site l
turned_fits k f task site l = at l.rank
  where
    at : (r : Rank) → fits_loop f task site (with_turn_steps k (record l { rank = r })) ≡ fits_loop f task site (record l { rank = r })
    at (Up v bound) = refl
    at (Down v bound) = refl
    at One = refl
    at Task = refl

loops_fit : (k : ℕ) (f : PlainFunction) (task : Option ℕ) (all : List Loop) (i : ℕ) (sites : List LoopSite) (ls : List Loop) → length sites ≡ length ls → ((j : ℕ) (l : Loop) → slice_get ls j ≡ Some l → slice_get all (i + j) ≡ Some l) → SitesFit f task all i sites → fits_loops f task sites (map (with_turn_steps k) ls) ≡ true
loops_fit k f task all i [] [] e h s = refl
loops_fit k f task all i [] (l ∷ ls) e h s = absurd (omega (arith, e))
loops_fit k f task all i (x ∷ sites) [] e h s = absurd (omega (arith, e))
loops_fit k f task all i (x ∷ sites) (l ∷ ls) e h s =
    ap (λ b. b && fits_loops f task sites (map (with_turn_steps k) ls)) (turned_fits k f task x l ∙ s.0 l (subst (λ (n : ℕ). slice_get all n ≡ Some l) (plain i) (h 0 l refl)))
    ∙ loops_fit k f task all (suc i) sites ls (omega (arith, e)) (λ j y q. subst (λ (n : ℕ). slice_get all n ≡ Some y) (moved i j) (h (suc j) y q)) s.1
  where
    plain : (i : ℕ) → i + 0 ≡ i
    plain i = omega arith

    moved : (i j : ℕ) → i + suc j ≡ suc i + j
    moved i j = omega arith

among_numbers : (n count k : ℕ) → n ≤ k → k < n + count → is_among k (numbers_from n count) ≡ true
among_numbers n zero k h l = absurd (omega (arith, h, l))
among_numbers n (suc count) k h l = by_case (nat_eq k n) refl (λ q. among_numbers (n + 1) count k q (omega (arith, l)))
  where
    by_case : (b : Bool) → nat_eq k n ≡ b → (n + 1 ≤ k → is_among k (numbers_from (n + 1) count) ≡ true) → (b || is_among k (numbers_from (n + 1) count)) ≡ true
    by_case true e go = refl
    by_case false e go = go (grind (arith, nat_tests, e, h))

-- ## The program

unfit_none : (p : PlainProgram) (k : ℕ) (fs : List PlainFunction) (xs : List Func) → length fs ≡ length xs → ((i : ℕ) (f : PlainFunction) (a : Func) → slice_get fs i ≡ Some f → slice_get xs i ≡ Some a → fits_function p (k + i) f a ≡ true) → unfit_from p k fs xs ≡ None
unfit_none p k [] [] e h = refl
unfit_none p k [] (a ∷ xs) e h = absurd (omega (arith, e))
unfit_none p k (f ∷ fs) [] e h = absurd (omega (arith, e))
unfit_none p k (f ∷ fs) (a ∷ xs) e h =
    ap (λ b. if b then unfit_from p (k + 1) fs xs else Some k) (subst (λ (n : ℕ). fits_function p n f a ≡ true) (plain k) (h 0 f a refl refl))
    ∙ unfit_none p (k + 1) fs xs (omega (arith, e)) (λ i g b q s. subst (λ (n : ℕ). fits_function p n g b ≡ true) (moved k i) (h (suc i) g b q s))
  where
    plain : (k : ℕ) → k + 0 ≡ k
    plain k = omega arith

    moved : (k i : ℕ) → k + suc i ≡ k + 1 + i
    moved k i = omega arith

module _ (o : Offers) (are : AreOffers o) (p : PlainProgram) (whole : IsWholeProgram p) (c : Claims) (is : AreClaims o p c)
    (bounded : (n : ℕ) (f : PlainFunction) → slice_get p.functions n ≡ Some f → (loops_of o p c n f).unbounded ≡ [])
    (short : (n : ℕ) (f : PlainFunction) → slice_get p.functions n ≡ Some f → (k : ℕ) (l : Loop) → slice_get (loops_of o p c n f).claims k ≡ Some l → is_ranked l.rank ≡ true → l.turns ≤ MOST_SUM) where
  module _ (n : ℕ) (f : PlainFunction) (there : slice_get p.functions n ≡ Some f) where
    abbrev loops : List Loop
    loops = (loops_of o p c n f).claims

    abbrev task : Option ℕ
    task = task_loop_number p n f

    function : IsWholeFunction p n f
    function = whole.functions n f there

    -- the claims of the loops speak of them
    pub sites_fit : SitesFit f task loops 0 (loop_sites f)
    sites_fit = all_sites p f c (all_typed o are p whole c is bounded short) (all_taken o are p whole c is bounded short) task (o n f) (loops_of o p c n f) NoneAsked (short n f there) (λ k parts l e g entry r z. tt) (are n f) (λ k depth parts l a e g z q. tt) (region_of p n f) (record { program_is = refl; function_is = refl }) f.body function.body 0
        (numbers_from 0 f.parameters) (Some (known_at_start f)) no_loops (record {
          here = (
            start_before p n f function,
            start_fair f,
            (λ k e.
                let a = some_is (known (known_at_start f) k) e in
                let q = parameter_known 0 f.parameters f.variables k a.0 a.1 in
                let low = q.among in
                among_numbers 0 f.parameters k (omega arith) (omega (arith, low))),
          );
          numbered = numbered_from 0 (heads_of f.body) function.loops_in_order;
          placed = each_by_place _ (loops_among f.body) (λ k x e. subst (λ (i : ℕ). slice_get (loops_among f.body) i ≡ Some x) (sym (loops_numbered p whole n f there k x e)) e);
          prefix = record { claims = λ j l e. e; marks = λ j x e. e; even = loops_even (search_in o p c n f) f (Some (known_at_start f)) };
          unbounded = bounded n f there;
        })

    -- there are as many
    pub loops_count : length loops ≡ length (heads_of f.body)
    loops_count = let e : length loops ≡ 0 + length (heads_of f.body) = (all_extend (search_in o p c n f) 0 f.body (Some (known_at_start f)) no_loops).count in omega (arith, e)

    pub sites_count : length (loop_sites f) ≡ length loops
    sites_count = sym (length-map (loop_sites f) (λ (y : LoopSite). y.head)) ∙ (ap length (all_sited 0 (numbers_from 0 f.parameters) f.body) ∙ sym loops_count)

    function_fits : (a : Func) → slice_get c.funcs n ≡ Some a → fits_function p n f a ≡ true
    function_fits a claimed =
        ap (λ b. b && fits_loops f task (loop_sites f) a.loops) heading
        ∙ (ap (fits_loops f task (loop_sites f)) (ap (λ (x : Func). x.loops) (is.each n f a there claimed))
        ∙ loops_fit (counted (sum_at p c.funcs n).turn) f task loops 0 (loop_sites f) loops sites_count (λ j l e. subst (λ (i : ℕ). slice_get loops i ≡ Some l) (plain j) e) sites_fit)
      where
        plain : (j : ℕ) → j ≡ 0 + j
        plain j = omega arith

        result_is : a.result ≡ result_of o p c n f
        result_is = ap (λ (x : Func). x.result) (is.each n f a there claimed)

        heading : fits_heading f a ≡ true
        heading =
            ap (λ (x : List ℕ). bytes_eq x f.name && (fits_types (parameter_types f) a.params && fits_type f.result a.result)) (ap (λ (x : Func). x.name) (is.each n f a there claimed))
            ∙ (ap (λ b. b && (fits_types (parameter_types f) a.params && fits_type f.result a.result)) (same_bytes f.name)
            ∙ (ap (λ l. fits_types (parameter_types f) l && fits_type f.result a.result) (params_are o are p whole c is bounded short n f a there claimed)
            ∙ (ap (λ b. b && fits_type f.result a.result) (all_fit (parameter_types f) function.parameters_scalar)
            ∙ (ap (fits_type f.result) result_is
            ∙ result_fits f.result (range_returned_by o p c n f) function.result.scalar_or_none (λ r e. results_typed o are p whole c is bounded short n f a there claimed r (result_is ∙ e))))))

  -- K1
  pub speaks : unfit p c ≡ None
  speaks = unfit_none p 0 p.functions c.funcs (sym (same_length o are p whole c is bounded short)) (λ i f a there claimed. subst (λ (n : ℕ). fits_function p n f a ≡ true) (plain i) (function_fits i f there a claimed))
    where
      plain : (i : ℕ) → i ≡ 0 + i
      plain i = omega arith
