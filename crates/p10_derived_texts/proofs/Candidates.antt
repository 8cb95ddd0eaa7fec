-- What is found for a loop that is entered: each candidate has a rank that is written and a trial of ranges of types, and so has the claim.
use Rattle.std.proofs.Common.{◌≡◌, ℕ, Bool, true, false, List, [], ◌∷◌, length, flat_map, Option, Some, None, refl, sym, ◌∙◌, subst, pos}
use Rattle.std.specs.Prelude.{slice_get, option_to_list, ◌<◌, if◌then◌else◌, IfSome}
use Rattle.std.specs.Option.{option_map}
use Rattle.std.specs.List.{AllByRecursion}
use Rattle.std.proofs.lemmas.Option.{same_Some, none-some}
use Rattle.p10_base.specs.declared.at.At.{At}
use Rattle.p10_base.specs.declared.span.Span.{Span}
use Rattle.p10_int.specs.declared.types.IntType.{IntType}
use Rattle.p10_int.specs.declared.operators.BinOp.{BinOp}
use Rattle.p10_int.specs.declared.operators.BinOp.TheVariants.{Ne}
use Rattle.p10_int.proofs.Conversions.{zero_in}
use Rattle.p10_range.specs.Ranges.{Interval}
use Rattle.p10_range.specs.Laws.{IsOfType}
use Rattle.p10_range.proofs.Small.{ends_in}
use Rattle.p10_core.specs.declared.typed.LogicOp.TheVariants.{And}
use Rattle.p10_core.specs.Types.{PlainType}
use Rattle.p10_core.specs.Typed.{PlainValue, value, PlainForm, read, convert, cast, binary, logic, type_of, PlainPlace, place, variable, PlainVariable, PlainFunction, PlainProgram}
use Rattle.p10_core.specs.Constants.{integer_of}
use Rattle.p10_core.specs.Whole.{Surroundings, IsWholeValue, IsWholeForm, IsWholePlace}
use Rattle.p10_core.specs.WholePrograms.{IsMaybeTest}
use Rattle.p10_cert.specs.declared.claims.Rank.{Rank}
use Rattle.p10_cert.specs.declared.claims.Rank.TheVariants.{One, Task}
use Rattle.p10_cert.specs.Claims.{Loop}
use Rattle.p10_cert.specs.Certificate.{task_number}
use Rattle.p10_absx.specs.Abstract.{Abstract, only_range}
use Rattle.p10_absx.specs.Environments.{Environment, known}
use Rattle.p10_absx.specs.Comparing.{turned}
use Rattle.p10_absx.specs.Assessing.{assess, abstract_value}
use Rattle.p10_absx.proofs.Entries.{get_below}
use Rattle.p10_known.specs.Typing.{AreOfTypes, MaybeOfTypes, ResultsOfTypes}
use Rattle.p10_known.proofs.Ranges.{all_of_type, number_of_type, hull_of_type, Has, MaybeHas}
use Rattle.p10_known.proofs.Environments.{learned_types, changed_types, forgotten_types}
use Rattle.p10_known.proofs.Values.{IsSeen, Sees, value_has, found_of_type}
use Rattle.p10_candidates.specs.declared.course.Course.{Course}
use Rattle.p10_candidates.specs.declared.course.Course.TheVariants.{Below, AtMost, Above, AtLeast}
use Rattle.p10_candidates.specs.Candidates.{LoopEntry, conjuncts, conjuncts_of_form, guard_conjuncts, variable_named, variable_under, variable_under_form, courses_of, rank_along, range_along, Candidate, any_trial, moved_along, trial_along, is_variable_in, candidate_along, course_candidates, side_candidates, zero_for, conjunct_candidates, one_candidate, candidates}
use Rattle.p10_candidates.specs.Trials.{Rounds, with_known, with_back, head_after, tried_head, turns_from, claim_of, stands_alone, first_standing, found_by, unreached_found}
use Rattle.p10_finder.specs.Loops.{entered_found}
use Rattle.p10_derived_texts.specs.Approaching.{AreNear}
use Rattle.p10_derived_texts.proofs.Claims.{all_append, all_take, all_flat, rank_fits, rank_plain, RankFits, LoopFits, claim_fits}
use Rattle.p10_approach.specs.Approaches.{Approached}
use Rattle.p10_approach.specs.Offers.{IsOffer}

-- without claims each result is of its type
pub no_results : (p : PlainProgram) → ResultsOfTypes p None
no_results p = record { each = λ n g there. all_of_type (integer_of g.result) }

-- ## Parts of guards

module _ (c : Surroundings) where
  mutual
    whole_conjuncts : (v : PlainValue) → IsWholeValue c v → AllByRecursion (IsWholeValue c) (conjuncts v)
    whole_conjuncts (value at t form) i = whole_in_form at t form i

    whole_in_form : (at : At) (t : PlainType) (form : PlainForm) → IsWholeForm c t form → AllByRecursion (IsWholeValue c) (conjuncts_of_form at t form)
    whole_in_form at t (logic And a b) i = all_append (IsWholeValue c) (conjuncts a) (conjuncts b) (whole_conjuncts a i.0) (whole_conjuncts b i.1)
    whole_in_form at t form i = (i, tt)

  whole_guard : (guard : Option PlainValue) → IsMaybeTest c guard → AllByRecursion (IsWholeValue c) (guard_conjuncts guard)
  whole_guard None i = tt
  whole_guard (Some v) i = whole_conjuncts v i.whole

-- from a range along a course
range_typed : (course : Course) (t : IntType) (r : Interval) → IsOfType t r → IsOfType t (range_along course t r)
range_typed Below t r h = hull_of_type t r _ h (number_of_type t _ (ends_in t).1)
range_typed AtMost t r h = hull_of_type t r _ h (number_of_type t _ (ends_in t).1)
range_typed Above t r h = hull_of_type t r _ h (number_of_type t _ (ends_in t).0)
range_typed AtLeast t r h = hull_of_type t r _ h (number_of_type t _ (ends_in t).0)

-- what is claimed of a loop of this depth: it fits, and is the task's or not
pub record Good (variables : List PlainVariable) (depth tasks : ℕ) (x : Loop) : Type 0 where
  pub fits : LoopFits variables x
  pub depth_is : x.depth ≡ depth
  pub tasks_are : task_number x.rank ≡ tasks

module _ (p : PlainProgram) (f : PlainFunction) (c : Surroundings) (sees : Sees p f c) where
  -- the variable that a whole value names is one of the function's
  mutual
    under_low : (v : PlainValue) → IsWholeValue c v → (n : ℕ) → variable_under v ≡ Some n → n < length f.variables
    under_low (value at t form) i n e = form_low t form i n e

    form_low : (t : PlainType) (form : PlainForm) → IsWholeForm c t form → (n : ℕ) → variable_under_form form ≡ Some n → n < length f.variables
    form_low t (read q) i n e = place_low q i.0 n e
    form_low t (convert v) i n e = under_low v i.0 n e
    form_low t (cast v) i n e = under_low v i.0 n e
    form_low t form i n e = absurd (none-some _ e)

    place_low : (q : PlainPlace) → IsWholePlace c q → (n : ℕ) → variable_named q ≡ Some n → n < length f.variables
    place_low (place at t (variable m)) i n e =
        let same : m ≡ n = same_Some _ _ e in
        let seen : IsSeen f m i.seen.type = sees.variables m i.seen i.there in
        subst (λ k. k < length f.variables) same (get_below f.variables m seen.variable seen.there)
    place_low (place at t form) i n e = absurd (none-some _ e)

  module _ (assigned : ℕ → Bool) (guard : Option PlainValue) (entry : Environment) (typed : AreOfTypes f.variables entry) where
    abbrev l : LoopEntry
    l = record { variables = f.variables; assigned = assigned; guard = guard; entry = entry }

    -- ## Trials

    any_typed : AreOfTypes f.variables (any_trial l)
    any_typed = forgotten_types f.variables assigned entry typed

    trial_typed : (v : ℕ) (course : Course) → AreOfTypes f.variables (trial_along l v course)
    trial_typed v course = at (assigned v)
      where
        moved : (x : Option PlainVariable) (a : Option Abstract) → slice_get f.variables v ≡ x → known entry v ≡ a → AreOfTypes f.variables (moved_along v course x a (any_trial l))
        moved (Some x) (Some a) e k = learned_types f.variables (any_trial l) v (only_range (range_along course (integer_of x.type) a.range)) any_typed (λ u there.
            let same : x ≡ u = same_Some _ _ (sym e ∙ there) in
            subst (λ (w : PlainVariable). IsOfType (integer_of w.type) (range_along course (integer_of x.type) a.range)) same (range_typed course (integer_of x.type) a.range (typed.each v x a e k)))
        moved (Some x) None e k = any_typed
        moved None a e k = any_typed

        at : (b : Bool) → AreOfTypes f.variables (if b then moved_along v course (slice_get f.variables v) (known entry v) (any_trial l) else any_trial l)
        at true = moved (slice_get f.variables v) (known entry v) refl refl
        at false = any_typed

    -- ## Candidates

    -- a candidate whose trial has ranges of types, and whose rank is written and not the task's
    record CandidateFits (x : Candidate) : Type 0 where
      trial : AreOfTypes f.variables x.trial
      rank : RankFits (length f.variables) x.rank
      plain : task_number x.rank ≡ 0

    -- a value whose ranges are of its type, wherever what is known is
    abbrev IsTyped : PlainValue → Type 0
    IsTyped other = (env : Environment) → AreOfTypes f.variables env → MaybeHas (integer_of (type_of other)) (abstract_value None env other)

    whole_typed : (v : PlainValue) → IsWholeValue c v → IsTyped v
    whole_typed v i env h = value_has f.variables (type_of v) (assess None v env) (found_of_type p f None (no_results p) c sees v i env h)

    zero_typed : (v : PlainValue) → IsTyped (zero_for v)
    zero_typed (value at t form) env h = number_of_type (integer_of t) (pos 0) (zero_in (integer_of t))

    along_fits : (side other : PlainValue) (v : ℕ) → v < length f.variables → IsTyped other → (course : Course) → AllByRecursion CandidateFits (candidate_along l side other v course)
    along_fits side other v low h course = at (is_variable_in (trial_along l v course) v side) (abstract_value None (trial_along l v course) other) (h (trial_along l v course) (trial_typed v course))
      where
        found : (o : Option Abstract) → MaybeHas (integer_of (type_of other)) o → AllByRecursion CandidateFits (option_to_list (option_map (λ (a : Abstract). record { rank = rank_along course v a.range; trial = trial_along l v course }) o))
        found None k = tt
        found (Some a) k = (record { trial = trial_typed v course; rank = rank_fits (length f.variables) course v (integer_of (type_of other)) a.range low k; plain = rank_plain course v a.range }, tt)

        at : (b : Bool) (o : Option Abstract) → MaybeHas (integer_of (type_of other)) o → AllByRecursion CandidateFits (if b then option_to_list (option_map (λ (a : Abstract). record { rank = rank_along course v a.range; trial = trial_along l v course }) o) else [])
        at true o k = found o k
        at false o k = tt

    courses_fit : (op : BinOp) (side other : PlainValue) → IsTyped other → (o : Option ℕ) → ((v : ℕ) → o ≡ Some v → v < length f.variables) → AllByRecursion CandidateFits (course_candidates l op side other o)
    courses_fit op side other h None k = tt
    courses_fit op side other h (Some v) k = along_all (courses_of op)
      where
        along_all : (courses : List Course) → AllByRecursion CandidateFits (flat_map (candidate_along l side other v) courses)
        along_all [] = tt
        along_all (course ∷ rest) = all_append CandidateFits (candidate_along l side other v course) (flat_map (candidate_along l side other v) rest) (along_fits side other v (k v refl) h course) (along_all rest)

    side_fits : (op : BinOp) (side other : PlainValue) → IsWholeValue c side → IsTyped other → AllByRecursion CandidateFits (side_candidates l op side other)
    side_fits op side other i h = courses_fit op side other h (variable_under side) (under_low side i)

    conjunct_fits : (v : PlainValue) → IsWholeValue c v → AllByRecursion CandidateFits (conjunct_candidates l v)
    conjunct_fits (value at t (binary op a b)) i = all_append CandidateFits (side_candidates l op a b) (side_candidates l (turned op) b a) (side_fits op a b i.0 (whole_typed b i.1)) (side_fits (turned op) b a i.1 (whole_typed a i.0))
    conjunct_fits (value at t form) i = side_fits Ne (value at t form) (zero_for (value at t form)) i (zero_typed (value at t form))

    one_fits : CandidateFits (one_candidate l)
    one_fits = record { trial = any_typed; rank = tt; plain = refl }

    candidates_fit : IsMaybeTest c guard → AllByRecursion CandidateFits (candidates l)
    candidates_fit i = all_append CandidateFits _ (one_candidate l ∷ [])
        (all_take CandidateFits 4 _ (all_flat (IsWholeValue c) CandidateFits (conjunct_candidates l) (guard_conjuncts guard) conjunct_fits (whole_guard c guard i)))
        (one_fits, tt)

    -- ## Claims

    module _ (round : Rounds) (goes : (env : Environment) → AreOfTypes f.variables env → MaybeOfTypes f.variables (round env).back) (depth : ℕ) where
      back_typed : (t : IntType) (n : ℕ) (v : PlainVariable) (r : Interval) (o : Option Environment) → slice_get f.variables n ≡ Some v → IsOfType (integer_of v.type) r → MaybeOfTypes f.variables o → IsOfType (integer_of v.type) (with_back o n r)
      back_typed t n v r None there h k = h
      back_typed t n v r (Some back) there h k = at (known back n) refl
        where
          at : (a : Option Abstract) → known back n ≡ a → IsOfType (integer_of v.type) (with_known r a)
          at None e = h
          at (Some a) e = hull_of_type (integer_of v.type) r a.range h (k.each n v a there e)

      head_typed : (back : Option Environment) → MaybeOfTypes f.variables back → AreOfTypes f.variables (head_after l back)
      head_typed back k = changed_types f.variables (λ n v a. if assigned n then only_range (with_back back n a.range) else a) entry (λ n v a there h. at n v a (assigned n) there h) typed
        where
          at : (n : ℕ) (v : PlainVariable) (a : Abstract) (b : Bool) → slice_get f.variables n ≡ Some v → Has (integer_of v.type) a → Has (integer_of v.type) (if b then only_range (with_back back n a.range) else a)
          at n v a true there h = back_typed (integer_of v.type) n v a.range back there h k
          at n v a false there h = h

      candidate_good : (x : Candidate) → CandidateFits x → Good f.variables depth 0 (claim_of round l depth x)
      candidate_good x h = record {
        fits = claim_fits f.variables (tried_head round l x.trial) (head_typed (round x.trial).back (goes x.trial h.trial)) assigned guard entry depth x.rank (turns_from x.rank entry) h.rank;
        depth_is = refl;
        tasks_are = h.plain;
      }

      standing_good : (xs : List Candidate) → AllByRecursion CandidateFits xs → IfSome (first_standing round l depth xs) (Good f.variables depth 0)
      standing_good [] h = tt
      standing_good (x ∷ xs) h = at (stands_alone round l (claim_of round l depth x)) (candidate_good x h.0) (standing_good xs h.1)
        where
          at : (b : Bool) → Good f.variables depth 0 (claim_of round l depth x) → IfSome (first_standing round l depth xs) (Good f.variables depth 0) → IfSome (if b then Some (claim_of round l depth x) else first_standing round l depth xs) (Good f.variables depth 0)
          at true g k = g
          at false g k = k

      found_good : (keyword : Span) (o : Option Loop) → IfSome o (Good f.variables depth 0) → Good f.variables depth 0 (found_by keyword l depth o).claim
      found_good keyword None h = record { fits = claim_fits f.variables (any_trial l) any_typed assigned guard entry depth One 0 tt; depth_is = refl; tasks_are = refl }
      found_good keyword (Some x) h = h

      pub entered_good : (offered : Option Approached) → IfSome offered (IsOffer f l depth) → (task : Bool) (keyword : Span) → IsMaybeTest c guard → Good f.variables depth (if task then 1 else 0) (entered_found offered task keyword round l depth).claim
      entered_good offered offer true keyword i = record {
        fits = claim_fits f.variables (tried_head round l (any_trial l)) (head_typed (round (any_trial l)).back (goes (any_trial l) any_typed)) assigned guard entry depth Task 0 tt;
        depth_is = refl;
        tasks_are = refl;
      }
      entered_good (Some a) offer false keyword i =
          subst (Good f.variables depth 0) (sym offer.claim) (record { fits = claim_fits f.variables (any_trial l) any_typed assigned guard entry depth One a.claim.turns tt; depth_is = refl; tasks_are = refl })
      entered_good None offer false keyword i = found_good keyword (first_standing round l depth (candidates l)) (standing_good (candidates l) (candidates_fit i))

      -- two variables that approach each other are the function's
      by_claim : (keyword : Span) (o : Option Loop) → AreNear f.variables (found_by keyword l depth o).approach
      by_claim keyword None = tt
      by_claim keyword (Some x) = tt

      pub entered_near : (offered : Option Approached) → IfSome offered (IsOffer f l depth) → (task : Bool) (keyword : Span) → AreNear f.variables (entered_found offered task keyword round l depth).approach
      entered_near offered offer true keyword = tt
      entered_near (Some a) offer false keyword = (offer.below, offer.above)
      entered_near None offer false keyword = by_claim keyword (first_standing round l depth (candidates l))

  pub unreached_fits : (depth : ℕ) (rank : Rank) → RankFits (length f.variables) rank → LoopFits f.variables (unreached_found depth rank).claim
  unreached_fits depth rank r = record { lines = tt; small = tt; rise = tt; rank = r }
