-- In each function the conditions on calls, results and loops hold: K3 and K5 to K10.
use Rattle.std.proofs.Common.{◌≡◌, ℕ, suc, ◌≤◌, Bool, true, List, [], ◌∷◌, ◌++◌, map, Option, Some, None, refl, ap, sym, ◌∙◌, subst, arith}
use Rattle.std.specs.Prelude.{slice_get, if◌then◌else◌, ◌&&◌, IfSome}
use Rattle.std.specs.Option.{option_map}
use Rattle.std.proofs.lemmas.Option.{slice_get-map}
use Rattle.std.proofs.lemmas.Int.{ints, clamps}
use Rattle.p10_base.specs.declared.report.TheConstants.Limit.{MOST_SUM}
use Rattle.p10_range.specs.Ranges.{Interval, IsWithin, is_within, hull_of}
use Rattle.p10_core.specs.declared.statements.LoopHead.{LoopHead}
use Rattle.p10_core.specs.Types.{PlainType, void, integer, pointer, array, structure}
use Rattle.p10_core.specs.Constants.{integer_of}
use Rattle.p10_core.specs.Typed.{PlainVariable, PlainFunction, PlainProgram}
use Rattle.p10_core.specs.WholePrograms.{region_of, surroundings_of, loops_of as heads_of, IsWholeProgram}
use Rattle.p10_cert.specs.declared.claims.Rank.{Rank}
use Rattle.p10_cert.specs.declared.claims.Rank.TheVariants.{Up, Down, One, Task}
use Rattle.p10_cert.specs.Claims.{Value, Number, Address, Nothing, Loop, Func, Claims}
use Rattle.p10_absx.specs.Environments.{Environment}
use Rattle.p10_sums.specs.Counting.{loops_claimed}
use Rattle.p10_sums.specs.Sums.{sum_at}
use Rattle.p10_pass.specs.Claiming.{head_of, ranges_hold, ranges_hold_reached, range_claimed, claim_or_none, loop_claimed}
use Rattle.p10_pass.specs.Passing.{Manner, Weakness, Left, Round, place_unless, result_lies, loop_left, pass_statements, claimed_manner, manner_of, pass_body, pass_of, as_block}
use Rattle.p10_turns.specs.LoopParts.{LoopParts, loops_among}
use Rattle.p10_turns.specs.Ranked.{is_ranked}
use Rattle.p10_turns.specs.Evidence.{holds_by_ranges, loop_stands, stands_in}
use Rattle.p10_check.specs.Passes.{Standing, left_by, places_of, unranked, unranked_loops}
use Rattle.p10_candidates.specs.Trials.{counted}
use Rattle.p10_finder.specs.Functions.{known_at_start, loops_of, range_returned_by, result_by, result_of, with_turn_steps}
use Rattle.p10_finder.specs.Answers.{AreClaims}
use Rattle.p10_acceptance.proofs.Operating.{is_within_of}
use Rattle.p10_acceptance.proofs.Values.{AreTyped}
use Rattle.p10_acceptance.proofs.Calling.{MaybeTaken}
use Rattle.p10_acceptance.proofs.Ends.{Each}
use Rattle.p10_acceptance.proofs.Alike.{Differs, statements_alike}
use Rattle.p10_acceptance.proofs.Beginning.{start_is}
use Rattle.p10_acceptance.proofs.Bodies.{each_by_place, body_fine}
use Rattle.p10_acceptance.proofs.Results.{params_are, all_typed, all_taken}
use Rattle.p10_candidates.specs.Candidates.{LoopEntry}
use Rattle.p10_approach.specs.Approaches.{Approached}
use Rattle.p10_approach.specs.Offers.{Offers, IsOffer, AreOffers}
use Rattle.p10_acceptance.specs.Supporting.{Supports}

-- ## Claims of loops with the steps of a turn

-- a claim with a rank isn't changed
pub ranked_same : (k : ℕ) (l : Loop) → is_ranked l.rank ≡ true → with_turn_steps k l ≡ l
ranked_same k l e = at l.rank e
  where
    at : (r : Rank) → is_ranked r ≡ true → with_turn_steps k (record l { rank = r }) ≡ record l { rank = r }
    at (Up v bound) e = refl
    at (Down v bound) e = refl
    at One e = refl
    at Task e = absurd cc

holds_same : (k i : ℕ) (l : Loop) (vs : List PlainVariable) (env : Environment) → ranges_hold (record l { turns = k }) i vs env ≡ ranges_hold l i vs env
holds_same k i l [] env = refl
holds_same k i l (v ∷ vs) [] = refl
holds_same k i l (v ∷ vs) (Some a ∷ env) = ap (λ b. is_within a.range (range_claimed l.vars i (integer_of v.type)) && b) (holds_same k (suc i) l vs env)
holds_same k i l (v ∷ vs) (None ∷ env) = holds_same k (suc i) l vs env

reached_same : (k : ℕ) (l : Loop) (vs : List PlainVariable) (o : Option Environment) → ranges_hold_reached (record l { turns = k }) vs o ≡ ranges_hold_reached l vs o
reached_same k l vs None = refl
reached_same k l vs (Some env) = holds_same k 0 l vs env

-- a loop leaves the same
turned_left : (k : ℕ) (m : Manner) (l : Loop) (head : LoopHead) (assigned : ℕ → Bool) (entry : Environment) (r : Round) → loop_left m (with_turn_steps k l) head assigned entry r ≡ loop_left m l head assigned entry r
turned_left k m l head assigned entry r = at l.rank
  where
    at : (rank : Rank) → loop_left m (with_turn_steps k (record l { rank = rank })) head assigned entry r ≡ loop_left m (record l { rank = rank }) head assigned entry r
    at (Up v bound) = refl
    at (Down v bound) = refl
    at One = refl
    at Task =
        let first = holds_same k 0 (record l { rank = Task }) m.variables entry in
        let back = reached_same k (record l { rank = Task }) m.variables r.back in
        λ i. record (loop_left m (record l { rank = Task }) head assigned entry r) { entries = place_unless (first i) head.span ++ r.body.entries; backs = place_unless (back i) head.span ++ r.body.backs }

turned_head : (k : ℕ) (l : Loop) (vs : List PlainVariable) (entry : Environment) → head_of (with_turn_steps k l) vs entry ≡ head_of l vs entry
turned_head k l vs entry = at l.rank
  where
    at : (rank : Rank) → head_of (with_turn_steps k (record l { rank = rank })) vs entry ≡ head_of (record l { rank = rank }) vs entry
    at (Up v bound) = refl
    at (Down v bound) = refl
    at One = refl
    at Task = refl

pub claimed_turned : (k : ℕ) (ls : List Loop) (n : ℕ) → loop_claimed (map (with_turn_steps k) ls) n ≡ with_turn_steps k (loop_claimed ls n)
claimed_turned k ls n = ap claim_or_none (slice_get-map (with_turn_steps k) ls n) ∙ at (slice_get ls n)
  where
    at : (o : Option Loop) → claim_or_none (option_map (with_turn_steps k) o) ≡ with_turn_steps k (claim_or_none o)
    at None = refl
    at (Some l) = refl

-- ## Results

-- a returned range lies in what is claimed of a result
abbrev LiesIn : Value → Interval → Type 0
LiesIn (Number s) r = IsWithin r s
LiesIn v r = Unit {0}

lies_parts : (v : Value) (a b : Interval) → LiesIn v (hull_of a b) → LiesIn v a × LiesIn v b
lies_parts (Number s) a b h = (record { from_low = omega (arith, ints, clamps, h.from_low); to_high = omega (arith, ints, clamps, h.to_high) }, record { from_low = omega (arith, ints, clamps, h.from_low); to_high = omega (arith, ints, clamps, h.to_high) })
lies_parts Address a b h = (tt, tt)
lies_parts Nothing a b h = (tt, tt)

lies_agree : (v : Value) (r : Interval) → LiesIn v r → result_lies None r ≡ result_lies (Some v) r
lies_agree (Number s) r h = sym (is_within_of r s h)
lies_agree Address r h = refl
lies_agree Nothing r h = refl

returned_lies : (t : PlainType) (o : Option Interval) → IfSome o (LiesIn (result_by t o))
returned_lies t None = tt
returned_lies (integer c kind) (Some r) = record { from_low = omega (arith, ints); to_high = omega (arith, ints) }
returned_lies (pointer c t) (Some r) = tt
returned_lies (void c) (Some r) = tt
returned_lies (array c t n) (Some r) = tt
returned_lies (structure c n) (Some r) = tt

differs : (v : Value) (k : ℕ) → Differs (LiesIn v) None (Some v) (with_turn_steps k)
differs v k = record { parts = lies_parts v; agree = lies_agree v; lefts = turned_left k; heads = turned_head k }

-- ## Ranks

all_stand : (k : ℕ) (stands : Weakness → Bool) (weak : List Weakness) → Each (λ w. stands w ≡ true) weak → unranked k stands weak ≡ []
all_stand k stands [] h = refl
all_stand k stands (w ∷ rest) h = ap (λ b. (if b then [] else places_of k w.fails) ++ unranked k stands rest) h.0 ∙ all_stand k stands rest h.1

-- what holds of the pass over a function
pub record FunctionHolds (stands : Standing) (p : PlainProgram) (c : Claims) (n : ℕ) : Type 0 where
  pub arguments : (left_by p c n).arguments ≡ []
  pub results : (left_by p c n).results ≡ []
  pub entries : (left_by p c n).entries ≡ []
  pub backs : (left_by p c n).backs ≡ []
  pub ranked : (k : ℕ) → unranked_loops stands c n k (left_by p c n).weak ≡ []

module _ (o : Offers) (are : AreOffers o) (p : PlainProgram) (whole : IsWholeProgram p) (c : Claims) (is : AreClaims o p c)
    (bounded : (n : ℕ) (f : PlainFunction) → slice_get p.functions n ≡ Some f → (loops_of o p c n f).unbounded ≡ [])
    (short : (n : ℕ) (f : PlainFunction) → slice_get p.functions n ≡ Some f → (k : ℕ) (l : Loop) → slice_get (loops_of o p c n f).claims k ≡ Some l → is_ranked l.rank ≡ true → l.turns ≤ MOST_SUM)
    (stands : Standing) (supports : Supports o stands p c) (n : ℕ) (f : PlainFunction) (there : slice_get p.functions n ≡ Some f) (a : Func) (claimed : slice_get c.funcs n ≡ Some a) where
  abbrev loops : List Loop
  loops = (loops_of o p c n f).claims

  abbrev turn : ℕ
  turn = counted (sum_at p c.funcs n).turn

  pub loops_are : a.loops ≡ map (with_turn_steps turn) loops
  loops_are = ap (λ (x : Func). x.loops) (is.each n f a there claimed)

  result_is : a.result ≡ result_of o p c n f
  result_is = ap (λ (x : Func). x.result) (is.each n f a there claimed)

  -- evidence stands for a loop
  abbrev Good : ℕ → Environment → Type 0
  Good i e = stands n i e (loop_claimed a.loops i) ≡ true

  -- a claim with a rank is that of the certificate
  claim_is : (i : ℕ) (l : Loop) → slice_get loops i ≡ Some l → is_ranked l.rank ≡ true → loop_claimed a.loops i ≡ l
  claim_is i l e ranked = ap (λ (x : List Loop). loop_claimed x i) loops_are ∙ (claimed_turned turn loops i ∙ (ap (λ (o : Option Loop). with_turn_steps turn (claim_or_none o)) e ∙ ranked_same turn l ranked))

  good : (i : ℕ) (parts : LoopParts) (l : Loop) → slice_get (loops_among f.body) i ≡ Some parts → slice_get loops i ≡ Some l → (entry : Environment) → is_ranked l.rank ≡ true → holds_by_ranges f.variables parts entry l ≡ true → Good i entry
  good i parts l placed e entry ranked holds =
      ap (stands n i entry) (claim_is i l e ranked) ∙ supports.by_ranges n i entry l (ap (λ o. stands_in o i entry l) there ∙ (ap (λ o. loop_stands f.variables o entry l) placed ∙ holds))

  good_offer : (k depth : ℕ) (parts : LoopParts) (l : LoopEntry) (x : Approached) → slice_get (loops_among f.body) k ≡ Some parts → slice_get loops k ≡ Some x.claim → slice_get (loops_of o p c n f).approaches k ≡ Some (Some x.approach) → o n f k depth (Some parts) l ≡ Some x → Good k l.entry
  good_offer k depth parts l x placed e marked offered =
      let offer : IsOffer f l depth x = subst (λ (y : Option Approached). IfSome y (IsOffer f l depth)) offered (supports.are n f k depth (Some parts) l) in
      ap (stands n k l.entry) (claim_is k x.claim e (ap (λ (y : Loop). is_ranked y.rank) offer.claim)) ∙ supports.by_offers n f there k depth parts l x placed e marked offered

  typed : AreTyped (surroundings_of p) (Some c)
  typed = all_typed o are p whole c is bounded short

  taken : MaybeTaken (surroundings_of p) (Some c)
  taken = all_taken o are p whole c is bounded short

  -- the pass without a claim of the result, and as the certificate has it
  abbrev found_manner : Manner
  found_manner = record { calls = Some c; loops = Some loops; result = None; variables = f.variables }

  abbrev claimed_loops : Manner
  claimed_loops = record { calls = Some c; loops = Some (map (with_turn_steps turn) loops); result = Some a.result; variables = f.variables }

  abbrev Fits : Left → Type 0
  Fits l = (l.arguments ≡ []) × (l.results ≡ []) × (l.entries ≡ []) × (l.backs ≡ []) × Each (λ w. Good w.at w.entry) l.weak

  found_fits : Fits (pass_statements found_manner f.body (known_at_start f))
  found_fits =
      let h = body_fine o are p whole n f there c typed taken Good (bounded n f there) (short n f there) good good_offer in
      (h.arguments, h.results, h.entries, h.backs, h.weak)

  passes_same : pass_statements found_manner f.body (known_at_start f) ≡ pass_statements claimed_loops f.body (known_at_start f)
  passes_same = statements_alike (Some c) f.variables loops (map (with_turn_steps turn) loops) None (Some a.result) (LiesIn a.result) (with_turn_steps turn) (differs a.result turn) (region_of p n f) f.body (whole.functions n f there).body
      (each_by_place _ (heads_of f.body) (λ k h e. claimed_turned turn loops h.number)) (known_at_start f)
      (subst (λ (v : Value). IfSome (range_returned_by o p c n f) (LiesIn v)) (sym result_is) (returned_lies f.result (range_returned_by o p c n f)))

  manner_is : claimed_loops ≡ manner_of f (Some c) n
  manner_is = (λ i. record { calls = Some c; loops = Some (sym loops_are i); result = Some a.result; variables = f.variables }) ∙ ap (λ o. claimed_manner c o f.variables) (sym claimed)

  left_is : left_by p c n ≡ as_block f.body (pass_statements claimed_loops f.body (known_at_start f))
  left_is = ap (pass_of p c n) (start_is p c n f a there claimed (params_are o are p whole c is bounded short n f a there claimed)) ∙ (pass_is (known_at_start f) ∙ ap (λ (m : Manner). as_block f.body (pass_statements m f.body (known_at_start f))) (sym manner_is))
    where
      pass_is : (env : Environment) → pass_of p c n env ≡ pass_body f (Some c) n env
      pass_is env = rw there refl

  left_fits : Fits (left_by p c n)
  left_fits = subst Fits (sym left_is) (subst (λ (l : Left). Fits (as_block f.body l)) passes_same found_fits)

  -- K3 and K5 to K10
  pub function_holds : FunctionHolds stands p c n
  function_holds = record {
    arguments = left_fits.0;
    results = left_fits.1;
    entries = left_fits.2;
    backs = left_fits.3;
    ranked = λ k. subst (λ (o : Option Func). unranked k (λ w. stands n w.at w.entry (loop_claimed (loops_claimed o) w.at)) (left_by p c n).weak ≡ []) (sym claimed)
        (all_stand k (λ w. stands n w.at w.entry (loop_claimed a.loops w.at)) (left_by p c n).weak left_fits.4);
  }
