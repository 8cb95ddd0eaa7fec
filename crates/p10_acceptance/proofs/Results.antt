-- What is claimed of results has numbers of their types: by the ranks of functions, which call functions of smaller rank alone.
use Rattle.std.proofs.Common.{◌≡◌, ℕ, zero, suc, ◌<◌, ◌≤◌, length, Bool, true, false, List, [], ◌∷◌, map, Option, Some, None, refl, ap, sym, ◌∙◌, subst, arith}
use Rattle.std.specs.Prelude.{slice_get, if◌then◌else◌, nat_eq, nat_lt, IfSome}
use Rattle.std.specs.Option.{option_map}
use Rattle.std.specs.List.{slice_index}
use Rattle.std.proofs.lemmas.Option.{same_Some, none-some, slice_get-map, slice_get_past}
use Rattle.std.proofs.lemmas.Bool.{lt-ltb, ltb-true}
use Rattle.std.proofs.lemmas.List.{length-map}
use Rattle.p10_base.specs.declared.report.TheConstants.Limit.{MOST_SUM}
use Rattle.p10_int.specs.declared.types.IntType.{IntType}
use Rattle.p10_range.specs.Ranges.{Interval}
use Rattle.p10_range.specs.Rows.{values_of}
use Rattle.p10_range.specs.Laws.{IsOfType}
use Rattle.p10_core.specs.Types.{PlainType, void, integer, pointer, array, structure}
use Rattle.p10_core.specs.Constants.{integer_of}
use Rattle.p10_core.specs.Typed.{PlainFunction, PlainProgram}
use Rattle.p10_core.specs.Nodes.{nodes_of_statements}
use Rattle.p10_core.specs.Whole.{SeenFunction}
use Rattle.p10_core.specs.WholePrograms.{seen_function, parameter_types, surroundings_of, IsWholeProgram}
use Rattle.p10_graph.specs.Graphs.{Edge}
use Rattle.p10_calls.specs.CallGraphs.{callees_of, call_graph}
use Rattle.p10_cert.specs.Claims.{Value, Number, Address, Nothing, Func, Loop, Claims}
use Rattle.p10_absx.specs.Assessing.{result_claimed}
use Rattle.p10_absx.specs.Entering.{claims_on}
use Rattle.p10_turns.specs.Ranked.{is_ranked}
use Rattle.p10_finder.specs.Functions.{any_value, loops_of, range_returned_by, result_by}
use Rattle.p10_finder.specs.Loops.{LoopsFound}
use Rattle.p10_finder.specs.Answers.{AreClaims}
use Rattle.p10_finder.proofs.Called.{EachCalled}
use Rattle.p10_finder.proofs.SameValues.{Same}
use Rattle.p10_finder.proofs.SameLoops.{loops_of_same, result_same}
use Rattle.p10_finder.proofs.OneResult.{edges_each}
use Rattle.p10_finder.proofs.OneClaims.{claims_have_results}
use Rattle.p10_acceptance.proofs.Narrowing.{whole_typed}
use Rattle.p10_acceptance.proofs.Values.{AreTyped}
use Rattle.p10_acceptance.proofs.Calling.{AreTaken, same_bare}
use Rattle.p10_acceptance.proofs.Trials.{NoneAsked}
use Rattle.p10_acceptance.proofs.Bodies.{body_fine}
use Rattle.p10_approach.specs.Offers.{Offers, AreOffers}

-- ## Lists

pub is_there : {A : Type 0} (xs : List A) (n : ℕ) → n < length xs → (x : A) × (slice_get xs n ≡ Some x)
is_there [] n h = absurd (omega (arith, h))
is_there (x ∷ xs) zero h = (x, refl)
is_there (x ∷ xs) (suc n) h = is_there xs n (omega (arith, h))

pub there_below : {A : Type 0} (xs : List A) (n : ℕ) (x : A) → slice_get xs n ≡ Some x → n < length xs
there_below [] n x e = absurd (none-some _ e)
there_below (y ∷ xs) zero x e = omega arith
there_below (y ∷ xs) (suc n) x e = let h = there_below xs n x e in omega (arith, h)

pub index_is : (xs : List ℕ) (n x : ℕ) → slice_get xs n ≡ Some x → slice_index xs n ≡ x
index_is [] n x e = absurd (none-some _ e)
index_is (y ∷ xs) zero x e = same_Some _ _ e
index_is (y ∷ xs) (suc n) x e = index_is xs n x e

pub mapped_at : {A B : Type 0} (g : A → B) (xs : List A) (n : ℕ) (x : A) → slice_get xs n ≡ Some x → slice_get (map g xs) n ≡ Some (g x)
mapped_at g xs n x e = slice_get-map g xs n ∙ ap (option_map g) e

-- ## Claims on functions

-- a range that is claimed of a result has numbers of its type
abbrev pub ResultTyped : PlainFunction → Func → Type 0
ResultTyped f a = (r : Interval) → a.result ≡ Number r → IsOfType (integer_of f.result) r

claimed_typed : (kind : IntType) (a : Func) (v : Value) → a.result ≡ v → ((r : Interval) → v ≡ Number r → IsOfType kind r) → IsOfType kind (result_claimed kind (Some a))
claimed_typed kind a v e h = subst (λ (x : Value). IsOfType kind (result_claimed kind (Some (record a { result = x })))) (sym e) (by_value v h)
  where
    by_value : (v : Value) → ((r : Interval) → v ≡ Number r → IsOfType kind r) → IsOfType kind (result_claimed kind (Some (record a { result = v })))
    by_value (Number r) h = h r refl
    by_value Address h = whole_typed kind
    by_value Nothing h = whole_typed kind

-- a function that is seen is one of the program
pub record IsFunction (p : PlainProgram) (n : ℕ) (x : SeenFunction) : Type 0 where
  pub function : PlainFunction
  pub there : slice_get p.functions n ≡ Some function
  pub is : x ≡ seen_function function

pub seen_is : (p : PlainProgram) (n : ℕ) (x : SeenFunction) → (surroundings_of p).function_at n ≡ Some x → IsFunction p n x
seen_is p n x e = at (nat_eq n p.main) (slice_get p.functions n) refl e
  where
    at : (b : Bool) (o : Option PlainFunction) → slice_get p.functions n ≡ o → (if b then None else option_map seen_function o) ≡ Some x → IsFunction p n x
    at true o q e = absurd (none-some _ e)
    at false None q e = absurd (none-some _ e)
    at false (Some f) q e = record { function = f; there = q; is = sym (same_Some _ _ e) }

module _ (o : Offers) (are : AreOffers o) (p : PlainProgram) (whole : IsWholeProgram p) (c : Claims) (is : AreClaims o p c)
    (bounded : (n : ℕ) (f : PlainFunction) → slice_get p.functions n ≡ Some f → (loops_of o p c n f).unbounded ≡ [])
    (short : (n : ℕ) (f : PlainFunction) → slice_get p.functions n ≡ Some f → (k : ℕ) (l : Loop) → slice_get (loops_of o p c n f).claims k ≡ Some l → is_ranked l.rank ≡ true → l.turns ≤ MOST_SUM) where
  pub same_length : length c.funcs ≡ length p.functions
  same_length = (claims_have_results o p c is).each

  pub claim_there : (n : ℕ) (f : PlainFunction) → slice_get p.functions n ≡ Some f → (a : Func) × (slice_get c.funcs n ≡ Some a)
  claim_there n f there = let low = there_below p.functions n f there in let e = same_length in is_there c.funcs n (omega (arith, low, e))

  pub params_are : (n : ℕ) (f : PlainFunction) (a : Func) → slice_get p.functions n ≡ Some f → slice_get c.funcs n ≡ Some a → a.params ≡ map any_value (parameter_types f)
  params_are n f a there claimed = ap (λ (x : Func). x.params) (is.each n f a there claimed)

  -- ## Claims without some results

  -- nothing is claimed of the result of a function of a rank that isn't below a bound
  cut : ℕ → Func → Func
  cut k a = if nat_lt a.rank k then a else record a { result = Nothing }

  cut_params : (k : ℕ) (a : Func) → (cut k a).params ≡ a.params
  unfolding cut
  cut_params k a = at (nat_lt a.rank k)
    where
      at : (b : Bool) → (if b then a else record a { result = Nothing }).params ≡ a.params
      at true = refl
      at false = refl

  cut_same : (k : ℕ) (a : Func) → a.rank < k → cut k a ≡ a
  unfolding cut
  cut_same k a h = ap (λ b. if b then a else record a { result = Nothing }) (lt-ltb a.rank k h)

  cut_typed : (k : ℕ) (kind : IntType) (a : Func) → (a.rank < k → (r : Interval) → a.result ≡ Number r → IsOfType kind r) → IsOfType kind (result_claimed kind (Some (cut k a)))
  unfolding cut
  cut_typed k kind a h = at (nat_lt a.rank k) refl
    where
      at : (b : Bool) → nat_lt a.rank k ≡ b → IsOfType kind (result_claimed kind (Some (if b then a else record a { result = Nothing })))
      at true e = claimed_typed kind a a.result refl (h (ltb-true a.rank k e))
      at false e = whole_typed kind

  abbrev below : ℕ → Claims
  below k = record { funcs = map (cut k) c.funcs; total = c.total }

  -- what is claimed of functions of smaller rank has numbers of its type
  abbrev TypedBelow : ℕ → Type 0
  TypedBelow k = (n : ℕ) (f : PlainFunction) (a : Func) → slice_get p.functions n ≡ Some f → slice_get c.funcs n ≡ Some a → a.rank < k → ResultTyped f a

  below_typed : (k : ℕ) → TypedBelow k → AreTyped (surroundings_of p) (Some (below k))
  below_typed k h t n x e b =
      let i = seen_is p n x e in
      let a = claim_there n i.function i.there in
      let kind : integer_of t ≡ integer_of i.function.result = same_bare p.structures t x.result b ∙ ap (λ (y : SeenFunction). integer_of y.result) i.is in
      subst (λ (o : Option Func). IsOfType (integer_of t) (result_claimed (integer_of t) o)) (sym (mapped_at (cut k) c.funcs n a.0 a.1))
      (cut_typed k (integer_of t) a.0 (λ low r q. subst (λ (y : IntType). IsOfType y r) (sym kind) (h n i.function a.0 i.there a.1 low r q)))

  below_taken : (k : ℕ) → AreTaken (surroundings_of p) (below k)
  below_taken k n x e =
      let i = seen_is p n x e in
      let a = claim_there n i.function i.there in
      ap claims_on (mapped_at (cut k) c.funcs n a.0 a.1) ∙ (cut_params k a.0 ∙ (params_are n i.function a.0 i.there a.1 ∙ ap (λ (y : SeenFunction). map any_value y.parameters) (sym i.is)))

  -- ## One function

  rank_at : (n : ℕ) (a : Func) → slice_get c.funcs n ≡ Some a → slice_index (map (λ (x : Func). x.rank) c.funcs) n ≡ a.rank
  rank_at n a e = index_is (map (λ (x : Func). x.rank) c.funcs) n a.rank (mapped_at (λ (x : Func). x.rank) c.funcs n a e)

  result_typed : (t : PlainType) (o : Option Interval) → IfSome o (IsOfType (integer_of t)) → (r : Interval) → result_by t o ≡ Number r → IsOfType (integer_of t) r
  result_typed (integer q kind) None h r e = let same : values_of kind ≡ r = cc in subst (IsOfType kind) same (whole_typed kind)
  result_typed (integer q kind) (Some x) h r e = let same : x ≡ r = cc in subst (IsOfType kind) same h
  result_typed (pointer q t) o h r e = absurd cc
  result_typed (void q) o h r e = absurd cc
  result_typed (array q t n) o h r e = absurd cc
  result_typed (structure q n) o h r e = absurd cc

  module _ (n : ℕ) (f : PlainFunction) (a : Func) (there : slice_get p.functions n ≡ Some f) (claimed : slice_get c.funcs n ≡ Some a) (h : TypedBelow a.rank) where
    abbrev d : Claims
    d = below a.rank

    callee : (m : ℕ) → Edge (call_graph p) n m → Same c d m
    callee m edge = at (slice_get c.funcs m) refl
      where
        nodes : length (call_graph p) ≡ length p.functions
        nodes = length-map p.functions (callees_of (length p.functions))

        lower : slice_index (map (λ (x : Func). x.rank) c.funcs) m < a.rank
        lower =
            let low = there_below p.functions n f there in
            let e = nodes in
            let up = (is.ranks.exact n (omega (arith, low, e))).above m edge in
            let mine = rank_at n a claimed in
            omega (arith, up, mine)

        at : (o : Option Func) → slice_get c.funcs m ≡ o → Same c d m
        at None e = let g : slice_get d.funcs m ≡ None = slice_get-map (cut a.rank) c.funcs m ∙ ap (option_map (cut a.rank)) e in let s : slice_get c.funcs m ≡ slice_get d.funcs m = e ∙ sym g in
            record { params = ap claims_on s; result = λ kind. ap (result_claimed kind) s }
        at (Some b) e =
            let g : slice_get d.funcs m ≡ Some (cut a.rank b) = mapped_at (cut a.rank) c.funcs m b e in
            let mine = rank_at m b e in
            let low = lower in
            let s : slice_get c.funcs m ≡ slice_get d.funcs m = e ∙ (ap Some (sym (cut_same a.rank b (omega (arith, low, mine)))) ∙ sym g) in
            record { params = ap claims_on s; result = λ kind. ap (result_claimed kind) s }

    past : (m : ℕ) → length p.functions ≤ m → Same c d m
    past m low =
        let e = same_length in
        let none : slice_get c.funcs m ≡ None = slice_get_past c.funcs m (omega (arith, low, e)) in
        let g : slice_get d.funcs m ≡ None = slice_get-map (cut a.rank) c.funcs m ∙ ap (option_map (cut a.rank)) none in
        let s : slice_get c.funcs m ≡ slice_get d.funcs m = none ∙ sym g in
        record { params = ap claims_on s; result = λ kind. ap (result_claimed kind) s }

    called : EachCalled (Same c d) (nodes_of_statements f.body)
    called = edges_each p (Same c d) n f there callee past

    loops_same : loops_of o p c n f ≡ loops_of o p d n f
    loops_same = loops_of_same o p c d n f called

    returned : IfSome (range_returned_by o p d n f) (IsOfType (integer_of f.result))
    returned = (body_fine o are p whole n f there d (below_typed a.rank h) (below_taken a.rank) NoneAsked
        (subst (λ (l : LoopsFound). l.unbounded ≡ []) loops_same (bounded n f there))
        (subst (λ (l : LoopsFound). (k : ℕ) (x : Loop) → slice_get l.claims k ≡ Some x → is_ranked x.rank ≡ true → x.turns ≤ MOST_SUM) loops_same (short n f there))
        (λ k parts l e g entry r z. tt) (λ k depth parts l a e g z q. tt)).returned

    one_typed : ResultTyped f a
    one_typed r e = result_typed f.result (range_returned_by o p d n f) returned r
        (sym (result_same o p c d n f called) ∙ (sym (ap (λ (x : Func). x.result) (is.each n f a there claimed)) ∙ e))

  -- ## All functions

  typed_below : (k : ℕ) → TypedBelow k
  typed_below zero n f a there claimed low = absurd (omega (arith, low))
  typed_below (suc k) n f a there claimed low = one_typed n f a there claimed (λ m g b at found less. typed_below k m g b at found (omega (arith, low, less)))

  -- what is claimed of each result has numbers of its type
  pub results_typed : (n : ℕ) (f : PlainFunction) (a : Func) → slice_get p.functions n ≡ Some f → slice_get c.funcs n ≡ Some a → ResultTyped f a
  results_typed n f a there claimed = typed_below (suc a.rank) n f a there claimed (omega arith)

  pub all_typed : AreTyped (surroundings_of p) (Some c)
  all_typed t n x e b =
      let i = seen_is p n x e in
      let a = claim_there n i.function i.there in
      let kind : integer_of t ≡ integer_of i.function.result = same_bare p.structures t x.result b ∙ ap (λ (y : SeenFunction). integer_of y.result) i.is in
      subst (λ (o : Option Func). IsOfType (integer_of t) (result_claimed (integer_of t) o)) (sym a.1)
      (claimed_typed (integer_of t) a.0 a.0.result refl (λ r q. subst (λ (y : IntType). IsOfType y r) (sym kind) (results_typed n i.function a.0 i.there a.1 r q)))

  pub all_taken : AreTaken (surroundings_of p) c
  all_taken n x e =
      let i = seen_is p n x e in
      let a = claim_there n i.function i.there in
      ap claims_on a.1 ∙ (params_are n i.function a.0 i.there a.1 ∙ ap (λ (y : SeenFunction). map any_value y.parameters) (sym i.is))
