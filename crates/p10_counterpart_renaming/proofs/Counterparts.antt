-- After counterparts the same is known of both programs, and a function with the same body is the same.
use Rattle.std.proofs.Common.{◌≡◌, ◌∙◌, ℕ, zero, suc, ◌+◌, ◌<◌, List, [], ◌∷◌, ◌++◌, map, length, le_refl, refl, sym, ap, subst, arith}
use Rattle.std.specs.Prelude.{slice_get}
use Rattle.std.proofs.lemmas.Option.{none-some, slice_get_past}
use Rattle.p10_base.specs.declared.at.At.{At}
use Rattle.p10_syn.specs.Trees.{External}
use Rattle.p10_core.specs.Typed.{PlainFunction}
use Rattle.p10_elabx.specs.First.{Keep}
use Rattle.p10_heads.specs.Heads.{Heads}
use Rattle.p10_elab.specs.Knowledge.{Known}
use Rattle.p10_elab.specs.RootEnds.{known_after, known_after_all}
use Rattle.p10_renaming.specs.Renaming.{Pairing}
use Rattle.p10_expression_renaming.specs.MappedStatements.{mapped_declaration}
use Rattle.p10_expression_renaming.proofs.TypeNames.{left, right}
use Rattle.p10_declaration_renaming.specs.Standings.{AreQuiet}
use Rattle.p10_spelling_laws.specs.Counterparts.{Counterparts, declared_in_both, defined_in_both, in_first, in_second, HasSameBody}
use Rattle.p10_definition_counts.proofs.Growing.{functions_follow}
use Rattle.p10_pairing_laws.specs.Laws.{IsWithin}
use Rattle.p10_pairing_laws.proofs.Trees.{functions_stay_same}
use Rattle.p10_root_renaming.specs.Roots.{SameHeads}
use Rattle.p10_root_renaming.proofs.Keeping.{declaration_keeps}
use Rattle.p10_root_renaming.proofs.GrowingOutside.{grows_all}
use Rattle.p10_counterpart_renaming.specs.Runs.{structures_in, AreRegular, SameSoFar, SameWithMore, FunctionsSameAt}
use Rattle.p10_counterpart_renaming.specs.Laws.{CounterpartsAreSame, CounterpartsRenamed}
use Rattle.p10_counterpart_renaming.proofs.Steps.{names_many, declared_step, touched_step, SameStep, same_step}

-- ## Going on

-- where no row holds up to the end, none does up to the first of them
quiet_first : (h : Keep) (heads others : Heads) (k j : Known) (rest others_rest : List (External At)) → AreQuiet (structures_in (known_after_all h heads k rest)) (known_after_all h heads k rest).standing (known_after_all h others j others_rest).standing
    → AreQuiet (structures_in k) k.standing j.standing
quiet_first h heads others k j rest others_rest quiet = record {
  left = (grows_all h heads k rest).quiet quiet.left;
  right = (grows_all h others j others_rest).quiet quiet.right;
  few = le_refl (structures_in k);
}

-- a pairing with no structures more
pub within_itself : (R : Pairing) → IsWithin R R
within_itself R = record { used = λ n m e. e; passed = λ n m e. e }

-- more structures more
abbrev pub more_on : (R : Pairing) (a b k j : Known) (one : SameWithMore R a b) → SameWithMore one.pairing k j → SameWithMore R k j
more_on R a b k j one other = record { pairing = other.pairing; within = record { used = λ n m e. other.within.used n m (one.within.used n m e); passed = λ n m e. other.within.passed n m (one.within.passed n m e) }; same = other.same }

-- ## Bodies that may differ

pub rest_same : (h : Keep) (heads others : Heads) → SameHeads heads others → (R : Pairing) (k j : Known) → SameSoFar R k j → (all : List Counterparts) → AreRegular h heads k (map in_first all) → AreRegular h others j (map in_second all)
    → AreQuiet (structures_in (known_after_all h heads k (map in_first all))) (known_after_all h heads k (map in_first all)).standing (known_after_all h others j (map in_second all)).standing
    → SameWithMore R (known_after_all h heads k (map in_first all)) (known_after_all h others j (map in_second all))
rest_same h heads others same R k j so [] fine also quiet = record { pairing = R; within = within_itself R; same = so }
rest_same h heads others same R k j so (declared_in_both at d ∷ rest) fine also quiet =
    let a : Known = known_after h heads k (in_first (declared_in_both at d)) in
    let b : Known = known_after h others j (in_second (declared_in_both at d)) in
    let one : SameWithMore R a b = declared_step h heads others same R k j so d (quiet_first h heads others a b (map in_first rest) (map in_second rest) quiet) in
    more_on R a b (known_after_all h heads a (map in_first rest)) (known_after_all h others b (map in_second rest)) one (rest_same h heads others same one.pairing a b one.same rest fine also quiet)
rest_same h heads others same R k j so (defined_in_both d x y ∷ rest) fine also quiet =
    let a : Known = known_after h heads k (in_first (defined_in_both d x y)) in
    let b : Known = known_after h others j (in_second (defined_in_both d x y)) in
    let one : SameWithMore R a b = touched_step h heads others same R k j so d x y fine.0.0 also.0.0 fine.0.1 also.0.1 (quiet_first h heads others a b (map in_first rest) (map in_second rest) quiet) in
    more_on R a b (known_after_all h heads a (map in_first rest)) (known_after_all h others b (map in_second rest)) one (rest_same h heads others same one.pairing a b one.same rest fine.1 also.1 quiet)

-- ## The function with a number

pub within_list : (fs gs : List PlainFunction) (n : ℕ) → n < length fs → slice_get (fs ++ gs) n ≡ slice_get fs n
within_list [] gs n low = absurd (omega (arith, low))
within_list (f ∷ fs) gs zero low = refl
within_list (f ∷ fs) gs (suc n) low = within_list fs gs n (omega (arith, low))

-- functions that are there stay so
function_kept : (h : Keep) (heads : Heads) (k : Known) (rest : List (External At)) (n : ℕ) → n < length k.functions → slice_get (known_after_all h heads k rest).functions n ≡ slice_get k.functions n
function_kept h heads k rest n low =
    let more = functions_follow.trees h heads k rest in
    ap (λ fs. slice_get fs n) more.functions ∙ within_list k.functions more.made n low

pub at_moved : (R : Pairing) (n m : ℕ) → n ≡ m → (fs gs : List PlainFunction) → FunctionsSameAt R n fs gs → FunctionsSameAt R m fs gs
at_moved R n m e fs gs same = subst (λ i. FunctionsSameAt R i fs gs) e same

counterparts_same : (h : Keep) (heads others : Heads) → SameHeads heads others → (R : Pairing) (k j : Known) → SameSoFar R k j → (n : ℕ) (all : List Counterparts) → HasSameBody n all
    → AreRegular h heads k (map in_first all) → AreRegular h others j (map in_second all)
    → AreQuiet (structures_in (known_after_all h heads k (map in_first all))) (known_after_all h heads k (map in_first all)).standing (known_after_all h others j (map in_second all)).standing
    → CounterpartsAreSame n R k j (known_after_all h heads k (map in_first all)) (known_after_all h others j (map in_second all))
counterparts_same h heads others same R k j so n [] body fine also quiet = record {
  more = record { pairing = R; within = within_itself R; same = so };
  function = λ f g e d. absurd (none-some f (sym (slice_get_past k.functions (length k.functions + n) (omega arith)) ∙ e));
}
counterparts_same h heads others same R k j so n (declared_in_both at d ∷ rest) body fine also quiet =
    let a : Known = known_after h heads k (in_first (declared_in_both at d)) in
    let b : Known = known_after h others j (in_second (declared_in_both at d)) in
    let later : Known = known_after_all h heads a (map in_first rest) in
    let those : Known = known_after_all h others b (map in_second rest) in
    let one : SameWithMore R a b = declared_step h heads others same R k j so d (quiet_first h heads others a b (map in_first rest) (map in_second rest) quiet) in
    let r : CounterpartsAreSame n one.pairing a b later those = counterparts_same h heads others same one.pairing a b one.same n rest body fine also quiet in
    record {
      more = more_on R a b later those one r.more;
      function = at_moved r.more.pairing (length a.functions + n) (length k.functions + n) (ap (λ fs. length fs + n) (declaration_keeps h heads k (mapped_declaration left d))) later.functions those.functions r.function;
    }
counterparts_same h heads others same R k j so (suc n) (defined_in_both d x y ∷ rest) body fine also quiet =
    let a : Known = known_after h heads k (in_first (defined_in_both d x y)) in
    let b : Known = known_after h others j (in_second (defined_in_both d x y)) in
    let later : Known = known_after_all h heads a (map in_first rest) in
    let those : Known = known_after_all h others b (map in_second rest) in
    let one : SameWithMore R a b = touched_step h heads others same R k j so d x y fine.0.0 also.0.0 fine.0.1 also.0.1 (quiet_first h heads others a b (map in_first rest) (map in_second rest) quiet) in
    let r : CounterpartsAreSame n one.pairing a b later those = counterparts_same h heads others same one.pairing a b one.same n rest body fine.1 also.1 quiet in
    let e : length a.functions ≡ length k.functions + 1 = fine.0.0 in
    record {
      more = more_on R a b later those one r.more;
      function = at_moved r.more.pairing (length a.functions + n) (length k.functions + suc n) (omega (arith, e)) later.functions those.functions r.function;
    }
counterparts_same h heads others same R k j so zero (defined_in_both d x y ∷ rest) body fine also quiet =
    let a : Known = known_after h heads k (in_first (defined_in_both d x y)) in
    let b : Known = known_after h others j (in_second (defined_in_both d x y)) in
    let later : Known = known_after_all h heads a (map in_first rest) in
    let those : Known = known_after_all h others b (map in_second rest) in
    let one : SameStep R k j a b = same_step h heads others same R k j so d x y body (quiet_first h heads others a b (map in_first rest) (map in_second rest) quiet) in
    let r : SameWithMore one.more.pairing later those = rest_same h heads others same one.more.pairing a b one.more.same rest fine.1 also.1 quiet in
    let e : length a.functions ≡ length k.functions + 1 = fine.0.0 in
    let c : length b.functions ≡ length j.functions + 1 = also.0.0 in
    let many : length k.functions ≡ length j.functions = names_many k.functions j.functions so.known.functions in
    let first : slice_get later.functions (length k.functions) ≡ slice_get a.functions (length k.functions) = function_kept h heads a (map in_first rest) (length k.functions) (omega (arith, e)) in
    let second : slice_get those.functions (length k.functions) ≡ slice_get b.functions (length k.functions) = function_kept h others b (map in_second rest) (length k.functions) (omega (arith, c, many)) in
    record {
      more = more_on R a b later those one.more r;
      function = at_moved r.pairing (length k.functions) (length k.functions + 0) (omega arith) later.functions those.functions
          (λ f g p q. functions_stay_same one.more.pairing r.pairing r.within f g (one.function f g (sym first ∙ p) (sym second ∙ q)));
    }

pub counterparts_renamed : CounterpartsRenamed
counterparts_renamed h heads others same R k j so n all body fine also quiet = counterparts_same h heads others same R k j so n all body fine also quiet
