-- What the conjuncts of a guard offer, put one after the other.
use Rattle.std.proofs.Common.{◌≡◌, List, ◌++◌, flat_map, sym, ◌∙◌, ap, append_assoc}
use Rattle.std.specs.Prelude.{Result, OnOk}
use Rattle.std.proofs.lemmas.Grind.{flat_map-append}
use Rattle.std.proofs.lemmas.Result.{on_ok_weaker}
use Rattle.p10_base.specs.declared.at.At.{At}
use Rattle.p10_core.specs.declared.typed.LogicOp.TheVariants.{And}
use Rattle.p10_core.specs.Types.{PlainType}
use Rattle.p10_core.specs.Typed.{PlainValue, PlainForm, logic}
use Rattle.p10_absx.specs.Trails.{Branching}
use Rattle.p10_candidates.specs.Candidates.{LoopEntry, conjuncts, conjuncts_of_form}
use Rattle.p10_candidates.specs.Approaches.{Approach, conjunct_approaches}

-- both operands of `&&`
pub both_put : {T E : Type 0} (r : Result T E) (l : LoopEntry) (at : At) (t : PlainType) (form : PlainForm) (a b : PlainValue) (old mid new : List Approach) (one two : Branching) → form ≡ logic And a b → two ≡ one →
    mid ≡ old ++ flat_map (conjunct_approaches l one.values) (conjuncts a) → OnOk r (new ≡ mid ++ flat_map (conjunct_approaches l two.values) (conjuncts b)) →
    OnOk r (new ≡ old ++ flat_map (conjunct_approaches l one.values) (conjuncts_of_form at t form))
both_put r l at t form a b old mid new one two is same first second =
    let f : PlainValue → List Approach = conjunct_approaches l one.values in
    let all : flat_map f (conjuncts a) ++ flat_map f (conjuncts b) ≡ flat_map f (conjuncts_of_form at t form) =
    sym (flat_map-append f (conjuncts a) (conjuncts b)) ∙ ap (λ g. flat_map f (conjuncts_of_form at t g)) (sym is) in
    on_ok_weaker r (λ e. e ∙ (ap (λ (k : Branching). mid ++ flat_map (conjunct_approaches l k.values) (conjuncts b)) same ∙ (ap (λ m. m ++ flat_map f (conjuncts b)) first ∙
    (append_assoc old (flat_map f (conjuncts a)) (flat_map f (conjuncts b)) ∙ ap (λ ys. old ++ ys) all)))) second
