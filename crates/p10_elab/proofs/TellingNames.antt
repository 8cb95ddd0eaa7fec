-- Parameters without names that are told.
use Rattle.std.proofs.Common.{◌≡◌, zero, suc, Bool, true, false, List, [], ◌∷◌, ◌++◌, None, inl, inr, refl, sym, ap, subst, arith}
use Rattle.std.specs.List.{Contains}
use Rattle.p10_base.specs.declared.at.At.{At}
use Rattle.p10_base.specs.declared.codes.SubsetCode.{SubsetCode}
use Rattle.p10_base.specs.declared.codes.SubsetCode.TheVariants as subset
use Rattle.p10_elabx.specs.declared.problem.Problem.{Problem}
use Rattle.p10_elabx.specs.First.{Among, every}
use Rattle.p10_elabd.specs.Standing.{PlainStanding, refusing}
use Rattle.p10_elabd.specs.Shapes.{PlainParameter, ListedParameter}
use Rattle.p10_elab.specs.Outer.{is_nameless, names_noted, listed_names_noted}
use Rattle.p10_elab.specs.Laws.{NamelessParametersAreTold}

among_last : (rs : List Problem) (r : Problem) → Among r (rs ++ r ∷ [])
among_last [] r = inl refl
among_last (q ∷ rs) r = inr (among_last rs r)

among_left : (rs qs : List Problem) (r : Problem) → Among r rs → Among r (rs ++ qs)
among_left [] qs r h = absurd h
among_left (p ∷ rs) qs r (inl e) = inl e
among_left (p ∷ rs) qs r (inr h) = inr (among_left rs qs r h)

kept_refusing : (b : Bool) (code : SubsetCode) (at : At) (s : PlainStanding) (r : Problem) → Among r s.problems → Among r (refusing every b code at s).problems
kept_refusing false code at s r h = h
kept_refusing true code at s r h = among_left s.problems (record { code = code; at = at } ∷ []) r h

typed_kept : (all : List PlainParameter) (s : PlainStanding) (r : Problem) → Among r s.problems → Among r (names_noted every all s).problems
typed_kept [] s r h = h
typed_kept (p ∷ rest) s r h = typed_kept rest (refusing every (is_nameless p.name) subset.NoPrototype p.at s) r (kept_refusing (is_nameless p.name) subset.NoPrototype p.at s r h)

typed_told : (all : List PlainParameter) (p : PlainParameter) (s : PlainStanding) → Contains all p → p.name ≡ None → Among (record { code = subset.NoPrototype; at = p.at }) (names_noted every all s).problems
typed_told [] p s h none = let lt = h.1 in absurd (omega (arith, lt))
typed_told (q ∷ rest) p s (zero, lt, e) none =
    typed_kept rest (refusing every (is_nameless q.name) subset.NoPrototype q.at s) (record { code = subset.NoPrototype; at = p.at })
    (subst (λ (x : PlainParameter). Among (record { code = subset.NoPrototype; at = p.at }) (refusing every (is_nameless x.name) subset.NoPrototype x.at s).problems) (sym e)
    (subst (λ b. Among (record { code = subset.NoPrototype; at = p.at }) (refusing every b subset.NoPrototype p.at s).problems) (sym (ap is_nameless none)) (among_last s.problems (record { code = subset.NoPrototype; at = p.at }))))
typed_told (q ∷ rest) p s (suc k, lt, e) none = typed_told rest p (refusing every (is_nameless q.name) subset.NoPrototype q.at s) (k, omega (arith, lt), e) none

refused_kept : (all : List ListedParameter) (s : PlainStanding) (r : Problem) → Among r s.problems → Among r (listed_names_noted every all s).problems
refused_kept [] s r h = h
refused_kept (p ∷ rest) s r h = refused_kept rest (refusing every (is_nameless p.name) subset.NoPrototype p.at s) r (kept_refusing (is_nameless p.name) subset.NoPrototype p.at s r h)

refused_told : (all : List ListedParameter) (p : ListedParameter) (s : PlainStanding) → Contains all p → p.name ≡ None → Among (record { code = subset.NoPrototype; at = p.at }) (listed_names_noted every all s).problems
refused_told [] p s h none = let lt = h.1 in absurd (omega (arith, lt))
refused_told (q ∷ rest) p s (zero, lt, e) none =
    refused_kept rest (refusing every (is_nameless q.name) subset.NoPrototype q.at s) (record { code = subset.NoPrototype; at = p.at })
    (subst (λ (x : ListedParameter). Among (record { code = subset.NoPrototype; at = p.at }) (refusing every (is_nameless x.name) subset.NoPrototype x.at s).problems) (sym e)
    (subst (λ b. Among (record { code = subset.NoPrototype; at = p.at }) (refusing every b subset.NoPrototype p.at s).problems) (sym (ap is_nameless none)) (among_last s.problems (record { code = subset.NoPrototype; at = p.at }))))
refused_told (q ∷ rest) p s (suc k, lt, e) none = refused_told rest p (refusing every (is_nameless q.name) subset.NoPrototype q.at s) (k, omega (arith, lt), e) none

pub nameless_parameters_are_told : NamelessParametersAreTold
nameless_parameters_are_told = record { typed = typed_told; refused = refused_told }
