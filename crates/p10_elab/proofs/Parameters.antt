-- Parameters where the body of a function begins.
use Rattle.std.specs.Prelude.{◌≡◌, ℕ, ◌+◌, List, [], ◌∷◌, ◌++◌, Option, Some, None}
use Rattle.std.proofs.Common.{ap, sym, ◌∙◌, append_assoc}
use Rattle.p10_base.specs.declared.at.At.{At}
use Rattle.p10_syn.specs.Trees.{Identifier}
use Rattle.p10_core.specs.Typed.{PlainVariable}
use Rattle.p10_elabd.specs.Standing.{PlainStanding}
use Rattle.p10_elabd.specs.Shapes.{PlainParameter}
use Rattle.p10_elabs.specs.Locals.{Frame}
use Rattle.p10_elab.specs.Outer.{parameter_variable, parameter_variables}

-- a parameter with a name is a variable
pub one_put : (f : Frame) (s : PlainStanding) (n : ℕ) (p : PlainParameter) (name : Identifier At) (before : List PlainVariable) (rest : List PlainParameter) → p.name ≡ Some name →
    (before ++ parameter_variable f s n p name ∷ []) ++ parameter_variables f s (n + 1) rest ≡ before ++ parameter_variables f s n (p ∷ rest)
one_put f s n p name before rest is =
    append_assoc before (parameter_variable f s n p name ∷ []) (parameter_variables f s (n + 1) rest)
    ∙ ap (λ (o : Option (Identifier At)). before ++ parameter_variables f s n (record p { name = o } ∷ rest)) (sym is)

-- one without a name is none
pub none_put : (f : Frame) (s : PlainStanding) (n : ℕ) (p : PlainParameter) (before : List PlainVariable) (rest : List PlainParameter) → p.name ≡ None →
    before ++ parameter_variables f s (n + 1) rest ≡ before ++ parameter_variables f s n (p ∷ rest)
none_put f s n p before rest is = ap (λ (o : Option (Identifier At)). before ++ parameter_variables f s n (record p { name = o } ∷ rest)) (sym is)
