-- That a file is absent.
use Rattle.std.proofs.Common.{◌≡◌, List, subst, Option, None}
use Rattle.std.specs.Prelude.{IfNone}
use Rattle.p10_base.specs.Words.{Text}
use Rattle.p10_world.specs.Files.{Lacks, Named}

-- there is no file of the name that was asked for
pub lacks_named : {A : Type 0} (held later : Option (List Named)) (name called : Text) (found : Option A) → found ≡ None → later ≡ held → called ≡ name → IfNone found (Lacks later called) → Lacks held name
lacks_named {A = A} held later name called found none unchanged by_name lacks =
    subst (λ (h : Option (List Named)). Lacks h name) unchanged
    (subst (λ (n : Text). Lacks later n) by_name
    (subst (λ (f : Option A). IfNone f (Lacks later called)) none lacks))
