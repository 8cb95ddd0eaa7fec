-- What holds of each step of roots holds of all of them.
use Rattle.std.specs.Prelude.{ℕ, Bool, List, [], ◌∷◌, ◌++◌}
use Rattle.p10_elabx.specs.First.{Keep}
use Rattle.p10_elabx.specs.Scopes.{Binding, named_type}
use Rattle.p10_elabd.specs.Standing.{PlainStanding}
use Rattle.p10_declaration_steps.proofs.Each.{AreSteps, each}
use Rattle.p10_statement_steps.proofs.Each.{AreLocalSteps, each_local, each_in_body, local_in_body}
use Rattle.p10_root_steps.specs.Steps.{RootSteps, root_part, root_followed, root_local, root_body, names_changed}

-- a relation of which each step of declarations is one, and any change of names and tags
pub record AreRootSteps (h : Keep) (G : PlainStanding → PlainStanding → Type 0) : Type 0 where
  pub parts : AreSteps h G
  pub names_changed : (names tags : List Binding) (floors : List (ℕ × ℕ)) (evaluated : Bool) (s : PlainStanding) → G s (record s { scope = record s.scope { names = names; tags = tags; floors = floors; evaluated = evaluated } })

-- a name of a type changes the names
pub root_in_block : {h : Keep} {G : PlainStanding → PlainStanding → Type 0} → AreRootSteps h G → AreLocalSteps h G
root_in_block S = record {
  parts = S.parts;
  type_name_more = λ name t s. S.names_changed (s.scope.names ++ record { name = name; what = named_type t } ∷ []) s.scope.tags s.scope.floors s.scope.evaluated s;
}

pub each_root : {h : Keep} {G : PlainStanding → PlainStanding → Type 0} {s t : PlainStanding} → AreRootSteps h G → RootSteps h s t → G s t
each_root S (root_part x) = each S.parts x
each_root S (root_followed {s = s} {t = t} {u = u} x y) = S.parts.followed s t u (each_root S x) (each_root S y)
each_root S (root_local x) = each_local (root_in_block S) x
each_root S (root_body x) = each_in_body (local_in_body (root_in_block S)) x
each_root S (names_changed names tags floors evaluated s) = S.names_changed names tags floors evaluated s
