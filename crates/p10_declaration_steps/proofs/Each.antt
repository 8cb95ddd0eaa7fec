-- What holds of each step holds of all of them.
use Rattle.std.specs.Prelude.{◌≡◌, ℕ, true, List, [], ◌∷◌, ◌++◌, Option, nat_le}
use Rattle.p10_base.specs.Words.{Text}
use Rattle.p10_base.specs.declared.at.At.{At}
use Rattle.p10_syn.specs.declared.sign.Sign.{Sign}
use Rattle.p10_syn.specs.Trees.{Identifier}
use Rattle.p10_core.specs.Types.{PlainMember}
use Rattle.p10_core.specs.WholePrograms.{most_bytes}
use Rattle.p10_core.specs.Completing.{with_structure, member_layout, completed, takes_members}
use Rattle.p10_elabx.specs.declared.problem.Problem.{Problem}
use Rattle.p10_elabx.specs.First.{Keep}
use Rattle.p10_elabx.specs.Scopes.{Meaning, entered, left}
use Rattle.p10_elabd.specs.Standing.{PlainStanding, with_problems}
use Rattle.p10_elabd.specs.Tags.{with_tag}
use Rattle.p10_elabd.specs.Declaring.{begun_with}
use Rattle.p10_declaration_steps.specs.Steps.{NamesNoType, NamesNoStructure, Steps, same, followed, told, name_more, tag_more, structure_more, structure_tagged, bodies_open, members_taken, block_closed}

-- a relation between what stands before and after a part of a declaration, of which each step is one
pub record AreSteps (h : Keep) (G : PlainStanding → PlainStanding → Type 0) : Type 0 where
  pub same : (s : PlainStanding) → G s s
  pub followed : (s t u : PlainStanding) → G s t → G t u → G s u
  pub told : (rs : List Problem) (s : PlainStanding) → G s (with_problems h rs s)
  pub name_more : (name : Text) (what : Meaning) (s : PlainStanding) → NamesNoType what → G s (record s { scope = record s.scope { names = s.scope.names ++ record { name = name; what = what } ∷ [] } })
  pub tag_more : (name : Text) (what : Meaning) (s : PlainStanding) → NamesNoStructure what → G s (record s { scope = record s.scope { tags = s.scope.tags ++ record { name = name; what = what } ∷ [] } })
  pub structure_more : (tag : Option Text) (s : PlainStanding) → G s (record s { scope = record s.scope { structures = with_structure s.scope.structures tag } })
  pub structure_tagged : (name : Text) (s : PlainStanding) → G s (record s { scope = with_tag s.scope name })
  pub bodies_open : (numbers : List ℕ) (s : PlainStanding) → G s (record s { open_structures = numbers })
  pub members_taken : (word : Sign) (tag : Option (Identifier At)) (s t : PlainStanding) (members : List PlainMember) → G s (begun_with h word tag s).standing → G (begun_with h word tag s).standing t
      → takes_members t.scope.structures (begun_with h word tag s).number members ≡ true → nat_le (member_layout t.scope.structures members).bytes most_bytes ≡ true
      → G s (record t { scope = record t.scope { structures = completed t.scope.structures (begun_with h word tag s).number members } })
  pub block_closed : (s t : PlainStanding) → G (record s { scope = entered s.scope }) t → G s (record t { scope = left t.scope })

pub each : {h : Keep} {G : PlainStanding → PlainStanding → Type 0} {s t : PlainStanding} → AreSteps h G → Steps h s t → G s t
each S (same s) = S.same s
each S (followed {s = s} {t = t} {u = u} x y) = S.followed s t u (each S x) (each S y)
each S (told rs s) = S.told rs s
each S (name_more name what s m) = S.name_more name what s m
each S (tag_more name what s m) = S.tag_more name what s m
each S (structure_more tag s) = S.structure_more tag s
each S (structure_tagged name s) = S.structure_tagged name s
each S (bodies_open numbers s) = S.bodies_open numbers s
each S (members_taken word tag s t members x y takes small) = S.members_taken word tag s t members (each S x) (each S y) takes small
each S (block_closed s t x) = S.block_closed s t (each S x)
