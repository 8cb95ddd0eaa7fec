-- In the same words files have the same trees, but for places.
use Rattle.std.specs.Prelude.{◌≡◌, Ok}
use Rattle.p10_base.specs.Gathered.{Gathered}
use Rattle.p10_syn.specs.Spells.{Spells}
use Rattle.p10_core.specs.Typed.{PlainProgram}
use Rattle.p10_digests.specs.Lines.{roots_outside}
use Rattle.p10_digests.specs.Digests.{body_places}
use Rattle.p10_expand.specs.Expands.{ExpandsTo}
use Rattle.p10_elab.specs.Programs.{elaborated, program}
use Rattle.p10_front.specs.Readings.{PlainReading, AreReadAs}
use Rattle.p10_front.specs.Digests.{trees_in}
use Rattle.p10_spelling_laws.specs.Counterparts.{HaveCounterparts}

-- the trees of a reading spell what the files expand to, and come to a program
pub record IsTypedFrom (g : Gathered) (r : PlainReading) (p : PlainProgram) : Type 0 where
  pub expands : ExpandsTo g (Ok r.expansion)
  pub spells : Spells r.expansion.roots (trees_in r.units)
  pub is : elaborated (trees_in r.units) ≡ program p

-- so it is where files are read as a program
abbrev pub ReadingsAreTyped : Type 0
ReadingsAreTyped = (g : Gathered) (r : PlainReading) (p : PlainProgram) → AreReadAs g r p → IsTypedFrom g r p

-- where readings have the same lines outside of bodies, their trees are counterparts
abbrev pub ReadingsHaveCounterparts : Type 0
ReadingsHaveCounterparts =
    (g h : Gathered) (r s : PlainReading) (p q : PlainProgram) → AreReadAs g r p → AreReadAs h s q
    → roots_outside (body_places (trees_in r.units)) 0 r.expansion.roots ≡ roots_outside (body_places (trees_in s.units)) 0 s.expansion.roots
    → HaveCounterparts r.expansion.roots s.expansion.roots (trees_in r.units) (trees_in s.units)
