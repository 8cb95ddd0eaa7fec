-- Structures stay well built and scopes whole over parts of declarations.
use Rattle.std.proofs.Common.{ℕ, List}
use Rattle.std.proofs.lemmas.Bool.{leb-true}
use Rattle.p10_int.specs.declared.types.IntType.TheVariants.{Int}
use Rattle.p10_int.proofs.InRange.{holds_in}
use Rattle.p10_core.specs.Types.{integer, PlainStructure}
use Rattle.p10_core.specs.Completing.{completed}
use Rattle.p10_elabx.specs.First.{Keep}
use Rattle.p10_elabx.specs.Scopes.{Meaning, number, named_type, tagged_type, unknown_name, unknown_tag}
use Rattle.p10_elabd.specs.Standing.{PlainStanding}
use Rattle.p10_elabd.specs.Declaring.{begun_with}
use Rattle.p10_declaration_steps.specs.Steps.{NamesNoType, NamesNoStructure, Steps}
use Rattle.p10_declaration_steps.proofs.Each.{AreSteps, each}
use Rattle.p10_wholeness.specs.Names.{IsWholeMeaning}
use Rattle.p10_wholeness.specs.Laws.{Keeps}
use Rattle.p10_wholeness.proofs.Growth.{completed_stays_built}
use Rattle.p10_wholeness.proofs.Scopes.{keep_itself, keeps_on, one_name, one_tag, keep_structure, keep_tag, keep_more, keep_entered, keep_left}

-- ## What names stand for

plain_name : (ss : List PlainStructure) (what : Meaning) → NamesNoType what → IsWholeMeaning ss what
plain_name ss (number z) m = holds_in Int z m
plain_name ss (named_type t) m = absurd m
plain_name ss (tagged_type t) m = absurd m
plain_name ss what m = tt

plain_tag : (ss : List PlainStructure) (what : Meaning) → NamesNoStructure what → IsWholeMeaning ss what
plain_tag ss (tagged_type (integer c i)) m = tt
plain_tag ss unknown_tag m = tt
plain_tag ss unknown_name m = tt
plain_tag ss what m = absurd m

-- ## What holds of each step

pub keeping : (h : Keep) → AreSteps h Keeps
keeping h = record {
  same = λ s. keep_itself s.scope;
  followed = λ s t u a b. keeps_on a b;
  told = λ rs s. keep_itself s.scope;
  name_more = λ name what s m. one_name s.scope (record { name = name; what = what }) (plain_name s.scope.structures what m);
  tag_more = λ name what s m. one_tag s.scope (record { name = name; what = what }) (plain_tag s.scope.structures what m);
  structure_more = λ tag s. keep_structure s.scope tag;
  structure_tagged = λ name s. keep_tag s.scope name;
  bodies_open = λ numbers s. keep_itself s.scope;
  members_taken = λ word tag s t members begun inside takes small.
      let n : ℕ = (begun_with h word tag s).number in
      keeps_on begun (keeps_on inside (keep_more t.scope (completed t.scope.structures n members) (completed_stays_built t.scope.structures n members takes (leb-true _ _ small))));
  block_closed = λ s t inside. keeps_on (keep_entered s.scope) (keeps_on inside (keep_left t.scope));
}

-- so it holds of all that take steps
pub kept : {h : Keep} {s t : PlainStanding} → Steps h s t → Keeps s t
kept {h = h} x = each (keeping h) x
