-- Problems that are noted outside of functions stay noted, and structures only become more.
use Rattle.std.proofs.Common.{List, Option}
use Rattle.p10_base.specs.declared.at.At.{At}
use Rattle.p10_syn.specs.Trees.{Identifier, Declaration, Definition, External}
use Rattle.p10_elabx.specs.First.{Keep}
use Rattle.p10_elabd.specs.Standing.{PlainStanding}
use Rattle.p10_elabd.specs.declared.site.Storage.{Storage}
use Rattle.p10_elabd.specs.Shapes.{DeclaredType}
use Rattle.p10_heads.specs.Heads.{Heads}
use Rattle.p10_elab.specs.Knowledge.{Tentative, Known}
use Rattle.p10_elab.specs.Outer.{declared_outside, function_by_type, defined_outside}
use Rattle.p10_elab.specs.RootEnds.{known_after_all, sizes_noted, roots_passed}
use Rattle.p10_root_steps.specs.Steps.{RootSteps}
use Rattle.p10_root_steps.proofs.Each.{AreRootSteps, each_root}
use Rattle.p10_declaration_renaming.proofs.Growing.{Grows, as_before, growing, grown}
use Rattle.p10_root_steps.proofs.Parts.{over_sizes}
use Rattle.p10_root_steps.proofs.Passing.{over_outside, over_function, over_definition, over_all, over_roots}

-- ## What holds of each step

growing_outside : (h : Keep) → AreRootSteps h Grows
growing_outside h = record { parts = growing h; names_changed = λ names tags floors evaluated s. as_before s }

-- so it holds of all that take steps
pub grown_outside : {h : Keep} {s t : PlainStanding} → RootSteps h s t → Grows s t
grown_outside {h = h} x = each_root (growing_outside h) x

-- ## Declarations and functions

pub grows_outside : (h : Keep) (heads : Heads) (k : Known) (d : Declaration At) → Grows k.standing (declared_outside h heads k d).standing
grows_outside h heads k d = grown_outside (over_outside h heads k d)

pub grows_function : (h : Keep) (heads : Heads) (s : Storage) (d : Definition At) (name : Identifier At) (k : Known) (o : Option DeclaredType) → Grows k.standing (function_by_type h heads s d name k o).standing
grows_function h heads s d name k o = grown_outside (over_function h heads s d name k o)

pub grows_definition : (h : Keep) (heads : Heads) (k : Known) (d : Definition At) → Grows k.standing (defined_outside h heads k d).standing
grows_definition h heads k d = grown_outside (over_definition h heads k d)

pub grows_all : (h : Keep) (heads : Heads) (k : Known) (all : List (External At)) → Grows k.standing (known_after_all h heads k all).standing
grows_all h heads k all = grown_outside (over_all h heads k all)

pub grows_sizes : (h : Keep) (ds : List Tentative) (s : PlainStanding) → Grows s (sizes_noted h ds s)
grows_sizes h ds s = grown (over_sizes h ds s)

pub grows_roots : (h : Keep) (heads : Heads) (k : Known) (roots : List (List (External At))) → Grows k.standing (roots_passed h heads k roots).standing
grows_roots h heads k roots = grown_outside (over_roots h heads k roots)
