-- Rows of the declarators of members and parameters are told of whole declarations, outside of functions and in them.
use Rattle.std.specs.Prelude.{Bool, true, false, ◌++◌, None}
use Rattle.p10_base.specs.declared.at.At.{At}
use Rattle.p10_syn.specs.Trees.{Declaration}
use Rattle.p10_core.specs.Types.{PlainType}
use Rattle.p10_elabx.specs.declared.problem.Problem.{Problem}
use Rattle.p10_elabx.specs.First.{Among, every}
use Rattle.p10_elabd.specs.Laws.{LengthsAreTold, FormRowsAreTold}
use Rattle.p10_elabd.specs.Standing.{PlainStanding, Passed, passed}
use Rattle.p10_elabd.specs.Words.{storage_of}
use Rattle.p10_elabd.specs.declared.site.Site.{Site}
use Rattle.p10_elabd.specs.declared.site.Site.TheVariants as site_is
use Rattle.p10_elabd.specs.Declaring.{specified, specifiers_passed}
use Rattle.p10_heads.specs.Heads.{Heads}
use Rattle.p10_elabs.specs.Addresses.{constants_of}
use Rattle.p10_elabs.specs.Locals.{Frame, Local, with_standing, allowed_by, is_alone, declares_sensors, specified_in, makes_sensors}
use Rattle.p10_elabs.specs.LocalDeclarations.{no_items, declared_locally}
use Rattle.p10_elab.specs.Knowledge.{Known}
use Rattle.p10_elab.specs.Outer.{main_constants, declared_outside}
use Rattle.p10_refusals.specs.Inside.{IsInSpecifiers, PartsOfDeclarationsAreTold}
use Rattle.p10_refusals.specs.Forms.{reached_outside, reached_in_function}
use Rattle.p10_elabd.proofs.Growing.{grows_type_specified}
use Rattle.p10_refusals.proofs.FormsInFunctions.{told_in_function}
use Rattle.p10_refusals.proofs.FormsOutside.{told_outside}
use Rattle.p10_refusals.proofs.Inside.{specifiers_told, inside_told}
use Rattle.p10_refusals.proofs.Growing.{grown, grown_in_block, grown_outside}
use Rattle.p10_statement_steps.proofs.Typing.{over_volatile}
use Rattle.p10_statement_steps.proofs.Declaring.{over_declarators}
use Rattle.p10_root_steps.proofs.Passing.{over_outer_declarators}

-- a row that stands in the specifiers of a declaration, when their type is known
specified_told : LengthsAreTold → FormRowsAreTold → (outside : Bool) (site : Site) (s : PlainStanding) (d : Declaration At) (r : Problem) →
    IsInSpecifiers site (allowed_by d) (is_alone d) false (passed None s) d.specifiers r → Among r (specified_in every outside site s d).after.problems
specified_told lengths forms outside site s d r h =
    let t : Passed PlainType = specified every site (allowed_by d) (is_alone d) s d.specifiers in
    (grown (over_volatile every (declares_sensors outside t.made d) d.specifiers t.after)).among r
    ((grows_type_specified d.specifiers (specifiers_passed every site (allowed_by d) (is_alone d) false (passed None s) d.specifiers)).among r
    (specifiers_told lengths forms site (allowed_by d) (is_alone d) false (passed None s) d.specifiers r h))

specifiers_outside : LengthsAreTold → FormRowsAreTold → (heads : Heads) (k : Known) (d : Declaration At) (r : Problem) →
    IsInSpecifiers site_is.Outside (allowed_by d) (is_alone d) false (passed None k.standing) d.specifiers r → Among r (declared_outside every heads k d).standing.problems
unfolding declared_outside
specifiers_outside lengths forms heads k d r h =
    let t : Passed PlainType = specified_in every true site_is.Outside k.standing d in
    (grown_outside (over_outer_declarators every heads (storage_of d.specifiers) (makes_sensors d) t.made (record k { standing = t.after; mains = k.mains ++ main_constants (constants_of d.specifiers) }) d.declarators)).among r
    (specified_told lengths forms true site_is.Outside k.standing d r h)

specifiers_in_function : LengthsAreTold → FormRowsAreTold → (f : Frame) (site : Site) (l : Local) (d : Declaration At) (r : Problem) →
    IsInSpecifiers site (allowed_by d) (is_alone d) false (passed None l.standing) d.specifiers r → Among r (declared_locally every f site l d).after.standing.problems
unfolding declared_locally
specifiers_in_function lengths forms f site l d r h =
    let t : Passed PlainType = specified_in every false site l.standing d in
    (grown_in_block (over_declarators every f d.place (storage_of d.specifiers) (makes_sensors d) t.made (no_items (with_standing l t.after)) d.declarators)).among r
    (specified_told lengths forms false site l.standing d r h)

pub parts_told : LengthsAreTold → FormRowsAreTold → PartsOfDeclarationsAreTold
parts_told lengths forms = record {
  specifiers = specifiers_told lengths forms;
  declarator = inside_told lengths forms;
  specifiers_outside = specifiers_outside lengths forms;
  specifiers_in_function = specifiers_in_function lengths forms;
  declarator_outside = λ heads k d before one name r is h. told_outside heads k d before one name r is (inside_told lengths forms name.place (reached_outside heads k d before) one.declarator r h);
  declarator_in_function = λ f site l d before one name r is h. told_in_function f site l d before one name r is (inside_told lengths forms name.place (reached_in_function f site l d before) one.declarator r h);
}
