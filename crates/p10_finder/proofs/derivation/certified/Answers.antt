use Rattle.std.proofs.Common.{subst}
use Rattle.p10_core.specs.Views.{plain_program}
use Rattle.p10_calls.specs.declared.answer.CallFault.TheVariants.{Cycle}
use Rattle.p10_calls.specs.Faults.{IsRightFault}
use Rattle.p10_cert.specs.Claims.{claims_of}
use Rattle.p10_finder.proofs.Derived.{no_recursion}
use Rattle.p10_approach.specs.Offers.{offers_if}
use Rattle.p10_finder.proofs.derivation.certified.Goals as goal

pub unreachable-requires : goal.unreachable-requires
unreachable-requires c =
    let why : IsRightFault (plain_program c.args.program.now) (Cycle c.in-Err-Cycle.field-0-0) = subst (IsRightFault (plain_program c.args.program.now)) c.in-Err-Cycle.field-0-is c.in-Err-Cycle.ensures.fault in
    no_recursion (offers_if c.args.approaching) (plain_program c.args.program.now) (claims_of c.args.results.now) why.0 c.requires.lawful why.1 why.2
