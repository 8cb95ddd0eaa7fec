-- The test came to a number.
use Rattle.std.proofs.Common.{refl, sym, ap, ◌∙◌, arith}
use Rattle.std.specs.Int.{w128}
use Rattle.std.proofs.lemmas.Int.{to_z-of_z}
use Rattle.p10_meaning.specs.declared.pointers.Scalar.TheVariants.{Int}
use Rattle.p10_meaning.specs.Scalars.{is_true}
use Rattle.p10_interp.specs.private.Machines.{state_of}
use Rattle.p10_interp.proofs.turns_at_once.is_tested.Goals as goal

pub returns-clause-found : goal.returns-clause-found
returns-clause-found c = λ io f around e. record {
  number = c.number_in_call-number.result;
  paid = omega (arith, c.if-left-outside.false);
  truth = ap (λ z. is_true (Int z)) (sym (to_z-of_z w128 c.number_in_call-number.result (record { sfits = c.number_in_call-number.type_inv }))) ∙ sym c.is_true.ensures;
  run = λ s same. c.number_in_call-number.ensures.found s f around same e (omega arith) (state_of c.args.outside.now io) refl;
}
