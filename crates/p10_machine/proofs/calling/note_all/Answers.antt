-- The objects from the first on, and no other.
use Rattle.std.proofs.Common.{◌-◌, refl, arith}
use Rattle.p10_machine.specs.Views.{config_of}
use Rattle.p10_machine.proofs.Entered.{none_noted_yet, one_noted, all_noted}
use Rattle.p10_machine.proofs.calling.note_all.Goals as goal

pub objects-init : goal.objects-init
objects-init c = record {
  most = omega arith;
  least = omega arith;
  noted = λ s io. none_noted_yet c.args.past c.args.past (config_of s c.args.m.now io) refl;
}

pub objects-preserved : goal.objects-preserved
objects-preserved c = record {
  most = omega (arith, c.objects.invariant.most);
  least = omega (arith, c.objects.invariant.least, c.objects-test.true);
  noted = λ s io.
      one_noted c.objects.object (c.objects.object - 1) c.args.past (config_of s c.args.m.now io) (config_of s c.objects.m io) (config_of s c.note_opened.new.self io) (omega (arith, c.objects-test.true)) c.objects.invariant.most (c.objects.invariant.noted s io) (c.in_ok-note_opened.ensures s io);
}

pub returns : goal.returns
returns c = λ s io.
    all_noted c.objects.object c.args.first c.args.past (config_of s c.args.m.now io) (config_of s c.objects.m io) c.objects.invariant.most c.objects.invariant.least c.objects-test.false (c.objects.invariant.noted s io)
