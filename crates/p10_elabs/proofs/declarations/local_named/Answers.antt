use Rattle.std.specs.Prelude.{option_map}
use Rattle.p10_syn.specs.Built.{identifier_of}
use Rattle.p10_syn.specs.BuiltStatements.{init_declarator_of}
use Rattle.p10_core.specs.Types.{plain_type}
use Rattle.p10_elabx.specs.First.{only_first}
use Rattle.p10_elabd.specs.Views.{plain_declared, told}
use Rattle.p10_elabs.proofs.DeclaredObjects.{named_other, named_prototype}
use Rattle.p10_elabs.specs.FrameViews.{plain_frame}
use Rattle.p10_elabs.specs.LocalViews.{plain_local}
use Rattle.p10_elabs.proofs.declarations.local_named.Goals as goal

pub returns-then-prototype : goal.returns-then-prototype
returns-then-prototype c =
    named_prototype only_first (plain_frame c.args.frame.now) c.args.manner.at c.args.manner.storage c.args.manner.sensor (option_map plain_type c.args.ty.now) (plain_local c.args.local.now) (init_declarator_of c.args.d.now) (identifier_of c.args.name) _ (told (option_map plain_declared c.in_ok-declared.declared) c.declarator_passed.new.standing) _ _
    c.in_ok-given.ensures c.in_ok-declared.ensures c.is_prototype-prototype.ensures c.if-prototype.true c.in_ok-prototype_passed.ensures

pub returns : goal.returns
returns c =
    named_other only_first (plain_frame c.args.frame.now) c.args.manner.at c.args.manner.storage c.args.manner.sensor (option_map plain_type c.args.ty.now) (plain_local c.args.local.now) (init_declarator_of c.args.d.now) (identifier_of c.args.name) _ (told (option_map plain_declared c.in_ok-declared.declared) c.declarator_passed.new.standing) _ _
    c.in_ok-given.ensures c.in_ok-declared.ensures c.is_prototype-prototype.ensures c.if-prototype.false c.in_ok-items.ensures
