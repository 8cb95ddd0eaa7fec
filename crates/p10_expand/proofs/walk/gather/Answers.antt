use Rattle.std.proofs.Common.{arith, ◌∙◌, rules, subst, map, string_bytes}
use Rattle.std.proofs.lemmas.List.{length-map}
use Rattle.p10_expand.specs.private.Standing.{Stands}
use Rattle.p10_expand.specs.Setting.{setting}
use Rattle.p10_expand.proofs.Steps.{gathers, have_words, turn_absent, turn_comes, turn_ends}
use Rattle.p10_expand.proofs.RootCount.{gathers_roots}
use Rattle.p10_expand.proofs.walk.gather.Goals as goal

pub returns-in-Ok-false-clause-fault : goal.returns-in-Ok-false-clause-fault
returns-in-Ok-false-clause-fault g c =
    turn_absent string_bytes (g.F.Files.held c.loop-root.files) (g.F.Files.held c.args.files.now) c.args.roots.now (map string_bytes c.args.dirs.now) c.loop-root.state c.loop-root.root-index c.loop-root.place c.root-item.result
    c.loop-root.invariant.held c.loop-root-test.true c.root-item.is c.loop-root.invariant.many c.loop-root.invariant.place (c.in-Ok-false.ensures.lacking c.in-Ok-false.field-0-test).0 c.loop-root.invariant.comes

pub returns-in-Err-clause-fault : goal.returns-in-Err-clause-fault
returns-in-Err-clause-fault g c =
    turn_ends string_bytes (g.F.Files.held c.loop-root.files) (g.F.Files.held c.args.files.now) c.args.roots.now (map string_bytes c.args.dirs.now) c.loop-root.state c.add_root.new.state c.loop-root.root-index c.root-item.result c.in-Err.trouble _
    c.loop-root.invariant.held c.loop-root-test.true c.root-item.is (c.in-Err.ensures.cause (map string_bytes c.args.dirs.now)) c.fault_of.ensures c.loop-root.invariant.comes

pub loop-root-preserved : goal.loop-root-preserved
loop-root-preserved g c = record {
  place = search rules;
  stands = subst (λ h. Stands h c.add_root.new.state) c.loop-root.invariant.held c.in-Ok-true.ensures.stands;
  many = search rules;
  comes = turn_comes string_bytes (g.F.Files.held c.loop-root.files) (g.F.Files.held c.args.files.now) c.args.roots.now (map string_bytes c.args.dirs.now) c.loop-root.state c.add_root.new.state c.loop-root.root-index c.root-item.result
      c.loop-root.invariant.held c.loop-root-test.true c.root-item.is c.in-Ok-true.ensures.grows (c.in-Ok-true.ensures.there c.in-Ok-true.field-0-test (map string_bytes c.args.dirs.now)) c.loop-root.invariant.comes;
  held = search rules;
  count = search rules;
}

pub returns-clause-words : goal.returns-clause-words
returns-clause-words g c = have_words (g.F.Files.held c.args.files.now) c.loop-file.state c.loop-file.invariant.stands

pub returns-clause-roots : goal.returns-clause-roots
returns-clause-roots g c =
    gathers_roots (setting (g.F.Files.held c.args.files.now) (map string_bytes c.args.roots.now) (map string_bytes c.args.dirs.now)) c.loop-file.state.sources
    (gathers _ c.loop-file.state c.loop-file.file (omega (arith, c.loop-file.invariant.stands.known, c.loop-file-test.false)) c.loop-file.invariant.comes) ∙ length-map c.args.roots.now string_bytes
