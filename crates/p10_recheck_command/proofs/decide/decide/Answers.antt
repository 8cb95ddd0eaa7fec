use Rattle.std.proofs.Common.{subst}
use Rattle.std.proofs.lemmas.Option.{MatchOption-at_some}
use Rattle.p10_judge.specs.Loading.{IsLoaded}
use Rattle.p10_recheck_command.proofs.Deciding.{decides_rechecked, decides_ungathered, gathers_named}
use Rattle.p10_recheck_command.proofs.decide.decide.Goals as goal

pub returns-in-Stopped-clause-right : goal.returns-in-Stopped-clause-right
returns-in-Stopped-clause-right g c =
    decides_ungathered (g.F.Files.held c.args.files.now) c.args.command.now c.as_slice-roots.result.now c.as_slice-directories.result.now c.in_ok-sources.field-0 c.in-Stopped.why c.in-Stopped.sources
    c.as_slice-roots.ensures c.as_slice-directories.ensures c.in-Stopped.is c.in_ok-sources.ensures.gathered

pub returns-clause-right : goal.returns-clause-right
returns-clause-right g c =
    decides_rechecked (g.F.Files.held c.args.files.now) (g.F.Files.held c.gather_roots.new.files) (g.F.Files.held c.load_certificate.new.files) c.args.command.now c.in-All.sources c.in-Some.new.items c.in-Some-2.old.items
    c.deref.result.now c.deref-2.result.now c.in_ok-answer.answer
    (gathers_named (g.F.Files.held c.args.files.now) c.args.command.now c.as_slice-roots.result.now c.as_slice-directories.result.now c.in_ok-sources.field-0 c.in-All.sources
    c.as_slice-roots.ensures c.as_slice-directories.ensures c.in-All.is c.in_ok-sources.ensures.gathered)
    c.in_ok-sources.ensures.held
    (subst (λ name. IsLoaded (g.F.Files.held c.gather_roots.new.files) name c.in-Some.new.items) c.as_str.ensures (MatchOption-at_some _ _ _ c.in-Some.is c.in_ok-new.ensures.present))
    c.in_ok-new.ensures.held
    (subst (λ name. IsLoaded (g.F.Files.held c.load_certificate.new.files) name c.in-Some-2.old.items) c.as_str-2.ensures (MatchOption-at_some _ _ _ c.in-Some-2.is c.in_ok-old.ensures.present))
    c.deref.ensures.value c.deref-2.ensures.value c.in_ok-answer.ensures
