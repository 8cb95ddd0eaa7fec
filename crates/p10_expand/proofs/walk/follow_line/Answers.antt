use Rattle.std.proofs.Common.{map, string_bytes, slice_index_or, subst, sym}
use Rattle.std.proofs.lemmas.Result.{err_from_is_err_and}
use Rattle.p10_expand.specs.Includes.{no_include}
use Rattle.p10_expand.specs.Gathering.{Line, known_at}
use Rattle.p10_expand.specs.private.Standing.{Stands}
use Rattle.p10_expand.proofs.Steps.{first_stops, line_places, linked_steps, linked_stands, unlinked_steps}
use Rattle.p10_expand.proofs.walk.follow_line.Goals as goal
use Rattle.p10_expand.proofs.walk.follow_line.Goals.{in-Some+in_ok-link, in_default}

pub returns-in_err-to-clause-cause : goal.returns-in_err-to-clause-cause
returns-in_err-to-clause-cause g c =
    let p = err_from_is_err_and c.from_residual-in_err-to.result c.from_residual-in_err-to.ensures.1 in
    let include = slice_index_or (known_at c.args.state.now.known.items c.args.file).includes c.args.at no_include in
    let are = line_places (map string_bytes c.args.dirs.now) c.args.state.now.sources c.args.file _ _ _ c.include_at-include.result.now include c.deref.ensures.value c.in_ok-places.ensures c.name-from.ensures c.include_at-include.ensures in
    rw (p.1, p.2) (first_stops _ (map string_bytes c.args.dirs.now) c.args.state.now c.first_present.new.state (Line c.args.file c.args.depth include) c.deref.result.now c.in_err-to.field-0.0 are c.in_err-to.ensures.cause)

pub returns-clause-followed : goal.returns-clause-followed
returns-clause-followed g c =
    let include = slice_index_or (known_at c.args.state.now.known.items c.args.file).includes c.args.at no_include in
    let are = line_places (map string_bytes c.args.dirs.now) c.args.state.now.sources c.args.file _ _ _ c.include_at-include.result.now include c.deref.ensures.value c.in_ok-places.ensures c.name-from.ensures c.include_at-include.ensures in
    elim c.match-branch-3.branch [
      | in-Some+in_ok-link w ↦
          linked_steps (g.F.Files.held c.args.files.now) (map string_bytes c.args.dirs.now) c.args.state.now c.first_present.new.state w.link.new.self c.match-branch-3.state c.args.file c.args.at c.args.depth c.deref.result.now c.in_ok-to.field-0 w.in-Some.to
          c.requires.stands.known c.requires.there are c.in_ok-to.ensures.found w.in-Some.is w.in_ok-link.ensures w.state-is
      | in_default w ↦
          unlinked_steps (g.F.Files.held c.args.files.now) (map string_bytes c.args.dirs.now) c.args.state.now c.first_present.new.state c.match-branch-3.state c.args.file c.args.depth include c.deref.result.now c.args.depth c.in_ok-to.field-0
          are c.in_ok-to.ensures.found w.in_default.is w.state-is
    ]

pub returns-clause-stands : goal.returns-clause-stands
returns-clause-stands g c =
    elim c.match-branch-3.branch [
      | in-Some+in_ok-link w ↦ subst (Stands (g.F.Files.held c.args.files.now)) (sym w.state-is)
          (linked_stands (g.F.Files.held c.args.files.now) c.args.state.now c.first_present.new.state w.link.new.self c.args.file c.deref.result.now c.args.depth c.in_ok-to.field-0 w.in-Some.to _
          c.requires.stands c.requires.there c.in_ok-to.ensures.found w.in-Some.is c.in_ok-to.ensures.stands w.in_ok-link.ensures)
      | in_default w ↦ subst (Stands (g.F.Files.held c.args.files.now)) (sym w.state-is) c.in_ok-to.ensures.stands
    ]
