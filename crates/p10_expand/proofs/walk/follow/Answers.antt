use Rattle.std.proofs.Common.{arith, rules, refl, subst, map, string_bytes}
use Rattle.std.proofs.lemmas.Result.{err_from_is_err_and}
use Rattle.p10_expand.specs.private.Standing.{Stands}
use Rattle.p10_expand.proofs.Steps.{follow_ends, follow_goes_on, follow_stops, grows_on}
use Rattle.p10_expand.proofs.walk.follow.Goals as goal

pub returns-in_err-follow_line-clause-cause : goal.returns-in_err-follow_line-clause-cause
returns-in_err-follow_line-clause-cause g c =
    let p = err_from_is_err_and c.from_residual.result c.from_residual.ensures.1 in
    rw (p.1, p.2) (follow_stops (g.F.Files.held c.loop-at.files) (g.F.Files.held c.args.files.now) (map string_bytes c.args.dirs.now) c.args.state.now c.loop-at.state c.follow_line.new.state c.args.file c.loop-at.at _ c.known_of-known.result.now c.in_err-follow_line.field-0.0
    c.loop-at.invariant.held c.known_of-known.ensures (omega (arith, c.requires.stands.known, c.requires.there)) c.if-known-gt-MOST_NESTED.false refl (search rules) c.loop-at.invariant.grows c.in_err-follow_line.ensures.cause c.loop-at.invariant.comes)

pub loop-at-preserved : goal.loop-at-preserved
loop-at-preserved g c = record {
  stands = subst (λ h. Stands h c.follow_line.new.state) c.loop-at.invariant.held c.in_ok-follow_line.ensures.stands;
  grows = grows_on c.args.state.now c.loop-at.state c.follow_line.new.state c.loop-at.invariant.grows c.in_ok-follow_line.ensures.grows;
  comes = follow_goes_on (g.F.Files.held c.loop-at.files) (g.F.Files.held c.args.files.now) (map string_bytes c.args.dirs.now) c.args.state.now c.loop-at.state c.follow_line.new.state c.args.file c.loop-at.at _ c.known_of-known.result.now
      c.loop-at.invariant.held c.known_of-known.ensures (omega (arith, c.requires.stands.known, c.requires.there)) c.if-known-gt-MOST_NESTED.false refl (search rules) c.loop-at.invariant.grows c.in_ok-follow_line.ensures.grows c.in_ok-follow_line.ensures.followed c.loop-at.invariant.comes;
  held = search rules;
  count = search rules;
}

pub returns-clause-followed : goal.returns-clause-followed
returns-clause-followed g c =
    follow_ends (g.F.Files.held c.args.files.now) (map string_bytes c.args.dirs.now) c.args.state.now c.loop-at.state c.args.file c.loop-at.at c.known_of-known.result.now c.known_of-known.ensures c.if-known-gt-MOST_NESTED.false
    (search rules) c.loop-at.invariant.grows c.loop-at.invariant.comes
