use Rattle.std.specs.Prelude.{◌≡◌, map, option_map}
use Rattle.std.proofs.Common.{rules, ◌-◌, ◌∙◌, ap, sym, option_copied}
use Rattle.p10_core.specs.Types.{plain_member, plain_body, members_in, members_of}
use Rattle.p10_core.specs.Views.{plain_types}
use Rattle.p10_elabd.specs.private.Heads.{first_of_members}
use Rattle.p10_elabd.proofs.FirstScalars.{within_depth}
use Rattle.p10_elabd.proofs.first_scalar.+scalars.Goals as goal

pub structure_scalar-returns-in_ok-found-in-Some : goal.structure_scalar-returns-in_ok-found-in-Some
structure_scalar-returns-in_ok-found-in-Some t c =
    let known = sym (ap (λ o. option_map plain_body (option_copied o)) c.in-Some.is) ∙ c.body.ensures in
    c.in_ok-found-in-Some.ensures ∙ ap (λ ms. first_of_members (c.args.depth - 1) (plain_types c.args.types.now) (map plain_member ms)) c.as_slice.ensures ∙ ap (λ b. first_of_members (c.args.depth - 1) (plain_types c.args.types.now) (members_in b)) known
    ∙ within_depth c.args.depth (plain_types c.args.types.now) c.args.number c.if-depth-eq0.false

pub structure_scalar-returns-in-None : goal.structure_scalar-returns-in-None
structure_scalar-returns-in-None t c =
    let known = sym (ap (λ o. option_map plain_body (option_copied o)) c.in-None.is) ∙ c.body.ensures in
    ap (λ b. first_of_members (c.args.depth - 1) (plain_types c.args.types.now) (members_in b)) known
    ∙ within_depth c.args.depth (plain_types c.args.types.now) c.args.number c.if-depth-eq0.false
