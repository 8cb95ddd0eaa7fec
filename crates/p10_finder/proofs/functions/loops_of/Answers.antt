use Rattle.std.proofs.Common.{◌≡◌, map, Some, ap, sym, ◌∙◌}
use Rattle.std.specs.Option.{option_map}
use Rattle.p10_core.specs.Views.{plain_statements, plain_function, plain_program}
use Rattle.p10_cert.specs.Claims.{loop_of, claims_of}
use Rattle.p10_approach.specs.Offers.{offers_if}
use Rattle.p10_candidates.specs.Offering.{approach_by}
use Rattle.p10_finder.specs.Loops.{no_loops}
use Rattle.p10_finder.specs.Functions.{search_in, known_at_start}
use Rattle.p10_finder.specs.private.Looping.{have_loop}
use Rattle.p10_finder.proofs.WithoutLoops.{none_in_all}
use Rattle.p10_finder.proofs.functions.loops_of.Goals as goal

pub returns-then-not-have_loop : goal.returns-then-not-have_loop
returns-then-not-have_loop c =
    let p = plain_program c.args.program.now in
    let f = plain_function c.args.function.now in
    (λ i. record { claims = map loop_of (c.new.ensures.items i); unbounded = c.new-2.ensures.items i; approaches = map (option_map approach_by) (c.new-3.ensures.items i) })
    ∙ sym
    (none_in_all (search_in (offers_if c.args.approaching) p (claims_of c.args.claims.now) c.args.number f) 0 f.body (Some (known_at_start f)) no_loops
    (ap (λ all. have_loop (plain_statements all)) (sym c.as_slice.ensures) ∙ sym c.have_loop.ensures ∙ c.if-not-have_loop.true))
