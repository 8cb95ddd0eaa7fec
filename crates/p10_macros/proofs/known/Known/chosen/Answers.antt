use Rattle.std.proofs.Common.{◌<◌, length, arith}
use Rattle.std.proofs.lemmas.Bool.Decides.{nat_tests}
use Rattle.p10_macros.specs.private.KnownMacros.{plain_known}
use Rattle.p10_macros.specs.private.Places.{is_put}
use Rattle.p10_macros.specs.Uses.{texts_of}
use Rattle.p10_macros.specs.private.Traces.{lists_of}
use Rattle.p10_macros.proofs.Chosen.{chosen_below, parts_whole}
use Rattle.p10_macros.proofs.known.Known.chosen.Goals as goal

-- the macro has parameters
some : (c : goal.In_ok-chosen) → 0 < length (texts_of (plain_known c.args.self.now).parameters)
some c = let l = c.args.self.now.counted in let e = c.is_empty.ensures in let f = c.if-is_empty.false in grind (arith, nat_tests, l, e, f)

pub returns-clause-within : goal.returns-clause-within
returns-clause-within c =
    chosen_below (plain_known c.args.self.now).parameters c.args.self.now.made.body.now c.args.self.now.places.all.items c.in_ok-chosen.chosen.items (is_put (lists_of c.args.values.now))
    (some c) c.args.self.now.placed c.in_ok-chosen.ensures

pub returns-clause-whole : goal.returns-clause-whole
returns-clause-whole c = λ part empty.
    parts_whole (plain_known c.args.self.now).parameters c.args.self.now.made.body.now c.args.self.now.places.all.items c.in_ok-chosen.chosen.items (lists_of c.args.values.now)
    (some c) c.args.self.now.placed c.in_ok-chosen.ensures part empty
