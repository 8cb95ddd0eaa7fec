use Rattle.std.proofs.Common.{◌≡◌, true, rules, arith}
use Rattle.p10_core.specs.Types.{plain_type}
use Rattle.p10_core.specs.Views.{plain_types}
use Rattle.p10_whole.proofs.ItemTests.{characters_more}
use Rattle.p10_whole.proofs.items.has_characters.Goals as goal

pub loop-k-init : goal.loop-k-init
loop-k-init c = record { each = λ k below. absurd (omega (arith, below)) }

pub loop-k-preserved : goal.loop-k-preserved
loop-k-preserved c =
    let yes : c.has_character.result ≡ true = search rules in
    characters_more (plain_types c.args.types.now) (plain_type c.args.t.now) c.args.from c.loop-k.k c.in-Some.place c.loop-k.invariant c.in-Some.ensures (c.has_character.ensures.shows yes)

pub returns : goal.returns
returns c = record { shows = λ e. record { each = λ j below. c.loop-k.invariant.each j (omega (arith, below, c.loop-k-test.false)) } }
