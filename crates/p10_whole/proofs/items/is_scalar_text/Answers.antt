use Rattle.p10_core.specs.Types.{plain_type}
use Rattle.p10_core.specs.Views.{plain_types}
use Rattle.p10_whole.proofs.ItemTests.{text_is}
use Rattle.p10_whole.proofs.Listing.{small_bytes}
use Rattle.p10_whole.proofs.items.is_scalar_text.Goals as goal

pub returns : goal.returns
returns c = record {
  shows = λ h. text_is (plain_types c.args.types.now) (plain_type c.args.t.now) c.args.place c.args.bytes.now (c.has_characters.ensures.shows h) (small_bytes c.args.bytes.now c.type_inv.bytes);
}
