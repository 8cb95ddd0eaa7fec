use Rattle.p10_range_laws.proofs.Products.{products_are_tight}
use Rattle.p10_range_laws.proofs.laws.products_are_tight.Goals as goal

pub returns : goal.returns
returns c = products_are_tight
