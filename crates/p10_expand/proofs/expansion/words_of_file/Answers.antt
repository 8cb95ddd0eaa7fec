use Rattle.p10_expand.proofs.WordPlaces.{words_lent, words_made}
use Rattle.p10_expand.proofs.expansion.words_of_file.Goals as goal

pub words_in-requires : goal.words_in-requires
words_in-requires c = words_lent c.args.sources.now c.args.number c.text.result.now c.words.result.now c.requires.have c.requires.held c.text.ensures c.words.ensures

pub returns : goal.returns
returns c = words_made c.args.sources.now c.args.number c.text.result.now c.words.result.now c.words_in.result c.requires.have c.requires.held c.text.ensures c.words.ensures c.words_in.ensures
