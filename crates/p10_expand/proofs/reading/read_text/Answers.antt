use Rattle.p10_expand.proofs.WordPlaces.{text_read}
use Rattle.p10_expand.proofs.reading.read_text.Goals as goal

pub returns-clause-read : goal.returns-clause-read
returns-clause-read c =
    text_read c.args.number c.args.text.now c.in-Ok.words.items c.deref.result.now c.deref-2.result.now c.in_ok-words.words.items c.in_ok-includes.includes.items
    c.in-Ok.ensures.answers c.deref.ensures.value c.in_ok-includes.ensures c.deref-2.ensures.value c.in_ok-words.ensures
