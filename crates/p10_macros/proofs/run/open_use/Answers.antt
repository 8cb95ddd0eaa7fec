use Rattle.std.proofs.Common.{List, refl, ap, ◌∙◌, Vec, Global}
use Rattle.std.specs.Prelude.{reverse}
use Rattle.p10_macros.specs.declared.pending.Open.{Open}
use Rattle.p10_macros.specs.declared.pending.Traced.{Traced}
use Rattle.p10_macros.specs.private.Standing.{place_among}
use Rattle.p10_macros.proofs.run.open_use.Goals as goal

pub returns-clause-ok : goal.returns-clause-ok
returns-clause-ok c = record {
  opened = _;
  opens = c.in_ok-put_open.ensures;
  the_macro = refl;
  the_name = refl;
  the_place = c.place_of-place.ensures ∙ ap (λ (l : List Open). place_among (reverse l) c.args.name) c.as_slice.ensures.value;
  the_stop = c.replace.ensures.value;
  before = ap (λ (v : Vec Traced Global). v.items) c.replace-before.ensures.value;
  values = c.new-2.ensures.items;
  words = refl;
  done = ap (λ (v : Vec Traced Global). v.items) c.replace-before.ensures.after ∙ c.new.ensures.items;
  pending = refl;
  stop = c.replace.ensures.after;
  origins = refl;
  left = refl;
}
