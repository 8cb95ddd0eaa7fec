-- What is known of the program, as the code keeps it.
use Rattle.std.specs.Borrow.{Bor}
use Rattle.std.specs.Prelude.{ℕ, List, map}
use Rattle.p10_base.specs.Words.{Text}
use Rattle.p10_core.specs.Views.{plain_function, plain_object, plain_seen}
use Rattle.p10_elabd.specs.Views.{plain_standing}
use Rattle.p10_elab.specs.declared.known.Known.{Known}
use Rattle.p10_linkage.specs.LinkedLists.{linked_in}
use Rattle.p10_elab.specs.SightingViews.{sightings_in}
use Rattle.p10_elab.specs.OuterViews.{plain_outer_object, plain_tentative}
use Rattle.p10_elab.specs.Knowledge.{Known as PlainKnown}

-- names of objects that no root defines, each with how many functions stand before
abbrev pub plain_undefined : List (Bor (List ℕ) × ℕ) → List (Text × ℕ)
plain_undefined all = map (λ x. (x.0.now, x.1)) all

-- what is known
abbrev pub plain_known : Known → PlainKnown
plain_known k = record {
  standing = plain_standing k.standing;
  root = k.root;
  linked = linked_in k.linked;
  functions = map plain_function k.functions.items;
  block_objects = map (λ b. (b.0, plain_object b.1)) k.block_objects.items;
  objects = map plain_outer_object k.objects.items;
  sightings = sightings_in k.sightings;
  visible = k.visible.items;
  mains = k.mains.items;
  tentative = map plain_tentative k.tentative.items;
  undefined = plain_undefined k.undefined.items;
  outside = map plain_seen k.outside.items;
}
