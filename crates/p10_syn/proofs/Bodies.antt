-- What structures and enumerations of the code are to questions that don't look into them.
use Rattle.std.proofs.Common.{◌≡◌, refl, false}
use Rattle.p10_syn.specs.declared.setting.Said.{Said}
use Rattle.p10_syn.specs.declared.setting.Said.TheVariants.{Words}
use Rattle.p10_syn.specs.declared.tree.Structure as structure
use Rattle.p10_syn.specs.declared.tree.Enumeration as enumeration
use Rattle.p10_syn.specs.Bare.{bare_specifier}
use Rattle.p10_syn.specs.Declaring.{is_typedef}
use Rattle.p10_syn.specs.Forms.{after_saying}
use Rattle.p10_syn.specs.Built.{structure_of, enumeration_of}

pub structure_says : (said : Said) (s : structure.Structure) → after_saying said (bare_specifier (structure_of s)) ≡ Words
structure_says said (structure.Structure' at sign tag shape all) = refl

pub enumeration_says : (said : Said) (e : enumeration.Enumeration) → after_saying said (bare_specifier (enumeration_of e)) ≡ Words
enumeration_says said (enumeration.Enumeration' at tag shape all comma) = refl

pub structure_declares : (s : structure.Structure) → is_typedef (bare_specifier (structure_of s)) ≡ false
structure_declares (structure.Structure' at sign tag shape all) = refl

pub enumeration_declares : (e : enumeration.Enumeration) → is_typedef (bare_specifier (enumeration_of e)) ≡ false
enumeration_declares (enumeration.Enumeration' at tag shape all comma) = refl
