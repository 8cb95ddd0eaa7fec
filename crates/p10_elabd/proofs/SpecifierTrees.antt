-- Structures and enumerations among specifiers of the code.
use Rattle.std.specs.Prelude.{◌≡◌, Bool, [], map, refl}
use Rattle.std.proofs.Common.{ap}
use Rattle.p10_syn.specs.declared.tree.Structure.{Structure, Structure', out-Structure}
use Rattle.p10_syn.specs.declared.tree.Enumeration.{Enumeration, Enumeration', out-Enumeration}
use Rattle.p10_syn.specs.Trees.{member_row, enumerator_row}
use Rattle.p10_syn.specs.Built.{tag_of as own_tag, structure_of, enumeration_of, member_of, enumerator_of}
use Rattle.p10_elabx.specs.First.{only_first}
use Rattle.p10_elabd.specs.declared.site.Site.{Site}
use Rattle.p10_elabd.specs.declared.site.Allowed.{Allowed}
use Rattle.p10_elabd.specs.declared.site.Storage.{Storage}
use Rattle.p10_elabd.specs.Standing.{PlainStanding}
use Rattle.p10_elabd.specs.Tags.{structure_tag, tag_of}
use Rattle.p10_elabd.specs.Words.{storage_with}
use Rattle.p10_elabd.specs.Declaring.{stored_by, as_named, enumeration_passed, structure_passed, specifier_passed}
use Rattle.p10_elabd.proofs.TreeRows.{structure_is, enumeration_is}

pub structure_stores : (s : Structure) (found : Storage) → storage_with found (structure_of s) ≡ found
structure_stores (Structure' at w tag shape all) found = refl

pub enumeration_stores : (e : Enumeration) (found : Storage) → storage_with found (enumeration_of e) ≡ found
enumeration_stores (Enumeration' at tag shape all comma) found = refl

-- ## Declared with expressions

pub structure_tags : (x : Structure) → tag_of (structure_of x) ≡ structure_tag (out-Structure x).sign (own_tag (out-Structure x).tag)
unfolding out-Structure denote.Hole.Carrier.out
structure_tags (Structure' at w tag shape all) = refl

pub enumeration_tags : (x : Enumeration) → tag_of (enumeration_of x) ≡ []
enumeration_tags (Enumeration' at tag shape all comma) = refl

-- ## As parts of declarations

pub structure_stored : (x : Structure) (stored : Bool) → stored_by stored (structure_of x) ≡ stored
structure_stored (Structure' at w tag shape all) stored = refl

pub enumeration_stored : (x : Enumeration) (stored : Bool) → stored_by stored (enumeration_of x) ≡ stored
enumeration_stored (Enumeration' at tag shape all comma) stored = refl

pub structure_passes : (site : Site) (allowed : Allowed) (alone stored : Bool) (s : PlainStanding) (x : Structure) →
    specifier_passed only_first site allowed alone stored s (structure_of x)
    ≡ as_named (structure_passed only_first alone (out-Structure x).at (out-Structure x).sign (own_tag (out-Structure x).tag) s (member_row (map member_of (out-Structure x).members.items)))
structure_passes site allowed alone stored s x = ap (specifier_passed only_first site allowed alone stored s) (structure_is x)

pub enumeration_passes : (site : Site) (allowed : Allowed) (alone stored : Bool) (s : PlainStanding) (x : Enumeration) →
    specifier_passed only_first site allowed alone stored s (enumeration_of x)
    ≡ as_named (enumeration_passed only_first (out-Enumeration x).at (own_tag (out-Enumeration x).tag) s (enumerator_row (map enumerator_of (out-Enumeration x).enumerators.items)))
enumeration_passes site allowed alone stored s x = ap (specifier_passed only_first site allowed alone stored s) (enumeration_is x)
