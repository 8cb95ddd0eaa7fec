-- Rows of specifiers of the code as lists.
use Rattle.std.proofs.Common.{◌≡◌, map, refl, ap, rules}
use Rattle.p10_syn.specs.declared.tree.Declarator.TheViews.{the_lemmas}
use Rattle.p10_syn.specs.declared.tree.Declarator.TheBlock.{shown-the_row-Spec-0}
use Rattle.p10_syn.specs.declared.tree.Form.{Row_of-Spec, end_of-Spec, more_of-Spec, items-the_row-Spec}
use Rattle.p10_syn.specs.Trees.{MoreSpecifiers, specifier_row}
use Rattle.p10_syn.specs.Built.{specifiers_of, specifiers_in, specifier_of}

pub specifiers_listed : (n : _) (all : Row_of-Spec n) → specifiers_of all ≡ specifier_row (map specifier_of (items-the_row-Spec n all))
specifiers_listed n end_of-Spec = refl
specifiers_listed n (more_of-Spec s rest) = ap (MoreSpecifiers (specifier_of s)) (specifiers_listed _ rest)

-- in a part that is no tree of its own
pub specifiers_shown : (shape : _) (specs : Row_of-Spec _) → specifiers_of specs ≡ specifiers_in (shown-the_row-Spec-0 shape specs)
specifiers_shown shape specs = search (rules, the_lemmas, specifiers_listed)
