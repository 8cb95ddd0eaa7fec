-- Declarations with linkage in order, as the code keeps them.
use Rattle.std.specs.Prelude.{List, map}
use Rattle.p10_linkage.specs.declared.linked_names.LinkedNames.{LinkedNames}
use Rattle.p10_linkage.specs.Linkage.{Linked}
use Rattle.p10_linkage.specs.LinkedViews.{linked_of_name}

-- the declarations, in order
abbrev pub linked_in : LinkedNames → List Linked
linked_in n = map linked_of_name n.rows.items
