-- Scopes with names and tags more.
use Rattle.std.specs.Prelude.{List, map, ◌++◌}
use Rattle.p10_elabx.specs.Scopes.{PlainScope, Binding}
use Rattle.p10_elabs.specs.Locals.{Frame}
use Rattle.p10_elab.specs.Outer.{meaning_in_body}

-- a name among the parameters as it stands in the body
abbrev pub named_in_body : Frame → Binding → Binding
named_in_body f b = record b { what = meaning_in_body f b.what }

-- names among the parameters as they stand in the body
abbrev pub in_body : Frame → List Binding → List Binding
in_body f bs = map (named_in_body f) bs

-- with names more
abbrev pub with_names : PlainScope → List Binding → PlainScope
with_names s bs = record s { names = s.names ++ bs }

-- with tags more
abbrev pub with_tags : PlainScope → List Binding → PlainScope
with_tags s bs = record s { tags = s.tags ++ bs }
