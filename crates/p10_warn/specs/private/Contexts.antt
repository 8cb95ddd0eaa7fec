-- What a walk over a function for its declarations knows, and what it lists.
use Rattle.std.specs.Prelude.{List, map, flat_map}
use Rattle.p10_base.specs.declared.report.Violation.{Violation}
use Rattle.p10_core.specs.Typed.{PlainObject, PlainVariable}
use Rattle.p10_core.specs.Views.{plain_object, plain_seen, plain_variable}
use Rattle.p10_warn.specs.declared.context.Context.{Context}
use Rattle.p10_warn.specs.declared.file_scope.FileScope.{FileScope}
use Rattle.p10_warn.specs.Scopes.{ScopedDeclaration, FileNames}
use Rattle.p10_warn.specs.private.Listing.{declaration_violations}

-- what stands at file scope
abbrev pub names_at : FileScope → FileNames
names_at f = record { objects = map plain_object f.objects.now; outside = map plain_seen f.outside.now }

-- the objects that are known
abbrev pub objects_known : Context → List PlainObject
objects_known c = map plain_object c.file.now.objects.now

-- the variables that are known
abbrev pub variables_known : Context → List PlainVariable
variables_known c = map plain_variable c.variables.now

-- what is known to stand at file scope
abbrev pub file_known : Context → FileNames
file_known c = names_at c.file.now

-- the violations by declarations
abbrev pub listed_by : Context → List ScopedDeclaration → List Violation
listed_by c declarations = flat_map (declaration_violations (file_known c) c.function) declarations
