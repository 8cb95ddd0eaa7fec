-- What the code knows of a function.
use Rattle.std.specs.Prelude.{map}
use Rattle.p10_core.specs.Views.{plain_function, plain_object}
use Rattle.p10_userules.specs.declared.wide.FunctionUses.{FunctionUses as CodeKnown}
use Rattle.p10_userules.specs.private.Listing.{FunctionUses}

-- what the code knows of a function, as definitions speak of it
abbrev pub function_uses_of : CodeKnown → FunctionUses
function_uses_of k = record { function = plain_function k.function.now; variables = k.variables.now; objects = map plain_object k.objects.now; object_spreads = k.object_spreads.now }
