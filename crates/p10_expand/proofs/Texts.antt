-- The texts of the built-in headers are those of the definition.
use Rattle.std.proofs.Common.{◌≡◌, [], refl}
use Rattle.std.specs.Fmt.{digits}
use Rattle.p10_expand.specs.declared.headers.TheConstants.{STDINT, STDBOOL, STDDEF, STDIO, LIMITS, EMPTY}
use Rattle.p10_expand.specs.Headers.{stdint, limits, stdbool, stddef, stdio}

pub stdint_is : STDINT.now ≡ stdint
unfolding stdint digits
stdint_is = refl

pub limits_is : LIMITS.now ≡ limits
unfolding limits digits
limits_is = refl

pub stdbool_is : STDBOOL.now ≡ stdbool
unfolding stdbool
stdbool_is = refl

pub stddef_is : STDDEF.now ≡ stddef
unfolding stddef
stddef_is = refl

pub stdio_is : STDIO.now ≡ stdio
unfolding stdio stddef
stdio_is = refl

pub empty_is : EMPTY.now ≡ []
empty_is = refl

pub ruleset texts = (stdint_is, limits_is, stdbool_is, stddef_is, stdio_is, empty_is)
