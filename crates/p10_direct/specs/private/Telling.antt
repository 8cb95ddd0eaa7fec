-- What an answer of the code says of a line.
use Rattle.std.specs.Prelude.{◌≡◌, Some, Result, Ok, Err}
use Rattle.p10_base.specs.declared.span.Span.{Span}
use Rattle.p10_direct.specs.declared.form.Directive.{Directive}
use Rattle.p10_direct.specs.declared.form.DirectFault.{DirectFault}
use Rattle.p10_direct.specs.declared.form.DirectFault.TheVariants.{Refused, Memory}
use Rattle.p10_direct.specs.Directives.{Outcome, Read, refusal_of}
use Rattle.p10_base.specs.Codes.{directive_refusal}
use Rattle.p10_base.specs.declared.codes.DirectiveCode.{DirectiveCode}
use Rattle.p10_direct.specs.Form.{plain}

-- the fault with this code, at this place
abbrev pub fault_of : DirectiveCode → Span → DirectFault
fault_of code at = Refused (directive_refusal code at)

-- an answer is this outcome of a line with this place, unless memory ran out, which it may only under this condition
abbrev pub TellsUnless : Type 0 → Span → Outcome → Result Directive DirectFault → Type 0
TellsUnless condition whole outcome (Ok directive) = outcome ≡ Read (plain directive)
TellsUnless condition whole outcome (Err (Refused refusal)) = refusal_of whole outcome ≡ Some refusal
TellsUnless condition whole outcome (Err Memory) = condition

-- an answer is this outcome of a line with this place
abbrev pub Tells : Span → Outcome → Result Directive DirectFault → Type 0
Tells = TellsUnless ⊥
