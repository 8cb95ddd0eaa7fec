-- Directives of the code, which borrow their words, as plain values.
use Rattle.std.specs.Prelude.{◌≡◌, List, [], ◌∷◌, map, true, option_map, codes}
use Rattle.p10_direct.specs.declared.form.Directive.{Directive}
use Rattle.p10_direct.specs.declared.form.Directive.TheVariants as form
use Rattle.p10_direct.specs.declared.form.Macro.{Macro}
use Rattle.p10_direct.specs.declared.form.Definition.{Definition as Borrowed}
use Rattle.p10_direct.specs.declared.form.DirectFault.{DirectFault}
use Rattle.p10_direct.specs.declared.form.DirectFault.TheVariants.{Refused, Memory}
use Rattle.p10_base.specs.Words.{PlainWord, plain_word, is_punctuator}
use Rattle.p10_direct.specs.Directives.{Definition, PlainMacro, PlainDirective, Null, Include, Define, Undef, If, Elif, Ifdef, Ifndef, Else, Endif, Once, InitDone, TaskLoop, OtherPragma, IsRefused, DefinesFunctionLike}

-- a macro as a plain value
abbrev pub plain_macro : Macro → PlainMacro
plain_macro m = record { name = m.name.now; parameters = option_map (map (λ text. text.now)) m.params; body = map plain_word m.body.now }

-- the words of a definition as a plain value
abbrev pub plain_definition : Borrowed → Definition
plain_definition d = record { name = plain_word d.name; parameters = option_map (map plain_word) d.parameters; body = map plain_word d.body.now }

-- a directive as a plain value
abbrev pub plain : Directive → PlainDirective
plain form.Null = Null
plain (form.Include name angle) = Include name.now angle
plain (form.Define m) = Define (plain_macro m)
plain (form.Undef name) = Undef name.now
plain (form.If condition) = If (map plain_word condition.now)
plain (form.Elif condition) = Elif (map plain_word condition.now)
plain (form.Ifdef name) = Ifdef name.now
plain (form.Ifndef name) = Ifndef name.now
plain form.Else = Else
plain form.Endif = Endif
plain form.Once = Once
plain form.InitDone = InitDone
plain form.TaskLoop = TaskLoop
plain form.OtherPragma = OtherPragma

-- a line begins with `#`
abbrev pub BeginsWithHash : List PlainWord → Type 0
BeginsWithHash [] = ⊥
BeginsWithHash (hash ∷ words) = is_punctuator (codes "#") hash ≡ true

-- a fault says how the line is refused, or that memory ran out, which it may only for a function-like macro
abbrev pub IsFaultOf : List PlainWord → DirectFault → Type 0
IsFaultOf line (Refused refusal) = IsRefused line refusal
IsFaultOf line Memory = DefinesFunctionLike line
