-- Parts that the code has read, as the definitions see them.
use Rattle.std.specs.Prelude.{ℕ, List, drop, map}
use Rattle.p10_base.specs.declared.word.Word.{Word}
use Rattle.p10_base.specs.Words.{plain_word}
use Rattle.p10_direct.specs.declared.part.Part.{Part}
use Rattle.p10_direct.specs.declared.part.Start.{Start as Coded}
use Rattle.p10_direct.specs.declared.part.Start.TheVariants as coded
use Rattle.p10_direct.specs.Tokens.{Token, tokens_of}
use Rattle.p10_direct.specs.Values.{Value}
use Rattle.p10_direct.specs.private.Valued.{value_read, constant_read}
use Rattle.p10_direct.specs.private.Climbing.{Found, Start, Group, Sign, Lone, Nothing}

-- the words from a place on
unfoldable pub from : ℕ → List Word → List Token
from place words = tokens_of (map plain_word (drop place words))

-- a part that the code has read of these words: its value, its depth, and the words after it
abbrev pub found_of : List Word → Part → Found Value
found_of words part = record { what = value_read part.value; depth = part.depth; rest = from part.place words }

-- how an operand begins, as the code has it
abbrev pub start_read : Coded → Start
start_read coded.Group = Group
start_read (coded.Sign op) = Sign op
start_read (coded.Lone constant) = Lone (constant_read constant)
start_read coded.Nothing = Nothing
