-- What the code answers, as plain values.
use Rattle.std.specs.Prelude.{Vec, List, map, Ok, Err}
use Rattle.std.specs.declared.alloc.Global.{Global}
use Rattle.p10_base.specs.declared.word.Word.{Word}
use Rattle.p10_base.specs.Gathered.{Gathered}
use Rattle.p10_base.specs.Words.{plain_word}
use Rattle.p10_expand.specs.declared.expansion.fault.ExpandFault.{ExpandFault}
use Rattle.p10_expand.specs.declared.expansion.fault.ExpandFault.TheVariants.{Over, Memory}
use Rattle.p10_expand.specs.declared.expanded.Expanded.{Expanded}
use Rattle.p10_expand.specs.declared.expanded.Obeyed.{Obeyed}
use Rattle.p10_expand.specs.Obeying.{PlainObeyed}
use Rattle.p10_expand.specs.Expands.{Expansion, ExpandsTo}

-- the lists that vectors hold
abbrev pub lists_of : List (Vec Word Global) → List (List Word)
lists_of all = map (λ words. words.items) all

-- an obeyed line, as a plain value
abbrev pub plain_obeyed : Obeyed → PlainObeyed
plain_obeyed line = record { words = map plain_word line.words; span = line.span; guard = line.guard }

-- what the code gives, as a plain value
abbrev pub expansion_of : Expanded → Expansion
expansion_of expanded = record {
  roots = map (map plain_word) (lists_of expanded.roots);
  obeyed = map plain_obeyed expanded.obeyed;
  refusal = expanded.refusal;
}

-- what a program expands to is the answer
abbrev pub IsExpansion : Gathered → Expanded → Type 0
IsExpansion g expanded = ExpandsTo g (Ok (expansion_of expanded))

-- why a program isn't expanded: it exceeds this limit, or memory is out
abbrev pub IsFault : Gathered → ExpandFault → Type 0
IsFault g (Over limit) = ExpandsTo g (Err limit)
IsFault g Memory = Unit {0}
