-- All nodes of a list have a property, and what that says of its parts.
use Rattle.std.proofs.Common.{List, [], ◌∷◌, ◌++◌}
use Rattle.std.specs.Prelude.{All, Contains}
use Rattle.std.proofs.lemmas.List.Elements.{All-head, All-tail, All-contains_itself}
use Rattle.p10_core.specs.Nodes.{PlainNode}

-- each node of a list has a property
abbrev pub AllIn : (PlainNode → Type 0) → List PlainNode → Type 0
AllIn In [] = Unit {0}
AllIn In (x ∷ xs) = In x × AllIn In xs

pub all_front : (In : PlainNode → Type 0) (xs ys : List PlainNode) → AllIn In (xs ++ ys) → AllIn In xs
all_front In [] ys h = tt
all_front In (x ∷ xs) ys h = (h.0, all_front In xs ys h.1)

pub all_back : (In : PlainNode → Type 0) (xs ys : List PlainNode) → AllIn In (xs ++ ys) → AllIn In ys
all_back In [] ys h = h
all_back In (x ∷ xs) ys h = all_back In xs ys h.1

pub all_both : (In : PlainNode → Type 0) (xs ys : List PlainNode) → AllIn In xs → AllIn In ys → AllIn In (xs ++ ys)
all_both In [] ys h k = k
all_both In (x ∷ xs) ys h k = (h.0, all_both In xs ys h.1 k)

from_all : (In : PlainNode → Type 0) (xs : List PlainNode) → All In xs → AllIn In xs
from_all In [] h = tt
from_all In (x ∷ xs) h = (All-head In x xs h, from_all In xs (All-tail In x xs h))

-- each node of a list is one of it
pub all_itself : (xs : List PlainNode) → AllIn (Contains xs) xs
all_itself xs = from_all (Contains xs) xs (All-contains_itself xs)
