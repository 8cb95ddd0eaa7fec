-- What holds of each function that nodes of trees call.
use Rattle.std.proofs.Common.{ℕ, List, [], ◌∷◌, ◌++◌, Option, Some, None}
use Rattle.p10_core.specs.declared.statements.LoopKeyword.{LoopKeyword}
use Rattle.p10_core.specs.declared.statements.LoopKeyword.TheVariants.{While, Do, For}
use Rattle.p10_core.specs.declared.uses.FunctionUse.{FunctionUse}
use Rattle.p10_core.specs.Nodes.{PlainNode, in_loop_order}
use Rattle.p10_core.specs.Uses.{function_used}

-- what holds of the function that is used, if one is
abbrev pub OfUse : (ℕ → Type 0) → Option FunctionUse → Type 0
OfUse P None = Unit {0}
OfUse P (Some u) = P u.function

-- what holds of each function that nodes call
abbrev pub EachCalled : (ℕ → Type 0) → List PlainNode → Type 0
EachCalled P [] = Unit {0}
EachCalled P (n ∷ rest) = OfUse P (function_used n) × EachCalled P rest

pub first_called : (P : ℕ → Type 0) (xs ys : List PlainNode) → EachCalled P (xs ++ ys) → EachCalled P xs
first_called P [] ys h = tt
first_called P (x ∷ xs) ys h = (h.0, first_called P xs ys h.1)

pub last_called : (P : ℕ → Type 0) (xs ys : List PlainNode) → EachCalled P (xs ++ ys) → EachCalled P ys
last_called P [] ys h = h
last_called P (x ∷ xs) ys h = last_called P xs ys h.1

-- the parts of a loop
pub record LoopCalled (P : ℕ → Type 0) (first test third body : List PlainNode) : Type 0 where
  pub in_first : EachCalled P first
  pub in_test : EachCalled P test
  pub in_third : EachCalled P third
  pub in_body : EachCalled P body

in_order : (P : ℕ → Type 0) (first test third body : List PlainNode) → EachCalled P (first ++ (test ++ (third ++ body))) → LoopCalled P first test third body
in_order P first test third body h =
    let after = last_called P first (test ++ (third ++ body)) h in
    let rest = last_called P test (third ++ body) after in
    record {
      in_first = first_called P first (test ++ (third ++ body)) h;
      in_test = first_called P test (third ++ body) after;
      in_third = first_called P third body rest;
      in_body = last_called P third body rest;
    }

pub loop_called : (P : ℕ → Type 0) (keyword : LoopKeyword) (first test third body : List PlainNode) → EachCalled P (in_loop_order keyword first test third body) → LoopCalled P first test third body
loop_called P While first test third body h = in_order P first test third body h
loop_called P For first test third body h = in_order P first test third body h
loop_called P Do first test third body h =
    let after = last_called P first (body ++ (test ++ third)) h in
    let tested = last_called P body (test ++ third) after in
    record {
      in_first = first_called P first (body ++ (test ++ third)) h;
      in_test = first_called P test third tested;
      in_third = last_called P test third tested;
      in_body = first_called P body (test ++ third) after;
    }

pub both_called : (P : ℕ → Type 0) (xs ys : List PlainNode) → EachCalled P xs → EachCalled P ys → EachCalled P (xs ++ ys)
both_called P [] ys h k = k
both_called P (x ∷ xs) ys h k = (h.0, both_called P xs ys h.1 k)

pub all_called : (P : ℕ → Type 0) → ((n : ℕ) → P n) → (nodes : List PlainNode) → EachCalled P nodes
all_called P all [] = tt
all_called P all (x ∷ rest) = (elim (function_used x) as (λ o. OfUse P o) [ None ↦ tt | Some u ↦ all u.function ], all_called P all rest)
