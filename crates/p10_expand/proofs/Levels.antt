-- At each moment of gathering the requests ahead are those at one depth and then those at the next, and no file is deeper. So files
-- are found by shortest chains.
use Rattle.std.proofs.Common.{◌≡◌, ℕ, ◌+◌, ◌≤◌, Bool, true, false, cond, List, [], ◌∷◌, ◌++◌, length, map, refl, ap, sym, ◌∙◌, subst, arith}
use Rattle.std.specs.Prelude.{All, nat_le}
use Rattle.std.proofs.lemmas.List.{append-nil, append_assoc}
use Rattle.std.proofs.lemmas.List.Elements.{All-nil, All-cons, All-head, All-tail, All-append, All-map, All-weaker}
use Rattle.p10_expand.specs.declared.gathering.Known.{Known}
use Rattle.p10_expand.specs.Gathering.{Request, Root, Line, depth_of, lines_of}
use Rattle.p10_expand.proofs.OncePlaces.{same_head, same_tail}

abbrev pub IsAtDepth : ℕ → Request → Type 0
IsAtDepth depth request = depth_of request ≡ depth

abbrev pub IsNoDeeper : ℕ → Known → Type 0
IsNoDeeper depth known = known.depth ≤ depth

pub record AreLevels (known : List Known) (ahead : List Request) (depth : ℕ) : Type 0 where
  pub front : List Request
  pub back : List Request
  pub parts : ahead ≡ front ++ back
  pub here : All (IsAtDepth depth) front
  pub next : All (IsAtDepth (depth + 1)) back
  pub below : All (IsNoDeeper depth) known

-- the level is that of the next request
level_at : (known : List Known) (depth : ℕ) (request : Request) (rest front back : List Request) → request ∷ rest ≡ front ++ back → All (IsAtDepth depth) front → All (IsAtDepth (depth + 1)) back →
    All (IsNoDeeper depth) known → AreLevels known rest (depth_of request)
level_at known depth request rest [] [] parts here next below = absurd (omega (arith, ap length parts))
level_at known depth request rest [] (other ∷ back) parts here next below =
    let is : depth_of request ≡ depth + 1 = ap depth_of (same_head request other rest back parts) ∙ All-head (IsAtDepth (depth + 1)) other back next in
    record {
      front = back;
      back = [];
      parts = same_tail request other rest back parts ∙ sym (append-nil back);
      here = subst (λ d. All (IsAtDepth d) back) (sym is) (All-tail (IsAtDepth (depth + 1)) other back next);
      next = All-nil (IsAtDepth (depth_of request + 1));
      below = All-weaker (IsNoDeeper depth) (IsNoDeeper (depth_of request)) (λ k few. omega (arith, few, is)) known below;
    }
level_at known depth request rest (other ∷ front) back parts here next below =
    let is : depth_of request ≡ depth = ap depth_of (same_head request other rest (front ++ back) parts) ∙ All-head (IsAtDepth depth) other front here in
    record {
      front = front;
      back = back;
      parts = same_tail request other rest (front ++ back) parts;
      here = subst (λ d. All (IsAtDepth d) front) (sym is) (All-tail (IsAtDepth depth) other front here);
      next = subst (λ d. All (IsAtDepth (d + 1)) back) (sym is) next;
      below = subst (λ d. All (IsNoDeeper d) known) (sym is) below;
    }

pub levels_rest : (known : List Known) (ahead rest : List Request) (request : Request) (depth : ℕ) → ahead ≡ request ∷ rest → AreLevels known ahead depth → AreLevels known rest (depth_of request)
levels_rest known ahead rest request depth asked levels =
    level_at known depth request rest levels.front levels.back (sym asked ∙ levels.parts) levels.here levels.next levels.below

pub levels_begin : (roots : List (List ℕ)) → AreLevels [] (map Root roots) 0
levels_begin roots = record {
  front = map Root roots;
  back = [];
  parts = sym (append-nil (map Root roots));
  here = All-map (IsAtDepth 0) Root roots (λ k d below. refl);
  next = All-nil (IsAtDepth 1);
  below = All-nil (IsNoDeeper 0);
}

lines_next : (number : ℕ) (k : Known) (b : Bool) → All (IsAtDepth (k.depth + 1)) (cond b (map (Line number (k.depth + 1)) k.includes) [])
lines_next number k true = All-map (IsAtDepth (k.depth + 1)) (Line number (k.depth + 1)) k.includes (λ i d below. refl)
lines_next number k false = All-nil (IsAtDepth (k.depth + 1))

-- a file that the next request finds is put after the others, and its include lines after the requests
pub levels_more : (known : List Known) (rest : List Request) (request : Request) (number : ℕ) (k : Known) → k.depth ≡ depth_of request → AreLevels known rest (depth_of request) →
    AreLevels (known ++ k ∷ []) (request ∷ (rest ++ lines_of number k)) (depth_of request)
levels_more known rest request number k deep levels = record {
  front = request ∷ levels.front;
  back = levels.back ++ lines_of number k;
  parts = ap (λ rs. request ∷ rs) (ap (λ rs. rs ++ lines_of number k) levels.parts ∙ append_assoc levels.front levels.back (lines_of number k));
  here = All-cons (IsAtDepth (depth_of request)) request levels.front refl levels.here;
  next = All-append (IsAtDepth (depth_of request + 1)) levels.back (lines_of number k) levels.next (subst (λ d. All (IsAtDepth (d + 1)) (lines_of number k)) deep (lines_next number k (nat_le k.depth 64)));
  below = All-append (IsNoDeeper (depth_of request)) known (k ∷ []) levels.below (All-cons (IsNoDeeper (depth_of request)) k [] (omega (arith, deep)) (All-nil (IsNoDeeper (depth_of request))));
}
