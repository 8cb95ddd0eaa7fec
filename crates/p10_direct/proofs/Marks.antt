-- Operators and other punctuators by their spelling.
use Rattle.std.proofs.Common.{◌≡◌, ℕ, ◌≤◌, ◌<◌, suc, List, [], ◌∷◌, drop, Bool, true, false, cond, ◌&&◌, bytes_eq, codes, nat_le, refl, sym, ◌∙◌, ap, subst, arith, Option, Some, None}
use Rattle.std.proofs.lemmas.Slice.Eq.{bytes_eq-Decides}
use Rattle.std.proofs.lemmas.Bool.{and_parts, leb-true, leb-false, le-leb, lt-leb}
use Rattle.std.proofs.lemmas.Option.{none-some, same_Some, cond_some}
use Rattle.p10_base.specs.declared.word.Kind.{Kind}
use Rattle.p10_base.specs.declared.word.Kind.TheVariants as kind
use Rattle.p10_int.specs.declared.operators.BinOp.TheVariants.{Add, Sub, Mul, Div, Rem, Shl, Shr, And, Or, Xor, Lt, Gt, Le, Ge, Eq, Ne}
use Rattle.p10_int.specs.declared.operators.UnOp.{UnOp}
use Rattle.p10_int.specs.declared.operators.UnOp.TheVariants.{Plus, Neg, Not, Com}
use Rattle.p10_direct.specs.declared.operator.Binary.{Binary}
use Rattle.p10_direct.specs.declared.operator.Binary.TheVariants.{Apply, AndAlso, OrElse}
use Rattle.p10_base.specs.Words.{Text, is_punctuator_kind}
use Rattle.p10_direct.specs.Tokens.{Token, sign_token}
use Rattle.p10_direct.specs.private.Signs.{is_mark, sign_of, binary_of, logical_of, comparison_of, arithmetical_of, or_other}
use Rattle.p10_direct.specs.Operators.{sign_text, binary_text, level_of_binary}
use Rattle.p10_direct.specs.Constants.{Constant, constant_of, constant_of_kind}
use Rattle.p10_direct.specs.private.Climbing.{Group, Sign, Lone, lone_or_nothing, sign_or_lone, start_of, heads, if_level, operator_at}

-- ## What is spelled is read

pub sign_again : (op : UnOp) → start_of (sign_token (sign_text op)) ≡ Sign op
unfolding sign_of
sign_again Plus = refl
sign_again Neg = refl
sign_again Not = refl
sign_again Com = refl

pub binary_again : (op : Binary) → binary_of (sign_token (binary_text op)) ≡ Some op
unfolding binary_of logical_of comparison_of arithmetical_of
binary_again AndAlso = refl
binary_again OrElse = refl
binary_again (Apply Add) = refl
binary_again (Apply Sub) = refl
binary_again (Apply Mul) = refl
binary_again (Apply Div) = refl
binary_again (Apply Rem) = refl
binary_again (Apply Shl) = refl
binary_again (Apply Shr) = refl
binary_again (Apply And) = refl
binary_again (Apply Or) = refl
binary_again (Apply Xor) = refl
binary_again (Apply Lt) = refl
binary_again (Apply Gt) = refl
binary_again (Apply Le) = refl
binary_again (Apply Ge) = refl
binary_again (Apply Eq) = refl
binary_again (Apply Ne) = refl

pub close_no_operator : (level : ℕ) (rest : List Token) → operator_at level (sign_token (codes ")") ∷ rest) ≡ None
unfolding binary_of logical_of comparison_of arithmetical_of
close_no_operator level rest = refl

pub question_no_operator : (level : ℕ) (rest : List Token) → operator_at level (sign_token (codes "?") ∷ rest) ≡ None
unfolding binary_of logical_of comparison_of arithmetical_of
question_no_operator level rest = refl

pub colon_no_operator : (level : ℕ) (rest : List Token) → operator_at level (sign_token (codes ":") ∷ rest) ≡ None
unfolding binary_of logical_of comparison_of arithmetical_of
colon_no_operator level rest = refl

-- a constant is no punctuator
constant_kind : (k : Kind) (text : Text) (constant : Constant) → constant_of_kind k text ≡ Some constant → is_punctuator_kind k ≡ false
constant_kind kind.Name text constant e = refl
constant_kind kind.Number text constant e = refl
constant_kind kind.Char text constant e = refl
constant_kind kind.Str text constant e = refl
constant_kind kind.Punct text constant e = absurd (none-some constant e)
constant_kind kind.Mark text constant e = refl

no_sign : (token : Token) → is_punctuator_kind token.kind ≡ false → sign_of token ≡ None
unfolding sign_of
no_sign token e =
    ap (λ b. cond (b && bytes_eq token.text (codes "+")) (Some Plus) (cond (b && bytes_eq token.text (codes "-")) (Some Neg) (cond (b && bytes_eq token.text (codes "~")) (Some Com) (cond (b && bytes_eq token.text (codes "!")) (Some Not) None)))) e

pub lone_again : (token : Token) (constant : Constant) → constant_of token ≡ Some constant → start_of token ≡ Lone constant
unfolding constant_of
lone_again token constant e =
    let plain = constant_kind token.kind token.text constant e in
    ap (λ b. cond (b && bytes_eq token.text (codes "(")) Group (sign_or_lone (sign_of token) (constant_of token))) plain
    ∙ ap (λ o. sign_or_lone o (constant_of token)) (no_sign token plain) ∙ ap lone_or_nothing e

-- ## What is read is spelled

is_punct : (k : Kind) → is_punctuator_kind k ≡ true → k ≡ kind.Punct
is_punct kind.Name e = absurd cc
is_punct kind.Number e = absurd cc
is_punct kind.Char e = absurd cc
is_punct kind.Str e = absurd cc
is_punct kind.Punct e = refl
is_punct kind.Mark e = absurd cc

abbrev token : Kind → Text → Token
token k text = record { kind = k; text = text }

pub mark_is : (text : Text) (t : Token) → is_mark text t ≡ true → t ≡ sign_token text
mark_is text t e =
    let parts = and_parts (is_punctuator_kind t.kind) (bytes_eq t.text text) e in
    let kind_is : t.kind ≡ kind.Punct = is_punct t.kind parts.0 in
    let text_is : t.text ≡ text = (bytes_eq-Decides t.text text).0 parts.1 in
    ap (λ k. token k t.text) kind_is ∙ ap (λ x. token kind.Punct x) text_is

pub heads_is : (text : Text) (tokens : List Token) → heads text tokens ≡ true → tokens ≡ sign_token text ∷ drop 1 tokens
heads_is text [] e = absurd cc
heads_is text (t ∷ tokens) e = ap (λ x. x ∷ tokens) (mark_is text t e)

-- one of several answers
pick : {A : Type 0} (P : A → Type 0) (b : Bool) (x : A) (others : Option A) (y : A) → (b ≡ true → P x) → (others ≡ Some y → P y) → cond b (Some x) others ≡ Some y → P y
pick P true x others y here there e = subst P (same_Some x y e) (here refl)
pick P false x others y here there e = there e

abbrev SpellsSign : Token → UnOp → Type 0
SpellsSign t op = t ≡ sign_token (sign_text op)

pub sign_is : (t : Token) (op : UnOp) → sign_of t ≡ Some op → t ≡ sign_token (sign_text op)
unfolding sign_of
sign_is t op e =
    pick (SpellsSign t) _ Plus _ op (mark_is (codes "+") t)
    (pick (SpellsSign t) _ Neg _ op (mark_is (codes "-") t)
    (pick (SpellsSign t) _ Com _ op (mark_is (codes "~") t)
    (pick (SpellsSign t) _ Not None op (mark_is (codes "!") t) (λ e. absurd (none-some op e))))) e

abbrev SpellsBinary : Token → Binary → Type 0
SpellsBinary t op = t ≡ sign_token (binary_text op)

logical_is : (t : Token) (op : Binary) → logical_of t ≡ Some op → SpellsBinary t op
unfolding logical_of
logical_is t op e =
    pick (SpellsBinary t) _ OrElse _ op (mark_is (codes "||") t)
    (pick (SpellsBinary t) _ AndAlso _ op (mark_is (codes "&&") t)
    (pick (SpellsBinary t) _ (Apply Or) _ op (mark_is (codes "|") t)
    (pick (SpellsBinary t) _ (Apply Xor) _ op (mark_is (codes "^") t)
    (pick (SpellsBinary t) _ (Apply And) None op (mark_is (codes "&") t) (λ e. absurd (none-some op e)))))) e

comparison_is : (t : Token) (op : Binary) → comparison_of t ≡ Some op → SpellsBinary t op
unfolding comparison_of
comparison_is t op e =
    pick (SpellsBinary t) _ (Apply Eq) _ op (mark_is (codes "==") t)
    (pick (SpellsBinary t) _ (Apply Ne) _ op (mark_is (codes "!=") t)
    (pick (SpellsBinary t) _ (Apply Lt) _ op (mark_is (codes "<") t)
    (pick (SpellsBinary t) _ (Apply Gt) _ op (mark_is (codes ">") t)
    (pick (SpellsBinary t) _ (Apply Le) _ op (mark_is (codes "<=") t)
    (pick (SpellsBinary t) _ (Apply Ge) None op (mark_is (codes ">=") t) (λ e. absurd (none-some op e))))))) e

arithmetical_is : (t : Token) (op : Binary) → arithmetical_of t ≡ Some op → SpellsBinary t op
unfolding arithmetical_of
arithmetical_is t op e =
    pick (SpellsBinary t) _ (Apply Shl) _ op (mark_is (codes "<<") t)
    (pick (SpellsBinary t) _ (Apply Shr) _ op (mark_is (codes ">>") t)
    (pick (SpellsBinary t) _ (Apply Add) _ op (mark_is (codes "+") t)
    (pick (SpellsBinary t) _ (Apply Sub) _ op (mark_is (codes "-") t)
    (pick (SpellsBinary t) _ (Apply Mul) _ op (mark_is (codes "*") t)
    (pick (SpellsBinary t) _ (Apply Div) _ op (mark_is (codes "/") t)
    (pick (SpellsBinary t) _ (Apply Rem) None op (mark_is (codes "%") t) (λ e. absurd (none-some op e)))))))) e

either_of : (a b : Option Binary) (op : Binary) (P : Type 0) → (a ≡ Some op → P) → (b ≡ Some op → P) → or_other a b ≡ Some op → P
either_of None b op P first second e = second e
either_of (Some x) b op P first second e = first e

pub binary_is : (t : Token) (op : Binary) → binary_of t ≡ Some op → t ≡ sign_token (binary_text op)
unfolding binary_of
binary_is t op e =
    either_of (logical_of t) (or_other (comparison_of t) (arithmetical_of t)) op (SpellsBinary t op) (logical_is t op)
    (either_of (comparison_of t) (arithmetical_of t) op (SpellsBinary t op) (comparison_is t op) (arithmetical_is t op)) e

-- ## Operators at a level

pub binary_low : (op : Binary) → level_of_binary op ≤ 10
binary_low AndAlso = omega arith
binary_low OrElse = omega arith
binary_low (Apply Add) = omega arith
binary_low (Apply Sub) = omega arith
binary_low (Apply Mul) = omega arith
binary_low (Apply Div) = omega arith
binary_low (Apply Rem) = omega arith
binary_low (Apply Shl) = omega arith
binary_low (Apply Shr) = omega arith
binary_low (Apply And) = omega arith
binary_low (Apply Or) = omega arith
binary_low (Apply Xor) = omega arith
binary_low (Apply Lt) = omega arith
binary_low (Apply Gt) = omega arith
binary_low (Apply Le) = omega arith
binary_low (Apply Ge) = omega arith
binary_low (Apply Eq) = omega arith
binary_low (Apply Ne) = omega arith

level_none : (level : ℕ) (op : Binary) → level_of_binary op < level → if_level level (Some op) ≡ None
level_none level op low = ap (λ b. cond b (Some op) None) (lt-leb _ _ low)

level_some : (level : ℕ) (op : Binary) → level ≤ level_of_binary op → if_level level (Some op) ≡ Some op
level_some level op high = ap (λ b. cond b (Some op) None) (le-leb _ _ high)

pub operator_there : (level : ℕ) (op : Binary) (rest : List Token) → level ≤ level_of_binary op → operator_at level (sign_token (binary_text op) ∷ rest) ≡ Some op
operator_there level op rest high = ap (if_level level) (binary_again op) ∙ level_some level op high

pub operator_low : (level : ℕ) (op : Binary) (rest : List Token) → level_of_binary op < level → operator_at level (sign_token (binary_text op) ∷ rest) ≡ None
operator_low level op rest low = ap (if_level level) (binary_again op) ∙ level_none level op low

some_level : (level : ℕ) (o : Option Binary) (op : Binary) → if_level level o ≡ Some op → (o ≡ Some op) × (level ≤ level_of_binary op)
some_level level None op e = absurd (none-some op e)
some_level level (Some x) op e =
    let parts = cond_some _ _ _ e in
    (ap Some parts.1, subst (λ y. level ≤ level_of_binary y) parts.1 (leb-true _ _ parts.0))

pub operator_is : (level : ℕ) (tokens : List Token) (op : Binary) → operator_at level tokens ≡ Some op → (tokens ≡ sign_token (binary_text op) ∷ drop 1 tokens) × (level ≤ level_of_binary op)
operator_is level [] op e = absurd (none-some op e)
operator_is level (t ∷ tokens) op e =
    let parts = some_level level (binary_of t) op e in
    (ap (λ x. x ∷ tokens) (binary_is t op parts.0), parts.1)

higher_none : (level more : ℕ) (o : Option Binary) → level ≤ more → if_level level o ≡ None → if_level more o ≡ None
higher_none level more None le e = refl
higher_none level more (Some op) le e =
    elim (nat_le more (level_of_binary op)) as (λ b. nat_le more (level_of_binary op) ≡ b → cond b (Some op) None ≡ None)
    [ true ↦ λ high. absurd (none-some op (sym e ∙ level_some level op (omega (arith, leb-true _ _ high, le)))) | false ↦ λ low. refl ] refl

pub operator_higher : (level more : ℕ) (tokens : List Token) → level ≤ more → operator_at level tokens ≡ None → operator_at more tokens ≡ None
operator_higher level more [] le e = refl
operator_higher level more (t ∷ tokens) le e = higher_none level more (binary_of t) le e

pub operator_eleven : (level : ℕ) (tokens : List Token) → 11 ≤ level → operator_at level tokens ≡ None
operator_eleven level [] high = refl
operator_eleven level (t ∷ tokens) high =
    elim (binary_of t) as (λ o. if_level level o ≡ None) [ None ↦ refl | Some op ↦ level_none level op (omega (arith, high, binary_low op)) ]

-- an operator that isn't there at the higher level isn't tighter
pub operator_bound : (level more : ℕ) (tokens : List Token) (op : Binary) → operator_at level tokens ≡ Some op → operator_at (suc more) tokens ≡ None → level_of_binary op ≤ more
operator_bound level more [] op e none = absurd (none-some op e)
operator_bound level more (t ∷ tokens) op e none =
    let parts = some_level level (binary_of t) op e in
    elim (nat_le (suc more) (level_of_binary op)) as (λ b. nat_le (suc more) (level_of_binary op) ≡ b → level_of_binary op ≤ more) [
      | true ↦ λ high. absurd (none-some op (sym none ∙ ap (if_level (suc more)) parts.0 ∙ level_some (suc more) op (leb-true _ _ high)))
      | false ↦ λ low. omega (arith, leb-false _ _ low)
    ] refl
