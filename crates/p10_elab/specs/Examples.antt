-- Small programs, worked out by hand: which row of the subset refuses each, and at which of its words.
use Rattle.std.specs.Prelude.{◌≡◌, ℕ, ◌+◌, List, [], ◌∷◌, ◌++◌, false, Option, None, Some, codes, map, flat_map}
use Rattle.p10_base.specs.Words.{Text}
use Rattle.p10_base.specs.Codes.{subset_number}
use Rattle.p10_base.specs.declared.at.At.{At}
use Rattle.p10_syn.specs.declared.sign.Sign.{Sign}
use Rattle.p10_syn.specs.declared.sign.Sign.TheVariants as sign
use Rattle.p10_syn.specs.Counts.{count_external}
use Rattle.p10_syn.specs.Places.{locate_externals}
use Rattle.p10_syn.specs.Trees.{Bare, Landmarks, Identifier, Expression, expression, Name, Number, Strings, Unary, Binary, Assign, Call, Member, Cast, SizeofType, Comma, Absent, Present, type_name, Specifiers, Specifier, Keyword, Structure, Enumeration, NoMembers, member_declaration, field, NoEnumerators, enumerator, Declarator, Named, Unnamed, Pointer, Array, Function, parameter, Initializer, Value, Braced, InitDeclarator, Statement, Empty, Evaluate, Block, If, Switch, While, Do, For, Case, Label, Goto, Return, Declare, Pragma, External, Outer, Defines, expression_row, specifier_row, member_row, field_row, enumerator_row, parameter_row, initializer_row, statement_row}
use Rattle.p10_core.specs.declared.statements.LoopHead.{LoopHead}
use Rattle.p10_core.specs.Typed.{PlainFunction, PlainObject}
use Rattle.p10_core.specs.WholePrograms.{loops_of, frame_bytes}
use Rattle.p10_elab.specs.Programs.{Elaborated, program, refusal, too_large, elaborated}

-- ## Trees

-- where no word is looked at
abbrev marks : Landmarks Bare
marks = record { whole = tt; first_word = tt; brace = tt; last_word = tt }

-- a name, where it is declared
abbrev pub id : Text → Identifier Bare
id text = record { place = tt; name = text }

-- a name as an expression
abbrev pub name : Text → Expression Bare
name text = expression tt 0 (Name (id text))

-- a number
abbrev pub num : Text → Expression Bare
num text = expression tt 0 (Number text)

-- a word of specifiers
abbrev pub word : Sign → Specifier Bare
word s = Keyword tt s

-- `int`
abbrev pub int : Specifiers Bare
int = specifier_row (word sign.Int ∷ [])

-- a declarator that is a name
abbrev pub called : Text → Declarator Bare
called text = Named (id text)

-- a function without parameters
abbrev pub of_void : Text → Declarator Bare
of_void text = Function tt (called text) tt (parameter_row (parameter tt (specifier_row (word sign.Void ∷ [])) (Unnamed tt) ∷ [])) false

-- a declarator with its initialiser
abbrev pub one : Declarator Bare → Option (Initializer Bare) → InitDeclarator Bare
one d i = record { place = tt; declarator = d; initial = i }

-- a declaration in a block
abbrev pub local_of : Specifiers Bare → List (InitDeclarator Bare) → Statement Bare
local_of s ds = Declare (record { place = tt; specifiers = s; declarators = ds })

-- a declaration outside of functions
abbrev pub outer_of : Specifiers Bare → List (InitDeclarator Bare) → External Bare
outer_of s ds = Outer tt (record { place = tt; specifiers = s; declarators = ds })

-- a function with its body
abbrev pub function_of : Specifiers Bare → Declarator Bare → List (Statement Bare) → External Bare
function_of s d body = Defines (record { place = tt; landmarks = marks; specifiers = s; declarator = d; body_place = tt; body = statement_row body })

-- `return 0;`
abbrev pub ends : Statement Bare
ends = Return tt tt (Present (num (codes "0")))

-- `int main(void)` with its body
abbrev pub main_of : List (Statement Bare) → External Bare
main_of body = function_of int (of_void (codes "main")) body

-- ## Answers

-- how many words the trees of a root have
abbrev pub words_of : List (External Bare) → ℕ
words_of [] = 0
words_of (e ∷ rest) = count_external e + words_of rest

-- the trees of roots in their places, the first of which begins at a word
abbrev pub located : ℕ → List (List (External Bare)) → List (External At)
located n [] = []
located n (root ∷ rest) = locate_externals (record { words = []; before = n }) 0 root ++ located (n + words_of root) rest

-- what is said of roots: that they are a program; that one is too large; or a row, by its number and that of the first word of its tree
pub data Said : Type 0 where
  fine : Said
  large : Said
  row : ℕ → ℕ → Said

-- an answer in these words
abbrev pub said_by : Elaborated → Said
said_by (program p) = fine
said_by (refusal r) = row (subset_number r.code) r.at.first
said_by too_large = large

-- what is said of roots
abbrev pub said_of : List (List (External Bare)) → Said
said_of roots = said_by (elaborated (located 0 roots))

-- the numbers of the loops of roots, the bytes of the frames of their functions, and the bytes of their objects
abbrev pub loops_by : Elaborated → List ℕ
loops_by (program p) = flat_map (λ (f : PlainFunction). map (λ (l : LoopHead). l.number) (loops_of f.body)) p.functions
loops_by other = []

-- the bytes of the frames of functions
abbrev pub frames_by : Elaborated → List ℕ
frames_by (program p) = map frame_bytes p.functions
frames_by other = []

-- the bytes of objects of static lifetime
abbrev pub objects_by : Elaborated → List ℕ
objects_by (program p) = map (λ (o : PlainObject). o.bytes) p.objects
objects_by other = []

-- the numbers of loops of roots
abbrev pub loops_of_roots : List (List (External Bare)) → List ℕ
loops_of_roots roots = loops_by (elaborated (located 0 roots))

-- the bytes of frames of roots
abbrev pub frames_of_roots : List (List (External Bare)) → List ℕ
frames_of_roots roots = frames_by (elaborated (located 0 roots))

-- the bytes of objects of roots
abbrev pub objects_of_roots : List (List (External Bare)) → List ℕ
objects_of_roots roots = objects_by (elaborated (located 0 roots))

-- ## S1: unknown name

-- int main(void) { int x = nope; return 0; }
abbrev pub s1_1 : List (List (External Bare))
s1_1 = ((main_of ((local_of int ((one (called (codes "x")) (Some (Value (name (codes "nope"))))) ∷ [])) ∷ ends ∷ [])) ∷ []) ∷ []

-- ## S2: operand types not allowed

-- int main(void) { int *p = 0; if ((p * 2)) ; return 0; }
abbrev pub s2_1 : List (List (External Bare))
s2_1 = ((main_of ((local_of int ((one (Pointer tt [] (called (codes "p"))) (Some (Value (num (codes "0"))))) ∷ [])) ∷ (If tt (expression tt 1 (Binary sign.Star (name (codes "p")) (num (codes "2")))) (Empty tt)) ∷ ends ∷ [])) ∷ []) ∷ []

-- ## S3: target can't be changed

-- int main(void) { const int c = 1; c = 2; return 0; }
abbrev pub s3_1 : List (List (External Bare))
s3_1 = ((main_of ((local_of (specifier_row ((word sign.Const) ∷ (word sign.Int) ∷ [])) ((one (called (codes "c")) (Some (Value (num (codes "1"))))) ∷ [])) ∷ (Evaluate tt (expression tt 0 (Assign sign.Assign (name (codes "c")) (num (codes "2"))))) ∷ ends ∷ [])) ∷ []) ∷ []

-- ## S4: types don't fit

-- int main(void) { int *p = 1; return 0; }
abbrev pub s4_1 : List (List (External Bare))
s4_1 = ((main_of ((local_of int ((one (Pointer tt [] (called (codes "p"))) (Some (Value (num (codes "1"))))) ∷ [])) ∷ ends ∷ [])) ∷ []) ∷ []

-- void f(void) { return 1; } int main(void) { return 0; }
abbrev pub s4_2 : List (List (External Bare))
s4_2 = ((function_of (specifier_row ((word sign.Void) ∷ [])) (of_void (codes "f")) ((Return tt tt (Present (num (codes "1")))) ∷ [])) ∷ (main_of (ends ∷ [])) ∷ []) ∷ []

-- int main(void) { char s[2] = "abc"; return 0; }
abbrev pub s4_3 : List (List (External Bare))
s4_3 = ((main_of ((local_of (specifier_row ((word sign.Char) ∷ [])) ((one (Array tt (called (codes "s")) tt (Present (num (codes "2")))) (Some (Value (expression tt 0 (Strings ((codes "\"abc\"") ∷ [])))))) ∷ [])) ∷ ends ∷ [])) ∷ []) ∷ []

-- ## S5: wrong number of arguments

-- int f(int a) { return a; } int main(void) { return f(); }
abbrev pub s5_1 : List (List (External Bare))
s5_1 = ((function_of int (Function tt (called (codes "f")) tt (parameter_row ((parameter tt int (called (codes "a"))) ∷ [])) false) ((Return tt tt (Present (name (codes "a")))) ∷ [])) ∷ (main_of ((Return tt tt (Present (expression tt 0 (Call (name (codes "f")) (expression_row []))))) ∷ [])) ∷ []) ∷ []

-- ## S6: call of something other than a function's name

-- int main(void) { int x = 0; x(1); return 0; }
abbrev pub s6_1 : List (List (External Bare))
s6_1 = ((main_of ((local_of int ((one (called (codes "x")) (Some (Value (num (codes "0"))))) ∷ [])) ∷ (Evaluate tt (expression tt 0 (Call (name (codes "x")) (expression_row ((num (codes "1")) ∷ []))))) ∷ ends ∷ [])) ∷ []) ∷ []

-- ## S7: assignment or step as an operand

-- int main(void) { int x = (x = 1); return 0; }
abbrev pub s7_1 : List (List (External Bare))
s7_1 = ((main_of ((local_of int ((one (called (codes "x")) (Some (Value (expression tt 1 (Assign sign.Assign (name (codes "x")) (num (codes "1"))))))) ∷ [])) ∷ ends ∷ [])) ∷ []) ∷ []

-- ## S8: comma operator

-- int main(void) { int x = 0; int y = ((1, 2)); return 0; }
abbrev pub s8_1 : List (List (External Bare))
s8_1 = ((main_of ((local_of int ((one (called (codes "x")) (Some (Value (num (codes "0"))))) ∷ [])) ∷ (local_of int ((one (called (codes "y")) (Some (Value (expression tt 2 (Comma (expression_row ((num (codes "1")) ∷ (num (codes "2")) ∷ []))))))) ∷ [])) ∷ ends ∷ [])) ∷ []) ∷ []

-- ## S9: unspecified order of a call

-- int g; int f(void) { return 1; } int main(void) { return f() + g; }
abbrev pub s9_1 : List (List (External Bare))
s9_1 = ((outer_of int ((one (called (codes "g")) None) ∷ [])) ∷ (function_of int (of_void (codes "f")) ((Return tt tt (Present (num (codes "1")))) ∷ [])) ∷ (main_of ((Return tt tt (Present (expression tt 0 (Binary sign.Plus (expression tt 0 (Call (name (codes "f")) (expression_row []))) (name (codes "g")))))) ∷ [])) ∷ []) ∷ []

-- int f(void) { return 1; } int main(void) { int x = 1; int *p = &x; *p = 2; return f() + x; }
abbrev pub s9_2 : List (List (External Bare))
s9_2 = ((function_of int (of_void (codes "f")) ((Return tt tt (Present (num (codes "1")))) ∷ [])) ∷ (main_of ((local_of int ((one (called (codes "x")) (Some (Value (num (codes "1"))))) ∷ [])) ∷ (local_of int ((one (Pointer tt [] (called (codes "p"))) (Some (Value (expression tt 0 (Unary sign.And (name (codes "x"))))))) ∷ [])) ∷ (Evaluate tt (expression tt 0 (Assign sign.Assign (expression tt 0 (Unary sign.Star (name (codes "p")))) (num (codes "2"))))) ∷ (Return tt tt (Present (expression tt 0 (Binary sign.Plus (expression tt 0 (Call (name (codes "f")) (expression_row []))) (name (codes "x")))))) ∷ [])) ∷ []) ∷ []

-- ## S10: cast not allowed

-- int main(void) { int x = 1; int *p = (int *)x; return 0; }
abbrev pub s10_1 : List (List (External Bare))
s10_1 = ((main_of ((local_of int ((one (called (codes "x")) (Some (Value (num (codes "1"))))) ∷ [])) ∷ (local_of int ((one (Pointer tt [] (called (codes "p"))) (Some (Value (expression tt 0 (Cast (type_name tt int (Pointer tt [] (Unnamed tt))) (name (codes "x"))))))) ∷ [])) ∷ ends ∷ [])) ∷ []) ∷ []

-- ## S11: allocation of another form

-- int main(void) { int *p = (int *)malloc(4); return 0; }
abbrev pub s11_1 : List (List (External Bare))
s11_1 = ((main_of ((local_of int ((one (Pointer tt [] (called (codes "p"))) (Some (Value (expression tt 0 (Cast (type_name tt int (Pointer tt [] (Unnamed tt))) (expression tt 0 (Call (name (codes "malloc")) (expression_row ((num (codes "4")) ∷ []))))))))) ∷ [])) ∷ ends ∷ [])) ∷ []) ∷ []

-- ## S12: unknown member

-- struct s { int a; } v; int main(void) { return v.b; }
abbrev pub s12_1 : List (List (External Bare))
s12_1 = ((outer_of (specifier_row ((Structure tt sign.Struct (Some (id (codes "s"))) (member_row ((member_declaration tt int (field_row ((field tt (called (codes "a")) Absent) ∷ []))) ∷ []))) ∷ [])) ((one (called (codes "v")) None) ∷ [])) ∷ (main_of ((Return tt tt (Present (expression tt 0 (Member (name (codes "v")) (id (codes "b")))))) ∷ [])) ∷ []) ∷ []

-- ## S13: constant expression required

-- int main(void) { int n = 1; switch (1) { case n: ; } return 0; }
abbrev pub s13_1 : List (List (External Bare))
s13_1 = ((main_of ((local_of int ((one (called (codes "n")) (Some (Value (num (codes "1"))))) ∷ [])) ∷ (Switch tt tt (num (codes "1")) (Block tt (statement_row ((Case tt (name (codes "n")) (Empty tt)) ∷ [])))) ∷ ends ∷ [])) ∷ []) ∷ []

-- ## S14: value of a void expression

-- void v(void) { } int main(void) { int x = v(); return x; }
abbrev pub s14_1 : List (List (External Bare))
s14_1 = ((function_of (specifier_row ((word sign.Void) ∷ [])) (of_void (codes "v")) []) ∷ (main_of ((local_of int ((one (called (codes "x")) (Some (Value (expression tt 0 (Call (name (codes "v")) (expression_row [])))))) ∷ [])) ∷ (Return tt tt (Present (name (codes "x")))) ∷ [])) ∷ []) ∷ []

-- ## S15: struct as argument or result

-- struct s { int a; }; int f(struct s p) { return 0; } int main(void) { return 0; }
abbrev pub s15_1 : List (List (External Bare))
s15_1 = ((outer_of (specifier_row ((Structure tt sign.Struct (Some (id (codes "s"))) (member_row ((member_declaration tt int (field_row ((field tt (called (codes "a")) Absent) ∷ []))) ∷ []))) ∷ [])) []) ∷ (function_of int (Function tt (called (codes "f")) tt (parameter_row ((parameter tt (specifier_row ((Structure tt sign.Struct (Some (id (codes "s"))) NoMembers) ∷ [])) (called (codes "p"))) ∷ [])) false) (ends ∷ [])) ∷ (main_of (ends ∷ [])) ∷ []) ∷ []

-- ## S16: size of a type without one

-- int main(void) { int x = sizeof(void); return 0; }
abbrev pub s16_1 : List (List (External Bare))
s16_1 = ((main_of ((local_of int ((one (called (codes "x")) (Some (Value (expression tt 0 (SizeofType (type_name tt (specifier_row ((word sign.Void) ∷ [])) (Unnamed tt))))))) ∷ [])) ∷ ends ∷ [])) ∷ []) ∷ []

-- ## S17: address of something without one

-- int main(void) { int *p = &1; return 0; }
abbrev pub s17_1 : List (List (External Bare))
s17_1 = ((main_of ((local_of int ((one (Pointer tt [] (called (codes "p"))) (Some (Value (expression tt 0 (Unary sign.And (num (codes "1"))))))) ∷ [])) ∷ ends ∷ [])) ∷ []) ∷ []

-- ## S18: constant expression that stops

-- int main(void) { int x = 0; switch (x) { case 1 / 0: ; } return 0; }
abbrev pub s18_1 : List (List (External Bare))
s18_1 = ((main_of ((local_of int ((one (called (codes "x")) (Some (Value (num (codes "0"))))) ∷ [])) ∷ (Switch tt tt (name (codes "x")) (Block tt (statement_row ((Case tt (expression tt 0 (Binary sign.Slash (num (codes "1")) (num (codes "0")))) (Empty tt)) ∷ [])))) ∷ ends ∷ [])) ∷ []) ∷ []

-- ## S19: floating or complex type

-- float x; int main(void) { return 0; }
abbrev pub s19_1 : List (List (External Bare))
s19_1 = ((outer_of (specifier_row ((word sign.Float) ∷ [])) ((one (called (codes "x")) None) ∷ [])) ∷ (main_of (ends ∷ [])) ∷ []) ∷ []

-- ## S20: union or bit-field

-- union u { int a; }; int main(void) { return 0; }
abbrev pub s20_1 : List (List (External Bare))
s20_1 = ((outer_of (specifier_row ((Structure tt sign.Union (Some (id (codes "u"))) (member_row ((member_declaration tt int (field_row ((field tt (called (codes "a")) Absent) ∷ []))) ∷ []))) ∷ [])) []) ∷ (main_of (ends ∷ [])) ∷ []) ∷ []

-- ## S21: array length not a positive constant

-- int a[0]; int main(void) { return 0; }
abbrev pub s21_1 : List (List (External Bare))
s21_1 = ((outer_of int ((one (Array tt (called (codes "a")) tt (Present (num (codes "0")))) None) ∷ [])) ∷ (main_of (ends ∷ [])) ∷ []) ∷ []

-- ## S22: specifier not in the subset

-- int char x; int main(void) { return 0; }
abbrev pub s22_1 : List (List (External Bare))
s22_1 = ((outer_of (specifier_row ((word sign.Int) ∷ (word sign.Char) ∷ [])) ((one (called (codes "x")) None) ∷ [])) ∷ (main_of (ends ∷ [])) ∷ []) ∷ []

-- auto int x; int main(void) { return 0; }
abbrev pub s22_2 : List (List (External Bare))
s22_2 = ((outer_of (specifier_row ((word sign.Auto) ∷ (word sign.Int) ∷ [])) ((one (called (codes "x")) None) ∷ [])) ∷ (main_of (ends ∷ [])) ∷ []) ∷ []

-- ## S23: function without a full prototype

-- int f(); int main(void) { return 0; }
abbrev pub s23_1 : List (List (External Bare))
s23_1 = ((outer_of int ((one (Function tt (called (codes "f")) tt (parameter_row []) false) None) ∷ [])) ∷ (main_of (ends ∷ [])) ∷ []) ∷ []

-- ## S24: pointer type not in the subset

-- void *p; int main(void) { return 0; }
abbrev pub s24_1 : List (List (External Bare))
s24_1 = ((outer_of (specifier_row ((word sign.Void) ∷ [])) ((one (Pointer tt [] (called (codes "p"))) None) ∷ [])) ∷ (main_of (ends ∷ [])) ∷ []) ∷ []

-- ## S25: incomplete type

-- struct s; struct s x; int main(void) { return 0; }
abbrev pub s25_1 : List (List (External Bare))
s25_1 = ((outer_of (specifier_row ((Structure tt sign.Struct (Some (id (codes "s"))) NoMembers) ∷ [])) []) ∷ (outer_of (specifier_row ((Structure tt sign.Struct (Some (id (codes "s"))) NoMembers) ∷ [])) ((one (called (codes "x")) None) ∷ [])) ∷ (main_of (ends ∷ [])) ∷ []) ∷ []

-- static struct s x; struct s { int a; }; int main(void) { return 0; }
abbrev pub s25_2 : List (List (External Bare))
s25_2 = ((outer_of (specifier_row ((word sign.Static) ∷ (Structure tt sign.Struct (Some (id (codes "s"))) NoMembers) ∷ [])) ((one (called (codes "x")) None) ∷ [])) ∷ (outer_of (specifier_row ((Structure tt sign.Struct (Some (id (codes "s"))) (member_row ((member_declaration tt int (field_row ((field tt (called (codes "a")) Absent) ∷ []))) ∷ []))) ∷ [])) []) ∷ (main_of (ends ∷ [])) ∷ []) ∷ []

-- ## S26: defined twice or declared differently

-- int x; char x; int main(void) { return 0; }
abbrev pub s26_1 : List (List (External Bare))
s26_1 = ((outer_of int ((one (called (codes "x")) None) ∷ [])) ∷ (outer_of (specifier_row ((word sign.Char) ∷ [])) ((one (called (codes "x")) None) ∷ [])) ∷ (main_of (ends ∷ [])) ∷ []) ∷ []

-- int x = 1; int x = 2; int main(void) { return 0; }
abbrev pub s26_2 : List (List (External Bare))
s26_2 = ((outer_of int ((one (called (codes "x")) (Some (Value (num (codes "1"))))) ∷ [])) ∷ (outer_of int ((one (called (codes "x")) (Some (Value (num (codes "2"))))) ∷ [])) ∷ (main_of (ends ∷ [])) ∷ []) ∷ []

-- ## S27: not defined in the program

-- int f(int a); int main(void) { return f(1); }
abbrev pub s27_1 : List (List (External Bare))
s27_1 = ((outer_of int ((one (Function tt (called (codes "f")) tt (parameter_row ((parameter tt int (called (codes "a"))) ∷ [])) false) None) ∷ [])) ∷ (main_of ((Return tt tt (Present (expression tt 0 (Call (name (codes "f")) (expression_row ((num (codes "1")) ∷ [])))))) ∷ [])) ∷ []) ∷ []

-- ## S28: main missing, of another form, or used

-- int f(void) { return 0; }
abbrev pub s28_1 : List (List (External Bare))
s28_1 = ((function_of int (of_void (codes "f")) (ends ∷ [])) ∷ []) ∷ []

-- ## S29: label or jump not allowed

-- int main(void) { goto l; return 0; }
abbrev pub s29_1 : List (List (External Bare))
s29_1 = ((main_of ((Goto tt (id (codes "l"))) ∷ ends ∷ [])) ∷ []) ∷ []

-- int main(void) { l: ; return 0; }
abbrev pub s29_2 : List (List (External Bare))
s29_2 = ((main_of ((Label tt (id (codes "l")) (Empty tt)) ∷ ends ∷ [])) ∷ []) ∷ []

-- ## S30: misplaced p10 pragma

-- int main(void) { #pragma p10 init_done  return 0; }
abbrev pub s30_1 : List (List (External Bare))
s30_1 = ((main_of ((Pragma tt (codes "init_done")) ∷ ends ∷ [])) ∷ []) ∷ []

-- int f(void) { ; #pragma p10 init_done  return 0; } int main(void) { return 0; }
abbrev pub s30_2 : List (List (External Bare))
s30_2 = ((function_of int (of_void (codes "f")) ((Empty tt) ∷ (Pragma tt (codes "init_done")) ∷ ends ∷ [])) ∷ (main_of (ends ∷ [])) ∷ []) ∷ []

-- ## Programs

-- int main(void) { return 0; }
abbrev pub fine_1 : List (List (External Bare))
fine_1 = ((main_of (ends ∷ [])) ∷ []) ∷ []

-- int main(void) { enum E { A }; enum E e = A; return 0; }
abbrev pub fine_2 : List (List (External Bare))
fine_2 = ((main_of ((local_of (specifier_row ((Enumeration tt (Some (id (codes "E"))) (enumerator_row ((enumerator tt (id (codes "A")) Absent) ∷ [])) false) ∷ [])) []) ∷ (local_of (specifier_row ((Enumeration tt (Some (id (codes "E"))) NoEnumerators false) ∷ [])) ((one (called (codes "e")) (Some (Value (name (codes "A"))))) ∷ [])) ∷ ends ∷ [])) ∷ []) ∷ []

-- int main(void) { int *p = 0; const int *q = p; return 0; }
abbrev pub fine_3 : List (List (External Bare))
fine_3 = ((main_of ((local_of int ((one (Pointer tt [] (called (codes "p"))) (Some (Value (num (codes "0"))))) ∷ [])) ∷ (local_of (specifier_row ((word sign.Const) ∷ (word sign.Int) ∷ [])) ((one (Pointer tt [] (called (codes "q"))) (Some (Value (name (codes "p"))))) ∷ [])) ∷ ends ∷ [])) ∷ []) ∷ []

-- int main(void) { char s[3] = "abc"; return 0; }
abbrev pub fine_4 : List (List (External Bare))
fine_4 = ((main_of ((local_of (specifier_row ((word sign.Char) ∷ [])) ((one (Array tt (called (codes "s")) tt (Present (num (codes "3")))) (Some (Value (expression tt 0 (Strings ((codes "\"abc\"") ∷ [])))))) ∷ [])) ∷ ends ∷ [])) ∷ []) ∷ []

-- int main(void) { int a[2][2] = {{1}, {0}}; return 0; }
abbrev pub fine_5 : List (List (External Bare))
fine_5 = ((main_of ((local_of int ((one (Array tt (Array tt (called (codes "a")) tt (Present (num (codes "2")))) tt (Present (num (codes "2")))) (Some (Braced tt (initializer_row ((Braced tt (initializer_row ((Value (num (codes "1"))) ∷ [])) false) ∷ (Braced tt (initializer_row ((Value (num (codes "0"))) ∷ [])) false) ∷ [])) false))) ∷ [])) ∷ ends ∷ [])) ∷ []) ∷ []

-- int main(void) { int a[2][2] = {0}; return 0; }
abbrev pub fine_6 : List (List (External Bare))
fine_6 = ((main_of ((local_of int ((one (Array tt (Array tt (called (codes "a")) tt (Present (num (codes "2")))) tt (Present (num (codes "2")))) (Some (Braced tt (initializer_row ((Value (num (codes "0"))) ∷ [])) false))) ∷ [])) ∷ ends ∷ [])) ∷ []) ∷ []

-- ## Typed programs

-- int main(void) { for (;;) { while (1) ; } do ; while (0); return 0; }
abbrev pub loops : List (List (External Bare))
loops = ((main_of ((For tt tt (Empty tt) Absent Absent (Block tt (statement_row ((While tt tt (num (codes "1")) (Empty tt)) ∷ [])))) ∷ (Do tt tt (Empty tt) (num (codes "0"))) ∷ ends ∷ [])) ∷ []) ∷ []

-- int main(void) { struct s { char a; int b; } v; int c; return 0; }
abbrev pub padding : List (List (External Bare))
padding = ((main_of ((local_of (specifier_row ((Structure tt sign.Struct (Some (id (codes "s"))) (member_row ((member_declaration tt (specifier_row ((word sign.Char) ∷ [])) (field_row ((field tt (called (codes "a")) Absent) ∷ []))) ∷ (member_declaration tt int (field_row ((field tt (called (codes "b")) Absent) ∷ []))) ∷ []))) ∷ [])) ((one (called (codes "v")) None) ∷ [])) ∷ (local_of int ((one (called (codes "c")) None) ∷ [])) ∷ ends ∷ [])) ∷ []) ∷ []

-- int x; int x = 1; int x; int main(void) { return x; }
abbrev pub tentative : List (List (External Bare))
tentative = ((outer_of int ((one (called (codes "x")) None) ∷ [])) ∷ (outer_of int ((one (called (codes "x")) (Some (Value (num (codes "1"))))) ∷ [])) ∷ (outer_of int ((one (called (codes "x")) None) ∷ [])) ∷ (main_of ((Return tt tt (Present (name (codes "x")))) ∷ [])) ∷ []) ∷ []

-- int f(int a); int g(void) { return f(1); } int main(void) { return nope; }
abbrev pub order : List (List (External Bare))
order = ((outer_of int ((one (Function tt (called (codes "f")) tt (parameter_row ((parameter tt int (called (codes "a"))) ∷ [])) false) None) ∷ [])) ∷ (function_of int (of_void (codes "g")) ((Return tt tt (Present (expression tt 0 (Call (name (codes "f")) (expression_row ((num (codes "1")) ∷ [])))))) ∷ [])) ∷ (main_of ((Return tt tt (Present (name (codes "nope")))) ∷ [])) ∷ []) ∷ []

-- ## What is said of each

pub record ProgramsAreSettled : Type 0 where
  pub s1_1_is : said_of s1_1 ≡ row 1 9
  pub s2_1_is : said_of s2_1 ≡ row 2 14
  pub s3_1_is : said_of s3_1 ≡ row 3 12
  pub s4_1_is : said_of s4_1 ≡ row 4 10
  pub s4_2_is : said_of s4_2 ≡ row 4 6
  pub s4_3_is : said_of s4_3 ≡ row 4 12
  pub s5_1_is : said_of s5_1 ≡ row 5 18
  pub s6_1_is : said_of s6_1 ≡ row 6 11
  pub s7_1_is : said_of s7_1 ≡ row 7 9
  pub s8_1_is : said_of s8_1 ≡ row 8 14
  pub s9_1_is : said_of s9_1 ≡ row 9 20
  pub s9_2_is : said_of s9_2 ≡ row 9 34
  pub s10_1_is : said_of s10_1 ≡ row 10 15
  pub s11_1_is : said_of s11_1 ≡ row 11 14
  pub s12_1_is : said_of s12_1 ≡ row 12 16
  pub s13_1_is : said_of s13_1 ≡ row 13 17
  pub s14_1_is : said_of s14_1 ≡ row 14 16
  pub s15_1_is : said_of s15_1 ≡ row 15 11
  pub s16_1_is : said_of s16_1 ≡ row 16 9
  pub s17_1_is : said_of s17_1 ≡ row 17 10
  pub s18_1_is : said_of s18_1 ≡ row 18 17
  pub s19_1_is : said_of s19_1 ≡ row 19 0
  pub s20_1_is : said_of s20_1 ≡ row 20 0
  pub s21_1_is : said_of s21_1 ≡ row 21 3
  pub s22_1_is : said_of s22_1 ≡ row 22 0
  pub s22_2_is : said_of s22_2 ≡ row 22 0
  pub s23_1_is : said_of s23_1 ≡ row 23 2
  pub s24_1_is : said_of s24_1 ≡ row 24 1
  pub s25_1_is : said_of s25_1 ≡ row 25 5
  pub s25_2_is : said_of s25_2 ≡ row 25 3
  pub s26_1_is : said_of s26_1 ≡ row 26 4
  pub s26_2_is : said_of s26_2 ≡ row 26 6
  pub s27_1_is : said_of s27_1 ≡ row 27 14
  pub s28_1_is : said_of s28_1 ≡ row 28 0
  pub s29_1_is : said_of s29_1 ≡ row 29 6
  pub s29_2_is : said_of s29_2 ≡ row 29 6
  pub s30_1_is : said_of s30_1 ≡ row 30 6
  pub s30_2_is : said_of s30_2 ≡ row 30 7
  pub fine_1_is : said_of fine_1 ≡ fine
  pub fine_2_is : said_of fine_2 ≡ fine
  pub fine_3_is : said_of fine_3 ≡ fine
  pub fine_4_is : said_of fine_4 ≡ fine
  pub fine_5_is : said_of fine_5 ≡ fine
  pub fine_6_is : said_of fine_6 ≡ fine
  pub loops_is : loops_of_roots loops ≡ 0 ∷ 1 ∷ 2 ∷ []
  pub padding_is : frames_of_roots padding ≡ 12 ∷ []
  pub tentative_is : objects_of_roots tentative ≡ 4 ∷ []
  pub order_is : said_of order ≡ row 1 27
