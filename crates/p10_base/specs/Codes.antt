-- The codes with which a source is refused, and the text of each.
use Rattle.std.specs.Prelude.{◌≡◌, ℕ, ◌-◌, ◌≤◌, List, [], ◌∷◌, codes, slice_index_or}
use Rattle.p10_base.specs.declared.codes.DirectiveCode.{DirectiveCode}
use Rattle.p10_base.specs.declared.codes.DirectiveCode.TheVariants as directive
use Rattle.p10_base.specs.declared.codes.SubsetCode.{SubsetCode}
use Rattle.p10_base.specs.declared.codes.SubsetCode.TheVariants as subset
use Rattle.p10_base.specs.declared.codes.WordCode.{WordCode}
use Rattle.p10_base.specs.declared.codes.WordCode.TheVariants as word
use Rattle.p10_base.specs.declared.report.Family.{Family}
use Rattle.p10_base.specs.declared.report.Family.TheVariants.{X, D, G, S}
use Rattle.p10_base.specs.declared.report.Refusal.{Refusal}
use Rattle.p10_base.specs.declared.span.Span.{Span}
use Rattle.p10_base.specs.Words.{Text}

-- the numbers of X1 to X6
abbrev pub word_number : WordCode → ℕ
word_number word.BadByte = 1
word_number word.CommentWithoutEnd = 2
word_number word.LiteralWithoutEnd = 3
word_number word.BadConstant = 4
word_number word.Trigraph = 5
word_number word.SpliceInWord = 6

-- the numbers of D1 to D8
abbrev pub directive_number : DirectiveCode → ℕ
directive_number directive.BadDirective = 1
directive_number directive.UnbalancedConditional = 2
directive_number directive.BadCondition = 3
directive_number directive.BadDefinition = 4
directive_number directive.IncludeNotFound = 5
directive_number directive.RecursiveMacro = 6
directive_number directive.WrongArguments = 7
directive_number directive.CallWithoutEnd = 8

-- the numbers of S0 to S30
abbrev pub subset_number : SubsetCode → ℕ
subset_number subset.NotBuilt = 0
subset_number subset.UnknownName = 1
subset_number subset.OperandTypes = 2
subset_number subset.FixedTarget = 3
subset_number subset.TypesDiffer = 4
subset_number subset.WrongArguments = 5
subset_number subset.BadCallee = 6
subset_number subset.NestedAssignment = 7
subset_number subset.CommaOperator = 8
subset_number subset.UnspecifiedOrder = 9
subset_number subset.BadCast = 10
subset_number subset.BadAllocation = 11
subset_number subset.UnknownMember = 12
subset_number subset.NotConstant = 13
subset_number subset.VoidValue = 14
subset_number subset.StructurePassed = 15
subset_number subset.NoSize = 16
subset_number subset.NoAddress = 17
subset_number subset.ConstantStops = 18
subset_number subset.FloatingType = 19
subset_number subset.UnionOrBitField = 20
subset_number subset.BadLength = 21
subset_number subset.BadSpecifier = 22
subset_number subset.NoPrototype = 23
subset_number subset.BadPointer = 24
subset_number subset.IncompleteType = 25
subset_number subset.DefinedTwice = 26
subset_number subset.NotDefined = 27
subset_number subset.BadMain = 28
subset_number subset.BadJump = 29
subset_number subset.MisplacedPragma = 30

-- a file is refused while it is cut into words
abbrev pub word_refusal : WordCode → Span → Refusal
word_refusal code at = record { family = X; number = word_number code; span = at }

-- a directive or a use of a macro is refused
abbrev pub directive_refusal : DirectiveCode → Span → Refusal
directive_refusal code at = record { family = D; number = directive_number code; span = at }

-- no tree of the grammar spells the words
abbrev pub syntax_refusal : Span → Refusal
syntax_refusal at = record { family = G; number = 1; span = at }

-- a source isn't in the subset of the language
abbrev pub subset_refusal : SubsetCode → Span → Refusal
subset_refusal code at = record { family = S; number = subset_number code; span = at }

-- the code is one of those that refuse a source: X1 to X6, D1 to D8, G1, S0 to S30
abbrev pub IsCode : Family → ℕ → Type 0
IsCode X number = (1 ≤ number) × (number ≤ 6)
IsCode D number = (1 ≤ number) × (number ≤ 8)
IsCode G number = number ≡ 1
IsCode S number = number ≤ 30

-- the letter with which a code begins
abbrev pub letter_of : Family → Text
letter_of X = codes "X"
letter_of D = codes "D"
letter_of G = codes "G"
letter_of S = codes "S"

-- the texts of X1 to X6, on the words of a file
unfoldable pub word_texts : List Text
word_texts =
    codes "bad byte"
    ∷ codes "comment without end"
    ∷ codes "literal without end"
    ∷ codes "bad constant"
    ∷ codes "trigraph"
    ∷ codes "splice in a word"
    ∷ []

-- the texts of D1 to D8, on directives and macros
unfoldable pub directive_texts : List Text
directive_texts =
    codes "bad directive"
    ∷ codes "unbalanced conditional"
    ∷ codes "bad condition"
    ∷ codes "bad macro definition"
    ∷ codes "include not found"
    ∷ codes "recursive macro"
    ∷ codes "wrong number of macro arguments"
    ∷ codes "macro call without end"
    ∷ []

-- the texts of S0 to S30, on the subset of the language
unfoldable pub subset_texts : List Text
subset_texts =
    codes "not built yet"
    ∷ codes "unknown name"
    ∷ codes "operand types not allowed"
    ∷ codes "target can't be changed"
    ∷ codes "types don't fit"
    ∷ codes "wrong number of arguments"
    ∷ codes "call of something other than a function's name"
    ∷ codes "assignment or step as an operand"
    ∷ codes "comma operator"
    ∷ codes "unspecified order of a call"
    ∷ codes "cast not allowed"
    ∷ codes "allocation of another form"
    ∷ codes "unknown member"
    ∷ codes "constant expression required"
    ∷ codes "value of a void expression"
    ∷ codes "struct as argument or result"
    ∷ codes "size of a type without one"
    ∷ codes "address of something without one"
    ∷ codes "constant expression that stops"
    ∷ codes "floating or complex type"
    ∷ codes "union or bit-field"
    ∷ codes "array length not a positive constant"
    ∷ codes "specifier not in the subset"
    ∷ codes "function without a full prototype"
    ∷ codes "pointer type not in the subset"
    ∷ codes "incomplete type"
    ∷ codes "defined twice or declared differently"
    ∷ codes "not defined in the program"
    ∷ codes "main missing, of another form, or used"
    ∷ codes "label or jump not allowed"
    ∷ codes "misplaced p10 pragma"
    ∷ []

-- the text of a code
unfoldable pub code_text : Family → ℕ → Text
code_text X number = slice_index_or word_texts (number - 1) []
code_text D number = slice_index_or directive_texts (number - 1) []
code_text G number = codes "not C of this grammar"
code_text S number = slice_index_or subset_texts number []
