-- Which functions and objects of static lifetime the roots define, in program order: that of the roots, and then of the text. All of it
-- is read off the form of declarations. A number of a function or an object is its place here.
use Rattle.std.specs.Prelude.{ℕ, ◌+◌, nat_eq, Bool, true, false, not, ◌&&◌, ◌||◌, if◌then◌else◌, List, [], ◌∷◌, ◌++◌, length, Option, Some, None, bytes_eq}
use Rattle.std.specs.List.{position_from}
use Rattle.p10_base.specs.Words.{Text}
use Rattle.p10_base.specs.declared.at.At.{At}
use Rattle.p10_syn.specs.Trees.{Identifier, Initializer, InitDeclarator, Statement, Empty, Evaluate, Block, If, IfElse, Switch, While, Do, For, Case, Default, Label, Goto, Break, Continue, Return, Declare, Pragma, Statements, NoStatements, MoreStatements, Definition, External, Outer, Defines}
use Rattle.p10_elabd.specs.Words.{storage_of}
use Rattle.p10_elabd.specs.declared.site.Storage.{Storage}
use Rattle.p10_elabd.specs.declared.site.Storage.TheVariants as storage_is
use Rattle.p10_elabd.specs.Shapes.{name_in, declares_function}
use Rattle.p10_heads.specs.declared.outline.Defining.{Defining}
use Rattle.p10_heads.specs.declared.outline.Defining.TheVariants as defined

-- ## Declarators of objects and functions

-- a declarator outside of functions: its name, whether it declares a function, whether `static` stands before it, and how it defines
pub record Outline : Type 0 where
  pub name : Text
  pub at : At
  pub function : Bool
  pub static : Bool
  pub defining : Defining

-- whether storage is `static`
abbrev pub is_static : Storage → Bool
is_static storage_is.Static = true
is_static s = false

-- how a declarator without an initialiser defines an object
abbrev pub defining_by : Storage → Defining
defining_by storage_is.Extern = defined.Elsewhere
defining_by s = defined.Tentatively

-- how a declarator defines an object
abbrev pub defining_of : Storage → Option (Initializer At) → Defining
defining_of s None = defining_by s
defining_of s (Some i) = defined.Fully

-- the outline of a declarator with a name
abbrev pub outline_of : Storage → InitDeclarator At → Option (Identifier At) → List Outline
outline_of s d None = []
outline_of s d (Some name) = record {
  name = name.name;
  at = name.place;
  function = declares_function d.declarator;
  static = is_static s;
  defining = if declares_function d.declarator then defined.Elsewhere else defining_of s d.initial;
} ∷ []

-- the outlines of declarators
abbrev pub outlines_of : Storage → List (InitDeclarator At) → List Outline
outlines_of s [] = []
outlines_of s (d ∷ rest) = outline_of s d (name_in d.declarator) ++ outlines_of s rest

-- the outlines of a declaration: those of a typedef declare neither
abbrev pub outlines_by : Storage → List (InitDeclarator At) → List Outline
outlines_by storage_is.Typedef ds = []
outlines_by s ds = outlines_of s ds

-- the outline of a function with its body
abbrev pub definition_outline : Definition At → Option (Identifier At) → List Outline
definition_outline d None = []
definition_outline d (Some name) =
    record { name = name.name; at = name.place; function = true; static = is_static (storage_of d.specifiers); defining = defined.Fully } ∷ []

-- the outlines of a declaration or function
abbrev pub outlines_in : External At → List Outline
outlines_in (Outer p d) = outlines_by (storage_of d.specifiers) d.declarators
outlines_in (Defines d) = definition_outline d (name_in d.declarator)

-- the outlines of a root
abbrev pub outlines : List (External At) → List Outline
outlines [] = []
outlines (e ∷ rest) = outlines_in e ++ outlines rest

-- ## Definitions

-- a function or an object that is defined: its root, its name, whether it is internal to its root (C99 6.2.2), and whether it stands in
-- a block
pub record Head : Type 0 where
  pub root : ℕ
  pub name : Text
  pub at : At
  pub internal : Bool
  pub in_block : Bool

-- whether a name is internal to a root: `static` stands at one of its declarations (C99 6.2.2p3)
abbrev pub is_internal : Text → List Outline → Bool
is_internal name [] = false
is_internal name (o ∷ rest) = (bytes_eq o.name name && o.static) || is_internal name rest

-- whether an outline defines so
abbrev pub is_fully : Outline → Bool
is_fully o = fully_by o.defining
  where
    fully_by : Defining → Bool
    fully_by defined.Fully = true
    fully_by d = false

-- whether an outline defines an object tentatively (C99 6.9.2p2)
abbrev pub is_tentative : Outline → Bool
is_tentative o = tentative_by o.defining
  where
    tentative_by : Defining → Bool
    tentative_by defined.Tentatively = true
    tentative_by d = false

-- the first of the outlines with a name that passes a test
abbrev pub first_outline : (Outline → Bool) → Text → List Outline → Option At
first_outline test name [] = None
first_outline test name (o ∷ rest) = if bytes_eq o.name name && test o then Some o.at else first_outline test name rest

-- the one or else the other
abbrev pub at_or : Option At → Option At → Option At
at_or None b = b
at_or (Some a) b = Some a

-- where a name of a root is defined: at the first declaration with a body or an initialiser, else at the first tentative one
abbrev pub site_of : Text → List Outline → Option At
site_of name all = at_or (first_outline is_fully name all) (first_outline is_tentative name all)

-- whether a tree begins at a place that is known
abbrev pub begins_at : At → Option At → Bool
begins_at at None = false
begins_at at (Some found) = nat_eq at.first found.first

-- the heads of outlines of a root that are where their names are defined, of functions or of objects
abbrev pub heads_from : Bool → ℕ → List Outline → List Outline → List Head
heads_from functions root all [] = []
heads_from functions root all (o ∷ rest) =
    (if begins_at o.at (site_of o.name all) && (if functions then o.function else not o.function)
    then record { root = root; name = o.name; at = o.at; internal = is_internal o.name all; in_block = false } ∷ [] else [])
    ++ heads_from functions root all rest

-- the head of an object of static lifetime in a block
abbrev pub block_head : ℕ → InitDeclarator At → Option (Identifier At) → List Head
block_head root d None = []
block_head root d (Some name) =
    if declares_function d.declarator then [] else record { root = root; name = name.name; at = name.place; internal = true; in_block = true } ∷ []

-- the heads of declarators in a block
abbrev pub block_heads : ℕ → List (InitDeclarator At) → List Head
block_heads root [] = []
block_heads root (d ∷ rest) = block_head root d (name_in d.declarator) ++ block_heads root rest

-- the heads of a declaration in a block: `static` ones alone
abbrev pub static_heads : ℕ → Storage → List (InitDeclarator At) → List Head
static_heads root storage_is.Static ds = block_heads root ds
static_heads root s ds = []

abbrev mutual
  -- the heads of objects in the blocks of a statement
  pub heads_in : ℕ → Statement At → List Head
  heads_in root (Empty at) = []
  heads_in root (Evaluate at e) = []
  heads_in root (Block at ss) = heads_in_all root ss
  heads_in root (If at e s) = heads_in root s
  heads_in root (IfElse at e s t) = heads_in root s ++ heads_in root t
  heads_in root (Switch at k e s) = heads_in root s
  heads_in root (While at k e s) = heads_in root s
  heads_in root (Do at k s e) = heads_in root s
  heads_in root (For at k start test step s) = heads_in root s
  heads_in root (Case at e s) = heads_in root s
  heads_in root (Default at s) = heads_in root s
  heads_in root (Label at name s) = heads_in root s
  heads_in root (Goto at name) = []
  heads_in root (Break at) = []
  heads_in root (Continue at) = []
  heads_in root (Return at k e) = []
  heads_in root (Declare d) = static_heads root (storage_of d.specifiers) d.declarators
  heads_in root (Pragma at text) = []

  -- the same for the items of a block
  pub heads_in_all : ℕ → Statements At → List Head
  heads_in_all root NoStatements = []
  heads_in_all root (MoreStatements s rest) = heads_in root s ++ heads_in_all root rest

-- the heads of objects of one declaration or function
abbrev pub object_heads_in : ℕ → List Outline → External At → List Head
object_heads_in root all (Outer p d) = heads_from false root all (outlines_in (Outer p d))
object_heads_in root all (Defines d) = heads_in_all root d.body

-- the heads of objects of a root
abbrev pub object_heads_of : ℕ → List Outline → List (External At) → List Head
object_heads_of root all [] = []
object_heads_of root all (e ∷ rest) = object_heads_in root all e ++ object_heads_of root all rest

-- what the roots define
pub record Heads : Type 0 where
  pub functions : List Head
  pub objects : List Head

-- the heads of roots, the first of which has a number
abbrev pub heads_of_roots : ℕ → List (List (External At)) → Heads
heads_of_roots n [] = record { functions = []; objects = [] }
heads_of_roots n (root ∷ rest) =
    let others : Heads = heads_of_roots (n + 1) rest in
    let all : List Outline = outlines root in
    record { functions = heads_from true n all all ++ others.functions; objects = object_heads_of n all root ++ others.objects }

-- ## Numbers

-- the place of the first head that passes a test, or else of a second one, or the number of all: what is named isn't defined
abbrev pub number_by : Option ℕ → Option ℕ → ℕ → ℕ
number_by (Some n) second count = n
number_by None (Some n) count = n
number_by None None count = count

-- the number of what a name of a root stands for: it is the root's own, or that of another root if it isn't internal here
abbrev pub number_in : List Head → ℕ → Bool → Text → ℕ
number_in heads root internal name =
    number_by (position_from (λ f. nat_eq f.root root && (bytes_eq f.name name && not f.in_block)) 0 heads)
    (if internal then None else position_from (λ f. bytes_eq f.name name && (not f.in_block && not f.internal)) 0 heads)
    (length heads)

-- the number of an object in a block, by where its name stands
abbrev pub number_at : List Head → At → ℕ
number_at heads at = number_by (position_from (λ f. f.in_block && nat_eq f.at.first at.first) 0 heads) None (length heads)
