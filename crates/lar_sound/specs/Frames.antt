-- The frame of a typed body that fits where a body is written: each declaration is there with its types, and so are the
-- generics and the
-- locals.
use Rattle.std.specs.Prelude.{◌≡◌, ℕ, ◌<◌, List, length, map, slice_get, Option, Some}
use Rattle.type_table.specs.TypeOf.{TypeOf}
use Rattle.type_table.specs.declared.sort.Sort.{Sort}
use Rattle.lar_typed.specs.SameType.{list_of}
use Rattle.lar_typed.specs.Trees.{PlainStruct}
use Rattle.lar_typed.specs.Lawful.{Signature, Frame}
use Rattle.lar_tree.specs.Stmts.{IfThere}
use Rattle.lar_tree.specs.Lawful.{Every}
use Rattle.lar_tree.specs.declared.name.Path.{Path}
use Rattle.lar_rules.specs.Declared.{Declared, Struct, Function, struct_meant}
use Rattle.lar_rules.specs.Generics.{struct_generics}
use Rattle.lar_rules.specs.Written.{Site, struct_sorts}
use Rattle.lar_rules.specs.Signatures.{fields, params, outcome, function_sorts}
use Rattle.lar_rules.specs.Judged.{Local, Env}
use Rattle.lar_rules.specs.Bodies.{Body}
use Rattle.lar_rules.specs.Faults.{none_yet}
use Rattle.lar_rules.specs.Checked.{all_known}
use Rattle.lar_sound.specs.Items.{EachItem}

-- a struct is there, with its generics and its fields' types
pub record IsStructIn (structs : List PlainStruct) (all : List Declared) (x : Struct) : Type 0 where
  pub decl : PlainStruct
  pub types : List TypeOf
  pub there : slice_get structs x.number ≡ Some decl
  pub generics : decl.generics ≡ length (struct_generics x.it.generics)
  pub known : all_known (map (λ m. m.1) (fields all x)) ≡ Some types
  pub typed : decl.fields ≡ list_of types

-- a function is there, with its generics and the types of its parameters and its result
pub record IsFunctionIn (functions : List Signature) (all : List Declared) (x : Function) : Type 0 where
  pub signature : Signature
  pub types : List TypeOf
  pub there : slice_get functions x.number ≡ Some signature
  pub generics : signature.generics ≡ function_sorts x
  pub known : all_known (map (λ m. m.1) (params all x)) ≡ Some types
  pub typed : signature.params ≡ list_of types
  pub outcome : outcome all x ≡ Some signature.outcome

-- a local has the type that the list has at its number
abbrev pub IsLocalIn : List TypeOf → Local → Type 0
IsLocalIn types l = IfThere (λ (t : TypeOf). slice_get types l.number ≡ Some t) l.of

-- each declaration is there
abbrev pub AreItemsIn : List PlainStruct → List Signature → ℕ → List Declared → Type 0
AreItemsIn structs functions consts all =
    EachItem (IsStructIn structs all) (IsFunctionIn functions all) (λ (n : ℕ). n < consts) none_yet all

-- the frame fits where an expression is written
pub record IsFrameOf (fr : Frame) (env : Env) : Type 0 where
  pub items : AreItemsIn fr.structs fr.functions fr.consts env.site.all
  pub generics : map (λ g. g.sort) env.site.generics ≡ fr.generics
  pub locals : Every (IsLocalIn fr.locals) env.locals

-- the sorts of the generics of each struct fit where a type is written, and so do those in scope
pub record AreSortsOf (structs : List (List Sort)) (generics : List Sort) (s : Site) : Type 0 where
  pub structs_there : (here : List (List ℕ)) (p : Path)
      → IfThere (λ (x : Struct). slice_get structs x.number ≡ Some (struct_sorts x)) (struct_meant s.all here p)
  pub same_generics : map (λ g. g.sort) s.generics ≡ generics

-- each local in scope has its type among those of all locals so far
abbrev pub AreNumbered : List (Option TypeOf) → List Local → Type 0
AreNumbered types ls = Every (λ (l : Local). slice_get types l.number ≡ Some l.of) ls

-- the frame of a body, where all its locals have these types
pub record IsBodyFrame (fr : Frame) (b : Body) (types : List (Option TypeOf)) : Type 0 where
  pub items : AreItemsIn fr.structs fr.functions fr.consts b.site.all
  pub generics : map (λ g. g.sort) b.site.generics ≡ fr.generics
  pub outcome : b.outcome ≡ Some fr.outcome
  pub known : all_known types ≡ Some fr.locals
