-- Items as plain data, and the tokens that they spell.
--
--     Program = { Item }
--     Item = "mod" NAME "{" { Item } "}"
--          | "struct" NAME [ "<" NAME { "," NAME } ">" ] "{" [ Fld { "," Fld } ] "}"
--          | "const" NAME ":" "i64" "=" [ "-" ] INT ";"
--          | { "#" "[" ( "inline" | "export" ) "]" } "fn" NAME [ "<" Gen { "," Gen } ">" ]
--            "(" [ Fld { "," Fld } ] ")" [ "->" Type ] Block
--     Gen  = NAME | "const" NAME ":" "i64"
--     Fld  = NAME ":" Type
use Rattle.std.specs.Prelude.{ℕ, List, [], ◌∷◌, ◌++◌, Option, codes}
use Rattle.lar_source.specs.declared.file.Span.{Span}
use Rattle.lar_tree.specs.declared.keyword.Keyword.TheVariants as keyword
use Rattle.lar_tree.specs.declared.sign.Sign.TheVariants as sign
use Rattle.lar_tree.specs.declared.token.Kind.TheVariants as kind
use Rattle.lar_tree.specs.declared.token.Token.{Token}
use Rattle.lar_tree.specs.declared.name.Name.{Name}
use Rattle.lar_tree.specs.declared.commas.Commas.{Commas}
use Rattle.lar_tree.specs.declared.item.Angled.{Angled}
use Rattle.lar_tree.specs.declared.item.Attribute.{Attribute}
use Rattle.lar_tree.specs.declared.item.AttributeWord.{AttributeWord}
use Rattle.lar_tree.specs.declared.item.AttributeWord.TheVariants as attribute
use Rattle.lar_tree.specs.declared.item.Const.{Const}
use Rattle.lar_tree.specs.declared.item.Generic.{Generic}
use Rattle.lar_tree.specs.declared.item.Generic.TheVariants as generic
use Rattle.lar_tree.specs.Spelling.{sign_token, word_token, name_token, flat_signed, flat_option}
use Rattle.lar_tree.specs.Commas.{flat_commas}
use Rattle.lar_tree.specs.Types.{PlainTy, flat_type}
use Rattle.lar_tree.specs.Stmts.{PlainBlock, flat_block, GroupedBlock}

-- a name, the colon and its type
abbrev pub PlainField : Type 0
PlainField = Name × Span × PlainTy

pub record PlainStruct : Type 0 where
  pub keyword : Span
  pub name : Name
  pub generics : Option (Angled Name)
  pub from : Span
  pub fields : Option (Commas PlainField)
  pub to : Span

-- the arrow and the type of the result
abbrev pub PlainOutput : Type 0
PlainOutput = Span × PlainTy

pub record PlainFn : Type 0 where
  pub attributes : List Attribute
  pub keyword : Span
  pub name : Name
  pub generics : Option (Angled Generic)
  pub from : Span
  pub params : Option (Commas PlainField)
  pub to : Span
  pub output : Option PlainOutput
  pub body : PlainBlock

mutual
  pub data PlainItem : Type 0 where
    module_item : Span → Name → Span → PlainItems → Span → PlainItem
    struct_item : PlainStruct → PlainItem
    const_item : Const → PlainItem
    fn_item : PlainFn → PlainItem

  pub data PlainItems : Type 0 where
    no_items : PlainItems
    items : PlainItem → PlainItems → PlainItems

abbrev pub attribute_name : AttributeWord → List ℕ
attribute_name attribute.Inline = codes "inline"
attribute_name attribute.Export = codes "export"

abbrev pub flat_attribute : Attribute → List Token
flat_attribute a = sign_token sign.Hash a.hash ∷ sign_token sign.OpenBracket a.open ∷ record { kind = kind.Name (attribute_name a.word); span = a.span } ∷ sign_token sign.CloseBracket a.close ∷ []

abbrev pub flat_attributes : List Attribute → List Token
flat_attributes [] = []
flat_attributes (a ∷ rest) = flat_attribute a ++ flat_attributes rest

abbrev pub flat_generic : Generic → List Token
flat_generic (generic.Ty n) = name_token n ∷ []
flat_generic (generic.Const c) = word_token keyword.Const c.keyword ∷ name_token c.name ∷ sign_token sign.Colon c.colon ∷ word_token keyword.I64 c.int ∷ []

abbrev pub flat_name : Name → List Token
flat_name n = name_token n ∷ []

abbrev pub flat_angled : {A : Type 0} → (A → List Token) → Angled A → List Token
flat_angled flat a = sign_token sign.Less a.open ∷ (flat_commas flat a.list ++ sign_token sign.Greater a.close ∷ [])

abbrev pub flat_field : PlainField → List Token
flat_field f = name_token f.0 ∷ sign_token sign.Colon f.1 ∷ flat_type f.2

abbrev pub flat_output : PlainOutput → List Token
flat_output o = sign_token sign.Arrow o.0 ∷ flat_type o.1

abbrev pub flat_struct : PlainStruct → List Token
flat_struct s = word_token keyword.Struct s.keyword ∷ name_token s.name ∷ (flat_option (flat_angled flat_name) s.generics ++ sign_token sign.OpenBrace s.from ∷ (flat_option (flat_commas flat_field) s.fields ++ sign_token sign.CloseBrace s.to ∷ []))

abbrev pub flat_const : Const → List Token
flat_const c = word_token keyword.Const c.keyword ∷ name_token c.name ∷ sign_token sign.Colon c.colon ∷ word_token keyword.I64 c.int ∷ sign_token sign.Assign c.assign ∷ (flat_signed c.value ++ sign_token sign.Semicolon c.semicolon ∷ [])

-- what stands before the body
abbrev pub flat_head : PlainFn → List Token
flat_head f = flat_attributes f.attributes ++ word_token keyword.Fn f.keyword ∷ name_token f.name ∷ (flat_option (flat_angled flat_generic) f.generics ++ sign_token sign.OpenParen f.from ∷ (flat_option (flat_commas flat_field) f.params ++ sign_token sign.CloseParen f.to ∷ flat_option flat_output f.output))

abbrev mutual
  pub flat_item : PlainItem → List Token
  flat_item (module_item at n from is to) = word_token keyword.Mod at ∷ name_token n ∷ sign_token sign.OpenBrace from ∷ (flat_items is ++ sign_token sign.CloseBrace to ∷ [])
  flat_item (struct_item s) = flat_struct s
  flat_item (const_item c) = flat_const c
  flat_item (fn_item f) = flat_head f ++ flat_block f.body

  pub flat_items : PlainItems → List Token
  flat_items no_items = []
  flat_items (items i is) = flat_item i ++ flat_items is

-- each expression is grouped as the grammar says
abbrev mutual
  pub GroupedItem : PlainItem → Type 0
  GroupedItem (module_item at n from is to) = GroupedItems is
  GroupedItem (struct_item s) = Unit {0}
  GroupedItem (const_item c) = Unit {0}
  GroupedItem (fn_item f) = GroupedBlock f.body

  pub GroupedItems : PlainItems → Type 0
  GroupedItems no_items = Unit {0}
  GroupedItems (items i is) = GroupedItem i × GroupedItems is
