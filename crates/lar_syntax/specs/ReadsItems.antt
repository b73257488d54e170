-- What the parser's functions for items do.
use Rattle.std.specs.Prelude.{ℕ, ◌≡◌, List, [], ◌∷◌, ◌++◌, Option, option_map, Result, Ok, Err}
use Rattle.lar_source.specs.declared.file.Span.{Span}
use Rattle.lar_tree.specs.declared.sign.Sign.TheVariants as sign
use Rattle.lar_tree.specs.declared.keyword.Keyword.TheVariants as keyword
use Rattle.lar_tree.specs.declared.token.Kind.TheVariants as kind
use Rattle.lar_tree.specs.declared.token.Token.{Token}
use Rattle.lar_tree.specs.declared.item.AttributeWord.{AttributeWord}
use Rattle.lar_tree.specs.declared.item.ConstGeneric.{ConstGeneric}
use Rattle.lar_tree.specs.declared.item.Field.{Field}
use Rattle.lar_tree.specs.declared.item.Fn.{Fn}
use Rattle.lar_tree.specs.declared.item.Output.{Output}
use Rattle.lar_tree.specs.declared.item.Struct.{Struct}
use Rattle.lar_tree.specs.declared.item.Item.{Item}
use Rattle.lar_tree.specs.Spelling.{sign_token, word_token, name_token, flat_option}
use Rattle.lar_tree.specs.Items.{attribute_name, flat_field, flat_output, flat_struct, flat_head, flat_item, flat_items}
use Rattle.lar_tree.specs.ItemView.{field_view, output_view, struct_view, fn_view, item_view, items_view}
use Rattle.lar_tree.specs.Stmts.{flat_block, GroupedBlock}
use Rattle.lar_tree.specs.StmtView.{block_view}
use Rattle.lar_grammar.specs.Looks.{look}
use Rattle.lar_grammar.specs.Symbols.{field_member, generic_member, Symbol, one_sign, listed, angle, output, one_block, Stack, then_}
use Rattle.lar_grammar.specs.Moves.{item_at, expand}
use Rattle.lar_syntax.specs.Reads.{Passes, Refuses, Takes}
use Rattle.lar_syntax.specs.declared.parser.cursor.Stop.{Stop}
use Rattle.lar_syntax.specs.declared.parser.cursor.Parser.{Parser}

-- ---- the tokens of trees

abbrev pub field_tokens : Field → List Token
field_tokens f = flat_field (field_view f)

abbrev pub const_generic_tokens : ConstGeneric → List Token
const_generic_tokens c = word_token keyword.Const c.keyword ∷ name_token c.name ∷ sign_token sign.Colon c.colon ∷ word_token keyword.I64 c.int ∷ []

abbrev pub word_at_tokens : AttributeWord × Span → List Token
word_at_tokens w = record { kind = kind.Name (attribute_name w.0); span = w.1 } ∷ []

abbrev pub output_tokens : Option Output → List Token
output_tokens o = flat_option flat_output (option_map output_view o)

abbrev pub struct_tokens : Struct → List Token
struct_tokens s = flat_struct (struct_view s)

abbrev pub fn_tokens : Fn → List Token
fn_tokens f = flat_head (fn_view f) ++ flat_block (block_view f.body)

abbrev pub item_tokens : Item → List Token
item_tokens i = flat_item (item_view i)

abbrev pub items_tokens : List Item → List Token
items_tokens is = flat_items (items_view is)

-- each expression in it is grouped
abbrev pub IsFn : Fn → Type 0
IsFn f = GroupedBlock (block_view f.body)

-- ---- symbols

-- a function behind its name
abbrev pub signature : ℕ → Stack
signature n = angle generic_member ∷ one_sign sign.OpenParen ∷ listed field_member 15 sign.CloseParen ∷ one_sign sign.CloseParen ∷ output ∷ one_block n ∷ []

-- the symbol begins as an item does, and goes on with these
abbrev pub BeginsAs : ℕ → Parser → Symbol → Stack → Type 0
BeginsAs n p s behind = expand s (look p.rest.now) ≡ then_ (item_at n (look p.rest.now)) behind

-- an item, behind which the symbol goes on
abbrev pub ReadsItem : ℕ → Parser → Result Item Stop → Parser → Type 0
ReadsItem n old (Ok i) new = Takes (item_tokens i) old new × ((s : Symbol) (behind : Stack) → BeginsAs n old s behind → Passes (s ∷ []) behind old new)
ReadsItem n old (Err e) new = (s : Symbol) (behind : Stack) → BeginsAs n old s behind → Refuses (s ∷ []) e old new
