-- What items spell.
use Rattle.std.proofs.Common.{◌≡◌, List, [], ◌∷◌, ◌++◌, Option, option_map, Some, None, refl, sym, ap, ◌∙◌, subst, append_assoc, append-nil}
use Rattle.lar_source.specs.declared.file.Span.{Span}
use Rattle.lar_tree.specs.declared.name.Name.{Name}
use Rattle.lar_tree.specs.declared.commas.Commas.{Commas}
use Rattle.lar_tree.specs.declared.keyword.Keyword.TheVariants as keyword
use Rattle.lar_tree.specs.declared.sign.Sign.TheVariants as sign
use Rattle.lar_tree.specs.declared.token.Token.{Token}
use Rattle.lar_tree.specs.declared.item.Angled.{Angled}
use Rattle.lar_tree.specs.declared.item.Attribute.{Attribute}
use Rattle.lar_tree.specs.declared.item.Field.{Field}
use Rattle.lar_tree.specs.declared.item.Generic.{Generic}
use Rattle.lar_tree.specs.declared.item.Item.{Item}
use Rattle.lar_tree.specs.declared.item.Output.{Output}
use Rattle.lar_tree.specs.declared.stmt.Block.{Block}
use Rattle.lar_tree.specs.Spelling.{sign_token, word_token, name_token, flat_option}
use Rattle.lar_tree.specs.Commas.{flat_commas, commas_map}
use Rattle.lar_tree.specs.Items.{flat_attribute, flat_attributes, flat_angled, flat_field, flat_generic, flat_name, GroupedItem, GroupedItems}
use Rattle.lar_tree.specs.ItemView.{field_view, item_view, items_view}
use Rattle.lar_syntax.specs.Reads.{block_tokens}
use Rattle.lar_syntax.specs.ReadsItems.{field_tokens, output_tokens, struct_tokens, fn_tokens, item_tokens, items_tokens}
use Rattle.lar_syntax.proofs.Lists.{members_seen}

fields_seen : (o : Option (Commas Field)) → flat_option (flat_commas flat_field) (option_map (commas_map field_view) o) ≡ flat_option (flat_commas field_tokens) o
fields_seen None = refl
fields_seen (Some c) = ap (λ x. field_tokens c.first ++ x) (members_seen field_view flat_field c.more)

struct_parts : (g f e : List Token) (s t : Token) → g ++ s ∷ (f ++ t ∷ e) ≡ (g ++ s ∷ (f ++ t ∷ [])) ++ e
struct_parts g f e s t = simp append_assoc

pub struct_spells : (at from to : Span) (name : Name) (gs : Option (Angled Name)) (fs : Option (Commas Field)) (a b c d e f : List Token) → a ≡ name_token name ∷ b → b ≡ flat_option (flat_angled flat_name) gs ++ c → c ≡ sign_token sign.OpenBrace from ∷ d → d ≡ flat_option (flat_commas field_tokens) fs ++ e → e ≡ sign_token sign.CloseBrace to ∷ f
    → word_token keyword.Struct at ∷ a ≡ struct_tokens (record { keyword = at; name = name; generics = gs; «open» = from; fields = fs; close = to }) ++ f
struct_spells at from to name gs fs a b c d e f p q r s t =
    ap (λ x. word_token keyword.Struct at ∷ x)
    (p ∙ ap (λ x. name_token name ∷ x)
    (q ∙ ap (λ x. flat_option (flat_angled flat_name) gs ++ x) (r ∙ ap (λ x. sign_token sign.OpenBrace from ∷ x) (s ∙ ap (λ x. flat_option (flat_commas field_tokens) fs ++ x) t))
    ∙ struct_parts (flat_option (flat_angled flat_name) gs) (flat_option (flat_commas field_tokens) fs) f (sign_token sign.OpenBrace from) (sign_token sign.CloseBrace to)
    ∙ ap (λ x. (flat_option (flat_angled flat_name) gs ++ sign_token sign.OpenBrace from ∷ (x ++ sign_token sign.CloseBrace to ∷ [])) ++ f) (sym (fields_seen fs))))

fn_parts : (xs g ps o b e : List Token) (k n s t : Token) → (xs ++ k ∷ n ∷ []) ++ (g ++ s ∷ (ps ++ t ∷ (o ++ (b ++ e)))) ≡ ((xs ++ k ∷ n ∷ (g ++ s ∷ (ps ++ t ∷ o))) ++ b) ++ e
fn_parts xs g ps o b e k n s t = simp append_assoc

pub fn_spells : (xs : List Attribute) (at from to : Span) (name : Name) (gs : Option (Angled Generic)) (ps : Option (Commas Field)) (o : Option Output) (body : Block) (a b c d e f g : List Token) → a ≡ flat_option (flat_angled flat_generic) gs ++ b → b ≡ sign_token sign.OpenParen from ∷ c → c ≡ flat_option (flat_commas field_tokens) ps ++ d → d ≡ sign_token sign.CloseParen to ∷ e → e ≡ output_tokens o ++ f → f ≡ block_tokens body ++ g
    → (flat_attributes xs ++ word_token keyword.Fn at ∷ name_token name ∷ []) ++ a ≡ fn_tokens (record { attributes = xs; keyword = at; name = name; generics = gs; «open» = from; params = ps; close = to; output = o; body = body }) ++ g
fn_spells xs at from to name gs ps o body a b c d e f g p q r s t u =
    ap (λ x. (flat_attributes xs ++ word_token keyword.Fn at ∷ name_token name ∷ []) ++ x)
    (p ∙ ap (λ x. flat_option (flat_angled flat_generic) gs ++ x) (q ∙ ap (λ x. sign_token sign.OpenParen from ∷ x) (r ∙ ap (λ x. flat_option (flat_commas field_tokens) ps ++ x) (s ∙ ap (λ x. sign_token sign.CloseParen to ∷ x) (t ∙ ap (λ x. output_tokens o ++ x) u)))))
    ∙ fn_parts (flat_attributes xs) (flat_option (flat_angled flat_generic) gs) (flat_option (flat_commas field_tokens) ps) (output_tokens o) (block_tokens body) g (word_token keyword.Fn at) (name_token name) (sign_token sign.OpenParen from) (sign_token sign.CloseParen to)
    ∙ ap (λ x. ((flat_attributes xs ++ word_token keyword.Fn at ∷ name_token name ∷ (flat_option (flat_angled flat_generic) gs ++ sign_token sign.OpenParen from ∷ (x ++ sign_token sign.CloseParen to ∷ output_tokens o))) ++ block_tokens body) ++ g) (sym (fields_seen ps))

-- ---- one more

attributes_end : (xs : List Attribute) (x : Attribute) → flat_attributes (xs ++ x ∷ []) ≡ flat_attributes xs ++ flat_attribute x
attributes_end [] x = append-nil (flat_attribute x)
attributes_end (a ∷ xs) x = ap (λ y. flat_attribute a ++ y) (attributes_end xs x) ∙ sym (append_assoc (flat_attribute a) (flat_attributes xs) (flat_attribute x))

pub attributes_grow : (xs after : List Attribute) (x : Attribute) (a b c : List Token) → a ≡ flat_attributes xs ++ b → b ≡ flat_attribute x ++ c → after ≡ xs ++ x ∷ [] → a ≡ flat_attributes after ++ c
attributes_grow xs after x a b c p q e =
    p ∙ ap (λ y. flat_attributes xs ++ y) q ∙ sym (append_assoc (flat_attributes xs) (flat_attribute x) c)
    ∙ ap (λ y. y ++ c) (sym (attributes_end xs x)) ∙ ap (λ y. flat_attributes y ++ c) (sym e)

items_end : (is : List Item) (i : Item) → items_tokens (is ++ i ∷ []) ≡ items_tokens is ++ item_tokens i
items_end [] i = append-nil (item_tokens i)
items_end (j ∷ is) i = ap (λ y. item_tokens j ++ y) (items_end is i) ∙ sym (append_assoc (item_tokens j) (items_tokens is) (item_tokens i))

pub items_grow : (is after : List Item) (i : Item) (a b c : List Token) → a ≡ items_tokens is ++ b → b ≡ item_tokens i ++ c → after ≡ is ++ i ∷ [] → a ≡ items_tokens after ++ c
items_grow is after i a b c p q e =
    p ∙ ap (λ y. items_tokens is ++ y) q ∙ sym (append_assoc (items_tokens is) (item_tokens i) c)
    ∙ ap (λ y. y ++ c) (sym (items_end is i)) ∙ ap (λ y. items_tokens y ++ c) (sym e)

all_grouped : (is : List Item) (i : Item) → GroupedItems (items_view is) → GroupedItem (item_view i) → GroupedItems (items_view (is ++ i ∷ []))
all_grouped [] i g h = (h, tt)
all_grouped (j ∷ is) i g h = (g.0, all_grouped is i g.1 h)

pub items_grouped : (is after : List Item) (i : Item) → GroupedItems (items_view is) → GroupedItem (item_view i) → after ≡ is ++ i ∷ [] → GroupedItems (items_view after)
items_grouped is after i g h e = subst (λ (x : List Item). GroupedItems (items_view x)) (sym e) (all_grouped is i g h)
