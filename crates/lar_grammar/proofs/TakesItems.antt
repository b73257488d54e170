-- A token that begins or goes on with an item, and what completes the stack behind it, are one.
use Rattle.std.proofs.Common.{◌≡◌, ℕ, zero, suc, List, [], ◌∷◌, ◌++◌, Some, sym, ap, ◌∙◌, append_assoc}
use Rattle.std.specs.Prelude.{is_some}
use Rattle.lar_source.specs.declared.file.Span.{Span}
use Rattle.lar_tree.specs.declared.keyword.Keyword.TheVariants as keyword
use Rattle.lar_tree.specs.declared.sign.Sign.TheVariants as sign
use Rattle.lar_tree.specs.declared.token.Token.{Token}
use Rattle.lar_tree.specs.declared.token.Kind.{Kind}
use Rattle.lar_tree.specs.declared.token.Kind.TheVariants as kind
use Rattle.lar_tree.specs.declared.item.Attribute.{Attribute}
use Rattle.lar_tree.specs.Spelling.{sign_token, word_token, name_token}
use Rattle.lar_tree.specs.Items.{PlainFn, PlainItem, module_item, struct_item, const_item, fn_item, PlainItems, items, attribute_name, flat_item, flat_items, GroupedItem, GroupedItems}
use Rattle.lar_grammar.specs.Looks.{is_sign, attribute_at}
use Rattle.lar_grammar.specs.Symbols.{field_member, generic_member, name_member, Symbol, one_sign, one_word, one_name, signed_number, attribute_word, listed, angle, outer_type, one_block, body, module_items, attributed, output, program, Stack, skip, fail, take, then_, when}
use Rattle.lar_grammar.specs.Moves.{in_braces, struct_rest, const_rest, fn_rest, attribute_rest, attributed_at, item_at, body_at, program_at}
use Rattle.lar_grammar.proofs.Meaning.{Is, Completes}
use Rattle.lar_grammar.proofs.Taking.{body_of, take-body, when-take, when-else, unless-skip, alone, from_body, then-halves, sign-on, word-on, name-on, take-sign, take-attribute}
use Rattle.lar_grammar.proofs.Members.{field_list_of, angled_names_of, angled_generics_of}
use Rattle.lar_grammar.proofs.Parts.{behind, both}

-- an item with these tokens
abbrev pub ItemOf : List Token → Type 0
ItemOf f = (i : PlainItem) × GroupedItem i × (flat_item i ≡ f)

-- ---- structs and constants

struct_of : (at : Span) (f : List Token) → Completes struct_rest f → ItemOf (word_token keyword.Struct at ∷ f)
struct_of at f c =
    let fielded : Stack = in_braces field_member 63 in
    let n = name-on (angle name_member ∷ one_sign sign.OpenBrace ∷ fielded) f c in
    let c1 = n.3 in
    let g = angled_names_of c1.0 c1.3 in
    let from = sign-on sign.OpenBrace fielded c1.1 c1.4 in
    let c2 = from.3 in
    let fs = field_list_of c2.0 c2.3 in
    let to = alone (one_sign sign.CloseBrace) c2.1 c2.4 in (
      struct_item (record { keyword = at; name = n.0; generics = g.0; from = from.0; fields = fs.0; to = to.0 }),
      tt,
      ap (λ y. word_token keyword.Struct at ∷ y)
          (behind (name_token n.0) _ n.1 f
          (both _ _ c1.0 c1.1 n.1 g.1 (behind (sign_token sign.OpenBrace from.0) _ from.1 c1.1 (both _ _ c2.0 c2.1 from.1 fs.1 to.1 c2.2) from.2) c1.2)
          n.2),
    )

const_of : (at : Span) (f : List Token) → Completes const_rest f → ItemOf (word_token keyword.Const at ∷ f)
const_of at f c =
    let valued : Stack = signed_number ∷ one_sign sign.Semicolon ∷ [] in
    let typed : Stack = one_word keyword.I64 ∷ one_sign sign.Assign ∷ valued in
    let n = name-on (one_sign sign.Colon ∷ typed) f c in
    let colon = sign-on sign.Colon typed n.1 n.3 in
    let int = word-on keyword.I64 (one_sign sign.Assign ∷ valued) colon.1 colon.3 in
    let assign = sign-on sign.Assign valued int.1 int.3 in
    let c1 = assign.3 in
    let z = alone (one_sign sign.Semicolon) c1.1 c1.4 in (
      const_item (record { keyword = at; name = n.0; colon = colon.0; int = int.0; assign = assign.0; value = c1.3.0; semicolon = z.0 }),
      tt,
      ap (λ y. word_token keyword.Const at ∷ y)
          (behind (name_token n.0) _ n.1 f
          (behind (sign_token sign.Colon colon.0) _ colon.1 n.1
          (behind (word_token keyword.I64 int.0) _ int.1 colon.1
          (behind (sign_token sign.Assign assign.0) _ assign.1 int.1 (both _ _ c1.0 c1.1 assign.1 c1.3.1 z.1 c1.2) assign.2)
          int.2)
          colon.2)
          n.2),
    )

-- ---- functions

pub takes-output : (t : Token) (ss : Stack) (f : List Token) → body_of (when (is_sign sign.Arrow (Some t.kind)) (take (outer_type ∷ [])) skip) ≡ Some ss → Completes ss f → Is output (t ∷ f)
takes-output t ss f e c =
    let w = when-take (is_sign sign.Arrow (Some t.kind)) (outer_type ∷ []) ss e in
    let x = alone outer_type f (from_body (outer_type ∷ []) ss f w.1 c) in
    (Some (t.span, x.0), behind (sign_token sign.Arrow t.span) _ f (t ∷ f) x.1 (ap (λ y. y ∷ f) (take-sign sign.Arrow t w.0)))

pub takes-attribute_word : (t : Token) (ss : Stack) (f : List Token) → body_of (when (is_some (attribute_at (Some t.kind))) (take []) fail) ≡ Some ss → Completes ss f → Is attribute_word (t ∷ f)
takes-attribute_word t ss f e c =
    let w = when-else (is_some (attribute_at (Some t.kind))) [] ss e in
    let x = take-attribute t w.0 in
    (x.0, t.span, ap (λ y. y ∷ []) (sym x.1) ∙ ap (λ y. t ∷ y) (sym (from_body [] ss f w.1 c)))

-- a function's tokens from behind its name on
spelled : (g p o b : List Token) (from to : Token) → (g ++ from ∷ (p ++ to ∷ o)) ++ b ≡ g ++ from ∷ (p ++ to ∷ (o ++ b))
spelled g p o b from to = append_assoc g (from ∷ (p ++ to ∷ o)) b ∙ ap (λ y. g ++ from ∷ y) (append_assoc p (to ∷ o) b)

fn_of : (n : ℕ) (at : Span) (f : List Token) → Completes (fn_rest n) f → Is (attributed n) (word_token keyword.Fn at ∷ f)
fn_of n at f c =
    let ended : Stack = output ∷ one_block n ∷ [] in
    let listed_in : Stack = listed field_member 15 sign.CloseParen ∷ one_sign sign.CloseParen ∷ ended in
    let name = name-on (angle generic_member ∷ one_sign sign.OpenParen ∷ listed_in) f c in
    let c1 = name.3 in
    let g = angled_generics_of c1.0 c1.3 in
    let from = sign-on sign.OpenParen listed_in c1.1 c1.4 in
    let c2 = from.3 in
    let ps = field_list_of c2.0 c2.3 in
    let to = sign-on sign.CloseParen ended c2.1 c2.4 in
    let c3 = to.3 in
    let o = c3.3 in
    let b = alone (one_block n) c3.1 c3.4 in (
      record { attributes = []; keyword = at; name = name.0; generics = g.0; from = from.0; params = ps.0; to = to.0; output = o.0; body = b.0 },
      b.1,
      ap (λ y. word_token keyword.Fn at ∷ y)
          (behind (name_token name.0) _ name.1 f
          (spelled _ _ _ _ (sign_token sign.OpenParen from.0) (sign_token sign.CloseParen to.0)
          ∙ both _ _ c1.0 c1.1 name.1 g.1
          (behind (sign_token sign.OpenParen from.0) _ from.1 c1.1
          (both _ _ c2.0 c2.1 from.1 ps.1 (behind (sign_token sign.CloseParen to.0) _ to.1 c2.1 (both _ _ c3.0 c3.1 to.1 o.1 b.2 c3.2) to.2) c2.2)
          from.2)
          c1.2)
          name.2),
    )

attribute_of : (n : ℕ) (at : Span) (f : List Token) → Completes (attribute_rest n) f → Is (attributed n) (sign_token sign.Hash at ∷ f)
attribute_of n at f c =
    let from = sign-on sign.OpenBracket (attribute_word ∷ one_sign sign.CloseBracket ∷ attributed n ∷ []) f c in
    let c1 = from.3 in
    let word = c1.3 in
    let to = sign-on sign.CloseBracket (attributed n ∷ []) c1.1 c1.4 in
    let g = alone (attributed n) to.1 to.3 in
    let fn : PlainFn = g.0 in
    let made : Attribute = record { hash = at; «open» = from.0; word = word.0; span = word.1; close = to.0 } in (
      record fn { attributes = made ∷ fn.attributes },
      g.1,
      ap (λ y. sign_token sign.Hash at ∷ y)
          (behind (sign_token sign.OpenBracket from.0) _ from.1 f
          (both (record { kind = kind.Name (attribute_name word.0); span = word.1 } ∷ []) _ c1.0 c1.1 from.1 word.2 (behind (sign_token sign.CloseBracket to.0) _ to.1 c1.1 g.2 to.2) c1.2)
          from.2),
    )

attributed_by : (n : ℕ) (k : Kind) (at : Span) (ss : Stack) (f : List Token) → body_of (attributed_at n (Some k)) ≡ Some ss → Completes ss f → Is (attributed n) (record { kind = k; span = at } ∷ f)
attributed_by n (kind.Sign sign.Hash) at ss f e c = attribute_of n at f (from_body (attribute_rest n) ss f (take-body _ ss e) c)
attributed_by n (kind.Word keyword.Fn) at ss f e c = fn_of n at f (from_body (fn_rest n) ss f (take-body _ ss e) c)
attributed_by n k at ss f e c = cc

pub takes-attributed : (n : ℕ) (t : Token) (ss : Stack) (f : List Token) → body_of (attributed_at n (Some t.kind)) ≡ Some ss → Completes ss f → Is (attributed n) (t ∷ f)
takes-attributed n t ss f e c = attributed_by n t.kind t.span ss f e c

-- ---- items

pub takes-body : (n : ℕ) (t : Token) (ss : Stack) (f : List Token) → body_of (body_at n (Some t.kind)) ≡ Some ss → Completes ss f → Is (body n) (t ∷ f)
takes-body zero t ss f e c = cc
takes-body (suc n) t ss f e c0 =
    let w = when-else (is_sign sign.OpenBrace (Some t.kind)) (module_items n ∷ one_sign sign.CloseBrace ∷ []) ss e in
    let c = from_body (module_items n ∷ one_sign sign.CloseBrace ∷ []) ss f w.1 c0 in
    let x = c.3 in
    let z = alone (one_sign sign.CloseBrace) c.1 c.4 in
    (t.span, x.0, z.0, x.1, behind (sign_token sign.OpenBrace t.span) _ f (t ∷ f) (both _ _ c.0 c.1 f x.2 z.1 c.2) (ap (λ y. y ∷ f) (take-sign sign.OpenBrace t w.0)))

module_of : (n : ℕ) (at : Span) (f : List Token) → Completes (one_name ∷ body n ∷ []) f → ItemOf (word_token keyword.Mod at ∷ f)
module_of n at f c =
    let name = name-on (body n ∷ []) f c in
    let b = alone (body n) name.1 name.3 in
    (module_item at name.0 b.0 b.1 b.2, b.3, ap (λ y. word_token keyword.Mod at ∷ y) (behind (name_token name.0) _ name.1 f b.4 name.2))

of_fn : (n : ℕ) (f : List Token) → Is (attributed n) f → ItemOf f
of_fn n f g = (fn_item g.0, g.1, g.2)

item_by : (n : ℕ) (k : Kind) (at : Span) (ss : Stack) (f : List Token) → body_of (item_at n (Some k)) ≡ Some ss → Completes ss f → ItemOf (record { kind = k; span = at } ∷ f)
item_by n (kind.Word keyword.Mod) at ss f e c = module_of n at f (from_body (one_name ∷ body n ∷ []) ss f (take-body _ ss e) c)
item_by n (kind.Word keyword.Struct) at ss f e c = struct_of at f (from_body struct_rest ss f (take-body _ ss e) c)
item_by n (kind.Word keyword.Const) at ss f e c = const_of at f (from_body const_rest ss f (take-body _ ss e) c)
item_by n k at ss f e c = of_fn n (record { kind = k; span = at } ∷ f) (attributed_by n k at ss f e c)

pub takes-item : (n : ℕ) (t : Token) (ss : Stack) (f : List Token) → body_of (item_at n (Some t.kind)) ≡ Some ss → Completes ss f → ItemOf (t ∷ f)
takes-item n t ss f e c = item_by n t.kind t.span ss f e c

-- an item and further ones
further_items : (n : ℕ) (s : Symbol) → ((g : List Token) → Is s g → (is : PlainItems) × GroupedItems is × (flat_items is ≡ g)) → (t : Token) (ss : Stack) (f : List Token) → body_of (then_ (item_at n (Some t.kind)) (s ∷ [])) ≡ Some ss → Completes ss f → (is : PlainItems) × GroupedItems is × (flat_items is ≡ t ∷ f)
further_items n s of t ss f e c =
    let d = then-halves (item_at n (Some t.kind)) (s ∷ []) ss f e c in
    let x = takes-item n t d.0 d.1 d.3 d.5 in
    let r = of d.2 (alone s d.2 d.6) in
    (items x.0 r.0, (x.1, r.1), both _ _ (t ∷ d.1) d.2 (t ∷ f) x.2 r.2 (ap (λ y. t ∷ y) d.4))

pub takes-module_items : (n : ℕ) (t : Token) (ss : Stack) (f : List Token) → body_of (when (is_sign sign.CloseBrace (Some t.kind)) skip (then_ (item_at n (Some t.kind)) (module_items n ∷ []))) ≡ Some ss → Completes ss f → Is (module_items n) (t ∷ f)
takes-module_items n t ss f e c =
    let w = unless-skip (is_sign sign.CloseBrace (Some t.kind)) (then_ (item_at n (Some t.kind)) (module_items n ∷ [])) ss e in
    further_items n (module_items n) (λ g x. x) t ss f w.1 c

pub takes-program : (t : Token) (ss : Stack) (f : List Token) → body_of (program_at (Some t.kind)) ≡ Some ss → Completes ss f → Is program (t ∷ f)
takes-program t ss f e c = further_items 64 program (λ g x. x) t ss f e c
