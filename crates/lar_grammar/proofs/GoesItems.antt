-- The machine goes through the items of each tree, and so through the program.
use Rattle.std.proofs.Common.{◌≡◌, ℕ, ℤ, zero, suc, ◌-◌, List, [], ◌∷◌, ◌++◌, Option, Some, None, false, refl, sym, ap, ◌∙◌, subst, append_assoc, append-nil}
use Rattle.lar_source.specs.declared.file.Span.{Span}
use Rattle.lar_tree.specs.declared.keyword.Keyword.{Keyword}
use Rattle.lar_tree.specs.declared.keyword.Keyword.TheVariants as keyword
use Rattle.lar_tree.specs.declared.sign.Sign.{Sign}
use Rattle.lar_tree.specs.declared.sign.Sign.TheVariants as sign
use Rattle.lar_tree.specs.declared.token.Kind.TheVariants as kind
use Rattle.lar_tree.specs.declared.name.Name.{Name}
use Rattle.lar_tree.specs.declared.commas.Commas.{Commas}
use Rattle.lar_tree.specs.declared.commas.Member.{Member}
use Rattle.lar_tree.specs.declared.item.Angled.{Angled}
use Rattle.lar_tree.specs.declared.item.Attribute.{Attribute}
use Rattle.lar_tree.specs.declared.item.AttributeWord.{AttributeWord}
use Rattle.lar_tree.specs.declared.item.AttributeWord.TheVariants as attribute
use Rattle.lar_tree.specs.declared.item.Const.{Const}
use Rattle.lar_tree.specs.declared.item.Generic.{Generic}
use Rattle.lar_tree.specs.declared.item.Generic.TheVariants as generic
use Rattle.lar_tree.specs.Spelling.{sign_token, word_token, number_token, name_token, flat_minus}
use Rattle.lar_tree.specs.Items.{PlainField, PlainStruct, PlainOutput, PlainFn, PlainItem, module_item, struct_item, const_item, fn_item, PlainItems, no_items, items, attribute_name, flat_attributes, flat_const, flat_items, GroupedItem, GroupedItems}
use Rattle.lar_tree.specs.Stmts.{GroupedBlock}
use Rattle.lar_tree.specs.Marks.{tokens_of, Marked, un, unmarked, over, marked_option, marked_members, marked_commas, marked_name, marked_generic, marked_angled, marked_field, marked_output, marked_struct, marked_item, marked_items, marked_program}
use Rattle.lar_tree.proofs.MarkedTokens.{tokens-items}
use Rattle.lar_grammar.specs.Looks.{Look, is_sign}
use Rattle.lar_grammar.specs.Symbols.{Listed, field_member, generic_member, name_member, Symbol, one_sign, signed_number, attribute_word, member, listed, angle, one_block, body, module_items, attributed, output, program, Stack, skip, fail, take, then_}
use Rattle.lar_grammar.specs.Moves.{expand, struct_rest, const_rest, fn_rest, attribute_rest, item_at}
use Rattle.lar_grammar.specs.Machine.{fault}
use Rattle.lar_grammar.proofs.Going.{outside, Goes, Any, stops, HasFirst, seq, over_more, when_also, part, stays, left_out, left_before}
use Rattle.lar_grammar.proofs.GoingTokens.{other_sign, at_sign, at_no, sign_then, name_then, word_then}
use Rattle.lar_grammar.proofs.GoesSteps.{step, step_to, part_then, refused}
use Rattle.lar_grammar.proofs.GoesLists.{IsAt, Ends, Further, no_further, one_further, listed_none, listed_some, angle_none, angle_some}
use Rattle.lar_grammar.proofs.GoesTypes.{QuietType, quiet_type-at, ends-quiet_type, goes-outer-type}
use Rattle.lar_grammar.proofs.GoesStmts.{less_one, block_first, goes-block}

-- ---- what follows

type_close : QuietType (Some (kind.Sign sign.CloseParen))
type_close = quiet_type-at sign.CloseParen (λ e. cc) (λ e. cc)

type_brace : QuietType (Some (kind.Sign sign.CloseBrace))
type_brace = quiet_type-at sign.CloseBrace (λ e. cc) (λ e. cc)

type_open : QuietType (Some (kind.Sign sign.OpenBrace))
type_open = quiet_type-at sign.OpenBrace (λ e. cc) (λ e. cc)

-- ---- lists of any members

-- A way to mark members, each of which is gone through before a comma or the sign that closes the list.
record Members {A : Type 0} (mark : A → List Marked) (w : Listed) (s : Sign) : Type 0 where
  no_comma : s ≡ sign.Comma → ⊥
  first : (x : A) → HasFirst (mark x)
  each : (x : A) → Goes outside (Ends s) (mark x) (member w ∷ []) []

goes_members : {A : Type 0} (mark : A → List Marked) (w : Listed) (s : Sign) → Members mark w s → (n : ℕ) (ms : List (Member A)) → Further outside w s n (marked_members mark n ms)
goes_members mark w s h n [] = no_further w s n h.no_comma
goes_members mark w s h n (m ∷ ms) = one_further w s n m.comma (mark m.value) (marked_members mark (n - 1) ms) (h.first m.value) (h.each m.value) (goes_members mark w s h (n - 1) ms)

goes_angled : {A : Type 0} {P : Look → Type 0} (mark : A → List Marked) (w : Listed) → Members mark w sign.Greater → (a : Angled A) → Goes outside P (marked_angled mark 15 a) (angle w ∷ []) []
goes_angled {A} {P} mark w h a =
    let others = marked_members mark 15 a.list.more in
    let close : List Marked = un (sign_token sign.Greater a.close) ∷ [] in
    subst (λ ms. Goes outside P (un (sign_token sign.Less a.open) ∷ ms) (angle w ∷ []) []) (sym (append_assoc (mark a.list.first) others close))
    (angle_some w a.open a.close (mark a.list.first) others (h.each a.list.first) (goes_members mark w sign.Greater h 15 a.list.more))

-- where no `<` follows
goes_angle : {A : Type 0} {P : Look → Type 0} (mark : A → List Marked) (w : Listed) → Members mark w sign.Greater → ((l : Look) → P l → is_sign sign.Less l ≡ false) → (o : Option (Angled A)) → Goes outside P (marked_option (marked_angled mark 15) o) (angle w ∷ []) []
goes_angle mark w h k None = angle_none w k
goes_angle mark w h k (Some a) = goes_angled mark w h a

names : Members marked_name name_member sign.Greater
names = record { no_comma = λ e. cc; first = λ n. tt; each = λ n. step refl (stays _) }

generic_first : (g : Generic) → HasFirst (marked_generic g)
generic_first (generic.Ty n) = tt
generic_first (generic.Const c) = tt

goes_generic : (g : Generic) → Goes outside (Ends sign.Greater) (marked_generic g) (member generic_member ∷ []) []
goes_generic (generic.Ty n) = step refl (stays _)
goes_generic (generic.Const c) = step_to refl (name_then c.name (sign_then sign.Colon c.colon (word_then keyword.I64 c.int (stays _))))

generics : Members marked_generic generic_member sign.Greater
generics = record { no_comma = λ e. cc; first = generic_first; each = goes_generic }

-- ---- fields and parameters

goes_field : (s : Sign) → QuietType (Some (kind.Sign s)) → (f : PlainField) → Goes outside (Ends s) (marked_field f) (member field_member ∷ []) []
goes_field s quiet f = step_to refl (sign_then sign.Colon f.1 (when_also (λ l e. ends-quiet_type s l quiet e) (goes-outer-type f.2)))

fields : (s : Sign) → (s ≡ sign.Comma → ⊥) → QuietType (Some (kind.Sign s)) → Members marked_field field_member s
fields s not quiet = record { no_comma = not; first = λ f. tt; each = goes_field s quiet }

goes_fields : (n : ℕ) (s : Sign) → Members marked_field field_member s → (o : Option (Commas PlainField)) → Goes outside (IsAt s) (marked_option (marked_commas marked_field n) o) (listed field_member n s ∷ []) []
goes_fields n s h None = listed_none field_member n s
goes_fields n s h (Some c) = listed_some field_member n s (marked_field c.first) (marked_members marked_field n c.more) (λ rest. refl) (h.each c.first) (goes_members marked_field field_member s h n c.more)

-- the fields, the closing sign, and the rest
fields_then : {P : Look → Type 0} {ms : List Marked} {onto to : Stack} (n : ℕ) (s : Sign) → Members marked_field field_member s → (o : Option (Commas PlainField)) (at : Span) → Goes outside P ms onto to → Goes outside P (marked_option (marked_commas marked_field n) o ++ un (sign_token s at) ∷ ms) (listed field_member n s ∷ one_sign s ∷ onto) to
fields_then n s h o at g = part_then (goes_fields n s h o) (λ rest p. refl) (sign_then s at g)

-- ---- items with no block

goes_struct : (st : PlainStruct) (s : Symbol) (onto : Stack) → expand s (Some (kind.Word keyword.Struct)) ≡ take (struct_rest ++ onto) → Goes outside Any (marked_struct st) (s ∷ []) onto
goes_struct st s onto e = step_to e (name_then st.name
    (part_then (goes_angle marked_name name_member names (λ l p. p) st.generics) (λ rest p. other_sign sign.Less sign.OpenBrace (λ e. cc))
    (sign_then sign.OpenBrace st.from (fields_then 63 sign.CloseBrace (fields sign.CloseBrace (λ e. cc) type_brace) st.fields st.to (stays _)))))

goes_value : (minus : Option Span) (n : ℤ) (at end : Span) (onto : Stack) → Goes outside Any (unmarked ((flat_minus minus ++ number_token n at ∷ []) ++ sign_token sign.Semicolon end ∷ [])) (signed_number ∷ one_sign sign.Semicolon ∷ onto) onto
goes_value None n at end onto = step refl (sign_then sign.Semicolon end (stays _))
goes_value (Some m) n at end onto = step refl (step refl (sign_then sign.Semicolon end (stays _)))

goes_const : (c : Const) (s : Symbol) (onto : Stack) → expand s (Some (kind.Word keyword.Const)) ≡ take (const_rest ++ onto) → Goes outside Any (unmarked (flat_const c)) (s ∷ []) onto
goes_const c s onto e = step_to e (name_then c.name (sign_then sign.Colon c.colon (word_then keyword.I64 c.int (sign_then sign.Assign c.assign
    (goes_value c.value.minus c.value.value c.value.span c.semicolon onto)))))

-- ---- functions

goes_output : (o : Option PlainOutput) → Goes outside (IsAt sign.OpenBrace) (marked_option marked_output o) (output ∷ []) []
goes_output None = left_out output (λ r. refl) (λ l p. ap (expand output) p ∙ at_no _ _ skip (other_sign sign.Arrow sign.OpenBrace (λ e. cc)))
goes_output (Some o) = step_to (at_sign sign.Arrow _ skip) (when_also (λ l p. subst QuietType (sym p) type_open) (goes-outer-type o.1))

-- what stands before the body, from the word `fn` on
abbrev marked_signature : PlainFn → List Marked
marked_signature f = un (word_token keyword.Fn f.keyword) ∷ un (name_token f.name) ∷ (marked_option (marked_angled marked_generic 15) f.generics ++ un (sign_token sign.OpenParen f.from) ∷ (marked_option (marked_commas marked_field 15) f.params ++ un (sign_token sign.CloseParen f.to) ∷ marked_option marked_output f.output))

goes_signature : (n : ℕ) (f : PlainFn) (s : Symbol) (onto : Stack) → expand s (Some (kind.Word keyword.Fn)) ≡ take (fn_rest n ++ onto) → Goes outside (IsAt sign.OpenBrace) (marked_signature f) (s ∷ []) (one_block n ∷ onto)
goes_signature n f s onto e = step_to e (name_then f.name
    (part_then (goes_angle marked_generic generic_member generics (λ l p. p) f.generics) (λ rest p. other_sign sign.Less sign.OpenParen (λ e. cc))
    (sign_then sign.OpenParen f.from (fields_then 15 sign.CloseParen (fields sign.CloseParen (λ e. cc) type_close) f.params f.to (over_more (goes_output f.output) (one_block n ∷ onto))))))

goes_word : (w : AttributeWord) → expand attribute_word (Some (kind.Name (attribute_name w))) ≡ take []
goes_word attribute.Inline = refl
goes_word attribute.Export = refl

goes_attributes : (n : ℕ) (f : PlainFn) (others : List Attribute) (s : Symbol) (onto : Stack) → expand s (Some (kind.Sign sign.Hash)) ≡ take (attribute_rest n ++ onto) → expand s (Some (kind.Word keyword.Fn)) ≡ take (fn_rest n ++ onto) → Goes outside (IsAt sign.OpenBrace) (unmarked (flat_attributes others) ++ marked_signature f) (s ∷ []) (one_block n ∷ onto)
goes_attributes n f [] s onto h e = goes_signature n f s onto e
goes_attributes n f (a ∷ others) s onto h e = step_to h (sign_then sign.OpenBracket a.open (step (goes_word a.word) (sign_then sign.CloseBracket a.close
    (over_more (goes_attributes n f others (attributed n) [] refl refl) onto))))

goes_fn : (n : ℕ) (f : PlainFn) → GroupedBlock f.body → (s : Symbol) (onto : Stack) → expand s (Some (kind.Sign sign.Hash)) ≡ take (attribute_rest n ++ onto) → expand s (Some (kind.Word keyword.Fn)) ≡ take (fn_rest n ++ onto) → Goes outside Any (marked_item n (fn_item f)) (s ∷ []) onto
goes_fn n f g s onto h e = seq (goes_attributes n f f.attributes s onto h e) (over_more (goes-block n f.body g (one_block n) refl) onto) (λ rest p. block_first n f.body rest)

-- ---- modules

-- what takes an item and leaves this
pub record TakesItem (s : Symbol) (n : ℕ) (onto : Stack) : Type 0 where
  pub word : (w : Keyword) → expand s (Some (kind.Word w)) ≡ then_ (item_at n (Some (kind.Word w))) onto
  pub hash : expand s (Some (kind.Sign sign.Hash)) ≡ take (attribute_rest n ++ onto)

in_module : (n : ℕ) → TakesItem (module_items n) n (module_items n ∷ [])
in_module n = record { word = λ w. refl; hash = at_no _ skip _ (other_sign sign.CloseBrace sign.Hash (λ e. cc)) }

in_program : TakesItem program 64 (program ∷ [])
in_program = record { word = λ w. refl; hash = refl }

-- items from what takes one after the other
abbrev pub GoesItems : ℕ → PlainItems → Type 0
GoesItems n is = (s : Symbol) → TakesItem s n (s ∷ []) → Goes outside Any (marked_items n is) (s ∷ []) (s ∷ [])

goes_body : (n : ℕ) (from : Span) (is : PlainItems) (to : Span) → ((k : ℕ) → GoesItems k is) → Goes outside Any (over n (un (sign_token sign.OpenBrace from) ∷ []) ++ (marked_items (n - 1) is ++ un (sign_token sign.CloseBrace to) ∷ [])) (body n ∷ []) []
goes_body zero from is to g = refused refl
goes_body (suc k) from is to g = subst (λ j. Goes outside Any (un (sign_token sign.OpenBrace from) ∷ (marked_items j is ++ un (sign_token sign.CloseBrace to) ∷ [])) (body (suc k) ∷ []) []) (less_one k)
    (step_to (at_sign sign.OpenBrace _ fail) (part {from = module_items k ∷ []} (one_sign sign.CloseBrace ∷ []) (g k (module_items k) (in_module k))
    (left_before (module_items k) (λ r. refl) (λ rest q. at_sign sign.CloseBrace skip _) (sign_then sign.CloseBrace to (stays _))) (λ rest q. tt)))

goes_module : (n : ℕ) (at : Span) (name : Name) (from : Span) (is : PlainItems) (to : Span) → ((k : ℕ) → GoesItems k is) → (s : Symbol) (onto : Stack) → TakesItem s n onto → Goes outside Any (marked_item n (module_item at name from is to)) (s ∷ []) onto
goes_module n at name from is to g s onto t = step_to (t.word keyword.Mod) (name_then name (over_more (goes_body n from is to g) onto))

-- ---- all items

mutual
  pub goes-item : (n : ℕ) (i : PlainItem) → GroupedItem i → (s : Symbol) (onto : Stack) → TakesItem s n onto → Goes outside Any (marked_item n i) (s ∷ []) onto
  goes-item n (module_item at name from is to) g s onto t = goes_module n at name from is to (λ k. goes-items k is g) s onto t
  goes-item n (struct_item st) g s onto t = goes_struct st s onto (t.word keyword.Struct)
  goes-item n (const_item c) g s onto t = goes_const c s onto (t.word keyword.Const)
  goes-item n (fn_item f) g s onto t = goes_fn n f g s onto t.hash (t.word keyword.Fn)

  pub goes-items : (n : ℕ) (is : PlainItems) → GroupedItems is → GoesItems n is
  goes-items n no_items g s t = stays _
  goes-items n (items i is) g s t = seq (goes-item n i g.0 s (s ∷ []) t) (goes-items n is g.1 s t) (λ rest q. tt)

-- A program's tokens are gone through up to the first that passes a count, or to the end.
pub program_goes : (p : PlainItems) → GroupedItems p → fault (flat_items p) None (program ∷ []) ≡ stops (marked_program p) None [] (λ r. None)
program_goes p g =
    ap (λ ts. fault ts None (program ∷ [])) (sym (tokens-items 64 p) ∙ sym (append-nil (tokens_of (marked_program p))))
    ∙ (goes-items 64 p g program in_program).runs None refl [] [] tt
