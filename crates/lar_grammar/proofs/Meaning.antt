-- Which tokens each symbol stands for, and which a stack.
use Rattle.std.proofs.Common.{◌≡◌, ℕ, ℤ, ◌+◌, ◌-◌, ◌≤◌, List, [], ◌∷◌, ◌++◌, Option}
use Rattle.lar_source.specs.declared.file.Span.{Span}
use Rattle.lar_tree.specs.declared.keyword.Keyword.TheVariants as keyword
use Rattle.lar_tree.specs.declared.sign.Sign.TheVariants as sign
use Rattle.lar_tree.specs.declared.token.Token.{Token}
use Rattle.lar_tree.specs.declared.token.Kind.TheVariants as kind
use Rattle.lar_tree.specs.declared.name.Name.{Name}
use Rattle.lar_tree.specs.declared.name.Path.{Path}
use Rattle.lar_tree.specs.declared.name.Segment.{Segment}
use Rattle.lar_tree.specs.declared.ty.SignedNumber.{SignedNumber}
use Rattle.lar_tree.specs.declared.expr.Binary.{Binary}
use Rattle.lar_tree.specs.declared.expr.Selector.{Selector}
use Rattle.lar_tree.specs.declared.item.AttributeWord.{AttributeWord}
use Rattle.lar_tree.specs.declared.item.Generic.{Generic}
use Rattle.lar_tree.specs.Spelling.{sign_token, word_token, number_token, name_token, flat_path, flat_segments, flat_signed, flat_option}
use Rattle.lar_tree.specs.Types.{PlainTy, PlainArg, flat_type, flat_arg}
use Rattle.lar_tree.specs.Exprs.{PlainExpr, PlainInit, flat_expr, flat_init, selector_token, height, height_of, left_height, Grouped}
use Rattle.lar_tree.specs.Stmts.{PlainSetting, PlainBlock, PlainStmts, PlainElse, flat_block, flat_stmts, flat_else, flat_setting, IfThere, GroupedBlock, GroupedStmts, GroupedElse}
use Rattle.lar_tree.specs.Items.{PlainField, PlainOutput, PlainFn, PlainItems, attribute_name, flat_field, flat_generic, flat_name, flat_output, flat_head, flat_items, GroupedItems}
use Rattle.lar_grammar.specs.Symbols.{Listed, expr_member, init_member, field_member, arg_member, generic_member, name_member, type_member, Symbol, one_sign, one_word, one_name, one_number, signed_number, attribute_word, member, further, more, listed, angle, one_type, tuple_rest, segments, outer_type, level, operand, tails, post, selector, path_rest, sep_rest, new_rest, new_sep_rest, outer_expr, leave, return_rest, setting_rest, one_block, statements, else_part, branch, body, module_items, attributed, output, program, Stack}

-- a type with these tokens
abbrev pub TypeOf : List Token → Type 0
TypeOf f = (t : PlainTy) × (flat_type t ≡ f)

-- an expression of the grammar, no higher than h, with these tokens
abbrev pub ExprOf : ℕ → List Token → Type 0
ExprOf h f = (e : PlainExpr) × Grouped e × (height e ≤ h) × (flat_expr e ≡ f)

-- e may stand to the left of each sign that is not below low
abbrev pub Fits : ℕ → PlainExpr → Type 0
Fits low e = (op : Binary) → low ≤ height_of op → height e ≤ left_height op

-- the least height that a level has
abbrev pub at_least_one : ℕ → ℕ
at_least_one h = 1 + (h - 1)

-- ---- lists

abbrev pub OneOf : Listed → List Token → Type 0
OneOf expr_member f = ExprOf 6 f
OneOf init_member f = (i : PlainInit) × Grouped i.2 × (flat_init i ≡ f)
OneOf field_member f = (x : PlainField) × (flat_field x ≡ f)
OneOf arg_member f = (a : PlainArg) × (flat_arg a ≡ f)
OneOf generic_member f = (g : Generic) × (flat_generic g ≡ f)
OneOf name_member f = (n : Name) × (flat_name n ≡ f)
OneOf type_member f = TypeOf f

-- a member behind its comma
pub record Behind (w : Listed) : Type 0 where
  pub comma : Span
  pub tokens : List Token
  pub one : OneOf w tokens

abbrev pub flat_behind : {w : Listed} → List (Behind w) → List Token
flat_behind [] = []
flat_behind (b ∷ bs) = sign_token sign.Comma b.comma ∷ (b.tokens ++ flat_behind bs)

abbrev pub MoreOf : Listed → List Token → Type 0
MoreOf w f = (bs : List (Behind w)) × (flat_behind bs ≡ f)

-- a list of one member and more, or of none
pub data SomeOf (w : Listed) (f : List Token) : Type 0 where
  none_of : f ≡ [] → SomeOf w f
  some_of : (first : List Token) → OneOf w first → (bs : List (Behind w)) → first ++ flat_behind bs ≡ f → SomeOf w f

pub data AngledOf (w : Listed) (f : List Token) : Type 0 where
  no_angle : f ≡ [] → AngledOf w f
  in_angle : (from : Span) (first : List Token) → OneOf w first → (bs : List (Behind w)) (to : Span) → sign_token sign.Less from ∷ (first ++ (flat_behind bs ++ sign_token sign.Greater to ∷ [])) ≡ f → AngledOf w f

-- ---- all symbols

abbrev pub Is : Symbol → List Token → Type 0
Is (one_sign s) f = (at : Span) × (sign_token s at ∷ [] ≡ f)
Is (one_word w) f = (at : Span) × (word_token w at ∷ [] ≡ f)
Is one_name f = (n : Name) × (name_token n ∷ [] ≡ f)
Is one_number f = (n : ℤ) × (at : Span) × (number_token n at ∷ [] ≡ f)
Is signed_number f = (n : SignedNumber) × (flat_signed n ≡ f)
Is attribute_word f = (w : AttributeWord) × (at : Span) × (record { kind = kind.Name (attribute_name w); span = at } ∷ [] ≡ f)
Is (member w) f = OneOf w f
Is (further w n) f = OneOf w f
Is (more w n) f = MoreOf w f
Is (listed w n s) f = SomeOf w f
Is (angle w) f = AngledOf w f
Is one_type f = TypeOf f
Is tuple_rest f = (from : Span) → TypeOf (sign_token sign.OpenParen from ∷ f)
Is segments f = (ss : List Segment) × (flat_segments ss ≡ f)
Is outer_type f = TypeOf f
Is (level h) f = ExprOf (at_least_one h) f
Is operand f = ExprOf 1 f
Is (tails low h) f = (l : PlainExpr) → Grouped l → Fits low l → height l ≤ at_least_one h → ExprOf (at_least_one h) (flat_expr l ++ f)
Is post f = (l : PlainExpr) → Grouped l → height l ≤ 0 → ExprOf 0 (flat_expr l ++ f)
Is selector f = (s : Selector) × (selector_token s ∷ [] ≡ f)
Is path_rest f = (p : Path) → ExprOf 0 (flat_path p ++ f)
Is sep_rest f = (p : Path) (sep : Span) → ExprOf 0 (flat_path p ++ sign_token sign.PathSep sep ∷ f)
Is new_rest f = (at : Span) (p : Path) → ExprOf 0 (word_token keyword.New at ∷ (flat_path p ++ f))
Is new_sep_rest f = (at : Span) (p : Path) (sep : Span) → ExprOf 0 (word_token keyword.New at ∷ (flat_path p ++ sign_token sign.PathSep sep ∷ f))
Is outer_expr f = ExprOf 6 f
Is leave f = f ≡ []
Is return_rest f = (o : Option PlainExpr) × IfThere Grouped o × (end : Span) × (flat_option flat_expr o ++ sign_token sign.Semicolon end ∷ [] ≡ f)
Is setting_rest f = (o : Option PlainSetting) × IfThere (λ (s : PlainSetting). Grouped s.1) o × (end : Span) × (flat_option flat_setting o ++ sign_token sign.Semicolon end ∷ [] ≡ f)
Is (one_block n) f = (b : PlainBlock) × GroupedBlock b × (flat_block b ≡ f)
Is (statements n) f = (ss : PlainStmts) × GroupedStmts ss × (flat_stmts ss ≡ f)
Is (else_part n) f = (e : PlainElse) × GroupedElse e × (flat_else e ≡ f)
Is (branch n) f = (at : Span) → (e : PlainElse) × GroupedElse e × (flat_else e ≡ word_token keyword.Else at ∷ f)
Is (body n) f = (from : Span) × (is : PlainItems) × (to : Span) × GroupedItems is × (sign_token sign.OpenBrace from ∷ (flat_items is ++ sign_token sign.CloseBrace to ∷ []) ≡ f)
Is (module_items n) f = (is : PlainItems) × GroupedItems is × (flat_items is ≡ f)
Is (attributed n) f = (g : PlainFn) × GroupedBlock g.body × (flat_head g ++ flat_block g.body ≡ f)
Is output f = (o : Option PlainOutput) × (flat_option flat_output o ≡ f)
Is program f = (is : PlainItems) × GroupedItems is × (flat_items is ≡ f)

-- the tokens of a stack are those of its symbols, in order
abbrev pub Completes : Stack → List Token → Type 0
Completes [] w = w ≡ []
Completes (s ∷ ss) w = (f : List Token) × (g : List Token) × (w ≡ f ++ g) × Is s f × Completes ss g
