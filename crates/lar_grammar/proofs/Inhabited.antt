-- Each symbol stands for some tokens, so each stack is completed by some.
use Rattle.std.proofs.Common.{ℕ, pos, List, [], ◌∷◌, ◌++◌, Option, Some, None, refl, arith}
use Rattle.lar_source.specs.declared.file.Span.{Span}
use Rattle.lar_tree.specs.declared.keyword.Keyword.TheVariants as keyword
use Rattle.lar_tree.specs.declared.sign.Sign.TheVariants as sign
use Rattle.lar_tree.specs.declared.token.Token.{Token}
use Rattle.lar_tree.specs.declared.token.Kind.TheVariants as kind
use Rattle.lar_tree.specs.declared.expr.Selector.TheVariants as selector_of
use Rattle.lar_tree.specs.declared.item.AttributeWord.TheVariants as attribute
use Rattle.lar_tree.specs.declared.item.Generic.TheVariants as generic
use Rattle.lar_tree.specs.Spelling.{sign_token, word_token, number_token, name_token}
use Rattle.lar_tree.specs.Types.{int_type, unit_type, type_arg, angle_args, last_arg}
use Rattle.lar_tree.specs.Exprs.{PlainTurbofish, truth, new_struct, call, no_parts, no_inits}
use Rattle.lar_tree.specs.Stmts.{PlainBlock, block, no_stmts, no_else, else_block, flat_block}
use Rattle.lar_tree.specs.Items.{PlainFn, no_items, attribute_name, flat_head}
use Rattle.lar_grammar.specs.Symbols.{Listed, expr_member, init_member, field_member, arg_member, generic_member, name_member, type_member, Symbol, one_sign, one_word, one_name, one_number, signed_number, attribute_word, member, further, more, listed, angle, one_type, tuple_rest, segments, outer_type, level, operand, tails, post, selector, path_rest, sep_rest, new_rest, new_sep_rest, outer_expr, leave, return_rest, setting_rest, one_block, statements, else_part, branch, body, module_items, attributed, output, program, Stack}
use Rattle.lar_grammar.proofs.Meaning.{ExprOf, at_least_one, OneOf, none_of, no_angle, TypeOf, Is, Completes}
use Rattle.lar_grammar.proofs.Taking.{somewhere, some_name}
use Rattle.lar_grammar.proofs.LeftOut.{no_tails, no_post, no_path_rest}

some_expr : (h : ℕ) → (f : List Token) × ExprOf h f
some_expr h = (word_token keyword.True somewhere ∷ [], (truth somewhere, tt, omega arith, refl))

some_type : (f : List Token) × TypeOf f
some_type = (word_token keyword.I64 somewhere ∷ [], (int_type somewhere, refl))

-- the tokens of one member
some_one : (w : Listed) → (f : List Token) × OneOf w f
some_one expr_member = some_expr 6
some_one init_member = (name_token some_name ∷ sign_token sign.Colon somewhere ∷ word_token keyword.True somewhere ∷ [], ((some_name, somewhere, truth somewhere), tt, refl))
some_one field_member = (name_token some_name ∷ sign_token sign.Colon somewhere ∷ word_token keyword.I64 somewhere ∷ [], ((some_name, somewhere, int_type somewhere), refl))
some_one arg_member = (word_token keyword.I64 somewhere ∷ [], (type_arg (int_type somewhere), refl))
some_one generic_member = (name_token some_name ∷ [], (generic.Ty some_name, refl))
some_one name_member = (name_token some_name ∷ [], (some_name, refl))
some_one type_member = some_type

-- `<i64>` behind a `::`
turbofish : Span → Option PlainTurbofish
turbofish sep = Some (sep, angle_args somewhere (type_arg (int_type somewhere)) last_arg somewhere)

angled_tokens : List Token
angled_tokens = sign_token sign.Less somewhere ∷ word_token keyword.I64 somewhere ∷ sign_token sign.Greater somewhere ∷ []

parens : List Token
parens = sign_token sign.OpenParen somewhere ∷ sign_token sign.CloseParen somewhere ∷ []

braces : List Token
braces = sign_token sign.OpenBrace somewhere ∷ sign_token sign.CloseBrace somewhere ∷ []

some_sep_rest : Is sep_rest (angled_tokens ++ parens)
unfolding turbofish angled_tokens parens
some_sep_rest p sep = (call p (turbofish sep) somewhere no_parts somewhere, tt, omega arith, refl)

some_new_rest : Is new_rest braces
unfolding braces
some_new_rest at p = (new_struct at p None somewhere no_inits somewhere, tt, omega arith, refl)

some_new_sep_rest : Is new_sep_rest (angled_tokens ++ braces)
unfolding turbofish angled_tokens braces
some_new_sep_rest at p sep = (new_struct at p (turbofish sep) somewhere no_inits somewhere, tt, omega arith, refl)

some_block : PlainBlock
some_block = block somewhere no_stmts somewhere

some_fn : PlainFn
some_fn = record { attributes = []; keyword = somewhere; name = some_name; generics = None; from = somewhere; params = None; to = somewhere; output = None; body = some_block }

pub inhabited : (s : Symbol) → (f : List Token) × Is s f
unfolding braces some_block some_fn
inhabited (one_sign s) = (sign_token s somewhere ∷ [], (somewhere, refl))
inhabited (one_word w) = (word_token w somewhere ∷ [], (somewhere, refl))
inhabited one_name = (name_token some_name ∷ [], (some_name, refl))
inhabited one_number = (number_token (pos 0) somewhere ∷ [], (pos 0, somewhere, refl))
inhabited signed_number = (number_token (pos 0) somewhere ∷ [], (record { minus = None; value = pos 0; span = somewhere }, refl))
inhabited attribute_word = (record { kind = kind.Name (attribute_name attribute.Inline); span = somewhere } ∷ [], (attribute.Inline, somewhere, refl))
inhabited (member w) = some_one w
inhabited (further w n) = some_one w
inhabited (more w n) = ([], ([], refl))
inhabited (listed w n s) = ([], none_of refl)
inhabited (angle w) = ([], no_angle refl)
inhabited one_type = some_type
inhabited tuple_rest = (sign_token sign.CloseParen somewhere ∷ [], λ from. (unit_type from somewhere, refl))
inhabited segments = ([], ([], refl))
inhabited outer_type = some_type
inhabited (level h) = some_expr (at_least_one h)
inhabited operand = some_expr 1
inhabited (tails low h) = ([], no_tails low h)
inhabited post = ([], no_post)
inhabited selector = (name_token some_name ∷ [], (selector_of.Name some_name, refl))
inhabited path_rest = ([], no_path_rest)
inhabited sep_rest = (angled_tokens ++ parens, some_sep_rest)
inhabited new_rest = (braces, some_new_rest)
inhabited new_sep_rest = (angled_tokens ++ braces, some_new_sep_rest)
inhabited outer_expr = some_expr 6
inhabited leave = ([], refl)
inhabited return_rest = (sign_token sign.Semicolon somewhere ∷ [], (None, tt, somewhere, refl))
inhabited setting_rest = (sign_token sign.Semicolon somewhere ∷ [], (None, tt, somewhere, refl))
inhabited (one_block n) = (braces, (some_block, tt, refl))
inhabited (statements n) = ([], (no_stmts, tt, refl))
inhabited (else_part n) = ([], (no_else, tt, refl))
inhabited (branch n) = (braces, λ at. (else_block at some_block, tt, refl))
inhabited (body n) = (braces, (somewhere, no_items, somewhere, tt, refl))
inhabited (module_items n) = ([], (no_items, tt, refl))
inhabited (attributed n) = (flat_head some_fn ++ flat_block some_block, (some_fn, tt, refl))
inhabited output = ([], (None, refl))
inhabited program = ([], (no_items, tt, refl))

pub completed : (ss : Stack) → (w : List Token) × Completes ss w
completed [] = ([], refl)
completed (s ∷ ss) =
    let a = inhabited s in
    let b = completed ss in
    (a.0 ++ b.0, (a.0, b.0, refl, a.1, b.1))
