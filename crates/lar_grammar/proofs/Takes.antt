-- What is read begins a tree: a token that a symbol takes, and what completes the stack behind it, are what the symbol stands for.
use Rattle.std.proofs.Common.{◌≡◌, List, [], ◌∷◌, Some, Bool, sym, ap, ◌∙◌}
use Rattle.lar_tree.specs.declared.keyword.Keyword.{Keyword}
use Rattle.lar_tree.specs.declared.sign.Sign.{Sign}
use Rattle.lar_tree.specs.declared.token.Token.{Token}
use Rattle.lar_grammar.specs.Looks.{is_sign, is_word, is_name, is_number}
use Rattle.lar_grammar.specs.Symbols.{Symbol, one_sign, one_word, one_name, one_number, signed_number, attribute_word, member, further, more, listed, angle, one_type, tuple_rest, segments, outer_type, level, operand, tails, post, selector, path_rest, sep_rest, new_rest, new_sep_rest, outer_expr, leave, return_rest, setting_rest, one_block, statements, else_part, branch, body, module_items, attributed, output, program, Stack, take, fail, when}
use Rattle.lar_grammar.specs.Moves.{expand}
use Rattle.lar_grammar.proofs.Meaning.{Is, Completes}
use Rattle.lar_grammar.proofs.Taking.{body_of, when-else, from_body, take-sign, take-word, take-name, take-number}
use Rattle.lar_grammar.proofs.TakesTypes.{takes-signed, takes-type, takes-tuple_rest, takes-segments, takes-outer_type}
use Rattle.lar_grammar.proofs.TakesExprs.{takes-selector, takes-post, takes-path_rest, takes-sep_rest, takes-new_rest, takes-new_sep_rest, takes-operand, takes-tails, takes-level, takes-outer_expr}
use Rattle.lar_grammar.proofs.TakesLists.{takes-begin, takes-further, takes-more, takes-listed, takes-angle}
use Rattle.lar_grammar.proofs.TakesStmts.{takes-return_rest, takes-setting_rest, takes-one_block, takes-statements, takes-else_part, takes-branch}
use Rattle.lar_grammar.proofs.TakesItems.{takes-attribute_word, takes-body, takes-module_items, takes-attributed, takes-output, takes-program}

-- a token that is taken alone
taken_alone : (b : Bool) (t u : Token) (ss : Stack) (f : List Token) → body_of (when b (take []) fail) ≡ Some ss → Completes ss f → t ≡ u → u ∷ [] ≡ t ∷ f
taken_alone b t u ss f e c p = ap (λ x. x ∷ []) (sym p) ∙ ap (λ x. t ∷ x) (sym (from_body [] ss f (when-else b [] ss e).1 c))

takes-one_sign : (s : Sign) (t : Token) (ss : Stack) (f : List Token) → body_of (expand (one_sign s) (Some t.kind)) ≡ Some ss → Completes ss f → Is (one_sign s) (t ∷ f)
takes-one_sign s t ss f e c = (t.span, taken_alone _ t _ ss f e c (take-sign s t (when-else (is_sign s (Some t.kind)) [] ss e).0))

takes-one_word : (w : Keyword) (t : Token) (ss : Stack) (f : List Token) → body_of (expand (one_word w) (Some t.kind)) ≡ Some ss → Completes ss f → Is (one_word w) (t ∷ f)
takes-one_word w t ss f e c = (t.span, taken_alone _ t _ ss f e c (take-word w t (when-else (is_word w (Some t.kind)) [] ss e).0))

takes-one_name : (t : Token) (ss : Stack) (f : List Token) → body_of (expand one_name (Some t.kind)) ≡ Some ss → Completes ss f → Is one_name (t ∷ f)
takes-one_name t ss f e c =
    let n = take-name t (when-else (is_name (Some t.kind)) [] ss e).0 in
    (n.0, taken_alone _ t _ ss f e c n.1)

takes-one_number : (t : Token) (ss : Stack) (f : List Token) → body_of (expand one_number (Some t.kind)) ≡ Some ss → Completes ss f → Is one_number (t ∷ f)
takes-one_number t ss f e c =
    let n = take-number t (when-else (is_number (Some t.kind)) [] ss e).0 in
    (n.0, t.span, taken_alone _ t _ ss f e c n.1)

pub takes : (s : Symbol) (t : Token) (ss : Stack) (f : List Token) → body_of (expand s (Some t.kind)) ≡ Some ss → Completes ss f → Is s (t ∷ f)
takes (one_sign s) t ss f e c = takes-one_sign s t ss f e c
takes (one_word w) t ss f e c = takes-one_word w t ss f e c
takes one_name t ss f e c = takes-one_name t ss f e c
takes one_number t ss f e c = takes-one_number t ss f e c
takes signed_number t ss f e c = takes-signed t ss f e c
takes attribute_word t ss f e c = takes-attribute_word t ss f e c
takes (member w) t ss f e c = takes-begin w t ss f e c
takes (further w n) t ss f e c = takes-further w n t ss f e c
takes (more w n) t ss f e c = takes-more w n t ss f e c
takes (listed w n s) t ss f e c = takes-listed w n s t ss f e c
takes (angle w) t ss f e c = takes-angle w t ss f e c
takes one_type t ss f e c = takes-type t ss f e c
takes tuple_rest t ss f e c = takes-tuple_rest t ss f e c
takes segments t ss f e c = takes-segments t ss f e c
takes outer_type t ss f e c = takes-outer_type t ss f e c
takes (level h) t ss f e c = takes-level h t ss f e c
takes operand t ss f e c = takes-operand t ss f e c
takes (tails low h) t ss f e c = takes-tails low h t ss f e c
takes post t ss f e c = takes-post t ss f e c
takes selector t ss f e c = takes-selector t ss f e c
takes path_rest t ss f e c = takes-path_rest t ss f e c
takes sep_rest t ss f e c = takes-sep_rest t ss f e c
takes new_rest t ss f e c = takes-new_rest t ss f e c
takes new_sep_rest t ss f e c = takes-new_sep_rest t ss f e c
takes outer_expr t ss f e c = takes-outer_expr t ss f e c
takes leave t ss f e c = cc
takes return_rest t ss f e c = takes-return_rest t ss f e c
takes setting_rest t ss f e c = takes-setting_rest t ss f e c
takes (one_block n) t ss f e c = takes-one_block n t ss f e c
takes (statements n) t ss f e c = takes-statements n t ss f e c
takes (else_part n) t ss f e c = takes-else_part n t ss f e c
takes (branch n) t ss f e c = takes-branch n t ss f e c
takes (body n) t ss f e c = takes-body n t ss f e c
takes (module_items n) t ss f e c = takes-module_items n t ss f e c
takes (attributed n) t ss f e c = takes-attributed n t ss f e c
takes output t ss f e c = takes-output t ss f e c
takes program t ss f e c = takes-program t ss f e c
