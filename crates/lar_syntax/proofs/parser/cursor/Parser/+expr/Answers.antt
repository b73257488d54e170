use Rattle.std.proofs.Common.{refl, [], ◌∷◌, ◌++◌, ◌∙◌, sym, ap, subst, arith, ◌-◌, Some, append-nil}
use Rattle.std.proofs.lemmas.Result.{err_from_is_err_and}
use Rattle.lar_tree.specs.declared.keyword.Keyword.TheVariants as keyword
use Rattle.lar_tree.specs.declared.sign.Sign.TheVariants as sign
use Rattle.lar_tree.specs.declared.commas.Commas.{Commas}
use Rattle.lar_tree.specs.declared.expr.Expr.{Expr}
use Rattle.lar_tree.specs.Spelling.{word_token, flat_path}
use Rattle.lar_tree.specs.Exprs.{flat_expr}
use Rattle.lar_grammar.specs.Symbols.{expr_member, init_member, arg_member, one_sign, one_name, member, more, listed, level, operand, tails, post, path_rest, sep_rest, new_rest, new_sep_rest}
use Rattle.lar_grammar.specs.Moves.{next_low, angle_rest, in_parens, in_braces}
use Rattle.lar_grammar.specs.Machine.{fault}
use Rattle.lar_grammar.proofs.Openings.{levelled, listed_opens, member_expr, member_init}
use Rattle.lar_syntax.specs.Reads.{expr_tokens}
use Rattle.lar_syntax.specs.ReadsExprs.{parts_tokens, AreParts, inits_tokens, turbofish_tokens, generics_tokens}
use Rattle.lar_syntax.proofs.Flow.{onward, unmoved, sign_token_is, ends_with, joins}
use Rattle.lar_syntax.proofs.FlowExprs.{behind_to, reach_within, operator_token, operates, fits_first, binary_fits, binary_low, binary_grouped}
use Rattle.lar_syntax.proofs.FlowCalls.{sign_moves, sign_opens, operand_named, sep_named, new_sep_named, path_ends, new_opens, path_grows, enclosed, no_more, one_more, parts_grow, parts_grouped, inits_grow, inits_grouped}
use Rattle.lar_grammar.specs.Moves.{expand}
use Rattle.lar_grammar.proofs.Taking.{sign-found}
use Rattle.lar_syntax.proofs.parser.cursor.Parser.+expr.Goals as goal

-- ---- climb

pub climb-returns-in_err-left-clause-reads : goal.climb-returns-in_err-left-clause-reads
climb-returns-in_err-left-clause-reads t c =
    let A = c.args.self.now in
    let x = err_from_is_err_and c.from_residual.result c.from_residual.ensures.1 in
    rw (x.1, x.2) (onward (level c.args.high ∷ []) (operand ∷ []) (tails 2 c.args.high ∷ []) _ A A _ (λ ss. levelled A.rest.now A.room c.args.high ss) c.in_err-left.ensures.reads)

pub climb-operators-init : goal.climb-operators-init
climb-operators-init t c =
    let A = c.args.self.now in
    let e = c.in_ok-left.ensures in
    record {
      takes = e.reads.0;
      passes = λ ss. levelled A.rest.now A.room c.args.high ss ∙ e.reads.1 (tails 2 c.args.high ∷ ss);
      grouped = (omega (arith, e.grouped.0), e.grouped.1);
      fits = λ op k. fits_first _ op e.grouped.0;
      shorter = e.shorter;
    }

pub climb-returns-in_err-right-clause-reads : goal.climb-returns-in_err-right-clause-reads
climb-returns-in_err-right-clause-reads t c =
    let A = c.args.self.now in
    let seen = sym c.operator.ensures ∙ c.in-Some.is in
    let i = c.operators.invariant in
    let x = err_from_is_err_and c.from_residual-in_err-right.result c.from_residual-in_err-right.ensures.1 in
    rw (x.1, x.2) (onward (level c.args.high ∷ []) (level (c.height.result - 1) ∷ []) (tails (next_low c.in-Some.op) c.args.high ∷ []) _ A c.advance.new.self _ (λ ss. i.passes ss ∙ operates c.operators.self c.advance.new.self c.operators.low c.args.high c.height.result _ _ ss c.height.ensures seen c.in_ok-at.ensures.advances) c.in_err-right.ensures.reads)

pub climb-operators-preserved : goal.climb-operators-preserved
climb-operators-preserved t c =
    let seen = sym c.operator.ensures ∙ c.in-Some.is in
    let i = c.operators.invariant in
    let a = c.in_ok-at.ensures.advances in
    let r = c.in_ok-right.ensures in
    let e = c.in_ok-left-2.ensures in
    let w = reach_within c.operators.low c.args.high _ _ seen in
    record {
      takes = joins _ _ _ _ _ _ _ i.takes (operator_token c.operators.self c.advance.new.self c.operators.low c.args.high _ _ seen a) r.reads.0 ∙ ap (λ e. flat_expr e ++ c.climb.new.self.rest.now) (sym e);
      passes = λ ss. i.passes ss ∙ operates c.operators.self c.advance.new.self c.operators.low c.args.high c.height.result _ _ ss c.height.ensures seen a ∙ r.reads.1 (tails (next_low c.in-Some.op) c.args.high ∷ ss) ∙ ap (λ k. fault c.climb.new.self.rest.now c.climb.new.self.room (tails k c.args.high ∷ ss)) (sym c.next_low-low.ensures);
      grouped = (binary_low _ _ _ _ _ c.args.high e w.1, binary_grouped _ _ _ _ _ c.height.result e c.height.ensures (i.fits _ w.0) i.grouped.1 r.grouped.0 r.grouped.1);
      fits = λ next h. binary_fits _ _ _ _ next _ _ e c.next_low-low.ensures h;
      shorter = omega arith;
    }

-- ---- lists

pub parts-returns-in_err-first-clause-reads : goal.parts-returns-in_err-first-clause-reads
parts-returns-in_err-first-clause-reads t c =
    let A = c.args.self.now in
    let x = err_from_is_err_and c.from_residual.result c.from_residual.ensures.1 in
    rw (x.1, x.2) (onward (listed expr_member c.args.most sign.CloseParen ∷ []) (level 6 ∷ []) (more expr_member c.args.most ∷ []) _ A A _ (λ ss. listed_opens A.rest.now A.room expr_member c.args.most sign.CloseParen ss (sym c.sees.ensures ∙ c.if-sees.false) ∙ member_expr A.rest.now A.room (more expr_member c.args.most ∷ ss)) c.in_err-first.ensures.reads)

pub parts-commas-init : goal.parts-commas-init
parts-commas-init t c =
    let A = c.args.self.now in
    let e = c.in_ok-first.ensures in
    record {
      takes = e.reads.0 ∙ ap (λ x. x ++ c.climb.new.self.rest.now) (sym (append-nil (expr_tokens c.in_ok-first.first))) ∙ ap (λ l. parts_tokens (Some l) ++ c.climb.new.self.rest.now) (sym c.one-list.ensures);
      passes = λ ss. listed_opens A.rest.now A.room expr_member c.args.most sign.CloseParen ss (sym c.sees.ensures ∙ c.if-sees.false) ∙ member_expr A.rest.now A.room (more expr_member c.args.most ∷ ss) ∙ e.reads.1 (more expr_member c.args.most ∷ ss);
      grouped = subst (λ (l : Commas Expr). AreParts (Some l)) (sym c.one-list.ensures) (e.grouped.1, tt);
      shorter = e.shorter;
    }

pub parts-returns-then-left-eq0-clause-reads : goal.parts-returns-then-left-eq0-clause-reads
parts-returns-then-left-eq0-clause-reads t c =
    let seen = sym c.sees-in-commas.ensures ∙ c.commas-test.true in
    λ ss. c.commas.invariant.passes ss ∙ no_more c.commas.self c.advance.new.self expr_member c.commas.left _ ss seen c.in_ok-comma.ensures.advances c.if-left-eq0.true

pub parts-returns-in_err-value-clause-reads : goal.parts-returns-in_err-value-clause-reads
parts-returns-in_err-value-clause-reads t c =
    let A = c.args.self.now in
    let seen = sym c.sees-in-commas.ensures ∙ c.commas-test.true in
    let x = err_from_is_err_and c.from_residual-in_err-value.result c.from_residual-in_err-value.ensures.1 in
    rw (x.1, x.2) (onward (listed expr_member c.args.most sign.CloseParen ∷ []) (level 6 ∷ []) (more expr_member (c.commas.left - 1) ∷ []) _ A c.advance.new.self _ (λ ss. c.commas.invariant.passes ss ∙ one_more c.commas.self c.advance.new.self expr_member c.commas.left _ ss seen c.in_ok-comma.ensures.advances (omega arith) ∙ member_expr c.advance.new.self.rest.now c.advance.new.self.room (more expr_member (c.commas.left - 1) ∷ ss)) c.in_err-value.ensures.reads)

pub parts-commas-preserved : goal.parts-commas-preserved
parts-commas-preserved t c =
    let seen = sym c.sees-in-commas.ensures ∙ c.commas-test.true in
    let i = c.commas.invariant in
    let a = c.in_ok-comma.ensures.advances in
    let v = c.in_ok-value.ensures in
    let z = c.in_ok-push.ensures.ok in
    record {
      takes = parts_grow _ _ _ _ c.commas.list c.push.new.self _ _ i.takes (sign_token_is c.commas.self c.advance.new.self sign.Comma _ seen a) v.reads.0 z;
      passes = λ ss. i.passes ss ∙ one_more c.commas.self c.advance.new.self expr_member c.commas.left _ ss seen a (omega arith) ∙ member_expr c.advance.new.self.rest.now c.advance.new.self.room (more expr_member (c.commas.left - 1) ∷ ss) ∙ v.reads.1 (more expr_member (c.commas.left - 1) ∷ ss);
      grouped = parts_grouped c.commas.list c.push.new.self _ i.grouped v.grouped.1 z;
      shorter = omega arith;
    }

pub inits-returns-in_err-first-clause-reads : goal.inits-returns-in_err-first-clause-reads
inits-returns-in_err-first-clause-reads t c =
    let A = c.args.self.now in
    let x = err_from_is_err_and c.from_residual.result c.from_residual.ensures.1 in
    rw (x.1, x.2) (onward (listed init_member c.args.most sign.CloseBrace ∷ []) (member init_member ∷ []) (more init_member c.args.most ∷ []) _ A A _ (λ ss. listed_opens A.rest.now A.room init_member c.args.most sign.CloseBrace ss (sym c.sees.ensures ∙ c.if-sees.false)) c.in_err-first.ensures.reads)

pub inits-returns-then-left-eq0-clause-reads : goal.inits-returns-then-left-eq0-clause-reads
inits-returns-then-left-eq0-clause-reads t c =
    let seen = sym c.sees-in-commas.ensures ∙ c.commas-test.true in
    λ ss. c.commas.invariant.passes ss ∙ no_more c.commas.self c.advance.new.self init_member c.commas.left _ ss seen c.in_ok-comma.ensures.advances c.if-left-eq0.true

pub inits-returns-in_err-value-clause-reads : goal.inits-returns-in_err-value-clause-reads
inits-returns-in_err-value-clause-reads t c =
    let A = c.args.self.now in
    let seen = sym c.sees-in-commas.ensures ∙ c.commas-test.true in
    let x = err_from_is_err_and c.from_residual-in_err-value.result c.from_residual-in_err-value.ensures.1 in
    rw (x.1, x.2) (onward (listed init_member c.args.most sign.CloseBrace ∷ []) (member init_member ∷ []) (more init_member (c.commas.left - 1) ∷ []) _ A c.advance.new.self _ (λ ss. c.commas.invariant.passes ss ∙ one_more c.commas.self c.advance.new.self init_member c.commas.left _ ss seen c.in_ok-comma.ensures.advances (omega arith)) c.in_err-value.ensures.reads)

pub inits-commas-preserved : goal.inits-commas-preserved
inits-commas-preserved t c =
    let seen = sym c.sees-in-commas.ensures ∙ c.commas-test.true in
    let i = c.commas.invariant in
    let a = c.in_ok-comma.ensures.advances in
    let v = c.in_ok-value.ensures in
    let z = c.in_ok-push.ensures.ok in
    record {
      takes = inits_grow _ _ _ _ c.commas.list c.push.new.self _ _ i.takes (sign_token_is c.commas.self c.advance.new.self sign.Comma _ seen a) v.reads.0 z;
      passes = λ ss. i.passes ss ∙ one_more c.commas.self c.advance.new.self init_member c.commas.left _ ss seen a (omega arith) ∙ v.reads.1 (more init_member (c.commas.left - 1) ∷ ss);
      grouped = inits_grouped c.commas.list c.push.new.self _ i.grouped v.grouped z;
      shorter = omega arith;
    }

-- ---- init

pub init-returns-in_err-name-clause-reads : goal.init-returns-in_err-name-clause-reads
init-returns-in_err-name-clause-reads t c =
    let A = c.args.self.now in
    let x = err_from_is_err_and c.from_residual.result c.from_residual.ensures.1 in
    rw (x.1, x.2) (onward (member init_member ∷ []) (one_name ∷ []) (one_sign sign.Colon ∷ level 6 ∷ []) _ A A _ (λ ss. member_init A.rest.now A.room ss) c.in_err-name.ensures.reads)

pub init-returns-in_err-colon-clause-reads : goal.init-returns-in_err-colon-clause-reads
init-returns-in_err-colon-clause-reads t c =
    let A = c.args.self.now in
    let x = err_from_is_err_and c.from_residual-in_err-colon.result c.from_residual-in_err-colon.ensures.1 in
    rw (x.1, x.2) (onward (member init_member ∷ []) (one_sign sign.Colon ∷ []) (level 6 ∷ []) _ A c.name.new.self _ (λ ss. member_init A.rest.now A.room ss ∙ c.in_ok-name.ensures.reads.1 (one_sign sign.Colon ∷ level 6 ∷ ss)) c.in_err-colon.ensures.reads)

pub init-returns-in_err-value-clause-reads : goal.init-returns-in_err-value-clause-reads
init-returns-in_err-value-clause-reads t c =
    let A = c.args.self.now in
    let x = err_from_is_err_and c.from_residual-in_err-value.result c.from_residual-in_err-value.ensures.1 in
    rw (x.1, x.2) (onward (member init_member ∷ []) (level 6 ∷ []) [] _ A c.expect.new.self _ (λ ss. member_init A.rest.now A.room ss ∙ c.in_ok-name.ensures.reads.1 (one_sign sign.Colon ∷ level 6 ∷ ss) ∙ c.in_ok-colon.ensures.reads.1 (level 6 ∷ ss)) c.in_err-value.ensures.reads)

-- ---- calls and new structs

pub call-returns-clause-reads : goal.call-returns-clause-reads
call-returns-clause-reads t c =
    let f = c.in_ok-from.ensures.reads in
    let l = c.in_ok-args.ensures.reads in
    let e = c.in_ok-to.ensures.reads in (
      enclosed (flat_path c.args.path) (generics_tokens c.args.generics) _ _ _ _ (parts_tokens c.in_ok-args.args) _ _ f.0 l.0 e.0 ∙ ap (λ e. flat_expr e ++ c.expect-2.new.self.rest.now) (sym (c.in_ok-whole.ensures ∙ c.new.ensures)),
      λ ss. f.1 (listed expr_member 15 sign.CloseParen ∷ one_sign sign.CloseParen ∷ ss) ∙ l.1 (one_sign sign.CloseParen ∷ ss) ∙ e.1 ss,
    )

pub made-returns-clause-reads : goal.made-returns-clause-reads
made-returns-clause-reads t c =
    let f = c.in_ok-from.ensures.reads in
    let l = c.in_ok-inits.ensures.reads in
    let e = c.in_ok-to.ensures.reads in (
      ap (λ x. word_token keyword.New c.args.at ∷ x) (enclosed (flat_path c.args.path) (generics_tokens c.args.generics) _ _ _ _ (inits_tokens c.in_ok-inits.inits) _ _ f.0 l.0 e.0) ∙ ap (λ e. flat_expr e ++ c.expect-2.new.self.rest.now) (sym (c.in_ok-whole.ensures ∙ c.new-new.ensures)),
      λ ss. f.1 (listed init_member 63 sign.CloseBrace ∷ one_sign sign.CloseBrace ∷ ss) ∙ l.1 (one_sign sign.CloseBrace ∷ ss) ∙ e.1 ss,
    )

-- ---- names

pub named-returns-in_err-first-clause-reads : goal.named-returns-in_err-first-clause-reads
named-returns-in_err-first-clause-reads t c =
    let A = c.args.self.now in
    let x = err_from_is_err_and c.from_residual.result c.from_residual.ensures.1 in
    rw (x.1, x.2) (onward (operand ∷ []) (one_name ∷ []) (path_rest ∷ post ∷ []) _ A A _ (λ ss. operand_named A ss c.requires) c.in_err-first.ensures.reads)

pub named-returns-in_err-sep-clause-reads : goal.named-returns-in_err-sep-clause-reads
named-returns-in_err-sep-clause-reads t c =
    let A = c.args.self.now in
    let seen = sym c.sees.ensures ∙ c.segments-test.true in
    let x = err_from_is_err_and c.from_residual-in_err-sep.result c.from_residual-in_err-sep.ensures.1 in
    rw (x.1, x.2) (unmoved (operand ∷ []) (post ∷ []) path_rest (sep_rest ∷ []) _ A c.segments.self _ (λ ss. c.segments.invariant.passes ss) (ap (expand path_rest) (sign-found sign.PathSep _ seen)) c.in_err-sep.ensures.advances)

pub named-returns-in_err-generics-clause-reads : goal.named-returns-in_err-generics-clause-reads
named-returns-in_err-generics-clause-reads t c =
    let A = c.args.self.now in
    let seen = sym c.sees.ensures ∙ c.segments-test.true in
    let i = c.segments.invariant in
    let a = c.in_ok-sep.ensures.advances in
    let x = err_from_is_err_and c.from_residual-in_err-generics.result c.from_residual-in_err-generics.ensures.1 in
    rw (x.1, x.2) (onward (operand ∷ []) (one_sign sign.Less ∷ angle_rest arg_member) (one_sign sign.OpenParen ∷ in_parens expr_member 15 ++ post ∷ []) _ A c.advance.new.self _ (λ ss. i.passes ss ∙ sign_moves c.segments.self c.advance.new.self path_rest sign.PathSep (sep_rest ∷ []) _ (post ∷ ss) seen refl a ∙ sign_opens c.advance.new.self sep_rest sign.Less (angle_rest arg_member ++ one_sign sign.OpenParen ∷ in_parens expr_member 15) (post ∷ ss) (sym c.sees-in-segments.ensures ∙ c.if-sees.true) refl) c.in_err-generics.ensures.reads)

pub named-returns-then-sees-clause-reads : goal.named-returns-then-sees-clause-reads
named-returns-then-sees-clause-reads t c =
    let A = c.args.self.now in
    let seen = sym c.sees.ensures ∙ c.segments-test.true in
    let i = c.segments.invariant in
    let a = c.in_ok-sep.ensures.advances in
    let g = c.in_ok-generics.ensures.reads in
    behind_to expr_tokens (flat_path c.segments.path ++ generics_tokens (Some c.in_ok-generics.generics)) (operand ∷ []) (one_sign sign.OpenParen ∷ in_parens expr_member 15) (post ∷ []) A c.turbofish.new.self c.call.result _ (ends_with A.rest.now c.segments.self.rest.now c.turbofish.new.self.rest.now (flat_path c.segments.path) (turbofish_tokens c.in_ok-generics.generics) i.takes (sign_token_is c.segments.self c.advance.new.self sign.PathSep _ seen a ∙ g.0)) (λ ss. i.passes ss ∙ sign_moves c.segments.self c.advance.new.self path_rest sign.PathSep (sep_rest ∷ []) _ (post ∷ ss) seen refl a ∙ sign_opens c.advance.new.self sep_rest sign.Less (angle_rest arg_member ++ one_sign sign.OpenParen ∷ in_parens expr_member 15) (post ∷ ss) (sym c.sees-in-segments.ensures ∙ c.if-sees.true) refl ∙ g.1 (one_sign sign.OpenParen ∷ in_parens expr_member 15 ++ post ∷ ss)) c.call.ensures.reads

pub named-returns-in_err-name-clause-reads : goal.named-returns-in_err-name-clause-reads
named-returns-in_err-name-clause-reads t c =
    let A = c.args.self.now in
    let seen = sym c.sees.ensures ∙ c.segments-test.true in
    let i = c.segments.invariant in
    let a = c.in_ok-sep.ensures.advances in
    let x = err_from_is_err_and c.from_residual-in_err-name.result c.from_residual-in_err-name.ensures.1 in
    rw (x.1, x.2) (onward (operand ∷ []) (one_name ∷ []) (path_rest ∷ post ∷ []) _ A c.advance.new.self _ (λ ss. i.passes ss ∙ sign_moves c.segments.self c.advance.new.self path_rest sign.PathSep (sep_rest ∷ []) _ (post ∷ ss) seen refl a ∙ sep_named c.advance.new.self (post ∷ ss) (sym c.sees-in-segments.ensures ∙ c.if-sees.false)) c.in_err-name.ensures.reads)

pub named-segments-preserved : goal.named-segments-preserved
named-segments-preserved t c =
    let A = c.args.self.now in
    let seen = sym c.sees.ensures ∙ c.segments-test.true in
    let i = c.segments.invariant in
    let a = c.in_ok-sep.ensures.advances in
    let n = c.in_ok-name.ensures.reads in
    record {
      takes = path_grows _ _ _ _ _ c.segments.path.more c.push.new.self _ _ i.takes (sign_token_is c.segments.self c.advance.new.self sign.PathSep _ seen a) n.0 c.in_ok-push.ensures.ok;
      passes = λ ss. i.passes ss ∙ sign_moves c.segments.self c.advance.new.self path_rest sign.PathSep (sep_rest ∷ []) _ (post ∷ ss) seen refl a ∙ sep_named c.advance.new.self (post ∷ ss) (sym c.sees-in-segments.ensures ∙ c.if-sees.false) ∙ n.1 (path_rest ∷ post ∷ ss);
      shorter = omega arith;
    }

pub named-returns-then-sees-2-clause-reads : goal.named-returns-then-sees-2-clause-reads
named-returns-then-sees-2-clause-reads t c =
    let A = c.args.self.now in
    let i = c.segments.invariant in
    behind_to expr_tokens (flat_path c.segments.path ++ []) (operand ∷ []) (one_sign sign.OpenParen ∷ in_parens expr_member 15) (post ∷ []) A c.segments.self c.call-then-sees-2.result _ (i.takes ∙ ap (λ x. x ++ c.segments.self.rest.now) (sym (append-nil (flat_path c.segments.path)))) (λ ss. i.passes ss ∙ sign_opens c.segments.self path_rest sign.OpenParen (in_parens expr_member 15) (post ∷ ss) (sym c.sees-2.ensures ∙ c.if-sees-2.true) refl) c.call-then-sees-2.ensures.reads

pub named-returns-clause-reads : goal.named-returns-clause-reads
named-returns-clause-reads t c =
    let i = c.segments.invariant in (
      i.takes ∙ ap (λ e. flat_expr e ++ c.segments.self.rest.now) (sym c.path-2.ensures),
      λ ss. i.passes ss ∙ path_ends c.segments.self (post ∷ ss) (sym c.sees.ensures ∙ c.segments-test.false) (sym c.sees-2.ensures ∙ c.if-sees-2.false),
    )

pub new_struct-returns-in_err-generics-clause-reads : goal.new_struct-returns-in_err-generics-clause-reads
new_struct-returns-in_err-generics-clause-reads t c =
    let A = c.args.self.now in
    let seen = sym c.sees.ensures ∙ c.segments-test.true in
    let i = c.segments.invariant in
    let a = c.in_ok-sep.ensures.advances in
    let x = err_from_is_err_and c.from_residual-in_err-generics.result c.from_residual-in_err-generics.ensures.1 in
    rw (x.1, x.2) (onward (operand ∷ []) (one_sign sign.Less ∷ angle_rest arg_member) (one_sign sign.OpenBrace ∷ in_braces init_member 63 ++ post ∷ []) _ A c.advance-in-segments.new.self _ (λ ss. i.passes ss ∙ sign_moves c.segments.self c.advance-in-segments.new.self new_rest sign.PathSep (new_sep_rest ∷ []) _ (post ∷ ss) seen refl a ∙ sign_opens c.advance-in-segments.new.self new_sep_rest sign.Less (angle_rest arg_member ++ one_sign sign.OpenBrace ∷ in_braces init_member 63) (post ∷ ss) (sym c.sees-in-segments.ensures ∙ c.if-sees.true) refl) c.in_err-generics.ensures.reads)

pub new_struct-returns-then-sees-clause-reads : goal.new_struct-returns-then-sees-clause-reads
new_struct-returns-then-sees-clause-reads t c =
    let A = c.args.self.now in
    let seen = sym c.sees.ensures ∙ c.segments-test.true in
    let i = c.segments.invariant in
    let a = c.in_ok-sep.ensures.advances in
    let g = c.in_ok-generics.ensures.reads in
    behind_to expr_tokens (word_token keyword.New c.in_ok-at.at ∷ (flat_path c.segments.path ++ generics_tokens (Some c.in_ok-generics.generics))) (operand ∷ []) (one_sign sign.OpenBrace ∷ in_braces init_member 63) (post ∷ []) A c.turbofish.new.self c.made.result _ (ends_with A.rest.now c.segments.self.rest.now c.turbofish.new.self.rest.now (word_token keyword.New c.in_ok-at.at ∷ flat_path c.segments.path) (turbofish_tokens c.in_ok-generics.generics) i.takes (sign_token_is c.segments.self c.advance-in-segments.new.self sign.PathSep _ seen a ∙ g.0)) (λ ss. i.passes ss ∙ sign_moves c.segments.self c.advance-in-segments.new.self new_rest sign.PathSep (new_sep_rest ∷ []) _ (post ∷ ss) seen refl a ∙ sign_opens c.advance-in-segments.new.self new_sep_rest sign.Less (angle_rest arg_member ++ one_sign sign.OpenBrace ∷ in_braces init_member 63) (post ∷ ss) (sym c.sees-in-segments.ensures ∙ c.if-sees.true) refl ∙ g.1 (one_sign sign.OpenBrace ∷ in_braces init_member 63 ++ post ∷ ss)) c.made.ensures.reads

pub new_struct-returns-in_err-name-clause-reads : goal.new_struct-returns-in_err-name-clause-reads
new_struct-returns-in_err-name-clause-reads t c =
    let A = c.args.self.now in
    let seen = sym c.sees.ensures ∙ c.segments-test.true in
    let i = c.segments.invariant in
    let a = c.in_ok-sep.ensures.advances in
    let x = err_from_is_err_and c.from_residual-in_err-name.result c.from_residual-in_err-name.ensures.1 in
    rw (x.1, x.2) (onward (operand ∷ []) (one_name ∷ []) (new_rest ∷ post ∷ []) _ A c.advance-in-segments.new.self _ (λ ss. i.passes ss ∙ sign_moves c.segments.self c.advance-in-segments.new.self new_rest sign.PathSep (new_sep_rest ∷ []) _ (post ∷ ss) seen refl a ∙ new_sep_named c.advance-in-segments.new.self (post ∷ ss) (sym c.sees-in-segments.ensures ∙ c.if-sees.false)) c.in_err-name.ensures.reads)

pub new_struct-segments-preserved : goal.new_struct-segments-preserved
new_struct-segments-preserved t c =
    let A = c.args.self.now in
    let seen = sym c.sees.ensures ∙ c.segments-test.true in
    let i = c.segments.invariant in
    let a = c.in_ok-sep.ensures.advances in
    let n = c.in_ok-name.ensures.reads in
    record {
      takes = i.takes ∙ ap (λ x. word_token keyword.New c.in_ok-at.at ∷ x) (path_grows _ _ _ _ _ c.segments.path.more c.push.new.self _ _ refl (sign_token_is c.segments.self c.advance-in-segments.new.self sign.PathSep _ seen a) n.0 c.in_ok-push.ensures.ok);
      passes = λ ss. i.passes ss ∙ sign_moves c.segments.self c.advance-in-segments.new.self new_rest sign.PathSep (new_sep_rest ∷ []) _ (post ∷ ss) seen refl a ∙ new_sep_named c.advance-in-segments.new.self (post ∷ ss) (sym c.sees-in-segments.ensures ∙ c.if-sees.false) ∙ n.1 (new_rest ∷ post ∷ ss);
      shorter = omega arith;
    }

pub new_struct-returns-clause-reads : goal.new_struct-returns-clause-reads
new_struct-returns-clause-reads t c =
    let A = c.args.self.now in
    let i = c.segments.invariant in
    behind_to expr_tokens (word_token keyword.New c.in_ok-at.at ∷ (flat_path c.segments.path ++ [])) (operand ∷ []) (one_sign sign.OpenBrace ∷ in_braces init_member 63) (post ∷ []) A c.segments.self c.made-2.result _ (i.takes ∙ ap (λ x. word_token keyword.New c.in_ok-at.at ∷ (x ++ c.segments.self.rest.now)) (sym (append-nil (flat_path c.segments.path)))) (λ ss. i.passes ss ∙ new_opens c.segments.self (post ∷ ss) (sym c.sees.ensures ∙ c.segments-test.false)) c.made-2.ensures.reads
