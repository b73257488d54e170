use Rattle.std.proofs.Common.{[], ◌∷◌, ◌++◌, ◌-◌, ◌∙◌, sym, ap, Some, arith}
use Rattle.std.proofs.lemmas.Result.{err_from_is_err_and}
use Rattle.std.specs.Option.{option_copied}
use Rattle.lar_tree.specs.Spelling.{sign_token, flat_path}
use Rattle.lar_tree.specs.Types.{flat_type, flat_args}
use Rattle.lar_tree.specs.declared.sign.Sign.TheVariants as sign
use Rattle.lar_grammar.specs.Symbols.{one_sign, one_name, one_type, signed_number, tuple_rest, segments, angle, member, more, type_member, arg_member}
use Rattle.lar_grammar.specs.Moves.{angle_rest}
use Rattle.lar_grammar.proofs.Steps.{when_true}
use Rattle.lar_grammar.proofs.Openings.{member_number, member_arg_type, member_type, tuple_opens}
use Rattle.lar_syntax.specs.Reads.{ty_tokens, arg_tokens, args_tokens}
use Rattle.lar_syntax.proofs.Flow.{onward, passing_on, moved, sign_token_is, ends_with}
use Rattle.lar_syntax.proofs.Lists.{more_full, more_opens, grows}
use Rattle.lar_syntax.proofs.TypeTokens.{tuple_spells, angle_spells, type_named}
use Rattle.lar_syntax.proofs.parser.cursor.Parser.+types.Goals as goal

pub arg-returns-in_err-number-clause-reads : goal.arg-returns-in_err-number-clause-reads
arg-returns-in_err-number-clause-reads t c =
    let x = err_from_is_err_and c.from_residual.result c.from_residual.ensures.1 in
    let A = c.args.self.now in
    rw (x.1, x.2) (onward (member arg_member ∷ []) (signed_number ∷ []) [] _ A A _ (λ ss. member_number A.rest.now A.room ss (sym c.begins_number.ensures ∙ c.if-begins_number.true)) c.in_err-number.ensures.reads)

pub arg-returns-in_err-ty-clause-reads : goal.arg-returns-in_err-ty-clause-reads
arg-returns-in_err-ty-clause-reads t c =
    let x = err_from_is_err_and c.from_residual-in_err-ty.result c.from_residual-in_err-ty.ensures.1 in
    let A = c.args.self.now in
    rw (x.1, x.2) (onward (member arg_member ∷ []) (one_type ∷ []) [] _ A A _ (λ ss. member_arg_type A.rest.now A.room ss (sym c.begins_number.ensures ∙ c.if-begins_number.false)) c.in_err-ty.ensures.reads)

pub args-returns-then-left-eq0-clause-reads : goal.args-returns-then-left-eq0-clause-reads
args-returns-then-left-eq0-clause-reads t c =
    let seen = sym c.sees.ensures ∙ c.commas-test.true in
    λ ss. c.commas.invariant.passes ss ∙ more_full c.commas.self c.advance.new.self arg_member c.commas.left _ ss seen c.in_ok-comma.ensures.advances (omega arith)

pub args-returns-in_err-value-clause-reads : goal.args-returns-in_err-value-clause-reads
args-returns-in_err-value-clause-reads t c =
    let seen = sym c.sees.ensures ∙ c.commas-test.true in
    let x = err_from_is_err_and c.from_residual-in_err-value.result c.from_residual-in_err-value.ensures.1 in
    rw (x.1, x.2) (onward (member arg_member ∷ more arg_member 15 ∷ []) (member arg_member ∷ []) (more arg_member (c.commas.left - 1) ∷ []) _ c.args.self.now c.advance.new.self _ (λ ss. c.commas.invariant.passes ss ∙ more_opens c.commas.self c.advance.new.self arg_member c.commas.left _ ss seen c.in_ok-comma.ensures.advances (omega arith)) c.in_err-value.ensures.reads)

pub args-commas-preserved : goal.args-commas-preserved
args-commas-preserved t c =
    let seen = sym c.sees.ensures ∙ c.commas-test.true in
    let i = c.commas.invariant in
    let a = c.in_ok-comma.ensures.advances in
    let v = c.in_ok-value.ensures.reads in
    record {
      takes = grows arg_tokens c.commas.list _ c.in_ok-comma.comma c.in_ok-value.value _ _ _ _ i.takes (sign_token_is c.commas.self c.advance.new.self sign.Comma _ seen a) v.0 c.in_ok-push.ensures.ok;
      passes = λ ss. i.passes ss ∙ more_opens c.commas.self c.advance.new.self arg_member c.commas.left _ ss seen a (omega arith) ∙ v.1 (more arg_member (c.commas.left - 1) ∷ ss);
      shorter = omega arith;
    }

pub args_rest-returns-clause-reads : goal.args_rest-returns-clause-reads
args_rest-returns-clause-reads t c =
    let l = c.in_ok-list.ensures.reads in
    let e = c.in_ok-to.ensures.reads in (
      angle_spells c.args.from c.in_ok-to.to c.in_ok-list.list _ _ _ l.0 e.0 ∙ ap (λ a. flat_args a ++ c.expect.new.self.rest.now) (sym c.new.ensures),
      λ ss. l.1 (one_sign sign.Greater ∷ ss) ∙ e.1 ss,
    )

pub named_ty-returns-clause-reads : goal.named_ty-returns-clause-reads
named_ty-returns-clause-reads t c =
    let seen = sym c.sees.ensures ∙ c.if-not-sees.false in
    let p = c.in_ok-path.ensures.reads in
    let a = c.in_ok-from.ensures.advances in
    let g = c.in_ok-args.ensures.reads in (
      ends_with c.args.self.now.rest.now c.path.new.self.rest.now c.args_rest.new.self.rest.now (flat_path c.in_ok-path.path) (args_tokens c.in_ok-args.args) p.0 (sign_token_is c.path.new.self c.advance.new.self sign.Less _ seen a ∙ g.0) ∙ ap (λ t. flat_type t ++ c.args_rest.new.self.rest.now) (sym c.in_ok-whole.ensures),
      λ ss. p.1 (angle arg_member ∷ ss) ∙ moved c.path.new.self c.advance.new.self (angle arg_member) (angle_rest arg_member) ss _ (when_true _ _ _ seen) a ∙ g.1 ss,
    )

pub tuple_rest-returns-then-sees-clause-reads : goal.tuple_rest-returns-then-sees-clause-reads
tuple_rest-returns-then-sees-clause-reads t c =
    let seen = sym c.sees.ensures ∙ c.if-sees.true in
    let a = c.in_ok-to.ensures.advances in (
      ap (λ x. sign_token sign.OpenParen c.args.from ∷ x) (sign_token_is c.args.self.now c.advance.new.self sign.CloseParen _ seen a) ∙ ap (λ t. flat_type t ++ c.advance.new.self.rest.now) (sym c.unit.ensures),
      λ ss. moved c.args.self.now c.advance.new.self tuple_rest [] ss _ (when_true _ _ _ seen) a,
    )

pub tuple_rest-returns-in_err-first-clause-reads : goal.tuple_rest-returns-in_err-first-clause-reads
tuple_rest-returns-in_err-first-clause-reads t c =
    let x = err_from_is_err_and c.from_residual-in_err-first.result c.from_residual-in_err-first.ensures.1 in
    let A = c.args.self.now in
    rw (x.1, x.2) (onward (tuple_rest ∷ []) (one_type ∷ []) (one_sign sign.Comma ∷ one_type ∷ more type_member 6 ∷ one_sign sign.CloseParen ∷ []) _ A A _ (λ ss. tuple_opens A.rest.now A.room ss (sym c.sees.ensures ∙ c.if-sees.false)) c.in_err-first.ensures.reads)

pub tuple_rest-returns-in_err-comma-clause-reads : goal.tuple_rest-returns-in_err-comma-clause-reads
tuple_rest-returns-in_err-comma-clause-reads t c =
    let x = err_from_is_err_and c.from_residual-in_err-comma.result c.from_residual-in_err-comma.ensures.1 in
    let A = c.args.self.now in
    rw (x.1, x.2) (onward (tuple_rest ∷ []) (one_sign sign.Comma ∷ []) (one_type ∷ more type_member 6 ∷ one_sign sign.CloseParen ∷ []) _ A c.ty.new.self _
    (λ ss. tuple_opens A.rest.now A.room ss (sym c.sees.ensures ∙ c.if-sees.false) ∙ c.in_ok-first.ensures.reads.1 (one_sign sign.Comma ∷ one_type ∷ more type_member 6 ∷ one_sign sign.CloseParen ∷ ss)) c.in_err-comma.ensures.reads)

pub tuple_rest-returns-in_err-others-clause-reads : goal.tuple_rest-returns-in_err-others-clause-reads
tuple_rest-returns-in_err-others-clause-reads t c =
    let x = err_from_is_err_and c.from_residual-in_err-others.result c.from_residual-in_err-others.ensures.1 in
    let A = c.args.self.now in
    rw (x.1, x.2) (onward (tuple_rest ∷ []) (one_type ∷ more type_member 6 ∷ []) (one_sign sign.CloseParen ∷ []) _ A c.expect.new.self _
    (λ ss. tuple_opens A.rest.now A.room ss (sym c.sees.ensures ∙ c.if-sees.false) ∙ c.in_ok-first.ensures.reads.1 (one_sign sign.Comma ∷ one_type ∷ more type_member 6 ∷ one_sign sign.CloseParen ∷ ss) ∙ c.in_ok-comma.ensures.reads.1 (one_type ∷ more type_member 6 ∷ one_sign sign.CloseParen ∷ ss)) c.in_err-others.ensures.reads)

pub tuple_rest-returns-in_err-to-2-clause-reads : goal.tuple_rest-returns-in_err-to-2-clause-reads
tuple_rest-returns-in_err-to-2-clause-reads t c =
    let x = err_from_is_err_and c.from_residual-in_err-to-2.result c.from_residual-in_err-to-2.ensures.1 in
    let A = c.args.self.now in
    rw (x.1, x.2) (onward (tuple_rest ∷ []) (one_sign sign.CloseParen ∷ []) [] _ A c.types.new.self _
    (λ ss. tuple_opens A.rest.now A.room ss (sym c.sees.ensures ∙ c.if-sees.false) ∙ c.in_ok-first.ensures.reads.1 (one_sign sign.Comma ∷ one_type ∷ more type_member 6 ∷ one_sign sign.CloseParen ∷ ss) ∙ c.in_ok-comma.ensures.reads.1 (one_type ∷ more type_member 6 ∷ one_sign sign.CloseParen ∷ ss) ∙ c.in_ok-others.ensures.reads.1 (one_sign sign.CloseParen ∷ ss)) c.in_err-to-2.ensures.reads)

pub tuple_rest-returns-clause-reads : goal.tuple_rest-returns-clause-reads
tuple_rest-returns-clause-reads t c =
    let A = c.args.self.now in
    let f = c.in_ok-first.ensures.reads in
    let m = c.in_ok-comma.ensures.reads in
    let o = c.in_ok-others.ensures.reads in
    let e = c.in_ok-to-2.ensures.reads in (
      tuple_spells c.args.from c.in_ok-comma.comma c.in_ok-to-2.to c.in_ok-first.first c.in_ok-others.others _ _ _ _ _ f.0 m.0 o.0 e.0
          ∙ ap (λ t. flat_type t ++ c.expect-2.new.self.rest.now) (sym (c.in_ok-whole.ensures ∙ c.new-tuple.ensures)),
      λ ss. tuple_opens A.rest.now A.room ss (sym c.sees.ensures ∙ c.if-sees.false) ∙ f.1 (one_sign sign.Comma ∷ one_type ∷ more type_member 6 ∷ one_sign sign.CloseParen ∷ ss)
          ∙ m.1 (one_type ∷ more type_member 6 ∷ one_sign sign.CloseParen ∷ ss) ∙ o.1 (one_sign sign.CloseParen ∷ ss) ∙ e.1 ss,
    )

pub ty-returns-in-Some-Name-clause-reads : goal.ty-returns-in-Some-Name-clause-reads
ty-returns-in-Some-Name-clause-reads t c =
    let seen = sym c.peek.ensures ∙ ap option_copied c.in-Some-Name.is ∙ ap Some c.in-Some-Name.field-0-is in
    passing_on ty_tokens (one_type ∷ []) (one_name ∷ segments ∷ angle arg_member ∷ []) c.args.self.now c.named_ty.result _ (λ ss. type_named c.args.self.now _ ss seen) c.named_ty.ensures.reads

pub types-returns-then-left-eq0-clause-reads : goal.types-returns-then-left-eq0-clause-reads
types-returns-then-left-eq0-clause-reads t c =
    let seen = sym c.sees.ensures ∙ c.commas-test.true in
    λ ss. c.commas.invariant.passes ss ∙ more_full c.commas.self c.advance.new.self type_member c.commas.left _ ss seen c.in_ok-comma.ensures.advances (omega arith)

pub types-returns-in_err-value-clause-reads : goal.types-returns-in_err-value-clause-reads
types-returns-in_err-value-clause-reads t c =
    let seen = sym c.sees.ensures ∙ c.commas-test.true in
    let q = c.advance.new.self in
    let x = err_from_is_err_and c.from_residual-in_err-value.result c.from_residual-in_err-value.ensures.1 in
    rw (x.1, x.2) (onward (one_type ∷ more type_member 6 ∷ []) (one_type ∷ []) (more type_member (c.commas.left - 1) ∷ []) _ c.args.self.now q _ (λ ss. c.commas.invariant.passes ss ∙ more_opens c.commas.self q type_member c.commas.left _ ss seen c.in_ok-comma.ensures.advances (omega arith) ∙ member_type q.rest.now q.room (more type_member (c.commas.left - 1) ∷ ss)) c.in_err-value.ensures.reads)

pub types-commas-preserved : goal.types-commas-preserved
types-commas-preserved t c =
    let seen = sym c.sees.ensures ∙ c.commas-test.true in
    let i = c.commas.invariant in
    let q = c.advance.new.self in
    let a = c.in_ok-comma.ensures.advances in
    let v = c.in_ok-value.ensures.reads in
    record {
      takes = grows ty_tokens c.commas.list _ c.in_ok-comma.comma c.in_ok-value.value _ _ _ _ i.takes (sign_token_is c.commas.self q sign.Comma _ seen a) v.0 c.in_ok-push.ensures.ok;
      passes = λ ss. i.passes ss ∙ more_opens c.commas.self q type_member c.commas.left _ ss seen a (omega arith) ∙ member_type q.rest.now q.room (more type_member (c.commas.left - 1) ∷ ss) ∙ v.1 (more type_member (c.commas.left - 1) ∷ ss);
      shorter = omega arith;
    }
