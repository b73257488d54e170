use Rattle.std.proofs.Common.{[], ◌∷◌, ◌-◌, ◌∙◌, sym, arith}
use Rattle.std.proofs.lemmas.Result.{err_from_is_err_and}
use Rattle.lar_tree.specs.declared.sign.Sign.TheVariants as sign
use Rattle.lar_tree.specs.Items.{flat_name}
use Rattle.lar_grammar.specs.Symbols.{one_name, member, more, name_member}
use Rattle.lar_grammar.proofs.Openings.{member_name}
use Rattle.lar_syntax.proofs.Flow.{onward, sign_token_is}
use Rattle.lar_syntax.proofs.Lists.{more_full, more_opens, grows}
use Rattle.lar_syntax.proofs.parser.cursor.Parser.names.Goals as goal

pub returns-in_err-first-clause-reads : goal.returns-in_err-first-clause-reads
returns-in_err-first-clause-reads c =
    let x = err_from_is_err_and c.from_residual.result c.from_residual.ensures.1 in
    let A = c.args.self.now in
    rw (x.1, x.2) (onward (member name_member ∷ more name_member 15 ∷ []) (one_name ∷ []) (more name_member 15 ∷ []) _ A A _ (λ ss. member_name A.rest.now A.room (more name_member 15 ∷ ss)) c.in_err-first.ensures.reads)

pub returns-then-left-eq0-clause-reads : goal.returns-then-left-eq0-clause-reads
returns-then-left-eq0-clause-reads c =
    let seen = sym c.sees.ensures ∙ c.commas-test.true in
    λ ss. c.commas.invariant.passes ss ∙ more_full c.commas.self c.advance.new.self name_member c.commas.left _ ss seen c.in_ok-comma.ensures.advances (omega arith)

pub returns-in_err-value-clause-reads : goal.returns-in_err-value-clause-reads
returns-in_err-value-clause-reads c =
    let seen = sym c.sees.ensures ∙ c.commas-test.true in
    let q = c.advance.new.self in
    let x = err_from_is_err_and c.from_residual-in_err-value.result c.from_residual-in_err-value.ensures.1 in
    rw (x.1, x.2) (onward (member name_member ∷ more name_member 15 ∷ []) (one_name ∷ []) (more name_member (c.commas.left - 1) ∷ []) _ c.args.self.now q _ (λ ss. c.commas.invariant.passes ss ∙ more_opens c.commas.self q name_member c.commas.left _ ss seen c.in_ok-comma.ensures.advances (omega arith) ∙ member_name q.rest.now q.room (more name_member (c.commas.left - 1) ∷ ss)) c.in_err-value.ensures.reads)

pub commas-preserved : goal.commas-preserved
commas-preserved c =
    let seen = sym c.sees.ensures ∙ c.commas-test.true in
    let i = c.commas.invariant in
    let q = c.advance.new.self in
    let a = c.in_ok-comma.ensures.advances in
    let v = c.in_ok-value.ensures.reads in
    record {
      takes = grows flat_name c.commas.list _ c.in_ok-comma.comma c.in_ok-value.value _ _ _ _ i.takes (sign_token_is c.commas.self q sign.Comma _ seen a) v.0 c.in_ok-push.ensures.ok;
      passes = λ ss. i.passes ss ∙ more_opens c.commas.self q name_member c.commas.left _ ss seen a (omega arith) ∙ member_name q.rest.now q.room (more name_member (c.commas.left - 1) ∷ ss) ∙ v.1 (more name_member (c.commas.left - 1) ∷ ss);
      shorter = omega arith;
    }
