use Rattle.std.proofs.Common.{[], ◌∷◌, ◌∙◌, sym, arith}
use Rattle.std.proofs.lemmas.Result.{err_from_is_err_and}
use Rattle.lar_tree.specs.declared.keyword.Keyword.TheVariants as keyword
use Rattle.lar_tree.specs.declared.sign.Sign.TheVariants as sign
use Rattle.lar_tree.specs.Items.{flat_attributes}
use Rattle.lar_grammar.specs.Looks.{look}
use Rattle.lar_grammar.specs.Symbols.{one_sign, one_word, attribute_word, attributed}
use Rattle.lar_grammar.specs.Moves.{attribute_rest, fn_rest}
use Rattle.lar_syntax.specs.ReadsItems.{item_tokens}
use Rattle.lar_syntax.proofs.Flow.{onward, behind, moved, sign_token_is}
use Rattle.lar_syntax.proofs.ItemSteps.{hash_taken, fn_opens}
use Rattle.lar_syntax.proofs.ItemTokens.{attributes_grow}
use Rattle.lar_syntax.proofs.parser.cursor.Parser.function.Goals as goal

pub returns-in_err-attribute-clause-reads : goal.returns-in_err-attribute-clause-reads
returns-in_err-attribute-clause-reads c =
    let seen = sym c.sees.ensures ∙ c.attributes-test.true in
    let n = c.args.levels in
    let p = c.attributes.self in
    let x = err_from_is_err_and c.from_residual-in_err-attribute.result c.from_residual-in_err-attribute.ensures.1 in
    rw (x.1, x.2) (onward (attributed n ∷ []) (one_sign sign.OpenBracket ∷ attribute_word ∷ one_sign sign.CloseBracket ∷ []) (attributed n ∷ []) _ c.args.self.now c.advance.new.self _ (λ ss. c.attributes.invariant.passes ss ∙ moved p c.advance.new.self (attributed n) (attribute_rest n) ss _ (hash_taken n (look p.rest.now) seen) c.in_ok-hash.ensures.advances) c.in_err-attribute.ensures.reads)

pub attributes-preserved : goal.attributes-preserved
attributes-preserved c =
    let seen = sym c.sees.ensures ∙ c.attributes-test.true in
    let n = c.args.levels in
    let p = c.attributes.self in
    let i = c.attributes.invariant in
    let a = c.in_ok-hash.ensures.advances in
    let r = c.in_ok-attribute.ensures.reads in
    record {
      takes = attributes_grow c.attributes.attributes _ c.in_ok-attribute.attribute _ _ _ i.takes (sign_token_is p c.advance.new.self sign.Hash _ seen a ∙ r.0) c.in_ok-push.ensures.ok;
      passes = λ ss. i.passes ss ∙ moved p c.advance.new.self (attributed n) (attribute_rest n) ss _ (hash_taken n (look p.rest.now) seen) a ∙ r.1 (attributed n ∷ ss);
      shorter = omega arith;
    }

pub returns-clause-reads : goal.returns-clause-reads
returns-clause-reads c =
    let n = c.args.levels in
    let i = c.attributes.invariant in
    behind item_tokens (flat_attributes c.attributes.attributes) (attributed n ∷ []) (one_word keyword.Fn ∷ fn_rest n) c.args.self.now c.attributes.self c.plain_function.result _ i.takes
    (λ ss. i.passes ss ∙ fn_opens c.attributes.self n ss (sym c.sees.ensures ∙ c.attributes-test.false)) c.plain_function.ensures.reads
