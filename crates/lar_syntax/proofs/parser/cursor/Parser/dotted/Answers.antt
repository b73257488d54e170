use Rattle.std.proofs.Common.{[], ◌∷◌, ◌++◌, ◌∙◌, sym, ap, arith}
use Rattle.lar_tree.specs.declared.sign.Sign.TheVariants as sign
use Rattle.lar_tree.specs.Spelling.{sign_token}
use Rattle.lar_tree.specs.Exprs.{flat_expr}
use Rattle.lar_grammar.specs.Symbols.{post, selector}
use Rattle.lar_grammar.proofs.Steps.{when_true}
use Rattle.lar_syntax.proofs.Flow.{moved, sign_token_is, ends_with}
use Rattle.lar_syntax.proofs.FlowExprs.{field_low, field_grouped}
use Rattle.lar_syntax.proofs.parser.cursor.Parser.dotted.Goals as goal

pub fields-preserved : goal.fields-preserved
fields-preserved c =
    let seen = sym c.sees.ensures ∙ c.fields-test.true in
    let i = c.fields.invariant in
    let a = c.in_ok-dot.ensures.advances in
    let n = c.in_ok-selector.ensures in
    let e = c.in_ok-whole.ensures in
    record {
      takes = ends_with _ _ _ _ _ i.takes (sign_token_is c.fields.self c.advance.new.self sign.Dot _ seen a ∙ ap (λ x. sign_token sign.Dot c.in_ok-dot.dot ∷ x) n.reads.0) ∙ ap (λ e. flat_expr e ++ c.selector.new.self.rest.now) (sym e);
      passes = λ ss. i.passes ss ∙ moved c.fields.self c.advance.new.self post (selector ∷ post ∷ []) ss _ (when_true _ _ _ seen) a ∙ n.reads.1 (post ∷ ss);
      grouped = (field_low _ _ _ _ e, field_grouped _ _ _ _ e i.grouped.0 i.grouped.1);
      shorter = omega arith;
    }
