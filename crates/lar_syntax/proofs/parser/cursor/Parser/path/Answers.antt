use Rattle.std.proofs.Common.{[], ◌∷◌, ◌∙◌, sym, arith}
use Rattle.lar_tree.specs.Spelling.{name_token}
use Rattle.lar_tree.specs.declared.sign.Sign.TheVariants as sign
use Rattle.lar_grammar.specs.Symbols.{one_name, segments}
use Rattle.lar_grammar.proofs.Steps.{when_true}
use Rattle.lar_syntax.proofs.Flow.{moved, sign_token_is}
use Rattle.lar_syntax.proofs.Lists.{segments_grow}
use Rattle.lar_syntax.proofs.parser.cursor.Parser.path.Goals as goal

pub segments-preserved : goal.segments-preserved
segments-preserved c =
    let seen = sym c.sees.ensures ∙ c.segments-test.true in
    let i = c.segments.invariant in
    let a = c.in_ok-sep.ensures.advances in
    let n = c.in_ok-name.ensures.reads in
    record {
      takes = segments_grow (name_token c.in_ok-first.first ∷ []) c.segments.more _ c.in_ok-sep.sep c.in_ok-name.name _ _ _ _ i.takes (sign_token_is c.segments.self c.advance.new.self sign.PathSep _ seen a) n.0 c.in_ok-push.ensures.ok;
      passes = λ ss. i.passes ss ∙ moved c.segments.self c.advance.new.self segments (one_name ∷ segments ∷ []) ss _ (when_true _ _ _ seen) a ∙ n.1 (segments ∷ ss);
      shorter = omega arith;
    }
