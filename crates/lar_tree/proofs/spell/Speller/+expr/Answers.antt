use Rattle.std.proofs.Common.{◌∷◌, refl, arith, map}
use Rattle.lar_tree.specs.declared.commas.Member.{Member}
use Rattle.lar_tree.specs.declared.expr.Expr.{Expr}
use Rattle.lar_tree.specs.declared.expr.Init.{Init}
use Rattle.lar_tree.specs.Commas.{member_map}
use Rattle.lar_tree.specs.ExprView.{expr_view, init_view, more_parts, more_inits}
use Rattle.lar_tree.specs.Exprs.{flat_expr, flat_more_parts, flat_init, flat_more_inits}
use Rattle.lar_tree.specs.declared.sign.Sign.TheVariants as sign
use Rattle.lar_tree.specs.Spelling.{sign_token}
use Rattle.lar_tree.proofs.Onwards.{onwards, twice}
use Rattle.lar_tree.proofs.spell.Speller.+expr.Goals as goal

pub more_parts-loop-member-preserved : goal.more_parts-loop-member-preserved
more_parts-loop-member-preserved t c =
    let done = twice _ _ _ _ _ c.in_ok-sign.ensures c.in_ok-expr.ensures in
    onwards {A = Member Expr} (λ xs. flat_more_parts (more_parts (map (member_map expr_view) xs))) (λ x. sign_token sign.Comma x.comma ∷ flat_expr (expr_view x.value)) c.args.members.now c.loop-member.member-index c.member-item.result _ _ _ (λ ys. refl) (omega arith) c.member-item.is c.loop-member.invariant done

pub more_inits-loop-member-preserved : goal.more_inits-loop-member-preserved
more_inits-loop-member-preserved t c =
    let done = twice _ _ _ _ _ c.in_ok-sign.ensures c.in_ok-init.ensures in
    onwards {A = Member Init} (λ xs. flat_more_inits (more_inits (map (member_map init_view) xs))) (λ x. sign_token sign.Comma x.comma ∷ flat_init (init_view x.value)) c.args.members.now c.loop-member.member-index c.member-item.result _ _ _ (λ ys. refl) (omega arith) c.member-item.is c.loop-member.invariant done
