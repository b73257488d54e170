use Rattle.std.proofs.Common.{◌≡◌, ◌++◌, ◌∷◌, [], refl, ap, ◌∙◌}
use Rattle.std.specs.Prelude.{pos}
use Rattle.unit_input.specs.Exprs.{int}
use Rattle.unit_input.specs.Stmts.{print, no_stmts, stmts}
use Rattle.unit_input.specs.InputView.{stmt_view, stmts_view}
use Rattle.unit_input.proofs.Worked.{prints_7-made}
use Rattle.unit_object.proofs.tests.prints_7.Goals as goal

pub new-requires : goal.new-requires
new-requires c =
    let body : stmts_view c.push.new.self ≡ stmts (print (int (pos 7))) no_stmts =
    ap stmts_view (c.in_ok-push.ensures.ok ∙ ap (λ xs. xs ++ c.print_stmt.result ∷ []) c.new-body.ensures) ∙ ap (λ s. stmts s no_stmts) (c.print_stmt.ensures ∙ ap print c.int.ensures) in
    prints_7-made _ _ _ _ c.in_ok-push-2.ensures.ok c.new-functions.ensures c.new-externals.ensures c.in_ok-symbol.ensures refl refl refl c.new-locals.ensures body
