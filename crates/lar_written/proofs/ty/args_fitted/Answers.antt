use Rattle.std.proofs.lemmas.Result.{IfOk-weaker, on_ok_weaker}
use Rattle.lar_written.specs.Sites.{site_view}
use Rattle.lar_written.proofs.Arms.{fitted_args_is, fitted_args_told}
use Rattle.lar_written.proofs.ty.args_fitted.Goals as goal

pub returns-clause-of : goal.returns-clause-of
returns-clause-of c =
    IfOk-weaker c.fit_ended.result _ _ (λ f st. fitted_args_is c.args_given.new.types c.fit_ended.new.types (site_view c.args.site.now) c.args.path.now c.args.sorts.now c.args.args.now c.in_ok-given.given.items c.as_slice.result.now f.of c.in_ok-given.ensures.of c.as_slice.ensures.value st) c.fit_ended.ensures.of

pub returns-clause-told : goal.returns-clause-told
returns-clause-told c =
    on_ok_weaker c.fit_ended.result (λ e. fitted_args_told c.args_given.new.types (site_view c.args.site.now) c.args.path.now c.args.sorts.now c.args.args.now c.in_ok-given.given.items c.as_slice.result.now c.len.result c.args.first.now c.fit_begun.new.first c.args_given.new.first c.fit_ended.new.first c.len.ensures c.in_ok-given.ensures.of c.as_slice.ensures.value c.in_ok-fit_begun.ensures c.in_ok-given.ensures.told e) c.fit_ended.ensures.told
