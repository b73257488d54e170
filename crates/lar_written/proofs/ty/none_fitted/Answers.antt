use Rattle.std.proofs.Common.{[], sym, ◌∙◌}
use Rattle.std.proofs.lemmas.Result.{IfOk-weaker, on_ok_weaker}
use Rattle.lar_written.specs.Sites.{site_view}
use Rattle.lar_written.proofs.Fits.{least_none, fitted_type, fit_all}
use Rattle.lar_written.proofs.ty.none_fitted.Goals as goal

pub returns-clause-of : goal.returns-clause-of
returns-clause-of c =
    IfOk-weaker c.fit_ended.result _ _ (λ f st. record { within = st.within; is = st.is ∙ sym (fitted_type (site_view c.args.site.now) c.args.path.now c.args.sorts.now []) }) c.fit_ended.ensures.of

pub returns-clause-told : goal.returns-clause-told
returns-clause-told c =
    on_ok_weaker c.fit_ended.result (λ e. fit_all (site_view c.args.site.now) c.args.path.now c.args.sorts.now [] c.args.first.now c.fit_begun.new.first c.fit_begun.new.first c.fit_ended.new.first c.in_ok-fit_begun.ensures (least_none c.fit_begun.new.first) e) c.fit_ended.ensures.told
