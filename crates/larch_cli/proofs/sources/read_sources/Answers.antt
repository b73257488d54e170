use Rattle.std.proofs.lemmas.Result.{err_from_is_err_and}
use Rattle.std.proofs.Common.{◌≡◌, ◌∙◌, ◌-◌, [], ◌∷◌, ◌++◌, length, rules, refl, ap, arith}
use Rattle.lar_source.specs.declared.file.File.{File}
use Rattle.scripts.proofs.Following.{wanted}
use Rattle.larch_cli.specs.Steps.{sources_shown}
use Rattle.larch_cli.proofs.ReadingSources.{gathered, gathers, ungathered, named_more}
use Rattle.larch_cli.proofs.sources.read_sources.Goals as goal

pub returns-in_err-bytes-clause-follows : goal.returns-in_err-bytes-clause-follows
returns-in_err-bytes-clause-follows g c out err =
    let p = err_from_is_err_and _ c.from_residual-in_err-bytes.ensures.1 in
    c.loop-name.invariant.leads out err _ _ (ungathered c.args.names.now c.loop-name.name-index c.name-item.result c.loop-name-test.true c.name-item.is c.loop-name.left c.loop-name.sources.items _ _ _ _ (p.0, ap sources_shown p.1, p.2) (rw c.as_str-in-loop-name.ensures.text at c.in_err-bytes.ensures out err))

pub returns-in_err-sources-2-clause-follows : goal.returns-in_err-sources-2-clause-follows
returns-in_err-sources-2-clause-follows g c out err =
    let p = err_from_is_err_and _ c.from_residual-in_err-sources-2.ensures.1 in
    c.loop-name.invariant.leads out err _ _ (gathers c.args.names.now c.loop-name.name-index c.name-item.result c.loop-name-test.true c.name-item.is c.loop-name.left c.loop-name.sources.items _ _ _ _ _ (rw c.as_str-in-loop-name.ensures.text at c.in_ok-bytes.ensures out err) (wanted _ _ _ _ (p.0, ap sources_shown p.1, p.2)))

pub loop-name-preserved : goal.loop-name-preserved
loop-name-preserved g c =
    let name : c.in_ok-named.named ≡ c.name-item.result = c.in_ok-named.ensures ∙ c.as_str.ensures.text in
    let left : c.saturating_sub-left.result ≡ c.loop-name.left - length c.in_ok-bytes.bytes = search rules in
    let read : File = record { name = c.name-item.result; bytes = c.in_ok-bytes.bytes } in
    let sources : c.in_ok-sources-2.sources.items ≡ c.loop-name.sources.items ++ read ∷ [] =
    c.in_ok-sources-2.ensures ∙ ap (λ n. c.loop-name.sources.items ++ record { name = n; bytes = c.in_ok-bytes.bytes } ∷ []) name in
    record {
      within = omega arith;
      named = rw sources (named_more c.args.names.now c.loop-name.name-index c.name-item.result c.loop-name-test.true c.name-item.is c.loop-name.left c.loop-name.sources.items read refl c.loop-name.invariant.named);
      leads = λ out err new result f. c.loop-name.invariant.leads out err new result (gathers c.args.names.now c.loop-name.name-index c.name-item.result c.loop-name-test.true c.name-item.is c.loop-name.left c.loop-name.sources.items _ _ _ _ _ (rw c.as_str-in-loop-name.ensures.text at c.in_ok-bytes.ensures out err) (rw (left, sources) at f));
    }

pub returns-clause-follows : goal.returns-clause-follows
returns-clause-follows g c out err = c.loop-name.invariant.leads out err _ _ (gathered _ _ _ _ _ c.loop-name-test.false)
