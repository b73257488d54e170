use Rattle.std.proofs.Common.{◌+◌, ◌∷◌, drop, sym, ap, ◌∙◌, subst}
use Rattle.std.proofs.lemmas.List.{drop_more}
use Rattle.lar_names.specs.Sources.{source_of, sources_of}
use Rattle.lar_names.proofs.WalkFacts.{FilesSoFar, files_more}
use Rattle.lar_names.proofs.walk.walked.Goals as goal

pub loop-file-preserved : goal.loop-file-preserved
loop-file-preserved c =
    let x = c.index-trees-file.result in
    let i = c.loop-file.file in
    let rest = drop (i + 1) c.args.trees.now in
    let e = drop_more c.args.trees.now i x c.loop-file-test.true ∙ ap (λ y. y ∷ rest) (sym c.index-trees-file.is) in
    let so = subst (λ zs. FilesSoFar (sources_of c.args.trees.now) i (sources_of zs) c.loop-file.found.declared.items c.loop-file.found.scopes) e c.loop-file.invariant in
    files_more (sources_of c.args.trees.now) (sources_of rest) i (source_of x) c.loop-file.found.declared.items c.source.new.found.declared.items c.loop-file.found.scopes c.source.new.found.scopes so c.source.ensures.grown c.in_ok-source.ensures.ok
