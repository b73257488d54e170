use Rattle.std.proofs.Common.{◌≡◌, ◌∙◌, ◌*◌, ◌∷◌, ◌++◌, ℕ, [], map, ap, sym, arith}
use Rattle.std.specs.List.{range_with_len}
use Rattle.std.proofs.lemmas.List.FromFn.{map-range_with_len_more}
use Rattle.lar_source.specs.declared.file.File.{File}
use Rattle.source_gen.specs.Draws.{state_after}
use Rattle.source_gen.specs.Sources.{main_file, module_file}
use Rattle.source_gen.proofs.Ranges.{state_after-three}
use Rattle.source_gen.proofs.files.sources.Goals as goal

pub loop-k-preserved : goal.loop-k-preserved
loop-k-preserved c =
    let k = c.loop-k.k in
    let file_at = λ (j : ℕ). module_file c.args.modules (state_after (3 * j) c.args.seed) j in
    let before = map file_at (range_with_len 0 k) in
    let file : c.in_ok-module_file.field-0 ≡ file_at k = c.in_ok-module_file.ensures.file ∙ ap (λ x. module_file c.args.modules x k) c.loop-k.invariant.1 in (
      c.in_ok-push-2.ensures.items ∙ ap (λ files. files ++ (c.in_ok-module_file.field-0 ∷ [])) c.loop-k.invariant.0
          ∙ ap (λ (f : File). main_file c.args.modules ∷ (before ++ (f ∷ []))) file ∙ ap (λ files. main_file c.args.modules ∷ files) (sym (map-range_with_len_more file_at 0 k k (omega arith))),
      c.module_file.ensures.state ∙ ap (state_after 3) c.loop-k.invariant.1 ∙ state_after-three k c.args.seed,
    )
