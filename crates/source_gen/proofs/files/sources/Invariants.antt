use Rattle.std.proofs.Common.{◌≡◌, ◌*◌, ◌∷◌, map}
use Rattle.std.specs.List.{range_with_len}
use Rattle.source_gen.specs.Draws.{state_after}
use Rattle.source_gen.specs.Sources.{main_file, module_file}
use Rattle.source_gen.proofs.files.sources.Given as goal

abbrev pub invariant-loop-k : goal.invariant-loop-k
invariant-loop-k l =
    (l.files.items ≡ main_file l.modules ∷ map (λ k. module_file l.modules (state_after (3 * k) l.fn.seed) k) (range_with_len 0 l.k))
    × (l.draws.state ≡ state_after (3 * l.k) l.fn.seed)
