use Rattle.std.proofs.Common.{ℕ, refl, arith}
use Rattle.std.specs.List.{flat_map}
use Rattle.unit_input.specs.Spelling.{two}
use Rattle.unit_input.proofs.Written.{onwards_at, all_written}
use Rattle.unit_input.proofs.spelling.put_widths.Goals as goal

pub loop-width-preserved : goal.loop-width-preserved
loop-width-preserved c =
    onwards_at {A = ℕ} (λ xs. flat_map two xs) two c.args.widths.now c.loop-width.width-index 0 _ _ _ (λ x ys. refl) (omega arith) c.loop-width.invariant c.in_ok-put_two.ensures

pub returns : goal.returns
returns c = all_written {A = ℕ} (λ xs. flat_map two xs) c.args.widths.now c.loop-width.width-index _ _ refl c.loop-width-test.false c.loop-width.invariant
