-- The code of prints is whole instructions, and calls nothing.
use Rattle.std.proofs.Common.{ℕ, List, [], ◌∷◌, ◌++◌, cond, true, false, ℤ, w8, w64, refl, rules}
use Rattle.std.specs.Int.{to_be_bytes, cast_unsigned}
use Rattle.std.specs.List.{flat_map}
use Rattle.object_format.specs.Code.{IsLinkedCode}
use Rattle.object_format.specs.declared.opcode.Opcode.TheVariants.{Push8, Push64, Print, Return}
use Rattle.object_format.proofs.CodeLemmas.{linked-append, linked-instruction, linked-none}
use Rattle.larch_cli.specs.ThinImage.{is_short, push_code, print_code}

push_linked : (count : ℕ) (z : ℤ) → IsLinkedCode count (push_code z)
push_linked count z = elim (is_short z) as (λ b. IsLinkedCode count (cond b (1 ∷ cast_unsigned w8 z ∷ []) (2 ∷ to_be_bytes w64 (cast_unsigned w64 z)))) [
  | true ↦ linked-instruction count Push8 (cast_unsigned w8 z ∷ []) refl (λ is. cc)
  | false ↦ linked-instruction count Push64 (to_be_bytes w64 (cast_unsigned w64 z)) (search rules) (λ is. cc)
]

print_linked : (count : ℕ) (z : ℤ) → IsLinkedCode count (print_code z)
print_linked count z = linked-append count (push_code z) _ (push_linked count z) (linked-instruction count Print [] refl (λ is. cc))

prints_linked : (count : ℕ) (zs : List ℤ) → IsLinkedCode count (flat_map print_code zs)
prints_linked count [] = linked-none count
prints_linked count (z ∷ zs) = linked-append count (print_code z) _ (print_linked count z) (prints_linked count zs)

-- all of it, with the return at its end
pub thin_linked : (count : ℕ) (zs : List ℤ) → IsLinkedCode count (flat_map print_code zs ++ 22 ∷ [])
thin_linked count zs = linked-append count (flat_map print_code zs) _ (prints_linked count zs) (linked-instruction count Return [] refl (λ is. cc))
