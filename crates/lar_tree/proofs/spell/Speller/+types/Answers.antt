use Rattle.std.proofs.Common.{◌∷◌, refl, arith}
use Rattle.lar_tree.specs.declared.commas.Member.{Member}
use Rattle.lar_tree.specs.declared.ty.GenericArg.{GenericArg}
use Rattle.lar_tree.specs.declared.ty.Ty.{Ty}
use Rattle.lar_tree.specs.TypeView.{type_view, arg_view, more_types_view, more_args_view}
use Rattle.lar_tree.specs.Types.{flat_type, flat_types, flat_arg, flat_more_args}
use Rattle.lar_tree.specs.declared.sign.Sign.TheVariants as sign
use Rattle.lar_tree.specs.Spelling.{sign_token}
use Rattle.lar_tree.proofs.Onwards.{onwards, twice}
use Rattle.lar_tree.proofs.spell.Speller.+types.Goals as goal

pub more_types-loop-member-preserved : goal.more_types-loop-member-preserved
more_types-loop-member-preserved t c =
    let done = twice _ _ _ _ _ c.in_ok-sign.ensures c.in_ok-ty.ensures in
    onwards {A = Member Ty} (λ xs. flat_types (more_types_view xs)) (λ x. sign_token sign.Comma x.comma ∷ flat_type (type_view x.value)) c.args.members.now c.loop-member.member-index c.member-item.result _ _ _ (λ ys. refl) (omega arith) c.member-item.is c.loop-member.invariant done

pub more_args-loop-member-preserved : goal.more_args-loop-member-preserved
more_args-loop-member-preserved t c =
    let done = twice _ _ _ _ _ c.in_ok-sign.ensures c.in_ok-generic_arg.ensures in
    onwards {A = Member GenericArg} (λ xs. flat_more_args (more_args_view xs)) (λ x. sign_token sign.Comma x.comma ∷ flat_arg (arg_view x.value)) c.args.members.now c.loop-member.member-index c.member-item.result _ _ _ (λ ys. refl) (omega arith) c.member-item.is c.loop-member.invariant done
