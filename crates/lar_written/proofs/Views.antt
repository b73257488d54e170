-- The plain types of each variant.
use Rattle.std.proofs.Common.{◌≡◌, Option, Some, None, sym, ap, ◌∙◌}
use Rattle.lar_source.specs.declared.file.Span.{Span}
use Rattle.lar_tree.specs.declared.name.Path.{Path}
use Rattle.lar_tree.specs.declared.ty.SignedNumber.{SignedNumber}
use Rattle.lar_tree.specs.declared.ty.Ty.{Ty}
use Rattle.lar_tree.specs.declared.ty.Ty.TheVariants.{Int, Bool, Unit as UnitTy, Tuple, Named, rolls-Int, rolls-Bool, rolls-Unit, rolls-Tuple, rolls-Named}
use Rattle.lar_tree.specs.declared.ty.GenericArg.TheOpen.{GenericArg-F, Ty-F}
use Rattle.lar_tree.specs.declared.ty.GenericArg.TheFolds.{fold-roll-GenericArg, fold-roll-Ty, fold_out-GenericArgs, fold_out-TupleTy}
use Rattle.lar_tree.specs.declared.ty.TupleTy.{TupleTy}
use Rattle.lar_tree.specs.declared.ty.GenericArgs.{GenericArgs}
use Rattle.lar_tree.specs.declared.ty.GenericArg.{GenericArg}
use Rattle.lar_tree.specs.declared.ty.GenericArg.TheVariants as arg
use Rattle.lar_tree.specs.TypeView.{arg_step, type_step, args_step, tuple_step, type_view, tuple_view, args_view, arg_view, more_types_view, more_args_view}
use Rattle.lar_tree.specs.Types.{PlainArg, PlainArgs, PlainTy, int_type, bool_type, unit_type, tuple_type, named_type, generic_type, angle_args, type_arg, number_arg}

pub int_view : (at : Span) → type_view (Int at) ≡ int_type at
int_view at = ap type_view (sym (rolls-Int at)) ∙ fold-roll-Ty PlainArg PlainTy PlainArgs PlainTy arg_step type_step args_step tuple_step (Ty-F.Int at)

pub bool_view : (at : Span) → type_view (Bool at) ≡ bool_type at
bool_view at = ap type_view (sym (rolls-Bool at)) ∙ fold-roll-Ty PlainArg PlainTy PlainArgs PlainTy arg_step type_step args_step tuple_step (Ty-F.Bool at)

pub unit_view : (from to : Span) → type_view (UnitTy from to) ≡ unit_type from to
unit_view from to = ap type_view (sym (rolls-Unit from to)) ∙ fold-roll-Ty PlainArg PlainTy PlainArgs PlainTy arg_step type_step args_step tuple_step (Ty-F.Unit from to)

pub named_view : (p : Path) → type_view (Named p None) ≡ named_type p
named_view p = ap type_view (sym (rolls-Named p None)) ∙ fold-roll-Ty PlainArg PlainTy PlainArgs PlainTy arg_step type_step args_step tuple_step (Ty-F.Named p None)

pub generic_view : (p : Path) (a : GenericArgs) → type_view (Named p (Some a)) ≡ generic_type p (args_view a)
generic_view p a = ap type_view (sym (rolls-Named p (Some a))) ∙ fold-roll-Ty PlainArg PlainTy PlainArgs PlainTy arg_step type_step args_step tuple_step (Ty-F.Named p (Some a))

pub args_are : (a : GenericArgs) → args_view a ≡ angle_args a.open (arg_view a.list.first) (more_args_view a.list.more) a.close
args_are a = fold_out-GenericArgs PlainArg PlainTy PlainArgs PlainTy arg_step type_step args_step tuple_step a

pub tuple_is : (t : TupleTy) → tuple_view t ≡ tuple_type t.open (type_view t.first) t.comma (type_view t.second) (more_types_view t.more) t.close
tuple_is t = fold_out-TupleTy PlainArg PlainTy PlainArgs PlainTy arg_step type_step args_step tuple_step t

pub number_view : (n : SignedNumber) → arg_view (arg.Number n) ≡ number_arg n
number_view n = ap arg_view (sym (arg.rolls-Number n)) ∙ fold-roll-GenericArg PlainArg PlainTy PlainArgs PlainTy arg_step type_step args_step tuple_step (GenericArg-F.Number n)

pub type_arg_view : (t : Ty) → arg_view (arg.Ty t) ≡ type_arg (type_view t)
type_arg_view t = ap arg_view (sym (arg.rolls-Ty t)) ∙ fold-roll-GenericArg PlainArg PlainTy PlainArgs PlainTy arg_step type_step args_step tuple_step (GenericArg-F.Ty t)

pub tuple_view_is : (t : TupleTy) → type_view (Tuple t) ≡ tuple_view t
tuple_view_is t = ap type_view (sym (rolls-Tuple t)) ∙ fold-roll-Ty PlainArg PlainTy PlainArgs PlainTy arg_step type_step args_step tuple_step (Ty-F.Tuple t)
