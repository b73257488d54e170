-- The plain type that a type of the code stands for.
use Rattle.std.specs.Prelude.{List, [], ◌∷◌, map, Some, None}
use Rattle.lar_tree.specs.declared.commas.Member.{Member}
use Rattle.lar_tree.specs.declared.ty.Ty.{Ty}
use Rattle.lar_tree.specs.declared.ty.TupleTy.{TupleTy}
use Rattle.lar_tree.specs.declared.ty.GenericArgs.{GenericArgs}
use Rattle.lar_tree.specs.declared.ty.GenericArg.{GenericArg}
use Rattle.lar_tree.specs.declared.ty.GenericArg.TheOpen.{GenericArg-F, Ty-F, GenericArgs-F, TupleTy-F}
use Rattle.lar_tree.specs.declared.ty.GenericArg.TheFolds.{fold-GenericArg, fold-Ty, fold-GenericArgs, fold-TupleTy}
use Rattle.lar_tree.specs.Commas.{member_map}
use Rattle.lar_tree.specs.Types.{PlainTy, int_type, bool_type, unit_type, tuple_type, named_type, generic_type, MoreTypes, last_type, next_type, PlainArgs, angle_args, PlainArg, type_arg, number_arg, MoreArgs, last_arg, next_arg}

abbrev pub more_types : List (Member PlainTy) → MoreTypes
more_types [] = last_type
more_types (m ∷ ms) = next_type m.comma m.value (more_types ms)

abbrev pub more_args : List (Member PlainArg) → MoreArgs
more_args [] = last_arg
more_args (m ∷ ms) = next_arg m.comma m.value (more_args ms)

abbrev pub arg_step : GenericArg-F PlainArg PlainTy PlainArgs PlainTy → PlainArg
arg_step (GenericArg-F.Ty t) = type_arg t
arg_step (GenericArg-F.Number n) = number_arg n

abbrev pub type_step : Ty-F PlainArg PlainTy PlainArgs PlainTy → PlainTy
type_step (Ty-F.Int at) = int_type at
type_step (Ty-F.Bool at) = bool_type at
type_step (Ty-F.Unit from to) = unit_type from to
type_step (Ty-F.Tuple t) = t
type_step (Ty-F.Named path None) = named_type path
type_step (Ty-F.Named path (Some args)) = generic_type path args

abbrev pub args_step : GenericArgs-F PlainArg PlainTy PlainArgs PlainTy → PlainArgs
args_step a = angle_args a.open a.list.first (more_args a.list.more) a.close

abbrev pub tuple_step : TupleTy-F PlainArg PlainTy PlainArgs PlainTy → PlainTy
tuple_step t = tuple_type t.open t.first t.comma t.second (more_types t.more) t.close

abbrev pub arg_view : GenericArg → PlainArg
arg_view = fold-GenericArg PlainArg PlainTy PlainArgs PlainTy arg_step type_step args_step tuple_step

abbrev pub type_view : Ty → PlainTy
type_view = fold-Ty PlainArg PlainTy PlainArgs PlainTy arg_step type_step args_step tuple_step

abbrev pub args_view : GenericArgs → PlainArgs
args_view = fold-GenericArgs PlainArg PlainTy PlainArgs PlainTy arg_step type_step args_step tuple_step

abbrev pub tuple_view : TupleTy → PlainTy
tuple_view = fold-TupleTy PlainArg PlainTy PlainArgs PlainTy arg_step type_step args_step tuple_step

abbrev pub more_types_view : List (Member Ty) → MoreTypes
more_types_view ms = more_types (map (member_map type_view) ms)

abbrev pub more_args_view : List (Member GenericArg) → MoreArgs
more_args_view ms = more_args (map (member_map arg_view) ms)
