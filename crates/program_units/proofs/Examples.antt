-- Two modules, where an inline function is called from both:
--
--     #[inline] fn inc(x: i64) -> i64 { return x + 1; } fn main() { print(inc(1)); b::go(); }     (main)
--     fn go() { print(main::inc(2)); }                                                            (b)
use Rattle.std.proofs.Common.{◌≡◌, List, [], ◌∷◌, refl, true, false, arith, Ok, pos}
use Rattle.std.specs.Prelude.{codes}
use Rattle.std.specs.Fmt.{digits}
use Rattle.lar_source.specs.declared.file.Span.{Span}
use Rattle.type_table.specs.TypeOf.{int, end, tuple}
use Rattle.lar_typed.specs.declared.op.BinaryOp.TheVariants.{Plus}
use Rattle.lar_typed.specs.Exprs.{PlainExpr, local, binary, call, no_exprs, exprs}
use Rattle.lar_typed.specs.Exprs as expr
use Rattle.lar_typed.specs.Stmts.{return_value, print, eval, no_stmts, stmts}
use Rattle.lar_typed.specs.Trees.{PlainFunction, PlainTree}
use Rattle.mono_graph.specs.Instances.{PlainInstance, plain_instance, calls_of, root_places, roots}
use Rattle.mono_graph.specs.Reading.{IsAll}
use Rattle.mono_graph.specs.Graphs.{max_instances}
use Rattle.mono_items.specs.Homes.{first_names, home_size}
use Rattle.mono_items.specs.Units.{units_left, own_items}
use Rattle.text_order.specs.Sorted.{sorted}
use Rattle.text_order.specs.TextOrder.{text_order}
use Rattle.cgu_merge.specs.Merging.{name_of, merged, merged_units}
use Rattle.program_units.specs.Collected.{collected}
use Rattle.program_units.specs.Placing.{symbol_in, calls_homeless}
use Rattle.program_units.specs.Units.{units_listed, units_of, copies_in}
use Rattle.program_units.proofs.Collected.{collected_all}

unfoldable pub here : Span
here = record { file = 0; line = 1; col = 1 }

unfoldable pub inc : PlainFunction
inc = record { module_path = codes "main"; name = codes "inc"; generics = []; params = 1; locals = int ∷ []; outcome = int; body = stmts (return_value (binary int Plus (local int 0) (expr.int int (pos 1)))) no_stmts; inlined = true; exported = false; at = here }

unfoldable pub main : PlainFunction
main = record { module_path = codes "main"; name = codes "main"; generics = []; params = 0; locals = []; outcome = tuple end; body = stmts (print (call int 0 end (exprs (expr.int int (pos 1)) no_exprs) here)) (stmts (eval (call (tuple end) 2 end no_exprs here)) no_stmts); inlined = false; exported = false; at = here }

unfoldable pub go : PlainFunction
go = record { module_path = codes "b"; name = codes "go"; generics = []; params = 0; locals = []; outcome = tuple end; body = stmts (print (call int 0 end (exprs (expr.int int (pos 2)) no_exprs) here)) no_stmts; inlined = false; exported = false; at = here }

unfoldable pub program : PlainTree
program = record { structs = []; consts = []; functions = inc ∷ main ∷ go ∷ [] }

unfoldable pub found : List PlainInstance
found = plain_instance 1 ∷ plain_instance 0 ∷ plain_instance 2 ∷ []

all-program : IsAll (calls_of program) max_instances (roots program) found
unfolding calls_of root_places roots text_order inc main go here program found
all-program = record { count = 3; read = refl; done = omega arith }

pub collected-program : collected program ≡ Ok found
collected-program = collected_all program found all-program

pub units_listed-program : units_listed program 16 found ≡ codes "b size 4 items 1 copies 1\nmain size 6 items 1 copies 1\n"
unfolding units_listed units_of copies_in calls_homeless calls_of symbol_in units_left first_names home_size own_items merged_units merged name_of sorted text_order digits inc main go here program found
units_listed-program = refl

-- where one unit is left, both modules are in it
pub units_listed-one : units_listed program 1 found ≡ codes "b+main size 10 items 2 copies 1\n"
unfolding units_listed units_of copies_in calls_homeless calls_of symbol_in units_left first_names home_size own_items merged_units merged name_of sorted text_order digits inc main go here program found
units_listed-one = refl
