-- Small programs with structs, generics, calls and `new`, computed: the fault that is told, or the program with its
-- types.
use Rattle.std.proofs.Common.{arith, ◌≡◌, ℕ, ◌+◌, ℤ, pos, List, [], ◌∷◌, Option, Some, None, false, codes, refl}
use Rattle.std.specs.Fmt.{decimal}
use Rattle.lar_source.specs.declared.file.Span.{Span}
use Rattle.lar_source.specs.declared.code.Code.{Code}
use Rattle.lar_source.specs.declared.code.Code.TheVariants as code
use Rattle.lar_tree.specs.declared.name.Name.{Name}
use Rattle.lar_tree.specs.declared.name.Path.{Path}
use Rattle.lar_tree.specs.declared.commas.Commas.{Commas}
use Rattle.lar_tree.specs.declared.item.Generic.TheVariants as generic
use Rattle.lar_tree.specs.declared.ty.SignedNumber.{SignedNumber}
use Rattle.lar_tree.specs.declared.expr.Selector.TheVariants as selector
use Rattle.lar_tree.specs.Types.{PlainTy, int_type, bool_type, named_type, generic_type, PlainArgs, angle_args, PlainArg, type_arg, number_arg, MoreArgs, last_arg, next_arg}
use Rattle.lar_tree.specs.Exprs.{PlainExpr, number, truth, path, call, field, new_struct, parts, last_part, PlainInits, inits, last_init, next_init}
use Rattle.lar_tree.specs.Stmts.{let_stmt, return_stmt, expr_stmt, block, PlainStmts, no_stmts, stmts}
use Rattle.lar_tree.specs.Lawful.{LimitedExpr, LimitedItem}
use Rattle.lar_tree.specs.Items.{PlainItem, module_item, struct_item, fn_item, PlainItems, no_items, items}
use Rattle.lar_typed.specs.Exprs as typed
use Rattle.lar_typed.specs.Stmts as typed_stmt
use Rattle.lar_typed.specs.Trees.{PlainTree}
use Rattle.type_table.specs.TypeOf as type
use Rattle.type_table.specs.declared.sort.Sort.TheVariants.{Ty as of_type, Number as of_number}
use Rattle.lar_rules.specs.Fault.{Fault, least}
use Rattle.lar_rules.specs.Declared.{Source, declared}
use Rattle.lar_rules.specs.Faults.{faults, first_fault}
use Rattle.lar_rules.specs.Checked.{typed as typed_program}
use Rattle.lar_typed.specs.IsTyped.{IsTyped}
use Rattle.lar_sound.specs.Sources.{AreSources}
use Rattle.lar_sound.proofs.Sound.{program_sound}

-- the nth column of the first line
abbrev at : ℕ → Span
at n = record { file = 0; line = 1; col = n }

abbrev named : List ℕ → ℕ → Name
named text n = record { text = text; span = at n }

abbrev here : List ℕ → ℕ → Path
here text n = record { first = named text n; more = [] }

abbrev only : {A : Type 0} → A → Option (Commas A)
only x = Some (record { first = x; more = [] })

abbrev two : {A : Type 0} → A → A → Commas A
two x y = record { first = x; more = record { comma = at 0; value = y } ∷ [] }

abbrev plain : ℤ → ℕ → SignedNumber
plain v n = record { minus = None; value = v; span = at n }

abbrev main_file : PlainItems → List Source
main_file is = record { module_name = codes "main"; items = is } ∷ []

-- struct P<T> { a: T, b: i64 }   its name at column 8
abbrev pair : PlainItem
pair = struct_item record {
  keyword = at 1;
  name = named (codes "P") 8;
  generics = Some (record { «open» = at 9; list = record { first = named (codes "T") 10; more = [] }; close = at 11 });
  from = at 13;
  fields =
      Some (two (named (codes "a") 15, at 16, named_type (here (codes "T") 18))
      (named (codes "b") 21, at 22, int_type (at 24)));
  to = at 28;
}

-- P<T> for a type that is written at a column
abbrev pair_of : PlainTy → ℕ → PlainTy
pair_of t n = generic_type (here (codes "P") n) (angle_args (at 0) (type_arg t) last_arg (at 0))

-- fn id<T, const N: i64>(p: P<T>) -> T { return p.a; }   its name at column 104
abbrev first_of : PlainItem
first_of = fn_item record {
  attributes = [];
  keyword = at 101;
  name = named (codes "id") 104;
  generics = Some (record {
    «open» = at 106;
    list = two (generic.Ty (named (codes "T") 107))
        (generic.Const record { keyword = at 110; name = named (codes "N") 116; colon = at 117; int = at 119 });
    close = at 122;
  });
  from = at 123;
  params = only (named (codes "p") 124, at 125, pair_of (named_type (here (codes "T") 129)) 127);
  to = at 131;
  output = Some (at 133, named_type (here (codes "T") 136));
  body = block (at 138)
      (stmts (return_stmt (at 140)
      (Some (field (path (here (codes "p") 147)) (at 148) (selector.Name (named (codes "a") 149)))) (at 150)) no_stmts)
      (at 152);
}

abbrev main_of : PlainStmts → PlainItem
main_of body = fn_item record {
  attributes = [];
  keyword = at 201;
  name = named (codes "main") 204;
  generics = None;
  from = at 208;
  params = None;
  to = at 209;
  output = None;
  body = block (at 211) body (at 299);
}

abbrev program : PlainStmts → List Source
program body = main_file (items pair (items first_of (items (main_of body) no_items)))

-- let x: i64 = E;
abbrev let_int : PlainExpr → PlainStmts
let_int e = stmts (let_stmt record {
  keyword = at 213;
  name = named (codes "x") 217;
  colon = at 218;
  ty = int_type (at 220);
  assign = at 224;
  value = e;
  semicolon = at 298;
}) no_stmts

-- E;
abbrev eval : PlainExpr → PlainStmts
eval e = stmts (expr_stmt e None (at 298)) no_stmts

abbrev generics : PlainArg → MoreArgs → Option (Span × PlainArgs)
generics a others = Some (at 0, angle_args (at 0) a others (at 0))

-- new P::<i64> { .. }, at a column
abbrev new_pair : ℕ → PlainInits → PlainExpr
new_pair n is = new_struct (at n) (here (codes "P") (n + 4)) (generics (type_arg (int_type (at (n + 8)))) last_arg)
    (at 0) is (at 0)

-- { a: 1, b: 2 }
abbrev both_set : PlainInits
both_set =
    inits (named (codes "a") 255) (at 0) (number (pos 1) (at 258))
    (next_init (at 0) (named (codes "b") 261) (at 0) (number (pos 2) (at 264)) last_init)

-- id::<..>(E), at column 226
abbrev call_id : PlainArg → MoreArgs → PlainExpr → PlainExpr
call_id a others e = call (here (codes "id") 226) (generics a others) (at 0) (parts e last_part) (at 0)

-- the generics i64 and 3
abbrev call_lawful : PlainExpr → PlainExpr
call_lawful e = call_id (type_arg (int_type (at 231))) (next_arg (at 0) (number_arg (plain (pos 3) 236)) last_arg) e

abbrev told : Code → ℕ → List (List ℕ) → Fault
told c n args = record { file = 0; line = 1; col = n; code = c; args = args }

-- fn main() { let x: i64 = id::<i64, 3>(new P::<i64> { a: 1, b: 2 }); }
none_told : first_fault (program (let_int (call_lawful (new_pair 240 both_set)))) ≡ None
unfolding first_fault faults declared least
none_told = refl

-- the type P<i64>, as the program has it
abbrev int_pair : type.TypeOf
int_pair = type.struct 0 (type.more type.int type.end)

abbrev lawful_tree : PlainTree
lawful_tree = record {
  structs =
      record {
        module_path = codes "main";
        name = codes "P";
        generics = 1;
        fields =
            type.more (type.param 0) (type.more type.int type.end);
        depth = 0;
      } ∷ [];
  consts = [];
  functions = record {
    module_path = codes "main";
    name = codes "id";
    generics = of_type ∷ of_number ∷ [];
    params = 1;
    locals = type.struct 0 (type.more (type.param 0) type.end) ∷ [];
    outcome = type.param 0;
    body = typed_stmt.stmts
        (typed_stmt.return_value
        (typed.part (type.param 0) (typed.local (type.struct 0 (type.more (type.param 0) type.end)) 0) 0))
        typed_stmt.no_stmts;
    inlined = false;
    exported = false;
    at = at 104;
  } ∷ record {
    module_path = codes "main";
    name = codes "main";
    generics = [];
    params = 0;
    locals = type.int ∷ [];
    outcome = type.tuple type.end;
    body = typed_stmt.stmts
        (typed_stmt.let_local 0 (typed.call type.int 0 (type.more type.int (type.more (type.number (pos 3)) type.end))
        (typed.exprs
        (typed.made int_pair
        (typed.exprs (typed.int type.int (pos 1)) (typed.exprs (typed.int type.int (pos 2)) typed.no_exprs)))
        typed.no_exprs) (at 226))) typed_stmt.no_stmts;
    inlined = false;
    exported = false;
    at = at 204;
  } ∷ [];
}

lawful : typed_program (program (let_int (call_lawful (new_pair 240 both_set)))) ≡ Some lawful_tree
unfolding typed_program declared
lawful = refl

pair_kept : LimitedItem 64 pair
pair_kept = (omega arith, (omega arith, ((omega arith, tt), ((omega arith, tt), tt))))

first_of_kept : LimitedItem 64 first_of
first_of_kept = (
  omega arith,
  (omega arith, ((omega arith, (omega arith, tt, tt)), tt)),
  (omega arith, tt),
  (omega arith, ((omega arith, tt), tt)),
)

main_kept : LimitedItem 64 (main_of (let_int (call_lawful (new_pair 240 both_set))))
main_kept =
    let made : LimitedExpr (new_pair 240 both_set) = (omega arith, (omega arith, tt, tt), (tt, (tt, tt))) in
    let called : LimitedExpr (call_lawful (new_pair 240 both_set)) =
    (omega arith, (omega arith, tt, (tt, tt)), (made, tt)) in
    (tt, tt, tt, (omega arith, (((omega arith, tt), (omega arith, called)), tt)))

-- its source keeps what the parser promises
source_kept : AreSources (program (let_int (call_lawful (new_pair 240 both_set))))
source_kept = (
  record {
    named_module = refl;
    named_items = (refl, (refl, (refl, tt)));
    limited = (pair_kept, (first_of_kept, (main_kept, tt)));
    few_tokens = omega arith;
  },
  tt,
)

-- so the law gives all that a typed tree keeps
is_typed : IsTyped lawful_tree
is_typed =
    program_sound (program (let_int (call_lawful (new_pair 240 both_set)))) lawful_tree source_kept none_told lawful

-- new P::<i64> { b: 2, a: 1 }   the first wrong name
other_order : first_fault
    (program
    (eval (new_pair 240
    (inits (named (codes "b") 255) (at 0) (number (pos 2) (at 258))
    (next_init (at 0) (named (codes "a") 261) (at 0) (number (pos 1) (at 264)) last_init))))) ≡ Some
    (told code.NoSuchPlace 255 [])
unfolding first_fault faults declared least
other_order = refl

-- new P::<i64> { a: 1 }   a missing field is a fault at `new`
missing : first_fault
    (program (eval (new_pair 240 (inits (named (codes "a") 255) (at 0) (number (pos 1) (at 258)) last_init)))) ≡ Some
    (told code.NoSuchPlace 240 [])
unfolding first_fault faults declared least
missing = refl

-- new P::<i64> { a: true, b: 2 }   the generic's argument is what the field has
wrong_value : first_fault
    (program
    (eval (new_pair 240
    (inits (named (codes "a") 255) (at 0) (truth (at 258))
    (next_init (at 0) (named (codes "b") 264) (at 0) (number (pos 2) (at 267)) last_init))))) ≡ Some
    (told code.WrongType 258 (codes "i64" ∷ codes "bool" ∷ []))
unfolding first_fault faults declared least
wrong_value = refl

-- id::<i64>(new P::<i64> { a: 1, b: 2 })   one generic of two
uncounted : first_fault
    (program (eval (call_id (type_arg (int_type (at 231))) last_arg (new_pair 240 both_set)))) ≡ Some
    (told code.WrongCount 226 (decimal 2 ∷ decimal 1 ∷ []))
unfolding first_fault faults declared least
uncounted = refl

-- id::<i64, bool>(new P::<i64> { a: 1, b: 2 })   a type for a number
missorted : first_fault
    (program
    (eval (call_id (type_arg (int_type (at 231))) (next_arg (at 0) (type_arg (bool_type (at 236))) last_arg)
    (new_pair 240 both_set)))) ≡ Some (told code.WrongType 236 (codes "number" ∷ codes "type" ∷ []))
unfolding first_fault faults declared least
missorted = refl

-- id::<i64, 3>(1)   the parameter's type, with the generic's argument in it
wrong_argument : first_fault (program (eval (call_lawful (number (pos 1) (at 240))))) ≡ Some
    (told code.WrongType 240 (codes "main::P<i64>" ∷ codes "i64" ∷ []))
unfolding first_fault faults declared least
wrong_argument = refl

-- new P::<i64> { a: 1, b: 2 }.c   no such field
no_field : first_fault
    (program (eval (field (new_pair 240 both_set) (at 270) (selector.Name (named (codes "c") 271))))) ≡ Some
    (told code.NoSuchPlace 271 [])
unfolding first_fault faults declared least
no_field = refl

-- struct S { s: S }   it follows itself, without end
abbrev own : PlainItem
own = struct_item record {
  keyword = at 1;
  name = named (codes "S") 8;
  generics = None;
  from = at 10;
  fields = only (named (codes "s") 12, at 13, named_type (here (codes "S") 15));
  to = at 17;
}

endless : first_fault (main_file (items own (items (main_of no_stmts) no_items))) ≡ Some
    (told code.NestedTooDeep 8 (codes "S" ∷ []))
unfolding first_fault faults declared least
endless = refl

-- mod m { fn f() { } }   a module of one name twice: the second, and what is in it is no other fault
abbrev inner : ℕ → PlainItem
inner n = module_item (at n) (named (codes "m") (n + 4)) (at 0) no_items (at 0)

module_twice : first_fault
    (main_file (items (main_of no_stmts) (items (inner 301) (items (inner 311) no_items)))) ≡ Some
    (told code.DefinedTwice 315 (codes "m" ∷ []))
unfolding first_fault faults declared least
module_twice = refl
