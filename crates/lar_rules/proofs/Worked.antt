-- Small programs, computed: the fault that is told, or the program with its types.
use Rattle.std.proofs.Common.{◌≡◌, ℕ, ℤ, pos, List, [], ◌∷◌, ◌++◌, Option, Some, None, Bool, true, false, codes, refl}
use Rattle.lar_source.specs.declared.file.Span.{Span}
use Rattle.lar_source.specs.declared.code.Code.{Code}
use Rattle.lar_source.specs.declared.code.Code.TheVariants as code
use Rattle.lar_tree.specs.declared.name.Name.{Name}
use Rattle.lar_tree.specs.declared.name.Path.{Path}
use Rattle.lar_tree.specs.declared.expr.Binary.TheVariants as binary
use Rattle.lar_tree.specs.Types.{PlainTy, int_type, bool_type, unit_type}
use Rattle.lar_tree.specs.Exprs.{PlainExpr, number, truth, path, call, paren, no_parts, binary_of}
use Rattle.lar_tree.specs.Stmts.{PlainStmt, let_stmt, while_stmt, return_stmt, print_stmt, assert_stmt, expr_stmt, PlainBlock, block, PlainStmts, no_stmts, stmts}
use Rattle.lar_tree.specs.Items.{PlainItem, fn_item, PlainItems, no_items, items, PlainOutput}
use Rattle.lar_typed.specs.Exprs as typed
use Rattle.lar_typed.specs.Stmts as typed_stmt
use Rattle.lar_typed.specs.Trees.{PlainTree}
use Rattle.type_table.specs.TypeOf.{int, end, tuple}
use Rattle.lar_rules.specs.Fault.{Fault, least}
use Rattle.lar_rules.specs.Declared.{Source, declared}
use Rattle.lar_rules.specs.Faults.{faults, first_fault}
use Rattle.lar_rules.specs.Checked.{typed as typed_program}

-- the nth column of the first line
abbrev at : ℕ → Span
at n = record { file = 0; line = 1; col = n }

abbrev named : List ℕ → ℕ → Name
named text n = record { text = text; span = at n }

abbrev one : List ℕ → ℕ → PlainExpr
one text n = path record { first = named text n; more = [] }

-- main.larch with these items
abbrev main_file : PlainItems → List Source
main_file is = record { module_name = codes "main"; items = is } ∷ []

-- `fn NAME() BLOCK` and, where there is one, its result; the name stands at column 4
abbrev function : List ℕ → Option PlainOutput → PlainStmts → PlainItem
function name output body = fn_item record {
  attributes = [];
  keyword = at 1;
  name = named name 4;
  generics = None;
  from = at 8;
  params = None;
  to = at 9;
  output = output;
  body = block (at 11) body (at 99);
}

abbrev main_with : PlainStmts → List Source
main_with body = main_file (items (function (codes "main") None body) no_items)

abbrev let_at : PlainTy → PlainExpr → PlainStmt
let_at t e = let_stmt record { keyword = at 13; name = named (codes "x") 17; colon = at 18; ty = t; assign = at 25; value = e; semicolon = at 28 }

abbrev told : Code → ℕ → List (List ℕ) → Fault
told c n args = record { file = 0; line = 1; col = n; code = c; args = args }

-- an empty file has no main
no_main : first_fault (main_file no_items) ≡ Some (told code.NoLawfulMain 1 [])
unfolding first_fault faults declared least
no_main = refl

-- fn main() { let x: bool = 3; }
other_type : first_fault (main_with (stmts (let_at (bool_type (at 20)) (number (pos 3) (at 27))) no_stmts)) ≡ Some (told code.WrongType 27 (codes "bool" ∷ codes "i64" ∷ []))
unfolding first_fault faults declared least
other_type = refl

-- fn main() { let x: i64 = x; }   a local is not seen in its own `let`
own_let : first_fault (main_with (stmts (let_at (int_type (at 20)) (one (codes "x") 26)) no_stmts)) ≡ Some (told code.UnknownName 26 (codes "x" ∷ []))
unfolding first_fault faults declared least
own_let = refl

-- fn main() { 1 = true; }   the place is the first fault
no_place : first_fault (main_with (stmts (expr_stmt (number (pos 1) (at 13)) (Some (at 15, truth (at 17))) (at 21)) no_stmts)) ≡ Some (told code.NoSuchPlace 13 [])
unfolding first_fault faults declared least
no_place = refl

-- fn main() { () == (); }   what is compared is i64 or bool
compared : first_fault (main_with (stmts (expr_stmt (binary_of (paren (at 13) no_parts (at 14)) binary.Equal (at 16) (paren (at 19) no_parts (at 20))) None (at 21)) no_stmts)) ≡ Some (told code.WrongType 13 (codes "i64" ∷ codes "()" ∷ []))
unfolding first_fault faults declared least
compared = refl

-- fn main() { static_assert(()); }   the tuple, and not its type
asserted : first_fault (main_with (stmts (assert_stmt record { keyword = at 13; from = at 26; value = paren (at 27) no_parts (at 28); to = at 29; semicolon = at 30 }) no_stmts)) ≡ Some (told code.NoSuchPlace 27 [])
unfolding first_fault faults declared least
asserted = refl

-- fn f() -> i64 { }   beside a lawful main, at the closing bracket
ends : first_fault (main_file (items (function (codes "f") (Some (at 10, int_type (at 13))) no_stmts) (items (function (codes "main") None no_stmts) no_items))) ≡ Some (told code.MayEndWithoutValue 99 (codes "f" ∷ []))
unfolding first_fault faults declared least
ends = refl

-- two functions of one name: the second, at its name
defined_twice : first_fault (main_file (items (function (codes "main") None no_stmts) (items (function (codes "main") None no_stmts) no_items))) ≡ Some (told code.DefinedTwice 4 (codes "main" ∷ []))
unfolding first_fault faults declared least
defined_twice = refl

-- fn main() { let x: i64 = 1; }
abbrev one_let : PlainTree
one_let = record {
  structs = [];
  consts = [];
  functions = record {
    module_path = codes "main";
    name = codes "main";
    generics = [];
    params = 0;
    locals = int ∷ [];
    outcome = tuple end;
    body = typed_stmt.stmts (typed_stmt.let_local 0 (typed.int int (pos 1))) typed_stmt.no_stmts;
    inlined = false;
    exported = false;
    at = at 4;
  } ∷ [];
}

lawful : typed_program (main_with (stmts (let_at (int_type (at 20)) (number (pos 1) (at 26))) no_stmts)) ≡ Some one_let
unfolding typed_program declared
lawful = refl

none_told : first_fault (main_with (stmts (let_at (int_type (at 20)) (number (pos 1) (at 26))) no_stmts)) ≡ None
unfolding first_fault faults declared least
none_told = refl
