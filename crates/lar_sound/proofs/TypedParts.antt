-- What a struct and a function with their types are made of.
use Rattle.std.proofs.Common.{◌≡◌, refl, List, map, Option, Some, None, option_map}
use Rattle.type_table.specs.TypeOf.{TypeOf}
use Rattle.lar_typed.specs.Stmts.{PlainStmts}
use Rattle.lar_typed.specs.Trees.{PlainFunction as TypedFunction, PlainStruct as TypedStruct}
use Rattle.lar_rules.specs.Declared.{Declared, Struct, Function}
use Rattle.lar_rules.specs.Signatures.{fields, outcome}
use Rattle.lar_rules.specs.Functions.{body_done}
use Rattle.lar_rules.specs.Checked.{all_known, typed_struct_of, typed_struct, typed_function_of, function_if, typed_function}
use Rattle.lar_sound.proofs.Known.{some_same, none_some}

pub record StructParts (all : List Declared) (x : Struct) (y : TypedStruct) : Type 0 where
  pub types : List TypeOf
  pub known : all_known (map (λ m. m.1) (fields all x)) ≡ Some types
  pub is : typed_struct_of all x types ≡ y

struct_by : (all : List Declared) (x : Struct) (y : TypedStruct) (o : Option (List TypeOf))
    → all_known (map (λ m. m.1) (fields all x)) ≡ o → option_map (typed_struct_of all x) o ≡ Some y
    → StructParts all x y
struct_by all x y None k e = absurd (none_some y e)
struct_by all x y (Some ts) k e = record { types = ts; known = k; is = some_same (typed_struct_of all x ts) y e }

pub struct_parts : (all : List Declared) (x : Struct) (y : TypedStruct) → typed_struct all x ≡ Some y
    → StructParts all x y
struct_parts all x y e = struct_by all x y (all_known (map (λ m. m.1) (fields all x))) refl e

pub record FunctionMade (all : List Declared) (x : Function) (y : TypedFunction) : Type 0 where
  pub locals : List TypeOf
  pub result : TypeOf
  pub body : PlainStmts
  pub locals_known : all_known (body_done all x).after.types ≡ Some locals
  pub result_known : outcome all x ≡ Some result
  pub body_known : (body_done all x).typed ≡ Some body
  pub is : typed_function_of all x locals result body ≡ y

function_by : (all : List Declared) (x : Function) (y : TypedFunction) (a : Option (List TypeOf)) (b : Option TypeOf)
    (c : Option PlainStmts) → all_known (body_done all x).after.types ≡ a → outcome all x ≡ b
    → (body_done all x).typed ≡ c
    → function_if all x a b c ≡ Some y → FunctionMade all x y
function_by all x y None b c f g h e = absurd (none_some y e)
function_by all x y (Some ts) None c f g h e = absurd (none_some y e)
function_by all x y (Some ts) (Some t) None f g h e = absurd (none_some y e)
function_by all x y (Some ts) (Some t) (Some u) f g h e =
    record {
      locals = ts;
      result = t;
      body = u;
      locals_known = f;
      result_known = g;
      body_known = h;
      is =
          some_same (typed_function_of all x ts t u) y e;
    }

pub function_made : (all : List Declared) (x : Function) (y : TypedFunction) → typed_function all x ≡ Some y
    → FunctionMade all x y
function_made all x y e =
    function_by all x y (all_known (body_done all x).after.types) (outcome all x) (body_done all x).typed refl refl refl
    e
