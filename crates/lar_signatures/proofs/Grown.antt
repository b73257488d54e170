-- What stands in a table stands in a larger one.
use Rattle.std.proofs.Common.{◌≡◌, ◌<◌, List, [], ◌∷◌, length, map, refl, ap, ◌∙◌, arith}
use Rattle.type_table.specs.declared.row.Row.{Row}
use Rattle.type_table.specs.declared.decl.StructDecl.{StructDecl}
use Rattle.type_table.specs.TypeOf.{TypeOf}
use Rattle.type_table.specs.Rows.{Keeps}
use Rattle.lar_typed.specs.Trees.{PlainStruct}
use Rattle.lar_rules.specs.Declared.{Declared, Struct, Function}
use Rattle.lar_rules.specs.Signatures as rules
use Rattle.lar_names.specs.Numbered.{structs, functions, struct_at, function_at}
use Rattle.lar_written.specs.declared.members.Member.{Member}
use Rattle.lar_written.specs.Members.{MembersStand, member_view}
use Rattle.lar_written.proofs.Standings.{stands_kept, type_kept, all_inside_kept}
use Rattle.lar_written.specs.Standing.{AllInside}
use Rattle.lar_signatures.specs.declared.structure.StructSignature.{StructSignature}
use Rattle.lar_signatures.specs.declared.function.FunctionSignature.{FunctionSignature}
use Rattle.lar_signatures.specs.declared.signatures.Signatures.{Signatures}
use Rattle.lar_signatures.specs.EachStands.{EachStands}
use Rattle.lar_signatures.specs.Signatures.{StructStands, FunctionStands, DeclStands, SignaturesStand}
use Rattle.lar_signatures.proofs.Each.{each_weaker}

members_kept : (old new : List Row) (ms : List Member) → Keeps old new → AllInside old (map (λ m. m.of) ms) → map (member_view new) ms ≡ map (member_view old) ms
members_kept old new [] k h = refl
members_kept old new (m ∷ ms) k h =
    ap (λ t. (m.name.now, t) ∷ map (member_view new) ms) (type_kept old new m.of k h.0)
    ∙ ap (λ (ds : List rules.Member). member_view old m ∷ ds) (members_kept old new ms k h.1)

pub members_grown : (old new : List Row) (ms : List Member) (ds : List rules.Member) → Keeps old new → MembersStand old ms ds → MembersStand new ms ds
members_grown old new ms ds k st = record { within = all_inside_kept old new (map (λ m. m.of) ms) k st.within; are = members_kept old new ms k st.within ∙ st.are }

pub struct_grown : (old new : List Row) (all : List Declared) (s : StructSignature) (x : Struct) → Keeps old new → StructStands old all s x → StructStands new all s x
struct_grown old new all s x k st = record { fields_stand = members_grown old new s.fields.items (rules.fields all x) k st.fields_stand }

pub function_grown : (old new : List Row) (all : List Declared) (f : FunctionSignature) (x : Function) → Keeps old new → FunctionStands old all f x → FunctionStands new all f x
function_grown old new all f x k st = record {
  generics_are = st.generics_are;
  sorts_are = st.sorts_are;
  params_stand = members_grown old new f.params.items (rules.params all x) k st.params_stand;
  outcome_stands = stands_kept old new f.outcome (rules.outcome all x) k st.outcome_stands;
}

abbrev with_fields : StructDecl → TypeOf → PlainStruct
with_fields d t = record { module_path = d.module; name = d.name; generics = d.generics; fields = t; depth = d.depth }

pub decl_grown : (old new : List Row) (all : List Declared) (d : StructDecl) (x : Struct) → Keeps old new → DeclStands old all d x → DeclStands new all d x
decl_grown old new all d x k st = record {
  within = (let a = k.longer in let b : d.fields < length old = st.within in omega (arith, a, b));
  is = ap (with_fields d) (k.same d.fields st.within) ∙ st.is;
}

pub structs_grown : (old new : List Row) (all : List Declared) (ss : List StructSignature) → Keeps old new → EachStands (λ n y p. StructStands old all y (struct_at n p)) 0 ss (structs all) → EachStands (λ n y p. StructStands new all y (struct_at n p)) 0 ss (structs all)
structs_grown old new all ss k h = each_weaker (λ n y p. StructStands old all y (struct_at n p)) (λ n y p. StructStands new all y (struct_at n p)) (λ n y p st. struct_grown old new all y (struct_at n p) k st) 0 ss (structs all) h

pub functions_grown : (old new : List Row) (all : List Declared) (fs : List FunctionSignature) → Keeps old new → EachStands (λ n y p. FunctionStands old all y (function_at n p)) 0 fs (functions all) → EachStands (λ n y p. FunctionStands new all y (function_at n p)) 0 fs (functions all)
functions_grown old new all fs k h = each_weaker (λ n y p. FunctionStands old all y (function_at n p)) (λ n y p. FunctionStands new all y (function_at n p)) (λ n y p st. function_grown old new all y (function_at n p) k st) 0 fs (functions all) h

pub decls_grown : (old new : List Row) (all : List Declared) (ds : List StructDecl) → Keeps old new → EachStands (λ n y p. DeclStands old all y (struct_at n p)) 0 ds (structs all) → EachStands (λ n y p. DeclStands new all y (struct_at n p)) 0 ds (structs all)
decls_grown old new all ds k h = each_weaker (λ n y p. DeclStands old all y (struct_at n p)) (λ n y p. DeclStands new all y (struct_at n p)) (λ n y p st. decl_grown old new all y (struct_at n p) k st) 0 ds (structs all) h

pub signatures_grown : (old new : List Row) (all : List Declared) (s : Signatures) → Keeps old new → SignaturesStand old all s → SignaturesStand new all s
signatures_grown old new all s k st = record {
  structs_stand = structs_grown old new all s.structs.items k st.structs_stand;
  functions_stand = functions_grown old new all s.functions.items k st.functions_stand;
  decls_stand = decls_grown old new all s.decls k st.decls_stand;
}
