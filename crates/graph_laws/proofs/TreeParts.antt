-- Structs and functions of a typed tree, and of its program.
use Rattle.std.proofs.Common.{◌≡◌, ℕ, zero, suc, ◌<◌, List, [], ◌∷◌, length, map, get_or, refl, sym, ap, ◌∙◌, subst as transport, arith, Option, Some, option_map, append_assoc}
use Rattle.std.specs.Prelude.{slice_get, codes}
use Rattle.std.proofs.lemmas.List.{length-map}
use Rattle.std.proofs.lemmas.Option.{slice_get-map, get_or_from_slice_get}
use Rattle.type_table.specs.declared.decl.StructDecl.{StructDecl}
use Rattle.type_table.specs.Rows.{type_at}
use Rattle.type_sizes.specs.Spelling.{struct_text, decl_text}
use Rattle.lar_typed.specs.declared.tree.TypedFunction.{TypedFunction}
use Rattle.lar_typed.specs.Paths.{item_path}
use Rattle.lar_typed.specs.Trees.{StructOf, FunctionOf, PlainStruct, PlainFunction, struct_map, function_map}
use Rattle.lar_typed.specs.TreeView.{Contents, IsTypedTree, struct_view, function_view, plain}
use Rattle.lar_typed.specs.IsTyped.{IsStruct, IsFunction}
use Rattle.mono_items.specs.Symbols.{path_of}
use Rattle.graph_laws.proofs.Bytes.{AreParts, item_parts, has_colon, colon_behind}
use Rattle.graph_laws.proofs.Texts.{ArePaths}

pub some_at : {A : Type 0} (xs : List A) (n : ℕ) → n < length xs → (x : A) × (slice_get xs n ≡ Some x)
some_at [] n l = absurd (omega arith)
some_at (x ∷ xs) zero l = (x, refl)
some_at (x ∷ xs) (suc n) l = some_at xs n (omega arith)

module _ (c : Contents) (typed : IsTypedTree c) where
  record StructAt (n : ℕ) : Type 0 where
    s : StructDecl
    there : slice_get c.structs n ≡ Some s
    same : (d : PlainStruct) → get_or (plain c).structs n d ≡ struct_map (type_at c.rows) (struct_view s)
    lawful : IsStruct (plain c) (struct_map (type_at c.rows) (struct_view s))

  pub structs_length : length (plain c).structs ≡ length c.structs
  structs_length = length-map (map struct_view c.structs) (struct_map (type_at c.rows)) ∙ length-map c.structs struct_view

  struct_at : (n : ℕ) → n < length c.structs → StructAt n
  struct_at n l =
      let x = some_at c.structs n l in
      let p : PlainStruct = struct_map (type_at c.rows) (struct_view x.0) in
      let at : slice_get (plain c).structs n ≡ Some p = slice_get-map (struct_map (type_at c.rows)) (map struct_view c.structs) n ∙ ap (λ (o : Option (StructOf ℕ)). option_map (struct_map (type_at c.rows)) o) (slice_get-map struct_view c.structs n ∙ ap (λ (o : Option StructDecl). option_map struct_view o) x.1) in
      let same : (d : PlainStruct) → get_or (plain c).structs n d ≡ p = λ d. get_or_from_slice_get (plain c).structs n p d at in
      record {
        s = x.0;
        there = x.1;
        same = same;
        lawful = transport (λ (y : PlainStruct). IsStruct (plain c) y) (same p) ((typed.typed).structs n p (omega (arith, structs_length)));
      }

  text_is : (n : ℕ) (x : StructAt n) → struct_text c.structs n ≡ item_path x.s.module x.s.name
  text_is n x = ap decl_text x.there ∙ append_assoc x.s.module (codes "::") x.s.name

  -- the paths of structs
  pub paths_are : ArePaths c.structs
  paths_are = record {
    parts = λ n l. let x = struct_at n l in transport AreParts (sym (text_is n x)) (item_parts x.s.module x.s.name (x.lawful).path (x.lawful).named);
    colon = λ n l. let x = struct_at n l in ap has_colon (text_is n x) ∙ colon_behind x.s.module (58 ∷ x.s.name);
    apart = λ n m l k e.
        let x = struct_at n l in
        let y = struct_at m k in
        let d : PlainStruct = struct_map (type_at c.rows) (struct_view x.s) in
        let a : item_path (get_or (plain c).structs n d).module_path (get_or (plain c).structs n d).name ≡ item_path x.s.module x.s.name = ap (λ (z : PlainStruct). item_path z.module_path z.name) (x.same d) in
        let b : item_path (get_or (plain c).structs m d).module_path (get_or (plain c).structs m d).name ≡ item_path y.s.module y.s.name = ap (λ (z : PlainStruct). item_path z.module_path z.name) (y.same d) in
        (typed.typed).structs_apart n m d (omega (arith, structs_length)) (omega (arith, structs_length)) (a ∙ sym (text_is n x) ∙ e ∙ text_is m y ∙ sym b);
  }

  pub record FunctionAt (n : ℕ) : Type 0 where
    pub f : TypedFunction
    pub there : slice_get c.functions n ≡ Some f
    pub plain_there : slice_get (plain c).functions n ≡ Some (function_map (type_at c.rows) (function_view f))
    pub same : (d : PlainFunction) → get_or (plain c).functions n d ≡ function_map (type_at c.rows) (function_view f)
    pub lawful : IsFunction (plain c) (function_map (type_at c.rows) (function_view f))

  pub functions_length : length (plain c).functions ≡ length c.functions
  functions_length = length-map (map function_view c.functions) (function_map (type_at c.rows)) ∙ length-map c.functions function_view

  pub function_at : (n : ℕ) → n < length c.functions → FunctionAt n
  function_at n l =
      let x = some_at c.functions n l in
      let p : PlainFunction = function_map (type_at c.rows) (function_view x.0) in
      let at : slice_get (plain c).functions n ≡ Some p = slice_get-map (function_map (type_at c.rows)) (map function_view c.functions) n ∙ ap (λ (o : Option (FunctionOf ℕ)). option_map (function_map (type_at c.rows)) o) (slice_get-map function_view c.functions n ∙ ap (λ (o : Option TypedFunction). option_map function_view o) x.1) in
      let same : (d : PlainFunction) → get_or (plain c).functions n d ≡ p = λ d. get_or_from_slice_get (plain c).functions n p d at in
      record {
        f = x.0;
        there = x.1;
        plain_there = at;
        same = same;
        lawful = transport (λ (y : PlainFunction). IsFunction (plain c) y) (same p) ((typed.typed).functions n p (omega (arith, functions_length)));
      }

  pub path_is : (f : TypedFunction) → path_of f ≡ item_path f.module f.name
  path_is f = append_assoc f.module (codes "::") f.name

  pub function_parts : (n : ℕ) (x : FunctionAt n) → AreParts (item_path x.f.module x.f.name)
  function_parts n x = item_parts x.f.module x.f.name (x.lawful).path (x.lawful).named

  pub functions_differ : (n m : ℕ) (x : FunctionAt n) (y : FunctionAt m) → n < length c.functions → m < length c.functions → item_path x.f.module x.f.name ≡ item_path y.f.module y.f.name → n ≡ m
  functions_differ n m x y l k e =
      let d : PlainFunction = function_map (type_at c.rows) (function_view x.f) in
      let a : item_path (get_or (plain c).functions n d).module_path (get_or (plain c).functions n d).name ≡ item_path x.f.module x.f.name = ap (λ (z : PlainFunction). item_path z.module_path z.name) (x.same d) in
      let b : item_path (get_or (plain c).functions m d).module_path (get_or (plain c).functions m d).name ≡ item_path y.f.module y.f.name = ap (λ (z : PlainFunction). item_path z.module_path z.name) (y.same d) in
      (typed.typed).functions_apart n m d (omega (arith, functions_length)) (omega (arith, functions_length)) (a ∙ e ∙ sym b)
