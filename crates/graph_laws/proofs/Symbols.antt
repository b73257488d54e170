-- Different instances have different symbols.
use Rattle.std.proofs.Common.{◌≡◌, ℕ, ◌<◌, List, [], ◌++◌, length, refl, sym, ap, ◌∙◌, inl}
use Rattle.type_table.specs.TypeOf.{TypeOf, int, bool, param, number, end, more, tuple, struct}
use Rattle.type_table.specs.Rows.{type_at}
use Rattle.type_sizes.specs.Spelling.{angled, text_of}
use Rattle.lar_typed.specs.Paths.{item_path}
use Rattle.lar_typed.specs.TreeView.{Contents, IsTypedTree}
use Rattle.mono_items.specs.declared.items.Instance.{Instance}
use Rattle.mono_items.specs.Symbols.{path_or_none, symbol_of}
use Rattle.graph_laws.proofs.Texts.{AreItems, Stops, names, angles}
use Rattle.graph_laws.proofs.TreeParts.{paths_are, FunctionAt, function_at, path_is, function_parts, functions_differ}

module _ (c : Contents) (typed : IsTypedTree c) where
  symbol_is : (x : Instance) (f : FunctionAt c typed x.function) → symbol_of c x ≡ item_path f.f.module f.f.name ++ angled (type_at c.rows x.arguments) (text_of c.structs [] (type_at c.rows x.arguments))
  unfolding symbol_of
  symbol_is x f = ap (λ (p : List ℕ). p ++ angled (type_at c.rows x.arguments) (text_of c.structs [] (type_at c.rows x.arguments))) (ap path_or_none f.there ∙ path_is c typed f.f)

  angle_stops : (t : TypeOf) → AreItems c.structs (paths_are c typed) t → Stops (angled t (text_of c.structs [] t))
  angle_stops end g = tt
  angle_stops (more t ts) g = inl refl
  angle_stops int g = absurd g
  angle_stops bool g = absurd g
  angle_stops (param k) g = absurd g
  angle_stops (number v) g = absurd g
  angle_stops (tuple ts) g = absurd g
  angle_stops (struct n ts) g = absurd g

  -- instances of one symbol are of one function and have the same arguments
  pub symbols_tell : (x y : Instance) → x.function < length c.functions → y.function < length c.functions → AreItems c.structs (paths_are c typed) (type_at c.rows x.arguments) → AreItems c.structs (paths_are c typed) (type_at c.rows y.arguments) → symbol_of c x ≡ symbol_of c y → (x.function ≡ y.function) × (type_at c.rows x.arguments ≡ type_at c.rows y.arguments)
  symbols_tell x y l k g h e =
      let f = function_at c typed x.function l in
      let d = function_at c typed y.function k in
      let s = names (item_path f.f.module f.f.name) (item_path d.f.module d.f.name) (angled (type_at c.rows x.arguments) (text_of c.structs [] (type_at c.rows x.arguments))) (angled (type_at c.rows y.arguments) (text_of c.structs [] (type_at c.rows y.arguments))) (function_parts c typed x.function f) (function_parts c typed y.function d) (angle_stops (type_at c.rows x.arguments) g) (angle_stops (type_at c.rows y.arguments) h) (sym (symbol_is x f) ∙ e ∙ symbol_is y d) in
      (functions_differ c typed x.function y.function f d l k s.0, angles c.structs (paths_are c typed) (type_at c.rows x.arguments) (type_at c.rows y.arguments) g h s.1)
