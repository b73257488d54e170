-- An input that was spelled by hand, computed from the definitions.
use Rattle.std.proofs.Common.{◌≡◌, ℕ, true, List, [], ◌∷◌, ◌++◌, refl, sym, ap, ◌∙◌, subst, arith}
use Rattle.std.specs.Prelude.{codes, pos}
use Rattle.std.specs.Char.{is_ascii_graphic}
use Rattle.std.specs.List.{list_all, AllByRecursion, IsDistinct}
use Rattle.std.specs.Str.{bytes_eq}
use Rattle.std.proofs.lemmas.Bool.{leb-true, and_parts}
use Rattle.unit_input.specs.Exprs.{int}
use Rattle.unit_input.specs.Stmts.{print, no_stmts, stmts}
use Rattle.unit_input.specs.declared.function.UnitFn.{UnitFn}
use Rattle.unit_input.specs.declared.function.ExternalFn.{ExternalFn}
use Rattle.unit_input.specs.Inputs.{PlainFn, PlainInput}
use Rattle.unit_input.specs.InputView.{stmts_view, fn_view, input_view}
use Rattle.unit_input.specs.Rules.{IsSymbolByte, IsInput}
use Rattle.unit_input.specs.Spelling.{spell}

-- `fn main() { print(7); }` as a unit of its own, at level 1
abbrev pub prints_7 : PlainInput
prints_7 = record {
  level = 1;
  functions = record { symbol = codes "main::main"; external = true; «result» = 0; params = 0; locals = []; body = stmts (print (int (pos 7))) no_stmts } ∷ [];
  externals = [];
}

abbrev prints_7-bytes : List ℕ
prints_7-bytes =
    0x4c ∷ 0x52 ∷ 0x55 ∷ 0x49 ∷ 0x00 ∷ 0x01 ∷ 0x01 ∷ 0x00 ∷ 0x00 ∷ 0x00 ∷ 0x01 ∷ 0x00 ∷ 0x00 ∷ 0x00 ∷ 0x0a ∷ 0x6d ∷ 0x61 ∷ 0x69 ∷ 0x6e ∷ 0x3a ∷ 0x3a ∷ 0x6d ∷ 0x61 ∷ 0x69 ∷ 0x6e
    ∷ 0x01 ∷ 0x00 ∷ 0x00 ∷ 0x00 ∷ 0x00 ∷ 0x00 ∷ 0x00 ∷ 0x00 ∷ 0x00 ∷ 0x00 ∷ 0x00 ∷ 0x01 ∷ 0x06 ∷ 0x01 ∷ 0x00 ∷ 0x00 ∷ 0x00 ∷ 0x00 ∷ 0x00 ∷ 0x00 ∷ 0x00 ∷ 0x07 ∷ 0x00 ∷ 0x00 ∷ 0x00 ∷ 0x00 ∷ []

prints_7-spelled : spell prints_7 ≡ prints_7-bytes
prints_7-spelled = refl

signs : (s : List ℕ) → list_all is_ascii_graphic s ≡ true → AllByRecursion IsSymbolByte s
signs [] h = tt
signs (b ∷ bs) h =
    let parts = and_parts (is_ascii_graphic b) (list_all is_ascii_graphic bs) h in
    let sign = and_parts _ _ parts.0 in
    ((leb-true 33 b sign.0, leb-true b 126 sign.1), signs bs parts.1)

pub prints_7-keeps : IsInput prints_7
unfolding IsDistinct
prints_7-keeps = record {
  level = omega arith;
  function_count = omega arith;
  external_count = omega arith;
  distinct = (tt, tt);
  functions = (
    record {
      symbol = record { some = omega arith; short = omega arith; signs = signs (codes "main::main") refl };
      «result» = omega arith;
      params = omega arith;
      params_are_locals = omega arith;
      local_count = omega arith;
      locals = refl;
      statements = omega arith;
      body = refl;
    },
    tt,
  );
  externals = tt;
}

-- the same as the code has it
pub prints_7-made : (functions before : List UnitFn) (f : UnitFn) (externals : List ExternalFn) → functions ≡ before ++ f ∷ [] → before ≡ [] → externals ≡ []
    → f.symbol ≡ codes "main::main" → f.external ≡ true → f.«result» ≡ 0 → f.params ≡ 0 → f.locals ≡ [] → stmts_view f.body ≡ stmts (print (int (pos 7))) no_stmts
    → IsInput (input_view (record { level = 1; functions = functions; externals = externals }))
prints_7-made functions before f externals list none no_externals symbol external gives params locals body =
    let function : fn_view f ≡ record { symbol = codes "main::main"; external = true; «result» = 0; params = 0; locals = []; body = stmts (print (int (pos 7))) no_stmts } = rw (symbol, external, gives, params, locals, body) refl in
    let one : functions ≡ f ∷ [] = list ∙ ap (λ fs. fs ++ f ∷ []) none in
    let same : prints_7 ≡ input_view (record { level = 1; functions = functions; externals = externals }) =
    ap (λ (g : PlainFn). record prints_7 { functions = g ∷ [] }) (sym function)
    ∙ ap (λ (fs : List UnitFn). input_view (record { level = 1; functions = fs; externals = [] })) (sym one)
    ∙ ap (λ (es : List ExternalFn). input_view (record { level = 1; functions = functions; externals = es })) (sym no_externals) in
    subst IsInput same prints_7-keeps
