use Rattle.std.proofs.Common.{rules, ◌≡◌, ◌∙◌}
use Rattle.std.specs.Prelude.{string_bytes}
use Rattle.std.proofs.lemmas.Result.{IfOk-weaker}
use Rattle.mono_items.specs.Symbols.{symbol_of}
use Rattle.mono_items.proofs.Spelled.{symbol_is}
use Rattle.mono_items.proofs.symbols.symbol.Goals as goal

pub returns : goal.returns
returns c =
    let is : string_bytes c.put_arguments.new.text ≡ symbol_of c.args.typed.now c.args.instance = symbol_is c.args.typed.now c.args.instance c.functions.result.now c.types.result.now c.structs.result.now c.index-functions-instance.result (string_bytes c.new-text.result) (string_bytes c.put_path.new.text) (string_bytes c.put_arguments.new.text) c.functions.ensures.functions c.types.ensures.rows c.structs.ensures.structs (search rules) c.index-functions-instance.is (search rules) c.in_ok-put_path.ensures.put c.in_ok-put_arguments.ensures.put in
    IfOk-weaker c.from_string.result _ _ (λ text h. h ∙ is) c.from_string.ensures
