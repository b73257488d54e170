use Rattle.std.proofs.Common.{◌≡◌, ◌∙◌, ap, refl, rules}
use Rattle.source_gen.specs.Sources.{before, module_name, module_text, numbers_from}
use Rattle.source_gen.proofs.Names.{IsAscii-module_name}
use Rattle.source_gen.proofs.files.module_file.Goals as goal

pub from_string-requires : goal.from_string-requires
from_string-requires c = rw c.in_ok-module_name.ensures (IsAscii-module_name c.args.k (search rules))

pub returns-clause-file : goal.returns-clause-file
returns-clause-file c =
    let name : c.in_ok-from_string.field-0 ≡ module_name c.args.k = c.in_ok-from_string.ensures ∙ c.in_ok-module_name.ensures in
    let text : c.bytes_of.result ≡ module_text (before c.args.modules c.args.k) (numbers_from c.args.draws.now.state) =
    c.bytes_of.ensures ∙ c.in_ok-module_text.ensures ∙ ap (λ p. module_text p c.draw-numbers.result) c.before-2.ensures
    ∙ ap (module_text (before c.args.modules c.args.k)) c.draw-numbers.ensures.numbers in
    rw (name, text) refl
