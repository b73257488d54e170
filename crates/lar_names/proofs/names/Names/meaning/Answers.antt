use Rattle.std.proofs.Common.{◌-◌, length, take, ap, sym, ◌∙◌}
use Rattle.std.specs.Prelude.{option_map}
use Rattle.lar_names.specs.Meanings.{meaning_of}
use Rattle.lar_names.specs.NamesView.{names_view, scope_view}
use Rattle.lar_names.proofs.MeantFacts.{long_path, front_and_last}
use Rattle.lar_names.proofs.names.Names.meaning.Goals as goal

pub returns-in-len1-up : goal.returns-in-len1-up
returns-in-len1-up c =
    let xs = c.as_slice.result.now in
    let between = take (length xs - 1) xs in
    let split = sym c.as_slice.ensures ∙ front_and_last xs c.last-item.result c.in-len1-up.len_at_least c.last-item.is in
    c.known_below.ensures ∙ sym (ap (option_map meaning_of) (long_path (names_view c.args.self.now) (scope_view c.args.self.now c.args.here) c.args.path.now between c.last-item.result split))
