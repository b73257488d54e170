use Rattle.std.proofs.Common.{List, ◌∙◌, map, subst}
use Rattle.type_table.specs.Rows.{Stands}
use Rattle.lar_typed.specs.SameType.{list_of}
use Rattle.lar_rules.specs.Checked.{all_known}
use Rattle.lar_written.specs.declared.members.Member.{Member}
use Rattle.lar_written.specs.Standing.{number_type}
use Rattle.lar_signatures.specs.Signatures.{or_no_types}
use Rattle.lar_signatures.proofs.Declaring.{decl_stands}
use Rattle.lar_signatures.proofs.declared.declared_struct.Goals as goal

pub returns-clause-of : goal.returns-clause-of
returns-clause-of c = λ n depth st.
    decl_stands c.args.names.now c.args.item.now n c.args.types.now c.field_types.new.types _ c.args.signature.now c.in_ok-module.ensures (c.in_ok-name.ensures ∙ c.as_str.ensures.text) c.generic_count.ensures
    (subst (λ (ms : List Member). Stands c.field_types.new.types c.in_ok-fields.fields (list_of (or_no_types (all_known (map (λ m. number_type c.args.types.now m.of) ms))))) c.deref.ensures.value c.in_ok-fields.ensures.of) depth st
