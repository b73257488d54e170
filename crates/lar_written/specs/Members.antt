-- Fields and parameters, with numbers of rows in the place of types.
use Rattle.std.specs.Prelude.{◌≡◌, ℕ, List, [], ◌∷◌, map, Option, option_map}
use Rattle.lar_tree.specs.declared.commas.Commas.{Commas}
use Rattle.lar_tree.specs.declared.item.Field.{Field}
use Rattle.lar_tree.specs.Commas.{commas_map}
use Rattle.lar_tree.specs.Items.{PlainField}
use Rattle.lar_tree.specs.ItemView.{field_view}
use Rattle.type_table.specs.declared.row.Row.{Row}
use Rattle.lar_rules.specs.Signatures as rules
use Rattle.lar_rules.specs.Signatures.{list_in}
use Rattle.lar_written.specs.declared.members.Member.{Member}
use Rattle.lar_written.specs.Standing.{number_type, Inside, AllInside}

abbrev pub member_view : List Row → Member → rules.Member
member_view rows m = (m.name.now, number_type rows m.of)

-- a field or a parameter is what the definition says
pub record MemberStands (rows : List Row) (m : Member) (d : rules.Member) : Type 0 where
  pub within : Inside rows m.of
  pub is : member_view rows m ≡ d

pub record MembersStand (rows : List Row) (ms : List Member) (ds : List rules.Member) : Type 0 where
  pub within : AllInside rows (map (λ m. m.of) ms)
  pub are : map (member_view rows) ms ≡ ds

-- the fields or parameters that are declared
abbrev pub fields_in : Option (Commas Field) → List PlainField
fields_in o = list_in (option_map (commas_map field_view) o)
