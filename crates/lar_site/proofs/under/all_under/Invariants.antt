use Rattle.std.proofs.Common.{◌≡◌, take}
use Rattle.type_table.specs.Rows.{Keeps}
use Rattle.lar_judge.specs.Known.{type_if}
use Rattle.lar_judge.specs.Wanted.{types_if, AllIfWithin}
use Rattle.lar_site.specs.Under.{members_under}
use Rattle.lar_site.proofs.under.all_under.Given as goal

abbrev pub invariant-loop-member : goal.invariant-loop-member
invariant-loop-member l = record {
  kept : Keeps l.fn.types l.types;
  inside : AllIfWithin l.types l.out.items;
  are : types_if l.types l.out.items ≡ members_under l.fn.types (type_if l.fn.types l.generics) (take l.member-index l.members);
}
