use Rattle.std.proofs.Common.{◌≡◌, ◌∷◌, take, drop}
use Rattle.lar_tree.specs.TypeView.{args_view, arg_view, more_types_view, more_args_view}
use Rattle.type_table.specs.Rows.{Keeps}
use Rattle.lar_rules.specs.Fault.{least}
use Rattle.lar_rules.specs.Written.{written_others, one_given, given, given_others, all_given}
use Rattle.lar_written.specs.Given.{GivenStand}
use Rattle.lar_written.specs.Sites.{site_view}
use Rattle.lar_written.specs.Standing.{AllStand, others_of}
use Rattle.lar_written.proofs.ty.+writing.Given as goal

abbrev pub invariant-others_written-loop-member : goal.invariant-others_written-loop-member
invariant-others_written-loop-member l = record {
  kept : Keeps l.fn.types l.types;
  of : AllStand l.types l.out.items (others_of (site_view l.site) (more_types_view (take l.member-index l.members)));
  told : least l.first (written_others (site_view l.site) (more_types_view (drop l.member-index l.members))).faults ≡ least l.fn.first (written_others (site_view l.site) (more_types_view l.members)).faults;
}

abbrev pub invariant-args_given-loop-member : goal.invariant-args_given-loop-member
invariant-args_given-loop-member l = record {
  kept : Keeps l.fn.types l.types;
  of : GivenStand l.types l.out.items (one_given (site_view l.site) (arg_view l.args.list.first) ∷ given_others (site_view l.site) (more_args_view (take l.member-index l.member-items)));
  told : least l.first (all_given (given_others (site_view l.site) (more_args_view (drop l.member-index l.member-items)))) ≡ least l.fn.first (all_given (one_given (site_view l.site) (arg_view l.args.list.first) ∷ given_others (site_view l.site) (more_args_view l.member-items)));
}
