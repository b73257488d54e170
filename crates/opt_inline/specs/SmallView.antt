-- What a small function of the code stands for.
use Rattle.std.specs.Prelude.{List, Option, map}
use Rattle.std.specs.Option.{option_map}
use Rattle.unit_ir.specs.ExprView.{expr_view}
use Rattle.opt_inline.specs.declared.small.Small.{Small}
use Rattle.opt_inline.specs.Inline.{PlainSmall}

abbrev pub small_view : Small → PlainSmall
small_view s = record { params = s.params; slots = s.slots; gives = expr_view s.gives }

abbrev pub smalls_view : List (Option Small) → List (Option PlainSmall)
smalls_view ss = map (option_map small_view) ss
