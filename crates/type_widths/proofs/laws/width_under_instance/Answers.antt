use Rattle.std.proofs.Common.{sym, ◌∙◌, ap, min, ℕ, []}
use Rattle.type_widths.specs.Width.{widths_by, struct_width}
use Rattle.type_widths.proofs.Forming.{form_is_width}
use Rattle.type_widths.proofs.Widths.{width_replaced}
use Rattle.type_widths.proofs.laws.width_under_instance.Goals as goal

pub returns : goal.returns
returns c = λ fields depth d arguments t form structs generics w h b u f g.
    form_is_width fields depth d t form (widths_by (struct_width fields d) [] arguments) h b u
    ∙ ap (λ (x : ℕ). min x 256) (sym (width_replaced fields d [] structs generics [] arguments t w f g))
