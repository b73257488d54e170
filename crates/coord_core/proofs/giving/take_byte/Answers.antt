use Rattle.std.proofs.Common.{◌==◌, ℕ, List, remove, position, sym, ap, ◌∙◌}
use Rattle.coord_core.proofs.Places.{place_some, place_none, bytes_without-remove, bytes_without-none}
use Rattle.coord_core.proofs.giving.take_byte.Goals as goal

pub returns-in-Some-clause-bytes : goal.returns-in-Some-clause-bytes
returns-in-Some-clause-bytes c =
    let items = c.args.giving.now.items in
    let found = c.place_of.ensures ∙ ap (λ (l : List ℕ). position (λ x. x == c.args.byte) l) c.deref.ensures.value in
    let at = place_some (λ (x : ℕ). x == c.args.byte) items c.in-Some.at (sym found ∙ c.in-Some.is) in
    c.remove.ensures.items ∙ ap (λ (n : ℕ). remove items n) (sym at.0) ∙ sym (bytes_without-remove c.args.byte items at.1)

pub returns-in_default-clause-bytes : goal.returns-in_default-clause-bytes
returns-in_default-clause-bytes c =
    let items = c.args.giving.now.items in
    let found = c.place_of.ensures ∙ ap (λ (l : List ℕ). position (λ x. x == c.args.byte) l) c.deref.ensures.value in
    sym (bytes_without-none c.args.byte items (place_none (λ (x : ℕ). x == c.args.byte) items (sym found ∙ c.in_default.is)))
