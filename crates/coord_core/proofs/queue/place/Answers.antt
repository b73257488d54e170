use Rattle.std.proofs.Common.{◌≡◌, ℕ, Bool, cond, List, length, position, insert, unwrap_or, Option, sym, ap, ◌∙◌}
use Rattle.coord_core.specs.declared.queue.Queued.{Queued}
use Rattle.coord_core.specs.State.{precedes}
use Rattle.coord_core.proofs.Places.{place_or_end, placed-insert}
use Rattle.coord_core.proofs.queue.place.Goals as goal

pub returns-clause-order : goal.returns-clause-order
returns-clause-order c =
    let e = c.args.entry in
    let items = c.args.queue.now.items in
    let found : c.place_behind.result ≡ position (precedes e) items = c.place_behind.ensures ∙ ap (λ (l : List Queued). position (precedes e) l) c.deref.ensures.value in
    let end : c.len.result ≡ length items = c.len.ensures ∙ c.args.queue.now.ok.0 in
    let at = c.unwrap_or-at.ensures ∙ ap (λ (o : Option ℕ). unwrap_or o c.len.result) found ∙ ap (λ (n : ℕ). unwrap_or (position (precedes e) items) n) end ∙ place_or_end (precedes e) items in
    c.insert.ensures.items ∙ ap (λ (b : Bool). cond b (insert items c.unwrap_or-at.result e) items) (c.insert.ensures.succeeds c.requires) ∙ ap (λ (n : ℕ). insert items n e) at ∙ sym (placed-insert e items)
