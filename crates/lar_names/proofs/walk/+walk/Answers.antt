use Rattle.std.proofs.Common.{◌≡◌, ◌+◌, ◌∷◌, ◌||◌, drop, sym, ap, ◌∙◌, subst}
use Rattle.std.specs.Str.{bytes_eq}
use Rattle.std.proofs.lemmas.List.{drop_more}
use Rattle.lar_tree.specs.Items.{items}
use Rattle.lar_tree.specs.ItemView.{item_view, items_view}
use Rattle.lar_rules.specs.Declared.{has_name, item_name, item_declared}
use Rattle.lar_names.specs.Declarations.{Reads}
use Rattle.lar_names.specs.EarlierNames.{is_earlier}
use Rattle.lar_names.specs.Scopes.{list_at}
use Rattle.lar_names.proofs.WalkFacts.{SoFar, list_kept, grows_self, grows_more, so_far_none, so_far_more}
use Rattle.lar_names.proofs.walk.+walk.Goals as goal

pub items-loop-one-init : goal.items-loop-one-init
items-loop-one-init t c = record {
  grown = grows_self c.args.found.now.scopes;
  so_far = so_far_none c.args.spot.file (list_at c.args.found.now.scopes c.args.spot.scope) c.args.spot.hidden (items_view c.args.items.now) c.new-earlier.result c.args.found.now.declared.items c.args.found.now.scopes c.new-earlier.ensures;
}

pub items-loop-one-preserved : goal.items-loop-one-preserved
items-loop-one-preserved t c =
    let x = c.one-item.result in
    let i = c.loop-one.one-index in
    let ls = c.args.found.now.scopes in
    let now = c.loop-one.found.scopes in
    let m = list_at ls c.args.spot.scope in
    let rest = items_view (drop (i + 1) c.args.items.now) in
    let e = drop_more c.args.items.now i x c.loop-one-test.true ∙ ap (λ y. y ∷ drop (i + 1) c.args.items.now) (sym c.one-item.is) in
    let so : SoFar c.args.spot.file m c.args.spot.hidden (items_view c.args.items.now) (items (item_view x) rest) c.loop-one.earlier c.args.found.now.declared.items c.loop-one.found.declared.items now =
    subst (λ zs. SoFar c.args.spot.file m c.args.spot.hidden (items_view c.args.items.now) (items_view zs) c.loop-one.earlier c.args.found.now.declared.items c.loop-one.found.declared.items now) e c.loop-one.invariant.so_far in
    let name : c.as_str-name.result.now ≡ (item_name (item_view x)).text = c.as_str-name.ensures.text ∙ ap (λ n. n.text) c.name_of.ensures in
    let known : has_name (item_name (item_view x)).text so.names ≡ c.has-repeated.result = so.known (item_name (item_view x)).text ∙ (ap (is_earlier c.loop-one.earlier) (sym name) ∙ sym c.has-repeated.ensures) in
    let same : list_at now c.args.spot.scope ≡ m = list_kept ls now c.args.spot.scope c.loop-one.invariant.grown c.requires in
    let read = subst (λ l. Reads c.loop-one.found.declared.items c.item.new.found.declared.items c.item.new.found.scopes (item_declared c.args.spot.file l c.args.spot.hidden so.names (item_view x))) same (c.in_ok-item.ensures.ok so.names known) in
    record {
      grown = grows_more ls now c.item.new.found.scopes c.loop-one.invariant.grown c.item.ensures.grown;
      so_far = so_far_more c.args.spot.file m c.args.spot.hidden (items_view c.args.items.now) rest (item_view x) c.loop-one.earlier c.add.new.self c.args.found.now.declared.items c.loop-one.found.declared.items c.item.new.found.declared.items now c.item.new.found.scopes so c.item.ensures.grown read
          (λ q. c.in_ok-add.ensures q ∙ ap (λ n. bytes_eq q n || is_earlier c.loop-one.earlier q) name);
    }
