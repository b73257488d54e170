use Rattle.std.proofs.Common.{◌≡◌, ◌||◌, Bool, true, false, cond, Option, Some, refl, ap, ◌∙◌}
use Rattle.std.specs.Prelude.{is_some}
use Rattle.std.specs.Str.{bytes_eq}
use Rattle.std.specs.Ordering.{nat_cmp}
use Rattle.std.specs.Cmp.Lexicographic.{slice_cmp}
use Rattle.std.specs.BTreeMap.{get_by}
use Rattle.std.proofs.lemmas.Map.Text.{btree_map_updates_str}
use Rattle.lar_names.proofs.Sameness.{names_turned}
use Rattle.lar_names.proofs.earlier.Earlier.add.Goals as goal

some_or : {A : Type 0} (b : Bool) (x : A) (o : Option A) → is_some (cond b (Some x) o) ≡ (b || is_some o)
some_or true x o = refl
some_or false x o = refl

pub returns : goal.returns
returns c = λ q.
    ap is_some (btree_map_updates_str c.args.name.now c.args.self.now.names c.insert.new.self _ c.in_ok-insert.ensures.updates q)
    ∙ (some_or (bytes_eq c.args.name.now q) _ (get_by (λ k. slice_cmp nat_cmp q k.now) c.args.self.now.names)
    ∙ ap (λ b. b || is_some (get_by (λ k. slice_cmp nat_cmp q k.now) c.args.self.now.names)) (names_turned c.args.name.now q))
