use Rattle.std.proofs.Common.{subst}
use Rattle.std.specs.Prelude.{Some}
use Rattle.std.specs.String.{string_cmp, string_bytes}
use Rattle.std.specs.Ordering.{nat_cmp}
use Rattle.std.specs.Cmp.Lexicographic.{slice_cmp}
use Rattle.std.specs.BTreeMap.{UpdatesBy}
use Rattle.lar_names.proofs.Looks.{put, kept, on_err}
use Rattle.lar_names.proofs.tables.Tables.put.Goals as goal

pub returns-clause-ok : goal.returns-clause-ok
returns-clause-ok g c =
    put c.args.self.now.maps.items c.args.scope c.args.name.now c.args.value c.index_mut-map.result.now c.insert.new.self c.requires c.index_mut-map.ensures.value
    (subst (λ name. UpdatesBy string_cmp (λ k. slice_cmp nat_cmp name (string_bytes k)) c.index_mut-map.result.now c.insert.new.self (Some c.args.value)) c.in_ok-key.ensures.ok c.in_ok-insert.ensures.updates)

pub returns-in_err-insert-clause-err : goal.returns-in_err-insert-clause-err
returns-in_err-insert-clause-err g c =
    on_err c.from_residual-in_err-insert.result (kept c.args.self.now.maps.items c.args.scope c.index_mut-map.result.now c.insert.new.self c.requires c.index_mut-map.ensures.value c.in_err-insert.ensures.err)
