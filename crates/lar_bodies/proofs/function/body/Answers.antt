use Rattle.std.proofs.Common.{refl}
use Rattle.lar_tree.specs.StmtView.{block_view}
use Rattle.lar_rules.specs.Bodies.{block_done}
use Rattle.lar_judge.proofs.Kept.{type_within_kept}
use Rattle.lar_stmts.specs.States.{body_in, state_in}
use Rattle.lar_bodies.proofs.Entries.{inside_within}
use Rattle.lar_bodies.proofs.Whole.{body_is, body_known, body_told}
use Rattle.lar_bodies.proofs.function.body.Goals as goal

pub block_walked-requires : goal.block_walked-requires
block_walked-requires g c = record { here = c.requires.here; stands = c.requires.stands; state = c.in_ok-state.ensures.within c.args.types.now c.requires.params; outcome = inside_within c.args.types.now c.args.outcome c.requires.outcome }

pub note_ending-requires : goal.note_ending-requires
note_ending-requires g c = type_within_kept c.args.types.now c.block_walked.new.types c.args.outcome c.block_walked.ensures.kept (inside_within c.args.types.now c.args.outcome c.requires.outcome)

pub returns-clause-known : goal.returns-clause-known
returns-clause-known g c all x f =
    let old = c.args.types.now in
    let mid = c.block_walked.new.types in
    let body = body_in old (g.S.Site.site c.args.site.now) c.args.outcome in
    let state = state_in old c.in_ok-state.state in
    let whole = body_is old (g.S.Site.site c.args.site.now) c.args.params.now c.args.outcome c.args.it.now all x state f (c.in_ok-state.ensures.is old) in
    body_known mid c.note_ending.new.types c.in_ok-stmts.stmts c.block_walked.new.state (record { stmts = c.in_ok-stmts.stmts; locals = c.block_walked.new.state.types }) (block_done body state (block_view c.args.it.now.body)) _ c.note_ending.ensures.kept whole c.in_ok-stmts.ensures.typed c.in_ok-stmts.ensures.after refl refl

pub returns-clause-told : goal.returns-clause-told
returns-clause-told g c all x f =
    let old = c.args.types.now in
    let mid = c.block_walked.new.types in
    let body = body_in old (g.S.Site.site c.args.site.now) c.args.outcome in
    let state = state_in old c.in_ok-state.state in
    let whole = body_is old (g.S.Site.site c.args.site.now) c.args.params.now c.args.outcome c.args.it.now all x state f (c.in_ok-state.ensures.is old) in
    body_told old mid (g.S.Site.site c.args.site.now) c.args.params.now c.args.outcome c.args.it.now all x c.args.here.now.file (block_done body state (block_view c.args.it.now.body)) c.args.first.now c.block_walked.new.first _ c.block_walked.ensures.kept (inside_within old c.args.outcome c.requires.outcome) f c.requires.here.file whole c.in_ok-stmts.ensures.told c.in_ok-note_ending.ensures.told
