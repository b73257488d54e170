use Rattle.std.proofs.Common.{◌≡◌, ◌^◌, ◌∙◌, ◌++◌, List, subst, ap, arith}
use Rattle.std.specs.Prelude.{OnOk}
use Rattle.object_format.specs.Image.{LinkedFn}
use Rattle.symbol_link.specs.Found.{found}
use Rattle.symbol_link.specs.Linked.{places_of}
use Rattle.symbol_link.proofs.Joined.{slice_index-places_of, placed_by, calls_by}
use Rattle.symbol_link.proofs.placing.place_object.Goals as goal

pub invariant_of-callees-clause-externals_fit : goal.invariant_of-callees-clause-externals_fit
invariant_of-callees-clause-externals_fit c = λ k.
    rw (c.deref.ensures.value, c.in_ok-externals.ensures) (slice_index-places_of (found c.args.definitions.now) (2 ^ 32) (omega arith) c.requires.places c.externals.result.now k)

pub place_functions-requires : goal.place_functions-requires
place_functions-requires c =
    let definitions = found c.args.definitions.now in
    let places : c.deref.result.now ≡ places_of definitions c.args.object.now.externals = c.deref.ensures.value ∙ c.in_ok-externals.ensures ∙ ap (places_of definitions) c.externals.ensures.list in
    calls_by definitions c.args.object.now c.functions-functions.result.now c.deref.result.now c.functions-functions.ensures.list places c.functions-functions.ensures.unlinked

pub returns : goal.returns
returns c =
    let definitions = found c.args.definitions.now in
    let places : c.deref.result.now ≡ places_of definitions c.args.object.now.externals = c.deref.ensures.value ∙ c.in_ok-externals.ensures ∙ ap (places_of definitions) c.externals.ensures.list in
    let are = placed_by definitions c.args.start c.args.object.now c.functions-functions.result.now c.deref.result.now c.functions-functions.ensures.list places in
    subst (λ (fs : List LinkedFn). OnOk c.place_functions.result (c.place_functions.new.image ≡ c.args.image.now ++ fs)) are c.place_functions.ensures
