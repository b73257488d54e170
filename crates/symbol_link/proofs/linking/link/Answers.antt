use Rattle.std.proofs.Common.{◌∙◌, List, length, sym, ap, arith}
use Rattle.std.proofs.lemmas.Result.{err_from_is_err_and}
use Rattle.symbol_link.specs.Found.{found}
use Rattle.object_format.specs.Image.{LinkedFn}
use Rattle.symbol_link.specs.Linked.{entry_symbol}
use Rattle.symbol_link.specs.Symbols.{definition_of}
use Rattle.symbol_link.proofs.Joined.{length-functions_from, functions_from_same}
use Rattle.symbol_link.proofs.Laws.{joined}
use Rattle.symbol_link.proofs.Outcome.{refused_twice, refused_undefined, no_entry, too_large, is_linked, few, entry-below, places-below, calls_linked}
use Rattle.symbol_link.proofs.linking.link.Goals as goal

pub returns-in_err-definitions-clause-exact : goal.returns-in_err-definitions-clause-exact
returns-in_err-definitions-clause-exact c =
    let p = err_from_is_err_and c.from_residual.result c.from_residual.ensures.1 in
    rw (p.1, p.2) (refused_twice c.args.objects.now c.in_err-definitions.field-0.0 c.in_err-definitions.ensures)

pub returns-in_err-check_all-clause-exact : goal.returns-in_err-check_all-clause-exact
returns-in_err-check_all-clause-exact c =
    let p = err_from_is_err_and c.from_residual-in_err-check_all.result c.from_residual-in_err-check_all.ensures.1 in
    let h = c.in_ok-definitions.ensures in
    rw (p.1, p.2) (refused_undefined c.args.objects.now (found c.in_ok-definitions.definitions) c.in_err-check_all.field-0.0 (record { once = h.0; found = h.1; each = h.2 }) c.in_err-check_all.ensures)

pub returns-in_default-clause-exact : goal.returns-in_default-clause-exact
returns-in_default-clause-exact c =
    let h = c.in_ok-definitions.ensures in
    no_entry c.args.objects.now (found c.in_ok-definitions.definitions) (record { once = h.0; found = h.1; each = h.2 }) c.in_ok-check_all.ensures (sym c.get.ensures ∙ c.in_default.is)

pub returns-then-not-fits-clause-exact : goal.returns-then-not-fits-clause-exact
returns-then-not-fits-clause-exact c =
    let h = c.in_ok-definitions.ensures in
    too_large c.args.objects.now (found c.in_ok-definitions.definitions) c.in-Some.entry (record { once = h.0; found = h.1; each = h.2 }) c.in_ok-check_all.ensures (sym c.get.ensures ∙ c.in-Some.is) (λ le. let yes = c.fits.ensures.1 le in let no = c.if-not-fits.true in cc)

pub place_all-requires-clause-places : goal.place_all-requires-clause-places
place_all-requires-clause-places c = λ symbol.
    let h = c.in_ok-definitions.ensures in
    let small = few c.args.objects.now (c.fits.ensures.0 c.if-not-fits.false) in
    let below = places-below c.args.objects.now (found c.in_ok-definitions.definitions) c.in-Some.entry (record { once = h.0; found = h.1; each = h.2 }) (sym c.get.ensures ∙ c.in-Some.is) symbol in
    omega (arith, small, below)

pub place_all-requires-clause-fits : goal.place_all-requires-clause-fits
place_all-requires-clause-fits c = let small = few c.args.objects.now (c.fits.ensures.0 c.if-not-fits.false) in omega (arith, small)

pub overflow_cast-entry : goal.overflow_cast-entry
overflow_cast-entry c =
    let h = c.in_ok-definitions.ensures in
    let small = few c.args.objects.now (c.fits.ensures.0 c.if-not-fits.false) in
    let below = entry-below c.args.objects.now (found c.in_ok-definitions.definitions) c.in-Some.entry (record { once = h.0; found = h.1; each = h.2 }) (sym c.get.ensures ∙ c.in-Some.is) in
    omega (arith, small, below)

pub new-requires-clause-entry : goal.new-requires-clause-entry
new-requires-clause-entry c =
    let h = c.in_ok-definitions.ensures in
    let below = entry-below c.args.objects.now (found c.in_ok-definitions.definitions) c.in-Some.entry (record { once = h.0; found = h.1; each = h.2 }) (sym c.get.ensures ∙ c.in-Some.is) in
    let count = ap length c.in_ok-functions.ensures ∙ length-functions_from (found c.in_ok-definitions.definitions) 0 c.args.objects.now in
    omega (arith, below, count)

pub new-requires-clause-count : goal.new-requires-clause-count
new-requires-clause-count c =
    let small = few c.args.objects.now (c.fits.ensures.0 c.if-not-fits.false) in
    let count = ap length c.in_ok-functions.ensures ∙ length-functions_from (found c.in_ok-definitions.definitions) 0 c.args.objects.now in
    omega (arith, small, count)

pub new-requires-clause-calls : goal.new-requires-clause-calls
new-requires-clause-calls c =
    let h = c.in_ok-definitions.ensures in
    calls_linked c.args.objects.now (found c.in_ok-definitions.definitions) c.in-Some.entry c.in_ok-functions.functions (record { once = h.0; found = h.1; each = h.2 }) (sym c.get.ensures ∙ c.in-Some.is) (c.fits.ensures.0 c.if-not-fits.false) c.in_ok-functions.ensures

pub returns-clause-exact : goal.returns-clause-exact
returns-clause-exact c =
    let h = c.in_ok-definitions.ensures in
    let is = is_linked c.args.objects.now (found c.in_ok-definitions.definitions) c.in-Some.entry c.in_ok-functions.functions (record { once = h.0; found = h.1; each = h.2 }) c.in_ok-check_all.ensures (sym c.get.ensures ∙ c.in-Some.is) (c.fits.ensures.0 c.if-not-fits.false) c.in_ok-functions.ensures in
    rw c.new.ensures is

pub returns-clause-joined : goal.returns-clause-joined
returns-clause-joined c =
    let h = c.in_ok-definitions.ensures in
    let entry = sym (h.1 entry_symbol) ∙ sym c.get.ensures ∙ c.in-Some.is in
    let made = c.in_ok-functions.ensures ∙ functions_from_same (found c.in_ok-definitions.definitions) (definition_of c.args.objects.now) h.1 0 c.args.objects.now in
    joined c.args.objects.now c.in-Some.entry c.new.result h.0 h.2 entry (c.new.ensures ∙ ap (λ (fs : List LinkedFn). record { entry = c.in-Some.entry.place; functions = fs }) made)
