use Rattle.std.proofs.Common.{sym, ap, ◌∙◌}
use Rattle.std.specs.Prelude.{slice_get}
use Rattle.lar_names.specs.NamesView.{names_view, scope_lists}
use Rattle.lar_names.specs.Numbered.{function_numbered}
use Rattle.lar_types.proofs.MainFacts.{get_there, get_gone, sig_inside, sig_found, sig_missing, main_is}
use Rattle.lar_types.proofs.main_fn.is_main.Goals as goal

pub is_lawful_main-requires : goal.is_lawful_main-requires
is_lawful_main-requires c =
    let all = names_view c.args.names.now in
    let j = c.in-Some-get.ensures.lookup in
    sig_inside c.args.types.now all c.in-Some-get.signature.now (function_numbered all c.args.number)
    (sig_found c.args.types.now all c.deref.result.now c.args.signatures.now.functions.items c.args.number c.in-Some-get.signature.now (function_numbered all c.args.number)
    (c.by_number.ensures.functions c.args.types.now all c.args.signatures.now c.args.number c.requires) c.deref.ensures.value j.3.0 j.1)

pub returns-in-None-get : goal.returns-in-None-get
returns-in-None-get c = λ x numbered.
    let all = names_view c.args.names.now in
    absurd (sig_missing c.args.types.now all (slice_get c.args.signatures.now.functions.items c.args.number) x (function_numbered all c.args.number)
    (c.by_number.ensures.functions c.args.types.now all c.args.signatures.now c.args.number c.requires)
    (ap (λ xs. slice_get xs c.args.number) (sym c.deref.ensures.value) ∙ get_gone c.deref.result.now c.args.number c.in-None-get.ensures.lookup.3) numbered)

pub returns-in-Some-get : goal.returns-in-Some-get
returns-in-Some-get c = λ x numbered.
    let all = names_view c.args.names.now in
    let h = c.in-Some.ensures.lookup in
    let j = c.in-Some-get.ensures.lookup in
    c.is_lawful_main.ensures ∙ main_is c.args.types.now all (scope_lists c.args.names.now) c.functions.result.now c.args.number c.in-Some.item.now c.in-Some-get.signature.now x
    (get_there c.functions.result.now c.args.number c.in-Some.item.now h.3.0 h.1) c.functions.ensures.all numbered
    (sig_found c.args.types.now all c.deref.result.now c.args.signatures.now.functions.items c.args.number c.in-Some-get.signature.now (function_numbered all c.args.number)
    (c.by_number.ensures.functions c.args.types.now all c.args.signatures.now c.args.number c.requires) c.deref.ensures.value j.3.0 j.1)
