use Rattle.std.proofs.Common.{List, ◌≡◌, ℕ, ◌∷◌, ◌++◌, [], sym, ap, ◌∙◌, append_assoc}
use Rattle.std.proofs.lemmas.List.{map-append}
use Rattle.object_format.specs.Object.{UnlinkedFn, symbols_of}
use Rattle.object_format.specs.ObjectReading.{is_among}
use Rattle.object_format.proofs.Distinct.{holds-more}
use Rattle.object_format.proofs.draft.Draft.with_function.Goals as goal

pub invariant_of-result : goal.invariant_of-result
invariant_of-result c =
    let fs = c.self.inside.functions in
    let externals = c.self.inside.externals in
    let held = holds-more c.self.inside.symbols c.insert.new.self (symbols_of fs) externals c.args.symbol.now c.in_ok-insert.ensures.updates c.self.invariant in
    let more : symbols_of (fs ++ c.args.function ∷ []) ≡ symbols_of fs ++ c.args.symbol.now ∷ [] = map-append _ fs _ ∙ ap (λ (s : List ℕ). symbols_of fs ++ s ∷ []) c.requires in
    let all : symbols_of c.push.new.self ++ externals ≡ symbols_of fs ++ c.args.symbol.now ∷ externals =
    ap (λ (gs : List UnlinkedFn). symbols_of gs ++ externals) c.in_ok-push.ensures.ok ∙ ap (λ (ss : List (List ℕ)). ss ++ externals) more ∙ append_assoc (symbols_of fs) (c.args.symbol.now ∷ []) externals in
    λ s. held s ∙ ap (λ (ss : List (List ℕ)). is_among ss s) (sym all)
