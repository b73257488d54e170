use Rattle.std.proofs.Common.{List, ◌≡◌, ℕ, ◌∷◌, ◌++◌, [], sym, ap, ◌∙◌, append_assoc}
use Rattle.std.proofs.lemmas.List.{append-nil}
use Rattle.object_format.specs.Object.{symbols_of}
use Rattle.object_format.specs.ObjectReading.{is_among}
use Rattle.object_format.proofs.Distinct.{holds-more}
use Rattle.object_format.proofs.draft.Draft.with_external.Goals as goal

pub invariant_of-result : goal.invariant_of-result
invariant_of-result c =
    let before = symbols_of c.self.inside.functions ++ c.self.inside.externals in
    let held = holds-more c.self.inside.symbols c.insert.new.self before [] c.args.symbol.now c.in_ok-insert.ensures.updates (λ q. c.self.invariant q ∙ ap (λ (ss : List (List ℕ)). is_among ss q) (sym (append-nil before))) in
    let all : symbols_of c.self.inside.functions ++ c.push.new.self ≡ before ++ c.args.symbol.now ∷ [] =
    ap (λ (es : List (List ℕ)). symbols_of c.self.inside.functions ++ es) (c.in_ok-push.ensures.ok ∙ ap (λ (s : List ℕ). c.self.inside.externals ++ s ∷ []) c.requires)
    ∙ sym (append_assoc (symbols_of c.self.inside.functions) c.self.inside.externals (c.args.symbol.now ∷ [])) in
    λ s. held s ∙ ap (λ (ss : List (List ℕ)). is_among ss s) (sym all)
