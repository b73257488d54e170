use Rattle.std.proofs.Common.{◌≡◌, true, ltb, length, sym, ◌∙◌, Result, Ok, Err, refl, arith}
use Rattle.std.specs.Result.{MatchResult, is_ok}
use Rattle.std.specs.Cmp.Derive.{both_true}
use Rattle.std.specs.Str.{IsUtf8}
use Rattle.std.specs.Char.{is_ascii_graphic}
use Rattle.std.specs.List.{list_all}
use Rattle.std.specs.Option.{is_some}
use Rattle.std.proofs.lemmas.Bool.Decides.{nat_tests}
use Rattle.object_format.specs.ObjectReading.{is_symbol}
use Rattle.object_format.proofs.SymbolTests.{utf8-all}
use Rattle.object_format.proofs.symbol.symbol_text.Goals as goal

text_of_utf8 : {X E : Type 0} (r : Result X E) (U : Type 0) (P : X → Type 0) (Q : E → Type 0) → U → MatchResult r (λ x. P x × U) (λ e. (U → ⊥) × Q e) → is_ok r ≡ true
text_of_utf8 (Ok x) U P Q u h = refl
text_of_utf8 (Err e) U P Q u h = absurd (h.0 u)

pub returns-clause-some : goal.returns-clause-some
returns-clause-some c =
    let signs : list_all is_ascii_graphic c.args.bytes.now ≡ true = sym c.are_signs.ensures ∙ c.if-not-are_signs.false in
    let utf8 : IsUtf8 c.args.bytes.now = utf8-all c.args.bytes.now signs in
    let text : is_some c.ok.result ≡ true = c.ok.ensures.variant ∙ text_of_utf8 c.from_utf8.result (IsUtf8 c.args.bytes.now) _ _ utf8 c.from_utf8.ensures.cases in
    let some : ltb 0 (length c.args.bytes.now) ≡ true = grind (arith, nat_tests) in
    let symbol : is_symbol c.args.bytes.now ≡ true = both_true some signs in
    text ∙ sym symbol
