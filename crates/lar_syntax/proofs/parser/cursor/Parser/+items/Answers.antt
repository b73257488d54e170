use Rattle.std.proofs.Common.{refl, [], ◌∷◌, ◌++◌, ◌-◌, ◌∙◌, sym, ap, arith}
use Rattle.std.proofs.lemmas.Result.{err_from_is_err_and}
use Rattle.lar_tree.specs.declared.keyword.Keyword.TheVariants as keyword
use Rattle.lar_tree.specs.declared.sign.Sign.TheVariants as sign
use Rattle.lar_tree.specs.Spelling.{sign_token, word_token, name_token}
use Rattle.lar_tree.specs.Items.{flat_item}
use Rattle.lar_grammar.specs.Symbols.{one_sign, one_word, one_name, body, module_items, attributed}
use Rattle.lar_grammar.specs.Moves.{struct_rest, const_rest}
use Rattle.lar_grammar.proofs.Steps.{when_false}
use Rattle.lar_syntax.specs.ReadsItems.{items_tokens}
use Rattle.lar_syntax.proofs.Flow.{onward, ends_with}
use Rattle.lar_syntax.proofs.ItemSteps.{body_shut, body_opens, item_word, item_fn, as_item}
use Rattle.lar_syntax.proofs.ItemTokens.{items_grow, items_grouped}
use Rattle.lar_syntax.proofs.parser.cursor.Parser.+items.Goals as goal

pub item-returns-then-sees_word-clause-reads : goal.item-returns-then-sees_word-clause-reads
item-returns-then-sees_word-clause-reads t c =
    let A = c.args.self.now in
    let n = c.args.levels in
    as_item n (one_word keyword.Mod ∷ one_name ∷ body n ∷ []) A c.module.result _ (λ s behind ss b. item_word A n keyword.Mod (one_name ∷ body n ∷ []) s behind ss b (sym c.sees_word.ensures ∙ c.if-sees_word.true) refl) c.module.ensures.reads

pub item-returns-then-sees_word-2-clause-reads : goal.item-returns-then-sees_word-2-clause-reads
item-returns-then-sees_word-2-clause-reads t c =
    let A = c.args.self.now in
    let n = c.args.levels in
    as_item n (one_word keyword.Struct ∷ struct_rest) A c.structure.result _ (λ s behind ss b. item_word A n keyword.Struct struct_rest s behind ss b (sym c.sees_word-2.ensures ∙ c.if-sees_word-2.true) refl) c.structure.ensures.reads

pub item-returns-then-sees_word-3-clause-reads : goal.item-returns-then-sees_word-3-clause-reads
item-returns-then-sees_word-3-clause-reads t c =
    let A = c.args.self.now in
    let n = c.args.levels in
    as_item n (one_word keyword.Const ∷ const_rest) A c.constant.result _ (λ s behind ss b. item_word A n keyword.Const const_rest s behind ss b (sym c.sees_word-3.ensures ∙ c.if-sees_word-3.true) refl) c.constant.ensures.reads

pub item-returns-clause-reads : goal.item-returns-clause-reads
item-returns-clause-reads t c =
    let A = c.args.self.now in
    let n = c.args.levels in
    as_item n (attributed n ∷ []) A c.function.result _ (λ s behind ss b. item_fn A n s behind ss b (sym c.sees_word.ensures ∙ c.if-sees_word.false) (sym c.sees_word-2.ensures ∙ c.if-sees_word-2.false) (sym c.sees_word-3.ensures ∙ c.if-sees_word-3.false)) c.function.ensures.reads

pub items-returns-in_err-item-clause-reads : goal.items-returns-in_err-item-clause-reads
items-returns-in_err-item-clause-reads t c =
    let n = c.args.levels in
    let x = err_from_is_err_and c.from_residual.result c.from_residual.ensures.1 in
    rw (x.1, x.2) (onward (module_items n ∷ []) (module_items n ∷ []) [] _ c.args.self.now c.items.self _ c.items.invariant.passes (c.in_err-item.ensures.reads (module_items n) (module_items n ∷ []) (when_false _ _ _ (sym c.sees.ensures ∙ c.items-test.true))))

pub items-items-preserved : goal.items-items-preserved
items-items-preserved t c =
    let n = c.args.levels in
    let i = c.items.invariant in
    let r = c.in_ok-item.ensures.reads in
    record {
      takes = items_grow c.items.found _ c.in_ok-item.item _ _ _ i.takes r.0 c.in_ok-push.ensures.ok;
      passes = λ ss. i.passes ss ∙ r.1 (module_items n) (module_items n ∷ []) (when_false _ _ _ (sym c.sees.ensures ∙ c.items-test.true)) ss;
      grouped = items_grouped c.items.found _ c.in_ok-item.item i.grouped c.in_ok-item.ensures.grouped c.in_ok-push.ensures.ok;
      shorter = omega arith;
    }

pub module-returns-then-levels-eq0-clause-reads : goal.module-returns-then-levels-eq0-clause-reads
module-returns-then-levels-eq0-clause-reads t c =
    let n = c.args.levels in
    λ ss. c.in_ok-keyword.ensures.reads.1 (one_name ∷ body n ∷ ss) ∙ c.in_ok-name.ensures.reads.1 (body n ∷ ss) ∙ body_shut c.name.new.self n ss (omega arith)

pub module-returns-in_err-open-clause-reads : goal.module-returns-in_err-open-clause-reads
module-returns-in_err-open-clause-reads t c =
    let n = c.args.levels in
    let x = err_from_is_err_and c.from_residual-in_err-open.result c.from_residual-in_err-open.ensures.1 in
    rw (x.1, x.2) (onward (one_word keyword.Mod ∷ one_name ∷ body n ∷ []) (one_sign sign.OpenBrace ∷ []) (module_items (n - 1) ∷ one_sign sign.CloseBrace ∷ []) _ c.args.self.now c.name.new.self _
    (λ ss. c.in_ok-keyword.ensures.reads.1 (one_name ∷ body n ∷ ss) ∙ c.in_ok-name.ensures.reads.1 (body n ∷ ss) ∙ body_opens c.name.new.self n ss (omega arith)) c.in_err-open.ensures.reads)

pub module-returns-in_err-items-clause-reads : goal.module-returns-in_err-items-clause-reads
module-returns-in_err-items-clause-reads t c =
    let n = c.args.levels in
    let x = err_from_is_err_and c.from_residual-in_err-items.result c.from_residual-in_err-items.ensures.1 in
    rw (x.1, x.2) (onward (one_word keyword.Mod ∷ one_name ∷ body n ∷ []) (module_items (n - 1) ∷ []) (one_sign sign.CloseBrace ∷ []) _ c.args.self.now c.expect.new.self _
    (λ ss. c.in_ok-keyword.ensures.reads.1 (one_name ∷ body n ∷ ss) ∙ c.in_ok-name.ensures.reads.1 (body n ∷ ss) ∙ body_opens c.name.new.self n ss (omega arith) ∙ c.in_ok-open.ensures.reads.1 (module_items (n - 1) ∷ one_sign sign.CloseBrace ∷ ss)) c.in_err-items.ensures.reads)

pub module-returns-in_err-close-clause-reads : goal.module-returns-in_err-close-clause-reads
module-returns-in_err-close-clause-reads t c =
    let n = c.args.levels in
    let x = err_from_is_err_and c.from_residual-in_err-close.result c.from_residual-in_err-close.ensures.1 in
    rw (x.1, x.2) (onward (one_word keyword.Mod ∷ one_name ∷ body n ∷ []) (one_sign sign.CloseBrace ∷ []) [] _ c.args.self.now c.items.new.self _
    (λ ss. c.in_ok-keyword.ensures.reads.1 (one_name ∷ body n ∷ ss) ∙ c.in_ok-name.ensures.reads.1 (body n ∷ ss) ∙ body_opens c.name.new.self n ss (omega arith) ∙ c.in_ok-open.ensures.reads.1 (module_items (n - 1) ∷ one_sign sign.CloseBrace ∷ ss) ∙ c.in_ok-items.ensures.reads.1 (one_sign sign.CloseBrace ∷ ss)) c.in_err-close.ensures.reads)

pub module-returns-clause-reads : goal.module-returns-clause-reads
module-returns-clause-reads t c =
    let n = c.args.levels in
    let k = c.in_ok-keyword.ensures.reads in
    let m = c.in_ok-name.ensures.reads in
    let o = c.in_ok-open.ensures.reads in
    let i = c.in_ok-items.ensures.reads in
    let e = c.in_ok-close.ensures.reads in (
      k.0 ∙ ap (λ x. word_token keyword.Mod c.in_ok-keyword.keyword ∷ x)
          (m.0 ∙ ap (λ x. name_token c.in_ok-name.name ∷ x)
          (o.0 ∙ ap (λ x. sign_token sign.OpenBrace c.in_ok-open.open ∷ x)
          (ends_with c.expect.new.self.rest.now c.items.new.self.rest.now c.expect-2.new.self.rest.now (items_tokens c.in_ok-items.items) (sign_token sign.CloseBrace c.in_ok-close.close ∷ []) i.0 e.0)))
          ∙ ap (λ v. flat_item v ++ c.expect-2.new.self.rest.now) (sym (c.module_item.ensures ∙ c.new-made.ensures)),
      λ ss. k.1 (one_name ∷ body n ∷ ss) ∙ m.1 (body n ∷ ss) ∙ body_opens c.name.new.self n ss (omega arith) ∙ o.1 (module_items (n - 1) ∷ one_sign sign.CloseBrace ∷ ss) ∙ i.1 (one_sign sign.CloseBrace ∷ ss) ∙ e.1 ss,
    )
