use Rattle.std.proofs.Common.{rules, ◌≡◌, ◌∙◌, ◌<◌, ◌+◌, ℕ, refl, sym, ap, ap₂, map, take, get_or, List, [], ◌∷◌, ◌++◌, length}
use Rattle.std.proofs.lemmas.List.{map_more, take_all}
use Rattle.std.proofs.lemmas.Result.{IfOk-weaker}
use Rattle.clap.specs.Words.{app_of, with_rule, rule_of, Rule}
use Rattle.words.specs.Lines.{choice_shown}
use Rattle.words.specs.declared.line.Choice.{Choice as ChoiceFound}
use Rattle.words.specs.Reads.{app_with, rule_for, files_rule}
use Rattle.words.proofs.line.command_for.Goals as goal

abbrev rule_shown : ChoiceFound → Rule
rule_shown choice = rule_for (choice_shown choice)

maps : (table : List ChoiceFound) → map rule_for (map choice_shown table) ≡ map rule_shown table
maps [] = refl
maps (choice ∷ table) = ap (λ rules. rule_shown choice ∷ rules) (maps table)

one_more : (table : List ChoiceFound) (i : ℕ) (choice : ChoiceFound) → i < length table → map rule_for (map choice_shown (take (i + 1) table)) ≡ map rule_for (map choice_shown (take i table)) ++ rule_shown (get_or table i choice) ∷ []
one_more table i choice below = maps (take (i + 1) table) ∙ map_more rule_shown table i choice below ∙ ap (λ rules. rules ++ rule_shown (get_or table i choice) ∷ []) (sym (maps (take i table)))

pub loop-choice-preserved : goal.loop-choice-preserved
loop-choice-preserved c =
    c.in_ok-command.ensures.shape c.arg_for.ensures.local ∙ ap₂ with_rule c.loop-choice.invariant c.arg_for.ensures.rule
    ∙ ap app_with (sym (one_more c.args.table.now c.loop-choice.choice-index _ c.loop-choice-test.true))

pub returns : goal.returns
returns c =
    let is_files : rule_of c.action.result ≡ files_rule = search rules in
    let whole : app_of c.loop-choice.command ≡ app_with (map rule_for (map choice_shown c.args.table.now)) = c.loop-choice.invariant ∙ ap (λ xs. app_with (map rule_for (map choice_shown xs))) (take_all c.loop-choice.choice-index c.args.table.now c.loop-choice-test.false) in
    IfOk-weaker c.arg-2.result _ _ (λ command added. added.shape (search rules) ∙ ap₂ with_rule whole is_files) c.arg-2.ensures
