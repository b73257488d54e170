use Rattle.std.proofs.Common.{◌≡◌, ◌∙◌, sym, ap, Some, None, List, ℕ, Bor, option_map, option_and_then}
use Rattle.clap.specs.Words.{first_of, found_of, rows_of}
use Rattle.clap.proofs.WalkLemmas.{first_value-rows}
use Rattle.words.specs.Lines.{choice_shown}
use Rattle.words.specs.Reads.{given_by}
use Rattle.words.proofs.line.given_in.Goals as goal

pub returns-in-None : goal.returns-in-None
returns-in-None c =
    let choice = choice_shown c.args.choice.now in
    let text : None ≡ first_of choice.name (rows_of (found_of c.args.matches.now)) =
    ap (option_map (λ (s : Bor (List ℕ)). s.now)) (sym c.in-None.is) ∙ c.get_str.ensures ∙ first_value-rows (found_of c.args.matches.now) choice.name in
    ap (option_and_then (given_by choice)) text

pub returns-in-Some : goal.returns-in-Some
returns-in-Some c =
    let choice = choice_shown c.args.choice.now in
    let text : Some c.in-Some.text.now ≡ first_of choice.name (rows_of (found_of c.args.matches.now)) =
    ap (option_map (λ (s : Bor (List ℕ)). s.now)) (sym c.in-Some.is) ∙ c.get_str.ensures ∙ first_value-rows (found_of c.args.matches.now) choice.name in
    c.given_by.ensures ∙ ap (option_and_then (given_by choice)) text
