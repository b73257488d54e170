use Rattle.std.proofs.Common.{◌∙◌, sym, ap, List, Option, Some, map, option_map, string_bytes}
use Rattle.clap.specs.Words.{found_of, rows_of}
use Rattle.clap.specs.declared.parser.matches.ArgMatches.{ArgMatches}
use Rattle.words.specs.Lines.{Choice, Line, choice_shown}
use Rattle.words.specs.Reads.{line_in}
use Rattle.words.proofs.Whole.{answers, refused}
use Rattle.words.proofs.line.sorted_line.Goals as goal

abbrev line_of_matches : List Choice → Option ArgMatches → Option Line
line_of_matches table found = option_map (line_in table) (option_map (λ matches. rows_of (found_of matches)) found)

pub returns-then-has_short : goal.returns-then-has_short
returns-then-has_short c = refused (map choice_shown c.args.table.now) (map (λ word. string_bytes word) c.args.words.now) (sym c.has_short.ensures ∙ c.if-has_short.true)

pub returns-in-None : goal.returns-in-None
returns-in-None c =
    ap (line_of_matches (map choice_shown c.args.table.now)) (sym c.in-None.is)
    ∙ answers (map choice_shown c.args.table.now) c.requires (map (λ word. string_bytes word) c.args.words.now) _ c.in_ok-matches_for.ensures (sym c.has_short.ensures ∙ c.if-has_short.false)

pub returns-in_ok-line_in-in-Some : goal.returns-in_ok-line_in-in-Some
returns-in_ok-line_in-in-Some c =
    ap Some c.in_ok-line_in-in-Some.ensures ∙ ap (line_of_matches (map choice_shown c.args.table.now)) (sym c.in-Some.is)
    ∙ answers (map choice_shown c.args.table.now) c.requires (map (λ word. string_bytes word) c.args.words.now) _ c.in_ok-matches_for.ensures (sym c.has_short.ensures ∙ c.if-has_short.false)
