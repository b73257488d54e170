use Rattle.std.proofs.Common.{◌≡◌, ◌∙◌, ◌<◌, ◌+◌, ℕ, sym, ap, ap₂, List, [], ◌∷◌, ◌++◌, append-nil, Option, Some, None, map, option_map, take, get_or, length, unwrap_or, Bor}
use Rattle.std.specs.List.{cons_option, filter_map}
use Rattle.std.proofs.lemmas.List.{map_more, map-append, take_all}
use Rattle.std.proofs.lemmas.List.Elements.{filter_map-append}
use Rattle.clap.specs.Words.{Row, all_of, found_of, rows_of}
use Rattle.clap.proofs.WalkLemmas.{raw_values-rows}
use Rattle.words.specs.Lines.{Given, Text, choice_shown, given_shown}
use Rattle.words.specs.Reads.{given_in}
use Rattle.words.specs.declared.line.Choice.{Choice as ChoiceFound}
use Rattle.words.specs.declared.line.Given.{Given as GivenFound}
use Rattle.words.specs.declared.line.Line.{Line as LineFound}
use Rattle.words.proofs.line.line_in.Goals as goal
use Rattle.words.proofs.line.line_in.Goals.{in-Some+in_ok-extend_from_slice, in_default, in-Some-given_in+in_ok-push, in_default-given_in}

one_more : (rows : List Row) (table : List ChoiceFound) (i : ℕ) (choice : ChoiceFound) (found : Option GivenFound) → i < length table
    → option_map given_shown found ≡ given_in rows (choice_shown (get_or table i choice))
    → filter_map (given_in rows) (map choice_shown (take i table)) ++ cons_option (option_map given_shown found) [] ≡ filter_map (given_in rows) (map choice_shown (take (i + 1) table))
one_more rows table i choice found below is =
    ap (λ o. filter_map (given_in rows) (map choice_shown (take i table)) ++ cons_option o []) is
    ∙ sym (ap (filter_map (given_in rows)) (map_more choice_shown table i choice below) ∙ filter_map-append (given_in rows) (map choice_shown (take i table)) (choice_shown (get_or table i choice) ∷ []))

abbrev givens : LineFound → List Given
givens line = map given_shown line.given.items

abbrev files : LineFound → List Text
files line = map (λ file. file.now) line.files.items

pub loop-choice-preserved : goal.loop-choice-preserved
loop-choice-preserved c = elim c.match-given_in.branch [
  | in-Some-given_in+in_ok-push w ↦ record {
    files = ap (λ (line : LineFound). line.files) w.line-is ∙ c.loop-choice.invariant.files;
    given =
        ap givens w.line-is ∙ ap (map given_shown) w.in_ok-push.ensures.items
        ∙ map-append given_shown c.loop-choice.line.given.items (w.in-Some-given_in.given ∷ [])
        ∙ ap (λ front. front ++ given_shown w.in-Some-given_in.given ∷ []) c.loop-choice.invariant.given
        ∙ one_more (rows_of (found_of c.args.matches.now)) c.args.table.now c.loop-choice.choice-index _ (Some w.in-Some-given_in.given) c.loop-choice-test.true
        (ap (option_map given_shown) (sym w.in-Some-given_in.is) ∙ c.given_in.ensures);
  }
  | in_default-given_in w ↦ record {
    files = ap (λ (line : LineFound). line.files) w.line-is ∙ c.loop-choice.invariant.files;
    given =
        ap givens w.line-is ∙ c.loop-choice.invariant.given ∙ sym (append-nil _)
        ∙ one_more (rows_of (found_of c.args.matches.now)) c.args.table.now c.loop-choice.choice-index _ None c.loop-choice-test.true
        (ap (option_map given_shown) (sym w.in_default-given_in.is) ∙ c.given_in.ensures);
  }
]

pub returns : goal.returns
returns c =
    let rows = rows_of (found_of c.args.matches.now) in
    let all : givens c.loop-choice.line ≡ filter_map (given_in rows) (map choice_shown c.args.table.now) =
    c.loop-choice.invariant.given ∙ ap (λ xs. filter_map (given_in rows) (map choice_shown xs)) (take_all c.loop-choice.choice-index c.args.table.now c.loop-choice-test.false) in
    let texts : option_map (λ (s : Bor (List (Bor Text))). map (λ v. v.now) s.now) c.get_strs.result ≡ all_of [] rows =
    c.get_strs.ensures ∙ raw_values-rows (found_of c.args.matches.now) [] in
    let words : files c.match-get_strs.line ≡ unwrap_or (all_of [] rows) [] = elim c.match-get_strs.branch [
      | in-Some+in_ok-extend_from_slice w ↦
          ap files w.line-is ∙ ap (map (λ (v : Bor Text). v.now)) (w.in_ok-extend_from_slice.ensures.items ∙ ap (λ front. front ++ w.in-Some.files.now) c.new.ensures.items)
          ∙ ap (λ o. unwrap_or o []) (ap (option_map (λ (s : Bor (List (Bor Text))). map (λ v. v.now) s.now)) (sym w.in-Some.is) ∙ texts)
      | in_default w ↦
          ap files w.line-is ∙ ap (map (λ (v : Bor Text). v.now)) c.new.ensures.items
          ∙ ap (λ o. unwrap_or o []) (ap (option_map (λ (s : Bor (List (Bor Text))). map (λ v. v.now) s.now)) (sym w.in_default.is) ∙ texts)
    ] in
    ap₂ (λ fs gs. record { files = fs; given = gs }) (ap (λ fs. map (λ file. file.now) fs.items) c.loop-choice.invariant.files ∙ words) all
