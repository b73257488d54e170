use Rattle.std.proofs.Common.{◌≡◌, ◌<◌, length, lit<}
use Rattle.std.specs.List.{after_first, before_first, position_or_len}
use Rattle.std.proofs.lemmas.List.Splits.{slice_split_first}
use Rattle.make_flags.specs.Words.{is_space}
use Rattle.make_flags.proofs.Splitting.{slice_split-nowhere, IsUtf8-after_space}
use Rattle.make_flags.proofs.words.first_word.Goals as goal

pub returns-in-Some-clause-words : goal.returns-in-Some-clause-words
returns-in-Some-clause-words c =
    let front : c.in-Some.word.now ≡ before_first is_space c.args.text.now = (c.in-Some.ensures.byte (lit< tt) (λ w o h. h)).0 in
    let back : c.in-Some.rest.now ≡ after_first is_space c.args.text.now = (c.in-Some.ensures.byte (lit< tt) (λ w o h. h)).1 in
    let found : position_or_len is_space c.args.text.now < length c.args.text.now = (c.in-Some.ensures.byte (lit< tt) (λ w o h. h)).2 in
    rw (front, back) (slice_split_first is_space c.args.text.now 0 found)

pub returns-in-Some-clause-text : goal.returns-in-Some-clause-text
returns-in-Some-clause-text c =
    let back : c.in-Some.rest.now ≡ after_first is_space c.args.text.now = (c.in-Some.ensures.byte (lit< tt) (λ w o h. h)).1 in
    let found : position_or_len is_space c.args.text.now < length c.args.text.now = (c.in-Some.ensures.byte (lit< tt) (λ w o h. h)).2 in
    rw back (IsUtf8-after_space c.args.text.now c.utf8.text found)

pub returns-in-None-clause-words : goal.returns-in-None-clause-words
returns-in-None-clause-words c = slice_split-nowhere is_space c.args.text.now (c.in-None.ensures.byte (lit< tt) (λ w o h. h))
