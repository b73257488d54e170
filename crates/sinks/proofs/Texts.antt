-- Sinks that take a text piece by piece.
use Rattle.std.proofs.Common.{◌≡◌, ℕ, ◌+◌, List, [], ◌++◌, take, drop, Option, Some, None, refl, sym, ap, ◌∙◌, append_assoc, arith}
use Rattle.std.proofs.lemmas.List.{append-nil, take-append-drop}
use Rattle.std.proofs.Math.Seq.{take-add}
use Rattle.std.specs.Io.KnownBytes.{append_known}
use Rattle.outside.specs.Counts.{Rose}
use Rattle.outside.specs.Fronts.{AppendsFront}
use Rattle.sinks.specs.Prefixes.{TakesPrefix}
use Rattle.sinks.specs.SinkState.{SinkState, with_text, with_fault, with_want}

pub append_known-append : (known : Option (List ℕ)) (xs ys : List ℕ) → append_known (append_known known xs) ys ≡ append_known known (xs ++ ys)
append_known-append None xs ys = refl
append_known-append (Some zs) xs ys = ap (λ (l : List ℕ). Some l) (append_assoc zs xs ys)

pub append_known-nil : (known : Option (List ℕ)) → append_known known [] ≡ known
append_known-nil None = refl
append_known-nil (Some zs) = ap (λ (l : List ℕ). Some l) (append-nil zs)

pub with_text-nil : (s : SinkState) → with_text [] s ≡ s
with_text-nil s = ap (λ held. record s { held = held }) (append_known-nil s.held)

pub with_text-append : (s : SinkState) (xs ys : List ℕ) → with_text ys (with_text xs s) ≡ with_text (xs ++ ys) s
with_text-append s xs ys = ap (λ held. record s { held = held }) (append_known-append s.held xs ys)

-- one piece more was taken
pub takes_more : (s a b : SinkState) (text piece : List ℕ) (sent count : ℕ) → piece ≡ drop sent text → a ≡ with_text (take sent text) s → b ≡ with_text (take count piece) a → b ≡ with_text (take (sent + count) text) s
takes_more s a b text piece sent count is took more =
    more
    ∙ ap (with_text (take count piece)) took
    ∙ ap (λ p. with_text (take count p) (with_text (take sent text) s)) is
    ∙ with_text-append s (take sent text) (take count (drop sent text))
    ∙ ap (λ t. with_text t s) (sym (take-add sent count text))

-- what was taken so far is a prefix
pub takes_prefix : (s : SinkState) (text : List ℕ) (sent : ℕ) (then : SinkState → SinkState) (a new : SinkState) → a ≡ with_text (take sent text) s → new ≡ then a → TakesPrefix s text then new
takes_prefix s text sent then a new took now = record {
  front = take sent text;
  rest = drop sent text;
  splits = take-append-drop sent text;
  now = now ∙ ap then took;
}

-- what is put behind another text
pub prefix_later : (old mid new : SinkState) (put text : List ℕ) (then : SinkState → SinkState) → mid ≡ with_text put old → TakesPrefix mid text then new → TakesPrefix old (put ++ text) then new
prefix_later old mid new put text then told p = record {
  front = put ++ p.front;
  rest = p.rest;
  splits = append_assoc put p.front p.rest ∙ ap (λ (l : List ℕ). put ++ l) p.splits;
  now = p.now ∙ ap then (ap (with_text p.front) told ∙ with_text-append old put p.front);
}

-- a prefix of a text is one of a longer text
pub prefix_longer : (old new : SinkState) (text more : List ℕ) (then : SinkState → SinkState) → TakesPrefix old text then new → TakesPrefix old (text ++ more) then new
prefix_longer old new text more then p = record {
  front = p.front;
  rest = p.rest ++ more;
  splits = sym (append_assoc p.front p.rest more) ∙ ap (λ (l : List ℕ). l ++ more) p.splits;
  now = p.now;
}

-- the counts of a sink that took a prefix
one_more : (a b : ℕ) → b ≡ a + 1 → Rose a b
one_more a b e = omega arith

pub prefix_fault : (old new : SinkState) (text : List ℕ) → TakesPrefix old text with_fault new → Rose old.faults new.faults × AppendsFront old.held new.held text
prefix_fault old new text p =
    (one_more old.faults new.faults (ap (λ (s : SinkState). s.faults) p.now), record { front = p.front; rest = p.rest; splits = p.splits; appends = ap (λ (s : SinkState). s.held) p.now })

pub prefix_want : (old new : SinkState) (text : List ℕ) → TakesPrefix old text with_want new → (new.faults ≡ old.faults) × AppendsFront old.held new.held text
prefix_want old new text p =
    (ap (λ (s : SinkState). s.faults) p.now, record { front = p.front; rest = p.rest; splits = p.splits; appends = ap (λ (s : SinkState). s.held) p.now })
