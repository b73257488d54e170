-- Parts of a long text that are sent one after the other.
use Rattle.std.proofs.Common.{◌≡◌, ◌∙◌, inl, inr, ℕ, List, [], ◌++◌, ◌+◌, ◌<◌, length, drop, get_or, Result, Ok, Err, refl, sym, ap, subst, append_assoc}
use Rattle.std.proofs.lemmas.List.{append-nil, drop_more}
use Rattle.std.specs.List.{concat}
use Rattle.scripts.specs.Outside.{Wanted, Lands}
use Rattle.sinks.specs.Prefixes.{TakesPrefix}
use Rattle.sinks.specs.SinkState.{SinkState, with_text}
use Rattle.sinks.proofs.Texts.{prefix_later, prefix_longer, with_text-append, with_text-nil}
use Rattle.larch_cli.specs.Sending.{Sends, came_of, came_short}
use Rattle.larch_cli.specs.declared.sending.NotPut.{NotPut}
use Rattle.larch_cli.specs.declared.sending.NotPut.TheVariants as not_put

-- nothing was put yet
pub sends_nothing : (s : SinkState) (text : List ℕ) → Sends s s text text
sends_nothing s text = record { done = []; put = sym (with_text-nil s); splits = refl }

-- all of it was put
pub sends_all : (old now : SinkState) (text : List ℕ) → now ≡ with_text text old → Sends old now text []
sends_all old now text put = record { done = text; put = put; splits = append-nil text }

-- more came behind what is kept, and some was put
sends_later : (old mid now : SinkState) (text kept more kept_now : List ℕ) → Sends old mid text kept → Sends mid now (kept ++ more) kept_now → Sends old now (text ++ more) kept_now
sends_later old mid now text kept more kept_now s t = record {
  done = s.done ++ t.done;
  put = t.put ∙ ap (with_text t.done) s.put ∙ with_text-append old s.done t.done;
  splits = append_assoc s.done t.done kept_now ∙ ap (λ (l : List ℕ). s.done ++ l) t.splits ∙ sym (append_assoc s.done kept more) ∙ ap (λ (l : List ℕ). l ++ more) s.splits;
}

-- a prefix of what is kept and of more behind it
part_later : (old mid now : SinkState) (text kept more : List ℕ) (then : SinkState → SinkState) → Sends old mid text kept → TakesPrefix mid (kept ++ more) then now → TakesPrefix old (text ++ more) then now
part_later old mid now text kept more then s p =
    let joined : s.done ++ (kept ++ more) ≡ text ++ more = sym (append_assoc s.done kept more) ∙ ap (λ (l : List ℕ). l ++ more) s.splits in
    subst (λ (t : List ℕ). TakesPrefix old t then now) joined (prefix_later old mid now s.done (kept ++ more) then s.put p)

-- what ends the later part ends all of it
ends_later : (old mid now : SinkState) (text kept more : List ℕ) (why : NotPut) → Sends old mid text kept → Lands mid (kept ++ more) (came_short why) now → Lands old (text ++ more) (came_short why) now
ends_later old mid now text kept more not_put.Failed s p = part_later old mid now text kept more _ s p
ends_later old mid now text kept more not_put.Memory s (inl p) = inl (part_later old mid now text kept more _ s p)
ends_later old mid now text kept more not_put.Memory s (inr p) = inr (part_later old mid now text kept more _ s p)

-- a prefix of a text is one of a longer text
ends_longer : (old now : SinkState) (text more : List ℕ) (why : NotPut) → Lands old text (came_short why) now → Lands old (text ++ more) (came_short why) now
ends_longer old now text more not_put.Failed p = prefix_longer old now text more _ p
ends_longer old now text more not_put.Memory (inl p) = inl (prefix_longer old now text more _ p)
ends_longer old now text more not_put.Memory (inr p) = inr (prefix_longer old now text more _ p)

-- ---- the parts of a text, one after the other

-- Some of them were sent, and these are to come.
pub record SoFar (old now : SinkState) (kept rest whole : List ℕ) : Type 0 where
  pub text : List ℕ
  pub sent : Sends old now text kept
  pub splits : text ++ rest ≡ whole

pub starts : (s : SinkState) (whole : List ℕ) → SoFar s s [] whole whole
starts s whole = record { text = []; sent = sends_nothing s []; splits = refl }

pub goes_on : (old mid now : SinkState) (kept one rest rest_now whole kept_one kept_now : List ℕ) → SoFar old mid kept rest whole → rest ≡ one ++ rest_now → kept_one ≡ kept ++ one → Sends mid now kept_one kept_now → SoFar old now kept_now rest_now whole
goes_on old mid now kept one rest rest_now whole kept_one kept_now so first made sent = record {
  text = so.text ++ one;
  sent = sends_later old mid now so.text kept one kept_now so.sent (subst (λ (t : List ℕ). Sends mid now t kept_now) made sent);
  splits = append_assoc so.text one rest_now ∙ ap (λ (t : List ℕ). so.text ++ t) (sym first) ∙ so.splits;
}

pub fails : (old mid now : SinkState) (kept one rest rest_now whole kept_one : List ℕ) (why : NotPut) → SoFar old mid kept rest whole → rest ≡ one ++ rest_now → kept_one ≡ kept ++ one → Lands mid kept_one (came_short why) now
    → Lands old whole (came_short why) now
fails old mid now kept one rest rest_now whole kept_one why so first made h =
    let here = ends_later old mid now so.text kept one why so.sent (subst (λ (t : List ℕ). Lands mid t (came_short why) now) made h) in
    let all : (so.text ++ one) ++ rest_now ≡ whole = append_assoc so.text one rest_now ∙ ap (λ (t : List ℕ). so.text ++ t) (sym first) ∙ so.splits in
    subst (λ (t : List ℕ). Lands old t (came_short why) now) all (ends_longer old now (so.text ++ one) rest_now why here)

-- memory was wanted before more was put
pub wants : (old mid : SinkState) (kept rest whole : List ℕ) → SoFar old mid kept rest whole → Lands old whole Wanted mid
wants old mid kept rest whole so =
    let s = so.sent in
    inr (record {
      front = s.done;
      rest = kept ++ rest;
      splits = sym (append_assoc s.done kept rest) ∙ ap (λ (l : List ℕ). l ++ rest) s.splits ∙ so.splits;
      now = s.put;
    })

-- what is kept is put at last
pub sent_all : (old mid now : SinkState) (kept whole : List ℕ) (put : Result (Unit {0}) NotPut) → SoFar old mid kept [] whole → Lands mid kept (came_of put) now → Lands old whole (came_of put) now
sent_all old mid now kept whole (Ok x) so h =
    let all : so.sent.done ++ kept ≡ whole = so.sent.splits ∙ sym (append-nil so.text) ∙ so.splits in
    h ∙ ap (with_text kept) so.sent.put ∙ with_text-append old so.sent.done kept ∙ ap (λ (t : List ℕ). with_text t old) all
sent_all old mid now kept whole (Err why) so h = fails old mid now kept [] [] [] whole (kept ++ []) why so refl refl (subst (λ (t : List ℕ). Lands mid t (came_short why) now) (sym (append-nil kept)) h)

-- the parts from one of them on
pub concat-drop : (parts : List (List ℕ)) (k : ℕ) → k < length parts → concat (drop k parts) ≡ get_or parts k [] ++ concat (drop (k + 1) parts)
concat-drop parts k below = ap concat (drop_more parts k [] below)
