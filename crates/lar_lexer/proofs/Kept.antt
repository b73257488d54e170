-- What the definition of the tokens gives is a cut of the file, and keeps what tokens keep.
use Rattle.std.proofs.Common.{get_or, ◌≡◌, ℕ, zero, suc, ◌+◌, ◌-◌, ◌≤◌, ◌<◌, ◌==◌, ◌⊎◌, inl, inr, Bool, true, false, cond, List, [], ◌∷◌, length, take, drop, Ok, Err, IfOk, refl, sym, ◌∙◌, subst, arith}
use Rattle.std.specs.List.{All}
use Rattle.std.proofs.lemmas.List.{length-drop, length-take-le}
use Rattle.std.proofs.lemmas.List.Elements.{All-cons, All-nil}
use Rattle.std.proofs.lemmas.List.Kept.{AllPairs-cons}
use Rattle.lar_tree.specs.declared.token.Kind.{Kind}
use Rattle.lar_tree.specs.declared.token.Kind.TheVariants as kinds
use Rattle.lar_tree.specs.declared.token.Token.{Token}
use Rattle.lar_source.specs.declared.file.Span.{Span}
use Rattle.lar_lexer.specs.declared.front.Fault.{Fault}
use Rattle.lar_lexer.specs.declared.front.Front.{Front}
use Rattle.lar_lexer.specs.declared.front.Front.TheVariants as fronts
use Rattle.lar_lexer.specs.declared.front.Fault.TheVariants as faults
use Rattle.lar_lexer.specs.Front.{front}
use Rattle.lar_lexer.specs.Lexed.{Outcome, with_front, goes_on, lexed_from, lexed, diagnostic}
use Rattle.lar_lexer.specs.Place.{step, walk, beginning}
use Rattle.lar_lexer.specs.Piece.{IsName, IsGap, IsToken, IsLongest}
use Rattle.lar_lexer.specs.Cut.{IsFault, IsCut}
use Rattle.lar_lexer.specs.Cut as cut
use Rattle.lar_lexer.specs.Thin.{value_of}
use Rattle.lar_lexer.specs.Lawful.{IsLawful, AreLawful, IsBefore, AreInOrder}
use Rattle.lar_lexer.proofs.Pieces.{FrontIs, front_is}

-- ---- turn by turn

-- What holds at the end and at a fault, and goes back over a front.
pub record Turns (file : List ℕ) (P : Span → List ℕ → Outcome → Type 0) : Type 0 where
  pub ended : (at : Span) → P at [] (Ok [])
  pub gap : (at : Span) (text : List ℕ) (n : ℕ) (o : Outcome) → IsLongest text n → IsGap (take n text) → P (walk at (take n text)) (drop n text) o → P at text o
  pub token : (at : Span) (text : List ℕ) (n : ℕ) (kind : Kind) (o : Outcome) → IsLongest text n → IsToken (take n text) kind → P (walk at (take n text)) (drop n text) o
      → P at text (with_front (record { kind = kind; span = at } ∷ []) o)
  pub fault : (at : Span) (text : List ℕ) (f : Fault) → FrontIs text (fronts.Fault f) → P at text (Err (diagnostic file at f))

abbrev Goes : List ℕ → (Span → List ℕ → Outcome → Type 0) → Span → List ℕ → Type 0
Goes file P at bs = (n : ℕ) → n ≤ length bs → P (walk at (take n bs)) (drop n bs) (lexed_from file n at bs)

-- the rest after a front of a byte and n more
after_one : (file : List ℕ) (P : Span → List ℕ → Outcome → Type 0) (at : Span) (b : ℕ) (bs : List ℕ) (n : ℕ) → 1 ≤ n → n ≤ length (b ∷ bs) → Goes file P (step at b) bs
    → P (walk at (take n (b ∷ bs))) (drop n (b ∷ bs)) (lexed_from file (n - 1) (step at b) bs)
after_one file P at b bs zero low high goes = absurd (omega arith)
after_one file P at b bs (suc n) low high goes =
    let k : n ≡ suc n - 1 = omega arith in
    subst (λ m. P (walk at (take (suc n) (b ∷ bs))) (drop (suc n) (b ∷ bs)) (lexed_from file m (step at b) bs)) k (goes n (omega arith))

at_front : (file : List ℕ) (P : Span → List ℕ → Outcome → Type 0) → Turns file P → (at : Span) (b : ℕ) (bs : List ℕ) (f : Front) → FrontIs (b ∷ bs) f → Goes file P (step at b) bs
    → P at (b ∷ bs) (goes_on file at f (λ len. lexed_from file (len - 1) (step at b) bs))
at_front file P t at b bs (fronts.Gap n) (long, is) goes = t.gap at (b ∷ bs) n (lexed_from file (n - 1) (step at b) bs) long is (after_one file P at b bs n long.some long.within goes)
at_front file P t at b bs (fronts.Token kind n) (long, is) goes = t.token at (b ∷ bs) n kind (lexed_from file (n - 1) (step at b) bs) long is (after_one file P at b bs n long.some long.within goes)
at_front file P t at b bs (fronts.Fault f) is goes = t.fault at (b ∷ bs) f is

goes_from : (file : List ℕ) (P : Span → List ℕ → Outcome → Type 0) → Turns file P → (bs : List ℕ) (at : Span) → Goes file P at bs
goes_from file P t [] at zero h = t.ended at
goes_from file P t [] at (suc n) h = absurd (omega arith)
goes_from file P t (b ∷ bs) at zero h = at_front file P t at b bs (front (b ∷ bs)) (front_is b bs) (goes_from file P t bs (step at b))
goes_from file P t (b ∷ bs) at (suc n) h = goes_from file P t bs (step at b) n (omega arith)

pub by_turns : (file : List ℕ) (P : Span → List ℕ → Outcome → Type 0) → Turns file P → (at : Span) (text : List ℕ) → P at text (lexed_from file 0 at text)
by_turns file P t at text = goes_from file P t text at 0 (omega arith)

-- ---- the cut

fault_is : (file : List ℕ) (at : Span) (text : List ℕ) (f : Fault) → FrontIs text (fronts.Fault f) → IsFault file at text (diagnostic file at f)
fault_is file at text (faults.Unexpected b) (first, none) = cut.unexpected b first.0 first.1 none refl
fault_is file at text faults.NameTooLong (n, long, is, no_keyword, many) = cut.long_name n long is no_keyword many refl
fault_is file at text faults.NumberTooLarge (n, long, is, large) = cut.large_number n long is large refl

pub is_cut : (file : List ℕ) (number : ℕ) (bytes : List ℕ) → IsCut file (beginning number) bytes (lexed file number bytes)
is_cut file number bytes = by_turns file (IsCut file) (record {
  ended = λ at. cut.ended at;
  gap = λ at text n o long is more. cut.gap at text n o long is more;
  token = λ at text n kind o long is more. cut.token at text n kind o long is more;
  fault = λ at text f is. cut.fault at text (diagnostic file at f) (fault_is file at text f is);
}) (beginning number) bytes

-- ---- lawful tokens

lawful : (bytes : List ℕ) (kind : Kind) → IsToken bytes kind → IsLawful kind
lawful bytes (kinds.Name name) (same, is) = subst IsName same is
lawful bytes (kinds.Number n) is = (value_of bytes, is.value, is.fits)
lawful bytes (kinds.Word k) is = tt
lawful bytes (kinds.Sign s) is = tt

-- the place after a byte, which is an LF or not
abbrev after : Span → Bool → Span
after at t = cond t (record { file = at.file; line = at.line + 1; col = 1 }) (record { file = at.file; line = at.line; col = at.col + 1 })

file_step : (at : Span) (t : Bool) → (after at t).file ≡ at.file
file_step at true = refl
file_step at false = refl

file_kept : (at : Span) (bytes : List ℕ) → (walk at bytes).file ≡ at.file
file_kept at [] = refl
file_kept at (b ∷ bs) = file_kept (step at b) bs ∙ file_step at (b == 10)

abbrev Lawful : Span → List ℕ → Outcome → Type 0
Lawful at text o = IfOk o (λ tokens. AreLawful at.file tokens)

lawful_more : (at next : Span) (kind : Kind) (o : Outcome) → IsLawful kind → next.file ≡ at.file → IfOk o (λ tokens. AreLawful next.file tokens) → IfOk (with_front (record { kind = kind; span = at } ∷ []) o) (λ tokens. AreLawful at.file tokens)
lawful_more at next kind (Err d) is same more = tt
lawful_more at next kind (Ok tokens) is same more =
    All-cons (λ t. IsLawful t.kind × (t.span.file ≡ at.file)) (record { kind = kind; span = at }) tokens (is, refl) (subst (λ n. AreLawful n tokens) same more)

pub are_lawful : (file : List ℕ) (number : ℕ) (bytes : List ℕ) → IfOk (lexed file number bytes) (λ tokens. AreLawful number tokens)
are_lawful file number bytes = by_turns file Lawful (record {
  ended = λ at. All-nil (λ t. IsLawful t.kind × (t.span.file ≡ at.file));
  gap = λ at text n o long is more. subst (λ f. IfOk o (λ tokens. AreLawful f tokens)) (file_kept at (take n text)) more;
  token = λ at text n kind o long is more. lawful_more at (walk at (take n text)) kind o (lawful (take n text) kind is) (file_kept at (take n text)) more;
  fault = λ at text f is. tt;
}) (beginning number) bytes

-- ---- no more tokens than bytes

few_more : (n : ℕ) (text : List ℕ) (t : Token) (o : Outcome) → IsLongest text n → IfOk o (λ tokens. length tokens ≤ length (drop n text)) → IfOk (with_front (t ∷ []) o) (λ tokens. length tokens ≤ length text)
few_more n text t (Err d) long more = tt
few_more n text t (Ok tokens) long more =
    let len : length (drop n text) ≡ length text - n = length-drop n text in
    let some : 1 ≤ n = long.some in
    let within : n ≤ length text = long.within in
    omega arith

few_same : (n : ℕ) (text : List ℕ) (o : Outcome) → IsLongest text n → IfOk o (λ tokens. length tokens ≤ length (drop n text)) → IfOk o (λ tokens. length tokens ≤ length text)
few_same n text (Err d) long more = tt
few_same n text (Ok tokens) long more = let len : length (drop n text) ≡ length text - n = length-drop n text in omega arith

pub are_few : (file : List ℕ) (number : ℕ) (bytes : List ℕ) → IfOk (lexed file number bytes) (λ tokens. length tokens ≤ length bytes)
are_few file number bytes = by_turns file (λ at text o. IfOk o (λ tokens. length tokens ≤ length text)) (record {
  ended = λ at. omega arith;
  gap = λ at text n o long is more. few_same n text o long more;
  token = λ at text n kind o long is more. few_more n text (record { kind = kind; span = at }) o long more;
  fault = λ at text f is. tt;
}) (beginning number) bytes

-- ---- places increase

abbrev IsUpTo : Span → Span → Type 0
IsUpTo p q = (p.line < q.line) ⊎ ((p.line ≡ q.line) × (p.col ≤ q.col))

up_to_same : (p : Span) → IsUpTo p p
up_to_same p = inr (refl, omega arith)

before_up_to : (p q : Span) → IsBefore p q → IsUpTo p q
before_up_to p q (inl h) = inl h
before_up_to p q (inr (e, h)) = inr (e, omega arith)

then_up_to : (p q r : Span) → IsBefore p q → IsUpTo q r → IsBefore p r
then_up_to p q r (inl h) (inl k) = inl (omega arith)
then_up_to p q r (inl h) (inr (f, k)) = inl (omega arith)
then_up_to p q r (inr (e, h)) (inl k) = inl (omega arith)
then_up_to p q r (inr (e, h)) (inr (f, k)) = inr (e ∙ f, omega arith)

step_by : (at : Span) (t : Bool) → IsBefore at (after at t)
step_by at true = inl (omega arith)
step_by at false = inr (refl, omega arith)

up_to_walk : (at : Span) (bytes : List ℕ) → IsUpTo at (walk at bytes)
up_to_walk at [] = up_to_same at
up_to_walk at (b ∷ bs) = before_up_to at (walk (step at b) bs) (then_up_to at (step at b) (walk (step at b) bs) (step_by at (b == 10)) (up_to_walk (step at b) bs))

before_walk : (at : Span) (bytes : List ℕ) → 0 < length bytes → IsBefore at (walk at bytes)
before_walk at [] h = absurd (omega arith)
before_walk at (b ∷ bs) h = then_up_to at (step at b) (walk (step at b) bs) (step_by at (b == 10)) (up_to_walk (step at b) bs)

-- tokens in order, from a place on
abbrev From : Span → List Token → Type 0
From at tokens = All (λ t. IsUpTo at t.span) tokens × AreInOrder tokens

from_more : (at next : Span) (kind : Kind) (o : Outcome) → IsBefore at next → IfOk o (From next) → IfOk (with_front (record { kind = kind; span = at } ∷ []) o) (From at)
from_more at next kind (Err d) before more = tt
from_more at next kind (Ok tokens) before (later, ordered) =
    let t : Token = record { kind = kind; span = at } in (
      All-cons (λ u. IsUpTo at u.span) t tokens (up_to_same at) (λ k d h. before_up_to at (get_or tokens k d).span (then_up_to at next (get_or tokens k d).span before (later k d h))),
      AllPairs-cons (λ u v. IsBefore u.span v.span) t tokens (λ k d h. then_up_to at next (get_or tokens k d).span before (later k d h)) ordered,
    )

from_same : (at next : Span) (o : Outcome) → IsBefore at next → IfOk o (From next) → IfOk o (From at)
from_same at next (Err d) before more = tt
from_same at next (Ok tokens) before (later, ordered) = (λ k d h. before_up_to at (get_or tokens k d).span (then_up_to at next (get_or tokens k d).span before (later k d h)), ordered)

some_taken : (n : ℕ) (text : List ℕ) → IsLongest text n → 0 < length (take n text)
some_taken n text long = subst (λ k. 0 < k) (sym (length-take-le n text long.within)) (omega (arith, long.some))

are_from : (file : List ℕ) (number : ℕ) (bytes : List ℕ) → IfOk (lexed file number bytes) (From (beginning number))
are_from file number bytes = by_turns file (λ at text o. IfOk o (From at)) (record {
  ended = λ at. (All-nil (λ t. IsUpTo at t.span), λ i j d h k. absurd (omega arith));
  gap = λ at text n o long is more. from_same at (walk at (take n text)) o (before_walk at (take n text) (some_taken n text long)) more;
  token = λ at text n kind o long is more. from_more at (walk at (take n text)) kind o (before_walk at (take n text) (some_taken n text long)) more;
  fault = λ at text f is. tt;
}) (beginning number) bytes

only_order : (at : Span) (o : Outcome) → IfOk o (From at) → IfOk o AreInOrder
only_order at (Err d) is = tt
only_order at (Ok tokens) is = is.1

pub are_in_order : (file : List ℕ) (number : ℕ) (bytes : List ℕ) → IfOk (lexed file number bytes) AreInOrder
are_in_order file number bytes = only_order (beginning number) (lexed file number bytes) (are_from file number bytes)
