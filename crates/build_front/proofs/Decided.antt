-- What the parser answers is the one tree of the tokens, or their one first fault.
use Rattle.std.proofs.Common.{◌≡◌, ℕ, ◌+◌, ◌≤◌, ◌<◌, inl, inr, List, ◌++◌, [], take, drop, Result, Ok, Err, sym, ap, ◌∙◌, subst, append_assoc, append-nil, arith}
use Rattle.std.proofs.Math.Nat.{eq-or-lt_of_le}
use Rattle.std.proofs.lemmas.Bool.{cases_order}
use Rattle.std.proofs.lemmas.List.{map-append, take-append-drop, take-take}
use Rattle.lar_bytes.specs.Answers.{Answers}
use Rattle.lar_bytes.specs.declared.memory.OrMemory.{OrMemory}
use Rattle.lar_bytes.specs.declared.memory.OrMemory.TheVariants.{Refused, Memory}
use Rattle.lar_source.specs.declared.file.File.{File}
use Rattle.lar_source.specs.Diagnostic.{Diagnostic}
use Rattle.lar_tree.specs.declared.item.Tree.{Tree}
use Rattle.lar_tree.specs.declared.token.Token.{Token}
use Rattle.lar_tree.specs.Items.{PlainItems}
use Rattle.lar_tree.specs.ItemView.{tree_view}
use Rattle.lar_tree.specs.Marks.{un, unmarked}
use Rattle.lar_tree.specs.Programs.{Spells, Begins, IsFirstFault}
use Rattle.lar_grammar.proofs.Exact.{decided}
use Rattle.lar_grammar.proofs.OneItem.{one_tree}
use Rattle.lar_syntax.specs.Parsed.{Parses, place, syntax_error}
use Rattle.build_front.specs.Front.{Decision, tree_or_fault, tree_of}

unmarked-append : (a b : List Token) → unmarked (a ++ b) ≡ unmarked a ++ unmarked b
unmarked-append a b = map-append un a b

-- what begins a program, its first tokens begin too
begins_shorter : (a b : List Token) → Begins (a ++ b) → Begins a
begins_shorter a b x = (x.0, unmarked b ++ x.1, x.2, x.3 ∙ ap (λ m. m ++ x.1) (unmarked-append a b) ∙ append_assoc (unmarked a) (unmarked b) x.1)

begins_at : (ts : List Token) (k m : ℕ) → k ≤ m → Begins (take m ts) → Begins (take k ts)
begins_at ts k m h x =
    let whole : take k ts ++ drop k (take m ts) ≡ take m ts = ap (λ a. a ++ drop k (take m ts)) (sym (take-take k m ts h)) ∙ take-append-drop k (take m ts) in
    begins_shorter (take k ts) (drop k (take m ts)) (subst Begins (sym whole) x)

begins_all : (p : PlainItems) (ts : List Token) → Spells p ts → Begins ts
begins_all p ts s = (p, [], s.0, s.1 ∙ sym (append-nil (unmarked ts)))

begins_spelled : (p : PlainItems) (ts : List Token) (k : ℕ) → Spells p ts → Begins (take k ts)
begins_spelled p ts k s = begins_shorter (take k ts) (drop k ts) (subst Begins (sym (take-append-drop k ts)) (begins_all p ts s))

not_both : (p : PlainItems) (ts : List Token) (n : ℕ) → Spells p ts → IsFirstFault ts n → ⊥
not_both p ts n s f = elim (eq-or-lt_of_le f.0) [
  | inl e ↦ f.3 e p s
  | inr l ↦ f.2 l (begins_spelled p ts (n + 1) s)
]

not_earlier : (ts : List Token) (n m : ℕ) → IsFirstFault ts n → IsFirstFault ts m → n < m → ⊥
not_earlier ts n m f g l = f.2 (omega (arith, l, g.0)) (begins_at ts (n + 1) m (omega (arith, l)) g.1)

one_fault : (ts : List Token) (n m : ℕ) → IsFirstFault ts n → IsFirstFault ts m → n ≡ m
one_fault ts n m f g = elim (cases_order n m) [
  | inl e ↦ e
  | inr o ↦ elim o [ inl l ↦ absurd (not_earlier ts n m f g l) | inr l ↦ absurd (not_earlier ts m n g f l) ]
]

-- whatever was decided
by_decision : (f : File) (ts : List Token) (d : Decision ts) (r : Result Tree (OrMemory Diagnostic)) → Parses f ts r → Answers tree_view r (tree_or_fault f ts d)
by_decision f ts (inl p) (Ok t) x = ap Ok (one_tree p.0 (tree_view t) ts p.1 x.0)
by_decision f ts (inr n) (Ok t) x = absurd (not_both (tree_view t) ts n.0 x.0 n.1)
by_decision f ts (inl p) (Err (Refused d)) x = absurd (not_both p.0 ts x.0 p.1 x.1)
by_decision f ts (inr n) (Err (Refused d)) x =
    ap Err (ap (λ k. syntax_error f.name (place f.bytes (drop k ts))) (one_fault ts n.0 x.0 n.1 x.1) ∙ sym x.2)
by_decision f ts (inl p) (Err Memory) x = tt
by_decision f ts (inr n) (Err Memory) x = tt

pub tree_of_is : (f : File) (ts : List Token) (r : Result Tree (OrMemory Diagnostic)) → Parses f ts r → Answers tree_view r (tree_of f ts)
unfolding tree_of
tree_of_is f ts r x = by_decision f ts (decided ts) r x
