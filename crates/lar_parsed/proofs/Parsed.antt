-- The names in a tree are those of its tokens, and so are names of the language.
use Rattle.std.proofs.Common.{◌≡◌, ℕ, suc, ◌≤◌, refl, sym, subst as transport, arith, le-leb, Bool, true, ◌&&◌, ◌||◌, nat_le, nat_eq, List, [], ◌∷◌, length, ◌<◌, get_or}
use Rattle.std.specs.List.{list_all}
use Rattle.lar_typed.specs.Paths.{is_letter, is_letter_or_digit, all_letters_or_digits, is_name}
use Rattle.lar_typed.proofs.SameTypes.{and_true, both_true}
use Rattle.lar_tree.specs.declared.token.Kind.{Kind}
use Rattle.lar_tree.specs.declared.token.Kind.TheVariants as kinds
use Rattle.lar_tree.specs.declared.token.Token.{Token}
use Rattle.lar_tree.specs.Lawful.{Every}
use Rattle.lar_tree.specs.Stmts.{flat_block}
use Rattle.lar_tree.specs.Items.{PlainItem, module_item, struct_item, const_item, fn_item, PlainItems, no_items, items, flat_attributes, flat_head, flat_item, flat_items}
use Rattle.lar_tree.specs.Programs.{Spells}
use Rattle.lar_tree.proofs.LawfulTrees.{lawful}
use Rattle.lar_tree.proofs.MarkedTokens.{spelled}
use Rattle.lar_lexer.specs.Front.{is_in_word}
use Rattle.lar_lexer.specs.Piece.{IsName}
use Rattle.lar_lexer.specs.Lawful.{IsLawful, AreLawful, IsBefore, AreInOrder}
use Rattle.lar_rules.specs.Declared.{Source}
use Rattle.lar_sound.specs.Sources.{NamedItem, NamedItems, IsSource}
use Rattle.fault_order.specs.Places.{IsEarlier, AreOrdered}
use Rattle.lar_sound.proofs.EachOf.{every_parts}

-- NAMES

turned : (a b c d : Bool) → (((a || b) || c) || d) ≡ true → (((b || c) || d) || a) ≡ true
turned a b c d h = grind (arith)

in_word : (c : ℕ) → is_in_word c ≡ true → is_letter_or_digit c ≡ true
in_word c h = turned (nat_le 48 c && nat_le c 57) (nat_le 65 c && nat_le c 90) (nat_le 97 c && nat_le c 122)
    (nat_eq c 95) h

all_in_word : (cs : List ℕ) → list_all is_in_word cs ≡ true → all_letters_or_digits cs ≡ true
all_in_word [] h = refl
all_in_word (c ∷ cs) h =
    let p = and_true (is_in_word c) (list_all is_in_word cs) h in
    both_true (is_letter_or_digit c) (all_letters_or_digits cs) (in_word c p.0) (all_in_word cs p.1)

pub named : (bytes : List ℕ) → IsName bytes → is_name bytes ≡ true
named [] h = absurd h.word
named (c ∷ cs) h =
    let short : suc (length cs) ≤ 64 = h.short in
    both_true (is_letter c) (all_letters_or_digits cs && nat_le (length cs) 63) (h.word).0
    (both_true (all_letters_or_digits cs) (nat_le (length cs) 63) (all_in_word cs (h.word).1)
    (le-leb (length cs) 63 (omega (arith, short))))

-- NAMES IN TREES

-- where the token is a name, it is a name of the language
abbrev KindNamed : Kind → Type 0
KindNamed (kinds.Name n) = is_name n ≡ true
KindNamed (kinds.Number n) = Unit {0}
KindNamed (kinds.Word w) = Unit {0}
KindNamed (kinds.Sign s) = Unit {0}

abbrev TokenNamed : Token → Type 0
TokenNamed t = KindNamed t.kind

kind_named : (k : Kind) → IsLawful k → KindNamed k
kind_named (kinds.Name n) h = named n h
kind_named (kinds.Number n) h = tt
kind_named (kinds.Word w) h = tt
kind_named (kinds.Sign s) h = tt

tokens_named : (number : ℕ) (ts : List Token) → AreLawful number ts → Every TokenNamed ts
tokens_named number [] h = tt
tokens_named number (t ∷ ts) h =
    (kind_named t.kind (h 0 t (omega arith)).0, tokens_named number ts (λ k d l. h (suc k) d (omega (arith, l))))

mutual
  item_named : (i : PlainItem) → Every TokenNamed (flat_item i) → NamedItem i
  item_named (module_item at n from is to) h =
      (h.1.0, items_named is (every_parts TokenNamed (flat_items is) _ h.1.1.1).0)
  item_named (struct_item s) h = h.1.0
  item_named (const_item c) h = h.1.0
  item_named (fn_item f) h =
      (every_parts TokenNamed (flat_attributes f.attributes) _
      (every_parts TokenNamed (flat_head f) (flat_block f.body) h).0).1.1.0

  items_named : (is : PlainItems) → Every TokenNamed (flat_items is) → NamedItems is
  items_named no_items h = tt
  items_named (items i is) h = let p = every_parts TokenNamed (flat_item i) (flat_items is) h in
      (item_named i p.0, items_named is p.1)

pub source_parsed : (s : Source) (number : ℕ) (ts : List Token) → is_name s.module_name ≡ true → Spells s.items ts
    → AreLawful number ts → length ts ≤ 16777216 → IsSource s
source_parsed s number ts m spells l few =
    let e : flat_items s.items ≡ ts = spelled s.items ts spells in
    record {
      named_module = m;
      named_items =
          items_named s.items (transport (λ (us : List Token). Every TokenNamed us) (sym e) (tokens_named number ts l));
      limited = (lawful s.items ts spells).limited;
      few_tokens = transport (λ (us : List Token). length us ≤ 16777216) (sym e) few;
    }

-- ORDER

after_first : (t : Token) (ts : List Token)
    → ((k : ℕ) (d : Token) → k < length ts → IsBefore t.span (get_or ts k d).span)
    → Every (λ (u : Token). IsEarlier t.span u.span) ts
after_first t [] h = tt
after_first t (u ∷ us) h = (h 0 u (omega arith), after_first t us (λ k d l. h (suc k) d (omega (arith, l))))

tokens_ordered : (ts : List Token) → AreInOrder ts → AreOrdered ts
tokens_ordered [] h = tt
tokens_ordered (t ∷ ts) h = (
  after_first t ts (λ k d l. h 0 (suc k) d (omega arith) (omega (arith, l))),
  tokens_ordered ts (λ i j d l k. h (suc i) (suc j) d (omega (arith, l)) (omega (arith, k))),
)

pub source_ordered : (s : Source) (ts : List Token) → Spells s.items ts → AreInOrder ts
    → AreOrdered (flat_items s.items)
source_ordered s ts spells h =
    transport (λ (us : List Token). AreOrdered us) (sym (spelled s.items ts spells)) (tokens_ordered ts h)
