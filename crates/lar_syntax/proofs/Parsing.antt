-- From the machine's end to the tree of a program, or to the place of its first fault.
use Rattle.std.proofs.Common.{◌≡◌, ℕ, List, [], ◌∷◌, ◌++◌, length, drop, Some, None, sym, ap, ◌∙◌, append-nil, length-append}
use Rattle.std.proofs.Math.Seq.{drop-append_seam}
use Rattle.lar_tree.specs.declared.item.Item.{Item}
use Rattle.lar_tree.specs.declared.token.Token.{Token}
use Rattle.lar_source.specs.Diagnostic.{Diagnostic}
use Rattle.lar_tree.specs.Items.{GroupedItems}
use Rattle.lar_tree.specs.ItemView.{items_view}
use Rattle.lar_tree.specs.Programs.{Spells, IsFirstFault}
use Rattle.lar_grammar.specs.Looks.{look}
use Rattle.lar_grammar.specs.Symbols.{program}
use Rattle.lar_grammar.specs.Machine.{Room, fault}
use Rattle.lar_grammar.proofs.Faults.{suffix}
use Rattle.lar_grammar.proofs.Exact.{first_fault, spelled}
use Rattle.lar_syntax.specs.Parsed.{place, syntax_error}
use Rattle.lar_syntax.specs.ReadsItems.{items_tokens}

-- the tokens are those of the items that were read
pub read_whole : (ts rest : List Token) (room : Room) (is : List Item) → ts ≡ items_tokens is ++ rest → fault ts None (program ∷ []) ≡ fault rest room [] → look rest ≡ None → GroupedItems (items_view is) → Spells (items_view is) ts
read_whole ts [] room is takes passes ended grouped = spelled ts (items_view is) grouped (sym (takes ∙ append-nil (items_tokens is))) passes
read_whole ts (t ∷ rest) room is takes passes ended grouped = cc

-- the fault stands where the machine stops
pub stopped : (name bytes : List ℕ) (ts rest : List Token) (d : Diagnostic) → fault ts None (program ∷ []) ≡ Some rest → d ≡ syntax_error name (place bytes rest) → (n : ℕ) × IsFirstFault ts n × (d ≡ syntax_error name (place bytes (drop n ts)))
stopped name bytes ts rest d stops e =
    let front = suffix ts None (program ∷ []) rest stops in (
      length front.0,
      first_fault ts rest (length front.0) stops (sym (ap length front.1 ∙ length-append front.0 rest)),
      e ∙ ap (λ (x : List Token). syntax_error name (place bytes x)) (sym (ap (drop (length front.0)) front.1 ∙ drop-append_seam front.0 rest)),
    )
