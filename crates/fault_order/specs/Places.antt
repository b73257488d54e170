-- Where faults stand: at tokens of what they are found in. Which tokens are in order.
use Rattle.std.specs.Prelude.{◌≡◌, ℕ, ◌<◌, ◌⊎◌, Bool, true, false, List, [], ◌∷◌, ◌++◌}
use Rattle.lar_source.specs.declared.file.Span.{Span}
use Rattle.lar_source.specs.declared.code.Code.{Code}
use Rattle.lar_source.specs.declared.code.Code.TheVariants.{PastLimit}
use Rattle.lar_tree.specs.declared.token.Token.{Token}
use Rattle.lar_tree.specs.Lawful.{Every}
use Rattle.lar_tree.specs.Stmts.{flat_block}
use Rattle.lar_tree.specs.Items.{flat_struct, flat_head, flat_items}
use Rattle.lar_rules.specs.Fault.{Fault, fault}
use Rattle.lar_rules.specs.Declared.{What, a_module, a_struct, a_const, a_function, Source}

-- one of the tokens begins there
abbrev pub HasPlace : List Token → Span → Type 0
HasPlace [] at = ⊥
HasPlace (t ∷ ts) at = (t.span ≡ at) ⊎ HasPlace ts at

abbrev pub is_limit : Code → Bool
is_limit PastLimit = true
is_limit _ = false

-- the fault is of this file and stands at one of the tokens; it is not that of too many functions
pub record StandsIn (file : ℕ) (ts : List Token) (f : Fault) : Type 0 where
  pub at : Span
  pub code : Code
  pub args : List (List ℕ)
  pub is : f ≡ fault file at code args
  pub there : HasPlace ts at
  pub other : is_limit code ≡ false

-- one place stands before another of the same file
abbrev pub IsEarlier : Span → Span → Type 0
IsEarlier p q = (p.line < q.line) ⊎ ((p.line ≡ q.line) × (p.col < q.col))

-- each token begins before those after it
abbrev pub AreOrdered : List Token → Type 0
AreOrdered [] = Unit {0}
AreOrdered (t ∷ ts) = Every (λ (u : Token). IsEarlier t.span u.span) ts × AreOrdered ts

-- the tokens of a struct and of a function
abbrev pub item_tokens : What → List Token
item_tokens a_module = []
item_tokens (a_struct s) = flat_struct s
item_tokens (a_const c) = []
item_tokens (a_function f) = flat_head f ++ flat_block f.body

abbrev pub AreSourcesOrdered : List Source → Type 0
AreSourcesOrdered sources = Every (λ (s : Source). AreOrdered (flat_items s.items)) sources
