use Rattle.std.proofs.Common.{◌≡◌, ◌∷◌, ◌++◌, ◌≤◌, ◌+◌, ◌*◌, Some, length}
use Rattle.lar_tree.specs.declared.expr.Binary.{Binary}
use Rattle.lar_tree.specs.declared.keyword.Keyword.TheVariants as keyword
use Rattle.lar_tree.specs.declared.sign.Sign.TheVariants as sign
use Rattle.lar_tree.specs.Spelling.{word_token, flat_path}
use Rattle.lar_tree.specs.Exprs.{height, height_of, left_height}
use Rattle.lar_tree.specs.ExprView.{expr_view}
use Rattle.lar_grammar.specs.Machine.{fault}
use Rattle.lar_grammar.specs.Symbols.{Stack, expr_member, init_member, level, operand, tails, post, path_rest, new_rest, listed, more}
use Rattle.lar_syntax.specs.Reads.{expr_tokens}
use Rattle.lar_syntax.specs.ReadsExprs.{IsOf, parts_tokens, AreParts, inits_tokens, AreInits}
use Rattle.lar_syntax.proofs.parser.cursor.Parser.+expr.Given as goal

abbrev pub decreases-call : goal.decreases-call
decreases-call l = 16 * length l.self.now.rest.now

abbrev pub decreases-made : goal.decreases-made
decreases-made l = 16 * length l.self.now.rest.now

abbrev pub decreases-named : goal.decreases-named
decreases-named l = 16 * length l.self.now.rest.now + 1

abbrev pub decreases-new_struct : goal.decreases-new_struct
decreases-new_struct l = 16 * length l.self.now.rest.now + 1

abbrev pub decreases-prime : goal.decreases-prime
decreases-prime l = 16 * length l.self.now.rest.now + 2

abbrev pub decreases-operand : goal.decreases-operand
decreases-operand l = 16 * length l.self.now.rest.now + 3

abbrev pub decreases-climb : goal.decreases-climb
decreases-climb l = 16 * length l.self.now.rest.now + 4

abbrev pub decreases-init : goal.decreases-init
decreases-init l = 16 * length l.self.now.rest.now + 5

abbrev pub decreases-parts : goal.decreases-parts
decreases-parts l = 16 * length l.self.now.rest.now + 6

abbrev pub decreases-inits : goal.decreases-inits
decreases-inits l = 16 * length l.self.now.rest.now + 6

abbrev pub invariant-climb-operators : goal.invariant-climb-operators
invariant-climb-operators l = record {
  takes : l.fn.self.rest.now ≡ expr_tokens l.left ++ l.self.rest.now;
  passes : (ss : Stack) → fault l.fn.self.rest.now l.fn.self.room (level l.high ∷ ss) ≡ fault l.self.rest.now l.self.room (tails l.low l.high ∷ ss);
  grouped : IsOf l.high l.left;
  fits : (op : Binary) → l.low ≤ height_of op → height (expr_view l.left) ≤ left_height op;
  shorter : length l.self.rest.now ≤ length l.fn.self.rest.now;
}

abbrev pub decreases-climb-operators : goal.decreases-climb-operators
decreases-climb-operators l = length l.self.rest.now

abbrev pub invariant-parts-commas : goal.invariant-parts-commas
invariant-parts-commas l = record {
  takes : l.fn.self.rest.now ≡ parts_tokens (Some l.list) ++ l.self.rest.now;
  passes : (ss : Stack) → fault l.fn.self.rest.now l.fn.self.room (listed expr_member l.most sign.CloseParen ∷ ss) ≡ fault l.self.rest.now l.self.room (more expr_member l.left ∷ ss);
  grouped : AreParts (Some l.list);
  shorter : length l.self.rest.now ≤ length l.fn.self.rest.now;
}

abbrev pub decreases-parts-commas : goal.decreases-parts-commas
decreases-parts-commas l = length l.self.rest.now

abbrev pub invariant-inits-commas : goal.invariant-inits-commas
invariant-inits-commas l = record {
  takes : l.fn.self.rest.now ≡ inits_tokens (Some l.list) ++ l.self.rest.now;
  passes : (ss : Stack) → fault l.fn.self.rest.now l.fn.self.room (listed init_member l.most sign.CloseBrace ∷ ss) ≡ fault l.self.rest.now l.self.room (more init_member l.left ∷ ss);
  grouped : AreInits (Some l.list);
  shorter : length l.self.rest.now ≤ length l.fn.self.rest.now;
}

abbrev pub decreases-inits-commas : goal.decreases-inits-commas
decreases-inits-commas l = length l.self.rest.now

abbrev pub invariant-named-segments : goal.invariant-named-segments
invariant-named-segments l = record {
  takes : l.fn.self.rest.now ≡ flat_path l.path ++ l.self.rest.now;
  passes : (ss : Stack) → fault l.fn.self.rest.now l.fn.self.room (operand ∷ ss) ≡ fault l.self.rest.now l.self.room (path_rest ∷ post ∷ ss);
  shorter : length l.self.rest.now ≤ length l.fn.self.rest.now;
}

abbrev pub decreases-named-segments : goal.decreases-named-segments
decreases-named-segments l = length l.self.rest.now

abbrev pub invariant-new_struct-segments : goal.invariant-new_struct-segments
invariant-new_struct-segments l = record {
  takes : l.fn.self.rest.now ≡ word_token keyword.New l.at ∷ (flat_path l.path ++ l.self.rest.now);
  passes : (ss : Stack) → fault l.fn.self.rest.now l.fn.self.room (operand ∷ ss) ≡ fault l.self.rest.now l.self.room (new_rest ∷ post ∷ ss);
  shorter : length l.self.rest.now ≤ length l.fn.self.rest.now;
}

abbrev pub decreases-new_struct-segments : goal.decreases-new_struct-segments
decreases-new_struct-segments l = length l.self.rest.now
