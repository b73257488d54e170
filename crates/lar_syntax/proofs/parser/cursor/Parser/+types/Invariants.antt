use Rattle.std.proofs.Common.{◌≡◌, ◌∷◌, ◌++◌, ◌≤◌, ◌<◌, ◌+◌, ◌*◌, length}
use Rattle.lar_tree.specs.Commas.{flat_commas}
use Rattle.lar_grammar.specs.Symbols.{Stack, member, more, one_type, type_member, arg_member}
use Rattle.lar_grammar.specs.Machine.{fault}
use Rattle.lar_syntax.specs.Reads.{ty_tokens, arg_tokens}
use Rattle.lar_syntax.proofs.parser.cursor.Parser.+types.Given as goal

abbrev pub decreases-named_ty : goal.decreases-named_ty
decreases-named_ty l = 8 * length l.self.now.rest.now

abbrev pub decreases-ty : goal.decreases-ty
decreases-ty l = 8 * length l.self.now.rest.now + 1

abbrev pub decreases-arg : goal.decreases-arg
decreases-arg l = 8 * length l.self.now.rest.now + 2

abbrev pub decreases-args : goal.decreases-args
decreases-args l = 8 * length l.self.now.rest.now + 3

abbrev pub decreases-args_rest : goal.decreases-args_rest
decreases-args_rest l = 8 * length l.self.now.rest.now + 4

abbrev pub decreases-types : goal.decreases-types
decreases-types l = 8 * length l.self.now.rest.now + 2

abbrev pub decreases-tuple_rest : goal.decreases-tuple_rest
decreases-tuple_rest l = 8 * length l.self.now.rest.now + 3

abbrev pub invariant-types-commas : goal.invariant-types-commas
invariant-types-commas l = record {
  takes : l.fn.self.rest.now ≡ flat_commas ty_tokens l.list ++ l.self.rest.now;
  passes : (ss : Stack) → fault l.fn.self.rest.now l.fn.self.room (one_type ∷ more type_member 6 ∷ ss) ≡ fault l.self.rest.now l.self.room (more type_member l.left ∷ ss);
  shorter : length l.self.rest.now < length l.fn.self.rest.now;
}

abbrev pub decreases-types-commas : goal.decreases-types-commas
decreases-types-commas l = length l.self.rest.now

abbrev pub invariant-args-commas : goal.invariant-args-commas
invariant-args-commas l = record {
  takes : l.fn.self.rest.now ≡ flat_commas arg_tokens l.list ++ l.self.rest.now;
  passes : (ss : Stack) → fault l.fn.self.rest.now l.fn.self.room (member arg_member ∷ more arg_member 15 ∷ ss) ≡ fault l.self.rest.now l.self.room (more arg_member l.left ∷ ss);
  shorter : length l.self.rest.now ≤ length l.fn.self.rest.now;
}

abbrev pub decreases-args-commas : goal.decreases-args-commas
decreases-args-commas l = length l.self.rest.now
