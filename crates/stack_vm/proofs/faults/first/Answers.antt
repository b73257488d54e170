use Rattle.std.proofs.Common.{◌≡◌, ℕ, ◌*◌, ◌+◌, ◌<◌, length, get_or, drop, pos, arith, sym, ◌∙◌, ap, Bool, eqb}
use Rattle.std.specs.Prelude.{Option, Some, None, slice_index_or, false}
use Rattle.std.proofs.lemmas.Option.{slice_get-get_or}
use Rattle.object_format.specs.Reading.{or_later}
use Rattle.object_format.specs.declared.fault.What.{What}
use Rattle.stack_vm.specs.Faults.{word_at, fault_if, code_faults, is_crossed, height_at}
use Rattle.stack_vm.specs.declared.operation.Operation.TheVariants.{Push8}
use Rattle.stack_vm.specs.declared.operation.Placed.{Placed}
use Rattle.stack_vm.proofs.FirstFault.{is_empty-drop, word_of, code_faults-at}
use Rattle.stack_vm.proofs.faults.first.Goals as goal

pub returns-in-Some : goal.returns-in-Some
returns-in-Some c = λ pairs shown within noted.
    let fs = c.args.functions.now in
    let f = c.args.function.now in
    let all = c.args.listed.now in
    let index = c.loop-index.index in
    let nothing : Placed = record { offset = 0; operation = Push8 (pos 0) } in
    let p : Placed = get_or all index nothing in
    let lt : index < length all = c.loop-index-test.true in
    let there : p.offset < length c.args.found.now = c.requires.places index p (slice_get-get_or all index nothing lt) in
    let lost = c.is_lost.ensures pairs shown within in
    let height = c.height_of.ensures pairs (255 * 16777216) shown (omega arith) in
    let crossed = noted p.offset (omega (arith, c.requires.long, there)) in
    let last = is_empty-drop all (index + 1) nothing (omega arith) in
    let noted_one = slice_index_or c.args.crossed.now p.offset false in
    let at_end = eqb (index + 1) (length all) in
    let word : c.word-what.result ≡ word_of fs pairs f all index p =
    c.word-what.ensures pairs lost
    ∙ ap (λ (n : ℕ). word_at fs pairs f p.operation n noted_one at_end) height.0
    ∙ ap (λ (b : Bool). word_at fs pairs f p.operation (height_at pairs p.offset) b at_end) crossed
    ∙ ap (λ (b : Bool). word_at fs pairs f p.operation (height_at pairs p.offset) (is_crossed fs pairs p.offset all) b) last in
    let here = code_faults-at fs pairs f all c.args.at index nothing lt in
    let later = code_faults fs pairs f all c.args.at (drop (index + 1) all) in
    let is : word_of fs pairs f all index p ≡ Some c.in-Some.what = sym word ∙ c.in-Some.is in
    let fault : or_later (fault_if (c.args.at + p.offset) (word_of fs pairs f all index p)) later ≡ Some (record { at = c.args.at + p.offset; what = c.in-Some.what }) = ap (λ (o : Option What). or_later (fault_if (c.args.at + p.offset) o) later) is in
    let place : c.args.at + c.from.result ≡ c.args.at + p.offset = omega (arith, c.from.ensures) in
    ap (λ (n : ℕ). Some (record { at = n; what = c.in-Some.what })) place ∙ sym fault ∙ sym here ∙ c.loop-index.invariant pairs shown within noted

pub loop-index-preserved : goal.loop-index-preserved
loop-index-preserved c = λ pairs shown within noted.
    let fs = c.args.functions.now in
    let f = c.args.function.now in
    let all = c.args.listed.now in
    let index = c.loop-index.index in
    let nothing : Placed = record { offset = 0; operation = Push8 (pos 0) } in
    let p : Placed = get_or all index nothing in
    let lt : index < length all = c.loop-index-test.true in
    let there : p.offset < length c.args.found.now = c.requires.places index p (slice_get-get_or all index nothing lt) in
    let lost = c.is_lost.ensures pairs shown within in
    let height = c.height_of.ensures pairs (255 * 16777216) shown (omega arith) in
    let crossed = noted p.offset (omega (arith, c.requires.long, there)) in
    let last = is_empty-drop all (index + 1) nothing (omega arith) in
    let noted_one = slice_index_or c.args.crossed.now p.offset false in
    let at_end = eqb (index + 1) (length all) in
    let word : c.word-what.result ≡ word_of fs pairs f all index p =
    c.word-what.ensures pairs lost
    ∙ ap (λ (n : ℕ). word_at fs pairs f p.operation n noted_one at_end) height.0
    ∙ ap (λ (b : Bool). word_at fs pairs f p.operation (height_at pairs p.offset) b at_end) crossed
    ∙ ap (λ (b : Bool). word_at fs pairs f p.operation (height_at pairs p.offset) (is_crossed fs pairs p.offset all) b) last in
    let here = code_faults-at fs pairs f all c.args.at index nothing lt in
    let later = code_faults fs pairs f all c.args.at (drop (index + 1) all) in
    let is : word_of fs pairs f all index p ≡ None = sym word ∙ c.in_default.is in
    let none : or_later (fault_if (c.args.at + p.offset) (word_of fs pairs f all index p)) later ≡ later = ap (λ (o : Option What). or_later (fault_if (c.args.at + p.offset) o) later) is in
    sym none ∙ sym here ∙ c.loop-index.invariant pairs shown within noted
