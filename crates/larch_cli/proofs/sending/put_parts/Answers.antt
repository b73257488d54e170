use Rattle.std.proofs.Common.{◌≡◌, ◌++◌, [], List, ℕ, drop, get_or, ap, subst}
use Rattle.std.specs.List.{concat}
use Rattle.std.proofs.lemmas.List.{drop_all}
use Rattle.std.proofs.lemmas.Result.{err_from_is_err_and}
use Rattle.listings.specs.Listed.{parts_of, text_of}
use Rattle.larch_cli.proofs.Sent.{SoFar, concat-drop, fails, goes_on, sent_all}
use Rattle.larch_cli.proofs.sending.put_parts.Goals as goal

pub returns-in_err-put_if_long : goal.returns-in_err-put_if_long
returns-in_err-put_if_long g c =
    let told = g.S.Sink.told in
    let parts = parts_of c.args.listed.now in
    let made : c.push_part.new.text.items ≡ c.loop-part.text.items ++ get_or parts c.loop-part.part [] = c.in_ok-push_part.ensures in
    let first = concat-drop parts c.loop-part.part (rw c.parts-part-end.ensures at c.loop-part-test.true) in
    let p = err_from_is_err_and c.from_residual-in_err-put_if_long.result c.from_residual-in_err-put_if_long.ensures.1 in
    rw p.1 (fails (told c.args.out.now) (told c.loop-part.out) (told c.put_if_long.new.out) c.loop-part.text.items _ _ _ _ c.push_part.new.text.items p.0 c.loop-part.invariant first made (rw p.2 c.in_err-put_if_long.ensures))

pub loop-part-preserved : goal.loop-part-preserved
loop-part-preserved g c =
    let told = g.S.Sink.told in
    let parts = parts_of c.args.listed.now in
    let made : c.push_part.new.text.items ≡ c.loop-part.text.items ++ get_or parts c.loop-part.part [] = c.in_ok-push_part.ensures in
    let first = concat-drop parts c.loop-part.part (rw c.parts-part-end.ensures at c.loop-part-test.true) in
    goes_on (told c.args.out.now) (told c.loop-part.out) (told c.put_if_long.new.out) c.loop-part.text.items _ _ _ _ c.push_part.new.text.items c.put_if_long.new.text.items c.loop-part.invariant first made c.in_ok-put_if_long.ensures

pub returns : goal.returns
returns g c =
    let told = g.S.Sink.told in
    let parts = parts_of c.args.listed.now in
    let none : concat (drop c.loop-part.part parts) ≡ [] = ap concat (drop_all c.loop-part.part parts (rw c.parts-part-end.ensures at c.loop-part-test.false)) in
    let so = subst (λ (rest : List ℕ). SoFar (told c.args.out.now) (told c.loop-part.out) c.loop-part.text.items rest (text_of c.args.listed.now)) none c.loop-part.invariant in
    sent_all (told c.args.out.now) (told c.loop-part.out) (told c.put_whole.new.out) c.loop-part.text.items _ c.put_whole.result so (rw c.as_slice.ensures.value at c.put_whole.ensures)
