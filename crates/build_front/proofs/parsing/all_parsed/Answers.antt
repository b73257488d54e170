use Rattle.std.proofs.Common.{◌+◌, ◌≡◌, Ok, subst, sym}
use Rattle.lar_tree.specs.ItemView.{tree_view}
use Rattle.build_front.specs.Front.{parsed}
use Rattle.build_front.specs.Parsed.{IsParsed}
use Rattle.build_front.proofs.AllParsed.{SoFar, one_more}
use Rattle.build_front.proofs.parsing.all_parsed.Goals as goal

pub loop-file-preserved : goal.loop-file-preserved
loop-file-preserved c =
    subst (λ ts. SoFar c.args.files.now (c.loop-file.number + 1) ts (c.loop-file.file-index + 1)) (sym (c.in_ok-push.ensures).items)
    (one_more c.args.files.now c.loop-file.number c.loop-file.file-index c.loop-file.trees.items c.file-item.result c.in_ok-parsed.field-0 c.loop-file-test.true c.loop-file.invariant
    (subst (λ f. parsed c.loop-file.number f ≡ Ok (tree_view c.in_ok-parsed.field-0)) c.file-item.is (c.in_ok-parsed.ensures).answer)
    (subst (λ f. IsParsed f c.in_ok-parsed.field-0) c.file-item.is (c.in_ok-parsed.ensures).kept))
